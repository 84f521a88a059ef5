use Rattle.std.proofs.Common.{◌≡◌, suc, ◌+◌, ◌<◌, ℕ, Bool, true, false, List, ◌∷◌, length, drop, get_or, sym, ap, ◌∙◌, arith, add-one, drop-cons}
use Rattle.std.proofs.lemmas.List.{drop_all}
use Rattle.std.specs.Prelude.{Some, if◌then◌else◌}
use Rattle.std.specs.Str.{bytes_eq}
use Rattle.hp_predict.specs.OpenNames.{Names, below}
use Rattle.hp_predict.proofs.open_names.closed_by.Goals as goal

first_left : (names : Names) (depth : ℕ) (n : List ℕ) → depth < length names → n ≡ get_or names depth n → drop depth names ≡ n ∷ drop (depth + 1) names
first_left names depth n h is = rw add-one (drop-cons names depth n h ∙ ap (λ (x : List ℕ). x ∷ drop (suc depth) names) (sym is))

found : (name n : List ℕ) (names : Names) (depth : ℕ) → depth < length names → n ≡ get_or names depth n → bytes_eq n name ≡ true → below name (drop depth names) ≡ Some (drop (depth + 1) names)
found name n names depth h is same = ap (below name) (first_left names depth n h is) ∙ ap (λ (b : Bool). if b then Some (drop (depth + 1) names) else below name (drop (depth + 1) names)) same

other : (name n : List ℕ) (names : Names) (depth : ℕ) → depth < length names → n ≡ get_or names depth n → bytes_eq n name ≡ false → below name (drop depth names) ≡ below name (drop (depth + 1) names)
other name n names depth h is apart = ap (below name) (first_left names depth n h is) ∙ ap (λ (b : Bool). if b then Some (drop (depth + 1) names) else below name (drop (depth + 1) names)) apart

pub loop-depth-preserved : goal.loop-depth-preserved
loop-depth-preserved c = c.loop-depth.invariant ∙ other c.args.name.now c.at.result.now c.args.names.now c.loop-depth.depth (omega arith) c.at.ensures (sym c.same.ensures ∙ c.if-same.false)

pub returns-then-same-clause-below : goal.returns-then-same-clause-below
returns-then-same-clause-below c = c.loop-depth.invariant ∙ found c.args.name.now c.at.result.now c.args.names.now c.loop-depth.depth (omega arith) c.at.ensures (sym c.same.ensures ∙ c.if-same.true)

pub overflow_add-result : goal.overflow_add-result
overflow_add-result c = omega arith

pub returns-then-same-clause-within : goal.returns-then-same-clause-within
returns-then-same-clause-within c = omega arith

pub returns-clause-below : goal.returns-clause-below
returns-clause-below c = c.loop-depth.invariant ∙ ap (below c.args.name.now) (drop_all c.loop-depth.depth c.args.names.now (omega arith))
