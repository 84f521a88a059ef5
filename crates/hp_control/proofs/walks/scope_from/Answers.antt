use Rattle.std.proofs.Common.{◌≡◌, ◌+◌, ◌-◌, ◌<◌, ℕ, suc, List, ◌∷◌, Option, None, Some, true, false, length, drop, get_or, refl, sym, ap, ◌∙◌, arith, drop-cons}
use Rattle.std.specs.Prelude.{if◌then◌else◌}
use Rattle.std.specs.Option.{option_map}
use Rattle.std.proofs.lemmas.Bool.{ne_eqb}
use Rattle.hp_control.specs.declared.element.OpenElement.{OpenElement}
use Rattle.hp_control.specs.KindTests.{within}
use Rattle.hp_control.specs.Walks.{scope_at, scope_ends}
use Rattle.hp_control.proofs.walks.scope_from.Goals as goal

-- the walk from an element on that stands at a depth
from_here : (id at : ℕ) (es : List OpenElement) (e : OpenElement) → at < length es → e ≡ get_or es at e → scope_at id (drop at es) ≡ scope_at id (e ∷ drop (at + 1) es)
from_here id at es e h g =
    let n : suc at ≡ at + 1 = omega arith in
    ap (scope_at id) (drop-cons es at e h)
    ∙ (ap (λ x. scope_at id (x ∷ drop (suc at) es)) (sym g)
    ∙ ap (λ (m : ℕ). scope_at id (e ∷ drop m es)) n)

ends_here : (id at : ℕ) (es : List OpenElement) (e : OpenElement) → at < length es → e ≡ get_or es at e → (e.id ≡ id → ⊥) → within scope_ends e ≡ true → scope_at id (drop at es) ≡ None
ends_here id at es e h g other ends =
    from_here id at es e h g
    ∙ (ap (λ b. if b then Some 0 else (if within scope_ends e then None else option_map suc (scope_at id (drop (at + 1) es)))) (ne_eqb e.id id other)
    ∙ ap (λ b. if b then None else option_map suc (scope_at id (drop (at + 1) es))) ends)

goes_on : (id at : ℕ) (es : List OpenElement) (e : OpenElement) → at < length es → e ≡ get_or es at e → (e.id ≡ id → ⊥) → within scope_ends e ≡ false → scope_at id (drop at es) ≡ option_map suc (scope_at id (drop (at + 1) es))
goes_on id at es e h g other ends =
    from_here id at es e h g
    ∙ (ap (λ b. if b then Some 0 else (if within scope_ends e then None else option_map suc (scope_at id (drop (at + 1) es)))) (ne_eqb e.id id other)
    ∙ ap (λ b. if b then None else option_map suc (scope_at id (drop (at + 1) es))) ends)

further : (n m : ℕ) (o : Option ℕ) → m ≡ suc n → option_map (λ k. m + k) o ≡ option_map (λ k. n + k) (option_map suc o)
further n m None e = refl
further n m (Some k) e = ap Some (omega arith)

pub returns-then-has-clause-scope : goal.returns-then-has-clause-scope
returns-then-has-clause-scope c =
    let at = c.loop-at.at in
    let ends = sym c.has.ensures ∙ c.if-has.true in
    ap (option_map (λ k. (at - c.args.depth) + k)) (sym (ends_here c.args.id at c.args.stack.now c.at-element.result.now (omega (arith, c.loop-at-test.true, c.len-at-end.ensures)) c.at-element.ensures c.if-element-id.false ends))
    ∙ c.loop-at.invariant

pub loop-at-preserved : goal.loop-at-preserved
loop-at-preserved c =
    let at = c.loop-at.at in
    let ends = sym c.has.ensures ∙ c.if-has.false in
    let n : at + 1 - c.args.depth ≡ suc (at - c.args.depth) = omega (arith, c.loop-at.auto.at) in
    further (at - c.args.depth) (at + 1 - c.args.depth) (scope_at c.args.id (drop (at + 1) c.args.stack.now)) n
    ∙ (ap (option_map (λ k. (at - c.args.depth) + k)) (sym (goes_on c.args.id at c.args.stack.now c.at-element.result.now (omega (arith, c.loop-at-test.true, c.len-at-end.ensures)) c.at-element.ensures c.if-element-id.false ends))
    ∙ c.loop-at.invariant)
