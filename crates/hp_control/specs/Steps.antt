-- An act with what it asks and makes, what it means in a full state, and the law that the two agree.
use Rattle.std.specs.Prelude.{◌≡◌, ℕ, Bool, true, false, ◌&&◌, ◌||◌, List, [], ◌∷◌, Result, refl}
use Rattle.std.specs.List.{list_any}
use Rattle.std.proofs.Common.{sym, subst, ap, ◌∙◌, arith}
use Rattle.std.proofs.lemmas.Bool.{le-ltb}
use Rattle.hp_control.specs.declared.question.Crossing.{Crossing}
use Rattle.hp_control.specs.declared.question.Crossing.TheVariants.{X1, X2, X3, X4, X5, X6, X7}
use Rattle.hp_control.specs.States.{ControlState}
use Rattle.hp_control.specs.Nothing.{nothing}
use Rattle.hp_control.specs.Truth.{answer_of}
use Rattle.hp_control.specs.Outcome.{Outcome, Act, Touch, same_crossing, is_older_by, is_touch, touches}
use Rattle.hp_control.specs.Plan.{Plan, end_by, asked_by, Heard, Runs}
use Rattle.hp_control.specs.Agree.{AllTrue, true_alike, ends_alike}
use Rattle.hp_control.specs.Faithful.{Split, state_over, StandsOn, Matches, IsSaid, FaithfulWhere}

-- fits: what the act reads is there
pub record Step : Type 0 where
  pub plan : Split → Plan Split
  pub act : Act
  pub fits : Split → Bool
  pub law : FaithfulWhere fits plan act

matched : (s : ControlState) (v : Split) (o : Outcome) (e end : Result Split Crossing) → Matches s v e o → e ≡ end → Matches s v end o
matched s v o e end m h = let P : Result Split Crossing → Type 0 = λ x. Matches s v x o in subst P h m

-- the law of an act that ended so: in each state of which what was said is true
pub means : (step : Step) (old new : Heard) (v : Split) (end : Result Split Crossing) → Runs old new (step.plan v) end → (s : ControlState) → StandsOn s v → step.fits v ≡ true → IsSaid v.page (step.act (state_over v s)) → AllTrue s old.says (asked_by old.says (step.plan v)) → Matches s v end (step.act (state_over v s))
means step old new v end r s st fit u a =
    let t = true_alike s old.says (step.plan v) a in
    matched s v (step.act (state_over v s)) (end_by (answer_of s) (step.plan v)) end (step.law s v st fit u) (sym (ends_alike s old.says (step.plan v) t) ∙ r.ends)

also_false : (a b : Bool) → b ≡ false → (a && b) ≡ false
also_false true b h = h
also_false false b h = refl

not_older : (crossing : Crossing) (what : ℕ) → is_older_by crossing nothing what ≡ false
not_older X1 what = le-ltb what 0 (omega arith)
not_older X2 what = le-ltb what 0 (omega arith)
not_older X3 what = le-ltb what 0 (omega arith)
not_older X4 what = le-ltb what 0 (omega arith)
not_older X5 what = le-ltb what 0 (omega arith)
not_older X6 what = refl
not_older X7 what = refl

none_touched : (crossing : Crossing) (touched : List Touch) → list_any (is_touch nothing crossing) touched ≡ false
none_touched crossing [] = refl
none_touched crossing (t ∷ ts) =
    ap (λ b. b || list_any (is_touch nothing crossing) ts) (also_false (same_crossing crossing t.crossing) (is_older_by t.crossing nothing t.what) (not_older t.crossing t.what))
    ∙ none_touched crossing ts

-- where there is no older state, none is touched
pub nothing_touched : (crossing : Crossing) (o : Outcome) → touches nothing crossing o ≡ false
nothing_touched crossing o = none_touched crossing o.touched
