-- Refusals that are passed on.
use Rattle.std.proofs.Common.{◌≡◌, sym, subst}
use Rattle.std.specs.Prelude.{Result, Ok, Err, IfErr, IsErrAnd}
use Rattle.hp_control.specs.declared.change.Refusal.{Refusal}
use Rattle.hp_control.specs.declared.change.Refusal.TheVariants as refusal
use Rattle.hp_control.specs.Faithful.{Split}
use Rattle.hp_control.specs.Plan.{Plan}
use Rattle.hp_views.specs.View.{Answers, Sight}
use Rattle.hp_fragment.specs.Reading.{IfCrossed}

-- what a refusal says, with more to it
pub refused-so : {X F G : Type 0} (result : Result X Refusal) (refused : Refusal) → IsErrAnd result (λ e. e ≡ refused) → IfCrossed refused F → (F → G) → IfErr result (λ e. IfCrossed e G)
refused-so {X} {F} {G} (Ok x) refused is h next = absurd is
refused-so {X} {F} {G} (Err e) refused is h next = subst (λ (r : Refusal). IfCrossed r G) (sym is) (by refused h)
  where
    by : (r : Refusal) → IfCrossed r F → IfCrossed r G
    by (refusal.Crossed crossing) k = next k
    by refusal.NoMemory k = tt

-- want of memory
pub memory-wanted : {X : Type 0} (F : Type 0) (result : Result X Refusal) → IsErrAnd result (λ e. e ≡ refusal.NoMemory) → IfErr result (λ e. IfCrossed e F)
memory-wanted F (Ok x) is = absurd is
memory-wanted F (Err e) is = subst (λ (r : Refusal). IfCrossed r F) (sym is) tt

-- a question alone never crosses
pub never-crosses : {X Y : Type 0} (F : Type 0) (result : Result X Refusal) (refused : Refusal) (old new : Sight) (plan : Split → Plan Y) → IsErrAnd result (λ e. e ≡ refused) → Answers (Err refused) old new plan → IfErr result (λ e. IfCrossed e F)
never-crosses F result refused old new plan is h = refused-so result refused is (by refused h) (λ never. absurd never)
  where
    by : (r : Refusal) → Answers (Err r) old new plan → IfCrossed r ⊥
    by (refusal.Crossed crossing) k = k
    by refusal.NoMemory k = tt
