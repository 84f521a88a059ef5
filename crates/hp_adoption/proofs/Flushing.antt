-- The pending table characters, put into the tree.
use Rattle.std.proofs.Common.{◌≡◌, ℕ, false, true, List, [], ◌∷◌, Result, Ok, Err, ap, subst, sym, arith, ◌∙◌}
use Rattle.std.specs.Prelude.{◌==◌, length}
use Rattle.std.proofs.lemmas.Bool.{eqb-true}
use Rattle.std.specs.List.{list_all}
use Rattle.hp_control.specs.declared.change.Refusal.{Refusal}
use Rattle.hp_control.specs.declared.change.Refusal.TheVariants.{Crossed, NoMemory}
use Rattle.hp_control.specs.declared.edit.Child.TheVariants as child
use Rattle.hp_control.specs.Composed.{is_white}
use Rattle.hp_control.specs.Faithful.{Split}
use Rattle.hp_control.specs.Plan.{Plan, Heard, Runs}
use Rattle.hp_control.specs.Running.{runs_gives}
use Rattle.hp_views.specs.FieldPlans.{with_change, with_pending}
use Rattle.hp_views.specs.PlacePlans.{put_plan}
use Rattle.hp_views.specs.View.{Sight, Carries}
use Rattle.hp_views.proofs.Carrying.{carries_as}
use Rattle.hp_adoption.specs.FlushPlans.{flush_by, flush_on, flush_plan, flush_text, foster_text}

-- white characters go to the current node, all of them
pub white_flushed : (result : Result (Unit {0}) Refusal) (old new : Sight) (text : List ℕ) → (length text == 0) ≡ false → list_all is_white text ≡ true → Carries result old new (put_plan false (child.Text text)) → Carries result old new (flush_text text)
white_flushed result old new [] e w k = absurd (cc)
white_flushed result old new (c ∷ cs) e w k = carries_as result old new (put_plan false (child.Text (c ∷ cs))) (flush_text (c ∷ cs)) (ap (flush_by (c ∷ cs) old.split) (sym w)) k

-- others go where content goes that may not stand in a table
pub others_flushed : (result : Result (Unit {0}) Refusal) (old new : Sight) (text : List ℕ) → (length text == 0) ≡ false → list_all is_white text ≡ false → Carries result old new (foster_text text) → Carries result old new (flush_text text)
others_flushed result old new [] e w k = absurd (cc)
others_flushed result old new (c ∷ cs) e w k = carries_as result old new (foster_text (c ∷ cs)) (flush_text (c ∷ cs)) (ap (flush_by (c ∷ cs) old.split) (sym w)) k

pub none_flushed : (now : Heard) (v : Split) (text : List ℕ) → (length text == 0) ≡ true → Runs now now (flush_text text v) (Ok v)
none_flushed now v [] e = runs_gives now v
none_flushed now v (c ∷ cs) e = absurd (omega (arith, eqb-true (length (c ∷ cs)) 0 e))

-- the pending characters were taken, and then put
pending_taken : (v : Split) (text none : List ℕ) → v.older_text ≡ false → text ≡ v.change.pending → none ≡ [] → flush_text text (with_change (with_pending none v.change) v) ≡ flush_plan v
pending_taken v text none own taken empty =
    ap (λ (t : List ℕ). flush_text t (with_change (with_pending none v.change) v)) taken
    ∙ (ap (λ (p : List ℕ). flush_text v.change.pending (with_change (with_pending p v.change) v)) empty ∙ ap (flush_on v) (sym own))

pub flushed : (result : Result (Unit {0}) Refusal) (now : Heard) (v : Split) (new : Sight) (text none : List ℕ) → v.older_text ≡ false → text ≡ v.change.pending → none ≡ []
    → Carries result (record { heard = now; split = with_change (with_pending none v.change) v }) new (flush_text text) → Carries result (record { heard = now; split = v }) new flush_plan
flushed (Ok u) now v new text none own taken empty run =
    let P : Plan Split → Type 0 = λ p. Runs now new.heard p (Ok new.split) in subst P (pending_taken v text none own taken empty) run
flushed (Err (Crossed crossing)) now v new text none own taken empty run =
    let P : Plan Split → Type 0 = λ p. Runs now new.heard p (Err crossing) in subst P (pending_taken v text none own taken empty) run
flushed (Err NoMemory) now v new text none own taken empty run = tt
