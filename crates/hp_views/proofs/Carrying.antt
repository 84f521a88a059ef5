-- What was found out, and then a call on the view as it is; and one call after the other.
use Rattle.std.specs.Prelude.{◌≡◌, Result, Ok, Err}
use Rattle.std.specs.Result.{IsErrAnd}
use Rattle.std.proofs.Common.{subst, sym, ◌∙◌}
use Rattle.hp_control.specs.declared.change.Refusal.{Refusal}
use Rattle.hp_control.specs.declared.change.Refusal.TheVariants.{Crossed, NoMemory}
use Rattle.hp_control.specs.Faithful.{Split}
use Rattle.hp_control.specs.Plan.{Plan, followed_by, Runs}
use Rattle.hp_control.specs.Running.{runs_then, runs_crosses}
use Rattle.hp_views.specs.View.{Sight, Answers, Carries, Finds}

pub carries_then : {X : Type 0} (result : Result (Unit {0}) Refusal) (old mid new : Sight) (plan : Split → Plan X) (next : Split → X → Plan Split) (x : X)
    → Finds old mid plan x → Carries result mid new (λ v. next v x) → Carries result old new (λ v. followed_by (plan v) (next v))
carries_then (Ok u) old mid new plan next x f k =
    let P : Split → Type 0 = λ v. Runs mid.heard new.heard (next v x) (Ok new.split) in
    runs_then (next old.split) f.runs (subst P f.same k)
carries_then (Err (Crossed crossing)) old mid new plan next x f k =
    let P : Split → Type 0 = λ v. Runs mid.heard new.heard (next v x) (Err crossing) in
    runs_then (next old.split) f.runs (subst P f.same k)
carries_then (Err NoMemory) old mid new plan next x f k = tt

-- one question, and then a call on the view as it was changed meanwhile
pub carries_asked : {X : Type 0} (result : Result (Unit {0}) Refusal) (old mid new : Sight) (asked : Split → Plan X) (next : Split → X → Plan Split) (p : Split → Plan Split) (x : X)
    → Runs old.heard mid.heard (asked old.split) (Ok x) → p mid.split ≡ next old.split x → Carries result mid new p → Carries result old new (λ v. followed_by (asked v) (next v))
carries_asked (Ok u) old mid new asked next p x run e k =
    let P : Plan Split → Type 0 = λ q. Runs mid.heard new.heard q (Ok new.split) in
    runs_then (next old.split) run (subst P e k)
carries_asked (Err (Crossed crossing)) old mid new asked next p x run e k =
    let P : Plan Split → Type 0 = λ q. Runs mid.heard new.heard q (Err crossing) in
    runs_then (next old.split) run (subst P e k)
carries_asked (Err NoMemory) old mid new asked next p x run e k = tt

-- one thing found out after the other
pub answers_then : {X Y : Type 0} (result : Result Y Refusal) (old mid new : Sight) (plan : Split → Plan X) (next : Split → X → Plan Y) (x : X)
    → Finds old mid plan x → Answers result mid new (λ v. next v x) → Answers result old new (λ v. followed_by (plan v) (next v))
answers_then (Ok y) old mid new plan next x f k =
    let P : Split → Type 0 = λ v. Runs mid.heard new.heard (next v x) (Ok y) in
    record { runs = runs_then (next old.split) f.runs (subst P f.same k.runs); same = k.same ∙ f.same }
answers_then (Err (Crossed crossing)) old mid new plan next x f k = k
answers_then (Err NoMemory) old mid new plan next x f k = tt

-- one call, and then another
pub carries_next : (result : Result (Unit {0}) Refusal) (old mid new : Sight) (p q : Split → Plan Split)
    → Runs old.heard mid.heard (p old.split) (Ok mid.split) → Carries result mid new q → Carries result old new (λ v. followed_by (p v) q)
carries_next (Ok u) old mid new p q run k = runs_then q run k
carries_next (Err (Crossed crossing)) old mid new p q run k = runs_then q run k
carries_next (Err NoMemory) old mid new p q run k = tt

carries_refused : (refusal : Refusal) (old new : Sight) (p q : Split → Plan Split) → Carries (Err refusal) old new p → Carries (Err refusal) old new (λ v. followed_by (p v) q)
carries_refused (Crossed crossing) old new p q k = runs_crosses q k
carries_refused NoMemory old new p q k = tt

-- another plan that is the same on this view
pub carries_as : (result : Result (Unit {0}) Refusal) (old new : Sight) (p q : Split → Plan Split) → p old.split ≡ q old.split → Carries result old new p → Carries result old new q
carries_as (Ok u) old new p q e k = let P : Plan Split → Type 0 = λ plan. Runs old.heard new.heard plan (Ok new.split) in subst P e k
carries_as (Err (Crossed crossing)) old new p q e k = let P : Plan Split → Type 0 = λ plan. Runs old.heard new.heard plan (Err crossing) in subst P e k
carries_as (Err NoMemory) old new p q e k = tt

pub answers_as : {X : Type 0} (result : Result X Refusal) (old new : Sight) (p q : Split → Plan X) → p old.split ≡ q old.split → Answers result old new p → Answers result old new q
answers_as (Ok x) old new p q e f = let P : Plan _ → Type 0 = λ plan. Runs old.heard new.heard plan (Ok x) in record { runs = subst P e f.runs; same = f.same }
answers_as (Err (Crossed crossing)) old new p q e f = f
answers_as (Err NoMemory) old new p q e f = tt

-- the first was refused
pub carries_failed : (result : Result (Unit {0}) Refusal) (refusal : Refusal) (old new : Sight) (p q : Split → Plan Split)
    → IsErrAnd result (λ e. e ≡ refusal) → Carries (Err refusal) old new p → Carries result old new (λ v. followed_by (p v) q)
carries_failed (Ok u) refusal old new p q is k = absurd is
carries_failed (Err e) refusal old new p q is k =
    let P : Refusal → Type 0 = λ x. Carries (Err x) old new (λ v. followed_by (p v) q) in
    subst P (sym is) (carries_refused refusal old new p q k)
