-- Over a known state each act is its act in that state, and none crosses.
use Rattle.std.specs.Prelude.{◌≡◌, true, false, List, [], ◌∷◌, Option, Some, None, Result, Ok, Err, refl}
use Rattle.std.proofs.Common.{sym, subst, ◌∙◌}
use Rattle.hp_control.specs.declared.question.Crossing.{Crossing}
use Rattle.hp_control.specs.declared.question.Question.{Question}
use Rattle.hp_control.specs.declared.question.Answer.{Answer}
use Rattle.hp_control.specs.States.{ControlState}
use Rattle.hp_control.specs.Nothing.{nothing}
use Rattle.hp_control.specs.Truth.{answer_of}
use Rattle.hp_control.specs.Outcome.{Outcome}
use Rattle.hp_control.specs.Plan.{Heard, Runs, asked_by}
use Rattle.hp_control.specs.Agree.{AllTrue}
use Rattle.hp_control.specs.Faithful.{Page, Split, state_over, StandsOn, IsDone, IsSaid, Matches}
use Rattle.hp_control.specs.Steps.{Step, means, nothing_touched}

-- what a state says of itself is true
true_of_itself : (s : ControlState) (qs : List Question) → AllTrue s (answer_of s) qs
true_of_itself s [] = tt
true_of_itself s (q ∷ qs) = (refl, true_of_itself s qs)

-- a view that stands on no older state has all that is said of it
abbrev pub IsWhole : Option Page → Type 0
IsWhole None = ⊥
IsWhole (Some page) = Unit {0}

all_said : (page : Option Page) (o : Outcome) → IsWhole page → IsSaid page o
all_said None o h = absurd h
all_said (Some page) o h = tt

-- it went as the act says, or it didn't happen
abbrev pub IsDoneWhole : Split → Result Split Crossing → Outcome → Type 0
IsDoneWhole v (Ok w) o = IsDone nothing v w o
IsDoneWhole v (Err crossing) o = ⊥

never : (v : Split) (end : Result Split Crossing) (o : Outcome) → Matches nothing v end o → IsDoneWhole v end o
never v (Ok w) o m = m
never v (Err crossing) o m = let z : true ≡ false = sym m ∙ nothing_touched crossing o in absurd (cc)

pub whole_means : (step : Step) (old new : Heard) (v : Split) (end : Result Split Crossing) → old.says ≡ answer_of nothing → Runs old new (step.plan v) end → StandsOn nothing v → IsWhole v.page → step.fits v ≡ true → IsDoneWhole v end (step.act (state_over v nothing))
whole_means step old new v end says r st whole fit =
    let P : (Question → Answer) → Type 0 = λ f. AllTrue nothing f (asked_by f (step.plan v)) in
    never v end (step.act (state_over v nothing))
    (means step old new v end r nothing st fit (all_said v.page (step.act (state_over v nothing)) whole) (subst P (sym says) (true_of_itself nothing (asked_by (answer_of nothing) (step.plan v)))))
