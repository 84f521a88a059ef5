-- The laws of plans and acts on which the crates above stand.
use Rattle.std.specs.Prelude.{◌≡◌, Bool, true, false, List, Result}
use Rattle.hp_control.specs.declared.question.Crossing.{Crossing}
use Rattle.hp_control.specs.declared.question.Question.{Question}
use Rattle.hp_control.specs.declared.question.Answer.{Answer}
use Rattle.hp_control.specs.declared.question.Kept.{Kept}
use Rattle.hp_control.specs.States.{ControlState, IsValid, Fits}
use Rattle.hp_control.specs.Nothing.{nothing}
use Rattle.hp_control.specs.Apply.{IsOlder}
use Rattle.hp_control.specs.Holds.{Holds}
use Rattle.hp_control.specs.Outcome.{Outcome, Act, touches, and_then, choose}
use Rattle.hp_control.specs.Plan.{Plan, followed_by, asked_by, added_each, kept_pairs, Heard, Runs}
use Rattle.hp_control.specs.Guessing.{AreDistinct, AreSaid}
use Rattle.hp_control.specs.Agree.{AllTrue}
use Rattle.hp_control.specs.Faithful.{Split, state_over, StandsOn, Matches, IsSaid, Faithful, FaithfulTest}
use Rattle.hp_control.specs.Steps.{Step}

-- a plan after another means the one act after the other
abbrev pub FaithfulInOrder : Type 0
FaithfulInOrder = (p q : Split → Plan Split) (f g : Act) → Faithful p f → Faithful q g → Faithful (λ v. followed_by (p v) q) (and_then f g)

-- a plan that a test leads to means the act that the test leads to
abbrev pub FaithfulByTest : Type 0
FaithfulByTest = (t : Split → Plan Bool) (test : ControlState → Bool) (next : Bool → Split → Plan Split) (f g : Act) → FaithfulTest t test → Faithful (next true) f → Faithful (next false) g → Faithful (λ v. followed_by (t v) (λ b. next b v)) (choose test f g)

-- a step that ended so means its act in each older state of which what was said is true
abbrev pub MeansWhereTrue : Type 0
MeansWhereTrue = (step : Step) (old new : Heard) (v : Split) (end : Result Split Crossing) → Runs old new (step.plan v) end → (s : ControlState) → StandsOn s v → step.fits v ≡ true → IsSaid v.page (step.act (state_over v s)) → AllTrue s old.says (asked_by old.says (step.plan v)) → Matches s v end (step.act (state_over v s))

-- what is kept of questions holds exactly where what is said to them is true
abbrev pub KeptWhereTrue : Type 0
KeptWhereTrue = (s : ControlState) (says : Question → Answer) (qs : List Question) → (AllTrue s says qs → Holds (kept_pairs says qs) s) × (Holds (kept_pairs says qs) s → AllTrue s says qs)

-- what is kept of questions, each once, holds with what was kept before exactly where what is said to them is true
abbrev pub KeptOnceWhereTrue : Type 0
KeptOnceWhereTrue =
    (s : ControlState) (says : Question → Answer) (kept : List Kept) (qs : List Question) → AreSaid says kept
    → (Holds kept s → AllTrue s says qs → Holds (added_each kept (kept_pairs says qs)) s) × (Holds (added_each kept (kept_pairs says qs)) s → Holds kept s × AllTrue s says qs)

-- pairs stay distinct
abbrev pub StayDistinct : Type 0
StayDistinct = (kept more : List Kept) → AreDistinct kept → AreDistinct (added_each kept more)

-- without an older state no act touches one
abbrev pub NothingOlder : Type 0
NothingOlder = (crossing : Crossing) (o : Outcome) → touches nothing crossing o ≡ false

-- a valid state that fits may stand below a chunk
abbrev pub ValidIsOlder : Type 0
ValidIsOlder = (s : ControlState) → IsValid s → Fits s → IsOlder s
