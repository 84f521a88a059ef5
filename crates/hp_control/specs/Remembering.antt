-- Questions that texts and tags ask again and again, and what a guess remembers of their answers.
use Rattle.std.specs.Prelude.{◌≡◌, true, false, List, Some}
use Rattle.hp_elements.specs.Names.{text_of}
use Rattle.hp_elements.specs.KnownNames as known
use Rattle.hp_elements.specs.declared.kinds.Kinds.TheVariants as kinds
use Rattle.hp_elements.specs.declared.sets.SetName.TheVariants as sets
use Rattle.hp_control.specs.declared.question.Question.{Question}
use Rattle.hp_control.specs.declared.question.Question.TheVariants as ask
use Rattle.hp_control.specs.declared.question.Answer.{Answer}
use Rattle.hp_control.specs.declared.question.Answer.TheVariants as answer
use Rattle.hp_control.specs.declared.question.EntryKind.TheVariants.{Absent}
use Rattle.hp_control.specs.declared.question.Kept.{Kept}
use Rattle.hp_control.specs.declared.recurring.Recurring.{Recurring}
use Rattle.hp_control.specs.declared.recurring.Recurring.TheVariants.{Html, Paragraph, Quiet, Listed}
use Rattle.hp_control.specs.declared.recurring.Remembered.{Remembered}
use Rattle.hp_control.specs.Plan.{is_asked}

-- the question in full
abbrev pub question_of : Recurring → Question
question_of (Html depth) = ask.Seen depth kinds.AnyHtml kinds.All
question_of (Paragraph depth) = ask.Seen depth (kinds.Html (text_of known.P)) (kinds.Set sets.ButtonScopeEnds)
question_of (Quiet depth cuts) = ask.Quiet depth cuts
question_of (Listed depth cuts name) = ask.Listed depth cuts (text_of name)

-- the answer at which nothing is to be done
abbrev pub usual_answer : Recurring → Answer
usual_answer (Html depth) = answer.Yes
usual_answer (Paragraph depth) = answer.No
usual_answer (Quiet depth cuts) = answer.Yes
usual_answer (Listed depth cuts name) = answer.Entry Absent false

-- the last one of its sort that is remembered
abbrev pub Remembers : Remembered → Recurring → Type 0
Remembers r (Html depth) = r.html ≡ Some depth
Remembers r (Paragraph depth) = r.paragraph ≡ Some depth
Remembers r (Quiet depth cuts) = r.quiet ≡ Some (depth, cuts)
Remembers r (Listed depth cuts name) = r.listed ≡ Some (depth, cuts, name)

-- the question was asked, and that is its answer
abbrev pub WasAsked : (Question → Answer) → List Kept → Question → Answer → Type 0
WasAsked says kept q a = (is_asked kept q ≡ true) × (says q ≡ a)

-- what is remembered was asked, and has its usual answer
abbrev pub WereAsked : (Question → Answer) → List Kept → Remembered → Type 0
WereAsked says kept r = (q : Recurring) → Remembers r q → WasAsked says kept (question_of q) (usual_answer q)
