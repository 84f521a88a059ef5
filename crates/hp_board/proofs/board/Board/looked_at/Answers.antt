-- The front chunk's fragment is looked at.
use Rattle.std.proofs.Common.{◌≡◌, ◌∙◌, ℕ, List, Some, subst, sym}
use Rattle.std.specs.Prelude.{slice_get}
use Rattle.hp_control.specs.States.{ControlState}
use Rattle.hp_control.specs.declared.question.Answer.{Answer}
use Rattle.hp_control.specs.declared.question.Kept.{Kept}
use Rattle.hp_control.specs.declared.question.Question.{Question}
use Rattle.hp_control.specs.Truth.{answer_of}
use Rattle.hp_pieces.specs.declared.fragment.Fragment.{Fragment}
use Rattle.hp_pieces.specs.declared.fragment.Fragment.TheVariants as fragment
use Rattle.hp_merge.specs.Checked.{IsLooked, MayJoin}
use Rattle.hp_merge.specs.declared.checking.Looked.TheVariants as looked
use Rattle.hp_board.specs.Calls.{IsAssumedAt, IsFalseOf}
use Rattle.hp_board.specs.Desk.{Desk}
use Rattle.hp_board.proofs.Commits.{never_other}
use Rattle.hp_board.proofs.board.Board.looked_at.Goals as goal

pub unreachable-requires : goal.unreachable-requires
unreachable-requires g c =
    let f = c.in-Some.fragment.now in
    never_other c.args.self.now f c.kept.ensures.kept c.in-Some.ensures.within c.in-Some.ensures.posted
    (subst (λ (d : Desk). IsLooked d.control f looked.OtherEntry) c.self.view_is c.in-OtherEntry.ensures.looked)

-- a pair is assumed at the place of the first false one
stands : (s : ControlState) (f : Fragment) (place : ℕ) → IsLooked s f (looked.Fails place) → (question : Question) × (answer : Answer) × IsAssumedAt f place question answer
stands s (fragment.Guessed g) place false_at = (false_at.pair.question, false_at.pair.answer, false_at.there)
stands s (fragment.Exact k) place false_at = absurd false_at

-- the pair at a place is the one that is assumed there
same_pair : (kept : List Kept) (place : ℕ) (pair other : Kept) → slice_get kept place ≡ Some pair → slice_get kept place ≡ Some other → pair ≡ other
same_pair kept place pair other there is = let both : Some pair ≡ Some other = sym there ∙ is in cc

-- so that pair is the first false one
false_pair : (s : ControlState) (f : Fragment) (place : ℕ) (question : Question) (answer : Answer) → IsLooked s f (looked.Fails place) → IsAssumedAt f place question answer → IsFalseOf s f question answer
false_pair s (fragment.Guessed g) place question answer false_at is =
    let pair : Kept = record { question = question; answer = answer } in
    let same = same_pair g.assumptions place false_at.pair pair false_at.there is in
    record { place = place; there = is; before = false_at.before; wrong = subst (λ (k : Kept). answer_of s k.question ≡ k.answer → ⊥) same false_at.wrong }
false_pair s (fragment.Exact k) place question answer false_at is = absurd false_at

pub question_at-requires : goal.question_at-requires
question_at-requires g c = record { assumed = stands c.self.inside.front.control c.in-Some.fragment.now c.in-Fails.place c.in-Fails.ensures.looked }

pub returns-in-Fails-clause-look : goal.returns-in-Fails-clause-look
returns-in-Fails-clause-look g c =
    let f = c.in-Some.fragment.now in
    let question = c.question_at.result.now in
    let answer = c.question_at.ensures.0 in
    let told = c.question_at.ensures.1 in
    let is = subst (λ (d : Desk). IsLooked d.control f (looked.Fails c.in-Fails.place)) c.self.view_is c.in-Fails.ensures.looked in
    (f, question, answer, c.in-Some.ensures.posted, false_pair c.args.self.now.control f c.in-Fails.place question answer is told, c.kind_of.ensures, c.told.ensures, told)

pub returns-in-Holds-clause-look : goal.returns-in-Holds-clause-look
returns-in-Holds-clause-look g c =
    let f = c.in-Some.fragment.now in
    (f, c.in-Some.ensures.posted, subst (λ (d : Desk). MayJoin d.control f) c.self.view_is c.in-Holds.ensures.looked)

pub returns-in-Fails-clause-cost : goal.returns-in-Fails-clause-cost
returns-in-Fails-clause-cost g c = rw c.in-Some.ensures.posted c.look.ensures.cost

pub returns-in-Holds-clause-cost : goal.returns-in-Holds-clause-cost
returns-in-Holds-clause-cost g c = rw c.in-Some.ensures.posted c.look.ensures.cost
