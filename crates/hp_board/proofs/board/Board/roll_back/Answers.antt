-- The front chunk's fragment is given up.
use Rattle.std.proofs.Common.{arith, ◌≡◌, ◌<◌, ◌∙◌, ℕ, Option, None, Some, ap, subst, sym, refl, true}
use Rattle.std.specs.Prelude.{slice_get}
use Rattle.hp_control.specs.declared.question.Answer.{Answer}
use Rattle.hp_control.specs.declared.question.Kept.{Kept}
use Rattle.hp_control.specs.declared.question.Question.{Question}
use Rattle.hp_pieces.specs.Guesses.{Guessed}
use Rattle.hp_pieces.specs.declared.fragment.Fragment.{Fragment}
use Rattle.hp_pieces.specs.declared.fragment.Fragment.TheVariants as fragment
use Rattle.hp_merge.specs.Checked.{IsFirstFalse}
use Rattle.hp_board.specs.declared.journal.BoardStep.TheVariants as step
use Rattle.hp_board.specs.declared.kinds.QuestionKind.{QuestionKind}
use Rattle.hp_board.specs.declared.slot.Slot.{Slot}
use Rattle.hp_board.specs.declared.slot.Slot.TheVariants as slot
use Rattle.hp_board.specs.Calls.{IsAssumedAt, IsFalseOf}
use Rattle.hp_board.specs.Desk.{Desk, entry, owed_of, put, slot_at, statuses}
use Rattle.hp_board.specs.FairLaws.{IsFairOn, IsInFront}
use Rattle.hp_board.specs.Kinds.{kind_of}
use Rattle.hp_board.specs.Machine.{is_judged}
use Rattle.hp_board.proofs.Commits.{judged_front}
use Rattle.hp_board.proofs.board.Board.roll_back.Goals as goal

owes_posted : (desk : Desk) (n : ℕ) (posted : Fragment) → n ≡ desk.done → slot_at desk desk.done ≡ slot.Posted posted → owed_of slot.Again < owed_of (slot_at desk n)
owes_posted desk n posted same here = rw same (rw here (omega arith))

pub put-requires-clause-step : goal.put-requires-clause-step
put-requires-clause-step c =
    let desk = c.args.self.now in
    let judged = judged_front desk c.requires.posted.0 c.kept.ensures.kept c.requires.within c.requires.posted.3 in
    let at : is_judged (statuses desk) c.self.inside.done ≡ true = subst (λ (d : Desk). is_judged (statuses desk) d.done ≡ true) (sym c.self.view_is) judged in
    rw at refl

pub put-requires-clause-owes : goal.put-requires-clause-owes
put-requires-clause-owes c = owes_posted c.args.self.now c.self.inside.done c.requires.posted.0 (ap (λ (d : Desk). d.done) c.self.view_is) c.requires.posted.3

pub put-requires-clause-fair : goal.put-requires-clause-fair
put-requires-clause-fair c =
    let desk = c.args.self.now in
    let r = c.requires.posted in
    let w = c.args.tally.now.worker in
    let done_is = ap (λ (d : Desk). d.done) c.self.view_is in
    let front : IsInFront desk r.0 = record { kept = c.kept.ensures.kept; within = c.requires.within; here = r.3; told = r.6 } in
    subst (λ (n : ℕ). IsFairOn desk w (step.RolledBack n c.args.kind)) (sym done_is) (c.stays_fair.ensures.rollbacks desk r.0 w r.1 r.2 c.args.kind front r.4)

-- what stood on the front chunk is the guess that is posted there, which assumes a false pair at that place
guess_false : (desk : Desk) (n : ℕ) (posted : Fragment) (q : Question) (a : Answer) (place : ℕ) (was : Slot) (guess : Guessed) → n ≡ desk.done → slot_at desk desk.done ≡ slot.Posted posted → IsFalseOf desk.control posted q a
    → IsAssumedAt posted place q a → was ≡ slot_at desk n → was ≡ slot.Posted (fragment.Guessed guess)
    → (slot_at desk desk.done ≡ slot.Posted (fragment.Guessed guess)) × IsFirstFalse desk.control guess.assumptions q a × (slice_get guess.assumptions place ≡ Some (record { question = q; answer = a }))
guess_false desk n posted q a place was guess same here wrong there stood is =
    let both : slot.Posted posted ≡ slot.Posted (fragment.Guessed guess) = sym here ∙ (ap (slot_at desk) (sym same) ∙ (sym stood ∙ is)) in
    let one : posted ≡ fragment.Guessed guess = cc in
    (here ∙ both, subst (λ (f : Fragment). IsFalseOf desk.control f q a) one wrong, subst (λ (f : Fragment). IsAssumedAt f place q a) one there)

not_none : (found : Option Kept) (pair : Kept) → found ≡ None → found ≡ Some pair → ⊥
not_none found pair nothing some = let both : Path (Option Kept) None (Some pair) = sym nothing ∙ some in absurd cc

pub unreachable-requires-in-None : goal.unreachable-requires-in-None
unreachable-requires-in-None c =
    let desk = c.args.self.now in
    let r = c.requires.posted in
    let guess = c.in-Posted-Guessed.guessed in
    let done_is = ap (λ (d : Desk). d.done) c.self.view_is in
    let was : c.put.result ≡ slot.Posted (fragment.Guessed guess) = c.in-Posted-Guessed.is ∙ ap slot.Posted c.in-Posted-Guessed.field-0-is in
    let wrong = guess_false desk c.self.inside.done r.0 r.1 r.2 c.args.place c.put.result guess done_is r.3 r.4 r.7 c.put.ensures.before was in
    not_none c.told_and_spent-pair.result.0 (record { question = r.1; answer = r.2 }) c.in-None.is (c.told_and_spent-pair.ensures ∙ wrong.2)

pub returns-clause-judged : goal.returns-clause-judged
returns-clause-judged c =
    let desk = c.args.self.now in
    let r = c.requires.posted in
    let w = c.args.tally.now.worker in
    let guess = c.in-Posted-Guessed.guessed in
    let done_is = ap (λ (d : Desk). d.done) c.self.view_is in
    let was : c.put.result ≡ slot.Posted (fragment.Guessed guess) = c.in-Posted-Guessed.is ∙ ap slot.Posted c.in-Posted-Guessed.field-0-is in
    let wrong = guess_false desk c.self.inside.done r.0 r.1 r.2 c.args.place c.put.result guess done_is r.3 r.4 r.7 c.put.ensures.before was in
    let both : Some c.in-Some.field-0 ≡ Some (record { question = r.1; answer = r.2 }) = sym c.in-Some.is ∙ (c.told_and_spent-pair.ensures ∙ wrong.2) in
    let pair : c.in-Some.field-0 ≡ record { question = r.1; answer = r.2 } = cc in
    let kind_is : c.args.kind ≡ kind_of c.in-Some.field-0.question = r.5 ∙ ap (λ (k : Kept). kind_of k.question) (sym pair) in (
      fragment.Guessed guess,
      wrong.0,
      (
        subst (λ (k : Kept). IsFirstFalse desk.control guess.assumptions k.question k.answer) (sym pair) wrong.1,
        c.keep_spent.ensures.board
            ∙ (c.put.ensures.board
            ∙ (ap (λ (n : ℕ). put desk n slot.Again (entry w (step.RolledBack n c.args.kind))) done_is
            ∙ ap (λ (k : QuestionKind). put desk desk.done slot.Again (entry w (step.RolledBack desk.done k))) kind_is)),
      ),
    )
