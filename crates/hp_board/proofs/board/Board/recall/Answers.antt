-- One claim more is taken back.
use Rattle.std.proofs.Common.{arith, ◌≡◌, ◌<◌, ◌+◌, ◌-◌, ◌^◌, ◌∙◌, ℕ, Bool, add-one, ap, min, refl, subst, sym, length}
use Rattle.std.specs.Bool.{OnFalse, OnTrue}
use Rattle.std.specs.Prelude.{is_some}
use Rattle.std.proofs.lemmas.List.Sums.{count_by_more_no, count_by_more_yes}
use Rattle.hp_board.specs.declared.slot.Slot.{Slot}
use Rattle.hp_board.specs.declared.slot.Slot.TheVariants as slot
use Rattle.hp_board.specs.Calls.{is_claimed, recalled, released, released_slot}
use Rattle.hp_board.specs.Desk.{Desk, SamePage, slot_at}
use Rattle.hp_board.specs.Tallies.{IsRaised}
use Rattle.hp_board.specs.declared.tally.Tally.{Tally}
use Rattle.hp_board.proofs.Recalls.{recalled-later, recalled-more}
use Rattle.hp_board.proofs.board.Board.recall.Goals.{else-unclaim, then-unclaim}
use Rattle.hp_board.proofs.board.Board.recall.Goals as goal

same_again : (a b c : Desk) → SamePage a b → SamePage b c → SamePage a c
same_again a b c first then = record { text = then.text ∙ first.text; cuts = then.cuts ∙ first.cuts; workers = then.workers ∙ first.workers }

more_raised : (e k n m x y : ℕ) → x ≡ min (e + k) m → y ≡ min (x + 1) m → n ≡ k + 1 → y ≡ min (e + n) m
more_raised e k n m x y was now more = omega arith

pub loop-chunk-init : goal.loop-chunk-init
unfolding recalled
loop-chunk-init c = record {
  page = record { text = refl; cuts = refl; workers = refl };
  board = refl;
  count = refl;
  worker = refl;
  entries = omega arith;
  raised = omega (arith, c.entries-before.type_inv, c.entries-before.ensures);
}

pub loop-chunk-preserved : goal.loop-chunk-preserved
loop-chunk-preserved c =
    let i = c.loop-chunk.invariant in
    let desk = c.args.self.now in
    let w = c.args.tally.now.worker in
    let k = c.loop-chunk.chunk in
    let small : k < length desk.slots = omega (arith, c.loop-chunk-test.true, c.chunks-chunk-end.ensures.count) in
    let same : slot_at c.loop-chunk.self k ≡ slot_at desk k = ap (λ (d : Desk). slot_at d k) i.board ∙ recalled-later w desk k k (omega arith) in
    let taken : is_claimed (slot_at desk k) ≡ c.unclaim.result = ap (λ (s : Slot). is_some (released_slot s)) (sym same) ∙ sym c.unclaim.ensures.some in
    let board : c.unclaim.new.self ≡ recalled w desk (k + 1) =
    c.unclaim.ensures.board ∙ (ap (λ (v : ℕ). released v c.loop-chunk.self k) i.worker ∙ (ap (λ (d : Desk). released w d k) i.board ∙ recalled-more w desk k)) in
    elim c.if-unclaim.branch [
      | then-unclaim b ↦ record {
        page = same_again desk c.loop-chunk.self c.unclaim.new.self i.page c.unclaim.ensures.page;
        board = board;
        count = omega (arith, b.count-is, i.count, count_by_more_yes is_claimed desk.slots k slot.Done small (taken ∙ b.if-unclaim.true));
        worker = c.unclaim.ensures.later.worker ∙ i.worker;
        entries = omega (arith, c.unclaim.ensures.later.entries, i.entries);
        raised =
            let one = subst (λ (t : Bool). OnTrue t (IsRaised c.loop-chunk.tally c.unclaim.new.tally)) b.if-unclaim.true c.unclaim.ensures.raised in
            more_raised c.args.tally.now.entries c.loop-chunk.count c.if-unclaim.count (2 ^ 64 - 1) c.loop-chunk.tally.entries c.unclaim.new.tally.entries i.raised one.entries b.count-is;
      }
      | else-unclaim b ↦ record {
        page = same_again desk c.loop-chunk.self c.unclaim.new.self i.page c.unclaim.ensures.page;
        board = board;
        count = omega (arith, b.count-is, i.count, count_by_more_no is_claimed desk.slots k slot.Done small (taken ∙ b.if-unclaim.false));
        worker = c.unclaim.ensures.later.worker ∙ i.worker;
        entries = omega (arith, c.unclaim.ensures.later.entries, i.entries);
        raised =
            let none = subst (λ (t : Bool). OnFalse t (c.unclaim.new.tally ≡ c.loop-chunk.tally)) b.if-unclaim.false c.unclaim.ensures.unchanged in
            ap (λ (t : Tally). t.entries) none ∙ (i.raised ∙ ap (λ (n : ℕ). min (c.args.tally.now.entries + n) (2 ^ 64 - 1)) (sym b.count-is));
      }
    ]
