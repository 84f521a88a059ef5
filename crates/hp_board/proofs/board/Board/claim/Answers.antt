-- The board after a claim.
use Rattle.std.proofs.Common.{arith, ◌≡◌, ◌<◌, ◌+◌, ◌∙◌, ap, subst, sym, get_or, length, set}
use Rattle.std.proofs.lemmas.List.Sums.{sum_by-set}
use Rattle.hp_board.specs.declared.slot.Slot.TheVariants as slot
use Rattle.hp_board.specs.Desk.{Desk, IsKept, owed_of, slot_at}
use Rattle.hp_board.specs.Calls.{claimed_slot, claimed_on}
use Rattle.hp_board.proofs.Claiming.{next_parts, keeps-claimed, claimed-owes}
use Rattle.hp_board.proofs.board.Board.claim.Goals as goal

pub invariant_of-self-2 : goal.invariant_of-self-2
invariant_of-self-2 c =
    let v = c.self.view_is in
    let desk = c.args.self.now in
    let kept = subst (λ (d : Desk). IsKept d) v c.self.invariant.0 in
    let chunk = c.in-Some.number in
    let w = c.args.tally.now.worker in
    let within = c.in-Some.ensures.within.0 in
    let inside : chunk < length c.self.inside.slots.items = subst (λ (d : Desk). chunk < length d.slots) (sym v) within in
    let parts = next_parts desk chunk w c.in-Some.again kept within c.in-Some.ensures.next in
    let none : owed_of (get_or c.self.inside.slots.items chunk slot.Done) ≡ 0 = subst (λ (d : Desk). owed_of (slot_at d chunk) ≡ 0) (sym v) parts.1 in
    let two : owed_of c.claimed.result ≡ 2 = ap owed_of c.claimed.ensures ∙ claimed-owes c.worker-worker.result c.in-Some.again in
    let all = sum_by-set owed_of c.self.inside.slots.items chunk c.claimed.result slot.Done inside in
    let after = keeps-claimed desk chunk w c.in-Some.again kept within c.in-Some.ensures.next in (
      rw (c.push_reserved.ensures.items, c.reserve.ensures.items, c.claimed.ensures, c.worker-worker.ensures) (subst (λ (d : Desk). IsKept (claimed_on d w chunk c.in-Some.again)) (sym v) after),
      omega (arith, all, none, two, c.self.invariant.1),
      omega (arith, all, none, two, c.self.invariant.1, c.self.invariant.2, c.push_reserved.ensures.len, c.push_reserved.ensures.capacity, c.reserve.ensures.len, c.in_ok-reserve.ensures.ok),
    )
