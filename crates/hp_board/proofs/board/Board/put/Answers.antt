-- The board after a step that commits nothing.
use Rattle.std.proofs.Common.{arith, ◌≡◌, ◌<◌, ◌+◌, ◌∙◌, ap, subst, sym, get_or, length}
use Rattle.std.proofs.lemmas.List.{get_or_default}
use Rattle.std.proofs.lemmas.List.Sums.{sum_by-set}
use Rattle.hp_board.specs.Desk.{Desk, IsKept, put, entry, owed_of, slot_at}
use Rattle.hp_board.specs.declared.slot.Slot.TheVariants as slot
use Rattle.hp_board.proofs.Puts.{keeps-put}
use Rattle.hp_board.proofs.board.Board.put.Goals as goal

pub invariant_of-self : goal.invariant_of-self
invariant_of-self c =
    let v = c.self.view_is in
    let r = c.requires in
    let e = entry c.args.tally.now.worker c.args.step in
    let within : c.args.chunk < length c.self.inside.slots.items = subst (λ (d : Desk). c.args.chunk < length d.slots) (sym v) r.within in
    let owes : owed_of c.args.slot < owed_of (get_or c.self.inside.slots.items c.args.chunk slot.Done) = subst (λ (d : Desk). owed_of c.args.slot < owed_of (slot_at d c.args.chunk)) (sym v) r.owes in
    let was : c.owes.result ≡ owed_of (get_or c.self.inside.slots.items c.args.chunk slot.Done) =
    c.owes.ensures ∙ ap owed_of (c.index.ensures ∙ get_or_default c.self.inside.slots.items c.args.chunk c.index.result.now slot.Done within) in
    let is : c.owes-owes.result ≡ owed_of c.args.slot = c.owes-owes.ensures in
    let all = sum_by-set owed_of c.self.inside.slots.items c.args.chunk c.args.slot slot.Done within in
    let kept = keeps-put c.args.self.now c.args.chunk c.args.slot e (subst (λ (d : Desk). IsKept d) v c.self.invariant.0) r.within r.about r.step r.stays r.keeps r.fits r.fair in (
      rw (c.replace-before.ensures.after, c.push_reserved.ensures.items, c.worker.ensures) (subst (λ (d : Desk). IsKept (put d c.args.chunk c.args.slot e)) (sym v) kept),
      rw c.replace-before.ensures.after (omega (arith, all, was, is, owes, c.self.invariant.1)),
      omega (arith, all, was, is, owes, c.self.invariant.1, c.self.invariant.2, c.push_reserved.ensures.len, c.push_reserved.ensures.capacity),
    )
