-- One chunk more.
use Rattle.std.proofs.Common.{arith, ◌≡◌, ◌∙◌, ap, sym, rules, map, false, add-one}
use Rattle.std.proofs.lemmas.List.{length-map, get_or_default}
use Rattle.hp_board.specs.declared.slot.Slot.TheVariants as slot
use Rattle.hp_board.proofs.None.{none-more}
use Rattle.hp_board.proofs.Puts.{at-slots}
use Rattle.hp_board.specs.Machine.{is_unclaimed, at}
use Rattle.hp_board.specs.Desk.{status_of}
use Rattle.hp_board.proofs.slot.first_unclaimed.Goals as goal

pub loop-chunk-preserved : goal.loop-chunk-preserved
loop-chunk-preserved c =
    let here : is_unclaimed (at (map status_of c.args.slots.now) c.loop-chunk.chunk) ≡ false =
    ap is_unclaimed (at-slots c.args.slots.now c.loop-chunk.chunk ∙ ap status_of (get_or_default c.args.slots.now c.loop-chunk.chunk slot.Done c.index-slots-chunk.result (omega arith) ∙ sym c.index-slots-chunk.is)) ∙ (sym c.is_unclaimed.ensures ∙ c.if-is_unclaimed.false) in
    rw add-one (none-more is_unclaimed (map status_of c.args.slots.now) c.loop-chunk.chunk (omega (arith, length-map c.args.slots.now status_of)) c.loop-chunk.invariant here)
