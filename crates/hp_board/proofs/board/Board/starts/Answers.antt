-- The chunk's status is that of its slot.
use Rattle.std.proofs.Common.{◌≡◌, ◌<◌, ◌∙◌, ap, subst, sym, get_or, length, map}
use Rattle.std.specs.Prelude.{◌↔◌, IsTrue}
use Rattle.std.proofs.lemmas.List.{get_or_default}
use Rattle.hp_control.specs.States.{ControlState}
use Rattle.hp_board.specs.declared.journal.Status.{Status}
use Rattle.hp_board.specs.declared.slot.Slot.TheVariants as slot
use Rattle.hp_board.specs.Calls.{Starts, StartsAs}
use Rattle.hp_board.specs.Desk.{Desk, status_of}
use Rattle.hp_board.specs.Machine.{at}
use Rattle.hp_board.proofs.Puts.{at-slots}
use Rattle.hp_board.proofs.board.Board.starts.Goals as goal

pub returns : goal.returns
returns c =
    let v = c.self.view_is in
    let slots = c.self.inside.slots.items in
    let within : c.args.chunk < length slots = subst (λ (d : Desk). c.args.chunk < length d.slots) (sym v) c.requires in
    let is = c.index.ensures ∙ get_or_default slots c.args.chunk c.index.result.now slot.Done within in
    let here : at (map status_of slots) c.args.chunk ≡ status_of c.index.result.now = at-slots slots c.args.chunk ∙ ap status_of (sym is) in
    subst (λ (d : Desk). IsTrue c.starts.result ↔ Starts d c.args.chunk c.args.fragment.now) v
    (subst (λ (s : Status). IsTrue c.starts.result ↔ StartsAs c.self.inside.front.control s c.args.fragment.now) (sym here)
    (subst (λ (s : ControlState). IsTrue c.starts.result ↔ StartsAs s (status_of c.index.result.now) c.args.fragment.now) c.control.ensures c.starts.ensures))
