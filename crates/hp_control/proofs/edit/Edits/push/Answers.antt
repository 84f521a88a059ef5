use Rattle.hp_control.specs.Held.{held}
use Rattle.hp_control.proofs.Rooms.{room_of_all-more}
use Rattle.hp_control.proofs.edit.Edits.push.Goals as goal

pub invariant_of-self-2 : goal.invariant_of-self-2
invariant_of-self-2 c = rw c.in_ok-add.ensures.ok (room_of_all-more (held c.self.inside.items) c.args.edit c.in-Some.room c.self.inside.room c.room.result c.self.invariant c.room.ensures c.in-Some.ensures.1)
