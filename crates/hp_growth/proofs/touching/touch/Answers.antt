use Rattle.std.specs.Prelude.{option_to_list}
use Rattle.hp_groves.specs.Split.{parents_from}
use Rattle.hp_growth.proofs.Marked.{marked-all}
use Rattle.hp_growth.proofs.touching.touch.Goals as goal

pub returns : goal.returns
returns c =
    marked-all (parents_from 0 c.args.grove.now.branches) c.args.marks.now c.touch_children.new.marks c.touch_children-2.new.marks c.move_away.new.marks c.move_away-2.new.marks (option_to_list c.args.touched.parent)
    (option_to_list c.args.touched.other) (option_to_list c.args.touched.child) (option_to_list c.args.touched.table) c.touch_children.ensures c.touch_children-2.ensures c.move_away.ensures c.move_away-2.ensures
