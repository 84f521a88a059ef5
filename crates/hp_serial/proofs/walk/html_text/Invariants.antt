use Rattle.std.proofs.Common.{◌≡◌}
use Rattle.std.specs.Prelude.{encode_utf8_all}
use Rattle.hp_serial.specs.Html.{html_of}
use Rattle.hp_serial.specs.Walk.{AreMarks, todo, whole}
use Rattle.hp_serial.proofs.walk.html_text.Given as goal

-- what was written and what is still to come make the text
abbrev pub invariant-loop-mark : goal.invariant-loop-mark
invariant-loop-mark l = record {
  marks : AreMarks l.tree 0 l.marks.items;
  text : whole l.tree.branches l.out.items l.marks.items ≡ encode_utf8_all (html_of l.tree.branches);
}

abbrev pub decreases-loop-mark : goal.decreases-loop-mark
decreases-loop-mark l = todo l.tree.branches 0 l.marks.items
