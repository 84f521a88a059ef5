use Rattle.std.proofs.Common.{◌≡◌, map, Some}
use Rattle.std.specs.Prelude.{All}
use Rattle.hp_arena.specs.Readers.{IsAt}
use Rattle.hp_select.specs.Selected.{selected}
use Rattle.hp_select.specs.Walk.{AreMarks, todo, whole}
use Rattle.hp_select.proofs.walk.select.Given as goal

-- what was found and what is still to be found is all that is selected
abbrev pub invariant-loop-mark : goal.invariant-loop-mark
invariant-loop-mark l = record {
  marks : AreMarks l.tree l.steps 0 l.marks.items;
  all : whole l.tree.branches l.steps l.found l.marks.items ≡ map Some (selected l.tree.branches l.steps);
  there : All (IsAt l.tree) l.found;
}

abbrev pub decreases-loop-mark : goal.decreases-loop-mark
decreases-loop-mark l = todo l.tree.branches 0 l.marks.items
