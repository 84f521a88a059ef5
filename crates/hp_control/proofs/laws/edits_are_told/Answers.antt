use Rattle.hp_control.proofs.TellingLemmas.{named_over, fixed_means_same, named_once, named_room, told_once, told_room, told_makes_same}
use Rattle.hp_control.proofs.laws.edits_are_told.Goals as goal

pub returns : goal.returns
returns c = record {
  over = named_over;
  fixed = fixed_means_same;
  named_once = named_once;
  named_room = named_room;
  told_once = told_once;
  told_room = told_room;
  same = told_makes_same;
}
