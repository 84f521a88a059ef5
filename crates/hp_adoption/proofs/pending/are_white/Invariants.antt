use Rattle.std.proofs.Common.{◌≡◌}
use Rattle.std.specs.List.{list_all}
use Rattle.std.specs.Str.{chars, IsUtf8}
use Rattle.std.specs.Str.Iter.{chars_rest}
use Rattle.hp_control.specs.Composed.{is_white}
use Rattle.hp_adoption.proofs.pending.are_white.Given as goal

abbrev pub invariant-loop-c : goal.invariant-loop-c
invariant-loop-c l =
    (list_all is_white (chars (chars_rest l.c-iterator)) ≡ list_all is_white l.text)
    × IsUtf8 (chars_rest l.c-iterator)
