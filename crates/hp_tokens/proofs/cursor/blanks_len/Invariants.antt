use Rattle.std.proofs.Common.{◌≡◌, take, true}
use Rattle.std.specs.List.{list_all}
use Rattle.hp_tokens.specs.Rows.{is_blank}
use Rattle.hp_tokens.proofs.cursor.blanks_len.Given as goal

abbrev pub invariant-loop-i : goal.invariant-loop-i
invariant-loop-i l = list_all is_blank (take l.i l.byte-items) ≡ true
