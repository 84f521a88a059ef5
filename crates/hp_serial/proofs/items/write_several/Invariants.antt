use Rattle.std.proofs.Common.{◌≡◌, ◌++◌}
use Rattle.std.specs.Prelude.{encode_utf8_all}
use Rattle.std.specs.List.{concat}
use Rattle.hp_serial.specs.Html.{text_in}
use Rattle.hp_serial.proofs.items.write_several.Given as goal

-- the runs so far were written, and the others are left
abbrev pub invariant-loop-run : goal.invariant-loop-run
invariant-loop-run l =
    l.out.items ++ encode_utf8_all (text_in l.raw (concat l.run-iterator)) ≡ l.initial.out.items ++ encode_utf8_all (text_in l.raw (concat l.runs))
