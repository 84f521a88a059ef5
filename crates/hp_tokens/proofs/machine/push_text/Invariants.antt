use Rattle.std.proofs.Common.{◌≡◌, ◌++◌, map}
use Rattle.std.specs.Str.{chars, IsUtf8}
use Rattle.std.specs.Str.Iter.{chars_rest}
use Rattle.hp_tokens.specs.Rows.{character}
use Rattle.hp_tokens.proofs.machine.push_text.Given as goal

abbrev pub invariant-loop-c : goal.invariant-loop-c
invariant-loop-c l =
    (l.tokens ++ map character (chars (chars_rest l.c-iterator)) ≡ l.fn.tokens ++ map character l.text)
    × IsUtf8 (chars_rest l.c-iterator)
