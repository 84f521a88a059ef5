use Rattle.std.proofs.Common.{◌≡◌, ◌≤◌, drop, length}
use Rattle.std.specs.Str.{chars, IsUtf8}
use Rattle.std.specs.Str.Iter.{chars_rest}
use Rattle.hp_lex_markup.specs.Words.{progress}
use Rattle.hp_lex_markup.proofs.words.compared.Given as goal

abbrev pub invariant-loop-c : goal.invariant-loop-c
invariant-loop-c l =
    (progress l.fold (chars (chars_rest l.c-iterator)) (drop l.at l.word) ≡ progress l.fold l.text l.word)
    × IsUtf8 (chars_rest l.c-iterator) × (l.at ≤ length l.word)
