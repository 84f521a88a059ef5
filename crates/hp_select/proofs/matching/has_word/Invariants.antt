use Rattle.std.proofs.Common.{◌≡◌}
use Rattle.std.specs.Str.{chars, IsUtf8}
use Rattle.std.specs.Str.Iter.{split_ascii_whitespace_text}
use Rattle.hp_select.specs.Matching.{has_word}
use Rattle.hp_select.proofs.matching.has_word.Given as goal

-- what is left has the word, where the value has it
abbrev pub invariant-loop-part : goal.invariant-loop-part
invariant-loop-part l = record {
  utf8 : IsUtf8 (split_ascii_whitespace_text l.part-iterator);
  same : has_word (chars l.word) (chars (split_ascii_whitespace_text l.part-iterator)) ≡ has_word (chars l.word) (chars l.value);
}
