use Rattle.std.proofs.Common.{◌≡◌, ◌++◌, ap, ◌∙◌}
use Rattle.std.specs.Str.{chars}
use Rattle.hp_print.specs.Order.{by_units, space_word}
use Rattle.hp_print.proofs.Sorting.{chars_word}
use Rattle.hp_print.proofs.attributes.compare_whole.Goals as goal

pub returns : goal.returns
returns c =
    let first = c.args.first in
    let second = c.args.second in
    let word : chars c.space_text-word.result.now ≡ space_word first.space = ap chars c.space_text-word.ensures ∙ chars_word first.space in
    let other_word : chars c.space_text-other_word.result.now ≡ space_word second.space = ap chars c.space_text-other_word.ensures ∙ chars_word second.space in
    c.compare.ensures
    ∙ ap (λ w. by_units (w ++ chars first.name.now) (chars c.space_text-other_word.result.now ++ chars second.name.now)) word
    ∙ ap (λ w. by_units (space_word first.space ++ chars first.name.now) (w ++ chars second.name.now)) other_word
