use Rattle.std.proofs.Common.{◌∙◌}
use Rattle.std.proofs.lemmas.Str.{encodes-chars}
use Rattle.hp_print.proofs.Filling.{written}
use Rattle.hp_print.proofs.filled.Filled.append_line.Goals as goal

pub returns-clause-whole : goal.returns-clause-whole
returns-clause-whole c =
    let bytes = rw c.as_mut_slice.ensures.value at c.line_at-self-inside.ensures.bytes in
    λ _. rw (encodes-chars c.args.text.now c.utf8.text, ← c.as_bytes.ensures.value)
    (written _ _ _ _ _ _ _ (c.line_at-self-inside.ensures.len ∙ c.as_mut_slice.ensures.len) bytes c.self.view_is)
