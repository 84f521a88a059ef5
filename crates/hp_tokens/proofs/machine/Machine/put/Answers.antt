use Rattle.std.proofs.Common.{◌≡◌, List, ℕ, ap, ◌∙◌, subst}
use Rattle.std.specs.Prelude.{OnOk}
use Rattle.std.specs.Str.{chars}
use Rattle.hp_tokens.specs.Rows.{putting_text}
use Rattle.hp_tokens.proofs.Texts.{chars-encode}
use Rattle.hp_tokens.proofs.machine.Machine.put.Goals as goal

pub returns : goal.returns
returns c =
    let P : List ℕ → Type 0 = λ xs. OnOk c.put_text.result (c.put_text.new.self ≡ putting_text c.args.part xs c.args.self.now) in
    subst P (ap chars c.encode_utf8-text.ensures.value ∙ chars-encode c.args.c c.ranges.c.0) c.put_text.ensures
