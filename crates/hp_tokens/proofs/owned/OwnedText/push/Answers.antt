use Rattle.std.proofs.Common.{◌≡◌, List, ℕ, ◌++◌, ap, ◌∙◌, subst}
use Rattle.std.specs.Prelude.{OnOk}
use Rattle.std.specs.Str.{chars}
use Rattle.hp_tokens.proofs.Texts.{chars-encode}
use Rattle.hp_tokens.proofs.owned.OwnedText.push.Goals as goal

pub returns-clause-ok : goal.returns-clause-ok
returns-clause-ok c =
    let P : List ℕ → Type 0 = λ xs. OnOk c.push_str.result (c.push_str.new.self ≡ c.args.self.now ++ xs) in
    subst P (ap chars c.encode_utf8-text.ensures.value ∙ chars-encode c.args.c c.ranges.c.0) c.push_str.ensures.ok
