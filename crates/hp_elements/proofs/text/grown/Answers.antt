use Rattle.std.proofs.Common.{◌≡◌, ◌++◌, ◌∙◌, ap, rules, string_bytes}
use Rattle.std.specs.Str.{chars}
use Rattle.std.proofs.lemmas.Str.{chars-append}
use Rattle.hp_elements.proofs.TextLemmas.{if_ok}
use Rattle.hp_elements.proofs.text.grown.Goals as goal

pub returns : goal.returns
returns c =
    let both : string_bytes c.push_str-2.new.self ≡ c.args.front.now ++ c.args.back.now = search rules in
    if_ok (λ text. text ≡ chars (string_bytes c.push_str-2.new.self)) (λ text. text ≡ chars c.args.front.now ++ chars c.args.back.now) c.of_owned.result c.of_owned.ensures
    (λ text e. e ∙ (ap chars both ∙ chars-append c.args.front.now c.args.back.now c.utf8.front))
