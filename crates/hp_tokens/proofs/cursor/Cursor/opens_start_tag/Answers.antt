use Rattle.std.proofs.Common.{◌≡◌, false, rules, ◌∙◌}
use Rattle.hp_tokens.specs.Reading.{opens_start_tag}
use Rattle.hp_tokens.proofs.Fronts.{start-chars}
use Rattle.hp_tokens.proofs.cursor.Cursor.opens_start_tag.Goals as goal

pub returns-in-60 : goal.returns-in-60
returns-in-60 c =
    let here : c.is_ascii_alphabetic.result ≡ opens_start_tag c.rest.result.now = search rules in
    here ∙ start-chars c.rest.result.now c.args.self.now.text c.rest.ensures.utf8 c.rest.ensures.chars

pub returns-in_default : goal.returns-in_default
returns-in_default c =
    let here : false ≡ opens_start_tag c.rest.result.now = search rules in
    here ∙ start-chars c.rest.result.now c.args.self.now.text c.rest.ensures.utf8 c.rest.ensures.chars

pub returns-in_default-2 : goal.returns-in_default-2
returns-in_default-2 c =
    let here : false ≡ opens_start_tag c.rest.result.now = search rules in
    here ∙ start-chars c.rest.result.now c.args.self.now.text c.rest.ensures.utf8 c.rest.ensures.chars
