use Rattle.std.proofs.Common.{◌≡◌, ◌∙◌, sym, rules, true, false}
use Rattle.hp_tokens.specs.Reading.{begins_with_pair}
use Rattle.hp_tokens.proofs.Fronts.{pair-chars, pair-IsAt, pair-taken, pair-none}
use Rattle.hp_tokens.proofs.cursor.Cursor.skip_pair_cr.Goals as goal

pub invariant_of-self : goal.invariant_of-self
invariant_of-self c =
    let here : begins_with_pair c.rest.result.now ≡ true = search rules in
    pair-IsAt c.self.inside.text.now c.self.inside.at c.self.invariant c.args.self.now c.self.view_is
    (sym (pair-chars c.rest.result.now c.args.self.now.text c.rest.ensures.utf8 c.rest.ensures.chars) ∙ here)

pub returns-in-13 : goal.returns-in-13
returns-in-13 c =
    let here : begins_with_pair c.rest.result.now ≡ true = search rules in
    pair-taken c.self.inside.text.now c.self.inside.at c.self.invariant c.args.self.now c.self.view_is
    (sym (pair-chars c.rest.result.now c.args.self.now.text c.rest.ensures.utf8 c.rest.ensures.chars) ∙ here)

pub returns-then-rest-lt2 : goal.returns-then-rest-lt2
returns-then-rest-lt2 c =
    let here : begins_with_pair c.rest.result.now ≡ false = search rules in
    pair-none c.args.self.now (sym (pair-chars c.rest.result.now c.args.self.now.text c.rest.ensures.utf8 c.rest.ensures.chars) ∙ here)

pub returns-else-rest-lt2 : goal.returns-else-rest-lt2
returns-else-rest-lt2 c =
    let here : begins_with_pair c.rest.result.now ≡ false = search rules in
    pair-none c.args.self.now (sym (pair-chars c.rest.result.now c.args.self.now.text c.rest.ensures.utf8 c.rest.ensures.chars) ∙ here)

pub returns-else-rest-lt2-2 : goal.returns-else-rest-lt2-2
returns-else-rest-lt2-2 c =
    let here : begins_with_pair c.rest.result.now ≡ false = search rules in
    pair-none c.args.self.now (sym (pair-chars c.rest.result.now c.args.self.now.text c.rest.ensures.utf8 c.rest.ensures.chars) ∙ here)
