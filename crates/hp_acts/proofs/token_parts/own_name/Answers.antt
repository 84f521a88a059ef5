use Rattle.std.proofs.Common.{◌≡◌, ◌∙◌, ℕ, Bool, List, [], refl, sym}
use Rattle.std.proofs.lemmas.Str.{chars-nil}
use Rattle.hp_elements.specs.declared.tag.Tag.{Tag}
use Rattle.hp_elements.specs.declared.token.Token.{Token}
use Rattle.hp_elements.specs.declared.token.Token.TheVariants.{EndTag, Start}
use Rattle.hp_model.specs.Tokens.{name_of}
use Rattle.hp_acts.proofs.token_parts.own_name.Goals as goal

-- a token that is no tag has no name
nameless : (t : Token) → ((self_closing : Bool) (tag : Tag) → t ≡ Start self_closing tag → ⊥) → ((name : List ℕ) → t ≡ EndTag name → ⊥) → name_of t ≡ []
nameless (Start self_closing tag) h k = absurd (h self_closing tag refl)
nameless (EndTag name) h k = absurd (k name refl)
nameless _ h k = refl

pub returns-in_ok-none-in_default : goal.returns-in_ok-none-in_default
returns-in_ok-none-in_default c = c.in_ok-none-in_default.ensures ∙ (chars-nil ∙ sym (nameless c.args.token.now c.in_default.not-Start c.in_default.not-EndTag))
