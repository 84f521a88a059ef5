use Rattle.std.proofs.Common.{◌≡◌, ap, ◌∙◌, sym, refl, List, [], ℕ, Bool}
use Rattle.std.specs.Str.{bytes_eq, chars}
use Rattle.hp_tokens.specs.declared.building.Building.{Building}
use Rattle.hp_tokens.specs.declared.building.Building.TheVariants.{EndTag}
use Rattle.hp_tokens.specs.declared.machine.Machine.{Machine}
use Rattle.hp_lex_raw.specs.Rows.{told, is_end_tag_named, is_appropriate}
use Rattle.hp_lex_raw.proofs.rows.is_appropriate.Goals as goal

no_chars : chars [] ≡ []
unfolding chars
no_chars = refl

named : (m : Machine) (name last : List ℕ) → m.building ≡ EndTag name → told m.last_tag ≡ last → bytes_eq name last ≡ is_appropriate m
named m name last building e =
    sym (ap (λ (xs : List ℕ). is_end_tag_named xs m.building) e ∙ ap (λ (b : Building). is_end_tag_named last b) building)

same_text : (r : Bool) (name text last : List ℕ) → r ≡ bytes_eq name (chars text) → chars text ≡ last → r ≡ bytes_eq name last
same_text r name text last r_is e = r_is ∙ ap (λ (xs : List ℕ). bytes_eq name xs) e

pub returns-in-None : goal.returns-in-None
returns-in-None c =
    same_text c.spells-in-None.result c.in-EndTag.name [] [] c.spells-in-None.ensures no_chars
    ∙ named c.args.machine.now c.in-EndTag.name [] c.in-EndTag.is (ap told c.in-None.is)

pub returns-in-Some : goal.returns-in-Some
returns-in-Some c =
    same_text c.spells.result c.in-EndTag.name c.as_str.result.now c.in-Some.last c.spells.ensures c.as_str.ensures
    ∙ named c.args.machine.now c.in-EndTag.name c.in-Some.last c.in-EndTag.is (ap told c.in-Some.is)
