-- The attributes that stay as they are in foreign elements.
use Rattle.std.proofs.Common.{◌≡◌, ℕ, List, [], ◌∷◌, Option, Some, None, false, map, ap, ◌∙◌, refl}
use Rattle.std.proofs.lemmas.Bool.{or_parts}
use Rattle.std.specs.List.{list_any}
use Rattle.std.specs.Option.{is_some, unwrap_or}
use Rattle.hp_elements.specs.Respelling.{respelling_of, foreign_attribute_of}
use Rattle.hp_elements.specs.declared.sets.Namespace.{Namespace}
use Rattle.hp_elements.specs.declared.tag.Attribute.{Attribute}
use Rattle.hp_elements.specs.declared.tag.AttributeSpace.{AttributeSpace}
use Rattle.hp_control.specs.Foreign.{attribute_as, attribute_in, attribute_spellings}
use Rattle.hp_foreign.specs.Changes.{changes_in}

name_stays : (o : Option (List ℕ)) (name : List ℕ) → is_some o ≡ false → unwrap_or o name ≡ name
name_stays None name h = refl
name_stays (Some other) name h = absurd (cc)

abbrev named : Attribute → List ℕ → Attribute
named a name = record { space = a.space; name = name; value = a.value }

as_it_was : (space : Namespace) (a : Attribute) (o : Option (AttributeSpace × List ℕ)) → is_some o ≡ false → is_some (respelling_of (attribute_spellings space) a.name) ≡ false
    → attribute_as space a o ≡ a
as_it_was space a None h k = ap (named a) (name_stays (respelling_of (attribute_spellings space) a.name) a.name k)
as_it_was space a (Some foreign) h k = absurd (cc)

stays : (space : Namespace) (a : Attribute) → changes_in space a ≡ false → attribute_in space a ≡ a
stays space a h =
    let parts = or_parts (is_some (foreign_attribute_of a.name)) (is_some (respelling_of (attribute_spellings space) a.name)) h in
    as_it_was space a (foreign_attribute_of a.name) parts.0 parts.1

-- attributes of which none changes
pub all_stay : (space : Namespace) (attributes : List Attribute) → list_any (changes_in space) attributes ≡ false → map (attribute_in space) attributes ≡ attributes
all_stay space [] h = refl
all_stay space (a ∷ more) h =
    let parts = or_parts (changes_in space a) (list_any (changes_in space) more) h in
    ap (λ b. b ∷ map (attribute_in space) more) (stays space a parts.0) ∙ ap (λ rest. a ∷ rest) (all_stay space more parts.1)
