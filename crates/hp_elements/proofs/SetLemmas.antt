-- The tables of sets say of each name what the lists of specs/ say.
use Rattle.std.proofs.Common.{◌≡◌, ℕ, List, [], ◌∷◌, ◌||◌, None, cond, sym, ap, ◌∙◌, Bool, true, false, ◌&&◌, slice_index, refl}
use Rattle.std.proofs.lemmas.Bool.{and_parts}
use Rattle.std.specs.Str.{bytes_eq}
use Rattle.hp_elements.specs.declared.known.Known.{Known}
use Rattle.hp_elements.specs.declared.sets.Namespace.{Namespace}
use Rattle.hp_elements.specs.declared.sets.Namespace.TheVariants.{Html, MathMl, Svg}
use Rattle.hp_elements.specs.declared.sets.SetName.{SetName}
use Rattle.hp_elements.specs.declared.sets.SetName.TheVariants as s
use Rattle.hp_elements.specs.Names.{text_of, index_of, known_of, is_among}
use Rattle.hp_elements.specs.SetMasks.{masks_of, has_bit}
use Rattle.hp_elements.specs.Sets.{Elements, in_set, is_member, members, same_namespace, turned}
use Rattle.hp_elements.specs.Slots.{named_at, slots}
use Rattle.hp_elements.proofs.ListedNames.{is_text, says, said, says_known, not_among}

-- the names of the elements of a namespace
abbrev names_in : Elements → Namespace → List (List ℕ)
names_in [] namespace = []
names_in (e ∷ es) namespace = cond (same_namespace namespace e.0) (e.1 ∷ names_in es namespace) (names_in es namespace)

member_in : (elements : Elements) (namespace : Namespace) (name : List ℕ) → is_among (names_in elements namespace) name ≡ is_member elements namespace name
member_in [] namespace name = refl
member_in (e ∷ es) namespace name = go (same_namespace namespace e.0) (member_in es namespace name)
  where
    go : (same : Bool) → is_among (names_in es namespace) name ≡ is_member es namespace name
        → is_among (cond same (e.1 ∷ names_in es namespace) (names_in es namespace)) name ≡ (same && bytes_eq name e.1) || is_member es namespace name
    go true rest = ap (λ (b : Bool). bytes_eq name e.1 || b) rest
    go false rest = rest

abbrev right_in : SetName → Elements → Namespace → Bool
right_in set elements namespace = says (λ row. has_bit row set) (turned set) (masks_of namespace) (names_in elements namespace)

abbrev all_right : SetName → Elements → Bool
all_right set elements = right_in set elements Html && (right_in set elements MathMl && right_in set elements Svg)

each_right : (set : SetName) → all_right set (members set) ≡ true
unfolding masks_of named_at slots is_text
each_right s.ForeignEnds = refl
each_right _ = refl

in_each : (set : SetName) (elements : Elements) → all_right set elements ≡ true → (namespace : Namespace) → right_in set elements namespace ≡ true
in_each set elements h Html = (and_parts (right_in set elements Html) (right_in set elements MathMl && right_in set elements Svg) h).0
in_each set elements h MathMl = (and_parts (right_in set elements MathMl) (right_in set elements Svg) (and_parts (right_in set elements Html) (right_in set elements MathMl && right_in set elements Svg) h).1).0
in_each set elements h Svg = (and_parts (right_in set elements MathMl) (right_in set elements Svg) (and_parts (right_in set elements Html) (right_in set elements MathMl && right_in set elements Svg) h).1).1

right : (set : SetName) (namespace : Namespace) → right_in set (members set) namespace ≡ true
right set namespace = in_each set (members set) (each_right set) namespace

pub sets_agree : (set : SetName) (namespace : Namespace) (name : Known) → has_bit (slice_index (masks_of namespace) (index_of name)) set ≡ in_set set namespace (text_of name)
sets_agree set namespace name =
    said (λ row. has_bit row set) (turned set) (masks_of namespace) (names_in (members set) namespace) (right set namespace) name
    ∙ ap (turned set) (member_in (members set) namespace (text_of name))

-- a name that is no known one is in no list of known ones
pub other_in : (set : SetName) (namespace : Namespace) (text : List ℕ) → known_of text ≡ None → in_set set namespace text ≡ turned set false
other_in set namespace text n =
    let known = says_known (λ row. has_bit row set) (turned set) (masks_of namespace) (names_in (members set) namespace) (right set namespace) in
    ap (turned set) (sym (member_in (members set) namespace text) ∙ not_among (names_in (members set) namespace) text n known)
