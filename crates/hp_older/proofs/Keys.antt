-- Elements of some names, against the sets and kinds that the rules name.
use Rattle.std.proofs.Common.{◌≡◌, ℕ, List, [], ◌∷◌, Bool, true, false, ◌||◌, ◌&&◌, not, refl, sym, ap, ◌∙◌, subst}
use Rattle.std.specs.List.{list_all}
use Rattle.std.specs.Str.{bytes_eq}
use Rattle.std.proofs.lemmas.Bool.{and_parts, and_from, true≢false, and_right}
use Rattle.hp_elements.specs.Kinds.{is_html as is_html_space}
use Rattle.hp_elements.specs.Names.{is_among}
use Rattle.hp_elements.specs.Sets.{in_set, is_member}
use Rattle.hp_elements.specs.declared.kinds.Kinds.TheVariants as kinds
use Rattle.hp_elements.specs.declared.sets.Namespace.{Namespace}
use Rattle.hp_elements.specs.declared.sets.Namespace.TheVariants.{Html, MathMl, Svg}
use Rattle.hp_elements.specs.declared.sets.SetName.{SetName}
use Rattle.hp_elements.proofs.FindLemmas.{equal_bytes}
use Rattle.hp_control.specs.declared.element.OpenElement.{OpenElement}
use Rattle.hp_control.specs.KindTests.{within}
use Rattle.hp_control.specs.States.{is_html}
use Rattle.hp_model.proofs.Stacks.{refused}

-- an HTML element of one of these names
abbrev pub named_in : List (List ℕ) → OpenElement → Bool
named_in names e = is_html e && is_among names e.name

pub html_space : (space : Namespace) → is_html_space space ≡ true → space ≡ Html
html_space Html h = refl
html_space MathMl h = absurd (true≢false (sym h))
html_space Svg h = absurd (true≢false (sym h))

-- what holds of each name of a list holds of a name among them
pub among-all : (q : List ℕ → Bool) (names : List (List ℕ)) (name : List ℕ) → list_all q names ≡ true → is_among names name ≡ true → q name ≡ true
among-all q [] name h k = absurd (true≢false (sym k))
among-all q (x ∷ xs) name h k = let parts = and_parts (q x) (list_all q xs) h in go (bytes_eq name x) refl k parts.0 (among-all q xs name parts.1)
  where
    go : (b : Bool) → bytes_eq name x ≡ b → (b || is_among xs name) ≡ true → q x ≡ true → (is_among xs name ≡ true → q name ≡ true) → q name ≡ true
    go true e m here later = ap q (equal_bytes true name x (sym e) refl) ∙ here
    go false e m here later = later m

-- each is in a set that has all the names
pub named-within : (names : List (List ℕ)) (s : SetName) → list_all (in_set s Html) names ≡ true → (e : OpenElement) → named_in names e ≡ true → within (kinds.Set s) e ≡ true
named-within names s h e k =
    let parts = and_parts (is_html e) (is_among names e.name) k in
    subst (λ space. in_set s space e.name ≡ true) (sym (html_space e.namespace parts.0)) (among-all (in_set s Html) names e.name h parts.1)

-- and is one of any names that have all of them
pub named-named : (names more : List (List ℕ)) → list_all (is_among more) names ≡ true → (e : OpenElement) → named_in names e ≡ true → named_in more e ≡ true
named-named names more h e k =
    let parts = and_parts (is_html e) (is_among names e.name) k in
    and_from (is_html e) (is_among more e.name) parts.0 (among-all (is_among more) names e.name h parts.1)

-- none is in a set that has none of the names
pub apart-set : (names : List (List ℕ)) (elements : List (Namespace × List ℕ)) → list_all (λ x. not (is_among names x.1)) elements ≡ true → (e : OpenElement) → is_member elements e.namespace e.name ≡ true → named_in names e ≡ false
apart-set names elements h e k = and_right (is_html e) (is_among names e.name) (refused (is_among names) elements e.namespace e.name h k)

-- nor has another name
pub apart-name : (names : List (List ℕ)) (name : List ℕ) → is_among names name ≡ false → (e : OpenElement) → within (kinds.Html name) e ≡ true → named_in names e ≡ false
apart-name names name h e k =
    let parts = and_parts (is_html e) (bytes_eq name e.name) k in
    and_right (is_html e) (is_among names e.name) (ap (is_among names) (sym (equal_bytes true name e.name (sym parts.1) refl)) ∙ h)

-- nor is foreign
pub apart-foreign : (names : List (List ℕ)) (e : OpenElement) → is_html e ≡ false → named_in names e ≡ false
apart-foreign names e h = ap (λ b. b && is_among names e.name) h

-- of two tests the and_right holds where the first doesn't
pub either_of : (a b : Bool) → (a || b) ≡ true → a ≡ false → b ≡ true
either_of true b h k = absurd (true≢false k)
either_of false b h k = h
