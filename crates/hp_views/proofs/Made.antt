-- An element that is made for an HTML tag of a known name.
use Rattle.std.proofs.Common.{◌≡◌, ℕ, List, ◌∷◌, Result, Ok, Err, refl, ap, ◌∙◌}
use Rattle.std.specs.Prelude.{IfOk, OnOk}
use Rattle.hp_elements.specs.declared.sets.Namespace.TheVariants.{Html}
use Rattle.hp_elements.specs.declared.kinds.Point.TheVariants.{No}
use Rattle.hp_elements.specs.declared.tag.Tag.{Tag}
use Rattle.hp_control.specs.declared.element.OpenElement.{OpenElement}
use Rattle.hp_control.specs.Acts.{element_for}

abbrev pub html_element : ℕ → List ℕ → OpenElement
html_element id name = record { id = id; namespace = Html; name = name; point = No }

html_made : (id : ℕ) (name : List ℕ) (tag : Tag) → tag.namespace ≡ Html → name ≡ tag.name → html_element id name ≡ element_for id tag
html_made id name tag html n = rw (n, html) refl

pub html_pushed : {E : Type 0} (result : Result (Unit {0}) E) (id : ℕ) (name : List ℕ) (tag : Tag) (old new : List OpenElement) → tag.namespace ≡ Html → name ≡ tag.name
    → OnOk result (new ≡ html_element id name ∷ old) → IfOk result (λ u. new ≡ element_for id tag ∷ old)
html_pushed (Ok u) id name tag old new html n h = h ∙ ap (λ (e : OpenElement). e ∷ old) (html_made id name tag html n)
html_pushed (Err e) id name tag old new html n h = tt
