-- Two spaces of attributes, and two namespaces, that are told alike; and one test after the other.
use Rattle.std.proofs.Common.{◌≡◌, Bool, true, false, refl, sym, ap, ◌∙◌}
use Rattle.std.specs.Prelude.{◌&&◌}
use denote.Enum.Bare.{sameb}
use Rattle.hp_elements.specs.contracts.sets.Namespace as namespace
use Rattle.hp_elements.specs.contracts.tag.AttributeSpace as space
use Rattle.hp_elements.specs.declared.sets.Namespace.{Namespace}
use Rattle.hp_elements.specs.declared.sets.Namespace.TheVariants.{Html, MathMl, Svg}
use Rattle.hp_elements.specs.declared.tag.AttributeSpace.{AttributeSpace}
use Rattle.hp_elements.specs.declared.tag.AttributeSpace.TheVariants.{Plain, Xlink, Xml, Xmlns}
use Rattle.hp_elements.specs.Sets.{same_namespace}
use Rattle.hp_control.specs.Walks.{same_space}

pub spaces_alike : (a b : AttributeSpace) → sameb space.the_type a b ≡ same_space a b
spaces_alike Plain Plain = refl
spaces_alike Plain Xlink = refl
spaces_alike Plain Xml = refl
spaces_alike Plain Xmlns = refl
spaces_alike Xlink Plain = refl
spaces_alike Xlink Xlink = refl
spaces_alike Xlink Xml = refl
spaces_alike Xlink Xmlns = refl
spaces_alike Xml Plain = refl
spaces_alike Xml Xlink = refl
spaces_alike Xml Xml = refl
spaces_alike Xml Xmlns = refl
spaces_alike Xmlns Plain = refl
spaces_alike Xmlns Xlink = refl
spaces_alike Xmlns Xml = refl
spaces_alike Xmlns Xmlns = refl

pub namespaces_alike : (a b : Namespace) → sameb namespace.the_type a b ≡ same_namespace a b
namespaces_alike Html Html = refl
namespaces_alike Html MathMl = refl
namespaces_alike Html Svg = refl
namespaces_alike MathMl Html = refl
namespaces_alike MathMl MathMl = refl
namespaces_alike MathMl Svg = refl
namespaces_alike Svg Html = refl
namespaces_alike Svg MathMl = refl
namespaces_alike Svg Svg = refl

-- the first holds, and the second is told
pub both : {a b v r : Bool} → a ≡ true → v ≡ r → r ≡ b → v ≡ (a && b)
both {a} {b} {v} {r} h e f = e ∙ (f ∙ ap (λ x. x && b) (sym h))

-- the first doesn't hold
pub neither : {a v : Bool} (b : Bool) → a ≡ false → v ≡ false → v ≡ (a && b)
neither {a} {v} b h e = e ∙ ap (λ x. x && b) (sym h)
