use Rattle.std.proofs.Common.{◌≡◌, OnOk, Option, refl, sym, ◌∙◌, subst}
use Rattle.hp_elements.specs.declared.tag.Attribute.{Attribute}
use Rattle.hp_elements.specs.declared.tag.AttributeSpace.TheVariants.{Plain}
use Rattle.hp_tokens.specs.declared.building.NewAttribute.{NewAttribute}
use Rattle.hp_tokens.specs.Parts.{joined, added}
use Rattle.hp_tokens.proofs.building.finish.Goals as goal

pub returns-in_ok-name-in-Some : goal.returns-in_ok-name-in-Some
returns-in_ok-name-in-Some c =
    let named : c.in_ok-name-in-Some.name ≡ c.in-Some.attribute.name = c.in_ok-name-in-Some.ensures ∙ c.as_str.ensures in
    let made : record { space = Plain; name = c.in_ok-name-in-Some.name; value = c.in_ok-value-in-Some.value } ≡ record { space = Plain; name = c.in-Some.attribute.name; value = c.in-Some.attribute.value } =
    rw (named, c.in_ok-value-in-Some.ensures) refl in
    let P : Attribute → Type 0 = λ a. OnOk c.add.result (c.add.new.attributes ≡ joined c.args.attributes.now a) in
    let Q : Option NewAttribute → Type 0 = λ o. OnOk c.add.result (c.add.new.attributes ≡ added c.args.attributes.now o) in
    subst Q (sym c.in-Some.is) (subst P made c.add.ensures)
