use Rattle.std.proofs.Common.{◌≡◌, ◌==◌, List, [], ◌∷◌, true, length, refl, sym, subst, arith, ◌∙◌}
use Rattle.std.proofs.lemmas.Bool.{eqb-true}
use Rattle.hp_elements.specs.declared.tag.Attribute.{Attribute}
use Rattle.hp_control.specs.Tree.{with_missing}
use Rattle.hp_store.proofs.attributes.add_attributes.Goals as goal

none_left : (xs : List Attribute) → (length xs == 0) ≡ true → xs ≡ []
none_left [] h = refl
none_left (x ∷ xs) h = absurd (omega (arith, eqb-true (length (x ∷ xs)) 0 h))

pub loop-attributes-init : goal.loop-attributes-init
loop-attributes-init c = record { same = refl; count = omega arith }

pub loop-attributes-preserved : goal.loop-attributes-preserved
loop-attributes-preserved c = record {
  same = c.add_first.ensures.same ∙ c.loop-attributes.invariant.same;
  count = omega (arith, c.add_first.ensures.count, c.loop-attributes.invariant.count);
}

pub loop-attributes-smaller : goal.loop-attributes-smaller
loop-attributes-smaller c = c.add_first.ensures.less

pub add_first-requires-clause-fits : goal.add_first-requires-clause-fits
add_first-requires-clause-fits c = omega (arith, c.loop-attributes.invariant.count, c.requires)

pub returns-clause-attributes : goal.returns-clause-attributes
returns-clause-attributes c =
    let P : List Attribute → Type 0 = λ rest. with_missing c.loop-attributes.attributes rest ≡ with_missing c.args.attributes.now c.args.more in
    subst P (none_left c.loop-attributes.rest (sym c.is_empty.ensures ∙ c.loop-attributes-test.false)) c.loop-attributes.invariant.same

pub returns-clause-count : goal.returns-clause-count
returns-clause-count c = omega (arith, c.loop-attributes.invariant.count)
