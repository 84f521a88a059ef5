use Rattle.std.proofs.Common.{◌≡◌, Bool, true, List, [], ◌∷◌, ◌++◌, length, refl, ap, ◌∙◌, sym, arith, eqb-true}
use Rattle.std.specs.Prelude.{if◌then◌else◌, ◌==◌}
use Rattle.hp_elements.specs.declared.tag.Attribute.{Attribute}
use Rattle.hp_tokens.specs.Parts.{joined}
use Rattle.hp_tokens.proofs.building.add.Goals as goal
use Rattle.hp_tokens.proofs.building.add.Goals.{else-not-is_empty-via-then-not-is_empty+else-are_named, else-not-is_empty-via-else-not-is_empty}

to_none : (attributes : List Attribute) (a : Attribute) → (length attributes == 0) ≡ true → attributes ++ a ∷ [] ≡ joined attributes a
to_none [] a none = refl
to_none (x ∷ xs) a none = absurd (omega (arith, eqb-true (length (x ∷ xs)) 0 none))

pub returns-then-are_named : goal.returns-then-are_named
returns-then-are_named c =
    let chosen : Bool → List Attribute = λ b. if b then c.args.attributes.now else c.args.attributes.now ++ c.args.attribute ∷ [] in
    ap chosen (sym c.if-are_named.true ∙ c.are_named.ensures)

pub returns : goal.returns
returns c =
    let chosen : Bool → List Attribute = λ b. if b then c.args.attributes.now else c.args.attributes.now ++ c.args.attribute ∷ [] in
    elim c.else-not-is_empty.branch [
      | else-not-is_empty-via-then-not-is_empty+else-are_named w ↦ c.in_ok-push.ensures.ok ∙ ap chosen (sym w.if-are_named.false ∙ w.are_named.ensures)
      | else-not-is_empty-via-else-not-is_empty w ↦
          c.in_ok-push.ensures.ok ∙ to_none c.args.attributes.now c.args.attribute (sym c.is_empty.ensures ∙ w.if-not-is_empty.false)
    ]
