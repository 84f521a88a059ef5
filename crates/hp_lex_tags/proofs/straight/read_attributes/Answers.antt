use Rattle.std.proofs.Common.{[], refl, ◌∙◌}
use Rattle.hp_tokens.specs.declared.building.Building.TheVariants.{StartTag}
use Rattle.hp_lex_tags.specs.Straight.{bare, tag_of}
use Rattle.hp_lex_tags.specs.declared.straight.Way.TheVariants as way
use Rattle.hp_lex_tags.proofs.StraightMoves.{onto_same, onto_join, arrives_join, between_ends}
use Rattle.hp_lex_tags.proofs.StraightParts.{grows_as}
use Rattle.hp_lex_tags.proofs.straight.read_attributes.Goals as goal

pub attributes-init : goal.attributes-init
attributes-init c = (c.requires, λ front e. record { to = front; named = refl; gathers = e; onto = onto_same c.args.state (StartTag (tag_of front)) c.args.input.now })

pub attributes-preserved : goal.attributes-preserved
attributes-preserved c =
    let grows = grows_as c.args.names.now c.attributes.now c.attributes.attributes c.read_attribute.new.attributes c.attributes.input c.read_attribute.new.input c.in_ok-way.way (way.At c.in-At.next) c.in-At.is c.in_ok-way.ensures in (
      (grows (bare [] c.attributes.attributes) refl).arrives.1,
      λ front e.
          let before = c.attributes.invariant.1 front e in
          let then = grows before.to before.gathers in
          record { to = then.to; named = then.named ∙ before.named; gathers = then.gathers; onto = onto_join before.onto then.arrives.0 },
    )

pub attributes-smaller : goal.attributes-smaller
attributes-smaller c =
    (grows_as c.args.names.now c.attributes.now c.attributes.attributes c.read_attribute.new.attributes c.attributes.input c.read_attribute.new.input c.in_ok-way.way (way.At c.in-At.next) c.in-At.is c.in_ok-way.ensures
    (bare [] c.attributes.attributes) refl).arrives.2

pub returns-in_default : goal.returns-in_default
returns-in_default c = λ front e.
    let before = c.attributes.invariant.1 front e in
    let then = c.in_ok-way.ensures before.to before.gathers in
    record { to = then.to; named = then.named ∙ before.named; gathers = then.gathers; arrives = arrives_join c.read_attribute.new.input then.to c.in_ok-way.way before.onto then.arrives }

pub close-requires : goal.close-requires
close-requires c = between_ends c.attributes.now c.attributes.invariant.0

pub returns : goal.returns
returns c = λ front e.
    let before = c.attributes.invariant.1 front e in
    record { to = before.to; named = before.named; gathers = before.gathers; arrives = arrives_join c.close.new.input before.to c.close.result before.onto (c.close.ensures c.args.names.now before.to) }
