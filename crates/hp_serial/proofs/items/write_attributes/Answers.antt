use Rattle.std.proofs.Common.{refl}
use Rattle.hp_serial.specs.Html.{attribute_text}
use Rattle.hp_serial.proofs.Joins.{next_joined, items_done}
use Rattle.hp_serial.proofs.items.write_attributes.Goals as goal

pub loop-attribute-init : goal.loop-attribute-init
loop-attribute-init c = rw (c.into_iter-attribute-iterator.ensures.into_iter_gives, c.iter-attribute-items.ensures) refl

pub loop-attribute-preserved : goal.loop-attribute-preserved
loop-attribute-preserved c =
    next_joined attribute_text _ _ _ c.in-Some.attribute.now _ c.next.new.self c.in_ok-write_attribute.ensures c.in-Some.ensures.steps c.loop-attribute.invariant

pub returns : goal.returns
returns c = items_done attribute_text _ _ _ c.in-None.ensures.steps.0 c.loop-attribute.invariant
