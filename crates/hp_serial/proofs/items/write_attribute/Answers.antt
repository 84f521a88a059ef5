use Rattle.hp_serial.specs.declared.escape.Place.TheVariants as place
use Rattle.hp_serial.specs.Escaping.{escaped}
use Rattle.hp_serial.specs.Html.{qualified}
use Rattle.hp_serial.proofs.Joins.{ok_then, attribute_joined}
use Rattle.hp_serial.proofs.items.write_attribute.Goals as goal

pub returns : goal.returns
returns c =
    let a = c.args.attribute.now in
    let value = rw c.as_str.ensures at c.in_ok-write_escaped.ensures in
    ok_then c.put-3.result _ _
    (λ last. attribute_joined _ _ _ _ _ _ (qualified a.space a.name) (escaped place.Value a.value) c.in_ok-put.ensures c.in_ok-write_qualified.ensures c.in_ok-put-2.ensures value last)
    c.put-3.ensures
