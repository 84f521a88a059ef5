use Rattle.std.specs.List.{flat_map}
use Rattle.hp_serial.specs.Html.{attribute_text}
use Rattle.hp_serial.proofs.Joins.{ok_then, start_tag_joined}
use Rattle.hp_serial.proofs.items.write_start_tag.Goals as goal

pub returns : goal.returns
returns c =
    let tag = c.args.tag.now in
    let name = rw c.as_str.ensures at c.in_ok-put_str.ensures in
    ok_then c.put-2.result _ _ (λ last. start_tag_joined _ _ _ _ _ tag.name (flat_map attribute_text tag.attributes) c.in_ok-put.ensures name c.in_ok-write_attributes.ensures last) c.put-2.ensures
