use Rattle.std.proofs.Common.{◌≡◌, ◌++◌}
use Rattle.std.specs.Prelude.{encode_utf8_all}
use Rattle.std.specs.List.{flat_map}
use Rattle.hp_serial.specs.Html.{attribute_text}
use Rattle.hp_serial.proofs.items.write_attributes.Given as goal

-- the attributes so far were written, and the others are left
abbrev pub invariant-loop-attribute : goal.invariant-loop-attribute
invariant-loop-attribute l =
    l.out.items ++ encode_utf8_all (flat_map attribute_text l.attribute-iterator) ≡ l.initial.out.items ++ encode_utf8_all (flat_map attribute_text l.attributes)
