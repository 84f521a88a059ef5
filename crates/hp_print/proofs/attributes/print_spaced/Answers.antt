use Rattle.std.proofs.Common.{◌∙◌}
use Rattle.hp_print.proofs.Pieces.{prints_then, prints_as}
use Rattle.hp_print.proofs.attributes.print_spaced.Goals as goal

pub returns : goal.returns
returns g c =
    let word = prints_as _ _ _ _ _ _ c.put.ensures (c.as_bytes.ensures.value ∙ c.space_text.ensures) in
    let first = prints_then _ _ _ _ _ _ _ _ c.indent.ensures word in
    let second = prints_then _ _ _ _ _ _ _ _ first c.put_text.ensures in
    let third = prints_then _ _ _ _ _ _ _ _ second c.put-2.ensures in
    let fourth = prints_then _ _ _ _ _ _ _ _ third c.put_text-2.ensures in
    prints_then _ _ _ _ _ _ _ _ fourth c.put-3.ensures
