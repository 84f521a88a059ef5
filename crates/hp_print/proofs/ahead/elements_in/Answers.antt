use Rattle.std.proofs.Common.{◌-◌, length, refl, arith}
use Rattle.std.proofs.lemmas.Option.{slice_get_read}
use Rattle.hp_arena.specs.Readers.{parent_of, place_of}
use Rattle.hp_print.proofs.Steps.{in-there, marks-at}
use Rattle.hp_print.proofs.ahead.elements_in.Goals as goal

pub id_from-requires : goal.id_from-requires
id_from-requires c =
    let next = c.in-Some.next.now in
    let behind = c.args.behind.now in
    let last = slice_get_read behind (length behind) (length behind - 1) next refl (omega (arith, c.in-Some.ensures.item)) c.in-Some.ensures.item.1 in
    in-there c.args.tree.now (parent_of next.at) (place_of next.at) next.at (marks-at c.args.tree.now 0 behind (length behind - 1) next last c.requires.behind).at
