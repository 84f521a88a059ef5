use Rattle.std.proofs.Common.{◌≡◌, length, arith}
use Rattle.std.proofs.lemmas.Bool.Decides.{nat_tests}
use Rattle.hp_serial.proofs.Escapes.{wrote_all}
use Rattle.hp_serial.proofs.escape.write_escaped.Goals as goal

pub returns : goal.returns
returns c =
    let none : length c.loop-rest.rest.now ≡ 0 = grind (arith, nat_tests, c.is_empty.ensures, c.loop-rest-test.false) in
    wrote_all c.args.place _ _ c.loop-rest.rest.now c.args.text.now c.loop-rest.invariant none c.utf8.text
