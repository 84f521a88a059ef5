use Rattle.std.proofs.Common.{◌≡◌, ◌+◌, ◌&&◌, true, sym, arith}
use Rattle.std.specs.Prelude.{nat_le, nat_lt}
use Rattle.std.proofs.lemmas.Bool.{cond-true}
use Rattle.std.proofs.lemmas.Bool.Decides.{nat_tests}
use Rattle.hp_print.proofs.attributes.weight.Goals as goal

pub returns-then-code-lt65536 : goal.returns-then-code-lt65536
returns-then-code-lt65536 c =
    let high : (nat_le 0xE000 c.args.c && nat_lt c.args.c 0x10000) ≡ true = grind (arith, nat_tests) in
    sym (cond-true (nat_le 0xE000 c.args.c && nat_lt c.args.c 0x10000) (c.args.c + 0x110000) c.args.c high)
