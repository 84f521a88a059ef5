use Rattle.std.proofs.Common.{arith, length-drop}
use Rattle.hp_tokens.proofs.Characters.{rest_whole}
use Rattle.hp_tokens.proofs.few.Few.drop_front.Goals as goal

pub extend-requires : goal.extend-requires
extend-requires c =
    rw (rest_whole c.as_slice.result.now c.args.count, c.new-rest.ensures)
    (omega (arith, c.as_slice.ensures.within, length-drop c.args.count c.as_slice.result.now))
