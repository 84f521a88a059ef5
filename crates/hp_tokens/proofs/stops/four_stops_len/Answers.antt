use Rattle.std.proofs.Common.{[], ◌∷◌, ℕ, List, take, drop, length, ◌-◌, arith}
use Rattle.hp_tokens.specs.Plain.{none_of}
use Rattle.hp_tokens.proofs.Characters.{rest_whole}
use Rattle.hp_tokens.proofs.Blocks.{block_passes, block_stops, run-from}
use Rattle.hp_tokens.proofs.stops.four_stops_len.Goals as goal

pub returns-then-found-ne0 : goal.returns-then-found-ne0
returns-then-found-ne0 c =
    let rest : List ℕ = take (length c.args.bytes.now - c.args.at) (drop c.args.at c.args.bytes.now) in
    run-from (none_of (0 ∷ 13 ∷ c.args.a ∷ c.args.b ∷ [])) c.args.bytes.now rest c.args.at _ (rest_whole c.args.bytes.now c.args.at)
    (block_stops c.args.a c.args.b rest c.loop-count.count (omega arith) c.loop-count.invariant.1 c.stops-found.result c.stops-found.ensures (omega arith))

pub loop-count-preserved : goal.loop-count-preserved
loop-count-preserved c =
    let rest : List ℕ = take (length c.args.bytes.now - c.args.at) (drop c.args.at c.args.bytes.now) in
    (omega arith, block_passes c.args.a c.args.b rest c.loop-count.count (omega arith) c.loop-count.invariant.1 (omega (arith, c.stops-found.ensures)))

pub returns : goal.returns
returns c =
    let rest : List ℕ = take (length c.args.bytes.now - c.args.at) (drop c.args.at c.args.bytes.now) in
    run-from (none_of (0 ∷ 13 ∷ c.args.a ∷ c.args.b ∷ [])) c.args.bytes.now rest c.args.at c.last_stop.result (rest_whole c.args.bytes.now c.args.at) c.last_stop.ensures
