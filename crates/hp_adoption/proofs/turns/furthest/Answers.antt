use Rattle.std.proofs.Common.{◌≡◌, ◌+◌, ◌-◌, ℕ, suc, ap, sym, ◌∙◌, arith, drop, take}
use Rattle.hp_elements.specs.declared.kinds.Kinds.TheVariants as kinds
use Rattle.hp_elements.specs.declared.sets.SetName.TheVariants as sets
use Rattle.hp_control.specs.KindTests.{within}
use Rattle.hp_adoption.specs.Turning.{last_within}
use Rattle.hp_adoption.proofs.Nearest.{last_found, none_nearer, seat_last}
use Rattle.hp_adoption.proofs.turns.furthest.Goals as goal

pub returns-then-is_within-clause-found : goal.returns-then-is_within-clause-found
returns-then-is_within-clause-found c =
    let below : c.args.depth - c.loop-turn.turn ≡ suc (c.args.depth - 1 - c.loop-turn.turn) = omega arith in
    sym (last_found (within (kinds.Set sets.Special)) c.args.stack.now c.args.depth (c.args.depth - c.loop-turn.turn) (c.args.depth - 1 - c.loop-turn.turn) c.at.result.now
    below (omega arith) c.requires c.at.ensures c.loop-turn.invariant (sym c.is_within.ensures ∙ c.if-is_within.true))
    ∙ sym (seat_last (take c.args.depth c.args.stack.now))

pub returns-clause-found : goal.returns-clause-found
returns-clause-found c =
    let above = take c.args.depth c.args.stack.now in
    let all : 0 ≡ c.args.depth - c.loop-turn.turn = omega arith in
    sym (ap (λ (n : ℕ). last_within (within (kinds.Set sets.Special)) (drop n above)) all ∙ c.loop-turn.invariant) ∙ sym (seat_last above)

pub loop-turn-preserved : goal.loop-turn-preserved
loop-turn-preserved c =
    none_nearer (within (kinds.Set sets.Special)) c.args.stack.now c.args.depth (c.args.depth - (c.loop-turn.turn + 1)) (c.args.depth - c.loop-turn.turn) (c.args.depth - 1 - c.loop-turn.turn) c.at.result.now
    (omega arith) (omega arith) (omega arith) c.requires c.at.ensures c.loop-turn.invariant (sym c.is_within.ensures ∙ c.if-is_within.false)
