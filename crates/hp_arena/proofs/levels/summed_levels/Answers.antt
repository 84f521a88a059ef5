use Rattle.std.proofs.Common.{◌≡◌, ◌+◌, ◌-◌, Some, None, suc, length, sym, ap, ◌∙◌, arith}
use Rattle.std.specs.Option.{option_map}
use Rattle.hp_arena.specs.Levels.{deepest_from, link_at, summed_from}
use Rattle.hp_arena.proofs.LevelLemmas.{told, level_near, sum_on, deepest_on, summed_last, deepest_last, summed_none, deepest_none, ended}
use Rattle.hp_arena.proofs.levels.summed_levels.Goals as goal

pub onward-at-requires : goal.onward-at-requires
onward-at-requires c = omega (arith, c.counts-count.ensures.nodes, c.in-Some.ensures.to)

pub loop-turn-preserved : goal.loop-turn-preserved
loop-turn-preserved c =
    let nodes = c.args.store.now.nodes in
    let left = length c.args.store.now.nodes - c.loop-turn._turn in
    let later = length c.args.store.now.nodes - (c.loop-turn._turn + 1) in
    let i = c.loop-turn.invariant in
    let there : link_at c.args.store.now.nodes c.loop-turn.at ≡ Some (told c.in-Some.link) = sym c.link_at.ensures.link ∙ ap (option_map told) c.in-Some.is in
    let next : length c.args.store.now.nodes - c.loop-turn._turn ≡ suc (length c.args.store.now.nodes - (c.loop-turn._turn + 1)) = omega (arith, c.loop-turn-test.true, c.counts-count.ensures.nodes) in
    record {
      low = omega (arith, c.level_after-level.ensures, level_near c.in-Some.link.1 c.loop-turn.level, i.low);
      deep = omega (arith, c.max-deepest.ensures);
      sum = rw (c.saturating_add-sum.ensures, c.onward-at.ensures, c.level_after-level.ensures)
          (sum_on nodes left later c.loop-turn.at c.loop-turn.level c.loop-turn.sum (summed_from nodes (length nodes) 1 0) (told c.in-Some.link) there next i.sum);
      deepest = rw (c.max-deepest.ensures, c.onward-at.ensures, c.level_after-level.ensures)
          (deepest_on nodes left later c.loop-turn.at c.loop-turn.level c.loop-turn.deepest (deepest_from nodes (length nodes) 1 0) (told c.in-Some.link) there next i.deep i.deepest);
    }

pub returns-in_default : goal.returns-in_default
returns-in_default c =
    let nodes = c.args.store.now.nodes in
    let left = length c.args.store.now.nodes - c.loop-turn._turn in
    let at = c.loop-turn.at in
    let level = c.loop-turn.level in
    let i = c.loop-turn.invariant in
    let none : link_at c.args.store.now.nodes c.loop-turn.at ≡ None = sym c.link_at.ensures.link ∙ ap (option_map told) c.in_default.is in
    c.with_more.ensures ∙ ended nodes left at level c.loop-turn.sum c.loop-turn.deepest c.args.more _ _ (summed_last nodes left at level none) (deepest_last nodes left at level none) i.deep i.sum i.deepest

pub returns : goal.returns
returns c =
    let nodes = c.args.store.now.nodes in
    let left = length c.args.store.now.nodes - c.loop-turn._turn in
    let at = c.loop-turn.at in
    let level = c.loop-turn.level in
    let i = c.loop-turn.invariant in
    let none : length c.args.store.now.nodes - c.loop-turn._turn ≡ 0 = omega (arith, c.loop-turn-test.false, c.counts-count.ensures.nodes) in
    c.with_more-2.ensures ∙ ended nodes left at level c.loop-turn.sum c.loop-turn.deepest c.args.more _ _ (summed_none nodes left at level none) (deepest_none nodes left at level none) i.deep i.sum i.deepest
