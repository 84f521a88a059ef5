use Rattle.std.proofs.Common.{◌∙◌, ◌-◌, ap, drop, sym}
use Rattle.hp_adoption.proofs.Apart.{head_below, rest_below, under_of}
use Rattle.hp_adoption.proofs.adopting.take_apart.Goals as goal

pub returns-clause-block : goal.returns-clause-block
returns-clause-block c =
    head_below c.args.stack.now c.pop.new.self c.args.tangle.block c.in-Some.block (sym c.in_ok-above.ensures.rest ∙ c.in-Some.ensures)

pub returns-clause-rest : goal.returns-clause-rest
returns-clause-rest c =
    c.drop_top.ensures
    ∙ (ap (drop 1) (c.in_ok-between-in-Some.ensures.rest
    ∙ ap (drop (c.args.tangle.depth - c.args.tangle.block - 1)) (rest_below c.args.stack.now c.pop.new.self c.args.tangle.block c.in-Some.block (sym c.in_ok-above.ensures.rest ∙ c.in-Some.ensures)))
    ∙ under_of c.args.stack.now c.args.tangle.block c.args.tangle.depth c.requires.block)
