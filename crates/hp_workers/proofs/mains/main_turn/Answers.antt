use Rattle.hp_workers.proofs.mains.main_turn.Goals as goal

pub returns-clause-on : goal.returns-clause-on
returns-clause-on c = c.in_ok-judge.ensures.on c.if-branch.false c.args.kind
