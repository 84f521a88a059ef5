use Rattle.std.proofs.Common.{◌∙◌, sym, arith}
use Rattle.std.proofs.lemmas.List.{drop_all}
use Rattle.hp_control.proofs.WalkLemmas.{all_gone}
use Rattle.hp_control.proofs.walks.cleared_from.Goals as goal

pub returns-then-cuts-len-clause-cleared : goal.returns-then-cuts-len-clause-cleared
returns-then-cuts-len-clause-cleared c =
    drop_all c.len-then-cuts-len.result c.args.list.now (omega (arith, c.len-then-cuts-len.ensures))
    ∙ sym (all_gone c.args.cuts c.args.list.now (omega (arith, c.len.ensures, c.if-cuts-len.true)))
