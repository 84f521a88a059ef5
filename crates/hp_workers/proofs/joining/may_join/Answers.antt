use Rattle.std.proofs.Common.{sym, rules}
use Rattle.std.proofs.lemmas.Bool.{true≢false}
use Rattle.hp_workers.proofs.Holding.{may_not}
use Rattle.hp_workers.proofs.joining.may_join.Goals as goal

pub returns-in-Fails : goal.returns-in-Fails
returns-in-Fails c = (λ is. absurd (true≢false (sym is)), λ may. absurd (may_not c.args.front.now.control c.args.fragment.now c.check_by.result c.check_by.ensures (λ holds. search rules) may))
