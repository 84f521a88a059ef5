use Rattle.std.proofs.Common.{ap}
use Rattle.hp_tokens.specs.declared.building.Building.{Building}
use Rattle.hp_tokens.proofs.machine.Machine.begin_doctype.Goals as goal

pub returns : goal.returns
returns c = ap (λ (b : Building). record c.args.self.now { building = b }) c.begin.ensures
