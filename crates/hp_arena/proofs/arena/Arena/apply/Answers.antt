use Rattle.std.proofs.Common.{sym, ap, ◌∙◌}
use Rattle.hp_arena.specs.Roots.{has_root_table}
use Rattle.hp_arena.proofs.arena.Arena.apply.Goals as goal

pub put-requires-clause-table : goal.put-requires-clause-table
put-requires-clause-table c = λ h. ap (has_root_table c.args.self.now.branches) (sym c.in-Put.is) ∙ c.requires.table h
