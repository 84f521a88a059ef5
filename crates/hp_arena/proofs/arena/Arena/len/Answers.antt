use Rattle.std.proofs.Common.{length, ap, sym, ◌∙◌, subst, arith}
use Rattle.hp_control.specs.Tree.{IsForest}
use Rattle.hp_arena.proofs.Glue.{length-branches}
use Rattle.hp_arena.proofs.Parents.{IsForest-seen}
use Rattle.hp_arena.proofs.arena.Arena.len.Goals as goal

pub overflow_add-result : goal.overflow_add-result
overflow_add-result c = omega (arith, c.counts.ensures.elements, c.self.invariant.room.ids)

pub returns-clause-count : goal.returns-clause-count
returns-clause-count c = c.counts.ensures.elements ∙ sym (length-branches c.self.inside) ∙ ap (λ s. length s.branches) c.self.view_is

pub returns-clause-forest : goal.returns-clause-forest
returns-clause-forest c = subst (λ s. IsForest s.branches) c.self.view_is (IsForest-seen c.self.inside c.self.invariant)
