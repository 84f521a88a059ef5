use Rattle.std.proofs.Common.{arith, ap, ◌∙◌, List, ℕ, Some}
use Rattle.std.proofs.lemmas.List.Elements.{All-pop}
use Rattle.std.proofs.Math.ListN.{set}
use Rattle.hp_store.specs.Leaves.{IsCell}
use Rattle.hp_store.proofs.Texts.{first_cell}
use Rattle.hp_store.proofs.runs.take_cell.Goals as goal

pub take_first-cell-requires : goal.take_first-cell-requires
take_first-cell-requires c = omega (arith, (All-pop IsCell c.args.cells.now.items c.pop.new.self.items (Some c.in-Some.pair) c.in-Some.ensures.items c.requires.cell).1)

pub returns-clause-result : goal.returns-clause-result
returns-clause-result c =
    c.set_first.ensures ∙ ap (λ (xs : List (List ℕ)). set xs 0 c.args.text) c.take_first-cell.ensures.first ∙ first_cell c.in-Some.pair c.args.text (All-pop IsCell c.args.cells.now.items c.pop.new.self.items (Some c.in-Some.pair) c.in-Some.ensures.items c.requires.cell).1

pub returns-clause-len : goal.returns-clause-len
returns-clause-len c = c.in-Some.ensures.len

pub returns-clause-cell : goal.returns-clause-cell
returns-clause-cell c = (All-pop IsCell c.args.cells.now.items c.pop.new.self.items (Some c.in-Some.pair) c.in-Some.ensures.items c.requires.cell).0
