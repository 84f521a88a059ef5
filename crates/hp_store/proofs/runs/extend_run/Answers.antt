use Rattle.std.proofs.Common.{◌-◌, [], ◌∷◌, length, arith, ap, ◌∙◌, List, ℕ, Some}
use Rattle.std.proofs.lemmas.List.Elements.{All-pop}
use Rattle.std.proofs.Math.ListN.{set}
use Rattle.hp_store.specs.Leaves.{IsCell}
use Rattle.hp_store.proofs.Texts.{both_cells}
use Rattle.hp_store.proofs.runs.extend_run.Goals as goal

pub set_first-requires : goal.set_first-requires
set_first-requires c = omega (arith, (All-pop IsCell c.args.cells.now.items c.pop.new.self.items (Some c.in-Some-pop.pair) c.in-Some-pop.ensures.items c.requires.cell).1)

pub returns-clause-runs : goal.returns-clause-runs
returns-clause-runs c =
    c.replace_last.ensures.items
    ∙ ap (λ (xs : List (List ℕ)). set xs (length xs - 1) c.in-Some.text) c.set_first.ensures
    ∙ both_cells c.in-Some-pop.pair c.replace.result c.in-Some.text (All-pop IsCell c.args.cells.now.items c.pop.new.self.items (Some c.in-Some-pop.pair) c.in-Some-pop.ensures.items c.requires.cell).1
    ∙ ap (λ (x : List ℕ). x ∷ c.in-Some.text ∷ []) (c.replace.ensures.value ∙ c.in-Some.ensures.kept.1)
    ∙ ap (λ (x : List ℕ). c.args.first.now ∷ x ∷ []) c.in-Some.ensures.kept.0

pub returns-clause-len : goal.returns-clause-len
returns-clause-len c = omega (arith, c.in-Some-pop.ensures.len)

pub returns-clause-cell : goal.returns-clause-cell
returns-clause-cell c = (All-pop IsCell c.args.cells.now.items c.pop.new.self.items (Some c.in-Some-pop.pair) c.in-Some-pop.ensures.items c.requires.cell).0
