use Rattle.std.proofs.Common.{◌+◌, ◌∙◌, drop, sym, ap}
use Rattle.std.specs.Prelude.{◌||◌}
use Rattle.std.specs.List.{list_any}
use Rattle.hp_acts.specs.Spending.{reads_attributes}
use Rattle.hp_acts.proofs.RowRuns.{any_here, any_past}
use Rattle.hp_acts.proofs.turns.is_read_from.Goals as goal

pub loop-act-preserved : goal.loop-act-preserved
loop-act-preserved c =
    c.loop-act.invariant
    ∙ (any_here reads_attributes c.args.row.acts.now c.loop-act.at c.in-Some.act (sym c.act.ensures.value ∙ c.in-Some.is)
    ∙ ap (λ b. b || list_any reads_attributes (drop (c.loop-act.at + 1) c.args.row.acts.now)) (sym c.reads_attributes.ensures ∙ c.if-reads_attributes.false))

pub returns-then-reads_attributes : goal.returns-then-reads_attributes
returns-then-reads_attributes c =
    sym (c.loop-act.invariant
    ∙ (any_here reads_attributes c.args.row.acts.now c.loop-act.at c.in-Some.act (sym c.act.ensures.value ∙ c.in-Some.is)
    ∙ ap (λ b. b || list_any reads_attributes (drop (c.loop-act.at + 1) c.args.row.acts.now)) (sym c.reads_attributes.ensures ∙ c.if-reads_attributes.true)))

pub returns : goal.returns
returns c =
    sym (c.loop-act.invariant
    ∙ any_past reads_attributes c.args.row.acts.now c.loop-act.at (sym c.act.ensures.value ∙ c.in_default.is))
