use Rattle.std.proofs.Common.{◌∙◌, ap, sym}
use Rattle.hp_views.specs.View.{sight}
use Rattle.hp_adoption.proofs.LastEntry.{has_stack, has_list, last_adopted}
use Rattle.hp_adoption.proofs.plain.adopt.Goals as goal

pub close_last-requires-clause-open : goal.close_last-requires-clause-open
close_last-requires-clause-open g c = has_stack c.args.name c.args.view.now.change.stack c.args.view.now.change.formatting (sym c.is_last.ensures ∙ c.if-is_last.true)

pub close_last-requires-clause-listed : goal.close_last-requires-clause-listed
close_last-requires-clause-listed g c = has_list c.args.name c.args.view.now.change.stack c.args.view.now.change.formatting (sym c.is_last.ensures ∙ c.if-is_last.true)

pub returns-then-is_last : goal.returns-then-is_last
returns-then-is_last g c =
    last_adopted (sight g.B.Below.heard c.args.view.now) (sight g.B.Below.heard c.close_last.new.view) c.args.fostering c.args.name (sym c.is_last.ensures ∙ c.if-is_last.true) c.close_last.ensures.split
    (ap g.B.Below.heard c.close_last.ensures.below)
