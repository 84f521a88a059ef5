use Rattle.std.proofs.Common.{sym, ◌∙◌}
use Rattle.hp_elements.specs.Tokens.{kind_of}
use Rattle.hp_views.specs.View.{sight, split_of}
use Rattle.hp_foreign.proofs.OwnNode.{ended_goes, older_plan, own_goes}
use Rattle.hp_views.proofs.Carrying.{answers_as}
use Rattle.hp_foreign.specs.Plans.{goes_plan, older_goes}
use Rattle.hp_foreign.proofs.dispatch.goes_to_foreign.Goals as goal

pub returns-then-not-is_empty : goal.returns-then-not-is_empty
returns-then-not-is_empty g c =
    own_goes (g.B.Below.heard c.args.view.now.below) (split_of c.args.view.now) (kind_of c.args.token.now) c.kind-kind.result c.at.result.now c.is_foreign_at.result (sym c.is_empty.ensures ∙ c.if-not-is_empty.true)
    c.at.ensures c.kind-kind.ensures c.is_foreign_at.ensures

pub returns-then-is_end_of_input : goal.returns-then-is_end_of_input
returns-then-is_end_of_input g c =
    ended_goes (g.B.Below.heard c.args.view.now.below) (split_of c.args.view.now) (kind_of c.args.token.now) c.kind-kind.result (sym c.is_empty.ensures ∙ c.if-not-is_empty.false) c.kind-kind.ensures
    (sym c.is_end_of_input.ensures ∙ c.if-is_end_of_input.true)

pub returns : goal.returns
returns g c =
    answers_as c.older_goes.result (sight g.B.Below.heard c.args.view.now) (sight g.B.Below.heard c.older_goes.new.view) (older_goes c.kind-kind.result) (goes_plan (kind_of c.args.token.now))
    (older_plan (split_of c.args.view.now) (kind_of c.args.token.now) c.kind-kind.result (sym c.is_empty.ensures ∙ c.if-not-is_empty.false) c.kind-kind.ensures (sym c.is_end_of_input.ensures ∙ c.if-is_end_of_input.false))
    c.older_goes.ensures
