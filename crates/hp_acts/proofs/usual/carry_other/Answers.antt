use Rattle.std.proofs.Common.{◌∙◌, ap, sym}
use Rattle.hp_elements.specs.declared.tag.Tag.{Tag}
use Rattle.hp_views.specs.View.{sight}
use Rattle.hp_acts.specs.Usual.{begin_plan, closing_plan, end_plan, opening_plan, usual_plan}
use Rattle.hp_acts.proofs.UsualRuns.{carries_as}
use Rattle.hp_acts.proofs.usual.carry_other.Goals as goal

pub open-requires : goal.open-requires
open-requires g c = record { html = ap (λ (t : Tag). t.namespace) c.in_ok-tag.ensures.value }

pub begin-requires : goal.begin-requires
begin-requires g c = record { html = ap (λ (t : Tag). t.namespace) c.in_ok-tag.ensures.value }

pub returns-in-Opens : goal.returns-in-Opens
returns-in-Opens g c =
    carries_as c.open.result (sight g.B.Below.heard c.args.view.now) (sight g.B.Below.heard c.open.new.view) (opening_plan c.in-Opens.opening c.in_ok-tag.tag) (usual_plan c.args.row c.args.token.now)
    (ap (opening_plan c.in-Opens.opening) c.in_ok-tag.ensures.value ∙ ap (λ r. usual_plan r c.args.token.now) (sym c.in-Opens.is)) c.open.ensures

pub returns-in-Closes : goal.returns-in-Closes
returns-in-Closes g c =
    carries_as c.close.result (sight g.B.Below.heard c.args.view.now) (sight g.B.Below.heard c.close.new.view) (closing_plan c.in-Closes.closing c.in_ok-tag.tag.name) (usual_plan c.args.row c.args.token.now)
    (ap (λ (t : Tag). closing_plan c.in-Closes.closing t.name) c.in_ok-tag.ensures.value ∙ ap (λ r. usual_plan r c.args.token.now) (sym c.in-Closes.is)) c.close.ensures

pub returns-in-Begins : goal.returns-in-Begins
returns-in-Begins g c =
    carries_as c.begin.result (sight g.B.Below.heard c.args.view.now) (sight g.B.Below.heard c.begin.new.view) (begin_plan c.in-Begins.part c.in_ok-tag.tag) (usual_plan c.args.row c.args.token.now)
    (ap (begin_plan c.in-Begins.part) c.in_ok-tag.ensures.value ∙ ap (λ r. usual_plan r c.args.token.now) (sym c.in-Begins.is)) c.begin.ensures

pub returns : goal.returns
returns g c =
    carries_as c.end.result (sight g.B.Below.heard c.args.view.now) (sight g.B.Below.heard c.end.new.view) (end_plan c.in-Ends.part c.in_ok-tag.tag.name) (usual_plan c.args.row c.args.token.now)
    (ap (λ (t : Tag). end_plan c.in-Ends.part t.name) c.in_ok-tag.ensures.value ∙ ap (λ r. usual_plan r c.args.token.now) (sym c.in-Ends.is)) c.end.ensures
