use Rattle.std.specs.Prelude.{Ok, true, false, refl}
use Rattle.std.proofs.Common.{sym, ◌∙◌}
use Rattle.hp_elements.specs.declared.act.Scope.TheVariants as scope
use Rattle.hp_control.specs.declared.open_elements.WalkEnd.TheVariants.{Goal, Stop, BelowAll}
use Rattle.hp_views.specs.StackPlans.{in_scope_plan}
use Rattle.hp_views.specs.View.{sight}
use Rattle.hp_views.proofs.AtOnce.{gives_at_once}
use Rattle.hp_views.proofs.Carrying.{answers_as}
use Rattle.hp_views.proofs.Paragraphs.{a_paragraph, button_ends, paragraph_seen, seen_to}
use Rattle.hp_views.proofs.view.View.has_paragraph.Goals as goal

pub returns-in-Goal : goal.returns-in-Goal
returns-in-Goal g c =
    let v = c.args.self.now in
    let now = sight g.B.Below.heard v in
    answers_as (Ok true) now now (λ v. seen_to v.change.popped a_paragraph button_ends Goal) (in_scope_plan scope.Button a_paragraph)
    (paragraph_seen v.change.popped v.change.stack Goal (sym c.in-Goal.is ∙ c.paragraph.ensures)) (record { runs = gives_at_once now.heard true; same = refl })

pub returns-in-Stop : goal.returns-in-Stop
returns-in-Stop g c =
    let v = c.args.self.now in
    let now = sight g.B.Below.heard v in
    answers_as (Ok false) now now (λ v. seen_to v.change.popped a_paragraph button_ends Stop) (in_scope_plan scope.Button a_paragraph)
    (paragraph_seen v.change.popped v.change.stack Stop (sym c.in-Stop.is ∙ c.paragraph.ensures)) (record { runs = gives_at_once now.heard false; same = refl })

pub returns-in-BelowAll : goal.returns-in-BelowAll
returns-in-BelowAll g c =
    let v = c.args.self.now in
    answers_as c.paragraph_below.result (sight g.B.Below.heard v) (sight g.B.Below.heard c.paragraph_below.new.self) (λ v. seen_to v.change.popped a_paragraph button_ends BelowAll) (in_scope_plan scope.Button a_paragraph)
    (paragraph_seen v.change.popped v.change.stack BelowAll (sym c.in-BelowAll.is ∙ c.paragraph.ensures)) c.paragraph_below.ensures
