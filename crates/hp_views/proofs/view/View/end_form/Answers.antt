use Rattle.std.specs.Prelude.{Ok}
use Rattle.std.proofs.Common.{Bool, ap, subst, sym}
use Rattle.hp_views.specs.ClosingPlans.{either, end_form_in_template_plan, leaves_it}
use Rattle.hp_views.specs.FormPlans.{older_form_plan, outside_on, outside_plan, own_form_plan}
use Rattle.hp_views.specs.StackPlans.{template_plan}
use Rattle.hp_views.specs.View.{Carries, sight}
use Rattle.hp_views.proofs.AtOnce.{gives_at_once}
use Rattle.hp_views.proofs.Carrying.{carries_as, carries_then}
use Rattle.hp_views.proofs.view.View.end_form.Goals as goal

pub returns-then-branch : goal.returns-then-branch
returns-then-branch g c =
    let result = c.end_form_in_template.result in
    let found = sight g.B.Below.heard c.template_in_stack.new.self in
    let new = sight g.B.Below.heard c.end_form_in_template.new.self in
    let P : Bool → Type 0 = λ b. Carries result found new (λ v. either end_form_in_template_plan outside_plan b v) in
    carries_then result (sight g.B.Below.heard c.args.self.now) found new
    template_plan (λ v b. either end_form_in_template_plan outside_plan b v) c.in_ok-template_in_stack.field-0 c.in_ok-template_in_stack.ensures
    (subst P (sym c.if-branch.true) c.end_form_in_template.ensures)

pub returns-in-Cleared : goal.returns-in-Cleared
returns-in-Cleared g c =
    let found = sight g.B.Below.heard c.template_in_stack.new.self in
    let P : Bool → Type 0 = λ b. Carries (Ok tt) found found (λ v. either end_form_in_template_plan outside_plan b v) in
    carries_then (Ok tt) (sight g.B.Below.heard c.args.self.now) found found
    template_plan (λ v b. either end_form_in_template_plan outside_plan b v) c.in_ok-template_in_stack.field-0 c.in_ok-template_in_stack.ensures
    (subst P (sym c.if-branch.false)
    (carries_as (Ok tt) found found leaves_it outside_plan (ap (λ f. outside_on f found.split) (sym c.in-Cleared.is)) (gives_at_once found.heard found.split)))

pub returns-in-Own : goal.returns-in-Own
returns-in-Own g c =
    let result = c.end_own_form.result in
    let found = sight g.B.Below.heard c.template_in_stack.new.self in
    let new = sight g.B.Below.heard c.end_own_form.new.self in
    let P : Bool → Type 0 = λ b. Carries result found new (λ v. either end_form_in_template_plan outside_plan b v) in
    carries_then result (sight g.B.Below.heard c.args.self.now) found new
    template_plan (λ v b. either end_form_in_template_plan outside_plan b v) c.in_ok-template_in_stack.field-0 c.in_ok-template_in_stack.ensures
    (subst P (sym c.if-branch.false)
    (carries_as result found new (own_form_plan c.in-Own.id) outside_plan (ap (λ f. outside_on f found.split) (sym c.in-Own.is)) c.end_own_form.ensures))

pub returns-in-Kept : goal.returns-in-Kept
returns-in-Kept g c =
    let result = c.end_older_form.result in
    let found = sight g.B.Below.heard c.template_in_stack.new.self in
    let new = sight g.B.Below.heard c.end_older_form.new.self in
    let P : Bool → Type 0 = λ b. Carries result found new (λ v. either end_form_in_template_plan outside_plan b v) in
    carries_then result (sight g.B.Below.heard c.args.self.now) found new
    template_plan (λ v b. either end_form_in_template_plan outside_plan b v) c.in_ok-template_in_stack.field-0 c.in_ok-template_in_stack.ensures
    (subst P (sym c.if-branch.false)
    (carries_as result found new older_form_plan outside_plan (ap (λ f. outside_on f found.split) (sym c.in-Kept.is)) c.end_older_form.ensures))
