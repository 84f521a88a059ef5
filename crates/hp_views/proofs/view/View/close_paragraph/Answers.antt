use Rattle.std.specs.Prelude.{Ok}
use Rattle.std.proofs.Common.{Bool, subst, sym}
use Rattle.hp_elements.specs.Names.{text_of}
use Rattle.hp_elements.specs.declared.act.Scope.TheVariants as scope
use Rattle.hp_elements.specs.declared.kinds.Kinds.TheVariants as kinds
use Rattle.hp_elements.specs.KnownNames as known
use Rattle.hp_views.specs.ClosingPlans.{close_plan, either, leaves_it}
use Rattle.hp_views.specs.StackPlans.{in_scope_plan}
use Rattle.hp_views.specs.View.{Carries, sight}
use Rattle.hp_views.proofs.AtOnce.{gives_at_once}
use Rattle.hp_views.proofs.Carrying.{carries_then}
use Rattle.hp_views.proofs.view.View.close_paragraph.Goals as goal

pub returns-then-branch : goal.returns-then-branch
returns-then-branch g c =
    let found = sight g.B.Below.heard c.has_paragraph.new.self in
    let new = sight g.B.Below.heard c.close.new.self in
    let P : Bool → Type 0 = λ b. Carries c.close.result found new (λ v. either (close_plan known.P) leaves_it b v) in
    carries_then c.close.result (sight g.B.Below.heard c.args.self.now) found new
    (in_scope_plan scope.Button (kinds.Html (text_of known.P))) (λ v b. either (close_plan known.P) leaves_it b v) c.in_ok-has_paragraph.field-0 c.in_ok-has_paragraph.ensures
    (subst P (sym c.if-branch.true) c.close.ensures)

pub returns-else-branch : goal.returns-else-branch
returns-else-branch g c =
    let found = sight g.B.Below.heard c.has_paragraph.new.self in
    let P : Bool → Type 0 = λ b. Carries (Ok tt) found found (λ v. either (close_plan known.P) leaves_it b v) in
    carries_then (Ok tt) (sight g.B.Below.heard c.args.self.now) found found
    (in_scope_plan scope.Button (kinds.Html (text_of known.P))) (λ v b. either (close_plan known.P) leaves_it b v) c.in_ok-has_paragraph.field-0 c.in_ok-has_paragraph.ensures
    (subst P (sym c.if-branch.false) (gives_at_once found.heard found.split))
