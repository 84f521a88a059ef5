use Rattle.std.specs.Prelude.{Ok}
use Rattle.std.proofs.Common.{ℕ, Bool, List, subst, sym}
use Rattle.hp_elements.specs.Names.{text_of}
use Rattle.hp_elements.specs.declared.act.Scope.TheVariants as scope
use Rattle.hp_elements.specs.declared.kinds.Kinds.TheVariants as kinds
use Rattle.hp_elements.specs.KnownNames as known
use Rattle.hp_views.specs.ClosingPlans.{either, implied_plan, leaves_it, through_form_plan, through_named_plan}
use Rattle.hp_views.specs.StackPlans.{in_scope_plan}
use Rattle.hp_views.specs.View.{Carries, Finds, sight}
use Rattle.hp_views.proofs.AtOnce.{gives_at_once}
use Rattle.hp_views.proofs.Carrying.{carries_next, carries_then}
use Rattle.hp_views.proofs.view.View.end_form_in_template.Goals as goal

pub returns-in_ok-implied : goal.returns-in_ok-implied
returns-in_ok-implied g c =
    let result = c.through_named.result in
    let old = sight g.B.Below.heard c.args.self.now in
    let found = sight g.B.Below.heard c.in_scope.new.self in
    let new = sight g.B.Below.heard c.through_named.new.self in
    let P : Bool → Type 0 = λ b. Carries result found new (λ v. either through_form_plan leaves_it b v) in
    let Q : List ℕ → Type 0 = λ name. Carries result (sight g.B.Below.heard c.implied.new.self) new (through_named_plan name) in
    let R : List ℕ → Type 0 = λ name. Finds old found (in_scope_plan scope.Default (kinds.Html name)) c.in_ok-in_scope.field-0 in
    carries_then result old found new
    (in_scope_plan scope.Default (kinds.Html (text_of known.Form))) (λ v b. either through_form_plan leaves_it b v) c.in_ok-in_scope.field-0 (subst R c.of_known.ensures c.in_ok-in_scope.ensures)
    (subst P (sym c.if-branch.true)
    (carries_next result found (sight g.B.Below.heard c.implied.new.self) new implied_plan (through_named_plan (text_of known.Form)) c.in_ok-implied.ensures
    (subst Q c.of_known-then-branch.ensures c.through_named.ensures)))

pub returns-else-branch : goal.returns-else-branch
returns-else-branch g c =
    let old = sight g.B.Below.heard c.args.self.now in
    let found = sight g.B.Below.heard c.in_scope.new.self in
    let P : Bool → Type 0 = λ b. Carries (Ok tt) found found (λ v. either through_form_plan leaves_it b v) in
    let R : List ℕ → Type 0 = λ name. Finds old found (in_scope_plan scope.Default (kinds.Html name)) c.in_ok-in_scope.field-0 in
    carries_then (Ok tt) old found found
    (in_scope_plan scope.Default (kinds.Html (text_of known.Form))) (λ v b. either through_form_plan leaves_it b v) c.in_ok-in_scope.field-0 (subst R c.of_known.ensures c.in_ok-in_scope.ensures)
    (subst P (sym c.if-branch.false) (gives_at_once found.heard found.split))
