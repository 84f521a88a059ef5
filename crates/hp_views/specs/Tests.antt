-- What each test of a view asks, what it means of a full state, and the law that ties the two.
use Rattle.std.specs.Prelude.{◌≡◌, ℕ, Bool, List}
use Rattle.hp_elements.specs.declared.act.Scope.{Scope}
use Rattle.hp_elements.specs.declared.kinds.Kinds.{Kinds}
use Rattle.hp_control.specs.Composed.{in_scope, current_is, below_is, template_in_stack, is_frameset_ok, is_quirks, has_form, is_listed, is_second_body, is_foreign_now}
use Rattle.hp_views.specs.SecondLaws.{second_faithful, foreign_now_faithful}
use Rattle.hp_views.specs.SecondPlans.{second_plan, foreign_now_plan}
use Rattle.hp_control.specs.Faithful.{Split, FaithfulTest}
use Rattle.hp_control.specs.Plan.{Plan}
use Rattle.hp_control.specs.States.{ControlState}
use Rattle.hp_views.specs.ListLaws.{listed_faithful}
use Rattle.hp_views.specs.ListPlans.{listed_plan}
use Rattle.hp_views.specs.StackLaws.{seen_in, seen_faithful, in_scope_faithful, current_faithful, below_faithful, template_faithful, frameset_ok_faithful, is_quirks_faithful, form_faithful}
use Rattle.hp_views.specs.StackPlans.{seen_plan, in_scope_plan, current_is_plan, below_is_plan, template_plan, frameset_ok_plan, is_quirks_plan, has_form_plan}

pub record Test : Type 0 where
  pub plan : Split → Plan Bool
  pub tells : ControlState → Bool
  pub law : FaithfulTest plan tells

abbrev pub seen_test : Kinds → Kinds → Test
seen_test goals stops = record { plan = seen_plan goals stops; tells = seen_in goals stops; law = seen_faithful goals stops }

abbrev pub in_scope_test : Scope → Kinds → Test
in_scope_test where_ goals = record { plan = in_scope_plan where_ goals; tells = in_scope where_ goals; law = in_scope_faithful where_ goals }

abbrev pub current_test : Kinds → Test
current_test goals = record { plan = current_is_plan goals; tells = current_is goals; law = current_faithful goals }

abbrev pub below_test : Kinds → Test
below_test goals = record { plan = below_is_plan goals; tells = below_is goals; law = below_faithful goals }

abbrev pub template_test : Test
template_test = record { plan = template_plan; tells = template_in_stack; law = template_faithful }

abbrev pub frameset_ok_test : Test
frameset_ok_test = record { plan = frameset_ok_plan; tells = is_frameset_ok; law = frameset_ok_faithful }

abbrev pub quirks_test : Test
quirks_test = record { plan = is_quirks_plan; tells = is_quirks; law = is_quirks_faithful }

abbrev pub form_test : Test
form_test = record { plan = has_form_plan; tells = has_form; law = form_faithful }

abbrev pub listed_test : List ℕ → Test
listed_test name = record { plan = listed_plan name; tells = is_listed name; law = listed_faithful name }

abbrev pub second_test : Test
second_test = record { plan = second_plan; tells = is_second_body; law = second_faithful }

abbrev pub foreign_test : Test
foreign_test = record { plan = foreign_now_plan; tells = is_foreign_now; law = foreign_now_faithful }

-- what a test asks, and what it tells
abbrev pub Asks : Test → (Split → Plan Bool) → (ControlState → Bool) → Type 0
Asks test plan tells = (test.plan ≡ plan) × (test.tells ≡ tells)

pub record TestsAre : Type 0 where
  pub seen : (goals stops : Kinds) → Asks (seen_test goals stops) (seen_plan goals stops) (seen_in goals stops)
  pub in_scope : (where_ : Scope) (goals : Kinds) → Asks (in_scope_test where_ goals) (in_scope_plan where_ goals) (in_scope where_ goals)
  pub current : (goals : Kinds) → Asks (current_test goals) (current_is_plan goals) (current_is goals)
  pub below : (goals : Kinds) → Asks (below_test goals) (below_is_plan goals) (below_is goals)
  pub template : Asks template_test template_plan template_in_stack
  pub frameset_ok : Asks frameset_ok_test frameset_ok_plan is_frameset_ok
  pub quirks : Asks quirks_test is_quirks_plan is_quirks
  pub form : Asks form_test has_form_plan has_form
  pub listed : (name : List ℕ) → Asks (listed_test name) (listed_plan name) (is_listed name)
  pub second : Asks second_test second_plan is_second_body
  pub foreign : Asks foreign_test foreign_now_plan is_foreign_now
