-- The end of a form (13.2.6.4.7): what it asks of the older state and what it changes of a view.
use Rattle.std.specs.Prelude.{ℕ, ◌+◌, ◌==◌, if◌then◌else◌, nat_lt, List, [], ◌∷◌}
use Rattle.hp_elements.specs.declared.kinds.Kinds.TheVariants as kinds
use Rattle.hp_control.specs.declared.change.FormChange.{FormChange}
use Rattle.hp_control.specs.declared.change.FormChange.TheVariants as form
use Rattle.hp_control.specs.declared.element.OpenElement.{OpenElement}
use Rattle.hp_control.specs.declared.question.Crossing.TheVariants.{X3}
use Rattle.hp_control.specs.Faithful.{Split}
use Rattle.hp_control.specs.Plan.{Plan, gives, crosses, followed_by}
use Rattle.hp_control.specs.Walks.{scope_ends}
use Rattle.hp_views.specs.declared.asking.Pointed.{Pointed}
use Rattle.hp_views.specs.declared.asking.Pointed.TheVariants.{Nowhere, Away, Here}
use Rattle.hp_views.specs.declared.walks.Walk.{Walk}
use Rattle.hp_views.specs.declared.walks.Walk.TheVariants.{Found, PastAll}
use Rattle.hp_views.specs.Asking.{ask_pointer}
use Rattle.hp_views.specs.ClosingPlans.{first_then, by_test, implied_plan, end_form_in_template_plan}
use Rattle.hp_views.specs.FieldPlans.{with_change, form_cleared}
use Rattle.hp_views.specs.RemovePlans.{take_off_plan}
use Rattle.hp_views.specs.StackPlans.{pop_plan, template_plan}
use Rattle.hp_views.specs.Walks.{walk_of, id_scope_walk}

abbrev pub form_emptied : Split → Split
form_emptied v = with_change (form_cleared v.change) v

-- an own form: its element leaves the stack where no end of a scope stands above it
abbrev pub own_form_on : ℕ → Split → Walk → Plan Split
own_form_on id w (Found k) = first_then implied_plan (take_off_plan id) w
own_form_on id w _ = gives w

abbrev pub own_form_plan : ℕ → Split → Plan Split
own_form_plan id v = own_form_on id (form_emptied v) (id_scope_walk id v.change.stack)

-- the older element at that depth leaves the stack, where it stands there still: only the current node can be popped
abbrev pub older_off_at : ℕ → Split → List OpenElement → Plan Split
older_off_at depth v [] = if depth == v.change.popped then pop_plan v else crosses X3
older_off_at depth v (e ∷ es) = crosses X3

abbrev pub older_off_plan : ℕ → Split → Plan Split
older_off_plan depth v = if nat_lt depth v.change.popped then gives v else older_off_at depth v v.change.stack

-- a form of the older state, which is in scope there or isn't
abbrev pub pointed_plan : Split → Pointed → Plan Split
pointed_plan w Nowhere = gives w
pointed_plan w Away = gives w
pointed_plan w (Here k) = first_then implied_plan (older_off_plan (w.change.popped + k)) w

-- where an own end of a scope stands above what is older, no older form is in scope, and where the pointer points isn't asked
abbrev pub older_form_on : Split → Walk → Plan Split
older_form_on v PastAll = followed_by (ask_pointer v.change.popped) (pointed_plan (form_emptied v))
older_form_on v _ = gives (form_emptied v)

abbrev pub older_form_plan : Split → Plan Split
older_form_plan v = older_form_on v (walk_of kinds.Nothing scope_ends v.change.stack)

abbrev pub outside_on : FormChange → Split → Plan Split
outside_on form.Cleared v = gives v
outside_on (form.Own id) v = own_form_plan id v
outside_on form.Kept v = older_form_plan v

-- outside of templates the pointer is emptied
abbrev pub outside_plan : Split → Plan Split
outside_plan v = outside_on v.change.form v

abbrev pub end_form_plan : Split → Plan Split
end_form_plan = by_test template_plan end_form_in_template_plan outside_plan
