-- Closing elements: each plan does to a view what its act does to the whole state.
use Rattle.std.specs.Prelude.{◌≡◌, ℕ, Bool, List, refl}
use Rattle.std.proofs.Common.{subst}
use Rattle.hp_elements.specs.Names.{text_of}
use Rattle.hp_elements.specs.declared.act.Scope.TheVariants as scope
use Rattle.hp_elements.specs.declared.kinds.Kinds.{Kinds}
use Rattle.hp_elements.specs.declared.kinds.Kinds.TheVariants as kinds
use Rattle.hp_elements.specs.declared.known.Known.{Known}
use Rattle.hp_elements.specs.KnownNames as known
use Rattle.hp_elements.specs.declared.sets.SetName.TheVariants as sets
use Rattle.hp_control.specs.Acts.{through, through_named, walk}
use Rattle.hp_control.specs.Composed.{implied_but, implied, implied_except, implied_thoroughly, close, close_paragraph, close_item, close_description, end_form_in_template, named_in_scope}
use Rattle.hp_control.specs.Faithful.{Split, state_over, Faithful, FaithfulTest, IsSaid, Matches, faithful_then, faithful_test, faithful_nothing}
use Rattle.hp_control.specs.Outcome.{Act, Outcome, nothing_done, choose, and_then}
use Rattle.hp_control.specs.Plan.{Plan, end_by}
use Rattle.hp_control.specs.States.{ControlState}
use Rattle.hp_control.specs.Truth.{answer_of}
use Rattle.hp_views.specs.ClosingPlans.{first_then, either, by_test, leaves_it, implied_plan, implied_except_plan, implied_thoroughly_plan, through_named_plan, walk_plan, close_plan, close_paragraph_plan, close_item_plan, close_description_plan, end_form_in_template_plan}
use Rattle.hp_views.specs.ItemLaws.{item_walk, description_walk}
use Rattle.hp_views.specs.PopLaws.{pop_run_faithful, through_faithful}
use Rattle.hp_views.specs.StackLaws.{in_scope_faithful}
use Rattle.hp_views.specs.StackPlans.{in_scope_plan, through_plan}

pub by_test_faithful : (t : Split → Plan Bool) (test : ControlState → Bool) (p q : Split → Plan Split) (f g : Act) → FaithfulTest t test → Faithful p f → Faithful q g → Faithful (by_test t p q) (choose test f g)
by_test_faithful t test p q f g d h k = faithful_test t test (either p q) f g d h k

pub implied_faithful : Faithful implied_plan implied
implied_faithful = pop_run_faithful (kinds.Set sets.Implied)

pub implied_except_faithful : (name : Known) → Faithful (implied_except_plan name) (implied_except name)
implied_except_faithful name = pop_run_faithful (kinds.Set (implied_but name))

pub implied_thoroughly_faithful : Faithful implied_thoroughly_plan implied_thoroughly
implied_thoroughly_faithful = pop_run_faithful (kinds.Set sets.ThoroughlyImplied)

pub through_named_faithful : (name : List ℕ) → Faithful (through_named_plan name) (through_named name)
through_named_faithful name = through_faithful (kinds.Html name) kinds.Nothing

pub walk_faithful : (name : List ℕ) → Faithful (walk_plan name) (walk name)
walk_faithful name = through_faithful (kinds.Html name) (kinds.Set sets.Special)

pub close_faithful : (name : Known) → Faithful (close_plan name) (close name)
close_faithful name = faithful_then (implied_except_plan name) (through_named_plan (text_of name)) (implied_except name) (through_named (text_of name)) (implied_except_faithful name) (through_named_faithful (text_of name))

pub close_paragraph_faithful : Faithful close_paragraph_plan close_paragraph
close_paragraph_faithful = by_test_faithful (in_scope_plan scope.Button (kinds.Html (text_of known.P))) (named_in_scope scope.Button (text_of known.P)) (close_plan known.P) leaves_it (close known.P) nothing_done (in_scope_faithful scope.Button (kinds.Html (text_of known.P))) (close_faithful known.P) faithful_nothing

-- a walk whose act is another in each state
walk_of_act : (goals stops : Kinds) (act : Act) → ((c : ControlState) → through goals stops c ≡ act c) → Faithful (through_plan goals stops) act
walk_of_act goals stops act same = λ s v st fit u.
    let P : Outcome → Type 0 = λ o. IsSaid v.page o → Matches s v (end_by (answer_of s) (through_plan goals stops v)) o in
    subst P (same (state_over v s)) (λ m. through_faithful goals stops s v st refl m) u

pub close_item_faithful : Faithful close_item_plan close_item
close_item_faithful = walk_of_act (kinds.Html (text_of known.Li)) (kinds.Set sets.ItemBarriers) close_item item_walk

pub close_description_faithful : Faithful close_description_plan close_description
close_description_faithful = walk_of_act (kinds.Set sets.DescriptionItems) (kinds.Set sets.ItemBarriers) close_description description_walk

pub end_form_in_template_faithful : Faithful end_form_in_template_plan end_form_in_template
end_form_in_template_faithful =
    by_test_faithful (in_scope_plan scope.Default (kinds.Html (text_of known.Form))) (named_in_scope scope.Default (text_of known.Form)) (first_then implied_plan (through_named_plan (text_of known.Form))) leaves_it
    (and_then implied (through_named (text_of known.Form))) nothing_done
    (in_scope_faithful scope.Default (kinds.Html (text_of known.Form)))
    (faithful_then implied_plan (through_named_plan (text_of known.Form)) implied (through_named (text_of known.Form)) implied_faithful (through_named_faithful (text_of known.Form)))
    faithful_nothing
