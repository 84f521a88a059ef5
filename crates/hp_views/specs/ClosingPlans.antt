-- Closing elements with what their ends imply, and steps one after the other or by a test (13.2.6.3, 13.2.6.4.7).
use Rattle.std.specs.Prelude.{ℕ, Bool, true, false, List}
use Rattle.hp_elements.specs.Names.{text_of}
use Rattle.hp_elements.specs.declared.act.Scope.TheVariants as scope
use Rattle.hp_elements.specs.declared.kinds.Kinds.TheVariants as kinds
use Rattle.hp_elements.specs.declared.known.Known.{Known}
use Rattle.hp_elements.specs.KnownNames as known
use Rattle.hp_elements.specs.declared.sets.SetName.TheVariants as sets
use Rattle.hp_control.specs.Composed.{implied_but}
use Rattle.hp_control.specs.Faithful.{Split}
use Rattle.hp_control.specs.Plan.{Plan, gives, followed_by}
use Rattle.hp_views.specs.StackPlans.{in_scope_plan, pop_run_plan, through_plan}

-- the first, then the second
abbrev pub first_then : (Split → Plan Split) → (Split → Plan Split) → Split → Plan Split
first_then p q v = followed_by (p v) q

abbrev pub either : (Split → Plan Split) → (Split → Plan Split) → Bool → Split → Plan Split
either p q true v = p v
either p q false v = q v

-- the first or the second by a test
abbrev pub by_test : (Split → Plan Bool) → (Split → Plan Split) → (Split → Plan Split) → Split → Plan Split
by_test t p q v = followed_by (t v) (λ b. either p q b v)

abbrev pub leaves_it : Split → Plan Split
leaves_it v = gives v

abbrev pub implied_plan : Split → Plan Split
implied_plan = pop_run_plan (kinds.Set sets.Implied)

abbrev pub implied_except_plan : Known → Split → Plan Split
implied_except_plan name = pop_run_plan (kinds.Set (implied_but name))

abbrev pub implied_thoroughly_plan : Split → Plan Split
implied_thoroughly_plan = pop_run_plan (kinds.Set sets.ThoroughlyImplied)

abbrev pub through_named_plan : List ℕ → Split → Plan Split
through_named_plan name = through_plan (kinds.Html name) kinds.Nothing

-- at an end tag that no row names
abbrev pub walk_plan : List ℕ → Split → Plan Split
walk_plan name = through_plan (kinds.Html name) (kinds.Set sets.Special)

-- the element of that name with what its end implies
abbrev pub close_plan : Known → Split → Plan Split
close_plan name = first_then (implied_except_plan name) (through_named_plan (text_of name))

abbrev pub close_paragraph_plan : Split → Plan Split
close_paragraph_plan = by_test (in_scope_plan scope.Button (kinds.Html (text_of known.P))) (close_plan known.P) leaves_it

-- the list item, and the term or description, that a new one ends: popped up to and with it, unless a barrier stands above it
abbrev pub close_item_plan : Split → Plan Split
close_item_plan = through_plan (kinds.Html (text_of known.Li)) (kinds.Set sets.ItemBarriers)

abbrev pub close_description_plan : Split → Plan Split
close_description_plan = through_plan (kinds.Set sets.DescriptionItems) (kinds.Set sets.ItemBarriers)

abbrev pub through_form_plan : Split → Plan Split
through_form_plan = first_then implied_plan (through_named_plan (text_of known.Form))

-- the end of a form in a template
abbrev pub end_form_in_template_plan : Split → Plan Split
end_form_in_template_plan = by_test (in_scope_plan scope.Default (kinds.Html (text_of known.Form))) through_form_plan leaves_it
