-- The acts and tests of foreign content: what each asks and changes, what it means of a full state, and the law that ties them.
use Rattle.std.specs.Prelude.{ℕ, Bool, List}
use Rattle.hp_elements.specs.declared.tag.Tag.{Tag}
use Rattle.hp_elements.specs.declared.token.Kind.{Kind}
use Rattle.hp_control.specs.Faithful.{any_view}
use Rattle.hp_control.specs.Foreign.{insert_foreign, insert_as_current, pop_to_point, names_foreign, through_foreign, put_replacements}
use Rattle.hp_control.specs.Steps.{Step}
use Rattle.hp_views.specs.Steps.{IsOf}
use Rattle.hp_views.specs.Tests.{Test, Asks}
use Rattle.hp_foreign.specs.Laws.{goes_to_foreign, goes_faithful, names_faithful, insert_foreign_faithful, insert_as_current_faithful, pop_to_point_faithful, through_foreign_faithful, put_replacements_faithful}
use Rattle.hp_foreign.specs.Plans.{goes_plan, names_plan, insert_foreign_plan, insert_as_current_plan, pop_to_point_plan, through_foreign_plan, put_replacements_plan}

abbrev pub goes_test : Kind → Test
goes_test token = record { plan = goes_plan token; tells = goes_to_foreign token; law = goes_faithful token }

abbrev pub names_test : List ℕ → Test
names_test name = record { plan = names_plan name; tells = names_foreign name; law = names_faithful name }

abbrev pub insert_foreign_step : Bool → Bool → Tag → Step
insert_foreign_step fostering self_closing tag = record { plan = insert_foreign_plan fostering self_closing tag; act = insert_foreign fostering self_closing tag; fits = any_view; law = insert_foreign_faithful fostering self_closing tag }

abbrev pub insert_as_current_step : Bool → Bool → Tag → Step
insert_as_current_step fostering self_closing tag = record { plan = insert_as_current_plan fostering self_closing tag; act = insert_as_current fostering self_closing tag; fits = any_view; law = insert_as_current_faithful fostering self_closing tag }

abbrev pub pop_to_point_step : Step
pop_to_point_step = record { plan = pop_to_point_plan; act = pop_to_point; fits = any_view; law = pop_to_point_faithful }

abbrev pub through_foreign_step : List ℕ → Step
through_foreign_step name = record { plan = through_foreign_plan name; act = through_foreign name; fits = any_view; law = through_foreign_faithful name }

abbrev pub put_replacements_step : Bool → List ℕ → Step
put_replacements_step fostering text = record { plan = put_replacements_plan fostering text; act = put_replacements fostering text; fits = any_view; law = put_replacements_faithful fostering text }

-- what each step carries out and means, and what each test asks and tells
pub record StepsAre : Type 0 where
  pub goes : (token : Kind) → Asks (goes_test token) (goes_plan token) (goes_to_foreign token)
  pub names : (name : List ℕ) → Asks (names_test name) (names_plan name) (names_foreign name)
  pub foreign : (fostering self_closing : Bool) (tag : Tag) → IsOf (insert_foreign_step fostering self_closing tag) (insert_foreign_plan fostering self_closing tag) (insert_foreign fostering self_closing tag)
  pub as_current : (fostering self_closing : Bool) (tag : Tag) → IsOf (insert_as_current_step fostering self_closing tag) (insert_as_current_plan fostering self_closing tag) (insert_as_current fostering self_closing tag)
  pub to_point : IsOf pop_to_point_step pop_to_point_plan pop_to_point
  pub through : (name : List ℕ) → IsOf (through_foreign_step name) (through_foreign_plan name) (through_foreign name)
  pub replacements : (fostering : Bool) (text : List ℕ) → IsOf (put_replacements_step fostering text) (put_replacements_plan fostering text) (put_replacements fostering text)
