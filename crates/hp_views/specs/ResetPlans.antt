-- The insertion mode is reset by the elements from the current node down (13.2.4.1): what is asked of the older state.
use Rattle.std.specs.Prelude.{Bool, true, false, not, ◌&&◌, ◌==◌, length, if◌then◌else◌, List, [], ◌∷◌, Option, Some, None}
use Rattle.std.specs.Option.{is_some}
use Rattle.hp_elements.specs.KnownNames as known
use Rattle.hp_elements.specs.declared.token.Mode.{Mode}
use Rattle.hp_elements.specs.declared.token.Mode.TheVariants as mode
use Rattle.hp_control.specs.declared.element.OpenElement.{OpenElement}
use Rattle.hp_control.specs.Faithful.{Page, Split}
use Rattle.hp_control.specs.Plan.{Plan, gives, followed_by}
use Rattle.hp_control.specs.States.{is_named, is_template}
use Rattle.hp_control.specs.Walks.{is_cell, mode_of, last_template_mode, html_mode, select_mode}
use Rattle.hp_views.specs.declared.reset.Decides.{Decides}
use Rattle.hp_views.specs.declared.reset.Decides.TheVariants.{Nothing, Select, To}
use Rattle.hp_views.specs.Asking.{ask_reset}
use Rattle.hp_views.specs.FieldPlans.{with_change, in_mode}
use Rattle.hp_views.specs.PlacePlans.{a_table, a_template}
use Rattle.hp_views.specs.StackPlans.{seen_on}
use Rattle.hp_views.specs.Walks.{walk_of}

-- no element is below these; over an older state there is one
abbrev pub is_first : Option Page → List OpenElement → Bool
is_first None below = false
is_first (Some p) below = length below == 0

abbrev pub has_head : Option Page → Bool
has_head None = true
has_head (Some p) = is_some p.head

abbrev pub mode_or_nothing : Option Mode → Decides
mode_or_nothing None = Nothing
mode_or_nothing (Some m) = To m

-- what an own element decides: whether it is the first of all, and whether the page has a head
abbrev pub decided_by : Bool → Bool → List Mode → OpenElement → Decides
decided_by is_the_first head templates e =
    if is_named known.Select e then Select
    else if is_cell e && not is_the_first then To mode.InCell
    else if is_template e then To (last_template_mode templates)
    else if is_named known.Head e && not is_the_first then To mode.InHead
    else if is_named known.Html e then To (html_mode head)
    else mode_or_nothing (mode_of e)

-- seen with the own ones below it
abbrev pub decides : Option Page → List Mode → OpenElement → List OpenElement → Decides
decides page templates e below = decided_by (is_first page below) (has_head page) templates e

abbrev pub decides_at : Split → List OpenElement → Decides
decides_at v [] = Nothing
decides_at v (e ∷ es) = decides v.page v.change.templates e es

abbrev pub to_mode : Split → Mode → Split
to_mode v m = with_change (in_mode m v.change) v

-- whether a table stands below a select before a template does
abbrev pub table_plan : Split → List OpenElement → Plan Bool
table_plan v below = seen_on v.change.popped a_table a_template (walk_of a_table a_template below)

abbrev pub select_plan : Split → List OpenElement → Plan Split
select_plan v below = followed_by (table_plan v below) (λ b. gives (to_mode v (select_mode b)))

abbrev pub reset_by : Split → List OpenElement → Decides → Plan Split → Plan Split
reset_by v below Nothing rest = rest
reset_by v below Select rest = select_plan v below
reset_by v below (To m) rest = gives (to_mode v m)

abbrev pub reset_on : Split → List OpenElement → Plan Split
reset_on v [] = followed_by (ask_reset v.change.popped) (λ m. gives (to_mode v m))
reset_on v (e ∷ es) = reset_by v es (decides v.page v.change.templates e es) (reset_on v es)

abbrev pub reset_plan : Split → Plan Split
reset_plan v = reset_on v v.change.stack
