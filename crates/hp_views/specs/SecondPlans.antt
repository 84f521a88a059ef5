-- The second element, template modes, and whether the current node is foreign: what each test asks of the older state.
use Rattle.std.specs.Prelude.{ℕ, ◌+◌, ◌==◌, Bool, true, false, not, List, [], ◌∷◌, length, Option, Some, None}
use Rattle.hp_elements.specs.declared.kinds.Kinds.TheVariants as kinds
use Rattle.hp_elements.specs.KnownNames as known
use Rattle.hp_elements.specs.declared.token.Mode.{Mode}
use Rattle.hp_control.specs.declared.element.OpenElement.{OpenElement}
use Rattle.hp_control.specs.Faithful.{Page, Split}
use Rattle.hp_control.specs.Plan.{Plan, gives, followed_by}
use Rattle.hp_control.specs.States.{is_html, is_named}
use Rattle.hp_control.specs.Walks.{second_is_body}
use Rattle.hp_views.specs.Asking.{ask_seen, ask_body, ask_there, ask_foreign}

-- the first element is the HTML body
abbrev pub last_is_body : List OpenElement → Bool
last_is_body [] = false
last_is_body (e ∷ []) = is_named known.Body e
last_is_body (e ∷ f ∷ es) = last_is_body (f ∷ es)

-- whether the first own element is the second of all, by whether another stands below the current one of the older
abbrev pub second_by : ℕ → Bool → Plan Bool
second_by popped true = ask_body popped
second_by popped false = gives true

abbrev pub second_of_own_plan : ℕ → Plan Bool
second_of_own_plan popped = followed_by (ask_there (popped + 1)) (second_by popped)

-- an own element is no body in a page; where it is one, it matters whether it is the second of all
abbrev pub second_older_on : ℕ → Bool → Plan Bool
second_older_on popped true = second_of_own_plan popped
second_older_on popped false = ask_body popped

abbrev pub second_older_plan : Split → Plan Bool
second_older_plan v = second_older_on v.change.popped (last_is_body v.change.stack)

abbrev pub second_on : Option Page → Split → Plan Bool
second_on None v = second_older_plan v
second_on (Some p) v = gives (second_is_body v.change.stack)

abbrev pub second_plan : Split → Plan Bool
second_plan v = second_on v.page v

abbrev pub own_modes : List Mode → Bool
own_modes ms = not (length ms == 0)

-- whether the current node of the older stack isn't an HTML element
abbrev pub foreign_by : ℕ → Bool → Plan Bool
foreign_by popped true = gives false
foreign_by popped false = ask_foreign popped

abbrev pub foreign_below_plan : ℕ → Plan Bool
foreign_below_plan popped = followed_by (ask_seen popped kinds.AnyHtml kinds.All) (foreign_by popped)

abbrev pub foreign_on : ℕ → List OpenElement → Plan Bool
foreign_on popped [] = foreign_below_plan popped
foreign_on popped (e ∷ es) = gives (not (is_html e))

abbrev pub foreign_now_plan : Split → Plan Bool
foreign_now_plan v = foreign_on v.change.popped v.change.stack
