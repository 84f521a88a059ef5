-- What the rules test of the stack and of the other facts, and how elements are popped: each as what it asks of the older
-- state and what it changes of a view.
use Rattle.std.specs.Prelude.{ℕ, ◌+◌, Bool, true, false, List, [], ◌∷◌, length, Option, Some, None, drop}
use Rattle.hp_elements.specs.Names.{text_of}
use Rattle.hp_elements.specs.declared.act.Scope.{Scope}
use Rattle.hp_elements.specs.declared.kinds.Kinds.{Kinds}
use Rattle.hp_elements.specs.declared.kinds.Kinds.TheVariants as kinds
use Rattle.hp_elements.specs.KnownNames as known
use Rattle.hp_elements.specs.declared.token.Mode.{Mode}
use Rattle.hp_elements.specs.declared.token.Mode.TheVariants as mode
use Rattle.hp_control.specs.declared.change.Change.{Change}
use Rattle.hp_control.specs.declared.change.FormChange.{FormChange}
use Rattle.hp_control.specs.declared.change.FormChange.TheVariants as form
use Rattle.hp_control.specs.declared.element.OpenElement.{OpenElement}
use Rattle.hp_control.specs.declared.question.Crossing.TheVariants.{X5}
use Rattle.hp_control.specs.Acts.{popped_by}
use Rattle.hp_control.specs.Composed.{ends_of}
use Rattle.hp_control.specs.Faithful.{Page, Split}
use Rattle.hp_control.specs.KindTests.{within}
use Rattle.hp_control.specs.Plan.{Plan, gives, crosses, followed_by}
use Rattle.hp_views.specs.declared.walks.Walk.{Walk}
use Rattle.hp_views.specs.declared.walks.Walk.TheVariants.{Found, Stopped, PastAll}
use Rattle.hp_views.specs.declared.asking.Pointed.{Pointed}
use Rattle.hp_views.specs.declared.asking.Pointed.TheVariants.{Nowhere}
use Rattle.hp_views.specs.Asking.{ask_seen, ask_reach, ask_run, ask_template, ask_pointer, ask_quirks, ask_frameset}
use Rattle.hp_views.specs.Walks.{walk_of, run_walk}

-- whether a goal stands above each stop
abbrev pub seen_on : ℕ → Kinds → Kinds → Walk → Plan Bool
seen_on popped goals stops (Found k) = gives true
seen_on popped goals stops Stopped = gives false
seen_on popped goals stops PastAll = ask_seen popped goals stops

abbrev pub seen_plan : Kinds → Kinds → Split → Plan Bool
seen_plan goals stops v = seen_on v.change.popped goals stops (walk_of goals stops v.change.stack)

-- whether an element of these kinds is in that scope
abbrev pub in_scope_plan : Scope → Kinds → Split → Plan Bool
in_scope_plan where_ goals v = seen_plan goals (kinds.Set (ends_of where_)) v

-- whether the current node is of these kinds
abbrev pub current_on : ℕ → Kinds → List OpenElement → Plan Bool
current_on popped goals [] = ask_seen popped goals kinds.All
current_on popped goals (e ∷ es) = gives (within goals e)

abbrev pub current_is_plan : Kinds → Split → Plan Bool
current_is_plan goals v = current_on v.change.popped goals v.change.stack

-- whether the element next below the current node is
abbrev pub below_on : ℕ → Kinds → List OpenElement → Plan Bool
below_on popped goals [] = ask_seen (popped + 1) goals kinds.All
below_on popped goals (e ∷ es) = current_on popped goals es

abbrev pub below_is_plan : Kinds → Split → Plan Bool
below_is_plan goals v = below_on v.change.popped goals v.change.stack

-- whether a template is open
abbrev pub template_on : ℕ → Walk → Plan Bool
template_on popped (Found k) = gives true
template_on popped _ = ask_template popped

abbrev pub template_plan : Split → Plan Bool
template_plan v = template_on v.change.popped (walk_of (kinds.Html (text_of known.Template)) kinds.Nothing v.change.stack)

-- whether a frameset may replace the body
abbrev pub ok_on : Option Page → Bool → ℕ → Plan Bool
ok_on page true popped = gives false
ok_on (Some p) false popped = gives true
ok_on None false popped = ask_frameset popped

abbrev pub frameset_ok_plan : Split → Plan Bool
frameset_ok_plan v = ok_on v.page v.change.frameset_off v.change.popped

abbrev pub is_quirks_on : Option Page → Plan Bool
is_quirks_on None = ask_quirks
is_quirks_on (Some p) = gives p.quirks

abbrev pub is_quirks_plan : Split → Plan Bool
is_quirks_plan v = is_quirks_on v.page

abbrev pub is_pointed : Pointed → Bool
is_pointed Nowhere = false
is_pointed _ = true

-- whether the form pointer points anywhere
abbrev pub form_on : ℕ → FormChange → Plan Bool
form_on popped form.Kept = followed_by (ask_pointer popped) (λ p. gives (is_pointed p))
form_on popped form.Cleared = gives false
form_on popped (form.Own id) = gives true

abbrev pub has_form_plan : Split → Plan Bool
has_form_plan v = form_on v.change.popped v.change.form

abbrev pub is_table_mode : Mode → Bool
is_table_mode mode.InTable = true
is_table_mode mode.InCaption = true
is_table_mode mode.InTableBody = true
is_table_mode mode.InRow = true
is_table_mode mode.InCell = true
is_table_mode _ = false

-- so many own elements popped; without an older state the last one stays
abbrev pub own_popped_on : Option Page → ℕ → List OpenElement → List OpenElement
own_popped_on None k es = drop k es
own_popped_on (Some p) k es = popped_by k es

abbrev pub own_popped : ℕ → Split → Split
own_popped k v = record v { change = record v.change { stack = own_popped_on v.page k v.change.stack } }

-- all own ones popped, and so many older ones
abbrev pub past_own : Option Page → ℕ → Change → Change
past_own None n c = record c { stack = []; popped = c.popped + n }
past_own (Some p) n c = record c { stack = popped_by (length c.stack) c.stack }

abbrev pub all_popped : ℕ → Split → Split
all_popped n v = record v { change = past_own v.page n v.change }

-- pops the current node
abbrev pub pop_on : Split → List OpenElement → Plan Split
pop_on v [] = gives (all_popped 1 v)
pop_on v (e ∷ es) = gives (own_popped 1 v)

abbrev pub pop_plan : Split → Plan Split
pop_plan v = pop_on v v.change.stack

-- pops while the current node is of these kinds
abbrev pub pop_run_on : Kinds → Split → Walk → Plan Split
pop_run_on names v (Found k) = gives (own_popped k v)
pop_run_on names v _ = followed_by (ask_run v.change.popped names) (λ n. gives (all_popped n v))

abbrev pub pop_run_plan : Kinds → Split → Plan Split
pop_run_plan names v = pop_run_on names v (run_walk names v.change.stack)

-- pops until the current node is of these kinds
abbrev pub pop_to_older : Split → Option ℕ → Split
pop_to_older v None = all_popped 0 v
pop_to_older v (Some k) = all_popped k v

abbrev pub pop_to_on : Kinds → Split → Walk → Plan Split
pop_to_on goals v (Found k) = gives (own_popped k v)
pop_to_on goals v _ = followed_by (ask_reach v.change.popped goals kinds.Nothing) (λ o. gives (pop_to_older v o))

abbrev pub pop_to_plan : Kinds → Split → Plan Split
pop_to_plan goals v = pop_to_on goals v (walk_of goals kinds.Nothing v.change.stack)

-- pops up to and with the first goal, unless a stop stands above it
abbrev pub through_older : Split → Option ℕ → Split
through_older v None = v
through_older v (Some k) = all_popped (k + 1) v

abbrev pub through_on : Kinds → Kinds → Split → Walk → Plan Split
through_on goals stops v (Found k) = gives (own_popped (k + 1) v)
through_on goals stops v Stopped = gives v
through_on goals stops v PastAll = followed_by (ask_reach v.change.popped goals stops) (λ o. gives (through_older v o))

abbrev pub through_plan : Kinds → Kinds → Split → Plan Split
through_plan goals stops v = through_on goals stops v (walk_of goals stops v.change.stack)

-- pops all but the first element
abbrev pub pop_to_first_on : Option Page → Split → Plan Split
pop_to_first_on None v = crosses X5
pop_to_first_on (Some p) v = gives (all_popped 0 v)

abbrev pub pop_to_first_plan : Split → Plan Split
pop_to_first_plan v = pop_to_first_on v.page v
