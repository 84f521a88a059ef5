-- The acts that set one field: what each changes of a view.
use Rattle.std.specs.Prelude.{ℕ, true, if◌then◌else◌, List, [], ◌∷◌, ◌++◌, Option, Some, None}
use Rattle.std.specs.Option.{unwrap_or}
use Rattle.hp_elements.specs.declared.token.Mode.{Mode}
use Rattle.hp_control.specs.declared.change.Change.{Change}
use Rattle.hp_control.specs.declared.change.FormChange.TheVariants as form
use Rattle.hp_control.specs.declared.element.OpenElement.{OpenElement}
use Rattle.hp_control.specs.declared.question.Crossing.TheVariants.{X4, X6, X7}
use Rattle.hp_control.specs.Faithful.{Page, Split}
use Rattle.hp_control.specs.Plan.{Plan, gives, crosses}

abbrev pub with_change : Change → Split → Split
with_change c v = record v { change = c }

abbrev pub with_page_facts : Page → Split → Split
with_page_facts p v = record v { page = Some p }

abbrev pub frameset_off : Change → Change
frameset_off c = record c { frameset_off = true }

abbrev pub frameset_plan : Split → Plan Split
frameset_plan v = gives (with_change (frameset_off v.change) v)

abbrev pub skipping : Change → Change
skipping c = record c { skip_lf = true }

abbrev pub skip_plan : Split → Plan Split
skip_plan v = gives (with_change (skipping v.change) v)

abbrev pub in_mode : Mode → Change → Change
in_mode m c = record c { mode = m }

abbrev pub switch_plan : Mode → Split → Plan Split
switch_plan m v = gives (with_change (in_mode m v.change) v)

abbrev pub original_kept : Change → Change
original_kept c = record c { original = Some c.mode }

abbrev pub keep_plan : Split → Plan Split
keep_plan v = gives (with_change (original_kept v.change) v)

abbrev pub back_to_original : Change → Change
back_to_original c = record c { mode = unwrap_or c.original c.mode; original = None }

abbrev pub original_plan : Split → Plan Split
original_plan v = gives (with_change (back_to_original v.change) v)

abbrev pub with_templates : List Mode → Change → Change
with_templates ms c = record c { templates = ms }

abbrev pub push_mode_plan : Mode → Split → Plan Split
push_mode_plan m v = gives (with_change (with_templates (m ∷ v.change.templates) v.change) v)

-- the last template mode, where it is the view's own; without an older state there may be none, and nothing is done
abbrev pub last_mode_on : Option Page → Split → Plan Split
last_mode_on None v = crosses X6
last_mode_on (Some p) v = gives v

abbrev pub pop_mode_on : List Mode → Split → Plan Split
pop_mode_on [] v = last_mode_on v.page v
pop_mode_on (m ∷ ms) v = gives (with_change (with_templates ms v.change) v)

abbrev pub pop_mode_plan : Split → Plan Split
pop_mode_plan v = pop_mode_on v.change.templates v

abbrev pub replace_mode_on : Mode → List Mode → Split → Plan Split
replace_mode_on new [] v = last_mode_on v.page v
replace_mode_on new (m ∷ ms) v = gives (with_change (with_templates (new ∷ ms) v.change) v)

abbrev pub replace_mode_plan : Mode → Split → Plan Split
replace_mode_plan new v = replace_mode_on new v.change.templates v

abbrev pub form_cleared : Change → Change
form_cleared c = record c { form = form.Cleared }

abbrev pub empty_form_plan : Split → Plan Split
empty_form_plan v = gives (with_change (form_cleared v.change) v)

abbrev pub form_at : List OpenElement → Change → Change
form_at [] c = c
form_at (e ∷ es) c = record c { form = form.Own e.id }

abbrev pub point_form_plan : Split → Plan Split
point_form_plan v = gives (with_change (form_at v.change.stack v.change) v)

-- the page's facts, which no chunk knows
abbrev pub quirks_on : Option Page → Split → Plan Split
quirks_on None v = crosses X4
quirks_on (Some p) v = gives (with_page_facts (record p { quirks = true }) v)

abbrev pub quirks_plan : Split → Plan Split
quirks_plan v = quirks_on v.page v

abbrev pub own_id : List OpenElement → ℕ
own_id [] = 0
own_id (e ∷ es) = e.id

abbrev pub head_on : Option Page → Split → Plan Split
head_on None v = crosses X4
head_on (Some p) v = gives (with_page_facts (record p { head = Some (own_id v.change.stack) }) v)

abbrev pub point_head_plan : Split → Plan Split
point_head_plan v = head_on v.page v

abbrev pub with_pending : List ℕ → Change → Change
with_pending text c = record c { pending = text }

abbrev pub empty_pending_plan : Split → Plan Split
empty_pending_plan v = if v.older_text then crosses X7 else gives (with_change (with_pending [] v.change) v)

abbrev pub append_pending_plan : List ℕ → Split → Plan Split
append_pending_plan text v = gives (with_change (with_pending (v.change.pending ++ text) v.change) v)
