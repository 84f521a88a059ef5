-- The list of active formatting elements: what each act asks of the older state and what it changes of a view.
use Rattle.std.specs.Prelude.{ℕ, ◌+◌, Bool, true, false, List, [], ◌∷◌, drop}
use Rattle.hp_elements.specs.declared.tag.Tag.{Tag}
use Rattle.hp_control.specs.declared.change.Change.{Change}
use Rattle.hp_control.specs.declared.element.FormattingEntry.{FormattingEntry}
use Rattle.hp_control.specs.declared.element.FormattingEntry.TheVariants.{Marker, Element}
use Rattle.hp_control.specs.declared.question.EntryKind.{EntryKind}
use Rattle.hp_control.specs.declared.question.EntryKind.TheVariants.{Absent}
use Rattle.hp_control.specs.Faithful.{Split}
use Rattle.hp_control.specs.Plan.{Plan, gives, followed_by}
use Rattle.hp_views.specs.declared.walks.Walk.{Walk}
use Rattle.hp_views.specs.declared.walks.Walk.TheVariants.{Found, Stopped, PastAll}
use Rattle.hp_views.specs.Asking.{ask_listed}
use Rattle.hp_views.specs.FieldPlans.{with_change, own_id}
use Rattle.hp_views.specs.Walks.{marker_of, entry_walk}

abbrev pub with_entries : List FormattingEntry → Change → Change
with_entries es c = record c { formatting = es }

abbrev pub marker_plan : Split → Plan Split
marker_plan v = gives (with_change (with_entries (Marker ∷ v.change.formatting) v.change) v)

-- an entry for the current node
abbrev pub append_plan : Tag → Split → Plan Split
append_plan tag v = gives (with_change (with_entries (Element (own_id v.change.stack) tag ∷ v.change.formatting) v.change) v)

-- down to the last marker, and with it
abbrev pub cut : Change → Change
cut c = record c { formatting = []; cuts = c.cuts + 1 }

abbrev pub clear_on : Split → Walk → Plan Split
clear_on v (Found k) = gives (with_change (with_entries (drop (k + 1) v.change.formatting) v.change) v)
clear_on v _ = gives (with_change (cut v.change) v)

abbrev pub clear_plan : Split → Plan Split
clear_plan v = clear_on v (marker_of v.change.formatting)

abbrev pub is_there : EntryKind → Bool
is_there Absent = false
is_there _ = true

-- whether an entry of that name stands after the last marker
abbrev pub listed_on : List ℕ → Split → Walk → Plan Bool
listed_on name v (Found k) = gives true
listed_on name v Stopped = gives false
listed_on name v PastAll = followed_by (ask_listed v.change.popped v.change.cuts name) (λ s. gives (is_there s.kind))

abbrev pub listed_plan : List ℕ → Split → Plan Bool
listed_plan name v = listed_on name v (entry_walk name v.change.formatting)
