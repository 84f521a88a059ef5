-- An element put into the list: what that asks of the older state and what it changes of a view (13.2.4.3).
use Rattle.std.specs.Prelude.{ℕ, suc, ◌-◌, Bool, true, false, if◌then◌else◌, nat_lt, List, [], ◌∷◌, Option, Some, None}
use Rattle.hp_elements.specs.declared.tag.Tag.{Tag}
use Rattle.hp_control.specs.declared.element.FormattingEntry.{FormattingEntry}
use Rattle.hp_control.specs.declared.element.FormattingEntry.TheVariants.{Marker, Element}
use Rattle.hp_control.specs.declared.question.Crossing.TheVariants.{X1}
use Rattle.hp_control.specs.Faithful.{Page, Split}
use Rattle.hp_control.specs.Plan.{Plan, gives, crosses, followed_by}
use Rattle.hp_control.specs.Walks.{same_tag}
use Rattle.hp_views.specs.Asking.{ask_same}
use Rattle.hp_views.specs.ListPlans.{append_plan}
use Rattle.hp_views.specs.RemovePlans.{remove_entry_plan}

-- how many entries down to the last marker are equal to a tag, the id of the earliest of them, and whether there is a marker
pub record Tally : Type 0 where
  pub count : ℕ
  pub earliest : ℕ
  pub ended : Bool

abbrev pub tally_on : Bool → ℕ → ℕ → ℕ → (ℕ → ℕ → Tally) → Tally
tally_on true count earliest id next = next (suc count) id
tally_on false count earliest id next = next count earliest

-- so many were met above, the last of them with this id
abbrev pub tally : Tag → List FormattingEntry → ℕ → ℕ → Tally
tally tag [] count earliest = record { count = count; earliest = earliest; ended = false }
tally tag (Marker ∷ es) count earliest = record { count = count; earliest = earliest; ended = true }
tally tag (Element id other ∷ es) count earliest = tally_on (same_tag tag other) count earliest id (tally tag es)

-- how many older entries are equal to the tag
abbrev pub older_equals : Option Page → ℕ → Tag → Plan ℕ
older_equals None cuts tag = ask_same cuts tag
older_equals (Some p) cuts tag = gives 0

-- of three the earliest goes
abbrev pub room_with : Tally → Split → ℕ → Plan Split
room_with own v older =
    if nat_lt older (3 - own.count) then gives v
    else if nat_lt 0 older then crosses X1
    else remove_entry_plan own.earliest v

abbrev pub room_by : Bool → Tag → Tally → Split → Plan Split
room_by true tag own v = room_with own v 0
room_by false tag own v = followed_by (older_equals v.page v.change.cuts tag) (room_with own v)

abbrev pub room_plan : Tag → Split → Plan Split
room_plan tag v = room_by (tally tag v.change.formatting 0 0).ended tag (tally tag v.change.formatting 0 0) v

abbrev pub append_to_list_plan : Tag → Split → Plan Split
append_to_list_plan tag v = followed_by (room_plan tag v) (append_plan tag)
