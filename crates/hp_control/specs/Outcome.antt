-- What an act makes of a state, and acts one after the other.
use Rattle.std.specs.Prelude.{ℕ, Bool, true, false, ◌&&◌, ◌||◌, if◌then◌else◌, List, [], ◌++◌, length, nat_lt, nat_le}
use Rattle.std.specs.List.{list_any}
use Rattle.hp_control.specs.declared.edit.Edit.{Edit}
use Rattle.hp_control.specs.declared.question.Crossing.{Crossing}
use Rattle.hp_control.specs.declared.question.Crossing.TheVariants.{X1, X2, X3, X4, X5, X6, X7}
use Rattle.hp_elements.specs.declared.token.Mode.{Mode}
use Rattle.hp_elements.specs.declared.token.Mode.TheVariants as mode
use Rattle.hp_control.specs.States.{ControlState}

-- That something was touched which may stand in an older state: the last template mode by how many there are, an element
-- or an entry by its id, and what belongs to the page as a whole by the document's id, 0.
pub record Touch : Type 0 where
  pub crossing : Crossing
  pub what : ℕ

-- the new state, the edits, what was touched, and whether the only element of the stack was to be popped, which stays
pub record Outcome : Type 0 where
  pub control : ControlState
  pub edits : List Edit
  pub touched : List Touch
  pub spared : Bool

abbrev pub Act : Type 0
Act = ControlState → Outcome

abbrev pub becomes : ControlState → Outcome
becomes c = record { control = c; edits = []; touched = []; spared = false }

-- the first, then the second in the state that it left
abbrev pub after : Outcome → Outcome → Outcome
after o p = record { control = p.control; edits = o.edits ++ p.edits; touched = o.touched ++ p.touched; spared = o.spared || p.spared }

abbrev pub and_then : Act → Act → Act
and_then f g = λ c. after (f c) (g (f c).control)

abbrev pub choose : (ControlState → Bool) → Act → Act → Act
choose test f g = λ c. if test c then f c else g c

abbrev pub nothing_done : Act
nothing_done c = becomes c

abbrev pub same_crossing : Crossing → Crossing → Bool
same_crossing X1 X1 = true
same_crossing X2 X2 = true
same_crossing X3 X3 = true
same_crossing X4 X4 = true
same_crossing X5 X5 = true
same_crossing X6 X6 = true
same_crossing X7 X7 = true
same_crossing _ _ = false

abbrev pub is_table_text : Mode → Bool
is_table_text mode.InTableText = true
is_table_text _ = false

-- Whether it stood there before the chunk that begins in s. The last template mode did where there are no more than s has;
-- pending table characters did where s has the mode in table text, since a chunk that begins there flushes them first. Where s
-- is no state of a page, as that below a parser which starts from a known state, no element was made and nothing is older.
abbrev pub is_older_by : Crossing → ControlState → ℕ → Bool
is_older_by X6 s what = nat_lt 0 s.next && nat_le what (length s.templates)
is_older_by X7 s what = is_table_text s.mode
is_older_by _ s what = nat_lt what s.next

abbrev pub is_older : ControlState → Touch → Bool
is_older s t = is_older_by t.crossing s t.what

abbrev pub is_touch : ControlState → Crossing → Touch → Bool
is_touch s crossing t = same_crossing crossing t.crossing && is_older s t

-- whether something older than the chunk that begins in s is touched by that crossing, or by any
abbrev pub touches : ControlState → Crossing → Outcome → Bool
touches s crossing o = list_any (is_touch s crossing) o.touched

abbrev pub touches_any : ControlState → Outcome → Bool
touches_any s o = list_any (is_older s) o.touched
