-- What is known along a row, as data: a state between two acts meets a course, each act leads from one course to another.
use Rattle.std.specs.Prelude.{ℕ, ◌+◌, ◌≤◌, ◌<◌, ◌≡◌, List, [], ◌∷◌, length, Bool, true, false, not, ◌&&◌, ◌||◌, if◌then◌else◌, Option, None, Some, ◌⊎◌, All, IfSome}
use Rattle.std.specs.List.{list_any}
use Rattle.std.specs.Str.{bytes_eq}
use Rattle.hp_elements.specs.Names.{is_among, text_of}
use Rattle.hp_elements.specs.Sets.{in_set}
use Rattle.hp_elements.specs.declared.act.Act.{Act}
use Rattle.hp_elements.specs.declared.act.Act.TheVariants as act
use Rattle.hp_elements.specs.declared.act.Test.{Test}
use Rattle.hp_elements.specs.declared.act.Test.TheVariants as test
use Rattle.hp_elements.specs.declared.act.Which.TheVariants.{Its, Named}
use Rattle.hp_elements.specs.declared.kinds.Kinds.TheVariants as kinds
use Rattle.hp_elements.specs.declared.known.Known.TheVariants as names
use Rattle.hp_elements.specs.declared.element_name.ElementName.TheVariants as element
use Rattle.hp_elements.specs.KnownNames as known
use Rattle.hp_elements.specs.declared.sets.Namespace.TheVariants.{Html}
use Rattle.hp_elements.specs.declared.sets.SetName.TheVariants as sets
use Rattle.hp_elements.specs.declared.token.Kind.{Kind}
use Rattle.hp_elements.specs.declared.token.Kind.TheVariants.{Start}
use Rattle.hp_elements.specs.declared.token.Mode.{Mode}
use Rattle.hp_elements.specs.declared.token.Mode.TheVariants as mode
use Rattle.hp_tokens.specs.declared.lexing.LexState.{LexState}
use Rattle.hp_control.specs.declared.element.OpenElement.{OpenElement}
use Rattle.hp_control.specs.declared.element.FormattingEntry.{FormattingEntry}
use Rattle.hp_control.specs.Acts.{current_id}
use Rattle.hp_control.specs.States.{ControlState, AreIds, IsId, IsNew, IsFormatting, IsSettled, LexFits, entry_ids, is_html, is_named, is_rooted, is_settled, is_tall, is_template, is_template_mode}
use Rattle.hp_control.specs.Walks.{seen}
use Rattle.hp_model.proofs.Tally.{tally}
use Rattle.hp_model.proofs.Stacks.{counted, is_counted}
use Rattle.hp_model.proofs.Thins.{ids_of}

abbrev pub is_select : OpenElement → Bool
is_select = is_named known.Select

abbrev pub is_select_mode : Mode → Bool
is_select_mode mode.InSelect = true
is_select_mode mode.InSelectInTable = true
is_select_mode _ = false

-- nothing is open; the stack begins with html; and has an HTML element above it as the current node; or its current node is foreign
pub data Base : Type 0 where
  bare : Base
  rooted : Base
  tall : Base
  alien : Base

-- the counted elements since the row began: fewer; no more; fewer, or there is no select; unknown
pub data Count : Type 0 where
  fell : Count
  kept : Count
  cleared : Count
  unknown : Count

-- the mode: this one; any that reset gives or that text goes back to; such a one, and select only where the count fell
pub data Where : Type 0 where
  at : Mode → Where
  anywhere : Where
  left : Where

-- the template modes: at most one fewer than there are templates; no fewer; more
pub data Room : Type 0 where
  lacking : Room
  enough : Room
  spare : Room

pub record Course : Type 0 where
  pub base : Base
  pub count : Count
  pub place : Where
  pub has_original : Bool
  pub has_pending : Bool
  pub room : Room
  -- a name that is in the stack
  pub there : Option (List ℕ)
  -- the current node was just made: neither the list nor the head pointer has it
  pub made : Bool

abbrev pub is_foreign_top : List OpenElement → Bool
is_foreign_top [] = false
is_foreign_top (e ∷ es) = not (is_html e)

abbrev pub BaseIs : Base → List OpenElement → ℕ → Type 0
BaseIs bare st next = (st ≡ []) × (next ≡ 1)
BaseIs rooted st next = is_rooted st ≡ true
BaseIs tall st next = (is_rooted st ≡ true) × (is_tall st ≡ true)
BaseIs alien st next = (is_rooted st ≡ true) × (is_foreign_top st ≡ true)

abbrev pub CountIs : Count → ℕ → List OpenElement → Type 0
CountIs fell n st = tally is_counted st < n
CountIs kept n st = tally is_counted st ≤ n
CountIs cleared n st = (tally is_counted st ≤ n) × ((tally is_counted st < n) ⊎ (list_any is_select st ≡ false))
CountIs unknown n st = Unit {0}

abbrev pub PlaceIs : Where → ℕ → List OpenElement → Mode → Type 0
PlaceIs (at m) n st present = present ≡ m
PlaceIs anywhere n st present = is_settled present ≡ true
PlaceIs left n st present = (is_settled present ≡ true) × ((tally is_counted st < n) ⊎ (is_select_mode present ≡ false))

abbrev pub OriginalIs : Bool → Option Mode → Type 0
OriginalIs true original = IsSettled original
OriginalIs false original = original ≡ None

abbrev pub PendingIs : Bool → List ℕ → Type 0
PendingIs true pending = Unit {0}
PendingIs false pending = pending ≡ []

abbrev pub RoomIs : Room → ℕ → ℕ → Type 0
RoomIs lacking templates modes = templates ≤ modes + 1
RoomIs enough templates modes = templates ≤ modes
RoomIs spare templates modes = templates + 1 ≤ modes

abbrev pub ThereIs : Option (List ℕ) → List OpenElement → Type 0
ThereIs None st = Unit {0}
ThereIs (Some name) st = seen (kinds.Html name) kinds.Nothing st ≡ true

abbrev pub IsOther : Option ℕ → ℕ → Type 0
IsOther None id = Unit {0}
IsOther (Some other) id = other ≡ id → ⊥

pub record IsMade (st : List OpenElement) (list : List FormattingEntry) (hd : Option ℕ) (next : ℕ) : Type 0 where
  pub above : 1 < current_id st
  pub below : current_id st < next
  pub unlisted : IsNew (current_id st) (entry_ids list)
  pub not_head : IsOther hd (current_id st)

abbrev pub MadeIs : Bool → List OpenElement → List FormattingEntry → Option ℕ → ℕ → Type 0
MadeIs true st list hd next = IsMade st list hd next
MadeIs false st list hd next = Unit {0}

-- a state that meets a course, by its parts; n is the count at the row's start
pub record Fitting (v : Course) (n : ℕ) (st : List OpenElement) (md : Mode) (orig : Option Mode) (pend : List ℕ) (tms : List Mode) (list : List FormattingEntry) (hd : Option ℕ) (fm : Option ℕ) (next : ℕ) (lx : LexState) : Type 0 where
  pub base : BaseIs v.base st next
  pub count : CountIs v.count n st
  pub place : PlaceIs v.place n st md
  pub original : OriginalIs v.has_original orig
  pub pending : PendingIs v.has_pending pend
  pub room : RoomIs v.room (tally is_template st) (length tms)
  pub there : ThereIs v.there st
  pub made : MadeIs v.made st list hd next
  pub template_modes : All (λ m. is_template_mode m ≡ true) tms
  pub formatting : All IsFormatting list
  pub stack_ids : AreIds 0 next (ids_of st)
  pub list_ids : AreIds 1 next (entry_ids list)
  pub head : IfSome hd (IsId next)
  pub form : IfSome fm (IsId next)
  pub lex : LexFits lx

abbrev pub Along : Course → ℕ → ControlState → Type 0
Along v n s = Fitting v n s.stack s.mode s.original s.pending s.templates s.formatting s.head s.form s.next s.lex

abbrev pub is_standing : Base → Bool
is_standing bare = false
is_standing _ = true

-- the current node is HTML and isn't the first element
abbrev pub is_above : Base → Bool
is_above tall = true
is_above _ = false

abbrev pub is_bare : Base → Bool
is_bare bare = true
is_bare _ = false

abbrev pub is_alien : Base → Bool
is_alien alien = true
is_alien _ = false

abbrev pub less : Count → Count
less cleared = kept
less count = count

abbrev pub loose : Where → Where
loose left = anywhere
loose place = place

abbrev pub less_room : Room → Room
less_room spare = enough
less_room _ = lacking

abbrev pub more_room : Room → Room
more_room lacking = enough
more_room _ = spare

abbrev pub has_room : Room → Bool
has_room lacking = false
has_room _ = true

abbrev pub has_spare : Room → Bool
has_spare spare = true
has_spare _ = false

-- elements went that needn't be known
abbrev pub thinner : Course → Course
thinner v = record v { base = rooted; count = less v.count; place = loose v.place; there = None; made = false }

-- an HTML element came, counted or not, a template or not
abbrev pub higher : Bool → Bool → Course → Course
higher is_counted_name is_template_name v = record v {
  base = tall;
  count = if is_counted_name then unknown else less v.count;
  place = loose v.place;
  room = if is_template_name then less_room v.room else v.room;
  there = None;
  made = true;
}

abbrev pub is_there : Option (List ℕ) → List ℕ → Bool
is_there None name = false
is_there (Some other) name = bytes_eq other name

abbrev pub fallen : Count → Count
fallen unknown = unknown
fallen _ = fell

abbrev pub without_select : Count → Count
without_select kept = cleared
without_select count = less count

abbrev pub is_a_template : List ℕ → Bool
is_a_template name = bytes_eq name (text_of known.Template)

-- through an element of a name
abbrev pub through_course : List ℕ → Course → Course
through_course name v = record v {
  base = rooted;
  count = if is_there v.there name && is_among counted name then fallen v.count else if bytes_eq (text_of known.Select) name then without_select v.count else less v.count;
  place = loose v.place;
  room = if is_there v.there name && is_a_template name then more_room v.room else v.room;
  there = None;
  made = false;
}

abbrev pub kind_is_template : Kind → Bool
kind_is_template (Start (Some k)) = is_a_template (text_of k)
kind_is_template _ = false

abbrev pub kind_is_html : Kind → Bool
kind_is_html (Start (Some (names.Element element.Html))) = true
kind_is_html _ = false

abbrev pub is_start : Kind → Bool
is_start (Start name) = true
is_start _ = false

abbrev pub is_formatting_start : Kind → Bool
is_formatting_start (Start (Some k)) = in_set sets.Formatting Html (text_of k)
is_formatting_start _ = false

abbrev pub after_reset : Count → Where
after_reset cleared = left
after_reset _ = anywhere

abbrev pub keep_template : Option (List ℕ) → Option (List ℕ)
keep_template None = None
keep_template (Some name) = if bytes_eq name (text_of known.Template) then Some (text_of known.Template) else None

-- the course that an act leads to
abbrev pub after : Kind → Act → Course → Course
after kind act.Insert v = higher true (kind_is_template kind) v
after kind (act.InsertBare k) v = higher (is_among counted (text_of k)) false v
after kind act.InsertForeign v = thinner v
after kind act.InsertAsCurrent v = thinner v
after kind act.InsertHtml v = record (higher false false v) { base = rooted; made = false }
after kind act.InsertBareHtml v = record (higher false false v) { base = rooted; made = false }
after kind act.PushHead v = thinner v
after kind act.Reconstruct v = thinner v
after kind act.Pop v = thinner v
after kind (act.PopTo names) v = thinner v
after kind act.PopToFirst v = thinner v
after kind act.PopToPoint v = thinner v
after kind (act.Through Its) v = thinner v
after kind (act.Through (Named k)) v = through_course (text_of k) v
after kind (act.ThroughFirstOf names) v = thinner v
after kind act.ThroughForeign v = thinner v
after kind act.Implied v = thinner v
after kind (act.ImpliedExcept which) v = thinner v
after kind act.ImpliedThoroughly v = record (thinner v) { there = keep_template v.there }
after kind act.CloseParagraph v = thinner v
after kind act.CloseItem v = thinner v
after kind act.CloseDescription v = thinner v
after kind act.Walk v = thinner v
after kind act.TakeHeadOff v = record (thinner v) { base = if v.made && is_above v.base then tall else rooted }
after kind act.EndForm v = thinner v
after kind act.CloseLink v = thinner v
after kind (act.Adopt which) v = thinner v
after kind act.AppendToList v = record v { made = false }
after kind act.ClearToMarker v = record v { made = false }
after kind act.HeadPointer v = record v { made = false }
after kind act.Reset v = record v { place = after_reset v.count }
after kind act.KeepOriginal v = record v { has_original = true }
after kind act.ToOriginal v = record v { place = anywhere; has_original = false }
after kind (act.Switch mode) v = record v { place = at mode }
after kind (act.PushTemplateMode mode) v = record v { room = more_room v.room }
after kind act.PopTemplateMode v = record v { room = less_room v.room }
after kind act.EmptyPending v = record v { has_pending = false }
after kind act.AppendPending v = record v { has_pending = true }
after kind act.Flush v = record (thinner v) { has_pending = false }
after kind _ v = v

abbrev pub is_settled_at : Where → Bool
is_settled_at (at m) = is_settled m
is_settled_at _ = false

-- what the act needs of the course
abbrev pub fits : Kind → Act → Course → Bool
fits kind act.Insert v = is_standing v.base && (is_start kind && (not (kind_is_template kind) || has_room v.room))
fits kind (act.InsertBare k) v = is_standing v.base && not (is_a_template (text_of k))
fits kind act.InsertHtml v = is_bare v.base && kind_is_html kind
fits kind act.InsertBareHtml v = is_bare v.base
fits kind act.InsertForeign v = is_standing v.base
fits kind act.InsertAsCurrent v = is_alien v.base
fits kind act.PushHead v = is_standing v.base
fits kind act.Reconstruct v = is_standing v.base
fits kind act.Pop v = is_standing v.base
fits kind (act.PopTo names) v = is_standing v.base
fits kind act.PopToFirst v = is_standing v.base
fits kind act.PopToPoint v = is_standing v.base
fits kind (act.Through Its) v = is_standing v.base
fits kind (act.Through (Named k)) v = is_standing v.base && not (bytes_eq (text_of known.Html) (text_of k))
fits kind (act.ThroughFirstOf names) v = is_standing v.base
fits kind act.ThroughForeign v = is_standing v.base
fits kind act.Implied v = is_standing v.base
fits kind (act.ImpliedExcept which) v = is_standing v.base
fits kind act.ImpliedThoroughly v = is_standing v.base
fits kind act.CloseParagraph v = is_standing v.base
fits kind act.CloseItem v = is_standing v.base
fits kind act.CloseDescription v = is_standing v.base
fits kind act.Walk v = is_standing v.base
fits kind act.TakeHeadOff v = is_standing v.base
fits kind act.EndForm v = is_standing v.base
fits kind act.CloseLink v = is_standing v.base
fits kind (act.Adopt which) v = is_standing v.base
fits kind act.Flush v = is_standing v.base
fits kind act.AppendToList v = is_formatting_start kind && (is_above v.base && v.made)
fits kind act.HeadPointer v = is_above v.base && v.made
fits kind act.FormPointer v = is_above v.base && v.made
fits kind act.ClearToMarker v = is_standing v.base
fits kind act.Characters v = is_standing v.base
fits kind act.Replacement v = is_standing v.base
fits kind act.Comment v = is_standing v.base
fits kind act.CommentIntoFirst v = is_standing v.base
fits kind act.AddMissingToFirst v = is_standing v.base
fits kind act.AddMissingToBody v = is_standing v.base
fits kind act.DetachBody v = is_standing v.base
fits kind act.Reset v = is_standing v.base && has_room v.room
fits kind act.KeepOriginal v = is_settled_at v.place
fits kind act.ToOriginal v = v.has_original
fits kind (act.PushTemplateMode mode) v = is_template_mode mode
fits kind (act.ReplaceTemplateMode mode) v = is_template_mode mode
fits kind act.PopTemplateMode v = has_spare v.room
fits kind _ v = true

-- what a test says where it holds
abbrev pub assume : Test → Course → Course
assume (test.InScope scope (Named k)) v = record v { there = Some (text_of k) }
assume test.TemplateInStack v = record v { there = Some (text_of known.Template) }
assume _ v = v
