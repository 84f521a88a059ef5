-- What is known along a row over an older state, as data: of the new elements, and of the mode. Each act leads from one track to
-- another, unless it touches something older.
use Rattle.std.specs.Prelude.{◌≡◌, ℕ, ◌+◌, ◌<◌, List, [], ◌∷◌, length, Bool, true, false, not, ◌&&◌, ◌||◌, if◌then◌else◌, Option, None, Some, ◌⊎◌, All}
use Rattle.std.specs.Str.{bytes_eq}
use Rattle.hp_elements.specs.Names.{is_among, text_of, words}
use Rattle.hp_elements.specs.declared.act.Scope.{Scope}
use Rattle.hp_elements.specs.declared.act.Scope.TheVariants as scope
use Rattle.hp_elements.specs.declared.act.Which.{Which}
use Rattle.hp_elements.specs.declared.act.Which.TheVariants.{Its, Named}
use Rattle.hp_elements.specs.declared.kinds.Kinds.TheVariants as kinds
use Rattle.hp_elements.specs.declared.sets.SetName.{SetName}
use Rattle.hp_elements.specs.declared.token.Kind.{Kind}
use Rattle.hp_elements.specs.declared.token.Kind.TheVariants.{Start, End}
use Rattle.hp_elements.specs.declared.token.Mode.{Mode}
use Rattle.hp_elements.specs.declared.token.Mode.TheVariants as mode
use Rattle.hp_control.specs.declared.element.OpenElement.{OpenElement}
use Rattle.hp_control.specs.declared.element.FormattingEntry.{FormattingEntry}
use Rattle.hp_control.specs.Composed.{ends_of}
use Rattle.hp_control.specs.States.{ControlState, is_settled}
use Rattle.hp_control.specs.Walks.{seen}
use Rattle.hp_older.specs.GoesOn.{IsFree, comes, fits_mode, is_a, is_key, is_new, own}

-- new template modes beside new templates: as many; one fewer; one more, or none of both
pub data Balance : Type 0 where
  even : Balance
  over : Balance
  under : Balance

-- the current node: unknown; another element stands below it; that, and it isn't kept track of; and it was just made
pub data Top : Type 0 where
  unknown : Top
  high : Top
  plain : Top
  made : Top

-- what a test found above the ends of a scope: an element of a name, or of a set
pub data There : Type 0 where
  nowhere : There
  named : Scope → List ℕ → There
  among : Scope → SetName → There

-- the mode: this one; any that fits; unknown
pub data Where : Type 0 where
  at : Mode → Where
  fitted : Where
  lost : Where

-- cell, select: one comes before any new template; bare: no new template; still: no new frameset; back: the original mode fits
pub record Track : Type 0 where
  pub balance : Balance
  pub top : Top
  pub there : There
  pub cell : Bool
  pub select : Bool
  pub bare : Bool
  pub still : Bool
  pub back : Bool
  pub place : Where

abbrev pub BalanceIs : Balance → ℕ → ℕ → ℕ → Type 0
BalanceIs even templates modes older = modes ≡ older + templates
BalanceIs over templates modes older = modes + 1 ≡ older + templates
BalanceIs under templates modes older = (modes ≡ older + templates + 1) ⊎ ((templates ≡ 0) × (modes ≡ older))

abbrev pub is_plain : ControlState → OpenElement → Bool
is_plain s e = not (is_new s e && is_key e)

abbrev pub TopIs : Top → ControlState → List OpenElement → Type 0
TopIs unknown s st = Unit {0}
TopIs high s st = 1 < length st
TopIs plain s [] = ⊥
TopIs plain s (e ∷ st) = (0 < length st) × (is_plain s e ≡ true)
TopIs made s [] = ⊥
TopIs made s (e ∷ st) = (0 < length st) × (is_plain s e ≡ true) × (is_new s e ≡ true)

abbrev pub ThereIs : There → List OpenElement → Type 0
ThereIs nowhere st = Unit {0}
ThereIs (named where_ name) st = seen (kinds.Html name) (kinds.Set (ends_of where_)) st ≡ true
ThereIs (among where_ names) st = seen (kinds.Set names) (kinds.Set (ends_of where_)) st ≡ true

abbrev pub BackIs : Bool → ControlState → Option Mode → List OpenElement → Type 0
BackIs true s None st = ⊥
BackIs true s (Some m) st = fits_mode s m st ≡ true
BackIs false s o st = Unit {0}

abbrev pub PlaceIs : Where → ControlState → Mode → List OpenElement → Type 0
PlaceIs (at m) s present st = present ≡ m
PlaceIs fitted s present st = (is_settled present ≡ true) × (fits_mode s present st ≡ true)
PlaceIs lost s present st = Unit {0}

-- a state that meets a track, by its parts
pub record Meeting (w : Track) (s : ControlState) (st : List OpenElement) (md : Mode) (orig : Option Mode) (tms : List Mode) (list : List FormattingEntry) (fm : Option ℕ) : Type 0 where
  pub html : own s (is_a "html") st ≡ []
  pub balance : BalanceIs w.balance (length (own s (is_a "template") st)) (length tms) (length s.templates)
  pub free : All (IsFree list fm) (own s (is_a "template td th") st)
  pub top : TopIs w.top s st
  pub there : ThereIs w.there st
  pub cell : w.cell ≡ true → comes (is_a "td th") (own s (is_a "template td th") st) ≡ true
  pub select : w.select ≡ true → comes (is_a "select") (own s (is_a "template select") st) ≡ true
  pub bare : w.bare ≡ true → own s (is_a "template") st ≡ []
  pub still : w.still ≡ true → own s (is_a "frameset") st ≡ []
  pub back : BackIs w.back s orig st
  pub place : PlaceIs w.place s md st

abbrev pub On : Track → ControlState → ControlState → Type 0
On w s c = Meeting w s c.stack c.mode c.original c.templates c.formatting c.form

-- the names of a kind of token
abbrev pub name_told : Kind → Which → Option (List ℕ)
name_told (Start (Some k)) Its = Some (text_of k)
name_told (End (Some k)) Its = Some (text_of k)
name_told kind Its = None
name_told kind (Named k) = Some (text_of k)

-- what kind of element a name makes
pub data Sort : Type 0 where
  common : Sort
  template : Sort
  cell : Sort
  select : Sort
  frames : Sort
  root : Sort

abbrev pub sort_of : List ℕ → Sort
sort_of name =
    if is_among (words "template") name then template
    else if is_among (words "td th") name then cell
    else if is_among (words "select") name then select
    else if is_among (words "frameset") name then frames
    else if is_among (words "html") name then root
    else common

abbrev pub sort_told : Kind → Sort
sort_told (Start (Some k)) = sort_of (text_of k)
sort_told (Start None) = common
sort_told _ = root

abbrev pub is_even : Balance → Bool
is_even even = true
is_even _ = false

abbrev pub is_over : Balance → Bool
is_over over = true
is_over _ = false

abbrev pub is_under : Balance → Bool
is_under under = true
is_under _ = false

abbrev pub is_plain_one : Top → Bool
is_plain_one plain = true
is_plain_one made = true
is_plain_one _ = false

abbrev pub is_high : Top → Bool
is_high unknown = false
is_high _ = true

abbrev pub is_made : Top → Bool
is_made made = true
is_made _ = false

abbrev pub loose : Where → Where
loose (at m) = at m
loose _ = lost

-- what stays where all new elements do; where templates and cells do; where templates do
abbrev pub strongly : Track → Track
strongly w = record w { top = unknown; there = nowhere; place = loose w.place }

abbrev pub weakly : Track → Track
weakly w = record w { top = unknown; there = nowhere; select = false; back = false; place = loose w.place }

abbrev pub thinly : Track → Track
thinly w = record w { top = unknown; there = nowhere; cell = false; select = false; back = false; place = loose w.place }

abbrev pub pushed : Sort → Track → Track
pushed common w = record w { top = made; there = nowhere; place = loose w.place }
pushed template w = record w { balance = over; top = unknown; there = nowhere; cell = false; select = false; bare = false; back = false; place = loose w.place }
pushed cell w = record w { top = unknown; there = nowhere; cell = true; back = false; place = loose w.place }
pushed select w = record w { top = unknown; there = nowhere; select = true; back = false; place = loose w.place }
pushed frames w = record w { top = unknown; there = nowhere; still = false; back = false; place = loose w.place }
pushed root w = w

abbrev pub can_push : Sort → Track → Bool
can_push root w = false
can_push template w = is_even w.balance
can_push _ w = true

-- the scopes whose ends have the cells
abbrev pub ends_at_cells : Scope → Bool
ends_at_cells scope.Table = false
ends_at_cells scope.Select = false
ends_at_cells _ = true

-- the name is one of these
abbrev pub can_pass : List (List ℕ) → List ℕ → Bool
can_pass names name = not (is_among names name) && not (is_among (words "html") name)

abbrev pub is_there_named : There → List ℕ → Bool
is_there_named (named where_ other) name = bytes_eq other name
is_there_named _ name = false

abbrev pub scope_weak : There → List ℕ → Bool
scope_weak (named where_ other) name = ends_at_cells where_ && not (is_among (words "template td th") name)
scope_weak _ name = false

-- past an element of that name, found above the ends of a scope
abbrev pub passed_named : List ℕ → Track → Track
passed_named name w = if scope_weak w.there name then weakly w else thinly w

abbrev pub is_mode_select : Mode → Bool
is_mode_select mode.InSelect = true
is_mode_select mode.InSelectInTable = true
is_mode_select _ = false

abbrev pub is_mode_cell : Mode → Bool
is_mode_cell mode.InCell = true
is_mode_cell _ = false

abbrev pub is_mode_frames : Mode → Bool
is_mode_frames mode.InFrameset = true
is_mode_frames mode.AfterFrameset = true
is_mode_frames mode.AfterAfterFrameset = true
is_mode_frames _ = false

abbrev pub is_mode_text : Mode → Bool
is_mode_text mode.Text = true
is_mode_text _ = false

abbrev pub is_mode_between : Mode → Bool
is_mode_between mode.Text = true
is_mode_between mode.InTableText = true
is_mode_between _ = false

-- the track tells that a mode fits
abbrev pub knows : Mode → Track → Bool
knows mode.InCell w = w.cell && w.still
knows mode.InSelect w = w.select && w.still
knows mode.InSelectInTable w = w.select && w.still
knows mode.InFrameset w = w.bare
knows mode.AfterFrameset w = w.bare
knows mode.AfterAfterFrameset w = w.bare
knows _ w = w.still

-- each state that goes on from s is on this track
abbrev pub begin : Mode → Track
begin m = record {
  balance = even;
  top = if is_mode_text m then plain else unknown;
  there = nowhere;
  cell = is_mode_cell m;
  select = is_mode_select m;
  bare = is_mode_frames m;
  still = not (is_mode_frames m) && not (is_mode_between m);
  back = is_mode_between m;
  place = at m;
}

abbrev pub ends_at : Where → Track → Bool
ends_at (at m) w = if is_mode_between m then w.back && (not (is_mode_text m) || is_plain_one w.top) else knows m w
ends_at fitted w = true
ends_at lost w = false

-- a state on such a track goes on from s
abbrev pub ends_well : Track → Bool
ends_well w = is_even w.balance && ends_at w.place w
