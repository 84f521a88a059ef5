-- Reconstruction of the formatting elements (13.2.4.3) and the adoption agency algorithm (13.2.6.4.7).
use Rattle.std.specs.Prelude.{ℕ, zero, suc, ◌+◌, Bool, true, false, not, ◌==◌, ◌&&◌, if◌then◌else◌, nat_lt, List, [], ◌∷◌, ◌++◌, Option, Some, None, map, take, drop, slice_get}
use Rattle.std.specs.Option.{option_map, is_some}
use Rattle.std.specs.List.{list_any}
use Rattle.std.specs.Str.{bytes_eq}
use Rattle.hp_elements.specs.declared.kinds.Kinds.TheVariants as kinds
use Rattle.hp_elements.specs.declared.sets.SetName.TheVariants as sets
use Rattle.hp_elements.specs.declared.tag.Tag.{Tag}
use Rattle.hp_control.specs.declared.edit.Child.TheVariants as child
use Rattle.hp_control.specs.declared.edit.Edit.{Edit}
use Rattle.hp_control.specs.declared.edit.Edit.TheVariants.{NewElement, Put, MoveChildren}
use Rattle.hp_control.specs.declared.edit.Place.{Place}
use Rattle.hp_control.specs.declared.edit.Place.TheVariants.{Into}
use Rattle.hp_control.specs.declared.edit.Ref.{Ref}
use Rattle.hp_control.specs.declared.edit.Ref.TheVariants.{Fixed}
use Rattle.hp_control.specs.declared.element.OpenElement.{OpenElement}
use Rattle.hp_control.specs.declared.element.FormattingEntry.{FormattingEntry}
use Rattle.hp_control.specs.declared.element.FormattingEntry.TheVariants.{Marker, Element}
use Rattle.hp_control.specs.declared.question.Crossing.TheVariants.{X1, X2, X3}
use Rattle.hp_control.specs.KindTests.{within}
use Rattle.hp_control.specs.Outcome.{Touch, Act, and_then, choose, nothing_done}
use Rattle.hp_control.specs.States.{ControlState, is_html}
use Rattle.hp_control.specs.Walks.{open_at, scope_ends}
use Rattle.hp_control.specs.Acts.{element_for, insert, place, pop, pop_by, walk}

-- what is touched: an entry that goes, one that is made anew, an element that leaves the stack in its middle
abbrev pub removed : ℕ → Touch
removed id = record { crossing = X1; what = id }

abbrev pub renewed_entry : ℕ → Touch
renewed_entry id = record { crossing = X2; what = id }

abbrev pub left : ℕ → Touch
left id = record { crossing = X3; what = id }

-- an entry of the list with its depth, and an element of the stack with its depth
pub record Spot : Type 0 where
  pub depth : ℕ
  pub id : ℕ
  pub tag : Tag

pub record Seat : Type 0 where
  pub depth : ℕ
  pub element : OpenElement

-- the same spot, seen from one entry higher up
abbrev pub lower : Spot → Spot
lower spot = record { depth = suc spot.depth; id = spot.id; tag = spot.tag }

-- the last entry of the name after the last marker
abbrev pub find_name : List ℕ → List FormattingEntry → Option Spot
find_name name [] = None
find_name name (Marker ∷ es) = None
find_name name (Element id tag ∷ es) =
    if bytes_eq name tag.name then Some (record { depth = 0; id = id; tag = tag }) else option_map lower (find_name name es)

-- the entry with this id
abbrev pub find_id : ℕ → List FormattingEntry → Option Spot
find_id wanted [] = None
find_id wanted (Marker ∷ es) = option_map lower (find_id wanted es)
find_id wanted (Element id tag ∷ es) =
    if id == wanted then Some (record { depth = 0; id = id; tag = tag }) else option_map lower (find_id wanted es)

-- an end of a scope stands among them
abbrev pub hides : List OpenElement → Bool
hides es = list_any (within scope_ends) es

-- the items in the place of `count` at this depth
abbrev pub spliced : {X : Type 0} → ℕ → ℕ → List X → List X → List X
spliced depth count items xs = take depth xs ++ (items ++ drop count (drop depth xs))

abbrev pub spliced_at : Option Spot → ℕ → List FormattingEntry → List FormattingEntry → List FormattingEntry
spliced_at None count items es = es
spliced_at (Some spot) count items es = spliced spot.depth count items es

-- the items in the place of the entry with this id (count 1), or just after it (count 0)
abbrev pub edit_at : ℕ → ℕ → List FormattingEntry → List FormattingEntry → List FormattingEntry
edit_at id count items es = spliced_at (find_id id es) count items es

-- how many entries stand above the last one that is a marker or open
abbrev pub stale : List OpenElement → List FormattingEntry → ℕ
stale stack [] = 0
stale stack (Marker ∷ es) = 0
stale stack (Element id tag ∷ es) = if is_some (open_at id stack) then 0 else suc (stale stack es)

-- the entry at this depth is now for the element that is made next
abbrev pub relist : ℕ → ℕ → Tag → Act
relist depth id tag c = record {
  control = record c { formatting = spliced depth 1 (Element c.next tag ∷ []) c.formatting };
  edits = [];
  touched = renewed_entry id ∷ [];
  spared = false;
}

abbrev pub renew_entry : Bool → Option FormattingEntry → ℕ → Act
renew_entry fostering None depth = nothing_done
renew_entry fostering (Some Marker) depth = nothing_done
renew_entry fostering (Some (Element id tag)) depth = and_then (relist depth id tag) (insert fostering tag)

-- the element of the entry at this depth is made anew
abbrev pub renew : Bool → ℕ → Act
renew fostering depth c = renew_entry fostering (slice_get c.formatting depth) depth c

-- those of so many entries, the last entry's last
abbrev pub renew_down : Bool → ℕ → Act
renew_down fostering zero = nothing_done
renew_down fostering (suc depth) = and_then (renew fostering depth) (renew_down fostering depth)

abbrev pub reconstruct : Bool → Act
reconstruct fostering c = renew_down fostering (stale c.stack c.formatting) c

-- what the climb has made: the list and the next id; what stands in the stack for the block and the nodes passed; the last node; the entry that the bookmark is after, or none where it is at the formatting element's place; the edits
pub record Climbed : Type 0 where
  pub formatting : List FormattingEntry
  pub next : ℕ
  pub kept : List OpenElement
  pub last : ℕ
  pub bookmark : Option ℕ
  pub edits : List Edit

abbrev pub at_block : Seat → List FormattingEntry → ℕ → Climbed
at_block block list next = record { formatting = list; next = next; kept = block.element ∷ []; last = block.element.id; bookmark = None; edits = [] }

-- a new element of its tag takes the node's places in list and stack, and the last node goes into it
abbrev pub renewed : (ℕ → Ref) → ℕ → ℕ → Tag → Climbed → Climbed
renewed ref block node tag k = record {
  formatting = edit_at node 1 (Element k.next tag ∷ []) k.formatting;
  next = k.next + 1;
  kept = k.kept ++ element_for k.next tag ∷ [];
  last = k.next;
  bookmark = if k.last == block then Some k.next else k.bookmark;
  edits = k.edits ++ NewElement tag ∷ Put (child.Element (ref k.last)) (Into (ref k.next)) ∷ [];
}

-- a node without an entry leaves the stack, and one past the third turn its entry too
abbrev pub pass_listed : (ℕ → Ref) → ℕ → ℕ → ℕ → Option Spot → Climbed → Climbed
pass_listed ref block turn node None k = k
pass_listed ref block turn node (Some spot) k = if nat_lt 3 turn then record k { formatting = edit_at node 1 [] k.formatting } else renewed ref block node spot.tag k

abbrev pub pass : (ℕ → Ref) → ℕ → ℕ → OpenElement → Climbed → Climbed
pass ref block turn node k = pass_listed ref block turn node.id (find_id node.id k.formatting) k

-- the nodes in order, after so many turns
abbrev pub pass_all : (ℕ → Ref) → ℕ → ℕ → List OpenElement → Climbed → Climbed
pass_all ref block turns [] k = k
pass_all ref block turns (node ∷ nodes) k = pass_all ref block (turns + 1) nodes (pass ref block (turns + 1) node k)

-- an entry in the place of the one that goes, or after the bookmark's
abbrev pub settled : Option ℕ → ℕ → FormattingEntry → List FormattingEntry → List FormattingEntry
settled None gone e es = edit_at gone 1 (e ∷ []) es
settled (Some id) gone e es = edit_at id 0 (e ∷ []) (edit_at gone 1 [] es)

-- what a turn makes: the stack above the formatting element's place, the list, the next id, the edits
pub record Adopted : Type 0 where
  pub over : List OpenElement
  pub formatting : List FormattingEntry
  pub next : ℕ
  pub edits : List Edit

-- the block's children go into a new element of the formatting element's tag, which goes into the block
abbrev pub closed : (ℕ → Ref) → Place → Spot → Seat → List OpenElement → Climbed → Adopted
closed ref where_ entry block over k = record {
  over = take block.depth over ++ element_for k.next entry.tag ∷ k.kept;
  formatting = settled k.bookmark entry.id (Element k.next entry.tag) k.formatting;
  next = k.next + 1;
  edits = k.edits ++ Put (child.Element (ref k.last)) where_ ∷ NewElement entry.tag ∷ MoveChildren (ref block.element.id) (ref k.next) ∷ Put (child.Element (ref k.next)) (Into (ref block.element.id)) ∷ [];
}

abbrev pub between : Seat → List OpenElement → List OpenElement
between block over = drop (block.depth + 1) over

abbrev pub adopted : (ℕ → Ref) → Place → Spot → Seat → List OpenElement → List FormattingEntry → ℕ → Adopted
adopted ref where_ entry block over list next = closed ref where_ entry block over (pass_all ref block.element.id 0 (between block over) (at_block block list next))

abbrev pub adopt_once : Bool → Spot → ℕ → Seat → Act
adopt_once fostering entry depth block c =
    let over = take depth c.stack in
    let under = drop (depth + 1) c.stack in
    let a = adopted Fixed (place fostering under) entry block over c.formatting c.next in
    record {
      control = record c { stack = a.over ++ under; formatting = a.formatting; next = a.next };
      edits = a.edits;
      touched = removed entry.id ∷ left entry.id ∷ map (λ (e : OpenElement). left e.id) (between block over);
      spared = false;
    }

-- the special element nearest to the list's end
abbrev pub nearer : OpenElement → Option Seat → Option Seat
nearer e None = if within (kinds.Set sets.Special) e then Some (record { depth = 0; element = e }) else None
nearer e (Some seat) = Some (record { depth = suc seat.depth; element = seat.element })

abbrev pub furthest : List OpenElement → Option Seat
furthest [] = None
furthest (e ∷ es) = nearer e (furthest es)

-- the name has no entry; its element isn't open; it isn't in scope; no special element stands above it; one does
pub data Case : Type 0 where
  Unlisted : Case
  Closed : (entry : Spot) → Case
  Hidden : Case
  Alone : (entry : Spot) (depth : ℕ) → Case
  Tangled : (entry : Spot) (depth : ℕ) (block : Seat) → Case

abbrev pub block_case : Spot → ℕ → Option Seat → Case
block_case entry depth None = Alone entry depth
block_case entry depth (Some block) = Tangled entry depth block

abbrev pub open_case : Spot → Option ℕ → List OpenElement → Case
open_case entry None stack = Closed entry
open_case entry (Some depth) stack = if hides (take depth stack) then Hidden else block_case entry depth (furthest (take depth stack))

abbrev pub entry_case : Option Spot → List OpenElement → Case
entry_case None stack = Unlisted
entry_case (Some entry) stack = open_case entry (open_at entry.id stack) stack

abbrev pub case_of : List ℕ → ControlState → Case
case_of name c = entry_case (find_name name c.formatting) c.stack

-- the list without the entry
abbrev pub strike : Spot → Act
strike entry c = record { control = record c { formatting = edit_at entry.id 1 [] c.formatting }; edits = []; touched = removed entry.id ∷ []; spared = false }

abbrev pub turn_in : Bool → List ℕ → Case → Act
turn_in fostering name Unlisted = walk name
turn_in fostering name (Closed entry) = strike entry
turn_in fostering name Hidden = nothing_done
turn_in fostering name (Alone entry depth) = and_then (pop_by (depth + 1)) (strike entry)
turn_in fostering name (Tangled entry depth block) = adopt_once fostering entry depth block

abbrev pub turn : Bool → List ℕ → Act
turn fostering name c = turn_in fostering name (case_of name c) c

abbrev pub again : Case → Bool
again (Tangled entry depth block) = true
again _ = false

abbrev pub goes_on : List ℕ → ControlState → Bool
goes_on name c = again (case_of name c)

-- at most so many turns
unfoldable pub turns : ℕ → Bool → List ℕ → Act
turns zero fostering name = nothing_done
turns (suc n) fostering name = choose (goes_on name) (and_then (turn fostering name) (turns n fostering name)) (turn fostering name)

-- has the current node the name and no entry
abbrev pub plain_top : List ℕ → List OpenElement → List FormattingEntry → Bool
plain_top name [] list = false
plain_top name (e ∷ es) list = is_html e && bytes_eq name e.name && not (is_some (find_id e.id list))

abbrev pub is_plain : List ℕ → ControlState → Bool
is_plain name c = plain_top name c.stack c.formatting

abbrev pub adopt : Bool → List ℕ → Act
adopt fostering name = choose (is_plain name) pop (turns 8 fostering name)
