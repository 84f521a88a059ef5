-- What callers see of a board, and what the board keeps.
use Rattle.std.specs.Prelude.{◌≡◌, ◌+◌, ◌<◌, ◌≤◌, ◌^◌, ℕ, List, [], ◌∷◌, ◌++◌, true, Some, length, map, max, slice_index_or, slice_range, slice_set, take}
use Rattle.std.specs.Str.{IsCharBoundary, IsUtf8}
use Rattle.hp_control.specs.States.{ControlState}
use Rattle.hp_control.specs.Tree.{Tree}
use Rattle.hp_cut.specs.Places.{AreLawful, Cutting, IsOf}
use Rattle.hp_pieces.specs.At.{IsAt}
use Rattle.hp_pieces.specs.declared.fragment.Fragment.{Fragment}
use Rattle.hp_pieces.specs.declared.fragment.Fragment.TheVariants as fragment
use Rattle.hp_merge.specs.Fore.{Fore}
use Rattle.hp_board.specs.declared.journal.BoardStep.{BoardStep}
use Rattle.hp_board.specs.declared.journal.Entry.{Entry}
use Rattle.hp_board.specs.declared.journal.Origin.{Origin}
use Rattle.hp_board.specs.declared.journal.Status.{Status}
use Rattle.hp_board.specs.declared.journal.Status.TheVariants as status
use Rattle.hp_board.specs.declared.slot.Slot.{Slot}
use Rattle.hp_board.specs.declared.slot.Slot.TheVariants as slot
use Rattle.hp_board.specs.Fair.{IsFair}
use Rattle.hp_board.specs.Machine.{before_in, chunk_in, end_of, first_chunks, kept_of, place_of, replay, start_of}
use Rattle.hp_board.specs.Origins.{is_unjudged, last_origin, origin_of}

-- the status of a chunk, without its fragment
abbrev pub status_of : Slot → Status
status_of slot.Unclaimed = status.Unclaimed
status_of (slot.Claimed w) = status.Claimed w
status_of (slot.Posted _) = status.Posted
status_of slot.Again = status.Again
status_of (slot.AgainClaimed w) = status.AgainClaimed w
status_of slot.Done = status.Done

-- for how many entries the journal keeps room because of a chunk
abbrev pub owed_of : Slot → ℕ
owed_of (slot.Claimed _) = 2
owed_of (slot.AgainClaimed _) = 2
owed_of (slot.Posted _) = 1
owed_of _ = 0

-- a board as callers see it: the page's text and its cuts, the chunks with their fragments, how many are done, up to where the
-- text is committed, and the front there
pub record Desk : Type 0 where
  pub text : List ℕ
  pub cuts : Cutting
  pub workers : ℕ
  pub slots : List Slot
  pub journal : List Entry
  pub done : ℕ
  pub place : ℕ
  pub control : ControlState
  pub tree : Tree

abbrev pub slot_at : Desk → ℕ → Slot
slot_at desk chunk = slice_index_or desk.slots chunk slot.Done

abbrev pub statuses : Desk → List Status
statuses desk = map status_of desk.slots

abbrev pub fore_of : Desk → Fore
fore_of desk = record { control = desk.control; tree = desk.tree }

-- where what is left of a chunk begins, in bytes
abbrev pub rest_start : Desk → ℕ → ℕ
rest_start desk chunk = max desk.place (start_of desk.cuts chunk)

-- what is left of a chunk
abbrev pub rest_of : Desk → ℕ → List ℕ
rest_of desk chunk = slice_range desk.text (rest_start desk chunk) (end_of desk.cuts chunk)

abbrev pub chunk_text : Desk → ℕ → List ℕ
chunk_text desk chunk = chunk_in desk.text desk.cuts chunk

abbrev pub before_chunk : Desk → ℕ → List ℕ
before_chunk desk chunk = before_in desk.text desk.cuts chunk

-- where a fragment that is posted for this chunk comes from
abbrev pub origin_in : Desk → ℕ → Fragment → Origin
origin_in desk chunk posted = origin_of posted (before_chunk desk chunk) (chunk_text desk chunk)

-- nobody judged the chunk yet, so all of it is left
pub record IsFresh (desk : Desk) (chunk : ℕ) : Type 0 where
  pub undone : desk.done ≤ chunk
  pub behind : desk.place ≤ start_of desk.cuts chunk
  pub unjudged : is_unjudged chunk desk.journal ≡ true

-- what the journal says of where the chunk's last fragment comes from
abbrev pub HasOrigin : Desk → ℕ → Fragment → Type 0
HasOrigin desk chunk posted = last_origin chunk desk.journal ≡ Some (origin_in desk chunk posted)

-- a guess is of a whole chunk; a run from a known state is of what is left of the front chunk, from the front
abbrev pub IsPlaced : Desk → ℕ → Fragment → Type 0
IsPlaced desk chunk (fragment.Guessed guess) = IsFresh desk chunk × (guess.text ≡ chunk_text desk chunk)
IsPlaced desk chunk (fragment.Exact known) = (chunk ≡ desk.done) × (known.text ≡ rest_of desk chunk) × (known.entry ≡ desk.control)

-- what the board keeps of a chunk
abbrev pub IsInOrder : Desk → ℕ → Slot → Type 0
IsInOrder desk chunk slot.Unclaimed = IsFresh desk chunk
IsInOrder desk chunk (slot.Claimed w) = IsFresh desk chunk
IsInOrder desk chunk (slot.Posted posted) = IsPlaced desk chunk posted × HasOrigin desk chunk posted
IsInOrder desk chunk slot.Again = chunk ≡ desk.done
IsInOrder desk chunk (slot.AgainClaimed w) = chunk ≡ desk.done
IsInOrder desk chunk slot.Done = chunk < desk.done

-- what the board keeps
pub record IsKept (desk : Desk) : Type 0 where
  pub limit : length desk.text ≤ 2 ^ 24
  pub utf8 : IsUtf8 desk.text
  pub lawful : AreLawful desk.cuts.places desk.cuts.text_length
  pub of_text : IsOf desk.text desk.cuts
  pub count : length desk.slots ≡ length desk.cuts.places + 1
  pub replayed : replay (length desk.slots) desk.journal ≡ Some (statuses desk)
  pub placed : desk.place ≡ place_of desk.cuts desk.journal
  pub boundary : IsCharBoundary desk.text desk.place
  pub at : IsAt desk.text desk.place desk.control desk.tree
  pub kept : kept_of desk.journal ≡ first_chunks desk.done
  pub fair : IsFair desk.text desk.cuts desk.journal
  pub bound : desk.done ≤ length desk.slots
  pub from : start_of desk.cuts desk.done ≤ desk.place
  pub upto : desk.done < length desk.slots → desk.place ≤ end_of desk.cuts desk.done
  pub ended : length desk.slots ≤ desk.done → desk.place ≡ length desk.text
  pub slots : (chunk : ℕ) → chunk < length desk.slots → IsInOrder desk chunk (slot_at desk chunk)

abbrev pub entry : ℕ → BoardStep → Entry
entry worker step = record { worker = worker; step = step }

-- the chunk has this slot with this entry, and all else stays
abbrev pub put : Desk → ℕ → Slot → Entry → Desk
put desk chunk slot entry = record desk { slots = slice_set desk.slots chunk slot; journal = desk.journal ++ entry ∷ [] }

-- the boards are of one text and the same cuts
pub record SamePage (old new : Desk) : Type 0 where
  pub text : new.text ≡ old.text
  pub cuts : new.cuts ≡ old.cuts
  pub workers : new.workers ≡ old.workers
