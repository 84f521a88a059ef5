-- What a claimed chunk may be posted with.
use Rattle.std.proofs.Common.{◌≡◌, ◌+◌, ◌<◌, ◌≤◌, ℕ, List, length, map, Bool, true, false, refl, sym, ap, subst, ◌∙◌, arith, max, ⊎_elim, get_or}
use Rattle.std.specs.Prelude.{slice_range}
use Rattle.std.proofs.lemmas.List.{get_or_past}
use Rattle.std.proofs.lemmas.Bool.{cases_lt}
use Rattle.hp_pieces.specs.Texts.{covered_of, text_of}
use Rattle.hp_pieces.specs.declared.fragment.Fragment.{Fragment}
use Rattle.hp_pieces.specs.declared.fragment.Fragment.TheVariants as fragment
use Rattle.hp_board.specs.declared.journal.BoardStep.TheVariants as step
use Rattle.hp_board.specs.declared.journal.Status.TheVariants as status
use Rattle.hp_board.specs.declared.slot.Slot.{Slot}
use Rattle.hp_board.specs.declared.slot.Slot.TheVariants as slot
use Rattle.hp_board.specs.Calls.{IsPostable, StartsAs, is_yours, posted_on}
use Rattle.hp_board.specs.Desk.{Desk, HasOrigin, IsFresh, IsInOrder, IsKept, IsPlaced, chunk_text, entry, origin_in, owed_of, rest_of, slot_at, status_of, statuses}
use Rattle.hp_board.specs.Machine.{at, end_of, is_claimed_by, start_of}
use Rattle.hp_board.proofs.Origins.{origin-push, same_number}
use Rattle.hp_board.proofs.Puts.{at-slots, fresh-put}

-- all of a fresh chunk is left
pub fresh-rest : (desk : Desk) (chunk : ℕ) → IsFresh desk chunk → rest_of desk chunk ≡ chunk_text desk chunk
fresh-rest desk chunk fresh =
    let e : max desk.place (start_of desk.cuts chunk) ≡ start_of desk.cuts chunk = omega (arith, fresh.behind) in
    ap (λ (from : ℕ). slice_range desk.text from (end_of desk.cuts chunk)) e

-- a claimed chunk, and what may be posted on it
open_parts : (desk : Desk) (chunk w : ℕ) (s : Slot) (f : Fragment) → IsInOrder desk chunk s → is_claimed_by w (status_of s) ≡ true → StartsAs desk.control (status_of s) f → text_of f ≡ rest_of desk chunk
    → IsPlaced desk chunk f × (owed_of s ≡ 2)
open_parts desk chunk w (slot.Claimed v) (fragment.Guessed g) is yours starts text = ((is, text ∙ fresh-rest desk chunk is), refl)
open_parts desk chunk w (slot.Claimed v) (fragment.Exact k) is yours starts text = absurd starts
open_parts desk chunk w (slot.AgainClaimed v) (fragment.Guessed g) is yours starts text = absurd starts
open_parts desk chunk w (slot.AgainClaimed v) (fragment.Exact k) is yours starts text = ((is, text, starts), refl)
open_parts desk chunk w slot.Unclaimed f is yours starts text = absurd starts
open_parts desk chunk w (slot.Posted p) f is yours starts text = absurd starts
open_parts desk chunk w slot.Again f is yours starts text = absurd starts
open_parts desk chunk w slot.Done f is yours starts text = absurd starts

-- a claimed chunk is one of the board's
pub yours-within : (desk : Desk) (w chunk : ℕ) → is_yours desk w chunk ≡ true → chunk < length desk.slots
yours-within desk w chunk yours =
    ⊎_elim (λ l. l)
    (λ past. let e : is_yours desk w chunk ≡ false = ap (is_claimed_by w) (at-slots desk.slots chunk ∙ ap status_of (get_or_past desk.slots chunk slot.Done past)) in absurd cc)
    (cases_lt chunk (length desk.slots))

open_slot : (desk : Desk) (chunk w : ℕ) (s : Slot) → IsInOrder desk chunk s → is_claimed_by w (status_of s) ≡ true → desk.done ≤ chunk
open_slot desk chunk w (slot.Claimed v) is yours = is.undone
open_slot desk chunk w (slot.AgainClaimed v) is yours = omega (arith, is)
open_slot desk chunk w slot.Unclaimed is yours = is.undone
open_slot desk chunk w (slot.Posted p) is yours = absurd cc
open_slot desk chunk w slot.Again is yours = omega (arith, is)
open_slot desk chunk w slot.Done is yours = absurd cc

-- and it isn't done
pub yours-undone : (desk : Desk) (w chunk : ℕ) → IsKept desk → is_yours desk w chunk ≡ true → desk.done ≤ chunk
yours-undone desk w chunk kept yours =
    open_slot desk chunk w (slot_at desk chunk) (kept.slots chunk (yours-within desk w chunk yours)) (subst (λ s. is_claimed_by w s ≡ true) (at-slots desk.slots chunk) yours)

pub postable_parts : (desk : Desk) (w chunk : ℕ) (f : Fragment) → IsKept desk → IsPostable desk w chunk f → IsPlaced desk chunk f × (owed_of (slot_at desk chunk) ≡ 2)
postable_parts desk w chunk f kept can =
    let e : at (statuses desk) chunk ≡ status_of (slot_at desk chunk) = at-slots desk.slots chunk in
    open_parts desk chunk w (slot_at desk chunk) f (kept.slots chunk (yours-within desk w chunk can.yours))
    (subst (λ s. is_claimed_by w s ≡ true) e can.yours) (subst (λ s. StartsAs desk.control s f) e can.starts) can.text

-- the journal says last of a posted fragment where it comes from
posted-origin : (desk : Desk) (w chunk : ℕ) (f : Fragment) → HasOrigin (posted_on desk w chunk f) chunk f
posted-origin desk w chunk f = origin-push chunk desk.journal (entry w (step.Posted chunk (covered_of f) (origin_in desk chunk f))) ∙ rw (same_number chunk) refl

posted-place : (desk : Desk) (w chunk : ℕ) (f : Fragment) → IsPlaced desk chunk f → IsPlaced (posted_on desk w chunk f) chunk f
posted-place desk w chunk (fragment.Exact k) is = is
posted-place desk w chunk (fragment.Guessed g) is = (fresh-put desk chunk chunk (slot.Posted (fragment.Guessed g)) (entry w (step.Posted chunk g.covered (origin_in desk chunk (fragment.Guessed g)))) refl is.0, is.1)

pub fits-posted : (desk : Desk) (w chunk : ℕ) (f : Fragment) → IsKept desk → IsPostable desk w chunk f → IsInOrder (posted_on desk w chunk f) chunk (slot.Posted f)
fits-posted desk w chunk f kept can = (posted-place desk w chunk f (postable_parts desk w chunk f kept can).0, posted-origin desk w chunk f)
