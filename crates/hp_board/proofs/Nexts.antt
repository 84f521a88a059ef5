-- The next chunk to claim.
use Rattle.std.proofs.Common.{◌≡◌, ◌+◌, ◌<◌, ◌≤◌, ℕ, List, length, map, take, drop, Bool, true, false, ◌&&◌, refl, sym, ap, subst, ◌∙◌, arith}
use Rattle.std.specs.Prelude.{slice_range}
use Rattle.std.proofs.lemmas.List.{drop-map, length-map, take_rest}
use Rattle.hp_board.specs.declared.journal.Status.{Status}
use Rattle.hp_board.specs.declared.slot.Slot.{Slot}
use Rattle.hp_board.specs.declared.slot.Slot.TheVariants as slot
use Rattle.hp_board.specs.Machine.{at, none, is_again, is_unclaimed, is_first}
use Rattle.hp_board.specs.Desk.{Desk, IsKept, IsInOrder, status_of, statuses, slot_at}
use Rattle.hp_board.proofs.None.{first-behind, none-all, none-joined, none-take}
use Rattle.hp_board.proofs.Puts.{at-slots}

-- a chunk that is Again is the front chunk
again_slot : (desk : Desk) (k : ℕ) (s : Slot) → IsInOrder desk k s → (k ≡ desk.done → is_again (status_of s) ≡ false) → is_again (status_of s) ≡ false
again_slot desk k slot.Done fits other = refl
again_slot desk k slot.Unclaimed fits other = refl
again_slot desk k (slot.Claimed w) fits other = refl
again_slot desk k (slot.Posted p) fits other = refl
again_slot desk k slot.Again fits other = other fits
again_slot desk k (slot.AgainClaimed w) fits other = refl

-- where the front chunk is not Again, none is
pub no_again : (desk : Desk) → IsKept desk → is_again (at (statuses desk) desk.done) ≡ false → none is_again (statuses desk) ≡ true
no_again desk kept front =
    none-all is_again (statuses desk) (λ k small.
    rw (at-slots desk.slots k) (again_slot desk k (slot_at desk k) (kept.slots k (omega (arith, length-map desk.slots status_of)))
    (λ same. subst (λ i. is_again (status_of (slot_at desk i)) ≡ false) (sym same) (ap is_again (sym (at-slots desk.slots desk.done)) ∙ front))))

open_slot : (desk : Desk) (k : ℕ) (s : Slot) → IsInOrder desk k s → is_unclaimed (status_of s) ≡ true → desk.done ≤ k
open_slot desk k slot.Unclaimed is e = is.undone
open_slot desk k slot.Done is e = absurd cc
open_slot desk k (slot.Claimed w) is e = absurd cc
open_slot desk k (slot.Posted p) is e = absurd cc
open_slot desk k slot.Again is e = absurd cc
open_slot desk k (slot.AgainClaimed w) is e = absurd cc

front_true : (a b : Bool) → (a && b) ≡ true → a ≡ true
front_true true b e = refl
front_true false b e = e

-- a chunk that is Unclaimed isn't done
pub unclaimed_open : (desk : Desk) (k : ℕ) → IsKept desk → k < length desk.slots → is_first is_unclaimed (statuses desk) k ≡ true → desk.done ≤ k
unclaimed_open desk k kept within first =
    let here : is_unclaimed (at (statuses desk) k) ≡ true = front_true (is_unclaimed (at (statuses desk) k)) _ first in
    open_slot desk k (slot_at desk k) (kept.slots k within) (ap is_unclaimed (sym (at-slots desk.slots k)) ∙ here)

done_slot : (desk : Desk) (k : ℕ) (s : Slot) → IsInOrder desk k s → k < desk.done → is_unclaimed (status_of s) ≡ false
done_slot desk k slot.Unclaimed fits before = absurd (let undone = fits.undone in omega arith)
done_slot desk k slot.Done fits before = refl
done_slot desk k (slot.Claimed w) fits before = refl
done_slot desk k (slot.Posted p) fits before = refl
done_slot desk k slot.Again fits before = refl
done_slot desk k (slot.AgainClaimed w) fits before = refl

-- no chunk before the front chunk is Unclaimed
done_claimed : (desk : Desk) → IsKept desk → none is_unclaimed (take desk.done (statuses desk)) ≡ true
done_claimed desk kept =
    let bound = kept.bound in
    none-take is_unclaimed (statuses desk) desk.done (omega (arith, length-map desk.slots status_of))
    (λ k before. rw (at-slots desk.slots k) (done_slot desk k (slot_at desk k) (kept.slots k (omega arith)) before))

-- the statuses from the front chunk on
open_statuses : (desk : Desk) (slots : List Slot) → slots ≡ desk.slots → map status_of (slice_range slots desk.done (length slots)) ≡ drop desk.done (statuses desk)
open_statuses desk slots same =
    ap (map status_of) (take_rest slots desk.done) ∙ (sym (drop-map status_of desk.done slots) ∙ ap (λ (all : List Slot). drop desk.done (map status_of all)) same)

-- the first from the front chunk on is the first of all
pub first_open : (desk : Desk) (slots : List Slot) (k : ℕ) → IsKept desk → slots ≡ desk.slots
    → is_first is_unclaimed (map status_of (slice_range slots desk.done (length slots))) k ≡ true → is_first is_unclaimed (statuses desk) (desk.done + k) ≡ true
first_open desk slots k kept same first =
    let bound = kept.bound in
    first-behind is_unclaimed (statuses desk) desk.done k (omega (arith, length-map desk.slots status_of)) (done_claimed desk kept)
    (subst (λ (ss : List Status). is_first is_unclaimed ss k ≡ true) (open_statuses desk slots same) first)

-- where none from the front chunk on is Unclaimed, none is
pub none_open : (desk : Desk) (slots : List Slot) → IsKept desk → slots ≡ desk.slots
    → none is_unclaimed (map status_of (slice_range slots desk.done (length slots))) ≡ true → none is_unclaimed (statuses desk) ≡ true
none_open desk slots kept same behind =
    none-joined is_unclaimed (statuses desk) desk.done (done_claimed desk kept)
    (subst (λ (ss : List Status). none is_unclaimed ss ≡ true) (open_statuses desk slots same) behind)
