-- The next chunk, claimed, and a claim that is taken back.
use Rattle.std.proofs.Common.{◌≡◌, ◌+◌, ◌<◌, ◌≤◌, ℕ, List, Option, None, Some, length, map, set, Bool, true, false, ◌&&◌, refl, sym, ap, subst, ◌∙◌, arith, ⊎_elim}
use Rattle.std.proofs.lemmas.Bool.{cases_lt}
use Rattle.std.proofs.lemmas.List.{get_or_past}
use Rattle.hp_board.specs.declared.journal.BoardStep.TheVariants as step
use Rattle.hp_board.specs.declared.journal.Status.{Status}
use Rattle.hp_board.specs.declared.slot.Slot.{Slot}
use Rattle.hp_board.specs.declared.slot.Slot.TheVariants as slot
use Rattle.hp_board.specs.Calls.{claimed_on, claimed_slot, released_slot}
use Rattle.hp_board.specs.Desk.{Desk, IsInOrder, IsKept, entry, owed_of, put, slot_at, status_of, statuses}
use Rattle.hp_board.specs.Machine.{at, claimed_status, is_again, is_first, is_next, is_unclaimed, none, stepped, when}
use Rattle.hp_board.proofs.Fairness.{fair-claimed}
use Rattle.hp_board.proofs.Puts.{at-slots, fresh-put, keeps-put}

claimed-status : (w : ℕ) (again : Bool) → claimed_status w again ≡ status_of (claimed_slot w again)
claimed-status w true = refl
claimed-status w false = refl

pub claimed-owes : (w : ℕ) (again : Bool) → owed_of (claimed_slot w again) ≡ 2
claimed-owes w true = refl
claimed-owes w false = refl

second_true : (a b : Bool) → (a && b) ≡ true → b ≡ true
second_true true b e = e
second_true false b e = cc

first_true : (a b : Bool) → (a && b) ≡ true → a ≡ true
first_true true b e = refl
first_true false b e = e

again_parts : (desk : Desk) (k w : ℕ) (s : Slot) → IsInOrder desk k s → is_again (status_of s) ≡ true → IsInOrder (claimed_on desk w k true) k (claimed_slot w true) × (owed_of s ≡ 0)
again_parts desk k w slot.Again is e = (is, refl)
again_parts desk k w slot.Done is e = absurd cc
again_parts desk k w slot.Unclaimed is e = absurd cc
again_parts desk k w (slot.Claimed v) is e = absurd cc
again_parts desk k w (slot.Posted p) is e = absurd cc
again_parts desk k w (slot.AgainClaimed v) is e = absurd cc

free_parts : (desk : Desk) (k w : ℕ) (s : Slot) → IsInOrder desk k s → is_unclaimed (status_of s) ≡ true → IsInOrder (claimed_on desk w k false) k (claimed_slot w false) × (owed_of s ≡ 0)
free_parts desk k w slot.Unclaimed is e = (fresh-put desk k k (claimed_slot w false) (entry w (step.Claimed k false)) refl is, refl)
free_parts desk k w slot.Done is e = absurd cc
free_parts desk k w slot.Again is e = absurd cc
free_parts desk k w (slot.Claimed v) is e = absurd cc
free_parts desk k w (slot.Posted p) is e = absurd cc
free_parts desk k w (slot.AgainClaimed v) is e = absurd cc

pub next_parts : (desk : Desk) (k w : ℕ) (again : Bool) → IsKept desk → k < length desk.slots → is_next (statuses desk) k again ≡ true → IsInOrder (claimed_on desk w k again) k (claimed_slot w again) × (owed_of (slot_at desk k) ≡ 0)
next_parts desk k w true kept within next =
    again_parts desk k w (slot_at desk k) (kept.slots k within) (ap is_again (sym (at-slots desk.slots k)) ∙ next)
next_parts desk k w false kept within next =
    let first : is_first is_unclaimed (statuses desk) k ≡ true = second_true (none is_again (statuses desk)) (is_first is_unclaimed (statuses desk) k) next in
    free_parts desk k w (slot_at desk k) (kept.slots k within) (ap is_unclaimed (sym (at-slots desk.slots k)) ∙ first_true (is_unclaimed (at (statuses desk) k)) _ first)

pub keeps-claimed : (desk : Desk) (k w : ℕ) (again : Bool) → IsKept desk → k < length desk.slots → is_next (statuses desk) k again ≡ true → IsKept (claimed_on desk w k again)
keeps-claimed desk k w again kept within next =
    keeps-put desk k (claimed_slot w again) (entry w (step.Claimed k again)) kept within refl
    (let stepped' : when (is_next (statuses desk) k again) (set (statuses desk) k (claimed_status w again)) ≡ Some (set (statuses desk) k (claimed_status w again)) = rw next refl in
    stepped' ∙ ap (λ s. Some (set (statuses desk) k s)) (claimed-status w again))
    refl refl (next_parts desk k w again kept within next).0 (fair-claimed desk.text desk.cuts desk.journal w k again)

-- a chunk whose claim is taken back
pub released-fits : (desk : Desk) (k w : ℕ) (s before : Slot) → IsInOrder desk k s → released_slot s ≡ Some before → IsInOrder (put desk k before (entry w (step.Released k))) k before
released-fits desk k w (slot.Claimed v) slot.Unclaimed is e = fresh-put desk k k slot.Unclaimed (entry w (step.Released k)) refl is
released-fits desk k w (slot.AgainClaimed v) slot.Again is e = is
released-fits desk k w (slot.Claimed v) (slot.Claimed u) is e = absurd cc
released-fits desk k w (slot.Claimed v) (slot.Posted u) is e = absurd cc
released-fits desk k w (slot.Claimed v) slot.Again is e = absurd cc
released-fits desk k w (slot.Claimed v) (slot.AgainClaimed u) is e = absurd cc
released-fits desk k w (slot.Claimed v) slot.Done is e = absurd cc
released-fits desk k w (slot.AgainClaimed v) slot.Unclaimed is e = absurd cc
released-fits desk k w (slot.AgainClaimed v) (slot.Claimed u) is e = absurd cc
released-fits desk k w (slot.AgainClaimed v) (slot.Posted u) is e = absurd cc
released-fits desk k w (slot.AgainClaimed v) (slot.AgainClaimed u) is e = absurd cc
released-fits desk k w (slot.AgainClaimed v) slot.Done is e = absurd cc
released-fits desk k w slot.Unclaimed before is e = absurd cc
released-fits desk k w (slot.Posted p) before is e = absurd cc
released-fits desk k w slot.Again before is e = absurd cc
released-fits desk k w slot.Done before is e = absurd cc

-- it is one of the board's
pub claimed-within : (desk : Desk) (k : ℕ) (before : Slot) → released_slot (slot_at desk k) ≡ Some before → k < length desk.slots
claimed-within desk k before e =
    ⊎_elim (λ l. l)
    (λ past. let none : released_slot (slot_at desk k) ≡ None = ap released_slot (get_or_past desk.slots k slot.Done past) in absurd cc)
    (cases_lt k (length desk.slots))
