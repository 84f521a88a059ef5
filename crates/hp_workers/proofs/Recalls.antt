-- After all claims were taken back nobody has a chunk, and at the start nobody has one.
use Rattle.std.proofs.Common.{◌≡◌, ◌+◌, ◌<◌, ◌≤◌, ◌⊎◌, ℕ, zero, suc, List, [], ◌∷◌, Option, None, Some, length, Bool, true, false, refl, sym, ap, subst, ◌∙◌, arith, ltb, get_or, set, ⊎_elim}
use Rattle.std.proofs.lemmas.List.{length-set, get_or_past, get_or-set_same, get_or-set_other}
use Rattle.std.proofs.lemmas.Bool.{cases_eq, ltb-false, ltb-true}
use Rattle.std.specs.Prelude.{replicate}
use Rattle.hp_board.specs.Calls.{is_claimed, recalled, released_by, released_slot}
use Rattle.hp_board.specs.Desk.{Desk, slot_at}
use Rattle.hp_board.specs.declared.slot.Slot.{Slot}
use Rattle.hp_board.specs.declared.slot.Slot.TheVariants as slot
use Rattle.hp_workers.specs.Turns.{IsFree}
use Rattle.hp_workers.proofs.Weights.{AreFree, free_set}

-- no chunk before this number is claimed
abbrev FreeBefore : ℕ → List Slot → Type 0
FreeBefore n slots = (k : ℕ) → k < n → is_claimed (get_or slots k slot.Done) ≡ false

same_length : (w : ℕ) (desk : Desk) (k : ℕ) (o : Option Slot) → length (released_by w desk k o).slots ≡ length desk.slots
same_length w desk k None = refl
same_length w desk k (Some s) = length-set desk.slots k s

released_free : (w : ℕ) (desk : Desk) (n : ℕ) (s : Slot) → slot_at desk n ≡ s → n < length desk.slots → FreeBefore n desk.slots → FreeBefore (n + 1) (released_by w desk n (released_slot s)).slots
released_free w desk n s is within before = one s is
  where
    kept_free : (s : Slot) → slot_at desk n ≡ s → is_claimed s ≡ false → FreeBefore (n + 1) desk.slots
    kept_free s is own k small =
        ⊎_elim (λ same. subst (λ i. is_claimed (get_or desk.slots i slot.Done) ≡ false) (sym same) (ap is_claimed is ∙ own)) (λ other. before k (omega (arith, other))) (cases_eq k n)

    put_free : (new : Slot) → is_claimed new ≡ false → FreeBefore (n + 1) (set desk.slots n new)
    put_free new own k small =
        ⊎_elim
        (λ same. subst (λ i. is_claimed (get_or (set desk.slots n new) i slot.Done) ≡ false) (sym same) (rw (get_or-set_same desk.slots n new slot.Done within) own))
        (λ other. rw (get_or-set_other desk.slots n k new slot.Done other) (before k (omega (arith, other))))
        (cases_eq k n)

    one : (s : Slot) → slot_at desk n ≡ s → FreeBefore (n + 1) (released_by w desk n (released_slot s)).slots
    one slot.Unclaimed is = kept_free slot.Unclaimed is refl
    one (slot.Claimed v) is = put_free slot.Unclaimed refl
    one (slot.Posted f) is = kept_free (slot.Posted f) is refl
    one slot.Again is = kept_free slot.Again is refl
    one (slot.AgainClaimed v) is = put_free slot.Again refl
    one slot.Done is = kept_free slot.Done is refl

recalled_length : (w : ℕ) (desk : Desk) (n : ℕ) → length (recalled w desk n).slots ≡ length desk.slots
unfolding recalled
recalled_length w desk zero = refl
recalled_length w desk (suc n) = same_length w (recalled w desk n) n (released_slot (slot_at (recalled w desk n) n)) ∙ recalled_length w desk n

free_before : (w : ℕ) (desk : Desk) (n : ℕ) → n ≤ length desk.slots → FreeBefore n (recalled w desk n).slots
unfolding recalled
free_before w desk zero small = λ k none. absurd (omega arith)
free_before w desk (suc n) small =
    let P : ℕ → Type 0 = λ m. FreeBefore m (recalled w desk (suc n)).slots in
    subst P (omega arith) (released_free w (recalled w desk n) n (slot_at (recalled w desk n) n) refl (omega (arith, recalled_length w desk n)) (free_before w desk n (omega arith)))

-- of no chunk at all, where it is of none that is there
free_all : (slots : List Slot) → FreeBefore (length slots) slots → AreFree slots
free_all slots before k = by_cases (ltb k (length slots)) refl
  where
    by_cases : (b : Bool) → ltb k (length slots) ≡ b → is_claimed (get_or slots k slot.Done) ≡ false
    by_cases true e = before k (ltb-true k (length slots) e)
    by_cases false e = ap is_claimed (get_or_past slots k slot.Done (ltb-false k (length slots) e))

pub recalled_is_free : (w : ℕ) (desk : Desk) → IsFree (recalled w desk (length desk.slots))
recalled_is_free w desk =
    let after = recalled w desk (length desk.slots) in
    free_all after.slots (subst (λ n. FreeBefore n after.slots) (sym (recalled_length w desk (length desk.slots))) (free_before w desk (length desk.slots) (omega arith)))

unclaimed_free : (n : ℕ) → AreFree (replicate n slot.Unclaimed)
unclaimed_free zero k = refl
unclaimed_free (suc n) zero = refl
unclaimed_free (suc n) (suc k) = unclaimed_free n k

-- at the start nobody has a chunk
pub opened_free : (n : ℕ) → AreFree (set (replicate n slot.Unclaimed) 0 slot.Again)
opened_free n = free_set (replicate n slot.Unclaimed) 0 slot.Again refl (unclaimed_free n)
