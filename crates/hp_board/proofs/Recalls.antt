-- Claims that are taken back one after the other.
use Rattle.std.proofs.Common.{◌≡◌, ◌≢◌, ◌+◌, ◌<◌, ◌≤◌, ℕ, zero, suc, List, Option, None, Some, length, add-one, refl, sym, ap, ◌∙◌, arith, get_or, set}
use Rattle.std.proofs.lemmas.List.{length-set, get_or-set_other}
use Rattle.hp_board.specs.declared.slot.Slot.{Slot}
use Rattle.hp_board.specs.declared.slot.Slot.TheVariants as slot
use Rattle.hp_board.specs.Calls.{recalled, released, released_by, released_slot}
use Rattle.hp_board.specs.Desk.{Desk, slot_at}

released-length : (w : ℕ) (desk : Desk) (k : ℕ) (o : Option Slot) → length (released_by w desk k o).slots ≡ length desk.slots
released-length w desk k None = refl
released-length w desk k (Some s) = length-set desk.slots k s

released-other : (w : ℕ) (desk : Desk) (k c : ℕ) (o : Option Slot) → c ≢ k → slot_at (released_by w desk k o) c ≡ slot_at desk c
released-other w desk k c None other = refl
released-other w desk k c (Some s) other = get_or-set_other desk.slots k c s slot.Done other

pub recalled-length : (w : ℕ) (desk : Desk) (n : ℕ) → length (recalled w desk n).slots ≡ length desk.slots
unfolding recalled
recalled-length w desk zero = refl
recalled-length w desk (suc n) = released-length w (recalled w desk n) n (released_slot (slot_at (recalled w desk n) n)) ∙ recalled-length w desk n

-- the chunks that are still to come stay as they were
pub recalled-later : (w : ℕ) (desk : Desk) (n c : ℕ) → n ≤ c → slot_at (recalled w desk n) c ≡ slot_at desk c
unfolding recalled
recalled-later w desk zero c low = refl
recalled-later w desk (suc n) c low =
    released-other w (recalled w desk n) n c (released_slot (slot_at (recalled w desk n) n)) (λ same. absurd (omega (arith, low, same))) ∙ recalled-later w desk n c (omega arith)

-- one chunk more
pub recalled-more : (w : ℕ) (desk : Desk) (n : ℕ) → released w (recalled w desk n) n ≡ recalled w desk (n + 1)
unfolding recalled
recalled-more w desk n = rw add-one refl
