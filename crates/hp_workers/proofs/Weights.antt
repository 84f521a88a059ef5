-- What a judgement makes of a board of which nobody has a chunk.
use Rattle.std.proofs.Common.{◌≡◌, ◌+◌, ◌-◌, ◌<◌, ◌≤◌, ℕ, zero, suc, List, [], ◌∷◌, Bool, true, false, length, refl, sym, ap, subst, ◌∙◌, arith, get_or, set, sum_by}
use Rattle.std.proofs.lemmas.List.Sums.{sum_by-set}
use Rattle.hp_pieces.specs.Texts.{covered_of, text_of}
use Rattle.hp_pieces.specs.declared.fragment.Fragment.{Fragment}
use Rattle.hp_pieces.specs.declared.fragment.Fragment.TheVariants.{Exact, Guessed}
use Rattle.hp_control.specs.States.{ControlState}
use Rattle.hp_control.specs.declared.question.Answer.{Answer}
use Rattle.hp_control.specs.declared.question.Question.{Question}
use Rattle.hp_board.specs.Calls.{IsAdvance, IsFalseOf, IsJudged, is_claimed}
use Rattle.hp_board.specs.Desk.{Desk, slot_at}
use Rattle.hp_board.specs.declared.slot.Slot.{Slot}
use Rattle.hp_board.specs.declared.slot.Slot.TheVariants as slot
use Rattle.hp_board.specs.declared.steps.Advance.{Advance}
use Rattle.hp_board.specs.declared.steps.Advance.TheVariants as advance
use Rattle.hp_workers.specs.Turns.{IsFree, weight, weight_of, weight_posted}

-- no chunk of these is claimed
abbrev pub AreFree : List Slot → Type 0
AreFree slots = (chunk : ℕ) → is_claimed (get_or slots chunk slot.Done) ≡ false

-- a posted chunk stands on the board
posted_within : (slots : List Slot) (k : ℕ) (f : Fragment) → get_or slots k slot.Done ≡ slot.Posted f → k < length slots
posted_within [] k f e = absurd cc
posted_within (s ∷ ss) zero f e = omega arith
posted_within (s ∷ ss) (suc k) f e = omega (arith, posted_within ss k f e)

-- a slot of less weight in place of another one
pub lighter : (slots : List Slot) (k : ℕ) (new old : Slot) → k < length slots → get_or slots k slot.Done ≡ old → weight_of new < weight_of old → sum_by weight_of (set slots k new) < sum_by weight_of slots
lighter slots k new old within is less = omega (arith, sum_by-set weight_of slots k new slot.Done within, ap weight_of is, less)

-- a slot that isn't claimed in place of another one
pub free_set : (slots : List Slot) (k : ℕ) (new : Slot) → is_claimed new ≡ false → AreFree slots → AreFree (set slots k new)
free_set [] k new own free j = free j
free_set (s ∷ ss) zero new own free zero = own
free_set (s ∷ ss) zero new own free (suc j) = free (suc j)
free_set (s ∷ ss) (suc k) new own free zero = free zero
free_set (s ∷ ss) (suc k) new own free (suc j) = free_set ss k new own (λ i. free (suc i)) j

-- the board needs fewer steps than before, and nobody has a chunk
abbrev pub IsLighter : Desk → Desk → Type 0
IsLighter desk new = (weight new < weight desk) × IsFree new

pub lighter_by : (desk new : Desk) (k : ℕ) (s : Slot) → new.slots ≡ set desk.slots k s → k < length desk.slots → weight_of s < weight_of (slot_at desk k) → is_claimed s ≡ false → IsFree desk → IsLighter desk new
lighter_by desk new k s slots within less own free = (
  rw slots (lighter desk.slots k s (slot_at desk k) within refl less),
  subst AreFree (sym slots) (free_set desk.slots k s own free),
)

-- the fragment is a guess where a pair is false, or where less than its text is covered
false_weight : (s : ControlState) (f : Fragment) (q : Question) (a : Answer) → IsFalseOf s f q a → weight_posted f ≡ 3
false_weight s (Guessed g) q a e = refl
false_weight s (Exact k) q a e = absurd e

part_weight : (f : Fragment) → covered_of f < length (text_of f) → weight_posted f ≡ 3
part_weight (Guessed g) less = refl
part_weight (Exact k) less = absurd (omega (arith, less))

some_weight : (f : Fragment) → 0 < weight_posted f
some_weight (Guessed g) = omega arith
some_weight (Exact k) = omega arith

judged : (desk new : Desk) (w : ℕ) (f : Fragment) (a : Advance) → IsFree desk → slot_at desk desk.done ≡ slot.Posted f → IsJudged desk w f new a → IsLighter desk new
judged desk new w f advance.Idle free here j = absurd j
judged desk new w f (advance.RolledBack q a) free here j =
    lighter_by desk new desk.done slot.Again (ap (λ (d : Desk). d.slots) j.1) (posted_within desk.slots desk.done f here)
    (omega (arith, false_weight desk.control f q a j.0, ap weight_of here)) refl free
judged desk new w f advance.Kept free here j =
    lighter_by desk new desk.done slot.Done (ap (λ (d : Desk). d.slots) j.2) (posted_within desk.slots desk.done f here)
    (omega (arith, some_weight f, ap weight_of here)) refl free
judged desk new w f (advance.Repaired at) free here j =
    lighter_by desk new desk.done slot.Again (ap (λ (d : Desk). d.slots) j.3) (posted_within desk.slots desk.done f here)
    (omega (arith, part_weight f j.1, ap weight_of here)) refl free

-- an advance that isn't idle
pub advanced : (desk new : Desk) (w : ℕ) (a : Advance) → IsFree desk → (a ≡ advance.Idle → ⊥) → IsAdvance desk w new a → IsLighter desk new
advanced desk new w advance.Idle free other h = absurd (other refl)
advanced desk new w (advance.RolledBack q a) free other h = judged desk new w h.0 (advance.RolledBack q a) free h.1 h.2
advanced desk new w advance.Kept free other h = judged desk new w h.0 advance.Kept free h.1 h.2
advanced desk new w (advance.Repaired at) free other h = judged desk new w h.0 (advance.Repaired at) free h.1 h.2
