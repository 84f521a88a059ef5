-- A slot in place of another.
use Rattle.std.proofs.Common.{◌≡◌, ◌≢◌, ◌+◌, ◌<◌, ◌≤◌, ◌++◌, ℕ, zero, suc, List, [], ◌∷◌, Option, None, Some, true, false, length, map, refl, sym, ap, subst, ◌∙◌, arith, get_or, set, ⊎_elim}
use Rattle.std.proofs.lemmas.List.{length-set, map-set, get_or-set_same, get_or-set_other, append-nil}
use Rattle.std.proofs.lemmas.Bool.{cases_eq}
use Rattle.hp_pieces.specs.declared.fragment.Fragment.{Fragment}
use Rattle.hp_pieces.specs.declared.fragment.Fragment.TheVariants as fragment
use Rattle.hp_board.specs.declared.journal.Entry.{Entry}
use Rattle.hp_board.specs.declared.journal.Status.TheVariants as status
use Rattle.hp_board.specs.declared.slot.Slot.{Slot}
use Rattle.hp_board.specs.declared.slot.Slot.TheVariants as slot
use Rattle.hp_board.specs.Desk.{Desk, HasOrigin, IsFresh, IsInOrder, IsKept, put, slot_at, status_of, statuses}
use Rattle.hp_board.specs.Fair.{IsFairEntry}
use Rattle.hp_board.specs.Machine.{at, kept_by, kept_of, moved, place_of, replay, stepped}
use Rattle.hp_board.specs.Origins.{chunk_of_step, judges}
use Rattle.hp_board.proofs.Entries.{kept-push, place-push, replay-push}
use Rattle.hp_board.proofs.Fairness.{fair-push}
use Rattle.hp_board.proofs.Origins.{judges-other, origin-other, origin-push, unjudged-push}

-- the status of a chunk is that of its slot
pub at-slots : (slots : List Slot) (chunk : ℕ) → at (map status_of slots) chunk ≡ status_of (get_or slots chunk slot.Done)
at-slots [] chunk = refl
at-slots (s ∷ ss) zero = refl
at-slots (s ∷ ss) (suc chunk) = at-slots ss chunk

-- a fresh chunk stays so where an entry doesn't judge it
pub fresh-put : (desk : Desk) (k c : ℕ) (new : Slot) (e : Entry) → judges c e.step ≡ false → IsFresh desk c → IsFresh (put desk k new e) c
fresh-put desk k c new e not_judged fresh = record { undone = fresh.undone; behind = fresh.behind; unjudged = unjudged-push c desk.journal e fresh.unjudged not_judged }

pub origin-put : (desk : Desk) (k c : ℕ) (new : Slot) (e : Entry) (posted : Fragment) → chunk_of_step e.step ≢ c → HasOrigin desk c posted → HasOrigin (put desk k new e) c posted
origin-put desk k c new e posted other has = origin-push c desk.journal e ∙ (origin-other c _ e.step other ∙ has)

-- what the board keeps of a chunk that an entry isn't about
other-put : (desk : Desk) (k c : ℕ) (new : Slot) (e : Entry) (s : Slot) → chunk_of_step e.step ≢ c → IsInOrder desk c s → IsInOrder (put desk k new e) c s
other-put desk k c new e slot.Unclaimed other is = fresh-put desk k c new e (judges-other c e.step other) is
other-put desk k c new e (slot.Claimed w) other is = fresh-put desk k c new e (judges-other c e.step other) is
other-put desk k c new e (slot.Posted (fragment.Guessed guess)) other is =
    ((fresh-put desk k c new e (judges-other c e.step other) is.0.0, is.0.1), origin-put desk k c new e (fragment.Guessed guess) other is.1)
other-put desk k c new e (slot.Posted (fragment.Exact known)) other is = (is.0, origin-put desk k c new e (fragment.Exact known) other is.1)
other-put desk k c new e slot.Again other is = is
other-put desk k c new e (slot.AgainClaimed w) other is = is
other-put desk k c new e slot.Done other is = is

-- what the board keeps of each chunk, where the one that the entry is about has a new slot
order-put : (desk : Desk) (k : ℕ) (new : Slot) (e : Entry) → k < length desk.slots → chunk_of_step e.step ≡ k → IsInOrder (put desk k new e) k new
    → ((c : ℕ) → c < length desk.slots → IsInOrder desk c (slot_at desk c))
    → (c : ℕ) → c < length (set desk.slots k new) → IsInOrder (put desk k new e) c (slot_at (put desk k new e) c)
order-put desk k new e within about fits each c small =
    ⊎_elim
    (λ same. subst (λ i. IsInOrder (put desk k new e) i (get_or (set desk.slots k new) i slot.Done)) (sym same) (rw (get_or-set_same desk.slots k new slot.Done within) fits))
    (λ other. rw (get_or-set_other desk.slots k c new slot.Done other)
    (other-put desk k c new e (slot_at desk c) (λ same. other (sym same ∙ about)) (each c (omega (arith, length-set desk.slots k new)))))
    (cases_eq c k)

-- a step that commits nothing
pub keeps-put : (desk : Desk) (k : ℕ) (new : Slot) (e : Entry) → IsKept desk → k < length desk.slots → chunk_of_step e.step ≡ k
    → stepped (statuses desk) e.worker e.step ≡ Some (set (statuses desk) k (status_of new))
    → moved desk.cuts desk.place e.step ≡ desk.place → kept_by e.step ≡ [] → IsInOrder (put desk k new e) k new → IsFairEntry desk.text desk.cuts desk.journal e → IsKept (put desk k new e)
keeps-put desk k new e kept within about step stays keeps fits fair = record {
  limit = kept.limit;
  utf8 = kept.utf8;
  lawful = kept.lawful;
  of_text = kept.of_text;
  count = length-set desk.slots k new ∙ kept.count;
  replayed = rw (length-set desk.slots k new) (replay-push _ (statuses desk) _ desk.journal e kept.replayed (step ∙ ap Some (sym (map-set status_of desk.slots k new))));
  placed = sym (place-push desk.cuts 0 desk.journal e ∙ (ap (λ p. moved desk.cuts p e.step) (sym kept.placed) ∙ stays));
  boundary = kept.boundary;
  at = kept.at;
  kept = kept-push desk.journal e ∙ (ap (λ more. kept_of desk.journal ++ more) keeps ∙ (append-nil (kept_of desk.journal) ∙ kept.kept));
  fair = fair-push desk.text desk.cuts desk.journal e kept.fair fair;
  bound = omega (arith, kept.bound, length-set desk.slots k new);
  from = kept.from;
  upto = λ more. kept.upto (omega (arith, more, length-set desk.slots k new));
  ended = λ past. kept.ended (omega (arith, past, length-set desk.slots k new));
  slots = order-put desk k new e within about fits kept.slots;
}
