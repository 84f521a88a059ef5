-- The opening board, and one on which all is done.
use Rattle.std.proofs.Common.{◌≡◌, ◌+◌, ◌-◌, ◌<◌, ◌≤◌, ◌^◌, ◌==◌, ℕ, zero, suc, List, [], ◌∷◌, Option, None, Some, length, map, Bool, true, false, refl, sym, ap, subst, ◌∙◌, arith, get_or, set, ⊎_elim, replicate, sum_by}
use Rattle.std.specs.Str.{IsUtf8}
use Rattle.std.proofs.lemmas.List.{length-set, length-map, map-set, get_or-set_same, get_or-set_other, length-replicate, get_or-replicate, ext_get_or}
use Rattle.std.proofs.lemmas.Bool.{cases_eq}
use Rattle.std.proofs.lemmas.Str.{IsCharBoundary-start}
use Rattle.hp_cut.specs.Places.{AreLawful, Cutting, IsOf}
use Rattle.hp_pieces.specs.At.{AtStart, IsAt}
use Rattle.hp_pieces.specs.declared.fragment.Fragment.TheVariants as fragment
use Rattle.hp_board.specs.declared.journal.Status.{Status}
use Rattle.hp_board.specs.declared.journal.Status.TheVariants as status
use Rattle.hp_board.specs.declared.slot.Slot.{Slot}
use Rattle.hp_board.specs.declared.slot.Slot.TheVariants as slot
use Rattle.hp_board.specs.Calls.{IsDone, opened}
use Rattle.hp_board.specs.Desk.{Desk, IsInOrder, IsKept, owed_of, slot_at, status_of, statuses}
use Rattle.hp_board.specs.Machine.{at, end_of, first_chunks, is_done, kept_of, opening, place_from, place_of, replay, replay_from, start_of}
use Rattle.hp_board.proofs.Cutting.{start-rises}
use Rattle.hp_board.proofs.Puts.{at-slots}
use Rattle.hp_board.proofs.Fairness.{fair-empty}

map-replicate : (n : ℕ) → map status_of (replicate n slot.Unclaimed) ≡ replicate n status.Unclaimed
map-replicate zero = refl
map-replicate (suc n) = ap (λ rest. status.Unclaimed ∷ rest) (map-replicate n)

opening_fits : (text : List ℕ) (cuts : Cutting) (workers k : ℕ) → k < length cuts.places + 1 → IsInOrder (opened text cuts workers) k (get_or (set (replicate (length cuts.places + 1) slot.Unclaimed) 0 slot.Again) k slot.Done)
opening_fits text cuts workers k small =
    let n : ℕ = length cuts.places + 1 in
    ⊎_elim
    (λ same. rw same (rw (get_or-set_same (replicate n slot.Unclaimed) 0 slot.Again slot.Done (omega (arith, length-replicate n slot.Unclaimed))) refl))
    (λ other. rw (get_or-set_other (replicate n slot.Unclaimed) 0 k slot.Again slot.Done other) (rw (get_or-replicate n k slot.Unclaimed slot.Done small)
    (record { undone = omega arith; behind = omega arith; unjudged = refl })))
    (cases_eq k 0)

pub kept_opened : (text : List ℕ) (cuts : Cutting) (workers : ℕ) → AtStart → length text ≤ 2 ^ 24 → IsUtf8 text → AreLawful cuts.places cuts.text_length → IsOf text cuts → IsKept (opened text cuts workers)
unfolding replay_from place_from first_chunks
kept_opened text cuts workers begins limit utf8 lawful is = record {
  limit = limit;
  utf8 = utf8;
  lawful = lawful;
  of_text = is;
  count = slots_count;
  replayed = rw slots_count (ap Some (sym (map-set status_of (replicate n slot.Unclaimed) 0 slot.Again ∙ ap (λ ss. set ss 0 status.Again) (map-replicate n))));
  placed = refl;
  boundary = IsCharBoundary-start text utf8;
  at = begins text;
  kept = refl;
  fair = fair-empty text cuts;
  bound = omega arith;
  from = omega arith;
  upto = λ some. omega arith;
  ended = λ none. absurd (omega (arith, slots_count, none));
  slots = λ k small. opening_fits text cuts workers k (omega (arith, slots_count));
}
  where
    n : ℕ
    n = length cuts.places + 1

    slots_count : length (set (replicate (length cuts.places + 1) slot.Unclaimed) 0 slot.Again) ≡ length cuts.places + 1
    slots_count = length-set (replicate (length cuts.places + 1) slot.Unclaimed) 0 slot.Again ∙ length-replicate (length cuts.places + 1) slot.Unclaimed

done_status : (desk : Desk) (k : ℕ) (s : Slot) → IsInOrder desk k s → k < desk.done → status_of s ≡ status.Done
done_status desk k slot.Done is small = refl
done_status desk k slot.Unclaimed is small = absurd (omega (arith, is.undone))
done_status desk k (slot.Claimed w) is small = absurd (omega (arith, is.undone))
done_status desk k (slot.Posted (fragment.Guessed g)) is small = absurd (omega (arith, is.0.0.undone))
done_status desk k (slot.Posted (fragment.Exact e)) is small = absurd (omega (arith, is.0.0))
done_status desk k slot.Again is small = absurd (omega arith)
done_status desk k (slot.AgainClaimed w) is small = absurd (omega arith)

pub all_done : (desk : Desk) → IsKept desk → IsDone desk → replay (length desk.slots) desk.journal ≡ Some (replicate (length desk.slots) status.Done)
all_done desk kept done =
    kept.replayed ∙ ap Some (ext_get_or status.Done (statuses desk) (replicate (length desk.slots) status.Done)
    (length-map desk.slots status_of ∙ sym (length-replicate (length desk.slots) status.Done))
    (λ k small.
    let here : k < length desk.slots = omega (arith, length-map desk.slots status_of) in
    at-slots desk.slots k ∙ (done_status desk k (slot_at desk k) (kept.slots k here) (omega (arith, done, here))
    ∙ sym (get_or-replicate (length desk.slots) k status.Done status.Done here))))

-- the front is that at the text's end
pub at_end : (desk : Desk) → IsKept desk → IsDone desk → IsAt desk.text (length desk.text) desk.control desk.tree
at_end desk kept done = subst (λ n. IsAt desk.text n desk.control desk.tree) (kept.ended (omega (arith, done))) kept.at

replicate_owes : (n : ℕ) → sum_by owed_of (replicate n slot.Unclaimed) ≡ 0
replicate_owes zero = refl
replicate_owes (suc n) = omega (arith, replicate_owes n)

pub opening_owes : (n : ℕ) → sum_by owed_of (set (replicate n slot.Unclaimed) 0 slot.Again) ≡ 0
opening_owes zero = refl
opening_owes (suc n) = omega (arith, replicate_owes n)
