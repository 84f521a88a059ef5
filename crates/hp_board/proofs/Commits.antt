-- What is committed.
use Rattle.std.proofs.Common.{◌≡◌, ◌≢◌, ◌+◌, ◌-◌, ◌<◌, ◌≤◌, ◌++◌, ◌^◌, ℕ, zero, suc, List, [], ◌∷◌, Option, None, Some, length, map, take, drop, Bool, true, false, ◌==◌, refl, sym, ap, subst, ◌∙◌, arith, get_or, set, ⊎_elim, max, add-one}
use Rattle.std.specs.Prelude.{slice_range}
use Rattle.std.proofs.lemmas.List.{length-set, length-map, map-set, get_or-set_same, get_or-set_other, set-set, set-get_or, append-nil, length-take, length-drop}
use Rattle.std.proofs.lemmas.Bool.{cases_eq}
use Rattle.hp_control.specs.States.{Fits}
use Rattle.hp_pieces.specs.Texts.{covered_of, text_of}
use Rattle.hp_pieces.specs.declared.fragment.Fragment.{Fragment}
use Rattle.hp_pieces.specs.declared.fragment.Fragment.TheVariants as fragment
use Rattle.hp_merge.specs.Checked.{IsLooked, MayJoin}
use Rattle.hp_merge.specs.declared.checking.Looked.TheVariants as looked
use Rattle.hp_merge.specs.Laws.{GoesOn, StandsBehind}
use Rattle.hp_merge.specs.Sound.{IsSoundFragment}
use Rattle.hp_board.specs.declared.journal.BoardStep.{BoardStep}
use Rattle.hp_board.specs.declared.journal.BoardStep.TheVariants as step
use Rattle.hp_board.specs.declared.journal.Entry.{Entry}
use Rattle.hp_board.specs.declared.journal.Status.TheVariants as status
use Rattle.hp_board.specs.declared.slot.Slot.{Slot}
use Rattle.hp_board.specs.declared.slot.Slot.TheVariants as slot
use Rattle.hp_board.specs.Calls.{committed}
use Rattle.hp_board.specs.Desk.{Desk, HasOrigin, IsFresh, IsInOrder, IsKept, IsPlaced, entry, fore_of, put, rest_of, rest_start, slot_at, status_of, statuses}
use Rattle.hp_board.specs.Fair.{IsFairEntry}
use Rattle.hp_board.specs.Machine.{at, end_of, first_chunks, is_done, is_judged, is_posted, kept_by, kept_of, moved, place_of, replay, start_of, stepped}
use Rattle.hp_board.specs.Origins.{chunk_of_step, judges}
use Rattle.hp_board.proofs.Cutting.{end-place, end-within, last-end, start-rises}
use Rattle.hp_board.proofs.Entries.{kept-push, place-push, replay-push}
use Rattle.hp_board.proofs.Fairness.{fair-push}
use Rattle.hp_board.proofs.None.{all-take}
use Rattle.hp_board.proofs.Origins.{judges-other, unjudged-push}
use Rattle.hp_board.proofs.Puts.{at-slots, fresh-put, origin-put}

-- a chunk before the front one is Done
done_slot : (desk : Desk) (k : ℕ) (s : Slot) → IsInOrder desk k s → k < desk.done → is_done (status_of s) ≡ true
done_slot desk k slot.Done is small = refl
done_slot desk k slot.Unclaimed is small = absurd (omega (arith, is.undone))
done_slot desk k (slot.Claimed w) is small = absurd (omega (arith, is.undone))
done_slot desk k (slot.Posted (fragment.Guessed g)) is small = absurd (omega (arith, is.0.0.undone))
done_slot desk k (slot.Posted (fragment.Exact e)) is small = absurd (omega (arith, is.0.0))
done_slot desk k slot.Again is small = absurd (omega arith)
done_slot desk k (slot.AgainClaimed w) is small = absurd (omega arith)

-- a posted chunk in front is one to judge
pub judged_front : (desk : Desk) (posted : Fragment) → IsKept desk → desk.done < length desk.slots → slot_at desk desk.done ≡ slot.Posted posted → is_judged (statuses desk) desk.done ≡ true
judged_front desk posted kept within here =
    let now : is_posted (at (statuses desk) desk.done) ≡ true = rw (at-slots desk.slots desk.done) (rw here refl) in
    rw now (all-take is_done (statuses desk) desk.done (omega (arith, length-map desk.slots status_of)) (λ k small. rw (at-slots desk.slots k) (done_slot desk k (slot_at desk k) (kept.slots k (omega arith)) small)))

-- the front chunk's fragment
module _ (desk : Desk) (posted : Fragment) (kept : IsKept desk) (within : desk.done < length desk.slots) (here : slot_at desk desk.done ≡ slot.Posted posted) where
  inside : desk.done < length desk.cuts.places + 1
  inside = omega (arith, kept.count, within)

  front : IsInOrder desk desk.done (slot.Posted posted)
  front = subst (λ s. IsInOrder desk desk.done s) here (kept.slots desk.done within)

  -- is of what follows the committed text in the chunk
  pub front_text : text_of posted ≡ slice_range desk.text desk.place (end_of desk.cuts desk.done)
  front_text = by_kind posted front.0
    where
      by_kind : (f : Fragment) → IsPlaced desk desk.done f → text_of f ≡ slice_range desk.text desk.place (end_of desk.cuts desk.done)
      by_kind (fragment.Guessed g) is =
          let e : start_of desk.cuts desk.done ≡ desk.place = omega (arith, kept.from, is.0.behind) in
          is.1 ∙ ap (λ (from : ℕ). slice_range desk.text from (end_of desk.cuts desk.done)) e
      by_kind (fragment.Exact k) is =
          let e : rest_start desk desk.done ≡ desk.place = omega (arith, kept.from) in
          is.1 ∙ ap (λ (from : ℕ). slice_range desk.text from (end_of desk.cuts desk.done)) e

  pub front_upto : desk.place ≤ end_of desk.cuts desk.done
  front_upto = kept.upto within

  pub front_edge : length (text_of posted) + desk.place ≡ end_of desk.cuts desk.done
  front_edge =
      let last = end-within desk.text desk.cuts desk.done kept.utf8 kept.of_text inside in
      omega (arith, ap length front_text, length-take (end_of desk.cuts desk.done - desk.place) (drop desk.place desk.text), length-drop desk.place desk.text, front_upto, last)

  -- Another chunk, where the front one was committed up to a place
  other_fits : (later k : ℕ) (new s : Slot) (e : Entry) → k ≢ desk.done → chunk_of_step e.step ≡ desk.done → k < length desk.cuts.places + 1 → desk.done ≤ later → later ≤ desk.done + 1
      → covered_of posted ≤ length (text_of posted) → IsInOrder desk k s → IsInOrder (committed desk posted later new e) k s
  other_fits later k new s e other about small low high covers is = by_slot s is
    where
      not_about : chunk_of_step e.step ≢ k
      not_about same = other (sym same ∙ about)

      fresh : IsFresh desk k → IsFresh (committed desk posted later new e) k
      fresh f = record {
        undone = omega (arith, f.undone, other, high);
        behind =
            let far : end_of desk.cuts desk.done ≤ start_of desk.cuts k = start-rises desk.text desk.cuts (desk.done + 1) k kept.lawful (omega (arith, f.undone, other)) (omega (arith, small)) in
            omega (arith, far, front_edge, covers);
        unjudged = (fresh-put desk desk.done k new e (judges-other k e.step not_about) f).unjudged;
      }

      by_slot : (s : Slot) → IsInOrder desk k s → IsInOrder (committed desk posted later new e) k s
      by_slot slot.Unclaimed is = fresh is
      by_slot (slot.Claimed w) is = fresh is
      by_slot slot.Again is = absurd (other is)
      by_slot (slot.AgainClaimed w) is = absurd (other is)
      by_slot slot.Done is = omega (arith, low)
      by_slot (slot.Posted (fragment.Exact e)) is = absurd (other is.0.0)
      by_slot (slot.Posted (fragment.Guessed g)) is = ((fresh is.0.0, is.0.1), origin-put desk desk.done k new e (fragment.Guessed g) not_about is.1)

  -- the board after a commit
  keeps_commit : GoesOn → StandsBehind → Fits desk.control → IsSoundFragment posted → MayJoin desk.control posted → (w later : ℕ) (new : Slot) (st : BoardStep)
      → covered_of posted ≤ length (text_of posted)
      → chunk_of_step st ≡ desk.done
      → stepped (statuses desk) w st ≡ Some (set (statuses desk) desk.done (status_of new))
      → moved desk.cuts (place_of desk.cuts desk.journal) st ≡ desk.place + covered_of posted
      → kept_of desk.journal ++ kept_by st ≡ first_chunks later
      → desk.done ≤ later → later ≤ desk.done + 1 → later ≤ length desk.slots
      → start_of desk.cuts later ≤ desk.place + covered_of posted
      → (later < length desk.slots → desk.place + covered_of posted ≤ end_of desk.cuts later)
      → (length desk.slots ≤ later → desk.place + covered_of posted ≡ length desk.text)
      → IsInOrder (committed desk posted later new (entry w st)) desk.done new
      → IsFairEntry desk.text desk.cuts desk.journal (entry w st)
      → IsKept (committed desk posted later new (entry w st))
  keeps_commit on behind fits sound may w later new st covers about step moves keeps low high bound from upto ended order fair = record {
    limit = kept.limit;
    utf8 = kept.utf8;
    lawful = kept.lawful;
    of_text = kept.of_text;
    count = length-set desk.slots desk.done new ∙ kept.count;
    replayed = rw (length-set desk.slots desk.done new) (replay-push _ (statuses desk) _ desk.journal (entry w st) kept.replayed (step ∙ ap Some (sym (map-set status_of desk.slots desk.done new))));
    placed = sym (place-push desk.cuts 0 desk.journal (entry w st) ∙ moves);
    boundary = (behind desk.text desk.place (end_of desk.cuts desk.done) posted kept.utf8 kept.boundary front_upto sound front_text).0;
    at = on desk.text desk.place (end_of desk.cuts desk.done) (fore_of desk) posted kept.at fits kept.utf8 kept.boundary front_upto sound may front_text;
    kept = kept-push desk.journal (entry w st) ∙ keeps;
    fair = fair-push desk.text desk.cuts desk.journal (entry w st) kept.fair fair;
    bound = omega (arith, bound, length-set desk.slots desk.done new);
    from = from;
    upto = λ more. upto (omega (arith, more, length-set desk.slots desk.done new));
    ended = λ past. ended (omega (arith, past, length-set desk.slots desk.done new));
    slots = λ k k_small.
        ⊎_elim
        (λ same. subst (λ i. IsInOrder (committed desk posted later new (entry w st)) i (get_or (set desk.slots desk.done new) i slot.Done)) (sym same) (rw (get_or-set_same desk.slots desk.done new slot.Done within) order))
        (λ other. rw (get_or-set_other desk.slots desk.done k new slot.Done other)
        (other_fits later k new (slot_at desk k) (entry w st) other about (omega (arith, kept.count, length-set desk.slots desk.done new)) low high covers (kept.slots k (omega (arith, length-set desk.slots desk.done new)))))
        (cases_eq k desk.done);
  }

  -- the front chunk, kept whole
  pub keeps_whole : GoesOn → StandsBehind → Fits desk.control → IsSoundFragment posted → MayJoin desk.control posted → (w : ℕ) → covered_of posted ≡ length (text_of posted) → IsFairEntry desk.text desk.cuts desk.journal (entry w (step.Kept desk.done))
      → IsKept (committed desk posted (desk.done + 1) slot.Done (entry w (step.Kept desk.done)))
  unfolding first_chunks
  keeps_whole on behind fits sound may w same fair =
      keeps_commit on behind fits sound may w (desk.done + 1) slot.Done (step.Kept desk.done) (omega arith) refl
      (rw (judged_front desk posted kept within here) refl)
      (omega (arith, front_edge, same))
      (rw add-one (ap (λ ks. ks ++ desk.done ∷ []) kept.kept))
      (omega arith) (omega arith) (omega (arith, within))
      (omega (arith, front_edge, same))
      (λ more. let r : end_of desk.cuts desk.done ≤ end_of desk.cuts (desk.done + 1) = start-rises desk.text desk.cuts (desk.done + 1) (desk.done + 1 + 1) kept.lawful (omega arith) (omega (arith, more, kept.count)) in omega (arith, front_edge, same, r))
      (λ last. let e = last-end desk.cuts desk.done (omega (arith, within, last, kept.count)) in omega (arith, front_edge, same, e, kept.of_text.same_length))
      (omega arith)
      fair

  -- the front chunk, kept in part
  pub keeps_part : GoesOn → StandsBehind → Fits desk.control → IsSoundFragment posted → MayJoin desk.control posted → (w n : ℕ) → covered_of posted ≤ length (text_of posted) → start_of desk.cuts desk.done + n ≡ desk.place + covered_of posted
      → IsFairEntry desk.text desk.cuts desk.journal (entry w (step.Repaired desk.done n))
      → IsKept (committed desk posted desk.done slot.Again (entry w (step.Repaired desk.done n)))
  keeps_part on behind fits sound may w n less place fair =
      keeps_commit on behind fits sound may w desk.done slot.Again (step.Repaired desk.done n) less refl
      (rw (judged_front desk posted kept within here) refl)
      place
      (append-nil (kept_of desk.journal) ∙ kept.kept)
      (omega arith) (omega arith) kept.bound
      (omega (arith, kept.from))
      (λ more. omega (arith, front_edge, less))
      (λ last. absurd (omega (arith, within)))
      refl
      fair

-- a run from a known state is posted from the front's alone
pub never_other : (desk : Desk) (posted : Fragment) → IsKept desk → desk.done < length desk.slots → slot_at desk desk.done ≡ slot.Posted posted → IsLooked desk.control posted looked.OtherEntry → ⊥
never_other desk posted kept within here other = by_kind posted (front desk posted kept within here).0 other
  where
    by_kind : (f : Fragment) → IsPlaced desk desk.done f → IsLooked desk.control f looked.OtherEntry → ⊥
    by_kind (fragment.Guessed g) is other = other
    by_kind (fragment.Exact k) is other = other is.2

-- a fragment that comes back stands where it stood
pub put-back : (slots : List Slot) (n : ℕ) (x : Slot) (f g : Fragment) → get_or slots n slot.Done ≡ slot.Posted f → g ≡ f → set (set slots n x) n (slot.Posted g) ≡ slots
put-back slots n x f g here same =
    set-set slots n x (slot.Posted g) ∙ (ap (λ (h : Fragment). set slots n (slot.Posted h)) same ∙ (ap (λ (s : Slot). set slots n s) (sym here) ∙ set-get_or slots n slot.Done))
