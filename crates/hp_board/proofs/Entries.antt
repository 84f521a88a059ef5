-- One entry more in a journal.
use Rattle.std.proofs.Common.{◌≡◌, ◌++◌, ℕ, List, [], ◌∷◌, Option, None, Some, refl, sym, ap, ◌∙◌, append_assoc}
use Rattle.std.proofs.lemmas.List.{append-nil}
use Rattle.std.specs.List.{flat_map}
use Rattle.std.specs.Option.{option_and_then}
use Rattle.hp_cut.specs.Places.{Cutting}
use Rattle.hp_board.specs.declared.journal.Entry.{Entry}
use Rattle.hp_board.specs.declared.journal.Status.{Status}
use Rattle.hp_board.specs.Machine.{stepped, replay_from, moved, place_from, kept_by, kept_of}

pub replay-append : (ss : List Status) (xs ys : List Entry) → replay_from ss (xs ++ ys) ≡ option_and_then (λ later. replay_from later ys) (replay_from ss xs)
unfolding replay_from
replay-append ss [] ys = refl
replay-append ss (x ∷ xs) ys =
    elim (stepped ss x.worker x.step) as (λ o. option_and_then (λ later. replay_from later (xs ++ ys)) o ≡ option_and_then (λ later. replay_from later ys) (option_and_then (λ later. replay_from later xs) o))
    [ None ↦ refl | Some later ↦ replay-append later xs ys ]

-- one entry more, whose need is met
pub replay-push : (ss now later : List Status) (journal : List Entry) (e : Entry) → replay_from ss journal ≡ Some now → stepped now e.worker e.step ≡ Some later → replay_from ss (journal ++ e ∷ []) ≡ Some later
unfolding replay_from
replay-push ss now later journal e was met = rw (replay-append ss journal (e ∷ [])) (rw was (rw met refl))

pub place-push : (cuts : Cutting) (place : ℕ) (journal : List Entry) (e : Entry) → place_from cuts place (journal ++ e ∷ []) ≡ moved cuts (place_from cuts place journal) e.step
unfolding place_from
place-push cuts place [] e = refl
place-push cuts place (x ∷ xs) e = place-push cuts (moved cuts place x.step) xs e

pub kept-push : (journal : List Entry) (e : Entry) → kept_of (journal ++ e ∷ []) ≡ kept_of journal ++ kept_by e.step
kept-push [] e = append-nil (kept_by e.step)
kept-push (x ∷ xs) e = ap (λ rest. kept_by x.step ++ rest) (kept-push xs e) ∙ sym (append_assoc (kept_by x.step) (kept_of xs) (kept_by e.step))
