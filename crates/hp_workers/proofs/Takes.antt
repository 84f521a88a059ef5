-- What a claim and its post make of a board of which nobody has a chunk.
use Rattle.std.proofs.Common.{◌≡◌, ◌≢◌, ◌+◌, ◌<◌, ◌≤◌, ◌==◌, ◌&&◌, ℕ, zero, suc, List, [], ◌∷◌, Option, None, Some, length, map, Bool, true, false, not, refl, sym, ap, subst, ◌∙◌, arith, get_or, set, is_some}
use Rattle.std.proofs.lemmas.List.{length-map, get_or-set_same}
use Rattle.std.specs.Prelude.{IfSome, IfNone, slice_range}
use Rattle.hp_text.specs.Page.{text_of as page_text}
use Rattle.hp_text.specs.declared.chunks.Chunk.{Chunk}
use Rattle.hp_control.specs.States.{ControlState}
use Rattle.hp_predict.specs.declared.quiet.GuessKind.{GuessKind}
use Rattle.hp_pieces.specs.Texts.{text_of}
use Rattle.hp_pieces.specs.declared.fragment.Fragment.{Fragment}
use Rattle.hp_pieces.specs.declared.fragment.Fragment.TheVariants.{Exact, Guessed}
use Rattle.hp_board.specs.Calls.{IsAllClaimed, IsClaim, IsDone, IsPostable, IsRefused, StartsAs, claimed_on, claimed_slot, is_claimed, posted_on}
use Rattle.hp_board.specs.Desk.{Desk, IsInOrder, IsKept, rest_of, rest_start, slot_at, status_of, statuses}
use Rattle.hp_board.specs.Machine.{at, end_of, is_again, is_claimed_by, is_first, is_next, is_posted, is_unclaimed, none}
use Rattle.hp_board.specs.declared.journal.Status.{Status}
use Rattle.hp_board.specs.declared.journal.Status.TheVariants as status
use Rattle.hp_board.specs.declared.slot.Slot.{Slot}
use Rattle.hp_board.specs.declared.slot.Slot.TheVariants as slot
use Rattle.hp_board.specs.declared.steps.Claim.{Claim}
use Rattle.hp_board.specs.declared.steps.PostCause.{PostCause}
use Rattle.hp_board.specs.declared.steps.PostCause.TheVariants as cause
use Rattle.hp_board.specs.declared.tally.Tally.{Tally}
use Rattle.hp_workers.specs.Making.{IsMade, IsMadeFrom}
use Rattle.hp_workers.specs.Turns.{IsFree, weight_of, weight_posted}
use Rattle.hp_workers.proofs.Weights.{IsLighter, lighter_by}

pub at_slots : (slots : List Slot) (k : ℕ) → at (map status_of slots) k ≡ status_of (get_or slots k slot.Done)
at_slots [] k = refl
at_slots (s ∷ ss) zero = refl
at_slots (s ∷ ss) (suc k) = at_slots ss k

both_first : (a b : Bool) → (a && b) ≡ true → a ≡ true
both_first true b e = refl
both_first false b e = e

both_second : (a b : Bool) → (a && b) ≡ true → b ≡ true
both_second true b e = e
both_second false b e = absurd cc

not_true : (a : Bool) → not a ≡ true → a ≡ false
not_true true e = absurd cc
not_true false e = refl

-- of no status is it true, so not of this one
none_at : (p : Status → Bool) (ss : List Status) (k : ℕ) → none p ss ≡ true → k < length ss → p (at ss k) ≡ false
none_at p [] k all small = absurd (omega arith)
none_at p (s ∷ ss) zero all small = not_true (p s) (both_first (not (p s)) (none p ss) all)
none_at p (s ∷ ss) (suc k) all small = none_at p ss k (both_second (not (p s)) (none p ss) all) (omega arith)

-- the front chunk, where it isn't posted, nobody has claimed it and it isn't to be claimed
nothing_left : (desk : Desk) (s : Slot) → IsInOrder desk desk.done s → is_posted (status_of s) ≡ false → is_claimed s ≡ false → is_again (status_of s) ≡ false → is_unclaimed (status_of s) ≡ false → ⊥
nothing_left desk slot.Unclaimed fits idle free again fresh = absurd cc
nothing_left desk (slot.Claimed w) fits idle free again fresh = absurd cc
nothing_left desk (slot.Posted f) fits idle free again fresh = absurd cc
nothing_left desk slot.Again fits idle free again fresh = absurd cc
nothing_left desk (slot.AgainClaimed w) fits idle free again fresh = absurd cc
nothing_left desk slot.Done fits idle free again fresh = omega (arith, fits)

-- where nobody has a chunk, none is left to claim and the front isn't posted, all is done
pub all_done : (desk : Desk) → IsKept desk → IsFree desk → IsAllClaimed desk → is_posted (at (statuses desk) desk.done) ≡ false → IsDone desk
all_done desk kept free all idle =
    let more : desk.done < length desk.slots → ⊥ = λ left.
    let here : desk.done < length (statuses desk) = omega (arith, length-map desk.slots status_of, left) in
    let is = at_slots desk.slots desk.done in
    nothing_left desk (slot_at desk desk.done) (kept.slots desk.done left) (ap is_posted (sym is) ∙ idle) (free desk.done)
    (ap is_again (sym is) ∙ none_at is_again (statuses desk) desk.done all.again here)
    (ap is_unclaimed (sym is) ∙ none_at is_unclaimed (statuses desk) desk.done all.unclaimed here) in
    omega (arith, kept.bound, more)

-- what is made is of the kind of the claim, and where that is from a known state, from this one
starts : (desk : Desk) (w : ℕ) (kind : GuessKind) (chunk : Chunk) (from : Option ControlState) (made : Fragment) → IfSome from (λ s. s ≡ desk.control) → IsMadeFrom kind chunk from made
    → StartsAs desk.control (status_of (claimed_slot w (is_some from))) made
starts desk w kind chunk (Some s) (Exact known) state m = m ∙ state
starts desk w kind chunk None (Guessed guess) state m = tt
starts desk w kind chunk (Some s) (Guessed guess) state m = absurd m
starts desk w kind chunk None (Exact known) state m = absurd m

claimed_is : (w : ℕ) (again : Bool) → is_claimed_by w (status_of (claimed_slot w again)) ≡ true
claimed_is w true = grind arith
claimed_is w false = grind arith

again_within : (ss : List Slot) (k : ℕ) → is_again (at (map status_of ss) k) ≡ true → k < length ss
again_within [] k e = absurd cc
again_within (s ∷ ss) zero e = omega arith
again_within (s ∷ ss) (suc k) e = omega (arith, again_within ss k e)

unclaimed_within : (ss : List Slot) (k : ℕ) → is_unclaimed (at (map status_of ss) k) ≡ true → k < length ss
unclaimed_within [] k e = absurd cc
unclaimed_within (s ∷ ss) zero e = omega arith
unclaimed_within (s ∷ ss) (suc k) e = omega (arith, unclaimed_within ss k e)

pub next_unclaimed : (ss : List Status) (k : ℕ) → is_next ss k false ≡ true → is_unclaimed (at ss k) ≡ true
next_unclaimed ss k next = both_first (is_unclaimed (at ss k)) _ (both_second (none is_again ss) (is_first is_unclaimed ss k) next)

pub next_within : (desk : Desk) (k : ℕ) (again : Bool) → is_next (statuses desk) k again ≡ true → k < length desk.slots
next_within desk k true next = again_within desk.slots k next
next_within desk k false next = unclaimed_within desk.slots k (next_unclaimed (statuses desk) k next)

-- what was made of a claim is taken
pub postable : (desk new : Desk) (w : ℕ) (kind : GuessKind) (claim : Claim) (made : Fragment) → IsClaim desk w claim new → IsMade kind claim made → IsPostable new w claim.chunk.number made
postable desk new w kind claim made c m =
    let k = claim.chunk.number in
    let again = is_some claim.from in
    let after = claimed_on desk w k again in
    let here : at (statuses after) k ≡ status_of (claimed_slot w again) =
    at_slots after.slots k ∙ ap status_of (get_or-set_same desk.slots k (claimed_slot w again) slot.Done (next_within desk k again c.next)) in
    let text : text_of made ≡ rest_of desk k =
    m.text ∙ (ap (λ t. slice_range t claim.chunk.from claim.chunk.to) c.page
    ∙ (ap (λ n. slice_range desk.text n claim.chunk.to) c.from ∙ ap (λ n. slice_range desk.text (rest_start desk k) n) c.to)) in
    subst (λ (d : Desk). IsPostable d w k made) (sym c.board) (record {
      yours = ap (is_claimed_by w) here ∙ claimed_is w again;
      text = text;
      starts = subst (λ (s : Status). StartsAs desk.control s made) (sym here) (starts desk w kind claim.chunk claim.from made c.state m.by);
    })

apart : (b : Bool) → b ≡ true → b ≡ false → ⊥
apart true e f = cc
apart false e f = cc

-- what can be posted isn't refused
pub not_refused : (desk : Desk) (w k : ℕ) (made : Fragment) (why : PostCause) → IsPostable desk w k made → IsRefused desk w k made why → ⊥
not_refused desk w k made cause.NotYours p r = apart _ p.yours r
not_refused desk w k made cause.OtherText p r = r.1 p.text
not_refused desk w k made cause.OtherStart p r = r.2 p.starts

abbrev is_next_slot : Bool → Slot → Bool
is_next_slot true s = is_again (status_of s)
is_next_slot false s = is_unclaimed (status_of s)

-- what is made weighs less than the chunk did
made_weight : (kind : GuessKind) (chunk : Chunk) (from : Option ControlState) (made : Fragment) (s : Slot) → IsMadeFrom kind chunk from made → is_next_slot (is_some from) s ≡ true → weight_posted made < weight_of s
made_weight kind chunk (Some t) (Exact known) slot.Again m e = omega arith
made_weight kind chunk None (Guessed guess) slot.Unclaimed m e = omega arith
made_weight kind chunk (Some t) (Guessed guess) s m e = absurd m
made_weight kind chunk None (Exact known) s m e = absurd m
made_weight kind chunk (Some t) (Exact known) slot.Unclaimed m e = absurd cc
made_weight kind chunk (Some t) (Exact known) (slot.Claimed w) m e = absurd cc
made_weight kind chunk (Some t) (Exact known) (slot.Posted f) m e = absurd cc
made_weight kind chunk (Some t) (Exact known) (slot.AgainClaimed w) m e = absurd cc
made_weight kind chunk (Some t) (Exact known) slot.Done m e = absurd cc
made_weight kind chunk None (Guessed guess) (slot.Claimed w) m e = absurd cc
made_weight kind chunk None (Guessed guess) (slot.Posted f) m e = absurd cc
made_weight kind chunk None (Guessed guess) slot.Again m e = absurd cc
made_weight kind chunk None (Guessed guess) (slot.AgainClaimed w) m e = absurd cc
made_weight kind chunk None (Guessed guess) slot.Done m e = absurd cc

next_slot : (desk : Desk) (k : ℕ) (again : Bool) → is_next (statuses desk) k again ≡ true → is_next_slot again (slot_at desk k) ≡ true
next_slot desk k true next = ap is_again (sym (at_slots desk.slots k)) ∙ next
next_slot desk k false next = ap is_unclaimed (sym (at_slots desk.slots k)) ∙ next_unclaimed (statuses desk) k next

set_twice : (slots : List Slot) (k : ℕ) (a b : Slot) → set (set slots k a) k b ≡ set slots k b
set_twice [] k a b = refl
set_twice (s ∷ ss) zero a b = refl
set_twice (s ∷ ss) (suc k) a b = ap (λ rest. s ∷ rest) (set_twice ss k a b)

-- a chunk was claimed, and what was made of it posted
pub taken : (desk mid new : Desk) (w v : ℕ) (kind : GuessKind) (claim : Claim) (made : Fragment) → IsFree desk → IsClaim desk w claim mid → IsMade kind claim made → new ≡ posted_on mid v claim.chunk.number made → IsLighter desk new
taken desk mid new w v kind claim made free c m is =
    let k = claim.chunk.number in
    let one : mid.slots ≡ set desk.slots k (claimed_slot w (is_some claim.from)) = ap (λ (d : Desk). d.slots) c.board in
    let two : new.slots ≡ set mid.slots k (slot.Posted made) = ap (λ (d : Desk). d.slots) is in
    let slots : new.slots ≡ set desk.slots k (slot.Posted made) = two ∙ (ap (λ ss. set ss k (slot.Posted made)) one ∙ set_twice desk.slots k (claimed_slot w (is_some claim.from)) (slot.Posted made)) in
    lighter_by desk new k (slot.Posted made) slots (next_within desk k (is_some claim.from) c.next)
    (made_weight kind claim.chunk claim.from made (slot_at desk k) m.by (next_slot desk k (is_some claim.from) c.next)) refl free

if_none : {X : Type 0} (o : Option X) (P : Type 0) → o ≡ None → IfNone o P → P
if_none None P e h = h
if_none (Some x) P e h = absurd cc

pub all_claimed : {X : Type 0} (o : Option X) (desk new : Desk) (old later : Tally) → o ≡ None → IfNone o (IsAllClaimed desk × (new ≡ desk) × (later ≡ old)) → IsAllClaimed desk
all_claimed o desk new old later e h = (if_none o (IsAllClaimed desk × (new ≡ desk) × (later ≡ old)) e h).0
