-- Main goes on with a board of which nobody has a chunk.
use Rattle.std.proofs.Common.{◌≡◌, ◌+◌, ◌-◌, ◌<◌, ◌≤◌, ◌^◌, ◌++◌, ◌&&◌, ℕ, List, [], ◌∷◌, Option, None, Some, is_some, length, Bool, true, false, refl, sym, ap, subst, ◌∙◌, arith}
use Rattle.std.proofs.lemmas.List.{length-append}
use Rattle.std.proofs.lemmas.List.Elements.{All-push}
use Rattle.std.proofs.lemmas.Slice.Eq.{bytes_eq-Decides}
use Rattle.std.specs.Prelude.{All, if◌then◌else◌, max, slice_range, take}
use Rattle.std.specs.Str.{bytes_eq}
use Rattle.hp_text.specs.Page.{text_of as page_text}
use Rattle.hp_text.specs.declared.chunks.Chunk.{Chunk}
use Rattle.hp_control.specs.States.{ControlState}
use Rattle.hp_predict.specs.Guess.{last_bytes}
use Rattle.hp_predict.specs.declared.quiet.GuessKind.{GuessKind}
use Rattle.hp_pieces.specs.By.{before_of, chunk_of}
use Rattle.hp_pieces.specs.Texts.{covered_of}
use Rattle.hp_pieces.specs.declared.by.By.{By}
use Rattle.hp_pieces.specs.declared.fragment.Fragment.{Fragment}
use Rattle.hp_pieces.specs.declared.fragment.Fragment.TheVariants.{Exact, Guessed}
use Rattle.hp_board.specs.Calls.{IsAdvance, IsClaim, posted_on}
use Rattle.hp_board.specs.Desk.{Desk, IsFresh, IsInOrder, IsKept, SamePage, before_chunk, chunk_text, entry, origin_in, rest_start, slot_at, status_of, statuses}
use Rattle.hp_board.specs.Kinds.{kind_of}
use Rattle.hp_board.specs.Machine.{at, end_of, is_next, is_posted, is_unclaimed, start_of}
use Rattle.hp_board.specs.Origins.{looks_alike, origin_by, origin_of}
use Rattle.hp_board.specs.Tallies.{IsRaised, IsRaisedUnlessIdle}
use Rattle.hp_board.specs.declared.journal.BoardStep.{BoardStep}
use Rattle.hp_board.specs.declared.journal.BoardStep.TheVariants as step
use Rattle.hp_board.specs.declared.journal.Entry.{Entry}
use Rattle.hp_board.specs.declared.journal.Origin.{Origin}
use Rattle.hp_board.specs.declared.journal.Origin.TheVariants as origin
use Rattle.hp_board.specs.declared.slot.Slot.{Slot}
use Rattle.hp_board.specs.declared.slot.Slot.TheVariants as slot
use Rattle.hp_board.specs.declared.steps.Advance.{Advance}
use Rattle.hp_board.specs.declared.steps.Advance.TheVariants as advance
use Rattle.hp_board.specs.declared.steps.Claim.{Claim}
use Rattle.hp_board.specs.declared.tally.Tally.{Tally}
use Rattle.hp_workers.specs.Making.{IsMade, IsMadeFrom}
use Rattle.hp_workers.specs.Turns.{AreByKind, HasGoneOn, IsByKind, IsFree, PostsByKind, StaysOf, is_idle}
use Rattle.hp_workers.proofs.Counting.{stays_push}
use Rattle.hp_workers.proofs.Takes.{at_slots, next_unclaimed, next_within, taken}
use Rattle.hp_workers.proofs.Weights.{IsLighter, advanced}

push_by : (kind : GuessKind) (journal : List Entry) (e : Entry) → AreByKind kind journal → PostsByKind kind e.step → AreByKind kind (journal ++ e ∷ [])
push_by kind journal e before one = All-push (λ (x : Entry). PostsByKind kind x.step) journal e before one

-- what one entry more says of it
abbrev IsEntry : Desk → Desk → ℕ → Entry → Type 0
IsEntry desk new w e = (new.journal ≡ desk.journal ++ e ∷ []) × (e.worker ≡ w) × ((kind : GuessKind) → PostsByKind kind e.step)

-- a judgement is one entry more
judged_entry : (desk new : Desk) (w : ℕ) (a : Advance) → (a ≡ advance.Idle → ⊥) → IsAdvance desk w new a → (e : Entry) × IsEntry desk new w e
judged_entry desk new w advance.Idle other h = absurd (other refl)
judged_entry desk new w (advance.RolledBack q a) other h = (entry w (step.RolledBack desk.done (kind_of q)), (ap (λ (d : Desk). d.journal) h.2.1, refl, λ kind. tt))
judged_entry desk new w advance.Kept other h = (entry w (step.Kept desk.done), (ap (λ (d : Desk). d.journal) h.2.2, refl, λ kind. tt))
judged_entry desk new w (advance.Repaired at) other h = (entry w (step.Repaired desk.done at), (ap (λ (d : Desk). d.journal) h.2.3, refl, λ kind. tt))

raised_of : (old new : Tally) (a : Advance) → (a ≡ advance.Idle → ⊥) → IsRaisedUnlessIdle old new a → IsRaised old new
raised_of old new advance.Idle other h = absurd (other refl)
raised_of old new (advance.RolledBack q a) other h = h
raised_of old new advance.Kept other h = h
raised_of old new (advance.Repaired at) other h = h

pub not_idle : (a : Advance) → is_idle a ≡ false → a ≡ advance.Idle → ⊥
not_idle advance.Idle e is = absurd cc
not_idle (advance.RolledBack q a) e is = absurd cc
not_idle advance.Kept e is = absurd cc
not_idle (advance.Repaired at) e is = absurd cc

pub idle_is : (a : Advance) → is_idle a ≡ true → a ≡ advance.Idle
idle_is advance.Idle e = refl
idle_is (advance.RolledBack q a) e = absurd cc
idle_is advance.Kept e = absurd cc
idle_is (advance.Repaired at) e = absurd cc

-- an idle advance
pub judged_idle : (desk new : Desk) (tally later : Tally) (a : Advance) → a ≡ advance.Idle → IsAdvance desk tally.worker new a → IsRaisedUnlessIdle tally later a
    → (new ≡ desk) × (later ≡ tally) × (is_posted (at (statuses desk) desk.done) ≡ false)
judged_idle desk new tally later advance.Idle e h raised = (h.1, raised, h.0)
judged_idle desk new tally later (advance.RolledBack q a) e h raised = absurd cc
judged_idle desk new tally later advance.Kept e h raised = absurd cc
judged_idle desk new tally later (advance.Repaired at) e h raised = absurd cc

-- an advance that isn't idle
pub advanced_on : (desk new : Desk) (tally later : Tally) (a : Advance) → IsFree desk → tally.worker ≡ 64 → length desk.journal < 2 ^ 63 → (a ≡ advance.Idle → ⊥) → SamePage desk new → IsAdvance desk tally.worker new a → IsRaisedUnlessIdle tally later a
    → (kind : GuessKind) → HasGoneOn kind desk tally new later
advanced_on desk new tally later a free main short other page h raised kind =
    let less = advanced desk new tally.worker a free other h in
    let e = judged_entry desk new tally.worker a other h in
    let up = raised_of tally later a other raised in
    record {
      page = page;
      worker = up.worker;
      free = less.1;
      stays = stays_push desk new tally later e.0 page e.1.0 e.1.1 up main (omega (arith, short));
      by = λ before. subst (λ (es : List Entry). AreByKind kind es) (sym e.1.0) (push_by kind desk.journal e.0 before (e.1.2 kind));
    }

same_bytes : (xs ys : List ℕ) → xs ≡ ys → bytes_eq xs ys ≡ true
same_bytes xs ys e = (bytes_eq-Decides xs ys).1 e

both_true : (a b : Bool) → a ≡ true → b ≡ true → (a && b) ≡ true
both_true a b p q = rw (p, q) refl

by_alike : (kind : GuessKind) (b : Bool) → b ≡ true → IsByKind kind (if b then origin.GuessedBy kind else origin.Guessed)
by_alike kind true e = refl
by_alike kind false e = absurd cc

-- a guess before a chunk comes from its predictor, where it is posted for the same bytes
made_by : (kind : GuessKind) (chunk : Chunk) (from : Option ControlState) (made : Fragment) (before text : List ℕ) → IsMadeFrom kind chunk from made
    → (is_some from ≡ false → (take chunk.from (page_text chunk.page) ≡ before) × (slice_range (page_text chunk.page) chunk.from chunk.to ≡ text)) → IsByKind kind (origin_of made before text)
made_by kind chunk (Some s) (Exact known) before text m same = tt
made_by kind chunk (Some s) (Guessed f) before text m same = absurd m
made_by kind chunk None (Exact known) before text m same = absurd m
made_by kind chunk None (Guessed f) before text m same =
    let by : By = record { kind = kind; chunk = chunk } in
    let is = same refl in
    subst (λ (o : Option By). IsByKind kind (origin_by o before text)) (sym m)
    (by_alike kind (looks_alike by before text)
    (both_true (bytes_eq (last_bytes (before_of by)) (last_bytes before)) (bytes_eq (chunk_of by) text) (same_bytes (last_bytes (before_of by)) (last_bytes before) (ap last_bytes is.0)) (same_bytes (chunk_of by) text is.1)))

fresh_slot : (desk : Desk) (k : ℕ) (s : Slot) → IsInOrder desk k s → is_unclaimed (status_of s) ≡ true → IsFresh desk k
fresh_slot desk k slot.Unclaimed fits e = fits
fresh_slot desk k (slot.Claimed w) fits e = absurd cc
fresh_slot desk k (slot.Posted f) fits e = absurd cc
fresh_slot desk k slot.Again fits e = absurd cc
fresh_slot desk k (slot.AgainClaimed w) fits e = absurd cc
fresh_slot desk k slot.Done fits e = absurd cc

largest : (a b : ℕ) → a ≤ b → max a b ≡ b
largest a b le = omega (arith, le)

-- a chunk whose state isn't known is claimed whole
claimed_whole : (desk new : Desk) (w : ℕ) (claim : Claim) → IsKept desk → IsClaim desk w claim new → is_some claim.from ≡ false
    → (take claim.chunk.from (page_text claim.chunk.page) ≡ before_chunk desk claim.chunk.number) × (slice_range (page_text claim.chunk.page) claim.chunk.from claim.chunk.to ≡ chunk_text desk claim.chunk.number)
claimed_whole desk new w claim kept c unknown =
    let k = claim.chunk.number in
    let within = next_within desk k (is_some claim.from) c.next in
    let next = next_unclaimed (statuses desk) k (subst (λ (b : Bool). is_next (statuses desk) k b ≡ true) unknown c.next) in
    let fresh = fresh_slot desk k (slot_at desk k) (kept.slots k within) (ap is_unclaimed (sym (at_slots desk.slots k)) ∙ next) in
    let from : claim.chunk.from ≡ start_of desk.cuts k = c.from ∙ largest desk.place (start_of desk.cuts k) fresh.behind in (
      ap (λ t. take claim.chunk.from t) c.page ∙ ap (λ n. take n desk.text) from,
      ap (λ t. slice_range t claim.chunk.from claim.chunk.to) c.page ∙ (ap (λ n. slice_range desk.text n claim.chunk.to) from ∙ ap (λ n. slice_range desk.text (start_of desk.cuts k) n) c.to),
    )

-- a claim, and the post of what was made of it
pub taken_on : (desk mid new : Desk) (tally between later : Tally) (kind : GuessKind) (claim : Claim) (made : Fragment) → IsKept desk → IsFree desk → tally.worker ≡ 64 → length desk.journal < 2 ^ 63
    → SamePage desk mid → IsClaim desk tally.worker claim mid → IsRaised tally between → IsMade kind claim made → SamePage mid new → new ≡ posted_on mid between.worker claim.chunk.number made → IsRaised between later
    → HasGoneOn kind desk tally new later
taken_on desk mid new tally between later kind claim made kept free main short first c up m second is up2 =
    let k = claim.chunk.number in
    let one = entry tally.worker (step.Claimed k (is_some claim.from)) in
    let two = entry between.worker (step.Posted k (covered_of made) (origin_in mid k made)) in
    let journal1 : mid.journal ≡ desk.journal ++ one ∷ [] = ap (λ (d : Desk). d.journal) c.board in
    let journal2 : new.journal ≡ mid.journal ++ two ∷ [] = ap (λ (d : Desk). d.journal) is in
    let less = taken desk mid new tally.worker between.worker kind claim made free c m is in
    let origin : IsByKind kind (origin_in mid k made) =
    subst (λ (d : Desk). IsByKind kind (origin_in d k made)) (sym c.board)
    (made_by kind claim.chunk claim.from made (before_chunk desk k) (chunk_text desk k) m.by (claimed_whole desk mid tally.worker claim kept c)) in
    let main2 : between.worker ≡ 64 = up.worker ∙ main in
    let short2 : length mid.journal < 2 ^ 64 - 1 = omega (arith, short, ap length journal1, length-append desk.journal (one ∷ [])) in
    record {
      page = record { text = second.text ∙ first.text; cuts = second.cuts ∙ first.cuts; workers = second.workers ∙ first.workers };
      worker = up2.worker ∙ up.worker;
      free = less.1;
      stays = λ others text cuts o. stays_push mid new between later two second journal2 refl up2 main2 short2 others text cuts (stays_push desk mid tally between one first journal1 refl up main (omega (arith, short)) others text cuts o);
      by = λ before. subst (λ (es : List Entry). AreByKind kind es) (sym journal2)
          (push_by kind mid.journal two (subst (λ (es : List Entry). AreByKind kind es) (sym journal1) (push_by kind desk.journal one before tt)) origin);
    }

-- nothing was done yet
pub gone_nowhere : (kind : GuessKind) (desk : Desk) (tally : Tally) → IsFree desk → HasGoneOn kind desk tally desk tally
gone_nowhere kind desk tally free = record {
  page = record { text = refl; cuts = refl; workers = refl };
  worker = refl;
  free = free;
  stays = λ others text cuts o. o;
  by = λ before. before;
}

-- one turn more
pub gone_further : (kind : GuessKind) (desk mid new : Desk) (tally between later : Tally) → HasGoneOn kind desk tally mid between → HasGoneOn kind mid between new later → HasGoneOn kind desk tally new later
gone_further kind desk mid new tally between later a b = record {
  page = record { text = b.page.text ∙ a.page.text; cuts = b.page.cuts ∙ a.page.cuts; workers = b.page.workers ∙ a.page.workers };
  worker = b.worker ∙ a.worker;
  free = b.free;
  stays = λ others text cuts o. b.stays others text cuts (a.stays others text cuts o);
  by = λ before. b.by (a.by before);
}
