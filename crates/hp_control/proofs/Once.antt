-- Pairs whose questions stand once, and how they are found.
use Rattle.std.proofs.Common.{◌≡◌, ◌≢◌, ◌⊎◌, inl, inr, ℕ, suc, zero, Bool, true, false, List, [], ◌∷◌, ◌++◌, length, Some, refl, sym, ap, ◌∙◌, subst}
use Rattle.std.specs.Prelude.{◌||◌, ◌<◌, ◌≤◌, ◌-◌, slice_get, slice_index, map, Ok, None}
use Rattle.std.proofs.Common.{arith}
use Rattle.std.proofs.lemmas.Bool.{cases_order}
use Rattle.std.proofs.lemmas.List.{length-map, map-append}
use Rattle.std.proofs.lemmas.List.Folds.{list_any-append}
use Rattle.std.specs.Prelude.{Option}
use Rattle.hp_control.specs.declared.question.Question.{Question}
use Rattle.hp_control.specs.declared.question.Answer.{Answer}
use Rattle.hp_control.specs.declared.question.Kept.{Kept}
use Rattle.hp_control.specs.Guessing.{AreDistinct, AreSaid, IsIndexed, noted}
use Rattle.hp_control.specs.Hashing.{hash_of}
use Rattle.hp_control.specs.Places.{Chained, IsLastOf, chain_of}
use Rattle.hp_control.specs.Plan.{Heard, Runs, asks, gives, is_asked}
use Rattle.hp_control.specs.QuestionParts.{same_question}
use Rattle.hp_control.proofs.QuestionLemmas.{question_told, question_again, question_apart}
use Rattle.hp_control.proofs.RememberingLemmas.{answered_again}

some_one : {X : Type 0} (x y : X) → Some x ≡ Some y → x ≡ y
some_one x y e = cc

neither : (a b : Bool) → (a || b) ≡ false → (a ≡ false) × (b ≡ false)
neither false b h = (refl, h)
neither true b h = absurd (cc)

or_there : (a b : Bool) → b ≡ true → (a || b) ≡ true
or_there true b h = refl
or_there false b h = h

-- what stands somewhere is among them
pub asked_at : (kept : List Kept) (i : ℕ) (k : Kept) (q : Question) → slice_get kept i ≡ Some k → k.question ≡ q → is_asked kept q ≡ true
asked_at [] i k q e h = absurd (cc)
asked_at (x ∷ xs) zero k q e h =
    let same : same_question x.question q ≡ true = ap (λ (p : Kept). same_question p.question q) (some_one x k e) ∙ (ap (λ r. same_question r q) h ∙ question_again q) in
    ap (λ b. b || is_asked xs q) same
asked_at (x ∷ xs) (suc i) k q e h = or_there (same_question x.question q) (is_asked xs q) (asked_at xs i k q e h)

-- and what stands nowhere is not
pub not_asked : (kept : List Kept) (q : Question) → ((i : ℕ) (k : Kept) → slice_get kept i ≡ Some k → k.question ≢ q) → is_asked kept q ≡ false
not_asked [] q h = refl
not_asked (x ∷ xs) q h = go (same_question x.question q) refl (not_asked xs q (λ i. h (suc i)))
  where
    go : (b : Bool) → same_question x.question q ≡ b → is_asked xs q ≡ false → is_asked (x ∷ xs) q ≡ false
    go true e rest = absurd (h 0 x refl (question_told x.question q e))
    go false e rest = ap (λ b. b || is_asked xs q) e ∙ rest

pub said_at : (says : Question → Answer) (kept : List Kept) (i : ℕ) (k : Kept) → AreSaid says kept → slice_get kept i ≡ Some k → k.answer ≡ says k.question
said_at says [] i k s e = absurd (cc)
said_at says (x ∷ xs) zero k s e = let P : Kept → Type 0 = λ p. p.answer ≡ says p.question in subst P (some_one x k e) s.0
said_at says (x ∷ xs) (suc i) k s e = said_at says xs i k s.1 e

pub said_more : (says : Question → Answer) (kept : List Kept) (k : Kept) → AreSaid says kept → k.answer ≡ says k.question → AreSaid says (kept ++ k ∷ [])
said_more says [] k s e = (e, tt)
said_more says (x ∷ xs) k s e = (s.0, said_more says xs k s.1 e)

-- one more, which isn't among them yet
pub distinct_more : (kept : List Kept) (k : Kept) → AreDistinct kept → is_asked kept k.question ≡ false → AreDistinct (kept ++ k ∷ [])
distinct_more [] k d h = (refl, tt)
distinct_more (x ∷ xs) k d h =
    let parts = neither (same_question x.question k.question) (is_asked xs k.question) h in (
      list_any-append (λ (p : Kept). same_question p.question x.question) xs (k ∷ [])
          ∙ (ap (λ b. b || (same_question k.question x.question || false)) d.0 ∙ ap (λ b. b || false) (question_apart x.question k.question parts.0)),
      distinct_more xs k d.1 parts.1,
    )

from_or_below : (end i : ℕ) → (end ≤ i) ⊎ (i < end)
from_or_below end i = go (cases_order i end)
  where
    go : (i ≡ end) ⊎ ((i < end) ⊎ (end < i)) → (end ≤ i) ⊎ (i < end)
    go (inl e) = inl (omega (arith, e))
    go (inr (inl below)) = inr below
    go (inr (inr beyond)) = inl (omega (arith, beyond))

-- the hash of each question stands where its pair does
hash_at : (kept : List Kept) (i : ℕ) (k : Kept) → slice_get kept i ≡ Some k → slice_index (map (λ (p : Kept). hash_of p.question) kept) i ≡ hash_of k.question
hash_at [] i k e = absurd (cc)
hash_at (x ∷ xs) zero k e = ap (λ (p : Kept). hash_of p.question) (some_one x k e)
hash_at (x ∷ xs) (suc i) k e = hash_at xs i k e

stands_below : (kept : List Kept) (i : ℕ) (k : Kept) → slice_get kept i ≡ Some k → i < length kept
stands_below [] i k e = absurd (cc)
stands_below (x ∷ xs) zero k e = omega arith
stands_below (x ∷ xs) (suc i) k e = let h : i < length xs = stands_below xs i k e in omega (arith, h)

pub hashes_long : (kept : List Kept) (places : Chained) → IsIndexed kept (Some places) → length places.hashes ≡ length kept
hashes_long kept places h = ap length h ∙ length-map kept (λ (p : Kept). hash_of p.question)

pub indexed_more : (kept : List Kept) (old new : Option Chained) (k : Kept) → IsIndexed kept old → noted new ≡ noted old ++ hash_of k.question ∷ [] → IsIndexed (kept ++ k ∷ []) new
indexed_more kept old new k h put = put ∙ (ap (λ hashes. hashes ++ hash_of k.question ∷ []) h ∙ sym (map-append (λ (p : Kept). hash_of p.question) kept (k ∷ [])))

-- a pair's question isn't that one, from a place on
abbrev pub NoneFrom : List Kept → Question → ℕ → Type 0
NoneFrom kept q place = (i : ℕ) (k : Kept) → place ≤ i → slice_get kept i ≡ Some k → k.question ≢ q

-- from a place on no pair has that question, and the place is one of the chain of its hash
abbrev pub IsLookedFrom : List Kept → Chained → Question → ℕ → ℕ → Type 0
IsLookedFrom kept places q hash place = (place ≤ length kept) × NoneFrom kept q place × (0 < place → chain_of places.chains (slice_index places.hashes (place - 1)) ≡ chain_of places.chains hash)

module _ (kept : List Kept) (places : Chained) (q : Question) (hash : ℕ) (h : IsIndexed kept (Some places)) (of : hash ≡ hash_of q) where
  -- between the last hash of a chain before an end and that end no pair has the question
  none_between : (end place : ℕ) → IsLastOf places (chain_of places.chains hash) end place → NoneFrom kept q end → NoneFrom kept q place
  none_between end place last none = λ i k from e. go i k from e (from_or_below end i)
    where
      go : (i : ℕ) (k : Kept) → place ≤ i → slice_get kept i ≡ Some k → (end ≤ i) ⊎ (i < end) → k.question ≢ q
      go i k from e (inl beyond) = none i k beyond e
      go i k from e (inr below) = λ same. last.1 i from below (ap (chain_of places.chains) (ap (λ hashes. slice_index hashes i) h ∙ (hash_at kept i k e ∙ (ap hash_of same ∙ sym of))))

  pub looked_first : (place : ℕ) → IsLastOf places (chain_of places.chains hash) (length places.hashes) place → IsLookedFrom kept places q hash place
  looked_first place last = (
    omega (arith, last.0, hashes_long kept places h),
    none_between (length places.hashes) place last (λ i k from e. absurd (omega (arith, from, stands_below kept i k e, hashes_long kept places h))),
    last.2,
  )

  pub looked_next : (at place : ℕ) → 0 < at → IsLookedFrom kept places q hash at → IsLastOf places (chain_of places.chains (slice_index places.hashes (at - 1))) (at - 1) place → ((k : Kept) → slice_get kept (at - 1) ≡ Some k → k.question ≢ q) → IsLookedFrom kept places q hash place
  looked_next at place some looked last here =
      let chain = looked.2 some in
      let turned = subst (λ c. IsLastOf places c (at - 1) place) chain last in (
        omega (arith, last.0, looked.0),
        none_between (at - 1) place turned (λ i k from e. go i k e (from_or_below at i) from),
        turned.2,
      )
    where
      go : (i : ℕ) (k : Kept) → slice_get kept i ≡ Some k → (at ≤ i) ⊎ (i < at) → at - 1 ≤ i → k.question ≢ q
      go i k e (inl beyond) from = looked.1 i k beyond e
      go i k e (inr below) from =
          let same : at - 1 ≡ i = omega (arith, below, from, some) in
          here k (ap (slice_get kept) same ∙ e)

-- an equal question has that hash
pub other_hash : (kept : List Kept) (places : Chained) (q : Question) (i : ℕ) (k : Kept) → IsIndexed kept (Some places) → slice_index places.hashes i ≢ hash_of q → slice_get kept i ≡ Some k → k.question ≢ q
other_hash kept places q i k h other e = λ same. other (ap (λ hashes. slice_index hashes i) h ∙ (hash_at kept i k e ∙ ap hash_of same))

pub none_noted : (kept : List Kept) (q : Question) → IsIndexed kept None → is_asked kept q ≡ false
none_noted [] q h = refl
none_noted (x ∷ xs) q h = absurd (cc)

pub none_left : (kept : List Kept) (q : Question) (place : ℕ) → place ≡ 0 → NoneFrom kept q place → is_asked kept q ≡ false
none_left kept q place e none = not_asked kept q (λ i k. none i k (omega (arith, e)))

-- a question that was asked before is answered as then
pub runs_again : (h now : Heard) (kept : List Kept) (i : ℕ) (k : Kept) (q : Question) (answer : Answer) → now ≡ h → h.kept ≡ Some kept → AreSaid h.says kept → slice_get kept i ≡ Some k → k.question ≡ q → answer ≡ k.answer → Runs h now (asks q gives) (Ok answer)
runs_again h now kept i k q answer same is_kept said there is copied =
    let told : h.says q ≡ answer = sym (copied ∙ (said_at h.says kept i k said there ∙ ap h.says is)) in
    subst (λ (n : Heard). Runs h n (asks q gives) (Ok answer)) (sym same) (answered_again h kept q answer is_kept (asked_at kept i k q there is, told))
