-- What a cutter takes: step by step, and that it cuts the text lawfully.
use Rattle.std.proofs.Common.{◌≡◌, ℕ, zero, suc, ◌+◌, ◌-◌, ◌*◌, ◌/◌, ◌%◌, ◌<◌, ◌≤◌, Bool, true, false, IsTrue, refl, ap, ◌∙◌, sym, subst, lit<, arith, add-one, Option, Some, None, List, [], ◌∷◌, ◌++◌, length, get_or}
use Rattle.std.specs.Prelude.{max, unwrap_or, nat_lt, nat_le, slice_index, All, cond}
use Rattle.std.specs.Int.{div_ceil}
use Rattle.std.specs.List.Sorted.{IsStrictlyIncreasing}
use Rattle.std.proofs.lemmas.Grind.{common_steps, div_ceil_times}
use Rattle.std.proofs.lemmas.Bool.Decides.{nat_tests}
use Rattle.std.proofs.lemmas.List.Elements.{All-nil, All-cons}
use Rattle.std.proofs.Math.Nat.{div-lt_iff_lt-mul}
use Rattle.hp_cut.specs.declared.choice.Cutter.{Cutter}
use Rattle.hp_cut.specs.declared.choice.Cutter.TheVariants.{BySize, AtTags}
use Rattle.hp_cut.specs.Places.{is_start, is_tag, first_among, first_within, AreLawful}
use Rattle.hp_cut.specs.Targets.{step, numbers_by, targets, first_start, first_tag, place_for, next_cut, cuts_after, places_of}
use Rattle.hp_cut.proofs.Firsts.{Found, within-found}

-- the cuts for the targets from this number on, of `count`
unfoldable pub left : Cutter → List ℕ → ℕ → ℕ → ℕ → ℕ → List ℕ
left cutter text by count last number = cuts_after cutter text last (numbers_by by ((number + 1) * by) (count - number))

pub left-skip : (cutter : Cutter) (text : List ℕ) (by count last number : ℕ) → number < count → next_cut cutter text last ((number + 1) * by) ≡ None → left cutter text by count last number ≡ left cutter text by count last (number + 1)
unfolding left numbers_by cuts_after
left-skip cutter text by count last number lt none =
    let e : count - number ≡ suc (count - (number + 1)) = omega arith in
    let t : (number + 1) * by + by ≡ (number + 1 + 1) * by = omega arith in
    rw e (rw t (rw (none, cuts_after) refl))

pub left-take : (cutter : Cutter) (text : List ℕ) (by count last number place : ℕ) → number < count → next_cut cutter text last ((number + 1) * by) ≡ Some place → left cutter text by count last number ≡ place ∷ left cutter text by count place (number + 1)
unfolding left numbers_by cuts_after
left-take cutter text by count last number place lt some =
    let e : count - number ≡ suc (count - (number + 1)) = omega arith in
    let t : (number + 1) * by + by ≡ (number + 1 + 1) * by = omega arith in
    rw e (rw t (rw (some, cuts_after) refl))

pub left-end : (cutter : Cutter) (text : List ℕ) (by count last number : ℕ) → count ≤ number → left cutter text by count last number ≡ []
unfolding left numbers_by cuts_after
left-end cutter text by count last number le =
    let e : count - number ≡ 0 = omega arith in rw e refl

pub left-whole : (cutter : Cutter) (text : List ℕ) (by count : ℕ) → left cutter text by count 0 0 ≡ cuts_after cutter text 0 (numbers_by by by count)
unfolding left
left-whole cutter text by count =
    let t : (0 + 1) * by ≡ by = omega arith in
    let n : count - 0 ≡ count = omega arith in
    rw t (rw n refl)

-- what a cut is: above the last one, below the length, and a start of a code point
pub record IsCut (text : List ℕ) (last place : ℕ) : Type 0 where
  pub above : last < place
  pub below : place < length text
  pub start : is_start text place ≡ true

found_or : (test : ℕ → Bool) (from to other : ℕ) (o : Option ℕ) → first_within test from to ≡ o → (P : ℕ → Type 0) → P other → ((p : ℕ) → Found test from to p → P p) → P (unwrap_or o other)
found_or test from to other None e P none some = none
found_or test from to other (Some p) e P none some = some p (within-found test from to p e)

tag_starts : (text : List ℕ) (p : ℕ) → p < length text → is_tag text p ≡ true → is_start text p ≡ true
tag_starts text p lt tag = grind (arith, nat_tests)

-- a place that isn't the length is a start at or after its target
pub record IsPlace (text : List ℕ) (target place : ℕ) : Type 0 where
  pub after : place < length text → target ≤ place
  pub start : place < length text → is_start text place ≡ true

first_start-place : (text : List ℕ) (target : ℕ) → IsPlace text target (first_start text target)
first_start-place text target =
    found_or (is_start text) target (length text) (length text) _ refl (λ p. IsPlace text target p)
    (record { after = λ lt. absurd (omega arith); start = λ lt. absurd (omega arith) })
    (λ p f. record { after = λ lt. f.from_on; start = λ lt. f.passes })

first_tag-place : (text : List ℕ) (target to : ℕ) → IsPlace text target (unwrap_or (first_within (is_tag text) target to) (first_start text target))
first_tag-place text target to =
    found_or (is_tag text) target to (first_start text target) _ refl (λ p. IsPlace text target p)
    (first_start-place text target)
    (λ p f. record { after = λ lt. f.from_on; start = λ lt. tag_starts text p lt f.passes })

place_for-place : (cutter : Cutter) (text : List ℕ) (target : ℕ) → IsPlace text target (place_for cutter text target)
place_for-place BySize text target = first_start-place text target
place_for-place AtTags text target = first_tag-place text target _

taken-cut : (text : List ℕ) (last target place cut : ℕ) → IsPlace text target place → cond (nat_le target last) None (cond (nat_lt place (length text)) (Some place) None) ≡ Some cut → IsCut text last cut
taken-cut text last target place cut is e =
    elim (nat_le target last) as (λ b. nat_le target last ≡ b → cond b None (cond (nat_lt place (length text)) (Some place) None) ≡ Some cut → IsCut text last cut) [
      | true ↦ λ past none. cc
      | false ↦ λ above chosen.
          elim (nat_lt place (length text)) as (λ b. nat_lt place (length text) ≡ b → cond b (Some place) None ≡ Some cut → IsCut text last cut) [
            | true ↦ λ below some.
                let same : place ≡ cut = cc in
                let lt : place < length text = grind (arith, nat_tests) in
                let up : last < target = grind (arith, nat_tests) in
                let P : ℕ → Type 0 = λ p. IsCut text last p in
                subst P same (record { above = omega (arith, is.after lt); below = lt; start = is.start lt })
            | false ↦ λ below none. cc
          ] refl chosen
    ] refl e

pub next_cut-cut : (cutter : Cutter) (text : List ℕ) (last target cut : ℕ) → next_cut cutter text last target ≡ Some cut → IsCut text last cut
next_cut-cut cutter text last target cut e = taken-cut text last target (place_for cutter text target) cut (place_for-place cutter text target) e

-- what holds of the cuts after a skipped target, and after one that is taken, holds of the cuts
cuts_cases : (cutter : Cutter) (text : List ℕ) (last target : ℕ) (ts : List ℕ) (P : List ℕ → Type 0) → P (cuts_after cutter text last ts) → ((cut : ℕ) → IsCut text last cut → P (cut ∷ cuts_after cutter text cut ts)) → P (cuts_after cutter text last (target ∷ ts))
unfolding cuts_after
cuts_cases cutter text last target ts P none some =
    elim (next_cut cutter text last target) as (λ o. next_cut cutter text last target ≡ o → P (elim o [ None ↦ cuts_after cutter text last ts | Some cut ↦ cut ∷ cuts_after cutter text cut ts ])) [
      | None ↦ λ e. none
      | Some cut ↦ λ e. some cut (next_cut-cut cutter text last target cut e)
    ] refl

rising-cons : (a b : ℕ) (xs : List ℕ) → a < b → IsStrictlyIncreasing (b ∷ xs) → IsStrictlyIncreasing (a ∷ (b ∷ xs))
rising-cons a b xs lt rises zero h = lt
rising-cons a b xs lt rises (suc k) h = rw add-one (rw add-one at (rises k (omega arith)))

rising : (cutter : Cutter) (text : List ℕ) (last : ℕ) (ts : List ℕ) → IsStrictlyIncreasing (last ∷ cuts_after cutter text last ts)
unfolding cuts_after
rising cutter text last [] = λ k h. absurd (omega arith)
rising cutter text last (t ∷ ts) =
    cuts_cases cutter text last t ts (λ xs. IsStrictlyIncreasing (last ∷ xs)) (rising cutter text last ts)
    (λ cut is. rising-cons last cut (cuts_after cutter text cut ts) is.above (rising cutter text cut ts))

within : (cutter : Cutter) (text : List ℕ) (last : ℕ) (ts : List ℕ) → All (λ place. place < length text) (cuts_after cutter text last ts)
unfolding cuts_after
within cutter text last [] = All-nil (λ place. place < length text)
within cutter text last (t ∷ ts) =
    cuts_cases cutter text last t ts (λ xs. All (λ place. place < length text) xs) (within cutter text last ts)
    (λ cut is. All-cons (λ place. place < length text) cut (cuts_after cutter text cut ts) is.below (within cutter text cut ts))

starts : (cutter : Cutter) (text : List ℕ) (last : ℕ) (ts : List ℕ) → All (λ place. IsTrue (is_start text place)) (cuts_after cutter text last ts)
unfolding cuts_after
starts cutter text last [] = All-nil (λ place. IsTrue (is_start text place))
starts cutter text last (t ∷ ts) =
    cuts_cases cutter text last t ts (λ xs. All (λ place. IsTrue (is_start text place)) xs) (starts cutter text last ts)
    (λ cut is. All-cons (λ place. IsTrue (is_start text place)) cut (cuts_after cutter text cut ts) is.start (starts cutter text cut ts))

few : (cutter : Cutter) (text : List ℕ) (last : ℕ) (ts : List ℕ) → length (cuts_after cutter text last ts) ≤ length ts
unfolding cuts_after
few cutter text last [] = omega arith
few cutter text last (t ∷ ts) =
    cuts_cases cutter text last t ts (λ xs. length xs ≤ length (t ∷ ts)) (omega (arith, few cutter text last ts))
    (λ cut is. omega (arith, few cutter text cut ts))

length-numbers_by : (by target n : ℕ) → length (numbers_by by target n) ≡ n
unfolding numbers_by
length-numbers_by by target zero = refl
length-numbers_by by target (suc n) = omega (arith, length-numbers_by by (target + by) n)

-- a step makes at most 4,096 chunks
few_steps : (len by : ℕ) → 0 < by → div_ceil len 4096 ≤ by → (len - 1) / by ≤ 4095
few_steps len by positive enough =
    let times = div_ceil_times len 4096 (lit< tt) in
    let more : div_ceil len 4096 * 4096 ≤ by * 4096 = omega arith in
    let below : (len - 1) / by < 4096 = (div-lt_iff_lt-mul {x = len - 1} positive).1 (omega arith) in
    omega arith

-- the places of a cutter cut the text lawfully
pub places-lawful : (cutter : Cutter) (text : List ℕ) (size : ℕ) → 0 < size → AreLawful (places_of cutter text size) (length text)
places-lawful cutter text size positive =
    let by = step size (length text) in
    let ts = targets by (length text) in
    let count = (length text - 1) / by in
    let at_most : count ≤ 4095 = few_steps (length text) by (omega arith) (omega arith) in
    let counted : length ts ≡ count = length-numbers_by by by count in
    record { rising = rising cutter text 0 ts; within = within cutter text 0 ts; few = omega (arith, few cutter text 0 ts) }

pub places-starts : (cutter : Cutter) (text : List ℕ) (size : ℕ) → All (λ place. IsTrue (is_start text place)) (places_of cutter text size)
places-starts cutter text size = starts cutter text 0 (targets (step size (length text)) (length text))
