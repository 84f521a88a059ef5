-- Searches by whole vectors, 16 bytes at a time.
use Rattle.std.proofs.Common.{◌≡◌, ℕ, ◌+◌, ◌*◌, ◌%◌, ◌^◌, ◌<◌, ◌≤◌, Bool, true, false, not, ◌||◌, ◌&&◌, cond, eqb, eqb-true, List, [], ◌∷◌, map, length, drop, get_or, replicate, refl, ap, ap₂, ◌∙◌, arith, inl, inr}
use Rattle.std.proofs.lemmas.Simd.{zip2_splat, zip2_of_maps, map-map, mask_l-mod, length-chunk, none_from_empty_mask, trailing_mask_l, run_in_chunk_fails, run_in_chunk_stops}
use Rattle.std.proofs.lemmas.Bool.{cases_lt, and_from}
use Rattle.std.proofs.lemmas.List.{length-map}
use Rattle.std.specs.List.{prefix_len}
use lib.Bits.{bit_or}
use lib.Count.{count_trailing_zeros}
use lib.Lanes.{chunk, zip2, mask_l, top}
use Rattle.hp_tokens.specs.Plain.{none_of}
use Rattle.hp_tokens.specs.Reading.{PassesFrom}
use Rattle.hp_tokens.specs.Blocks.{is_stop, EndsRun}
use Rattle.hp_tokens.proofs.Searching.{all_from, from-place}

abbrev hit : ℕ → ℕ → ℕ
hit x y = cond (eqb x y) 255 0

-- four comparisons of a lane
lane : (p q r s : Bool) → top 7 (bit_or (bit_or (bit_or (cond p 255 0) (cond q 255 0)) (cond r 255 0)) (cond s 255 0)) ≡ (p || q || r || s)
lane true true true true = refl
lane true true true false = refl
lane true true false true = refl
lane true true false false = refl
lane true false true true = refl
lane true false true false = refl
lane true false false true = refl
lane true false false false = refl
lane false true true true = refl
lane false true true false = refl
lane false true false true = refl
lane false true false false = refl
lane false false true true = refl
lane false false true false = refl
lane false false false true = refl
lane false false false false = refl

same_map : (f g : ℕ → Bool) → ((x : ℕ) → f x ≡ g x) → (xs : List ℕ) → map f xs ≡ map g xs
same_map f g e [] = refl
same_map f g e (x ∷ xs) = ap₂ (λ (b : Bool) (bs : List Bool). b ∷ bs) (e x) (same_map f g e xs)

-- the mask of four comparisons
pub stop_mask : (a b : ℕ) (v : List ℕ) → length v ≡ 16
    → mask_l (map (top 7) (zip2 bit_or (zip2 bit_or (zip2 bit_or (zip2 hit v (replicate 16 0)) (zip2 hit v (replicate 16 13))) (zip2 hit v (replicate 16 a))) (zip2 hit v (replicate 16 b)))) % 2 ^ 64 ≡ mask_l (map (is_stop a b) v)
stop_mask a b v long =
    let f : ℕ → ℕ = λ x. bit_or (bit_or (bit_or (hit x 0) (hit x 13)) (hit x a)) (hit x b) in
    let lanes : zip2 bit_or (zip2 bit_or (zip2 bit_or (zip2 hit v (replicate 16 0)) (zip2 hit v (replicate 16 13))) (zip2 hit v (replicate 16 a))) (zip2 hit v (replicate 16 b)) ≡ map f v =
    zip2_of_maps bit_or (λ (x : ℕ). bit_or (bit_or (hit x 0) (hit x 13)) (hit x a)) (λ (x : ℕ). hit x b) v
    (zip2_of_maps bit_or (λ (x : ℕ). bit_or (hit x 0) (hit x 13)) (λ (x : ℕ). hit x a) v
    (zip2_of_maps bit_or (λ (x : ℕ). hit x 0) (λ (x : ℕ). hit x 13) v (zip2_splat hit v 16 0 long) (zip2_splat hit v 16 13 long))
    (zip2_splat hit v 16 a long))
    (zip2_splat hit v 16 b long) in
    ap (λ (l : List Bool). mask_l l % 2 ^ 64) (ap (λ (l : List ℕ). map (top 7) l) lanes ∙ (map-map (top 7) f v ∙ same_map (λ x. top 7 (f x)) (is_stop a b) (λ x. lane (eqb x 0) (eqb x 13) (eqb x a) (eqb x b)) v))
    ∙ mask_l-mod (map (is_stop a b) v) 64 (omega (arith, length-map v (is_stop a b), long))

apart : (p q r s : Bool) → (not p && (not q && (not r && (not s && true)))) ≡ not (p || q || r || s)
apart true q r s = refl
apart false true r s = refl
apart false false true s = refl
apart false false false true = refl
apart false false false false = refl

-- what is none of these passes
pub passes_is : (a b x : ℕ) → none_of (0 ∷ 13 ∷ a ∷ b ∷ []) x ≡ not (is_stop a b x)
passes_is a b x = apart (eqb x 0) (eqb x 13) (eqb x a) (eqb x b)

unlike : (x y : ℕ) → (x ≡ y → ⊥) → not (eqb x y) ≡ true
unlike x y h = by (eqb x y) (eqb-true x y)
  where
    by : (b : Bool) → (b ≡ true → x ≡ y) → not b ≡ true
    by true e = absurd (h (e refl))
    by false e = refl

pub unlike_all : (a b x : ℕ) → (x ≡ 0 → ⊥) → (x ≡ 13 → ⊥) → (x ≡ a → ⊥) → (x ≡ b → ⊥) → none_of (0 ∷ 13 ∷ a ∷ b ∷ []) x ≡ true
unlike_all a b x nul cr first second =
    and_from _ _ (unlike x 0 nul) (and_from _ _ (unlike x 13 cr) (and_from _ _ (unlike x a first) (and_from _ _ (unlike x b second) refl)))

-- where the mask has a bit, a lane stops
some_stop : (p : ℕ → Bool) (xs : List ℕ) → 0 < mask_l (map p xs) → prefix_len (λ x. not (p x)) xs < length xs
some_stop p [] some = absurd (omega (arith, some))
some_stop p (x ∷ xs) some = by (p x) some (some_stop p xs)
  where
    by : (b : Bool) → 0 < cond b 1 0 + 2 * mask_l (map p xs) → (0 < mask_l (map p xs) → prefix_len (λ y. not (p y)) xs < length xs)
        → cond (not b) (1 + prefix_len (λ y. not (p y)) xs) 0 < length (x ∷ xs)
    by true h rest = omega arith
    by false h rest = let e = rest (omega (arith, h)) in omega (arith, e)

module _ (a b : ℕ) (xs : List ℕ) (at : ℕ) (room : at + 16 ≤ length xs) (before : (k : ℕ) → k < at → none_of (0 ∷ 13 ∷ a ∷ b ∷ []) (get_or xs k 0) ≡ true) where
  -- no lane stops
  pub block_passes : mask_l (map (is_stop a b) (chunk at 16 xs)) ≡ 0 → (k : ℕ) → k < at + 16 → none_of (0 ∷ 13 ∷ a ∷ b ∷ []) (get_or xs k 0) ≡ true
  block_passes none k lt = elim (cases_lt k at) [
    | inl early ↦ before k early
    | inr late ↦ passes_is a b (get_or xs k 0) ∙ ap not (none_from_empty_mask (is_stop a b) xs at 16 0 room none k late lt)
  ]

  -- a lane stops
  pub block_stops : (m : ℕ) → m ≡ mask_l (map (is_stop a b) (chunk at 16 xs)) → 0 < m → EndsRun (none_of (0 ∷ 13 ∷ a ∷ b ∷ [])) xs (at + count_trailing_zeros 64 m)
  block_stops m is some =
      let some_lane : 0 < mask_l (map (is_stop a b) (chunk at 16 xs)) = omega (arith, is, some) in
      let long : length (chunk at 16 xs) ≡ 16 = length-chunk at 16 xs room in
      let counted : count_trailing_zeros 64 m ≡ prefix_len (λ x. not (is_stop a b x)) (chunk at 16 xs) =
      ap (λ (n : ℕ). count_trailing_zeros 64 n) is ∙ trailing_mask_l (is_stop a b) 64 (chunk at 16 xs) (omega (arith, long)) some_lane in
      let inside : count_trailing_zeros 64 m < 16 = omega (arith, counted, long, some_stop (is_stop a b) (chunk at 16 xs) some_lane) in
      record {
        within = omega (arith, inside, room);
        before = λ k lt. elim (cases_lt k at) [
          | inl early ↦ before k early
          | inr late ↦ passes_is a b (get_or xs k 0) ∙ ap not (run_in_chunk_fails (is_stop a b) xs at 16 (count_trailing_zeros 64 m) 0 room counted k late lt)
        ];
        stop = λ lt. passes_is a b (get_or xs (at + count_trailing_zeros 64 m) 0) ∙ ap not (run_in_chunk_stops (is_stop a b) xs at 16 (count_trailing_zeros 64 m) 0 room counted inside);
      }

-- counted from a place of a text
pub run-from : (p : ℕ → Bool) (text xs : List ℕ) (at n : ℕ) → xs ≡ drop at text → EndsRun p xs n → PassesFrom p text at n
run-from p text xs at n is run =
    from-place p text xs at n is (record { within = run.within; passes = all_from p n xs run.within run.before; end = run.stop })
