-- The code points of a text as it is read from its front.
use Rattle.std.proofs.Common.{◌≡◌, ℕ, ◌+◌, ◌-◌, ◌^◌, ◌≤◌, List, [], ◌∷◌, ◌++◌, suc, zero, length, take, drop, sym, ◌∙◌, ap, subst, arith, length-append, drop-drop, refl, ◌<◌, get_or, true, false, inl, inr, ◌&&◌, Bool}
use Rattle.std.specs.Str.{chars, IsUtf8, IsCharBoundary, IsAscii}
use Rattle.std.specs.List.{list_all}
use Rattle.std.specs.Prelude.{sum_by}
use Rattle.std.proofs.lemmas.List.Sums.{sum_by-cons}
use lib.Utf8.{encode, encodes, scalars, scalar}
use Rattle.std.specs.Char.{len_utf8}
use Rattle.std.proofs.lemmas.Grind.{common_steps}
use Rattle.std.proofs.lemmas.Str.{chars-append, chars_past_char, IsUtf8-past_char, drop_past_char, length-encode, IsUtf8-take, IsUtf8-drop, encodes-chars, scalars-chars, encode_ascii, IsCharBoundary-before_ascii, IsCharBoundary-end, IsCharBoundary-past_char, IsCharBoundary-from_rest, IsCharBoundary-start, IsCharBoundary-after_ascii, chars-IsAscii}
use Rattle.std.proofs.lemmas.Bool.{cases_lt, and_parts, and_from}
use Rattle.std.proofs.lemmas.List.{take-append-drop, length-take-le}
use Rattle.hp_tokens.specs.Rows.{is_blank}
use Rattle.hp_tokens.specs.Reading.{ReadsRun, IsAt, PassesFrom}

-- what stands at a place of the page, as a slice has it
pub rest_whole : (xs : List ℕ) (n : ℕ) → take (length xs - n) (drop n xs) ≡ drop n xs
rest_whole xs n = grind (arith, common_steps)

-- a step over one code point
module _ (text rest : List ℕ) (at c n : ℕ) (width : n ≡ len_utf8 c) (is : IsAt text at) (front : drop at text ≡ encode c ++ rest) where
  past_rest : drop (at + n) text ≡ rest
  past_rest = ap (λ (k : ℕ). drop (at + k) text) width ∙ drop_past_char text rest at c front

  past-utf8 : IsUtf8 (drop (at + n) text)
  past-utf8 = let P : List ℕ → Type 0 = λ (xs : List ℕ). IsUtf8 xs in subst P (sym past_rest) (IsUtf8-past_char (drop at text) rest c is.rest front)

  past-boundary : IsCharBoundary text (at + n)
  past-boundary = let P : ℕ → Type 0 = λ k. IsCharBoundary text (at + k) in subst P (sym width) (IsCharBoundary-past_char text rest at c is.boundary.0 is.rest front)

  pub past-IsAt : IsAt text (at + n)
  past-IsAt = record { utf8 = is.utf8; rest = past-utf8; boundary = past-boundary; fits = is.fits }

  pub past-chars : chars (drop at text) ≡ c ∷ chars (drop (at + n) text)
  past-chars = chars_past_char (drop at text) rest c is.rest front ∙ ap (λ (xs : List ℕ). c ∷ chars xs) (sym past_rest)

encodes-length : (cs : List ℕ) → sum_by len_utf8 cs ≡ length (encodes cs)
encodes-length [] = refl
encodes-length (c ∷ cs) = sum_by-cons len_utf8 c cs
    ∙ (ap (λ (n : ℕ). len_utf8 c + n) (encodes-length cs) ∙ (ap (λ (n : ℕ). n + length (encodes cs)) (sym (length-encode c)) ∙ sym (length-append (encode c) (encodes cs))))

pub bytes-length : (bs : List ℕ) → IsUtf8 bs → length bs ≡ sum_by len_utf8 (chars bs)
bytes-length bs u = ap length (sym (encodes-chars bs u)) ∙ sym (encodes-length (chars bs))

all_second : (p : ℕ → Bool) (xs ys : List ℕ) → list_all p (xs ++ ys) ≡ true → list_all p ys ≡ true
all_second p [] ys h = h
all_second p (x ∷ xs) ys h = all_second p xs ys (and_parts (p x) _ h).1

-- a run of bytes that pass and end between two code points
module _ (p : ℕ → Bool) (text : List ℕ) (at count : ℕ) (is : IsAt text at) (run : PassesFrom p text at count)
    (inside : IsCharBoundary (drop at text) count) where
  cut-boundary : IsCharBoundary text (at + count)
  cut-boundary = IsCharBoundary-from_rest text at count is.boundary.0 inside

  cut-utf8 : IsUtf8 (take count (drop at text))
  cut-utf8 = IsUtf8-take (drop at text) count is.rest inside

  cut-IsAt : IsAt text (at + count)
  cut-IsAt = record { utf8 = is.utf8; rest = IsUtf8-drop text (at + count) is.utf8 cut-boundary; boundary = cut-boundary; fits = is.fits }

  cut-text : chars (drop at text) ≡ chars (take count (drop at text)) ++ chars (drop (at + count) text)
  cut-text = ap chars (sym (take-append-drop count (drop at text))) ∙ (chars-append (take count (drop at text)) (drop count (drop at text)) cut-utf8
      ∙ ap (λ (xs : List ℕ). chars (take count (drop at text)) ++ chars xs) (drop-drop count at text))

  cut-length : sum_by len_utf8 (chars (take count (drop at text))) ≡ count
  cut-length =
      encodes-length (chars (take count (drop at text))) ∙ (ap length (encodes-chars (take count (drop at text)) cut-utf8) ∙ length-take-le count (drop at text) run.within)

  cut-ReadsRun : list_all p (chars (take count (drop at text))) ≡ true → ReadsRun p (record { place = 2 ^ 32 + at; text = chars (drop at text) })
      (chars (take count (drop at text))) (record { place = 2 ^ 32 + (at + count); text = chars (drop (at + count) text) })
  cut-ReadsRun passes = record {
    text = cut-text;
    place = omega (arith, cut-length);
    passes = passes;
  }

-- a run of bytes that pass, up to the end or a byte that does not
module _ (p : ℕ → Bool) (high : (c : ℕ) → 128 ≤ c → p c ≡ true) where
  fails_low : (c : ℕ) → p c ≡ false → c < 128
  fails_low c h = elim (cases_lt c 128) [ inl low ↦ low | inr more ↦ let passes : p c ≡ true = high c more in cc ]

  -- where the bytes pass, the code points that they spell pass, since what does not is ASCII
  passes-encodes : (cs : List ℕ) → scalars cs ≡ true → list_all p (encodes cs) ≡ true → list_all p cs ≡ true
  passes-encodes [] s h = refl
  passes-encodes (c ∷ cs) s h =
      elim (cases_lt c 128) [
        | inr more ↦ and_from (p c) _ (high c more) (passes-encodes cs (and_parts (scalar c) _ s).1 (all_second p (encode c) (encodes cs) h))
        | inl low ↦
            let byte : (p c && list_all p (encodes cs)) ≡ true = ap (λ (xs : List ℕ). list_all p (xs ++ encodes cs)) (sym (encode_ascii c low)) ∙ h in
            and_from (p c) _ (and_parts (p c) _ byte).0 (passes-encodes cs (and_parts (scalar c) _ s).1 (and_parts (p c) _ byte).1)
      ]

  module _ (text : List ℕ) (at count : ℕ) (is : IsAt text at) (run : PassesFrom p text at count) where
    rest-boundary : IsCharBoundary (drop at text) count
    rest-boundary = elim (cases_lt count (length (drop at text))) [
      | inl inside ↦ IsCharBoundary-before_ascii (drop at text) count inside (fails_low (get_or (drop at text) count 0) (run.end inside))
      | inr past ↦ let P : ℕ → Type 0 = λ n. IsCharBoundary (drop at text) n in let e : length (drop at text) ≡ count = omega (arith, run.within) in subst P e (IsCharBoundary-end (drop at text))
    ]

    pub run-boundary : IsCharBoundary text (at + count)
    run-boundary = cut-boundary p text at count is run rest-boundary

    pub run-IsAt : IsAt text (at + count)
    run-IsAt = cut-IsAt p text at count is run rest-boundary

    pub run-ReadsRun : ReadsRun p (record { place = 2 ^ 32 + at; text = chars (drop at text) }) (chars (take count (drop at text)))
        (record { place = 2 ^ 32 + (at + count); text = chars (drop (at + count) text) })
    run-ReadsRun = cut-ReadsRun p text at count is run rest-boundary
        (passes-encodes (chars (take count (drop at text))) (scalars-chars (take count (drop at text)) (cut-utf8 p text at count is run rest-boundary))
        (ap (λ (xs : List ℕ). list_all p xs) (encodes-chars (take count (drop at text)) (cut-utf8 p text at count is run rest-boundary)) ∙ run.passes))

-- the same, where only ASCII passes
module _ (p : ℕ → Bool) (low : (c : ℕ) → p c ≡ true → c < 128) where
  last_low : (k : ℕ) (xs : List ℕ) → list_all p (take (suc k) xs) ≡ true → k < length xs → get_or xs k 0 < 128
  last_low k [] h l = omega arith
  last_low zero (x ∷ xs) h l = low x (and_parts (p x) _ h).0
  last_low (suc k) (x ∷ xs) h l = last_low k xs (and_parts (p x) _ h).1 (omega (arith, l))

  all_ascii : (xs : List ℕ) → list_all p xs ≡ true → IsAscii xs
  all_ascii [] h i = omega arith
  all_ascii (x ∷ xs) h zero = low x (and_parts (p x) _ h).0
  all_ascii (x ∷ xs) h (suc i) = all_ascii xs (and_parts (p x) _ h).1 i

  low-end : (bs : List ℕ) (count : ℕ) → IsUtf8 bs → count ≤ length bs → list_all p (take count bs) ≡ true → IsCharBoundary bs count
  low-end bs zero u w h = IsCharBoundary-start bs u
  low-end bs (suc k) u w h =
      let P : ℕ → Type 0 = λ n. IsCharBoundary bs n in
      let inside : k < length bs = omega (arith, w) in
      let e : k + 1 ≡ suc k = omega arith in
      subst P e (IsCharBoundary-after_ascii bs k u inside (last_low k bs h inside))

  module _ (text : List ℕ) (at count : ℕ) (is : IsAt text at) (run : PassesFrom p text at count) where
    low-inside : IsCharBoundary (drop at text) count
    low-inside = low-end (drop at text) count is.rest run.within run.passes

    pub low-boundary : IsCharBoundary text (at + count)
    low-boundary = cut-boundary p text at count is run low-inside

    pub low-IsAt : IsAt text (at + count)
    low-IsAt = cut-IsAt p text at count is run low-inside

    pub low-ReadsRun : ReadsRun p (record { place = 2 ^ 32 + at; text = chars (drop at text) }) (chars (take count (drop at text)))
        (record { place = 2 ^ 32 + (at + count); text = chars (drop (at + count) text) })
    low-ReadsRun = cut-ReadsRun p text at count is run low-inside
        (ap (λ (xs : List ℕ). list_all p xs) (chars-IsAscii (take count (drop at text)) (all_ascii (take count (drop at text)) run.passes)) ∙ run.passes)

    pub low-length : length (chars (take count (drop at text))) ≡ count
    low-length = ap length (chars-IsAscii (take count (drop at text)) (all_ascii (take count (drop at text)) run.passes)) ∙ length-take-le count (drop at text) run.within

-- only ASCII is white space
pub blank_low : (c : ℕ) → is_blank c ≡ true → c < 128
blank_low c h = grind arith
