-- Names are ASCII, so a table finds in the UTF-8 of code points what it finds in the code points.
use Rattle.std.proofs.Common.{◌≡◌, ℕ, ◌+◌, ◌/◌, ◌<◌, ◌≤◌, List, [], ◌∷◌, ◌++◌, Bool, true, false, ◌&&◌, ◌||◌, not, nat_eq, nat_lt, length, refl, arith, cond, sym, ap, ◌∙◌, Option, None, inl, inr}
use Rattle.std.specs.List.{list_all}
use Rattle.std.specs.Str.{encode_utf8_all}
use Rattle.std.specs.Char.{encode_utf8}
use lib.Utf8.{encode}
use Rattle.std.proofs.lemmas.Bool.{cases_lt}
use Rattle.std.proofs.lemmas.Bool.Decides.{nat_tests}
use Rattle.hp_names.specs.Order.{begins}
use Rattle.hp_names.specs.References.{Reference, is_name, is_rest_of_name, is_letter, is_letter_or_digit, is_table, semicolon, ends_with_semicolon}
use Rattle.hp_names.specs.Longest.{longest_after, goes_on, may_grow, may_be_more, is_open, OverChars}
use Rattle.hp_names.specs.declared.names.Found.{Found}
use Rattle.hp_names.proofs.TableLemmas.{and_first, and_second}

abbrev is_ascii : List ℕ → Bool
is_ascii [] = true
is_ascii (c ∷ cs) = nat_lt c 128 && is_ascii cs

low-letter : (c : ℕ) → is_letter_or_digit c ≡ true → nat_lt c 128 ≡ true
low-letter c h = grind (arith, nat_tests)

low-letter_or_semicolon : (c : ℕ) → (is_letter_or_digit c || nat_eq c semicolon) ≡ true → nat_lt c 128 ≡ true
low-letter_or_semicolon c h = grind (arith, nat_tests)

both : (x y : Bool) → x ≡ true → y ≡ true → (x && y) ≡ true
both true y h k = k
both false y h k = h

rest-ascii : (cs : List ℕ) → is_rest_of_name cs ≡ true → is_ascii cs ≡ true
rest-ascii [] h = refl
rest-ascii (c ∷ []) h = both (nat_lt c 128) true (low-letter_or_semicolon c h) refl
rest-ascii (c ∷ d ∷ cs) h = both (nat_lt c 128) _ (low-letter c (and_first _ _ h)) (rest-ascii (d ∷ cs) (and_second _ _ h))

low-first : (c : ℕ) → is_letter c ≡ true → nat_lt c 128 ≡ true
low-first c h = grind (arith, nat_tests)

name-ascii : (name : List ℕ) → is_name name ≡ true → is_ascii name ≡ true
name-ascii [] h = refl
name-ascii (c ∷ cs) h = both (nat_lt c 128) _ (low-first c (and_first _ _ h)) (rest-ascii cs (and_second _ _ h))

-- the bytes of a code point: itself below 128, and else a high byte first
pick : (a b : Bool) (x y z : ℕ) (xs ys zs : List ℕ) → 128 ≤ x → 128 ≤ y → 128 ≤ z
    → (d : ℕ) × (ds : List ℕ) × (cond a (x ∷ xs) (cond b (y ∷ ys) (z ∷ zs)) ≡ d ∷ ds) × (128 ≤ d)
pick true b x y z xs ys zs h k l = (x, xs, refl, h)
pick false true x y z xs ys zs h k l = (y, ys, refl, k)
pick false false x y z xs ys zs h k l = (z, zs, refl, l)

cond_true : {A : Type 0} (b : Bool) (x y : A) → b ≡ true → cond b x y ≡ x
cond_true true x y h = refl
cond_true false x y h = cc

cond_false : {A : Type 0} (b : Bool) (x y : A) → b ≡ false → cond b x y ≡ y
cond_false true x y h = cc
cond_false false x y h = refl

encode-low : (c : ℕ) → c < 128 → encode_utf8 c ≡ c ∷ []
unfolding encode
encode-low c h = cond_true (nat_lt c 128) _ _ (grind (arith, nat_tests))

encode-high : (c : ℕ) → 128 ≤ c → (d : ℕ) × (ds : List ℕ) × (encode_utf8 c ≡ d ∷ ds) × (128 ≤ d)
unfolding encode
encode-high c h =
    let (d, ds, is, high) = pick (nat_lt c 2048) (nat_lt c 65536) (192 + c / 64) (224 + c / 4096) (240 + c / 262144) _ _ _ (omega arith) (omega arith) (omega arith) in
    (d, ds, cond_false (nat_lt c 128) _ _ (grind (arith, nat_tests)) ∙ is, high)

-- a text begins with an ASCII word exactly where its bytes do
and-false : (x y : Bool) → x ≡ false → (x && y) ≡ false
and-false true y h = cc
and-false false y h = refl

differ : (w d : ℕ) → w < 128 → 128 ≤ d → nat_eq w d ≡ false
differ w d h k = grind (arith, nat_tests)

differ-back : (w d : ℕ) → w < 128 → 128 ≤ d → nat_eq d w ≡ false
differ-back w d h k = grind (arith, nat_tests)

low-byte : (w : ℕ) → nat_lt w 128 ≡ true → w < 128
low-byte w h = grind (arith, nat_tests)

encoded-begins : (cs name : List ℕ) → is_ascii name ≡ true → begins (encode_utf8_all cs) name ≡ begins cs name
encoded-begins cs [] a = refl
encoded-begins [] (w ∷ ws) a = refl
encoded-begins (c ∷ cs) (w ∷ ws) a = elim (cases_lt c 128) [
  | inl low ↦
      rw (encode-low c low) (ap (λ (b : Bool). nat_eq w c && b) (encoded-begins cs ws (and_second _ _ a)))
  | inr high ↦
      let small : w < 128 = low-byte w (and_first _ _ a) in
      let (d, ds, is, top) = encode-high c high in
      let bytes : encode_utf8_all (c ∷ cs) ≡ d ∷ (ds ++ encode_utf8_all cs) = ap (λ (xs : List ℕ). xs ++ encode_utf8_all cs) is in
      ap (λ (xs : List ℕ). begins xs (w ∷ ws)) bytes
      ∙ and-false (nat_eq w d) _ (differ w d small top) ∙ sym (and-false (nat_eq w c) _ (differ w c small high))
]

encoded-begun : (cs name : List ℕ) → is_ascii name ≡ true → begins name (encode_utf8_all cs) ≡ begins name cs
encoded-begun [] name a = refl
encoded-begun (c ∷ cs) [] a = elim (cases_lt c 128) [
  | inl low ↦ rw (encode-low c low) refl
  | inr high ↦ let (d, ds, is, top) = encode-high c high in rw is refl
]
encoded-begun (c ∷ cs) (w ∷ ws) a = elim (cases_lt c 128) [
  | inl low ↦
      rw (encode-low c low) (ap (λ (b : Bool). nat_eq c w && b) (encoded-begun cs ws (and_second _ _ a)))
  | inr high ↦
      let small : w < 128 = low-byte w (and_first _ _ a) in
      let (d, ds, is, top) = encode-high c high in
      let bytes : encode_utf8_all (c ∷ cs) ≡ d ∷ (ds ++ encode_utf8_all cs) = ap (λ (xs : List ℕ). xs ++ encode_utf8_all cs) is in
      ap (λ (xs : List ℕ). begins (w ∷ ws) xs) bytes
      ∙ and-false (nat_eq d w) _ (differ-back w d small top) ∙ sym (and-false (nat_eq c w) _ (differ-back w c small high))
]

-- the front of an ASCII word is its own bytes
encoded-front : (cs name : List ℕ) → is_ascii name ≡ true → begins name cs ≡ true → encode_utf8_all cs ≡ cs
encoded-front [] name a h = refl
encoded-front (c ∷ cs) [] a h = cc
encoded-front (c ∷ cs) (w ∷ ws) a h =
    let same : c < 128 = let small : w < 128 = low-byte w (and_first _ _ a) in let e : nat_eq c w ≡ true = and_first _ _ h in grind (arith, nat_tests) in
    rw (encode-low c same) (ap (λ (xs : List ℕ). c ∷ xs) (encoded-front cs ws (and_second _ _ a) (and_second _ _ h)))

begun-same : (f : List ℕ → Bool) (cs name : List ℕ) (b : Bool) → begins name cs ≡ b → is_ascii name ≡ true
    → (begins name (encode_utf8_all cs) && f (encode_utf8_all cs)) ≡ (begins name cs && f cs)
begun-same f cs name true e a = ap (λ (xs : List ℕ). begins name xs && f xs) (encoded-front cs name a e)
begun-same f cs name false e a =
    and-false _ _ (encoded-begun cs name a ∙ e) ∙ sym (and-false (begins name cs) _ e)

longest-encoded : (rs : List Reference) (cs : List ℕ) (best : Option Found) → list_all (λ r. is_name r.name) rs ≡ true
    → longest_after best rs (encode_utf8_all cs) ≡ longest_after best rs cs
longest-encoded [] cs best h = refl
longest-encoded (r ∷ rs) cs best h =
    rw (encoded-begins cs r.name (name-ascii r.name (and_first _ _ h))) (longest-encoded rs cs _ (and_second _ _ h))

grow-encoded : (rs : List Reference) (cs : List ℕ) → list_all (λ r. is_name r.name) rs ≡ true → may_grow rs (encode_utf8_all cs) ≡ may_grow rs cs
grow-encoded [] cs h = refl
grow-encoded (r ∷ rs) cs h =
    let here : goes_on (encode_utf8_all cs) r ≡ goes_on cs r =
    begun-same (λ xs. nat_lt (length xs) (length r.name)) cs r.name _ refl (name-ascii r.name (and_first _ _ h)) in
    ap (λ (b : Bool). b || may_grow rs (encode_utf8_all cs)) here ∙ ap (λ (b : Bool). goes_on cs r || b) (grow-encoded rs cs (and_second _ _ h))

open-encoded : (rs : List Reference) (cs : List ℕ) → list_all (λ r. is_name r.name) rs ≡ true → is_open rs (encode_utf8_all cs) ≡ is_open rs cs
open-encoded [] cs h = refl
open-encoded (r ∷ rs) cs h =
    let here : may_be_more (encode_utf8_all cs) r ≡ may_be_more cs r =
    begun-same (λ xs. nat_lt (length xs) (length r.name) || not (ends_with_semicolon r.name)) cs r.name _ refl (name-ascii r.name (and_first _ _ h)) in
    ap (λ (b : Bool). b || is_open rs (encode_utf8_all cs)) here ∙ ap (λ (b : Bool). may_be_more cs r || b) (open-encoded rs cs (and_second _ _ h))

pub over-chars : (rs : List Reference) (cs : List ℕ) → is_table rs ≡ true → OverChars rs cs
over-chars rs cs h =
    let named : list_all (λ r. is_name r.name) rs ≡ true = and_first _ _ h in
    record { longest_same = longest-encoded rs cs None named; grows_same = grow-encoded rs cs named; open_same = open-encoded rs cs named }
