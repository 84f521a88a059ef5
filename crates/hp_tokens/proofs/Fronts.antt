-- The code points at the front of a text, by its first bytes.
use Rattle.std.proofs.Common.{◌≡◌, ℕ, ◌+◌, ◌^◌, ◌<◌, ◌≤◌, ◌≢◌, List, [], ◌∷◌, ◌++◌, suc, zero, length, take, drop, get_or, refl, sym, ◌∙◌, ap, subst, arith, Bool, true, false, ◌&&◌, Option, None, Some, inl, inr, drop-drop, length-drop}
use Rattle.std.specs.Prelude.{◌==◌, nat_lt, slice_get, IfSome}
use Rattle.std.specs.Str.{chars, IsUtf8}
use Rattle.std.specs.List.{list_all}
use Rattle.std.specs.Char.{len_utf8, is_ascii_alphabetic}
use lib.Utf8.{encode, encodes}
use borrow.Author.Tests.{ltb-true}
use Rattle.std.proofs.lemmas.Bool.{cases_lt, and_parts, eqb-true, eq-eqb}
use Rattle.std.proofs.lemmas.Str.{chars-nil, chars_past_char, IsUtf8-past_char, encodes-chars, encode_ascii, length-encode, len_utf8_bounds, IsCharBoundary-from_drop, IsCharBoundary-from_rest}
use Rattle.hp_tokens.specs.Reading.{Unread, first, Reads, IsAt, IsFront, opens_start_tag, opens_end_tag, begins_with_pair, SkipsPairCr, IsAsciiFront, ReadsAscii, PassesFrom, StopsRun}

-- an ASCII byte at the front is the first code point
module _ (x : ℕ) (xs : List ℕ) (u : IsUtf8 (x ∷ xs)) (low : x < 128) where
  low-encode : x ∷ xs ≡ encode x ++ xs
  low-encode = ap (λ (e : List ℕ). e ++ xs) (sym (encode_ascii x low))

  pub low-chars : chars (x ∷ xs) ≡ x ∷ chars xs
  low-chars = chars_past_char (x ∷ xs) xs x u low-encode

  pub low-rest : IsUtf8 xs
  low-rest = IsUtf8-past_char (x ∷ xs) xs x u low-encode

-- the code points of a text that has bytes
pub record Begins (x : ℕ) (xs : List ℕ) : Type 0 where
  pub c : ℕ
  pub cs : List ℕ
  pub spelled : chars (x ∷ xs) ≡ c ∷ cs
  pub high : 128 ≤ x → 128 ≤ c
  pub leads : get_or (encode c) 0 0 ≡ x

-- the first of some bytes, with others behind them
lead_of : (x : ℕ) (xs bytes behind : List ℕ) → 1 ≤ length bytes → bytes ++ behind ≡ x ∷ xs → get_or bytes 0 0 ≡ x
lead_of x xs [] behind some e = absurd (omega (arith, some))
lead_of x xs (b ∷ bytes) behind some e = cc

begins_by : (x : ℕ) (xs : List ℕ) → IsUtf8 (x ∷ xs) → (text : List ℕ) → chars (x ∷ xs) ≡ text → Begins x xs
begins_by x xs u [] e =
    let none : [] ≡ x ∷ xs = ap (λ (cs : List ℕ). encodes cs) (sym e) ∙ encodes-chars (x ∷ xs) u in cc
begins_by x xs u (c ∷ cs) e =
    let bytes : encode c ++ encodes cs ≡ x ∷ xs = ap (λ (ys : List ℕ). encodes ys) (sym e) ∙ encodes-chars (x ∷ xs) u in
    record {
      c = c;
      cs = cs;
      spelled = e;
      high = λ h. elim (cases_lt c 128) [
        | inl low ↦
            let both : c ∷ encodes cs ≡ x ∷ xs = ap (λ (ys : List ℕ). ys ++ encodes cs) (sym (encode_ascii c low)) ∙ bytes in
            let same : c ≡ x = cc in
            absurd (omega (arith, same, low, h))
        | inr more ↦ more
      ];
      leads = lead_of x xs (encode c) (encodes cs) (omega (arith, length-encode c, len_utf8_bounds c)) bytes;
    }

pub begins : (x : ℕ) (xs : List ℕ) → IsUtf8 (x ∷ xs) → Begins x xs
begins x xs u = begins_by x xs u (chars (x ∷ xs)) refl

-- the first byte
pub front-is : (xs text : List ℕ) (r : Option ℕ) → IsUtf8 xs → chars xs ≡ text → r ≡ slice_get xs 0 → IsFront text r
front-is [] text r u is e =
    let P : Option ℕ → Type 0 = λ o. IsFront text o in
    subst P (sym e) (sym is ∙ chars-nil)
front-is (x ∷ xs) text r u is e =
    let P : Option ℕ → Type 0 = λ o. IsFront text o in
    let b = begins x xs u in
    subst P (sym e) record {
      c = b.c;
      first = ap first (sym is ∙ b.spelled);
      ascii = λ low. let two : x ∷ chars xs ≡ b.c ∷ b.cs = sym (low-chars x xs u low) ∙ b.spelled in cc;
      other = b.high;
      leads = b.leads;
    }

differs : (x c : ℕ) → x < 128 → 128 ≤ c → (c == x) ≡ false
differs x c low high = grind arith

-- whether the first code point is this ASCII one
pub first-test : (a x : ℕ) (xs : List ℕ) → IsUtf8 (x ∷ xs) → a < 128 → (x == a) ≡ false → first (chars (x ∷ xs)) ≢ Some a
first-test a x xs u low other_one h = elim (cases_lt x 128) [
  | inl small ↦
      let e : Some x ≡ Some a = sym (ap first (low-chars x xs u small)) ∙ h in
      let same : x ≡ a = cc in
      let yes : true ≡ false = sym (eq-eqb x a same) ∙ other_one in cc
  | inr big ↦
      let b = begins x xs u in
      let e : Some b.c ≡ Some a = sym (ap first b.spelled) ∙ h in
      let same : b.c ≡ a = cc in
      absurd (omega (arith, same, b.high big, low))
]

-- tests of the first code point, and of what is behind it
abbrev pub head_test : (ℕ → Bool) → List ℕ → Bool
head_test p [] = false
head_test p (x ∷ xs) = p x

abbrev pub cons_test : (ℕ → Bool) → (List ℕ → Bool) → List ℕ → Bool
cons_test p q [] = false
cons_test p q (x ∷ xs) = p x && q xs

-- tests that only ASCII passes are the same of bytes and of code points
module _ (p : ℕ → Bool) (high : (c : ℕ) → 128 ≤ c → p c ≡ false) where
  head-chars : (xs : List ℕ) → IsUtf8 xs → head_test p xs ≡ head_test p (chars xs)
  head-chars [] u = ap (head_test p) (sym chars-nil)
  head-chars (x ∷ xs) u = elim (cases_lt x 128) [
    | inl low ↦ ap (head_test p) (sym (low-chars x xs u low))
    | inr big ↦
        let b = begins x xs u in
        high x big ∙ (sym (high b.c (b.high big)) ∙ ap (head_test p) (sym b.spelled))
  ]

  module _ (q : List ℕ → Bool) (inner : (ys : List ℕ) → IsUtf8 ys → q ys ≡ q (chars ys)) where
    cons-chars : (xs : List ℕ) → IsUtf8 xs → cons_test p q xs ≡ cons_test p q (chars xs)
    cons-chars [] u = ap (cons_test p q) (sym chars-nil)
    cons-chars (x ∷ xs) u = elim (cases_lt x 128) [
      | inl low ↦ ap (λ (b : Bool). p x && b) (inner xs (low-rest x xs u low)) ∙ ap (cons_test p q) (sym (low-chars x xs u low))
      | inr big ↦
          let b = begins x xs u in
          ap (λ (y : Bool). y && q xs) (high x big) ∙ (sym (ap (λ (y : Bool). y && q b.cs) (high b.c (b.high big))) ∙ ap (cons_test p q) (sym b.spelled))
    ]

less : (c : ℕ) → 128 ≤ c → (c == 60) ≡ false
less c h = grind arith

slash : (c : ℕ) → 128 ≤ c → (c == 47) ≡ false
slash c h = grind arith

cr : (c : ℕ) → 128 ≤ c → (c == 13) ≡ false
cr c h = grind arith

lf : (c : ℕ) → 128 ≤ c → (c == 10) ≡ false
lf c h = grind arith

letter : (c : ℕ) → 128 ≤ c → is_ascii_alphabetic c ≡ false
letter c h = grind arith

and_false : (b : Bool) → false ≡ (b && false)
and_false true = refl
and_false false = refl

and_both : (x y z : Bool) → ((x && y) && z) ≡ (x && (y && z))
and_both true y z = refl
and_both false y z = refl

start_test : (xs : List ℕ) → opens_start_tag xs ≡ cons_test (λ c. c == 60) (head_test is_ascii_alphabetic) xs
start_test [] = refl
start_test (a ∷ []) = and_false (a == 60)
start_test (a ∷ b ∷ xs) = refl

end_test : (xs : List ℕ) → opens_end_tag xs ≡ cons_test (λ c. c == 60) (cons_test (λ c. c == 47) (head_test is_ascii_alphabetic)) xs
end_test [] = refl
end_test (a ∷ []) = and_false (a == 60)
end_test (a ∷ b ∷ []) = and_false (a == 60) ∙ ap (λ (x : Bool). (a == 60) && x) (and_false (b == 47))
end_test (a ∷ b ∷ c ∷ xs) = and_both (a == 60) (b == 47) (is_ascii_alphabetic c)

pair_test : (xs : List ℕ) → begins_with_pair xs ≡ cons_test (λ c. c == 13) (head_test (λ c. c == 10)) xs
pair_test [] = refl
pair_test (a ∷ []) = and_false (a == 13)
pair_test (a ∷ b ∷ xs) = refl

module _ (xs text : List ℕ) (u : IsUtf8 xs) (is : chars xs ≡ text) where
  pub start-chars : opens_start_tag xs ≡ opens_start_tag text
  start-chars =
      start_test xs ∙ (cons-chars (λ c. c == 60) less (head_test is_ascii_alphabetic) (head-chars is_ascii_alphabetic letter) xs u
      ∙ (sym (start_test (chars xs)) ∙ ap opens_start_tag is))

  pub end-chars : opens_end_tag xs ≡ opens_end_tag text
  end-chars =
      end_test xs ∙ (cons-chars (λ c. c == 60) less (cons_test (λ c. c == 47) (head_test is_ascii_alphabetic))
      (cons-chars (λ c. c == 47) slash (head_test is_ascii_alphabetic) (head-chars is_ascii_alphabetic letter)) xs u
      ∙ (sym (end_test (chars xs)) ∙ ap opens_end_tag is))

  pub pair-chars : begins_with_pair xs ≡ begins_with_pair text
  pair-chars =
      pair_test xs ∙ (cons-chars (λ c. c == 13) cr (head_test (λ c. c == 10)) (head-chars (λ c. c == 10) lf) xs u
      ∙ (sym (pair_test (chars xs)) ∙ ap begins_with_pair is))

-- a cursor goes on by n bytes, behind which a text in UTF-8 is left
module _ (text : List ℕ) (at n : ℕ) (is : IsAt text at) (within : n ≤ length (drop at text)) (u : IsUtf8 (drop n (drop at text))) where
  on-rest : drop n (drop at text) ≡ drop (at + n) text
  on-rest = drop-drop n at text

  pub on-IsAt : IsAt text (at + n)
  on-IsAt = record {
    utf8 = is.utf8;
    rest = let P : List ℕ → Type 0 = λ xs. IsUtf8 xs in subst P on-rest u;
    boundary = IsCharBoundary-from_rest text at n is.boundary.0 (IsCharBoundary-from_drop (drop at text) n within u);
    fits = is.fits;
  }

-- an ASCII byte is taken
module _ (text : List ℕ) (at byte : ℕ) (is : IsAt text at) (low : byte < 128) where
  one_byte : (xs : List ℕ) → IsUtf8 xs → 0 < length xs → get_or xs 0 0 ≡ byte → (chars xs ≡ byte ∷ chars (drop 1 xs)) × IsUtf8 (drop 1 xs)
  one_byte [] u some same = absurd (omega (arith, some))
  one_byte (x ∷ xs) u some same =
      let small : x < 128 = omega (arith, same, low) in
      (low-chars x xs u small ∙ ap (λ (y : ℕ). y ∷ chars xs) same, low-rest x xs u small)

  module _ (some : 0 < length (drop at text)) (same : get_or (drop at text) 0 0 ≡ byte) where
    byte_taken : (chars (drop at text) ≡ byte ∷ chars (drop 1 (drop at text))) × IsUtf8 (drop 1 (drop at text))
    byte_taken = one_byte (drop at text) is.rest some same

    pub byte-IsAt : IsAt text (at + 1)
    byte-IsAt = on-IsAt text at 1 is (omega (arith, some)) byte_taken.1

    pub byte-Reads : Reads (record { place = 2 ^ 32 + at; text = chars (drop at text) }) byte (record { place = 2 ^ 32 + (at + 1); text = chars (drop (at + 1) text) })
    byte-Reads = record {
      text = byte_taken.0 ∙ ap (λ (xs : List ℕ). byte ∷ chars xs) (drop-drop 1 at text);
      place = let one : len_utf8 byte ≡ 1 = grind arith in omega (arith, one);
    }

-- another byte, or none
pub byte-left : (xs : List ℕ) (byte : ℕ) → IsUtf8 xs → byte < 128 → (0 < length xs → (get_or xs 0 0 == byte) ≡ false) → first (chars xs) ≢ Some byte
byte-left [] byte u low other_one h =
    let e : None ≡ Some byte = sym (ap first chars-nil) ∙ h in cc
byte-left (x ∷ xs) byte u low other_one h = first-test byte x xs u low (other_one (omega arith)) h

-- the ASCII code points at the front are bytes
ascii_front : (count : ℕ) (xs : List ℕ) → IsUtf8 xs → count ≤ length (chars xs) → list_all (λ c. nat_lt c 128) (take count (chars xs)) ≡ true
    → (count ≤ length xs) × IsUtf8 (drop count xs) × (chars (drop count xs) ≡ drop count (chars xs))
ascii_front zero xs u within all = (omega arith, u, refl)
ascii_front (suc n) [] u within all = let none : length (chars []) ≡ 0 = ap length chars-nil in absurd (omega (arith, none, within))
ascii_front (suc n) (x ∷ xs) u within all = elim (cases_lt x 128) [
  | inl low ↦
      let e : chars (x ∷ xs) ≡ x ∷ chars xs = low-chars x xs u low in
      let P : List ℕ → Type 0 = λ cs. list_all (λ c. nat_lt c 128) (take (suc n) cs) ≡ true in
      let rest = ascii_front n xs (low-rest x xs u low) (omega (arith, within, ap length e)) (and_parts (nat_lt x 128) _ (subst P e all)).1 in
      (omega (arith, rest.0), rest.1, rest.2 ∙ ap (λ (cs : List ℕ). drop (suc n) cs) (sym e))
  | inr big ↦
      let b = begins x xs u in
      let P : List ℕ → Type 0 = λ cs. list_all (λ c. nat_lt c 128) (take (suc n) cs) ≡ true in
      let small : b.c < 128 = ltb-true b.c 128 (and_parts (nat_lt b.c 128) _ (subst P b.spelled all)).0 in
      absurd (omega (arith, small, b.high big))
]

-- so many ASCII code points of what is unread are so many bytes
module _ (xs now : List ℕ) (count : ℕ) (u : IsUtf8 xs) (is : chars xs ≡ now) (front : IsAsciiFront count now) where
  front_bytes : (count ≤ length xs) × IsUtf8 (drop count xs) × (chars (drop count xs) ≡ drop count (chars xs))
  front_bytes =
      let P : List ℕ → Type 0 = λ cs. count ≤ length cs in
      let Q : List ℕ → Type 0 = λ cs. list_all (λ c. nat_lt c 128) (take count cs) ≡ true in
      ascii_front count xs u (subst P (sym is) front.within) (subst Q (sym is) front.ascii)

  pub front-within : count ≤ length xs
  front-within = front_bytes.0

  pub front-utf8 : IsUtf8 (drop count xs)
  front-utf8 = front_bytes.1

  pub front-chars : chars (drop count xs) ≡ drop count now
  front-chars = front_bytes.2 ∙ ap (λ (cs : List ℕ). drop count cs) is

-- what a cursor at a place of a text has to read
abbrev pub cursor_at : List ℕ → ℕ → Unread
cursor_at text at = record { place = 2 ^ 32 + at; text = chars (drop at text) }

-- so many ASCII code points are skipped
module _ (text : List ℕ) (at count : ℕ) (is : IsAt text at) (now : Unread) (view : cursor_at text at ≡ now) (front : IsAsciiFront count now.text) where
  ahead : chars (drop at text) ≡ now.text
  ahead = ap (λ (u : Unread). u.text) view

  pub ascii-within : count ≤ length (drop at text)
  ascii-within = front-within (drop at text) now.text count is.rest ahead front

  pub ascii-IsAt : IsAt text (at + count)
  ascii-IsAt = on-IsAt text at count is ascii-within (front-utf8 (drop at text) now.text count is.rest ahead front)

  pub ascii-read : ReadsAscii count now (cursor_at text (at + count))
  ascii-read = record {
    text = sym (ap chars (drop-drop count at text)) ∙ front-chars (drop at text) now.text count is.rest ahead front;
    place = let same : 2 ^ 32 + at ≡ now.place = ap (λ (u : Unread). u.place) view in omega (arith, same);
  }

-- the CR of a pair
pair_begins : (text : List ℕ) → begins_with_pair text ≡ true → (cs : List ℕ) × (text ≡ 13 ∷ cs)
pair_begins [] h = cc
pair_begins (a ∷ []) h = cc
pair_begins (a ∷ b ∷ xs) h = (b ∷ xs, ap (λ (x : ℕ). x ∷ (b ∷ xs)) (eqb-true a 13 (and_parts (a == 13) _ h).0))

pair_ascii : (text : List ℕ) → begins_with_pair text ≡ true → IsAsciiFront 1 text
pair_ascii text h =
    let P : List ℕ → Type 0 = λ xs. IsAsciiFront 1 xs in
    let first = pair_begins text h in
    subst P (sym first.1) record { within = omega arith; ascii = refl }

module _ (text : List ℕ) (at : ℕ) (is : IsAt text at) (now : Unread) (view : cursor_at text at ≡ now) (pair : begins_with_pair now.text ≡ true) where
  pub pair-IsAt : IsAt text (at + 1)
  pair-IsAt = ascii-IsAt text at 1 is now view (pair_ascii now.text pair)

  pub pair-taken : SkipsPairCr now (cursor_at text (at + 1))
  pair-taken =
      let read = ascii-read text at 1 is now view (pair_ascii now.text pair) in
      let first = pair_begins now.text pair in
      record {
        taken = λ h. record {
          text = first.1 ∙ ap (λ (xs : List ℕ). 13 ∷ xs) (sym (read.text ∙ ap (λ (xs : List ℕ). drop 1 xs) first.1));
          place = read.place;
        };
        left = λ h. let never : true ≡ false = sym pair ∙ h in cc;
      }

pub pair-none : (now : Unread) → begins_with_pair now.text ≡ false → SkipsPairCr now now
pair-none now other_one = record {
  taken = λ h. let yes : true ≡ false = sym h ∙ other_one in cc;
  left = λ h. refl;
}

-- the byte at a place
at_front : (text : List ℕ) (at : ℕ) → get_or (drop at text) 0 0 ≡ get_or text at 0
at_front [] zero = refl
at_front [] (suc n) = refl
at_front (x ∷ xs) zero = refl
at_front (x ∷ xs) (suc n) = at_front xs n

module _ (text bytes : List ℕ) (at byte : ℕ) (is : IsAt text at) (low : byte < 128) (same : bytes ≡ text) (now : Unread) (view : cursor_at text at ≡ now) where
  stands : get_or bytes at 0 ≡ byte → get_or (drop at text) 0 0 ≡ byte
  stands h = at_front text at ∙ (ap (λ (xs : List ℕ). get_or xs at 0) (sym same) ∙ h)

  some_left : at < length bytes → 0 < length (drop at text)
  some_left h = omega (arith, h, ap length same, length-drop at text)

  pub byte-invariant : at < length bytes → get_or bytes at 0 ≡ byte → IsAt text (at + 1)
  byte-invariant some h = byte-IsAt text at byte is low (some_left some) (stands h)

  pub byte-taken : at < length bytes → get_or bytes at 0 ≡ byte → Reads now byte (cursor_at text (at + 1))
  byte-taken some h = let P : Unread → Type 0 = λ u. Reads u byte (cursor_at text (at + 1)) in subst P view (byte-Reads text at byte is low (some_left some) (stands h))

  pub byte-missing : (at < length bytes → get_or bytes at 0 ≡ byte → ⊥) → first now.text ≢ Some byte
  byte-missing other_one =
      let P : Unread → Type 0 = λ u. first u.text ≢ Some byte in
      subst P view (byte-left (drop at text) byte is.rest low (λ some. unequal (get_or (drop at text) 0 0) (λ h.
      other_one (omega (arith, some, ap length same, length-drop at text)) (ap (λ (xs : List ℕ). get_or xs at 0) same ∙ (sym (at_front text at) ∙ h)))))
    where
      unequal : (x : ℕ) → (x ≡ byte → ⊥) → (x == byte) ≡ false
      unequal x h = by_cases (x == byte) refl
        where
          by_cases : (b : Bool) → (x == byte) ≡ b → (x == byte) ≡ false
          by_cases true e = absurd (h (eqb-true x byte e))
          by_cases false e = e

-- a byte that does not pass, where what passes or what does not is ASCII
module _ (p : ℕ → Bool) (other : (x c : ℕ) → p x ≡ false → (x < 128 → c ≡ x) → (128 ≤ x → 128 ≤ c) → p c ≡ false) where
  stops_at : (xs : List ℕ) → IsUtf8 xs → (0 < length xs → p (get_or xs 0 0) ≡ false) → IfSome (first (chars xs)) (λ c. p c ≡ false)
  stops_at [] u h = let P : List ℕ → Type 0 = λ cs. IfSome (first cs) (λ c. p c ≡ false) in subst P (sym chars-nil) tt
  stops_at (x ∷ xs) u h =
      let b = begins x xs u in
      let P : List ℕ → Type 0 = λ cs. IfSome (first cs) (λ c. p c ≡ false) in
      subst P (sym b.spelled) (other x b.c (h (omega arith)) (λ low. let two : x ∷ chars xs ≡ b.c ∷ b.cs = sym (low-chars x xs u low) ∙ b.spelled in cc) b.high)

  stops_from : (text : List ℕ) (at count : ℕ) → IsAt text (at + count) → PassesFrom p text at count → StopsRun p (cursor_at text (at + count))
  stops_from text at count is run =
      let rest : drop count (drop at text) ≡ drop (at + count) text = drop-drop count at text in
      stops_at (drop (at + count) text) is.rest (λ some.
      let inside : count < length (drop at text) = omega (arith, some, ap length rest, length-drop count (drop at text)) in
      ap (λ (x : ℕ). p x) (ap (λ (xs : List ℕ). get_or xs 0 0) (sym rest) ∙ at_front (drop at text) count) ∙ run.end inside)

-- where only ASCII ends a run
pub high-stops : (p : ℕ → Bool) → ((c : ℕ) → 128 ≤ c → p c ≡ true) → (text : List ℕ) (at count : ℕ) → IsAt text (at + count) → PassesFrom p text at count
    → StopsRun p (cursor_at text (at + count))
high-stops p high text at count is run = stops_from p (λ x c fails low big. elim (cases_lt x 128) [
  | inl small ↦ ap (λ (y : ℕ). p y) (low small) ∙ fails
  | inr large ↦ let both : true ≡ false = sym (high x large) ∙ fails in cc
]) text at count is run

false_by : (b : Bool) → (b ≡ true → ⊥) → b ≡ false
false_by true h = absurd (h refl)
false_by false h = refl

-- where only ASCII passes
pub low-stops : (p : ℕ → Bool) → ((c : ℕ) → p c ≡ true → c < 128) → (text : List ℕ) (at count : ℕ) → IsAt text (at + count) → PassesFrom p text at count
    → StopsRun p (cursor_at text (at + count))
low-stops p ascii text at count is run = stops_from p (λ x c fails low big. elim (cases_lt x 128) [
  | inl small ↦ ap (λ (y : ℕ). p y) (low small) ∙ fails
  | inr large ↦ false_by (p c) (λ passes. absurd (omega (arith, ascii c passes, big large)))
]) text at count is run
