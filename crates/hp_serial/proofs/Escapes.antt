-- Bytes are escaped as their code points are.
use Rattle.std.proofs.Common.{◌≡◌, ◌≢◌, ℕ, ◌+◌, ◌-◌, ◌/◌, ◌%◌, ◌<◌, ◌≤◌, List, [], ◌∷◌, ◌++◌, length, take, drop, get_or, arith, refl, sym, ap, ◌∙◌, append_assoc, append-nil, add-one, inl, inr, Bool, true, false}
use Rattle.std.specs.Prelude.{◌==◌, nat_lt, codes, encode_utf8_all, if◌then◌else◌}
use lib.Utf8.{encode}
use Rattle.std.specs.Prelude.{IsUtf8}
use Rattle.std.specs.Str.{chars}
use Rattle.std.proofs.lemmas.Str.{encodes-append, encode_ascii, encodes-chars}
use Rattle.std.proofs.lemmas.List.{take_all, take-append-drop, length-drop}
use Rattle.std.proofs.lemmas.Bool.{cases_lt, cond-true, cond-false, true≢false}
use Rattle.std.proofs.lemmas.Bool.Decides.{nat_tests}
use Rattle.std.proofs.Math.Seq.{take-suc}
use Rattle.hp_serial.specs.declared.escape.Place.{Place}
use Rattle.hp_serial.specs.declared.escape.Place.TheVariants.{Text, Value}
use Rattle.hp_serial.specs.Escaping.{escape, escaped}
use Rattle.hp_serial.specs.Bytes.{byte_escape, is_no_break_space, begins_with_no_break_space, escaped_bytes, ArePlain, IsPlain}

-- the bytes of U+00A0, and what comes behind them
pub space_first : (place : Place) (bytes : List ℕ) → begins_with_no_break_space bytes ≡ true → escaped_bytes place bytes ≡ codes "&nbsp;" ++ escaped_bytes place (drop 2 bytes)
unfolding escaped_bytes
space_first place [] e = absurd (true≢false (sym e))
space_first place (b ∷ []) e = absurd (true≢false (sym e))
space_first place (b ∷ c ∷ bytes) e = cond-true (is_no_break_space b c) _ _ e

-- another byte, and what comes behind it
pub byte_first : (place : Place) (b : ℕ) (bytes : List ℕ) → begins_with_no_break_space (b ∷ bytes) ≡ false → escaped_bytes place (b ∷ bytes) ≡ byte_escape place b ++ escaped_bytes place bytes
unfolding escaped_bytes
byte_first place b [] e = sym (append-nil (byte_escape place b))
byte_first place b (c ∷ bytes) e = cond-false (is_no_break_space b c) _ _ e

pub byte_at_first : (place : Place) (bytes : List ℕ) → 0 < length bytes → begins_with_no_break_space bytes ≡ false → escaped_bytes place bytes ≡ byte_escape place (get_or bytes 0 0) ++ escaped_bytes place (drop 1 bytes)
byte_at_first place [] h e = absurd (omega arith)
byte_at_first place (b ∷ bytes) h e = byte_first place b bytes e

not_latin : (b : ℕ) (bytes : List ℕ) → (b == 0xC2) ≡ false → begins_with_no_break_space (b ∷ bytes) ≡ false
not_latin b [] e = refl
not_latin b (c ∷ bytes) e = rw e refl

plain_first : (place : Place) (b : ℕ) (more : List ℕ) → IsPlain place b → escaped_bytes place (b ∷ more) ≡ b ∷ escaped_bytes place more
plain_first place b more p = byte_first place b more (not_latin b more p.first) ∙ ap (λ xs. xs ++ escaped_bytes place more) p.alone

pub plain_none : (place : Place) → ArePlain place []
plain_none place more = refl

pub plain_next : (place : Place) (bytes : List ℕ) (n : ℕ) → n < length bytes → ArePlain place (take n bytes) → IsPlain place (get_or bytes n 0) → ArePlain place (take (n + 1) bytes)
plain_next place bytes n h plain one more =
    let b = get_or bytes n 0 in
    let next : take (n + 1) bytes ≡ take n bytes ++ b ∷ [] = rw add-one (take-suc bytes n 0 h) in
    ap (λ xs. escaped_bytes place (xs ++ more)) next
    ∙ ap (escaped_bytes place) (append_assoc (take n bytes) (b ∷ []) more)
    ∙ plain (b ∷ more)
    ∙ ap (λ xs. take n bytes ++ xs) (plain_first place b more one)
    ∙ sym (append_assoc (take n bytes) (b ∷ []) (escaped_bytes place more))
    ∙ ap (λ xs. xs ++ escaped_bytes place more) (sym next)

-- a byte that is no ASCII is plain, but for the first one of U+00A0
high_plain : (place : Place) (b : ℕ) → 0x80 ≤ b → (b == 0xC2) ≡ false → IsPlain place b
high_plain place b h e = record { alone = let high : nat_lt b 0x80 ≡ false = grind (arith, nat_tests) in cond-false (nat_lt b 0x80) _ _ high; first = e }

high_alone : (place : Place) (b : ℕ) → 0x80 ≤ b → byte_escape place b ≡ b ∷ []
high_alone place b h = let high : nat_lt b 0x80 ≡ false = grind (arith, nat_tests) in cond-false (nat_lt b 0x80) _ _ high

other : (b : ℕ) → b ≢ 0xC2 → (b == 0xC2) ≡ false
other b h = grind (arith, nat_tests)

-- a code point that is no ASCII stands as it is, but for U+00A0
high-escape : (place : Place) (c : ℕ) → 0x80 ≤ c → c ≢ 0xA0 → escape place c ≡ c ∷ []
high-escape Text c h e =
    let a : (c == 0x26) ≡ false = grind (arith, nat_tests) in
    let b : (c == 0xA0) ≡ false = grind (arith, nat_tests) in
    let d : (c == 0x3C) ≡ false = grind (arith, nat_tests) in
    let f : (c == 0x3E) ≡ false = grind (arith, nat_tests) in rw (a, b, d, f) refl
high-escape Value c h e =
    let a : (c == 0x26) ≡ false = grind (arith, nat_tests) in
    let b : (c == 0xA0) ≡ false = grind (arith, nat_tests) in
    let d : (c == 0x22) ≡ false = grind (arith, nat_tests) in rw (a, b, d) refl

text-encode : (a b d f : Bool) (c : ℕ) → encode c ≡ c ∷ []
    → encode_utf8_all (if a then codes "&amp;" else if b then codes "&nbsp;" else if d then codes "&lt;" else if f then codes "&gt;" else c ∷ [])
    ≡ (if a then codes "&amp;" else if b then codes "&nbsp;" else if d then codes "&lt;" else if f then codes "&gt;" else c ∷ [])
unfolding encode
text-encode true b d f c e = refl
text-encode false true d f c e = refl
text-encode false false true f c e = refl
text-encode false false false true c e = refl
text-encode false false false false c e = ap (λ xs. xs ++ []) e

value-encode : (a b d : Bool) (c : ℕ) → encode c ≡ c ∷ []
    → encode_utf8_all (if a then codes "&amp;" else if b then codes "&nbsp;" else if d then codes "&quot;" else c ∷ [])
    ≡ (if a then codes "&amp;" else if b then codes "&nbsp;" else if d then codes "&quot;" else c ∷ [])
unfolding encode
value-encode true b d c e = refl
value-encode false true d c e = refl
value-encode false false true c e = refl
value-encode false false false c e = ap (λ xs. xs ++ []) e

-- what an ASCII code point is escaped to is ASCII
low-escape : (place : Place) (c : ℕ) → c < 0x80 → encode_utf8_all (escape place c) ≡ escape place c
low-escape Text c h = text-encode (c == 0x26) (c == 0xA0) (c == 0x3C) (c == 0x3E) c (encode_ascii c h)
low-escape Value c h = value-encode (c == 0x26) (c == 0xA0) (c == 0x22) c (encode_ascii c h)

low-char : (place : Place) (c : ℕ) (more : List ℕ) → c < 0x80 → escaped_bytes place (encode c ++ more) ≡ encode_utf8_all (escape place c) ++ escaped_bytes place more
low-char place c more h =
    let low : nat_lt c 0x80 ≡ true = grind (arith, nat_tests) in
    let alone : byte_escape place c ≡ escape place c = cond-true (nat_lt c 0x80) _ _ low in
    ap (λ xs. escaped_bytes place (xs ++ more)) (encode_ascii c h)
    ∙ byte_first place c more (not_latin c more (grind (arith, nat_tests)))
    ∙ ap (λ xs. xs ++ escaped_bytes place more) (alone ∙ sym (low-escape place c h))

-- the bytes of a code point that is no ASCII
two : (c : ℕ) → 0x80 ≤ c → c < 0x800 → encode c ≡ (192 + c / 64) ∷ (128 + c % 64) ∷ []
unfolding encode
two c h k =
    let a : nat_lt c 128 ≡ false = grind (arith, nat_tests) in
    let b : nat_lt c 2048 ≡ true = grind (arith, nat_tests) in rw (a, b) refl

three : (c : ℕ) → 0x800 ≤ c → c < 0x10000 → encode c ≡ (224 + c / 4096) ∷ (128 + c / 64 % 64) ∷ (128 + c % 64) ∷ []
unfolding encode
three c h k =
    let a : nat_lt c 128 ≡ false = grind (arith, nat_tests) in
    let b : nat_lt c 2048 ≡ false = grind (arith, nat_tests) in
    let d : nat_lt c 65536 ≡ true = grind (arith, nat_tests) in rw (a, b, d) refl

four : (c : ℕ) → 0x10000 ≤ c → encode c ≡ (240 + c / 262144) ∷ (128 + c / 4096 % 64) ∷ (128 + c / 64 % 64) ∷ (128 + c % 64) ∷ []
unfolding encode
four c h =
    let a : nat_lt c 128 ≡ false = grind (arith, nat_tests) in
    let b : nat_lt c 2048 ≡ false = grind (arith, nat_tests) in
    let d : nat_lt c 65536 ≡ false = grind (arith, nat_tests) in rw (a, b, d) refl

-- a byte behind the first one
next_plain : (place : Place) (n : ℕ) → IsPlain place (128 + n % 64)
next_plain place n = high_plain place (128 + n % 64) (omega arith) (let small : 128 + n % 64 < 192 = omega arith in other (128 + n % 64) (λ same. omega arith))

lead_plain : (place : Place) (n : ℕ) → 0xE0 ≤ n → IsPlain place n
lead_plain place n h = high_plain place n (omega arith) (other n (λ same. omega arith))

two-char : (place : Place) (c : ℕ) (more : List ℕ) → 0x80 ≤ c → c < 0x800 → c ≢ 0xA0 → escaped_bytes place (encode c ++ more) ≡ encode c ++ escaped_bytes place more
two-char place c more h k e =
    let lead = 192 + c / 64 in
    let last = 128 + c % 64 in
    let apart : is_no_break_space lead last ≡ false = two_apart c e in
    ap (λ xs. escaped_bytes place (xs ++ more)) (two c h k)
    ∙ byte_first place lead (last ∷ more) apart
    ∙ ap (λ xs. xs ++ escaped_bytes place (last ∷ more)) (high_alone place lead (omega arith))
    ∙ ap (λ xs. lead ∷ xs) (plain_first place last more (next_plain place c))
    ∙ ap (λ xs. xs ++ escaped_bytes place more) (sym (two c h k))
  where
    two_apart : (c : ℕ) → c ≢ 0xA0 → is_no_break_space (192 + c / 64) (128 + c % 64) ≡ false
    two_apart c e =
        elim (cases_lt (c / 64) 2) [
          | inl a ↦ rw (other (192 + c / 64) (λ same. omega arith)) refl
          | inr a ↦ elim (cases_lt 2 (c / 64)) [
            | inl b ↦ rw (other (192 + c / 64) (λ same. omega arith)) refl
            | inr b ↦
                let differs : 128 + c % 64 ≢ 0xA0 = (λ same. e (omega arith)) in
                let last : ((128 + c % 64) == 0xA0) ≡ false = grind (arith, nat_tests) in
                let lead : ((192 + c / 64) == 0xC2) ≡ true = grind (arith, nat_tests) in rw (lead, last) refl
          ]
        ]

three-char : (place : Place) (c : ℕ) (more : List ℕ) → 0x800 ≤ c → c < 0x10000 → escaped_bytes place (encode c ++ more) ≡ encode c ++ escaped_bytes place more
three-char place c more h k =
    ap (λ xs. escaped_bytes place (xs ++ more)) (three c h k)
    ∙ plain_first place (224 + c / 4096) _ (lead_plain place (224 + c / 4096) (omega arith))
    ∙ ap (λ xs. (224 + c / 4096) ∷ xs) (plain_first place (128 + c / 64 % 64) _ (next_plain place (c / 64))
    ∙ ap (λ xs. (128 + c / 64 % 64) ∷ xs) (plain_first place (128 + c % 64) more (next_plain place c)))
    ∙ ap (λ xs. xs ++ escaped_bytes place more) (sym (three c h k))

four-char : (place : Place) (c : ℕ) (more : List ℕ) → 0x10000 ≤ c → escaped_bytes place (encode c ++ more) ≡ encode c ++ escaped_bytes place more
four-char place c more h =
    ap (λ xs. escaped_bytes place (xs ++ more)) (four c h)
    ∙ plain_first place (240 + c / 262144) _ (lead_plain place (240 + c / 262144) (omega arith))
    ∙ ap (λ xs. (240 + c / 262144) ∷ xs) (plain_first place (128 + c / 4096 % 64) _ (next_plain place (c / 4096))
    ∙ ap (λ xs. (128 + c / 4096 % 64) ∷ xs) (plain_first place (128 + c / 64 % 64) _ (next_plain place (c / 64))
    ∙ ap (λ xs. (128 + c / 64 % 64) ∷ xs) (plain_first place (128 + c % 64) more (next_plain place c))))
    ∙ ap (λ xs. xs ++ escaped_bytes place more) (sym (four c h))

high-char : (place : Place) (c : ℕ) (more : List ℕ) → 0x80 ≤ c → c ≢ 0xA0 → escaped_bytes place (encode c ++ more) ≡ encode c ++ escaped_bytes place more
high-char place c more h e =
    elim (cases_lt c 0x800) [
      | inl a ↦ two-char place c more h a e
      | inr a ↦ elim (cases_lt c 0x10000) [ inl b ↦ three-char place c more a b | inr b ↦ four-char place c more b ]
    ]

space-char : (place : Place) (more : List ℕ) → escaped_bytes place (encode 0xA0 ++ more) ≡ encode_utf8_all (escape place 0xA0) ++ escaped_bytes place more
unfolding encode escaped_bytes
space-char Text more = refl
space-char Value more = refl

-- a code point, and what comes behind it
escaped-char : (place : Place) (c : ℕ) (more : List ℕ) → escaped_bytes place (encode c ++ more) ≡ encode_utf8_all (escape place c) ++ escaped_bytes place more
escaped-char place c more =
    elim (cases_lt c 0x80) [
      | inl a ↦ low-char place c more a
      | inr a ↦ elim (cases_lt c 0xA0) [
        | inl b ↦ high place c more a (λ same. omega arith)
        | inr b ↦ elim (cases_lt 0xA0 c) [
          | inl d ↦ high place c more a (λ same. omega arith)
          | inr d ↦ let same : 0xA0 ≡ c = omega arith in rw (← same) (space-char place more)
        ]
      ]
    ]
  where
    high : (place : Place) (c : ℕ) (more : List ℕ) → 0x80 ≤ c → c ≢ 0xA0 → escaped_bytes place (encode c ++ more) ≡ encode_utf8_all (escape place c) ++ escaped_bytes place more
    high place c more h e =
        high-char place c more h e
        ∙ ap (λ xs. xs ++ escaped_bytes place more) (sym (append-nil (encode c)) ∙ ap encode_utf8_all (sym (high-escape place c h e)))

pub escaped-chars : (place : Place) (text : List ℕ) → escaped_bytes place (encode_utf8_all text) ≡ encode_utf8_all (escaped place text)
unfolding escaped_bytes
escaped-chars place [] = refl
escaped-chars place (c ∷ text) =
    escaped-char place c (encode_utf8_all text) ∙ ap (λ xs. encode_utf8_all (escape place c) ++ xs) (escaped-chars place text)
    ∙ sym (encodes-append (escape place c) (escaped place text))

-- what was written of bytes, and what is left of them
pub wrote_space : (place : Place) (out new bytes : List ℕ) → new ≡ out ++ codes "&nbsp;" → begins_with_no_break_space bytes ≡ true
    → new ++ escaped_bytes place (take (length bytes - 2) (drop 2 bytes)) ≡ out ++ escaped_bytes place bytes
wrote_space place out new bytes e is =
    ap (λ xs. new ++ escaped_bytes place xs) (take_all (length bytes - 2) (drop 2 bytes) (omega (arith, length-drop 2 bytes)))
    ∙ ap (λ xs. xs ++ escaped_bytes place (drop 2 bytes)) e
    ∙ append_assoc out (codes "&nbsp;") (escaped_bytes place (drop 2 bytes))
    ∙ ap (λ xs. out ++ xs) (sym (space_first place bytes is))

pub wrote_byte : (place : Place) (out new bytes : List ℕ) → new ≡ out ++ byte_escape place (get_or bytes 0 0) → 0 < length bytes → begins_with_no_break_space bytes ≡ false
    → new ++ escaped_bytes place (take (length bytes - 1) (drop 1 bytes)) ≡ out ++ escaped_bytes place bytes
wrote_byte place out new bytes e some is =
    ap (λ xs. new ++ escaped_bytes place xs) (take_all (length bytes - 1) (drop 1 bytes) (omega (arith, length-drop 1 bytes)))
    ∙ ap (λ xs. xs ++ escaped_bytes place (drop 1 bytes)) e
    ∙ append_assoc out (byte_escape place (get_or bytes 0 0)) (escaped_bytes place (drop 1 bytes))
    ∙ ap (λ xs. out ++ xs) (sym (byte_at_first place bytes some is))

-- the plain bytes in front were written
pub wrote_plain : (place : Place) (out new bytes : List ℕ) (n : ℕ) → new ≡ out ++ take n bytes → ArePlain place (take n bytes)
    → new ++ escaped_bytes place (drop n bytes) ≡ out ++ escaped_bytes place bytes
wrote_plain place out new bytes n e plain =
    ap (λ xs. xs ++ escaped_bytes place (drop n bytes)) e
    ∙ append_assoc out (take n bytes) (escaped_bytes place (drop n bytes))
    ∙ ap (λ xs. out ++ xs) (sym (plain (drop n bytes)) ∙ ap (escaped_bytes place) (take-append-drop n bytes))

pub left_all : (bytes : List ℕ) (n : ℕ) → take (length bytes - n) (drop n bytes) ≡ drop n bytes
left_all bytes n = take_all (length bytes - n) (drop n bytes) (omega (arith, length-drop n bytes))

-- all was written
pub wrote_all : (place : Place) (out new rest text : List ℕ) → new ++ escaped_bytes place rest ≡ out ++ escaped_bytes place text → length rest ≡ 0 → IsUtf8 text
    → new ≡ out ++ encode_utf8_all (escaped place (chars text))
unfolding escaped_bytes
wrote_all place out new [] text e none utf8 =
    sym (append-nil new) ∙ e ∙ ap (λ xs. out ++ escaped_bytes place xs) (sym (encodes-chars text utf8)) ∙ ap (λ xs. out ++ xs) (escaped-chars place (chars text))
wrote_all place out new (b ∷ rest) text e none utf8 = absurd (omega arith)
