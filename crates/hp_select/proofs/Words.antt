-- The words of a value, as they are passed over.
use Rattle.std.proofs.Common.{◌≡◌, ℕ, zero, suc, ◌<◌, ◌≤◌, ◌+◌, List, [], ◌∷◌, ◌++◌, length, get_or, arith, refl, sym, ap, ◌∙◌, append-nil, append_assoc}
use Rattle.std.specs.Prelude.{Bool, true, false, ◌||◌, ◌&&◌, bytes_eq, filter, All}
use Rattle.std.specs.List.{list_any, slice_split, AllPass}
use Rattle.std.specs.Char.{is_ascii_whitespace}
use Rattle.std.specs.Str.{chars, IsUtf8, NonePass}
use Rattle.std.specs.Str.Iter.{IsAsciiSeparator}
use Rattle.std.proofs.lemmas.Bool.{cond-true}
use Rattle.std.proofs.lemmas.List.Splits.{slice_split_at, slice_split_none}
use Rattle.std.proofs.lemmas.Str.{chars_from_encodes, cons_from_encodes, encode_ascii, encodes-append, encodes-chars, length-le-encodes, scalars-chars, chars-IsAscii}
use Rattle.std.proofs.lemmas.Str.Ascii.{IsAscii-from_all}
use Rattle.std.proofs.lemmas.Bool.Decides.{nat_tests}
use lib.Utf8.{encode, encodes, scalar, scalars}
use Rattle.hp_select.specs.Matching.{has_word, is_filled}

-- a code point of white space at the front is passed over
past-white : (w : List ℕ) (c : ℕ) (text : List ℕ) → is_ascii_whitespace c ≡ true → has_word w (c ∷ text) ≡ has_word w text
past-white w c text white = ap (λ parts. list_any (bytes_eq w) (filter is_filled parts)) (cond-true (is_ascii_whitespace c) _ _ white)

past-gap : (w gap text : List ℕ) → AllPass is_ascii_whitespace gap → has_word w (gap ++ text) ≡ has_word w text
past-gap w [] text all = refl
past-gap w (c ∷ gap) text all = past-white w c (gap ++ text) (all 0 0 (omega arith)) ∙ past-gap w gap text (λ k d h. all (suc k) d (omega arith))

filled : (w word : List ℕ) (parts : List (List ℕ)) → 0 < length word → list_any (bytes_eq w) (filter is_filled (word ∷ parts)) ≡ (bytes_eq w word || list_any (bytes_eq w) (filter is_filled parts))
filled w [] parts h = absurd (omega arith)
filled w (c ∷ word) parts h = refl

none-all : (p : ℕ → Bool) (cs : List ℕ) → NonePass p cs → All (λ c. p c ≡ false) cs
none-all p [] none k d h = absurd (omega arith)
none-all p (c ∷ cs) none zero d h = none.0
none-all p (c ∷ cs) none (suc k) d h = none-all p cs none.1 k d (omega arith)

-- a word at the front is the first
first-word : (w word sep text : List ℕ) → 0 < length word → NonePass is_ascii_whitespace word → IsAsciiSeparator sep text → has_word w (word ++ (sep ++ text)) ≡ (bytes_eq w word || has_word w text)
first-word w word [] [] some none sep =
    ap (has_word w) (append-nil word) ∙ ap (λ parts. list_any (bytes_eq w) (filter is_filled parts)) (slice_split_none is_ascii_whitespace word (none-all is_ascii_whitespace word none)) ∙ filled w word [] some
first-word w word [] (c ∷ text) some none sep = absurd (let e : length (c ∷ text) ≡ 0 = sep.2 refl in omega arith)
first-word w word (y ∷ []) text some none sep =
    ap (λ parts. list_any (bytes_eq w) (filter is_filled parts)) (slice_split_at is_ascii_whitespace word y text (none-all is_ascii_whitespace word none) (sep.0 0 0 (omega arith))) ∙ filled w word (slice_split is_ascii_whitespace text) some
first-word w word (y ∷ z ∷ more) text some none sep = absurd (omega (arith, sep.1))

-- ASCII is its own UTF-8
white-ascii : (c : ℕ) → is_ascii_whitespace c ≡ true → c < 128
white-ascii c h = grind (arith, nat_tests)

white-encodes : (gap : List ℕ) → AllPass is_ascii_whitespace gap → encodes gap ≡ gap
white-encodes [] all = refl
white-encodes (c ∷ gap) all =
    ap (λ front. front ++ encodes gap) (encode_ascii c (white-ascii c (all 0 0 (omega arith)))) ∙ ap (λ rest. c ∷ rest) (white-encodes gap (λ k d h. all (suc k) d (omega arith)))

-- a text whose UTF-8 begins with that of another begins with that one
front-encodes : (front text rest : List ℕ) → encodes text ≡ encodes front ++ rest → (more : List ℕ) × (text ≡ front ++ more) × (encodes more ≡ rest)
front-encodes [] text rest e = (text, refl, e)
front-encodes (c ∷ front) text rest e =
    let one = cons_from_encodes text (encodes front ++ rest) c (e ∙ append_assoc (encode c) (encodes front) rest) in
    let others = front-encodes front one.0 rest one.2 in
    (others.0, one.1 ∙ ap (λ more. c ∷ more) others.1, others.2)

and-both : (a b : Bool) → (a && b) ≡ true → (a ≡ true) × (b ≡ true)
and-both true b h = (refl, h)
and-both false b h = absurd (cc h)

scalars-both : (a b : List ℕ) → scalars (a ++ b) ≡ true → (scalars a ≡ true) × (scalars b ≡ true)
scalars-both [] b h = (refl, h)
scalars-both (c ∷ a) b h =
    let one = and-both (scalar c) (scalars (a ++ b)) h in
    let others = scalars-both a b one.1 in
    (ap (λ x. x && scalars a) one.0 ∙ others.0, others.1)

regrouped : (a b c d : List ℕ) → a ++ (b ++ (c ++ d)) ≡ (a ++ (b ++ c)) ++ d
regrouped a b c d = sym (append_assoc a (b ++ c) d ∙ ap (λ x. a ++ x) (append_assoc b c d))

filled-cs : (cs word : List ℕ) → encodes cs ≡ word → 0 < length word → 0 < length cs
filled-cs [] word e h = absurd (omega (arith, ap length e))
filled-cs (c ∷ cs) word e h = omega arith

empty-cs : (cs rest : List ℕ) → encodes cs ≡ rest → length rest ≡ 0 → length cs ≡ 0
empty-cs cs rest e h = omega (arith, ap length e, length-le-encodes cs)

-- a word was taken off a text
pub record IsTurn (w bs word rest : List ℕ) : Type 0 where
  pub utf8 : IsUtf8 rest
  pub same : has_word w (chars bs) ≡ (bytes_eq w (chars word) || has_word w (chars rest))

pub word_turn : (w bs word rest gap sep cs : List ℕ) → IsUtf8 bs → bs ≡ gap ++ (word ++ (sep ++ rest)) → AllPass is_ascii_whitespace gap → IsAsciiSeparator sep rest
    → encodes cs ≡ word → NonePass is_ascii_whitespace cs → 0 < length word → IsTurn w bs word rest
word_turn w bs word rest gap sep cs u laid white apart spelled none some =
    let text = chars bs in
    let front = gap ++ (cs ++ sep) in
    let front_is : encodes front ≡ gap ++ (word ++ sep) =
    encodes-append gap (cs ++ sep) ∙ ap (λ x. x ++ encodes (cs ++ sep)) (white-encodes gap white) ∙ ap (λ x. gap ++ x) (encodes-append cs sep ∙ ap (λ x. x ++ encodes sep) spelled ∙ ap (λ x. word ++ x) (white-encodes sep apart.0)) in
    let all : encodes text ≡ encodes front ++ rest = encodes-chars bs u ∙ laid ∙ regrouped gap word sep rest ∙ ap (λ x. x ++ rest) (sym front_is) in
    let left = front-encodes front text rest all in
    let valid : scalars (front ++ left.0) ≡ true = rw left.1 at (scalars-chars bs u) in
    let parts = scalars-both front left.0 valid in
    let of_cs = (scalars-both cs sep (scalars-both gap (cs ++ sep) parts.0).1).0 in
    let rest_utf8 : IsUtf8 rest = (left.0, (parts.1, left.2)) in
    let rest_is : left.0 ≡ chars rest = chars_from_encodes left.0 rest rest_utf8 left.2 in
    let word_is : cs ≡ chars word = chars_from_encodes cs word (cs, (of_cs, spelled)) spelled in
    let long : 0 < length cs = filled-cs cs word spelled some in
    let far : IsAsciiSeparator sep left.0 = (apart.0, apart.1, λ e. empty-cs left.0 rest left.2 (apart.2 e)) in
    record {
      utf8 = rest_utf8;
      same = ap (has_word w) (left.1 ∙ sym (regrouped gap cs sep left.0)) ∙ past-gap w gap (cs ++ (sep ++ left.0)) white ∙ first-word w cs sep left.0 long none far
          ∙ ap (λ x. bytes_eq w x || has_word w left.0) word_is ∙ ap (λ x. bytes_eq w (chars word) || has_word w x) rest_is;
    }

-- only white space is left
pub white_end : (w bs : List ℕ) → AllPass is_ascii_whitespace bs → has_word w (chars bs) ≡ false
white_end w bs all =
    ap (has_word w) (chars-IsAscii bs (IsAscii-from_all bs (λ k d h. white-ascii (get_or bs k d) (all k d h)))) ∙ ap (has_word w) (sym (append-nil bs)) ∙ past-gap w bs [] all

-- the same by what a step over a word says
pub turn : (w bs word rest : List ℕ) → IsUtf8 bs
    → (0 < length word) × ((cs : List ℕ) × (encodes cs ≡ word) × NonePass is_ascii_whitespace cs) × (length word + length rest ≤ length bs)
    × ((gap : List ℕ) × (sep : List ℕ) × (bs ≡ gap ++ (word ++ (sep ++ rest))) × AllPass is_ascii_whitespace gap × IsAsciiSeparator sep rest) → IsTurn w bs word rest
turn w bs word rest u h = word_turn w bs word rest h.3.0 h.3.1 h.1.0 u h.3.2 h.3.3 h.3.4 h.1.1 h.1.2 h.0

pub found_here : (w bs word rest : List ℕ) → IsTurn w bs word rest → bytes_eq w (chars word) ≡ true → has_word w (chars bs) ≡ true
found_here w bs word rest t e = t.same ∙ ap (λ b. b || has_word w (chars rest)) e

pub not_here : (w bs word rest : List ℕ) → IsTurn w bs word rest → bytes_eq w (chars word) ≡ false → has_word w (chars rest) ≡ has_word w (chars bs)
not_here w bs word rest t e = sym (t.same ∙ ap (λ b. b || has_word w (chars rest)) e)
