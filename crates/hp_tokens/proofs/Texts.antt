-- What a text that owns its code points has after an edit of its bytes.
use Rattle.std.proofs.Common.{◌≡◌, ℕ, List, [], ◌∷◌, ◌++◌, Result, Ok, Err, OnOk, cond, is_ok, ap, ◌∙◌, sym, subst, append-nil, Bool, true, false, refl, ◌≢◌, append_assoc, map, length, drop, Some, arith, length-append, ◌≤◌, ◌<◌, ◌+◌, eqb-true}
use lib.Pointwise.{pointwise}
use lib.Dec.{eqb}
use Rattle.std.specs.Cmp.Lexicographic.{told_text}
use Rattle.std.specs.Bool.{MatchBool}
use Rattle.std.specs.Prelude.{IsTrue, ◌==◌}
use Rattle.std.specs.Str.{chars, IsUtf8}
use Rattle.std.specs.Char.{IsScalar, len_utf8}
use Rattle.hp_tokens.specs.Reading.{first}
use lib.Utf8.{encode, encodes}
use Rattle.std.proofs.lemmas.Str.{chars-append, chars-nil, chars_past_char, IsUtf8-append, IsUtf8-encode, encodes-chars, IsUtf8-past_char, drop_past_char, length-encode, len_utf8_bounds}

pub same_bytes : (a b : List ℕ) → IsUtf8 a → IsUtf8 b → chars a ≡ chars b → a ≡ b
same_bytes a b u v e = sym (encodes-chars a u) ∙ (ap (λ (cs : List ℕ). encodes cs) e ∙ encodes-chars b v)

pub chars-encode : (c : ℕ) → IsScalar c → chars (encode c) ≡ c ∷ []
chars-encode c s =
    chars_past_char (encode c) [] c (IsUtf8-encode c s) (sym (append-nil (encode c))) ∙ ap (λ (xs : List ℕ). c ∷ xs) chars-nil

-- the bytes of a text, with those of another behind them
pub behind-utf8 : {new old : List ℕ} (more : List ℕ) → new ≡ old ++ more → IsUtf8 old → IsUtf8 more → IsUtf8 new
behind-utf8 {new} {old} more e u v = let P : List ℕ → Type 0 = λ xs. IsUtf8 xs in subst P (sym e) (IsUtf8-append old more u v)

pub behind-chars : {new old now : List ℕ} (more : List ℕ) → new ≡ old ++ more → IsUtf8 old → chars old ≡ now → chars new ≡ now ++ chars more
behind-chars {new} {old} {now} more e u v = ap chars e ∙ (chars-append old more u ∙ ap (λ (xs : List ℕ). xs ++ chars more) v)

-- what a push that may fail leaves
pub maybe-utf8 : (b : Bool) (new old more : List ℕ) → new ≡ cond b (old ++ more) old → IsUtf8 old → IsUtf8 more → IsUtf8 new
maybe-utf8 true new old more e u v = behind-utf8 more e u v
maybe-utf8 false new old more e u v = let P : List ℕ → Type 0 = λ xs. IsUtf8 xs in subst P (sym e) u

pub pushed : {E : Type 0} (r : Result (Unit {0}) E) (new old now more : List ℕ) → new ≡ cond (is_ok r) (old ++ more) old → IsUtf8 old
    → chars old ≡ now → OnOk r (chars new ≡ now ++ chars more)
pushed (Ok x) new old now more e u v = behind-chars more e u v
pushed (Err x) new old now more e u v = tt

told_bytes : (r : Bool) (a b now other : List ℕ) → MatchBool r (a ≡ b) (a ≢ b) → IsUtf8 a → IsUtf8 b → chars a ≡ now → chars b ≡ other
    → (IsTrue r → now ≡ other) × (now ≡ other → IsTrue r)
told_bytes true a b now other m u v e f = (λ t. sym e ∙ (ap chars m ∙ f), λ s. refl)
told_bytes false a b now other m u v e f = (λ t. cc, λ s. absurd (m (same_bytes a b u v (e ∙ (s ∙ sym f)))))

pub told_same : (r : Bool) (a b now other : List ℕ) → IsUtf8 a → IsUtf8 b → chars a ≡ now → chars b ≡ other → r ≡ pointwise eqb a b
    → (IsTrue r → now ≡ other) × (now ≡ other → IsTrue r)
told_same r a b now other u v e f t = told_bytes r a b now other (told_text a b r t) u v e f

decided : (r q : Bool) (x y : List ℕ) → (IsTrue r → x ≡ y) × (x ≡ y → IsTrue r) → MatchBool q (x ≡ y) (x ≢ y) → r ≡ q
decided true true x y h m = refl
decided true false x y h m = absurd (m (h.0 refl))
decided false true x y h m = let t : IsTrue false = h.1 m in cc
decided false false x y h m = refl

-- a test of the bytes of two texts is a test of their code points
pub tested : (r : Bool) (a b x y : List ℕ) → IsUtf8 a → IsUtf8 b → chars a ≡ x → chars b ≡ y → r ≡ pointwise eqb a b → r ≡ pointwise eqb x y
tested r a b x y u v e f t = decided r (pointwise eqb x y) x y (told_same r a b x y u v e f t) (told_text x y (pointwise eqb x y) refl)

-- a loop that emits the code points of a text
pub emitted_more : {T : Type 0} (f : ℕ → T) (now new whole : List T) (bs rest : List ℕ) (c : ℕ) → IsUtf8 bs → bs ≡ encode c ++ rest
    → now ++ map f (chars bs) ≡ whole → new ≡ now ++ f c ∷ [] → (new ++ map f (chars rest) ≡ whole) × IsUtf8 rest
emitted_more {T} f now new whole bs rest c u e all push = (
  ap (λ (xs : List T). xs ++ map f (chars rest)) push ∙ (append_assoc now (f c ∷ []) (map f (chars rest)) ∙ (ap (λ (xs : List ℕ). now ++ map f xs) (sym (chars_past_char bs rest c u e)) ∙ all)),
  IsUtf8-past_char bs rest c u e,
)

pub emitted_all : {T : Type 0} (f : ℕ → T) (now whole : List T) (bs : List ℕ) → length bs ≡ 0 → now ++ map f (chars bs) ≡ whole → now ≡ whole
emitted_all f now whole [] e all = sym (append-nil now) ∙ (ap (λ (xs : List ℕ). now ++ map f xs) (sym chars-nil) ∙ all)
emitted_all f now whole (b ∷ bs) e all = cc

pub text_of_first : (text : List ℕ) {c : ℕ} → Some c ≡ first text → (cs : List ℕ) × (text ≡ c ∷ cs)
text_of_first text {c} h = go text c h
  where
    go : (text : List ℕ) (c : ℕ) → Some c ≡ first text → (cs : List ℕ) × (text ≡ c ∷ cs)
    go [] c h = cc
    go (x ∷ xs) c h = let e : x ≡ c = cc in (xs, ap (λ (y : ℕ). y ∷ xs) e)

filled : (bytes : List ℕ) {now : List ℕ} {c : ℕ} → chars bytes ≡ now → Some c ≡ first now → 0 < length bytes
filled [] {now} {c} is f =
    let e : Some c ≡ first [] = f ∙ (ap first (sym is) ∙ ap first chars-nil) in cc
filled (b ∷ bs) is f = omega arith

-- the first code point of a text is taken off its bytes
module _ (bytes now : List ℕ) (c : ℕ) (u : IsUtf8 bytes) (is : chars bytes ≡ now) (f : Some c ≡ first now) where
  front_bytes : (rest : List ℕ) × (bytes ≡ encode c ++ rest)
  front_bytes = let t : (cs : List ℕ) × (now ≡ c ∷ cs) = text_of_first now f in (encodes t.0, sym (encodes-chars bytes u) ∙ ap (λ (cs : List ℕ). encodes cs) (is ∙ t.1))

  pub front-within : (n : ℕ) → n ≡ len_utf8 c → n ≤ length bytes
  front-within n e = omega (arith, e, length-encode c, simp length-append at (ap length front_bytes.1))

  pub width-positive : 0 < length bytes
  width-positive = filled bytes is f

  dropped_rest : (n : ℕ) → n ≡ len_utf8 c → drop n bytes ≡ front_bytes.0
  dropped_rest n e =
      let at : n ≡ 0 + len_utf8 c = omega (arith, e) in
      ap (λ (k : ℕ). drop k bytes) at ∙ drop_past_char bytes front_bytes.0 0 c front_bytes.1

  pub dropped-utf8 : (new : List ℕ) (n : ℕ) → n ≡ len_utf8 c → new ≡ drop n bytes → IsUtf8 new
  dropped-utf8 new n e d = let P : List ℕ → Type 0 = λ xs. IsUtf8 xs in subst P (sym (d ∙ dropped_rest n e)) (IsUtf8-past_char bytes front_bytes.0 c u front_bytes.1)

  pub dropped-chars : (new : List ℕ) (n : ℕ) → n ≡ len_utf8 c → new ≡ drop n bytes → now ≡ c ∷ chars new
  dropped-chars new n e d = sym is ∙ (chars_past_char bytes front_bytes.0 c u front_bytes.1 ∙ ap (λ (xs : List ℕ). c ∷ chars xs) (sym (d ∙ dropped_rest n e)))

  -- what was removed is that code point
  pub removed-utf8 : (new rest : List ℕ) (x : ℕ) → bytes ≡ encode x ++ rest → new ≡ rest → IsUtf8 new
  removed-utf8 new rest x e d = let P : List ℕ → Type 0 = λ xs. IsUtf8 xs in subst P (sym d) (IsUtf8-past_char bytes rest x u e)

  pub removed-chars : (new rest : List ℕ) (x : ℕ) → bytes ≡ encode x ++ rest → new ≡ rest → now ≡ c ∷ chars new
  removed-chars new rest x e d =
      let t : (cs : List ℕ) × (now ≡ c ∷ cs) = text_of_first now f in
      let whole : now ≡ x ∷ chars rest = sym is ∙ chars_past_char bytes rest x u e in
      let both : c ∷ t.0 ≡ x ∷ chars rest = sym t.1 ∙ whole in
      let same : x ≡ c = cc in
      whole ∙ (ap (λ (y : ℕ). y ∷ chars rest) same ∙ ap (λ (xs : List ℕ). c ∷ chars xs) (sym d))

not_none : (n : ℕ) → 0 < n → (n == 0) ≡ false
not_none n h = grind arith

empty_spelled : (cs : List ℕ) → (length (encodes cs) == 0) ≡ (length cs == 0)
empty_spelled [] = refl
empty_spelled (c ∷ cs) =
    let some : 0 < length (encodes (c ∷ cs)) = omega (arith, length-append (encode c) (encodes cs), length-encode c, (len_utf8_bounds c).0) in
    not_none (length (encodes (c ∷ cs))) some ∙ sym (not_none (length (c ∷ cs)) (omega arith))

pub empty_text : (bs : List ℕ) → IsUtf8 bs → (length bs == 0) ≡ (length (chars bs) == 0)
empty_text bs u = ap (λ (xs : List ℕ). length xs == 0) (sym (encodes-chars bs u)) ∙ empty_spelled (chars bs)

-- an answer that a text has no code points
pub has_none : (xs : List ℕ) → true ≡ (length xs == 0) → xs ≡ []
has_none [] h = refl
has_none (x ∷ xs) h = absurd (omega (arith, eqb-true (length (x ∷ xs)) 0 (sym h)))

pub has_some : (xs : List ℕ) → false ≡ (length xs == 0) → 0 < length xs
has_some [] h = cc
has_some (x ∷ xs) h = omega arith

pub some_spelled : (bs : List ℕ) → IsUtf8 bs → false ≡ (length bs == 0) → 0 < length (chars bs)
some_spelled bs u h = has_some (chars bs) (h ∙ empty_text bs u)
