-- A text without the line feed that it begins with.
use Rattle.std.proofs.Common.{◌≡◌, ℕ, List, [], ◌∷◌, ◌++◌, length, Bool, true, false, ◌==◌, None, Some, refl, sym, ap, ◌∙◌, lit<, arith}
use Rattle.std.specs.Prelude.{if◌then◌else◌, IsUtf8}
use Rattle.std.specs.Str.{chars}
use Rattle.std.proofs.Math.Utf8.{encode, encodes}
use Rattle.std.proofs.lemmas.Bool.{eqb-true, true≢false}
use Rattle.std.proofs.lemmas.Str.{chars_past_char, encode_ascii, encodes-chars}
use Rattle.hp_elements.specs.declared.token.CharClass.{CharClass}
use Rattle.hp_elements.specs.declared.token.Token.TheVariants.{Characters}
use Rattle.hp_acts.specs.HandlePlans.{rest_of_text, without_line_feed}

line_feed : encode 0xA ≡ 0xA ∷ []
line_feed = encode_ascii 0xA (lit< tt)

-- bytes that don't begin with a line feed are no such text
keeps_text : (class : CharClass) (text bs : List ℕ) → encodes text ≡ bs → ((rest : List ℕ) → bs ≡ 0xA ∷ rest → ⊥) → Some (Characters class text) ≡ without_line_feed (Characters class text)
keeps_text class [] bs e h = refl
keeps_text class (c ∷ cs) bs e h = go (c == 0xA) refl
  where
    go : (b : Bool) → (c == 0xA) ≡ b → Some (Characters class (c ∷ cs)) ≡ (if b then rest_of_text class cs else Some (Characters class (c ∷ cs)))
    go false k = refl
    go true k = absurd (h (encodes cs) (sym e ∙ (ap (λ x. encode x ++ encodes cs) (eqb-true c 0xA k) ∙ ap (λ l. l ++ encodes cs) line_feed)))

pub text_stays : (class : CharClass) (text bs : List ℕ) → chars bs ≡ text → IsUtf8 bs → ((rest : List ℕ) → bs ≡ 0xA ∷ rest → ⊥) → Some (Characters class text) ≡ without_line_feed (Characters class text)
text_stays class text bs e u h = keeps_text class text bs (ap encodes (sym e) ∙ encodes-chars bs u) h

-- what is left behind it
text_after : (class : CharClass) (text bs rest : List ℕ) → chars bs ≡ text → IsUtf8 bs → bs ≡ 0xA ∷ rest → without_line_feed (Characters class text) ≡ rest_of_text class (chars rest)
text_after class text bs rest e u h =
    ap (λ l. without_line_feed (Characters class l)) (sym e ∙ chars_past_char bs rest 0xA u (h ∙ ap (λ l. l ++ rest) (sym line_feed)))

nothing_left : (class : CharClass) (after : List ℕ) → (length after == 0) ≡ true → rest_of_text class after ≡ None
nothing_left class [] h = refl
nothing_left class (x ∷ xs) h = let z : length (x ∷ xs) ≡ 0 = eqb-true (length (x ∷ xs)) 0 h in absurd (omega (arith, z))

something_left : (class : CharClass) (after : List ℕ) → (length after == 0) ≡ false → rest_of_text class after ≡ Some (Characters class after)
something_left class (x ∷ xs) h = refl
something_left class [] h = absurd (true≢false h)

pub text_ends : (class : CharClass) (text bs rest after : List ℕ) → chars bs ≡ text → IsUtf8 bs → bs ≡ 0xA ∷ rest → after ≡ chars rest → (length after == 0) ≡ true → None ≡ without_line_feed (Characters class text)
text_ends class text bs rest after e u h k empty = sym (text_after class text bs rest e u h ∙ (ap (rest_of_text class) (sym k) ∙ nothing_left class after empty))

pub text_goes_on : (class : CharClass) (text bs rest after : List ℕ) → chars bs ≡ text → IsUtf8 bs → bs ≡ 0xA ∷ rest → after ≡ chars rest → (length after == 0) ≡ false → Some (Characters class after) ≡ without_line_feed (Characters class text)
text_goes_on class text bs rest after e u h k more = sym (text_after class text bs rest e u h ∙ (ap (rest_of_text class) (sym k) ∙ something_left class after more))
