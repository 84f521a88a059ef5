-- What a text has of a word, and what it keeps when it goes on.
use Rattle.std.proofs.Common.{◌≡◌, ℕ, ◌+◌, ◌<◌, ◌≤◌, List, [], ◌∷◌, ◌++◌, Bool, true, false, ◌&&◌, ◌||◌, cond, length, drop, map, refl, ap, ◌∙◌, sym, arith, Option, None, Some, IsTrue, get_or, suc, drop-cons, add-one, length-drop, subst}
use Rattle.std.specs.Prelude.{◌==◌, codes}
use Rattle.std.specs.List.{list_all, AllPass}
use Rattle.std.specs.Char.{is_ascii, to_ascii_lowercase}
use Rattle.std.specs.Str.{chars}
use Rattle.std.proofs.lemmas.Str.{chars-IsAscii}
use Rattle.std.proofs.lemmas.Str.Ascii.{IsAscii-from_all}
use Rattle.std.proofs.lemmas.List.Sums.{AllPass-from_list_all}
use Rattle.std.proofs.lemmas.List.{map-append, length-map}
use Rattle.std.proofs.lemmas.Bool.{ltb-true}
use Rattle.hp_tokens.specs.declared.state.State.{State}
use Rattle.hp_tokens.specs.declared.state.State.TheVariants.{MarkupDeclarationOpen}
use Rattle.hp_tokens.specs.Valid.{is_front, is_front_without_case}
use Rattle.hp_lex_markup.specs.declared.words.Word.{Word}
use Rattle.hp_lex_markup.specs.declared.words.Word.TheVariants.{Hyphens, Doctype, Cdata, Public, System}
use Rattle.hp_lex_markup.specs.declared.words.Progress.{Progress}
use Rattle.hp_lex_markup.specs.declared.words.Progress.TheVariants.{Whole, Front, Other}
use Rattle.hp_lex_markup.specs.Words.{begins, begins_without_case, is_open_markup, is_open_keyword, is_open, markup_word, keyword, word, count, folded, progress, is_front_progress, is_whole_progress, front_of, begins_of}

is_true : (b : Bool) → IsTrue b → b ≡ true
is_true true h = refl
is_true false h = cc

-- an ASCII text is its own bytes
pub chars_of_ascii : (bs : List ℕ) → IsTrue (list_all is_ascii bs) → chars bs ≡ bs
chars_of_ascii bs h =
    let all : AllPass is_ascii bs = AllPass-from_list_all is_ascii bs (is_true (list_all is_ascii bs) h) in
    chars-IsAscii bs (IsAscii-from_all bs (λ k d less. ltb-true _ _ (all k d less)))

-- how far a text has come with a word tells whether it begins with the word, and whether it is its front
front_if : (b x : Bool) (p : Progress) → is_front_progress p ≡ x → is_front_progress (cond b p Other) ≡ (b && x)
front_if true x p h = h
front_if false x p h = refl

whole_if : (b x : Bool) (p : Progress) → is_whole_progress p ≡ x → is_whole_progress (cond b p Other) ≡ (b && x)
whole_if true x p h = h
whole_if false x p h = refl

pub front_told : (fold : Bool) (text word : List ℕ) → is_front_progress (progress fold text word) ≡ front_of fold text word
front_told true [] [] = refl
front_told true [] (w ∷ ws) = refl
front_told true (c ∷ cs) [] = refl
front_told true (c ∷ cs) (w ∷ ws) = front_if (to_ascii_lowercase c == w) _ _ (front_told true cs ws)
front_told false [] [] = refl
front_told false [] (w ∷ ws) = refl
front_told false (c ∷ cs) [] = refl
front_told false (c ∷ cs) (w ∷ ws) = front_if (c == w) _ _ (front_told false cs ws)

pub whole_told : (fold : Bool) (text word : List ℕ) → is_whole_progress (progress fold text word) ≡ begins_of fold text word
whole_told true [] [] = refl
whole_told true [] (w ∷ ws) = refl
whole_told true (c ∷ cs) [] = refl
whole_told true (c ∷ cs) (w ∷ ws) = whole_if (to_ascii_lowercase c == w) _ _ (whole_told true cs ws)
whole_told false [] [] = refl
whole_told false [] (w ∷ ws) = refl
whole_told false (c ∷ cs) [] = refl
whole_told false (c ∷ cs) (w ∷ ws) = whole_if (c == w) _ _ (whole_told false cs ws)

-- a text that is not the front of a word stays so, and begins with it or does not
both_stay : (b x x2 y y2 : Bool) → (b && x) ≡ false → (x ≡ false → (x2 ≡ false) × (y2 ≡ y)) → ((b && x2) ≡ false) × ((b && y2) ≡ (b && y))
both_stay true x x2 y y2 h f = f h
both_stay false x x2 y y2 h f = (refl, refl)

no_front : (text : List ℕ) → is_front text [] ≡ false
no_front [] = refl
no_front (c ∷ cs) = refl

front_stays : (text more word : List ℕ) → is_front text word ≡ false
    → (is_front (text ++ more) word ≡ false) × (begins (text ++ more) word ≡ begins text word)
front_stays [] more [] h = (no_front more, refl)
front_stays [] more (w ∷ ws) h = cc
front_stays (c ∷ cs) more [] h = (refl, refl)
front_stays (c ∷ cs) more (w ∷ ws) h = both_stay (c == w) (is_front cs ws) _ _ _ h (front_stays cs more ws)

case_stays : (text more word : List ℕ) → is_front_without_case text word ≡ false
    → (is_front_without_case (text ++ more) word ≡ false) × (begins_without_case (text ++ more) word ≡ begins_without_case text word)
case_stays text more word h =
    let e : map to_ascii_lowercase (text ++ more) ≡ map to_ascii_lowercase text ++ map to_ascii_lowercase more = map-append to_ascii_lowercase text more in
    let s = front_stays (map to_ascii_lowercase text) (map to_ascii_lowercase more) word h in (
      ap (λ (xs : List ℕ). is_front xs word) e ∙ s.0,
      ap (λ (xs : List ℕ). begins xs word) e ∙ s.1,
    )

or_false : (a b : Bool) → (a || b) ≡ false → (a ≡ false) × (b ≡ false)
or_false true b h = cc
or_false false b h = (refl, h)

none_of : (a b : Bool) → a ≡ false → b ≡ false → (a || b) ≡ false
none_of true b h k = h
none_of false b h k = k

three_same : (v w x : Word) (a a2 b b2 c c2 : Bool) → a2 ≡ a → b2 ≡ b → c2 ≡ c
    → cond a2 (Some v) (cond b2 (Some w) (cond c2 (Some x) None)) ≡ cond a (Some v) (cond b (Some w) (cond c (Some x) None))
three_same v w x a a2 b b2 c c2 e f g = rw (e, f, g) refl

two_same : (v w : Word) (a a2 b b2 : Bool) → a2 ≡ a → b2 ≡ b
    → cond a2 (Some v) (cond b2 (Some w) None) ≡ cond a (Some v) (cond b (Some w) None)
two_same v w a a2 b b2 e f = rw (e, f) refl

-- what is decided stays decided when the text goes on
markup_stays : (text more : List ℕ) → is_open_markup text ≡ false → (is_open_markup (text ++ more) ≡ false) × (markup_word (text ++ more) ≡ markup_word text)
markup_stays text more h =
    let first = or_false (is_front text (codes "--")) (is_front_without_case text (codes "doctype") || is_front text (codes "[CDATA[")) h in
    let second = or_false (is_front_without_case text (codes "doctype")) (is_front text (codes "[CDATA[")) first.1 in
    let a = front_stays text more (codes "--") first.0 in
    let b = case_stays text more (codes "doctype") second.0 in
    let c = front_stays text more (codes "[CDATA[") second.1 in (
      none_of _ _ a.0 (none_of _ _ b.0 c.0),
      three_same Hyphens Doctype Cdata _ _ _ _ _ _ a.1 b.1 c.1,
    )

keyword_stays : (text more : List ℕ) → is_open_keyword text ≡ false → (is_open_keyword (text ++ more) ≡ false) × (keyword (text ++ more) ≡ keyword text)
keyword_stays text more h =
    let first = or_false (is_front_without_case text (codes "public")) (is_front_without_case text (codes "system")) h in
    let a = case_stays text more (codes "public") first.0 in
    let b = case_stays text more (codes "system") first.1 in (none_of _ _ a.0 b.0, two_same Public System _ _ _ _ a.1 b.1)

pub stays : (s : State) (text more : List ℕ) → is_open s text ≡ false → (is_open s (text ++ more) ≡ false) × (word s (text ++ more) ≡ word s text)
stays MarkupDeclarationOpen text more h = markup_stays text more h
stays _ text more h = keyword_stays text more h

-- a word is within the text that begins with it
begins_within : (text word : List ℕ) → begins text word ≡ true → length word ≤ length text
begins_within text [] h = omega arith
begins_within [] (w ∷ ws) h = cc
begins_within (c ∷ cs) (w ∷ ws) h = let k : length ws ≤ length cs = begins_within cs ws (second (c == w) _ h) in omega arith
  where
    second : (a b : Bool) → (a && b) ≡ true → b ≡ true
    second true b h = h
    second false b h = cc

case_within : (text word : List ℕ) → begins_without_case text word ≡ true → length word ≤ length text
case_within text word h = omega (arith, begins_within (map to_ascii_lowercase text) word h, length-map text to_ascii_lowercase)

three_fit : (n : ℕ) (v w x y : Word) (a b c : Bool) → (a ≡ true → count v ≤ n) → (b ≡ true → count w ≤ n) → (c ≡ true → count x ≤ n)
    → cond a (Some v) (cond b (Some w) (cond c (Some x) None)) ≡ Some y → count y ≤ n
three_fit n v w x y true b c f g h e = let same : v ≡ y = cc in let P : Word → Type 0 = λ u. count u ≤ n in subst P same (f refl)
three_fit n v w x y false true c f g h e = let same : w ≡ y = cc in let P : Word → Type 0 = λ u. count u ≤ n in subst P same (g refl)
three_fit n v w x y false false true f g h e = let same : x ≡ y = cc in let P : Word → Type 0 = λ u. count u ≤ n in subst P same (h refl)
three_fit n v w x y false false false f g h e = cc

two_fit : (n : ℕ) (v w y : Word) (a b : Bool) → (a ≡ true → count v ≤ n) → (b ≡ true → count w ≤ n)
    → cond a (Some v) (cond b (Some w) None) ≡ Some y → count y ≤ n
two_fit n v w y true b f g e = let same : v ≡ y = cc in let P : Word → Type 0 = λ u. count u ≤ n in subst P same (f refl)
two_fit n v w y false true f g e = let same : w ≡ y = cc in let P : Word → Type 0 = λ u. count u ≤ n in subst P same (g refl)
two_fit n v w y false false f g e = cc

pub word_fits : (s : State) (text : List ℕ) (w : Word) → word s text ≡ Some w → count w ≤ length text
word_fits MarkupDeclarationOpen text w e =
    three_fit (length text) Hyphens Doctype Cdata w
    (begins text (codes "--")) (begins_without_case text (codes "doctype")) (begins text (codes "[CDATA["))
    (begins_within text (codes "--")) (case_within text (codes "doctype")) (begins_within text (codes "[CDATA[")) e
word_fits _ text w e =
    two_fit (length text) Public System w (begins_without_case text (codes "public")) (begins_without_case text (codes "system"))
    (case_within text (codes "public")) (case_within text (codes "system")) e

-- one more code point is dropped off the front
pub dropped_more : (xs rest : List ℕ) (i c : ℕ) → drop i xs ≡ c ∷ rest → drop (i + 1) xs ≡ rest
dropped_more xs rest i c e =
    let less : i < length xs = omega (arith, ap length e, length-drop i xs) in
    let both : get_or xs i 0 ∷ drop (suc i) xs ≡ c ∷ rest = sym (drop-cons xs i 0 less) ∙ e in
    let later : drop (suc i) xs ≡ rest = cc in
    rw add-one later
