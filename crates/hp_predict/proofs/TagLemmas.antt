-- The tags of a text, by its first `<` and its first `>`.
use Rattle.std.proofs.Common.{◌≡◌, ℕ, zero, suc, ◌+◌, ◌-◌, ◌<◌, Bool, true, false, ◌&&◌, ◌||◌, cond, List, [], ◌∷◌, length, take, drop, get_or, refl, sym, ap, subst, ◌∙◌, arith, add-one, drop-cons, length-drop}
use Rattle.std.specs.Prelude.{Option, None, Some, not, ◌==◌, if◌then◌else◌}
use Rattle.std.specs.Char.{is_ascii_alphanumeric}
use Rattle.std.specs.List.{All, take_while, prefix_len}
use Rattle.std.specs.Str.{IsAscii}
use Rattle.std.proofs.lemmas.Grind.{common_steps}
use Rattle.std.proofs.lemmas.List.{take_all}
use Rattle.std.proofs.lemmas.List.Elements.{All-nil, All-cons}
use Rattle.std.proofs.lemmas.List.Sums.{take_while-cons}
use Rattle.std.proofs.lemmas.Str.Ascii.{IsAscii-from_all}
use Rattle.memchr.specs.Find.{IsFirstByte, is_byte}
use Rattle.hp_predict.specs.Tags.{SeenTag, tags, tag_at, tag_after, has_end}

pub fails : (b : Bool) → (b ≡ true → ⊥) → b ≡ false
fails true h = absurd (h refl)
fails false h = refl

-- what a byte that fails a test does not change is not changed by those before the first that passes
pub skipped : {X : Type 0} (P : List ℕ → X) (test : ℕ → Bool) → ((x : ℕ) (xs : List ℕ) → test x ≡ false → P (x ∷ xs) ≡ P xs) → (hay : List ℕ) (k : ℕ) → ((i : ℕ) → i < k → test (get_or hay i 0) ≡ true → ⊥) → P hay ≡ P (drop k hay)
skipped P test step hay zero before = refl
skipped P test step [] (suc k) before = refl
skipped P test step (x ∷ xs) (suc k) before =
    step x xs (fails (test x) (before 0 (omega arith)))
    ∙ skipped P test step xs k (λ i lt. before (suc i) (omega arith))

pub none_passes : {X : Type 0} (P : List ℕ → X) (test : ℕ → Bool) → ((x : ℕ) (xs : List ℕ) → test x ≡ false → P (x ∷ xs) ≡ P xs) → (hay : List ℕ) → ((i : ℕ) → i < length hay → test (get_or hay i 0) ≡ true → ⊥) → P hay ≡ P []
none_passes P test step [] h = refl
none_passes P test step (x ∷ xs) h =
    step x xs (fails (test x) (h 0 (omega arith)))
    ∙ none_passes P test step xs (λ i lt. h (suc i) (omega arith))

-- a part of a text up to its end
pub to_end : (text : List ℕ) (n : ℕ) → take (length text - n) (drop n text) ≡ drop n text
to_end text n = take_all (length text - n) (drop n text) (omega (arith, length-drop n text))

not_at : (c : ℕ) (cs : List ℕ) → tag_at c cs ≡ None → tags false (c ∷ cs) ≡ tags false cs
unfolding tags
not_at c cs e = ap (λ (o : Option SeenTag). elim o [ None ↦ tags false cs | Some tag ↦ tag ∷ tags true cs ]) e

pub at : (c : ℕ) (cs : List ℕ) (tag : SeenTag) → tag_at c cs ≡ Some tag → tags false (c ∷ cs) ≡ tag ∷ tags true cs
unfolding tags
at c cs tag e = ap (λ (o : Option SeenTag). elim o [ None ↦ tags false cs | Some tag ↦ tag ∷ tags true cs ]) e

pub no_less : (c : ℕ) (cs : List ℕ) → (c == 60) ≡ false → tags false (c ∷ cs) ≡ tags false cs
no_less c cs e = not_at c cs (ap (λ (b : Bool). if b && has_end cs then tag_after cs else None) e)

pub no_greater : (c : ℕ) (cs : List ℕ) → (c == 62) ≡ false → tags true (c ∷ cs) ≡ tags true cs
unfolding tags
no_greater c cs e = ap (λ (b : Bool). tags (not b) cs) e

pub at_greater : (c : ℕ) (cs : List ℕ) → (c == 62) ≡ true → tags true (c ∷ cs) ≡ tags false cs
unfolding tags
at_greater c cs e = ap (λ (b : Bool). tags (not b) cs) e

pub no_tags : tags false [] ≡ []
unfolding tags
no_tags = refl

-- a text without `<` has no tag
pub no_tag_opens : (hay : List ℕ) → IsFirstByte (is_byte 60) hay None → tags false hay ≡ []
no_tag_opens hay h = none_passes (tags false) (is_byte 60) no_less hay (λ i lt. h i (omega arith) lt) ∙ no_tags

-- and what stands before the first `<` is in none
pub tag_opens : (hay : List ℕ) (k : ℕ) → IsFirstByte (is_byte 60) hay (Some k) → tags false hay ≡ tags false (60 ∷ drop (k + 1) hay)
tag_opens hay k h =
    let is : get_or hay k 0 ≡ 60 = grind (arith, common_steps, h.1) in
    let front : drop k hay ≡ 60 ∷ drop (k + 1) hay = rw add-one (drop-cons hay k 0 h.0.high ∙ ap (λ (c : ℕ). c ∷ drop (suc k) hay) is) in
    skipped (tags false) (is_byte 60) no_less hay k (λ i lt. h.0.before i (omega arith) lt) ∙ ap (tags false) front

-- no tag stands before the first `<`
pub from_first : (hay : List ℕ) (k : ℕ) → IsFirstByte (is_byte 60) hay (Some k) → tags false (drop k hay) ≡ tags false hay
from_first hay k h = sym (skipped (tags false) (is_byte 60) no_less hay k (λ i lt. h.0.before i (omega arith) lt))

-- no name behind it
pub not_opened : (cs : List ℕ) → tag_after cs ≡ None → tags false (60 ∷ cs) ≡ tags false cs
not_opened cs e = not_at 60 cs (go (has_end cs))
  where
    go : (b : Bool) → (if true && b then tag_after cs else None) ≡ None
    go true = e
    go false = refl

or_false : (a b : Bool) → (a || b) ≡ false → b ≡ false
or_false true b h = absurd (true_false h)
  where
    true_false : true ≡ false → ⊥
    true_false e = cc
or_false false b h = h

-- without a `>` nothing is a tag
pub never_closed : (cs : List ℕ) → has_end cs ≡ false → tags false cs ≡ []
never_closed [] e = no_tags
never_closed (c ∷ cs) e =
    let rest : has_end cs ≡ false = or_false (c == 62) (has_end cs) e in
    not_at c cs (ap (λ (b : Bool). if (c == 60) && b then tag_after cs else None) rest ∙ neither (c == 60)) ∙ never_closed cs rest
  where
    neither : (b : Bool) → (if b && false then tag_after cs else None) ≡ None
    neither true = refl
    neither false = refl

pub unclosed : (cs : List ℕ) → has_end cs ≡ false → tags false (60 ∷ cs) ≡ []
unclosed cs e = not_at 60 cs (ap (λ (b : Bool). if true && b then tag_after cs else None) e) ∙ never_closed cs e

first_greater : (hay : List ℕ) (k : ℕ) → IsFirstByte (is_byte 62) hay (Some k) → drop k hay ≡ 62 ∷ drop (k + 1) hay
first_greater hay k h =
    let is : get_or hay k 0 ≡ 62 = grind (arith, common_steps, h.1) in
    rw add-one (drop-cons hay k 0 h.0.high ∙ ap (λ (c : ℕ). c ∷ drop (suc k) hay) is)

-- a tag goes on to the first `>`
pub closed : (hay : List ℕ) (k : ℕ) → IsFirstByte (is_byte 62) hay (Some k) → tags true hay ≡ tags false (drop (k + 1) hay)
closed hay k h =
    skipped (tags true) (is_byte 62) no_greater hay k (λ i lt. h.0.before i (omega arith) lt)
    ∙ (ap (tags true) (first_greater hay k h) ∙ at_greater 62 (drop (k + 1) hay) refl)

pub no_end : (c : ℕ) (cs : List ℕ) → (c == 62) ≡ false → has_end (c ∷ cs) ≡ has_end cs
no_end c cs e = ap (λ (b : Bool). b || has_end cs) e

pub has_no_end : (hay : List ℕ) → IsFirstByte (is_byte 62) hay None → has_end hay ≡ false
has_no_end hay h = none_passes has_end (is_byte 62) no_end hay (λ i lt. h i (omega arith) lt)

-- the tag that stands before a text, and those behind it
pub opened : (cs rest : List ℕ) (tag : SeenTag) → tag_after cs ≡ Some tag → has_end cs ≡ true → tags true cs ≡ tags false rest → tags false (60 ∷ cs) ≡ tag ∷ tags false rest
opened cs rest tag e end behind =
    at 60 cs tag (ap (λ (b : Bool). if true && b then tag_after cs else None) end ∙ e)
    ∙ ap (λ (ts : List SeenTag). tag ∷ ts) behind

letter_small : (x : ℕ) → is_ascii_alphanumeric x ≡ true → x < 128
letter_small x h = grind (arith, common_steps)

each_small : (text : List ℕ) → All (λ b. b < 128) (take_while is_ascii_alphanumeric text)
each_small [] = All-nil (λ (b : ℕ). b < 128)
each_small (x ∷ xs) = subst (All (λ (b : ℕ). b < 128)) (sym (take_while-cons is_ascii_alphanumeric x xs)) (go (is_ascii_alphanumeric x) refl (each_small xs))
  where
    go : (b : Bool) → is_ascii_alphanumeric x ≡ b → All (λ c. c < 128) (take_while is_ascii_alphanumeric xs) → All (λ c. c < 128) (cond b (x ∷ take_while is_ascii_alphanumeric xs) [])
    go true e h = All-cons (λ (c : ℕ). c < 128) x (take_while is_ascii_alphanumeric xs) (letter_small x e) h
    go false e h = All-nil (λ (c : ℕ). c < 128)

-- a name is ASCII
pub name_ascii : (text : List ℕ) (n : ℕ) → n ≡ prefix_len is_ascii_alphanumeric text → IsAscii (take n text)
name_ascii text n e = subst (λ (k : ℕ). IsAscii (take k text)) (sym e) (IsAscii-from_all (take_while is_ascii_alphanumeric text) (each_small text))
