-- A text is compared with a word, one code point after another.
use Rattle.std.proofs.Common.{◌≡◌, ℕ, ◌+◌, ◌<◌, ◌≤◌, List, [], ◌∷◌, ◌++◌, cond, length, drop, refl, ap, ◌∙◌, sym, arith, get_or, suc, drop-cons, add-one, eq-eqb, drop_of_length-le, Bool}
use Rattle.std.specs.Prelude.{◌==◌}
use Rattle.std.specs.Str.{chars, IsUtf8}
use Rattle.std.proofs.lemmas.Bool.{ne_eqb}
use Rattle.std.proofs.lemmas.Str.{chars-nil, chars_past_char, IsUtf8-past_char}
use lib.Utf8.{encode}
use Rattle.hp_lex_markup.specs.declared.words.Progress.{Progress}
use Rattle.hp_lex_markup.specs.declared.words.Progress.TheVariants.{Whole, Front, Other}
use Rattle.hp_lex_markup.specs.Words.{folded, progress}

if_same : (a b : ℕ) (p : Progress) → a ≡ b → cond (a == b) p Other ≡ p
if_same a b p e = rw (eq-eqb a b e) refl

if_other : (a b : ℕ) (p : Progress) → (a ≡ b → ⊥) → cond (a == b) p Other ≡ Other
if_other a b p e = rw (ne_eqb a b e) refl

-- the word ended
pub whole_there : (fold : Bool) (text word : List ℕ) (at : ℕ) → at ≡ length word → progress fold text (drop at word) ≡ Whole
whole_there fold text word at e =
    let none : drop at word ≡ [] = drop_of_length-le word (omega (arith, e)) in
    ap (λ (ws : List ℕ). progress fold text ws) none

-- the text ended
pub front_there : (fold : Bool) (bs word : List ℕ) (at : ℕ) → length bs ≡ 0 → at < length word → progress fold (chars bs) (drop at word) ≡ Front
front_there fold [] word at e less =
    ap (λ (cs : List ℕ). progress fold cs (drop at word)) chars-nil ∙ (rw (drop-cons word at 0 less) refl)
front_there fold (b ∷ bs) word at e less = cc

-- one more code point, which is that of the word or another
module _ (fold : Bool) (bs rest word : List ℕ) (at c : ℕ) (u : IsUtf8 bs) (e : bs ≡ encode c ++ rest) (less : at < length word) where
  step_there : progress fold (chars bs) (drop at word) ≡ cond (folded fold c == get_or word at 0) (progress fold (chars rest) (drop (suc at) word)) Other
  step_there =
      ap (λ (cs : List ℕ). progress fold cs (drop at word)) (chars_past_char bs rest c u e)
      ∙ (rw (drop-cons word at 0 less) refl)

  pub same_there : folded fold c ≡ get_or word at 0 → progress fold (chars bs) (drop at word) ≡ progress fold (chars rest) (drop (at + 1) word)
  same_there same = rw add-one (step_there ∙ if_same (folded fold c) (get_or word at 0) _ same)

  pub other_there : (folded fold c ≡ get_or word at 0 → ⊥) → progress fold (chars bs) (drop at word) ≡ Other
  other_there other = step_there ∙ if_other (folded fold c) (get_or word at 0) _ other

  pub utf8_there : IsUtf8 rest
  utf8_there = IsUtf8-past_char bs rest c u e
