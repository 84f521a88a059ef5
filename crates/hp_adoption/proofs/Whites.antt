-- Whether all code points of a text are white, one after the other.
use Rattle.std.proofs.Common.{◌≡◌, ℕ, true, false, ◌&&◌, List, [], ◌∷◌, ◌++◌, length, ap, sym, ◌∙◌}
use Rattle.std.specs.List.{list_all}
use Rattle.std.specs.Str.{chars, IsUtf8}
use Rattle.std.proofs.lemmas.Str.{chars-nil, chars_past_char, IsUtf8-past_char}
use lib.Utf8.{encode}
use Rattle.hp_control.specs.Composed.{is_white}

-- one more code point
module _ (bs rest : List ℕ) (c : ℕ) (u : IsUtf8 bs) (e : bs ≡ encode c ++ rest) where
  split_there : list_all is_white (chars bs) ≡ (is_white c && list_all is_white (chars rest))
  split_there = ap (list_all is_white) (chars_past_char bs rest c u e)

  pub white_there : is_white c ≡ true → list_all is_white (chars rest) ≡ list_all is_white (chars bs)
  white_there w = sym (split_there ∙ ap (λ b. b && list_all is_white (chars rest)) w)

  pub other_there : is_white c ≡ false → false ≡ list_all is_white (chars bs)
  other_there w = sym (split_there ∙ ap (λ b. b && list_all is_white (chars rest)) w)

  pub utf8_there : IsUtf8 rest
  utf8_there = IsUtf8-past_char bs rest c u e

-- the text ended
pub all_there : (bs : List ℕ) → length bs ≡ 0 → true ≡ list_all is_white (chars bs)
all_there [] e = sym (ap (list_all is_white) chars-nil)
all_there (b ∷ bs) e = cc
