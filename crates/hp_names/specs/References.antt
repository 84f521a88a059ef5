-- A named character reference, and a table of them in the order of their names (13.2.5.73).
use Rattle.std.specs.Prelude.{ℕ, ◌-◌, ◌==◌, ◌&&◌, ◌||◌, not, nat_lt, nat_le, Bool, true, false, List, [], ◌∷◌, length, Option, slice_index}
use Rattle.std.specs.List.{list_all}
use Rattle.hp_names.specs.Order.{is_upto}

-- a name without its ampersand, and the one or two code points that it stands for
pub record Reference : Type 0 where
  pub name : List ℕ
  pub first : ℕ
  pub second : Option ℕ

abbrev pub semicolon : ℕ
semicolon = 59

abbrev pub ends_with_semicolon : List ℕ → Bool
ends_with_semicolon name = nat_lt 0 (length name) && slice_index name (length name - 1) == semicolon

-- an ASCII letter; an ASCII letter or digit
abbrev pub is_letter : ℕ → Bool
is_letter c = (nat_le 65 c && nat_le c 90) || (nat_le 97 c && nat_le c 122)

abbrev pub is_letter_or_digit : ℕ → Bool
is_letter_or_digit c = is_letter c || (nat_le 48 c && nat_le c 57)

-- letters and digits, and then at most one semicolon
abbrev pub is_rest_of_name : List ℕ → Bool
is_rest_of_name [] = true
is_rest_of_name (c ∷ []) = is_letter_or_digit c || c == semicolon
is_rest_of_name (c ∷ d ∷ cs) = is_letter_or_digit c && is_rest_of_name (d ∷ cs)

-- a letter, letters and digits, and at most one semicolon at the end
abbrev pub is_name : List ℕ → Bool
is_name [] = false
is_name (c ∷ cs) = is_letter c && is_rest_of_name cs

-- each name comes after the one before it, so no name stands there twice
abbrev pub rises_after : Reference → List Reference → Bool
rises_after r [] = true
rises_after r (s ∷ rs) = not (is_upto s.name r.name) && rises_after s rs

abbrev pub rises : List Reference → Bool
rises [] = true
rises (r ∷ rs) = rises_after r rs

-- a lawful table: its names are names, and rise
abbrev pub is_table : List Reference → Bool
is_table rs = list_all (λ r. is_name r.name) rs && rises rs
