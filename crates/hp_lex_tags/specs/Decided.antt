-- References that are read at once.
use Rattle.std.specs.Prelude.{◌≡◌, ℕ, ◌+◌, ◌*◌, ◌==◌, Bool, true, false, List, [], ◌∷◌, ◌++◌, length, drop, Option}
use Rattle.std.specs.List.{list_all}
use Rattle.std.specs.Char.{is_digit, digit_value}
use Rattle.hp_names.specs.References.{Reference}
use Rattle.hp_tokens.specs.declared.state.State.TheVariants.{Data}
use Rattle.hp_tokens.specs.declared.state.Return.{Return}
use Rattle.hp_tokens.specs.declared.building.Building.{Building}
use Rattle.hp_tokens.specs.declared.building.Part.TheVariants.{Value}
use Rattle.hp_tokens.specs.declared.machine.Machine.{Machine}
use Rattle.hp_tokens.specs.Reading.{IsAsciiFront}
use Rattle.hp_tokens.specs.States.{enter, return_state, is_in_value}
use Rattle.hp_tokens.specs.Parts.{put}
use Rattle.hp_tokens.specs.Rows.{character}
use Rattle.hp_tokens.specs.Moves.{Lexing, makes, standing, move}
use Rattle.hp_tokens.specs.Runs.{Leads}
use Rattle.hp_lex_tags.specs.Rows.{capped}
use Rattle.hp_lex_tags.specs.Straight.{tagging_at}
use Rattle.hp_lex_tags.specs.Tags.{is_here, tag_rules}

-- what was read of a reference in the data state and is done with
abbrev pub at_data : Machine → Machine
at_data m = record m { state = Data; after_cr = false }

abbrev pub behind_reference : Machine → Machine
behind_reference m = enter Data (at_data m)

-- moves that emit nothing led to one in a state of this part, which emits that code point; it began at that place
pub record EmitsOne (names : List Reference) (old new : Lexing) (c place : ℕ) : Type 0 where
  pub mid : Lexing
  pub quiet : Leads (move (tag_rules names)) old [] mid
  pub inside : is_here mid.machine.state ≡ true
  pub last : move (tag_rules names) mid ≡ makes new (record { began = place; token = character c } ∷ [])

-- A reference behind its `&` that is decided whatever follows: the code point that it stands for, which is not U+0000, and how
-- many code points it has, which are ASCII. The rows emit that code point for it, or append it to an attribute's value.
pub record IsReference (names : List Reference) (text : List ℕ) (c length : ℕ) : Type 0 where
  pub ascii : IsAsciiFront length text
  pub some : (c == 0) ≡ false
  pub emits : (m : Machine) (place rested : ℕ) → EmitsOne names (standing (at_data m) place rested (38 ∷ text)) (standing (behind_reference m) (place + 1 + length) place (drop length text)) c place
  pub in_value : (back : Return) → is_in_value back ≡ true → (last : Option (List ℕ)) (b : Building) (place rested : ℕ)
      → Leads (move (tag_rules names)) (tagging_at last (return_state back) b place rested (38 ∷ text)) []
      (tagging_at last (return_state back) (put Value (c ∷ []) b) (place + 1 + length) rested (drop length text))

-- the value of digits, behind others of that value
abbrev pub number_of : ℕ → List ℕ → ℕ
number_of v [] = v
number_of v (d ∷ ds) = number_of (capped (v * 10 + digit_value d)) ds

abbrev pub is_decimal : ℕ → Bool
is_decimal c = is_digit c 10

-- Digits, a semicolon and one more code point: the value of the digits, and how many they are.
pub record IsDecimal (text : List ℕ) (value count : ℕ) : Type 0 where
  pub d : ℕ
  pub ds : List ℕ
  pub next : ℕ
  pub rest : List ℕ
  pub spelled : text ≡ (d ∷ ds) ++ (59 ∷ (next ∷ rest))
  pub digits : list_all is_decimal (d ∷ ds) ≡ true
  pub is : value ≡ number_of 0 (d ∷ ds)
  pub many : count ≡ length (d ∷ ds)
