-- What the rules do with text before the first tag (13.2.6.4.1 to 13.2.6.4.7).
use Rattle.std.proofs.Common.{◌≡◌, ℕ, List, [], ◌∷◌, ◌++◌, refl}
use Rattle.std.specs.Prelude.{None}
use Rattle.hp_control.specs.Adoption.{turns as adoption_turns}
use Rattle.hp_elements.specs.Names.{known_of}
use lib.Utf8.{encode}
use Rattle.hp_elements.specs.declared.token.CharClass.{CharClass}
use Rattle.hp_elements.specs.declared.token.CharClass.TheVariants.{White, Other}
use Rattle.hp_elements.specs.declared.token.Token.{Token}
use Rattle.hp_elements.specs.declared.token.Token.TheVariants as token
use Rattle.hp_control.specs.States.{ControlState, start}
use Rattle.hp_control.specs.Tree.{Item, Text, applied_all, document}
use Rattle.hp_rules_rest.specs.Whole.{every_mode_rows}
use Rattle.hp_model.specs.Handling.{handle}
use Rattle.hp_model.specs.Rows.{rules, turn}
use Rattle.hp_model.specs.Turns.{left_by}
use Rattle.hp_runs.specs.Plain.{with_body}

abbrev pub letter : CharClass → ℕ → Token
letter class c = token.Characters class (c ∷ [])

-- the state after the first code point that isn't white
abbrev pub in_body : ControlState
in_body = left_by (handle start (letter Other 97))

pub record Leaves (c d : ControlState) (t : Token) : Type 0 where
  pub left : left_by (handle c t) ≡ d
  pub quiet : (handle c t).switch ≡ None

pub white-first : (x : ℕ) → Leaves start start (letter White x)
unfolding adoption_turns encode every_mode_rows known_of rules turn
white-first x = record { left = refl; quiet = refl }

pub white-drops : (x : ℕ) → (handle start (letter White x)).outcome.edits ≡ []
unfolding adoption_turns encode every_mode_rows known_of rules turn
white-drops x = refl

pub other-first : (x : ℕ) → Leaves start in_body (letter Other x)
unfolding adoption_turns encode every_mode_rows known_of rules turn
other-first x = record { left = refl; quiet = refl }

pub other-makes : (x : ℕ) → applied_all document (handle start (letter Other x)).outcome.edits ≡ with_body (Text (x ∷ []) ∷ [])
unfolding adoption_turns encode every_mode_rows known_of rules turn
other-makes x = refl

pub white-next : (x : ℕ) → Leaves in_body in_body (letter White x)
unfolding adoption_turns encode every_mode_rows known_of rules turn
white-next x = record { left = refl; quiet = refl }

pub other-next : (x : ℕ) → Leaves in_body in_body (letter Other x)
unfolding adoption_turns encode every_mode_rows known_of rules turn
other-next x = record { left = refl; quiet = refl }

pub white-adds : (x : ℕ) (text : List ℕ) → applied_all (with_body (Text text ∷ [])) (handle in_body (letter White x)).outcome.edits ≡ with_body (Text (text ++ x ∷ []) ∷ [])
unfolding adoption_turns encode every_mode_rows known_of rules turn
white-adds x text = refl

pub other-adds : (x : ℕ) (text : List ℕ) → applied_all (with_body (Text text ∷ [])) (handle in_body (letter Other x)).outcome.edits ≡ with_body (Text (text ++ x ∷ []) ∷ [])
unfolding adoption_turns encode every_mode_rows known_of rules turn
other-adds x text = refl

pub ends-quietly : (handle start token.EndOfInput).switch ≡ None
unfolding adoption_turns encode every_mode_rows known_of rules turn
ends-quietly = refl

pub ends-empty : applied_all document (handle start token.EndOfInput).outcome.edits ≡ with_body []
unfolding adoption_turns encode every_mode_rows known_of rules turn
ends-empty = refl

pub body-ends_quietly : (handle in_body token.EndOfInput).switch ≡ None
unfolding adoption_turns encode every_mode_rows known_of rules turn
body-ends_quietly = refl

pub body-ends : (items : List Item) → applied_all (with_body items) (handle in_body token.EndOfInput).outcome.edits ≡ with_body items
unfolding adoption_turns encode every_mode_rows known_of rules turn
body-ends items = refl
