-- Tokens that are handled one after the other, whatever handles them.
use Rattle.std.specs.Prelude.{◌≡◌, List, [], ◌∷◌, ◌++◌, Option, None, Some}
use Rattle.hp_elements.specs.declared.token.Rest.{Rest}
use Rattle.hp_elements.specs.declared.token.Token.{Token}
use Rattle.hp_control.specs.declared.edit.Edit.{Edit}
use Rattle.hp_control.specs.States.{ControlState}
use Rattle.hp_lexer.specs.Standing.{switched as lexer_switched}
use Rattle.hp_lexer.specs.declared.lexer.Lexer.{Lexer}
use Rattle.hp_tokens.specs.Moves.{Lexing}
use Rattle.hp_model.specs.Runs.{switched}
use Rattle.hp_model.specs.Turns.{Handled, left_by}

abbrev pub Handler : Type 0
Handler = ControlState → Token → Handled

-- the state that they leave, and their edits
abbrev pub left_after : Handler → ControlState → List Token → ControlState
left_after does c [] = c
left_after does c (t ∷ ts) = left_after does (left_by (does c t)) ts

abbrev pub made_after : Handler → ControlState → List Token → List Edit
made_after does c [] = []
made_after does c (t ∷ ts) = (does c t).outcome.edits ++ made_after does (left_by (does c t)) ts

-- the lexer, switched behind each token that calls for it
abbrev pub turned_by : Handler → ControlState → List Token → Lexing → Lexing
turned_by does c [] l = l
turned_by does c (t ∷ ts) l = turned_by does (left_by (does c t)) ts (switched (does c t).switch l)

-- the same of the lexer in code
abbrev pub turned : Option Rest → Lexer → Lexer
turned None l = l
turned (Some rest) l = lexer_switched rest l

abbrev pub lexer_after : Handler → ControlState → List Token → Lexer → Lexer
lexer_after does c [] l = l
lexer_after does c (t ∷ ts) l = lexer_after does (left_by (does c t)) ts (turned (does c t).switch l)

-- none of them switches the lexer
abbrev pub AreQuiet : Handler → ControlState → List Token → Type 0
AreQuiet does c [] = Unit {0}
AreQuiet does c (t ∷ ts) = ((does c t).switch ≡ None) × AreQuiet does (left_by (does c t)) ts
