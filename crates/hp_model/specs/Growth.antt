-- How much tokens make: elements, and entries of the formatting list.
use Rattle.std.specs.Prelude.{ℕ, zero, suc, ◌+◌, ◌≤◌, List, [], ◌∷◌, length}
use Rattle.hp_elements.specs.declared.token.Mode.{Mode}
use Rattle.hp_elements.specs.declared.token.Mode.TheVariants as mode
use Rattle.hp_elements.specs.declared.token.Token.{Token}
use Rattle.hp_elements.specs.declared.token.Token.TheVariants as token
use Rattle.hp_tokens.specs.Moves.{Emitted}
use Rattle.hp_control.specs.Adoption.{stale}
use Rattle.hp_control.specs.States.{ControlState, IsValid}
use Rattle.hp_model.specs.Runs.{AreRead, Parser, built}

-- so many times
abbrev pub times : ℕ → ℕ → ℕ
times zero k = 0
times (suc n) k = k + times n k

-- one, unless it is characters
abbrev pub tag_count : Token → ℕ
tag_count (token.Characters class text) = 0
tag_count _ = 1

abbrev pub tags : List Emitted → ℕ
tags [] = 0
tags (e ∷ es) = tag_count e.token + tags es

-- it isn't the end of input
abbrev pub IsInside : Token → Type 0
IsInside token.EndOfInput = ⊥
IsInside _ = Unit {0}

abbrev pub AreInside : List Emitted → Type 0
AreInside [] = Unit {0}
AreInside (e ∷ es) = IsInside e.token × AreInside es

-- how far a mode is from those in which characters are not handled again
abbrev pub steps_left : Mode → ℕ
steps_left mode.Initial = 10
steps_left mode.BeforeHtml = 9
steps_left mode.BeforeHead = 8
steps_left mode.InHeadNoscript = 7
steps_left mode.InHead = 6
steps_left mode.AfterHead = 5
steps_left mode.InColumnGroup = 2
steps_left mode.InTable = 1
steps_left mode.InTableBody = 1
steps_left mode.InRow = 1
steps_left mode.AfterBody = 1
steps_left mode.AfterAfterBody = 1
steps_left _ = 0

-- the ids that are used, those that reconstruction would use at once, and for each step that is left as many as the list may hold
abbrev pub worth : ℕ → ControlState → ℕ
worth most c = c.next + (stale c.stack c.formatting + times (steps_left c.mode) (most + 1))

-- what a token that isn't characters adds to it
abbrev pub share : ℕ → ℕ
share most = times 11 (most + 64) + (most + times 10 (most + 1))

-- after so many tokens that aren't characters, where the list has at most so many entries
pub record Grows (most count : ℕ) (c d : ControlState) : Type 0 where
  pub worth : worth most d ≤ worth most c + times count (share most)
  pub entries : length d.formatting ≤ length c.formatting + count

-- each token but characters brings at most one entry, and characters none; and ids are used within those bounds
abbrev pub BuiltGrows : Type 0
BuiltGrows = (most : ℕ) (es : List Emitted) (p : Parser) → AreRead es → AreInside es → IsValid p.control → length p.control.formatting + tags es ≤ most
    → Grows most (tags es) p.control (built p es).parser.control
