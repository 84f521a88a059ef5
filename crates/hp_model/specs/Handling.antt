-- The handling of one token (13.2.6).
use Rattle.std.specs.Prelude.{ℕ, ◌+◌, ◌*◌, false, ◌&&◌, if◌then◌else◌, List, [], ◌∷◌, length}
use Rattle.std.specs.Option.{unwrap_or}
use Rattle.hp_elements.specs.declared.token.Token.{Token}
use Rattle.hp_control.specs.States.{ControlState}
use Rattle.hp_model.specs.Rows.{turn}
use Rattle.hp_model.specs.Tokens.{is_line_feed, pieces}
use Rattle.hp_model.specs.Turns.{Handled, joined, left_by, turns, unchanged}

-- more turns than any token takes
abbrev pub bound : ControlState → ℕ
bound c = 32 + 16 * length c.stack

-- the turns of a token
abbrev pub all_turns : ControlState → Token → Handled
all_turns c t = unwrap_or (turns turn (bound c) t c) (unchanged c)

-- no line feed is skipped any more
abbrev pub settled : ControlState → ControlState
settled c = record c { skip_lf = false }

-- a line feed is dropped where one is to be skipped
abbrev pub handle_piece : ControlState → Token → Handled
handle_piece c t = if c.skip_lf && is_line_feed t then unchanged (settled c) else all_turns (settled c) t

-- tokens, one after the other
abbrev pub handle_all : ControlState → List Token → Handled
handle_all c [] = unchanged c
handle_all c (t ∷ ts) = let h = handle_piece c t in joined h (handle_all (left_by h) ts)

-- a token; of a run of characters each code point is handled by itself
abbrev pub handle : ControlState → Token → Handled
handle c t = handle_all c (pieces t)

-- tokens of the lexer, one after the other
abbrev pub handle_each : ControlState → List Token → Handled
handle_each c [] = unchanged c
handle_each c (t ∷ ts) = let h = handle c t in joined h (handle_each (left_by h) ts)
