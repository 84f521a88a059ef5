-- The laws of the rules and of handling, on which the crates above stand.
use Rattle.std.specs.Prelude.{◌≡◌, ℕ, suc, Bool, false}
use Rattle.hp_elements.specs.Rules.{acts_for}
use Rattle.hp_elements.specs.Tokens.{kind_of}
use Rattle.hp_elements.specs.declared.token.Mode.{Mode}
use Rattle.hp_elements.specs.declared.token.Token.{Token}
use Rattle.hp_control.specs.States.{ControlState}
use Rattle.hp_rules_rest.specs.Foreign.{foreign}
use Rattle.hp_rules_rest.specs.Whole.{every_mode_rows}
use Rattle.hp_model.specs.Rows.{carry_acts, foreign_turn, mode_turn, nothing_more, rules}

-- the rules of a mode are the acts of its row for the token, one by one
abbrev pub ModeByActs : Type 0
ModeByActs =
    (depth : ℕ) (t : Token) (fostering : Bool) (m : Mode) (c : ControlState)
    → rules (suc depth) t fostering m c ≡ carry_acts (rules depth t) nothing_more fostering t 0 0 (acts_for (every_mode_rows m) (kind_of t)) c

-- and so are those of foreign content
abbrev pub ForeignByActs : Type 0
ForeignByActs =
    (t : Token) (c : ControlState)
    → foreign_turn t c ≡ carry_acts (rules 4 t) (mode_turn t c.mode) false t 0 0 (acts_for foreign (kind_of t)) c
