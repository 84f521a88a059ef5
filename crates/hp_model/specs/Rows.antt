-- What a row does: as a plan, and act by act from a place on; the rules of a mode; and a turn, which begins with dispatch.
use Rattle.std.specs.Prelude.{ℕ, zero, suc, ◌+◌, nat_lt, Bool, true, false, if◌then◌else◌, List, [], ◌∷◌}
use Rattle.hp_elements.specs.Rules.{Plan, ends, ◌⨾◌, when, unless, plan_for}
use Rattle.hp_elements.specs.Tokens.{kind_of}
use Rattle.hp_elements.specs.declared.act.Act.{Act as RowAct}
use Rattle.hp_elements.specs.declared.act.Act.TheVariants as act
use Rattle.hp_elements.specs.declared.token.Mode.{Mode}
use Rattle.hp_elements.specs.declared.token.Mode.TheVariants as mode
use Rattle.hp_elements.specs.declared.token.Token.{Token}
use Rattle.hp_control.specs.Acts.{headed, touching}
use Rattle.hp_control.specs.Foreign.{is_foreign}
use Rattle.hp_control.specs.Outcome.{becomes}
use Rattle.hp_control.specs.States.{ControlState}
use Rattle.hp_rules_rest.specs.Foreign.{foreign}
use Rattle.hp_rules_rest.specs.Whole.{every_mode_rows}
use Rattle.hp_model.specs.Steps.{holds, step}
use Rattle.hp_model.specs.Tokens.{as_start}
use Rattle.hp_model.specs.Turns.{Handled, Turn, goes_on, done, again, before, and_then, as_part, plainly, unchanged, switching, stopping}

-- follow tells what the rules of a mode do, with fostering on or off; present, what those of the mode do in which the turn began
abbrev pub carry : (Bool → Mode → ControlState → Turn) → (ControlState → Turn) → Bool → Token → RowAct → ControlState → Turn
carry follow present fostering t act.Done c = done (unchanged c)
carry follow present fostering t act.Again c = again t (unchanged c)
carry follow present fostering t (act.AgainAs name) c = again (as_start name t) (unchanged c)
carry follow present fostering t (act.As m) c = as_part (follow fostering m c)
carry follow present fostering t (act.AsFostered m) c = as_part (follow true m c)
carry follow present fostering t act.AsPresent c = as_part (present c)
carry follow present fostering t act.Stop c = goes_on (stopping c)
carry follow present fostering t (act.Lexer rest) c = goes_on (switching rest c)
carry follow present fostering t other c = goes_on (plainly (step fostering t other c))

-- the plan of a row
abbrev pub carry_plan : (Bool → Mode → ControlState → Turn) → (ControlState → Turn) → Bool → Token → Plan → ControlState → Turn
carry_plan follow present fostering t ends c = goes_on (unchanged c)
carry_plan follow present fostering t (a ⨾ plan) c = and_then (carry follow present fostering t a c) (carry_plan follow present fostering t plan)
carry_plan follow present fostering t (when test plan rest) c = and_then (if holds t test c then carry_plan follow present fostering t plan c else goes_on (unchanged c)) (carry_plan follow present fostering t rest)
carry_plan follow present fostering t (unless test plan rest) c = and_then (if holds t test c then goes_on (unchanged c) else carry_plan follow present fostering t plan c) (carry_plan follow present fostering t rest)

-- where a row goes on after the act at a place
abbrev pub next_place : Token → RowAct → ControlState → ℕ → ℕ
next_place t (act.If test otherwise) c at = if holds t test c then at + 1 else otherwise
next_place t (act.Unless test otherwise) c at = if holds t test c then otherwise else at + 1
next_place t _ c at = at + 1

-- the acts of a row, of which the first stands at a place; those before the place next are passed over
abbrev pub carry_acts : (Bool → Mode → ControlState → Turn) → (ControlState → Turn) → Bool → Token → ℕ → ℕ → List RowAct → ControlState → Turn
carry_acts follow present fostering t at next [] c = goes_on (unchanged c)
carry_acts follow present fostering t at next (a ∷ acts) c =
    if nat_lt at next then carry_acts follow present fostering t (at + 1) next acts c
    else and_then (carry follow present fostering t a c) (carry_acts follow present fostering t (at + 1) (next_place t a c at) acts)

abbrev pub nothing_more : ControlState → Turn
nothing_more c = goes_on (unchanged c)

-- the rules of a mode, where those of others are used so many modes deep
unfoldable pub rules : ℕ → Token → Bool → Mode → ControlState → Turn
rules zero t fostering m c = goes_on (unchanged c)
rules (suc depth) t fostering m c = carry_plan (rules depth t) nothing_more fostering t (plan_for (every_mode_rows m) (kind_of t)) c

-- the rules of a mode for a token that isn't foreign content, and those of foreign content; no mode's rules use others more than four deep
abbrev pub mode_turn : Token → Mode → ControlState → Turn
mode_turn t m c = rules 4 t false m c

abbrev pub foreign_turn : Token → ControlState → Turn
foreign_turn t c = carry_plan (rules 4 t) (mode_turn t c.mode) false t (plan_for foreign (kind_of t)) c

-- the modes before the body
abbrev pub is_head_mode : Mode → Bool
is_head_mode mode.Initial = true
is_head_mode mode.BeforeHtml = true
is_head_mode mode.BeforeHead = true
is_head_mode mode.InHead = true
is_head_mode mode.InHeadNoscript = true
is_head_mode mode.AfterHead = true
is_head_mode _ = false

-- a token that is handled in a mode before the body touches what no chunk knows
abbrev pub entering : ControlState → Handled
entering c = plainly (if is_head_mode c.mode then touching headed (becomes c) else becomes c)

unfoldable pub turn : Token → ControlState → Turn
turn t c = before (entering c) (if is_foreign (kind_of t) c.stack then foreign_turn t c else mode_turn t c.mode c)
