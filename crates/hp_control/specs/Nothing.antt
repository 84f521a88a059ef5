-- The state below a parser that starts from a known state.
use Rattle.hp_control.specs.States.{ControlState, start}

-- its lists are empty, and own elements keep their ids
abbrev pub nothing : ControlState
nothing = record start { next = 0 }
