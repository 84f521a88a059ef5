-- How a view stands over an older state, whichever it is, and which tokens may come to it.
use Rattle.std.specs.Prelude.{◌≡◌, ◌⊎◌, Bool, true, false, None}
use Rattle.hp_elements.specs.declared.token.Mode.{Mode}
use Rattle.hp_elements.specs.declared.token.Mode.TheVariants as mode
use Rattle.hp_elements.specs.declared.token.Token.{Token}
use Rattle.hp_control.specs.Apply.{IsOlder}
use Rattle.hp_control.specs.Faithful.{Split, StandsOn, state_over}
use Rattle.hp_control.specs.Nothing.{nothing}
use Rattle.hp_control.specs.States.{ControlState, IsValid}
use Rattle.hp_views.specs.Begins.{begun}
use Rattle.hp_model.specs.Growth.{IsInside}
use Rattle.hp_model.specs.Whole.{IsRead}
use Rattle.hp_older.specs.GoesOn.{GoesOn}

-- over s, an older state of a page, a view stands for a valid state that goes on from it
pub record IsChunk (s : ControlState) (v : Split) : Type 0 where
  pub stands : StandsOn s v
  pub unpaged : v.page ≡ None
  pub valid : IsValid (state_over v s)
  pub goes_on : GoesOn s (state_over v s)

-- the modes in which there is no html element yet (13.2.6.4.1, 13.2.6.4.2)
abbrev pub is_before_html : Mode → Bool
is_before_html mode.Initial = true
is_before_html mode.BeforeHtml = true
is_before_html _ = false

-- s is a state before the html element, and the view over it has changed nothing, but that a line feed may have been skipped
pub record IsBefore (s : ControlState) (v : Split) : Type 0 where
  pub older : IsOlder s
  pub early : is_before_html s.mode ≡ true
  pub unpaged : v.page ≡ None
  pub unchanged : v.change ≡ begun v.change.lex v.change.mode v.change.original v.change.skip_lf
  pub same : state_over v s ≡ record s { skip_lf = v.change.skip_lf }
  pub valid : IsValid (state_over v s)

-- nothing is older, and the view is a valid state
pub record IsKnown (s : ControlState) (v : Split) : Type 0 where
  pub nothing_older : s ≡ nothing
  pub stands : StandsOn s v
  pub valid : IsValid (state_over v s)

-- a view over s
pub data IsOver (s : ControlState) (v : Split) : Type 0 where
  of_chunk : IsChunk s v → IsOver s v
  before_html : IsBefore s v → IsOver s v
  of_known : IsKnown s v → IsOver s v

-- a token as the lexer reads it; the input ends only where nothing is older
pub record MayCome (s : ControlState) (t : Token) : Type 0 where
  pub read : IsRead t
  pub inside : IsInside t ⊎ (s ≡ nothing)
