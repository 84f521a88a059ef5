-- Pending table characters, put into the tree as one text, and what it means that two ways do the same but for how texts are joined (13.2.6.4.10).
use Rattle.std.specs.Prelude.{◌≡◌, ℕ, Bool, true, false, List, [], ◌∷◌}
use Rattle.std.specs.List.{list_all}
use Rattle.hp_control.specs.declared.edit.Child.TheVariants as child
use Rattle.hp_control.specs.Acts.{put_here, frameset_not_ok, empty_pending}
use Rattle.hp_control.specs.Adoption.{reconstruct}
use Rattle.hp_control.specs.Composed.{is_white, flush}
use Rattle.hp_control.specs.Outcome.{Outcome, Act, and_then, nothing_done}
use Rattle.hp_control.specs.States.{ControlState}
use Rattle.hp_groves.specs.Joining.{JoinTexts}

-- the text where content goes that may not stand in a table
abbrev pub foster_whole : List ℕ → Act
foster_whole text = and_then (reconstruct true) (and_then (put_here true (child.Text text)) frameset_not_ok)

-- whether all of it is white
abbrev pub whole_by : List ℕ → Bool → Act
whole_by text true = put_here false (child.Text text)
whole_by text false = foster_whole text

abbrev pub put_whole : List ℕ → Act
put_whole [] = nothing_done
put_whole (c ∷ cs) = whole_by (c ∷ cs) (list_all is_white (c ∷ cs))

abbrev pub flush_at_once : Act
flush_at_once c = and_then empty_pending (put_whole c.pending) c

-- the same is left and touched, and the edits are the same but for how texts are joined
pub record MeansAs (o p : Outcome) : Type 0 where
  pub control : o.control ≡ p.control
  pub touched : o.touched ≡ p.touched
  pub spared : o.spared ≡ p.spared
  pub edits : JoinTexts o.edits p.edits

-- The pending characters at once are those one after the other, in each state.
abbrev pub FlushesAtOnce : Type 0
FlushesAtOnce = (c : ControlState) → MeansAs (flush_at_once c) (flush c)
