use Rattle.std.proofs.Common.{ap, sym, subst, ◌∙◌}
use Rattle.hp_control.specs.States.{ControlState}
use Rattle.hp_pieces.specs.Fragments.{IsEnd, Last}
use Rattle.hp_fragment.proofs.at_end.ending.Goals as goal

pub of_end-requires : goal.of_end-requires
of_end-requires c = record { end = subst (λ (s : ControlState). IsEnd (record { entry = s; edits = c.in_ok-edits.edits })) (sym c.in-Ok.ensures) c.in_ok-edits.ensures }

pub returns-in-Ok : goal.returns-in-Ok
returns-in-Ok c = ap (λ (end : Last). end.entry) c.of_end.ensures ∙ c.in-Ok.ensures
