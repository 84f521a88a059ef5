use Rattle.std.proofs.Common.{ap, sym, subst, ◌∙◌}
use Rattle.hp_control.specs.Faithful.{Split}
use Rattle.hp_control.specs.States.{ControlState, IsValid, lex_start}
use Rattle.hp_views.specs.View.{split_of}
use Rattle.hp_fragment.proofs.known.view_of.Goals as goal

pub returns-clause-over : goal.returns-clause-over
returns-clause-over c = c.view_begins.ensures.known (split_of c.whole.result) c.whole.ensures.stands (subst IsValid (sym c.whole.ensures.state) c.is_kept.ensures)

pub returns-clause-control : goal.returns-clause-control
returns-clause-control c = c.whole.ensures.state ∙ rw (c.replace.ensures.after, c.lex_start.ensures) (ap (λ (s : ControlState). record s { lex = lex_start }) (c.control.view_is ∙ c.in_ok-control.ensures))

pub returns-clause-edits : goal.returns-clause-edits
returns-clause-edits c = ap (λ (v : Split). v.edits) c.whole.ensures.whole
