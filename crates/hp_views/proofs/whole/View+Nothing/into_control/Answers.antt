use Rattle.std.specs.Prelude.{true}
use Rattle.std.proofs.Common.{◌≡◌, ap, subst, sym, ◌∙◌}
use Rattle.hp_control.specs.States.{IsValid}
use Rattle.hp_views.specs.Begins.{form_left}
use Rattle.hp_views.specs.View.{split_of}
use Rattle.hp_views.proofs.Wholes.{ended_together, head_told, quirks_told}
use Rattle.hp_views.proofs.whole.View+Nothing.into_control.Goals.{in-Own, in-Kept, in-Cleared}
use Rattle.hp_views.proofs.whole.View+Nothing.into_control.Goals as goal

pub invariant_of-control : goal.invariant_of-control
invariant_of-control c =
    let left : c.match-change.form ≡ form_left c.end_with.new.change.form =
    elim c.match-change.branch [
      | in-Own w ↦ w.form-is ∙ ap form_left (sym w.in-Own.is)
      | in-Kept w ↦ w.form-is ∙ ap form_left (sym w.in-Kept.is)
      | in-Cleared w ↦ w.form-is ∙ ap form_left (sym w.in-Cleared.is)
    ] in
    subst IsValid (sym (ended_together c.args.lex true (split_of c.args.self) c.end_with.new.change c.unwrap_or-facts.result.head c.match-change.form c.unwrap_or-facts.result.quirks c.end_with.ensures (head_told c.args.self.page c.unwrap_or-facts.result c.unwrap_or-facts.ensures) left (quirks_told c.args.self.page c.unwrap_or-facts.result c.unwrap_or-facts.ensures))) c.requires.valid

pub returns-clause-state : goal.returns-clause-state
returns-clause-state c =
    let left : c.match-change.form ≡ form_left c.end_with.new.change.form =
    elim c.match-change.branch [
      | in-Own w ↦ w.form-is ∙ ap form_left (sym w.in-Own.is)
      | in-Kept w ↦ w.form-is ∙ ap form_left (sym w.in-Kept.is)
      | in-Cleared w ↦ w.form-is ∙ ap form_left (sym w.in-Cleared.is)
    ] in
    ended_together c.args.lex true (split_of c.args.self) c.end_with.new.change c.unwrap_or-facts.result.head c.match-change.form c.unwrap_or-facts.result.quirks c.end_with.ensures (head_told c.args.self.page c.unwrap_or-facts.result c.unwrap_or-facts.ensures) left (quirks_told c.args.self.page c.unwrap_or-facts.result c.unwrap_or-facts.ensures)
