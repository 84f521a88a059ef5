use Rattle.std.proofs.Common.{◌≡◌, ap, sym, ◌∙◌}
use Rattle.hp_control.specs.Viewing.{state_of}
use Rattle.hp_views.specs.Begins.{form_of}
use Rattle.hp_views.proofs.Wholes.{begins_whole}
use Rattle.hp_views.proofs.whole.View+Nothing.whole.Goals.{in-Some, in-None}
use Rattle.hp_views.proofs.whole.View+Nothing.whole.Goals as goal

pub returns-clause-state : goal.returns-clause-state
returns-clause-state c =
    let i = c.control.inside in
    let made : c.match-form.form ≡ form_of i.form =
    elim c.match-form.branch [
      | in-Some w ↦ w.form-is ∙ ap form_of (sym w.in-Some.is)
      | in-None w ↦ w.form-is ∙ ap form_of (sym w.in-None.is)
    ] in
    begins_whole (state_of i.lex i.mode i.original i.templates i.stack i.formatting i.head i.form i.frameset_ok i.quirks i.pending i.skip_lf i.next) c.args.control c.match-form.form made c.control.view_is
