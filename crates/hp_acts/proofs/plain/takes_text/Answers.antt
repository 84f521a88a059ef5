use Rattle.std.proofs.Common.{◌≡◌, ◌∙◌}
use Rattle.std.specs.Prelude.{◌&&◌, not}
use Rattle.hp_model.specs.Texts.{has_html_top, is_text_mode}
use Rattle.hp_acts.proofs.PlainRuns.{all_three, not_both, passes, stops}
use Rattle.hp_acts.proofs.plain.takes_text.Goals as goal
use Rattle.hp_acts.proofs.plain.takes_text.Goals.{then-not-view, else-not-view}

pub returns-then-is_text_mode : goal.returns-then-is_text_mode
returns-then-is_text_mode g c =
    let skip = c.args.view.now.change.skip_lf in
    let text = is_text_mode c.args.view.now.change.mode in
    let both : c.if-not-view.value ≡ (not skip && text) = elim c.if-not-view.branch [
      | then-not-view w ↦ passes skip text c.if-not-view.value w.if-not-view.true (w.value-is ∙ w.is_text_mode.ensures)
      | else-not-view w ↦ stops skip text c.if-not-view.value w.if-not-view.false w.value-is
    ] in
    c.is_in_html.ensures ∙ all_three skip text (has_html_top c.args.view.now.change.stack) c.if-not-view.value both c.if-is_text_mode.true

pub returns-else-is_text_mode : goal.returns-else-is_text_mode
returns-else-is_text_mode g c =
    let skip = c.args.view.now.change.skip_lf in
    let text = is_text_mode c.args.view.now.change.mode in
    let both : c.if-not-view.value ≡ (not skip && text) = elim c.if-not-view.branch [
      | then-not-view w ↦ passes skip text c.if-not-view.value w.if-not-view.true (w.value-is ∙ w.is_text_mode.ensures)
      | else-not-view w ↦ stops skip text c.if-not-view.value w.if-not-view.false w.value-is
    ] in
    not_both skip text (has_html_top c.args.view.now.change.stack) c.if-not-view.value both c.if-is_text_mode.false
