use Rattle.std.proofs.Common.{◌≡◌, refl, sym, ◌∙◌}
use Rattle.std.specs.Prelude.{false}
use Rattle.hp_print.specs.Parts.{has_failed}
use Rattle.hp_print.proofs.GoingOn.{not-true, part-text}
use Rattle.hp_print.proofs.parts.render.Goals as goal

pub returns : goal.returns
returns c = record {
  ready = record { marks = c.print_some.ensures.ready.marks; list = c.print_some.ensures.ready.list };
  start = c.requires.start;
  text = λ whole.
      let held : has_failed c.flush.new.self ≡ false = sym c.has_failed.ensures ∙ not-true c.has_failed.result whole in
      part-text c.args.tree.now.branches _ c.print_some.new.printing c.flush.new.self _ _ _ _ _ _ _ c.clear.ensures (c.if-not-restart.ensures refl) c.print_some.ensures.printed c.flush.ensures.printed c.flush.ensures.empty held
      (c.copy_marks.ensures.items ∙ c.as_slice.ensures.value);
}
