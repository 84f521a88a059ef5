use Rattle.std.proofs.Common.{[], ◌++◌, refl, sym, ap, ◌∙◌, append-nil}
use Rattle.std.specs.Prelude.{encode_utf8_all}
use Rattle.std.specs.List.{concat}
use Rattle.hp_print.proofs.Pieces.{prints_then, prints_none, prints_as}
use Rattle.hp_print.proofs.Lists.{runs_next}
use Rattle.hp_print.proofs.items.print_runs.Goals as goal

pub loop-run-init : goal.loop-run-init
loop-run-init g c = ([], prints_none _ _, rw (c.into_iter-run-iterator.ensures.into_iter_gives, c.iter-run-items.ensures) refl)

pub loop-run-preserved : goal.loop-run-preserved
loop-run-preserved g c =
    let i = c.loop-run.invariant in
    let run = c.in-Some.run'.now in (
      i.0 ++ encode_utf8_all run,
      prints_then _ _ _ _ _ _ _ _ i.1 (rw c.as_str.ensures at c.put_text.ensures),
      runs_next i.0 run c.next.new.self ∙ ap (λ xs. i.0 ++ encode_utf8_all (concat xs)) (sym c.in-Some.ensures.steps) ∙ i.2,
    )

pub returns : goal.returns
returns g c =
    let i = c.loop-run.invariant in
    prints_as _ _ _ _ _ _ i.1 (sym (append-nil i.0) ∙ ap (λ xs. i.0 ++ encode_utf8_all (concat xs)) (sym c.in-None.ensures.steps.0) ∙ i.2)
