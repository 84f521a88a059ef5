use Rattle.std.proofs.Common.{◌≡◌, ◌++◌, ◌∙◌, List, ap, refl}
use Rattle.hp_board.specs.declared.journal.Entry.{Entry}
use Rattle.hp_report.specs.Report.{chunk_count, counts_line}
use Rattle.hp_program.proofs.Drilled.{on_ok}
use Rattle.hp_program.proofs.modes.append_line.Goals as goal

pub returns : goal.returns
returns g c =
    let is = c.in_ok-tree.ensures.parsed in
    on_ok c.append_counts.result _ _ (λ e. (
      counts_line c.args.label.now (chunk_count c.args.division.cuts.now) c.in_ok-tree.journal.items,
      record {
        journal = c.in_ok-tree.journal.items;
        is = record { done = is.done; fair = is.fair; by = is.by; borne = is.borne };
        counts = refl;
      },
      e ∙ ap (λ (journal : List Entry). c.args.text.now.items ++ counts_line c.args.label.now (chunk_count c.args.division.cuts.now) journal) c.as_slice.ensures.value,
    )) c.append_counts.ensures
