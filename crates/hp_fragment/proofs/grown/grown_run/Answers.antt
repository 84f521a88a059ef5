use Rattle.std.proofs.Common.{subst, sym}
use Rattle.hp_pieces.specs.Fragments.{IsRun}
use Rattle.hp_pieces.specs.declared.exact_parts.States.{States}
use Rattle.hp_fragment.proofs.SplitRuns.{split-run}
use Rattle.hp_fragment.proofs.grown.grown_run.Goals as goal

pub together-requires : goal.together-requires
together-requires c =
    let grove = c.in-Ok-grown.grove in
    let outer = c.in-Ok-grown.outer in
    record {
      run =
          subst (λ (states : States). IsRun (record { text = c.as_bytes.result.now; entry = states.entry; exit = states.exit; grove = grove; outer = outer })) (sym c.in-Ok.ensures.ok)
          (split-run c.guesses_grow.ensures.run (record { text = c.as_bytes.result.now; entry = c.args.entry; exit = c.args.exit; grove = grove; outer = outer }) c.args.text.now c.args.splitting c.args.rest
          c.as_bytes.ensures.value c.as_bytes.ensures.utf8 c.requires.valid c.in-Ok-grown.ensures c.requires.run);
    }
