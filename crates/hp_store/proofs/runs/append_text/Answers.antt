use Rattle.std.proofs.lemmas.List.{set-set}
use Rattle.hp_store.specs.declared.part.Leaf.TheVariants.{Run, Text}
use Rattle.hp_store.proofs.Texts.{set-read}
use Rattle.hp_store.proofs.runs.append_text.Goals as goal

pub returns-in-Some-clause-others : goal.returns-in-Some-clause-others
returns-in-Some-clause-others c =
    set-read c.args.leaves.now _ c.args.place (Text c.in-Some.runs) c.requires.place_in (set-set c.args.leaves.now c.args.place (Run c.extend_run.new.first) (Text c.in-Some.runs))
