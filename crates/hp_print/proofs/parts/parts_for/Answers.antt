use Rattle.std.proofs.lemmas.List.Elements.{All-push}
use Rattle.hp_print.specs.Parts.{IsPart}
use Rattle.hp_print.proofs.parts.parts_for.Goals as goal

pub loop-preserved : goal.loop-preserved
loop-preserved c = rw c.in_ok-push.ensures.items (All-push (IsPart c.args.tree.now) c.loop.parts.items c.in_ok-part.part c.loop.invariant c.in_ok-part.ensures)
