use Rattle.hp_lex_tags.proofs.StraightParts.{begins_by}
use Rattle.hp_lex_tags.proofs.straight.begins.Goals as goal

pub returns-in-Some : goal.returns-in-Some
returns-in-Some g c = begins_by g.R.Run.passes g.met.R.Run.high c.args.input.now.text c.in-Some.byte c.passes.result c.passes.ensures c.in-Some.ensures
