use Rattle.std.proofs.Common.{sym, arith}
use Rattle.hp_tokens.specs.Plain.{none_of, attribute_name_stops}
use Rattle.hp_lex_tags.proofs.NameRuns.{pass_more, passes_between}
use Rattle.hp_lex_tags.proofs.attribute_name.end_from.Goals as goal

pub loop-end-preserved : goal.loop-end-preserved
loop-end-preserved c =
    (omega arith, omega arith, pass_more (none_of attribute_name_stops) c.args.bytes.now c.args.at c.loop-end.end c.loop-end.invariant.2 (sym c.if-not-passes.ensures))

pub returns-then-not-passes : goal.returns-then-not-passes
returns-then-not-passes c =
    passes_between (none_of attribute_name_stops) c.args.bytes.now c.args.at c.loop-end.end (omega arith) (omega arith) c.loop-end.invariant.2 (λ lt. sym c.if-not-passes.ensures)

pub returns : goal.returns
returns c =
    passes_between (none_of attribute_name_stops) c.args.bytes.now c.args.at c.loop-end.end (omega arith) (omega arith) c.loop-end.invariant.2 (λ lt. absurd (omega (arith, lt)))
