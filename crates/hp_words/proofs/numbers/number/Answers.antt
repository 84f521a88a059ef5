use Rattle.std.proofs.Common.{rules, tests}
use Rattle.hp_words.proofs.NumberLemmas.{none_where_err}
use Rattle.hp_words.proofs.numbers.number.Goals as goal

pub returns-in_default : goal.returns-in_default
returns-in_default c =
    none_where_err c.args.low c.args.high c.args.text.now c.parse.result c.in_default.field-0 c.ranges.high.fits c.parse.ensures.value.0 (search (rules, tests)) c.in_default.is
