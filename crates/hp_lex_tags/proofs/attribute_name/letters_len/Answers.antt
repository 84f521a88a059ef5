use Rattle.std.proofs.Common.{arith}
use Rattle.hp_lex_tags.proofs.NameRuns.{high_within, high_pass}
use Rattle.hp_lex_tags.proofs.attribute_name.letters_len.Goals as goal

pub returns-then-bytes-at-lt-LANES-clause-pass : goal.returns-then-bytes-at-lt-LANES-clause-pass
returns-then-bytes-at-lt-LANES-clause-pass c = λ k from to. absurd (omega (arith, from, to))

pub returns-clause-within : goal.returns-clause-within
returns-clause-within c = high_within c.args.bytes.now c.args.at c.first_set.result c.low.result (omega arith) c.type_inv.bytes c.low.ensures c.first_set.ensures

pub returns-clause-pass : goal.returns-clause-pass
returns-clause-pass c = high_pass c.args.bytes.now c.args.at c.first_set.result c.low.result (omega arith) c.type_inv.bytes c.low.ensures c.first_set.ensures
