use Rattle.std.proofs.Common.{refl}
use Rattle.std.specs.Str.{chars}
use Rattle.hp_fragment.proofs.Ended.{ran}
use Rattle.hp_fragment.specs.Making.{kind_of}
use Rattle.hp_fragment.specs.Known.{stage_of}
use Rattle.hp_fragment.proofs.known.Parsing+Nothing.behind.Goals as goal

pub returns-in-Ok-clause-ran : goal.returns-in-Ok-clause-ran
returns-in-Ok-clause-ran c =
    ran c.answers_over.ensures.own c.args.from.now (chars c.args.text.now) (kind_of c.args.sink) (stage_of c.in_ok-parsing.parsing) (stage_of c.run.new.self) refl c.in_ok-parsing.ensures.reads c.in-Ok.ensures.reads
