use Rattle.hp_elements.proofs.Lowering.{same_lowered}
use Rattle.hp_elements.proofs.name.Name.same_without_case.Goals as goal

pub returns : goal.returns
returns c = same_lowered c.eq_ignore_ascii_case.result c.as_str.result.now c.as_str-2.result.now c.args.self.now c.args.other.now c.as_str.utf8 c.as_str-2.utf8 c.as_str.ensures c.as_str-2.ensures c.eq_ignore_ascii_case.ensures.test
