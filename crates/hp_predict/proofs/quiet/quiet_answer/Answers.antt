use Rattle.std.proofs.Common.{ap, sym, ◌∙◌}
use Rattle.std.proofs.lemmas.Str.{chars-nil}
use Rattle.hp_control.specs.declared.question.Answer.TheVariants.{LastTag}
use Rattle.hp_predict.specs.Says.{quiet_fact, quiet_says}
use Rattle.hp_predict.proofs.quiet.quiet_answer.Goals as goal

pub returns-in_ok-from_text-in-LastTag : goal.returns-in_ok-from_text-in-LastTag
returns-in_ok-from_text-in-LastTag c =
    ap LastTag (c.in_ok-from_text-in-LastTag.ensures ∙ chars-nil) ∙ (ap quiet_fact (sym c.in-LastTag.is) ∙ ap quiet_says (sym c.in-Fact.is))
