use Rattle.std.proofs.Common.{true, false, sym, ◌∙◌}
use Rattle.hp_elements.proofs.RespellingLemmas.{no_respelling, is_respelling}
use Rattle.hp_elements.proofs.name.Name.respelling.Goals as goal

pub returns-in-None : goal.returns-in-None
returns-in-None c = no_respelling c.args.table c.args.self.now (λ name e. c.in-None.ensures name (e ∙ sym c.as_str.ensures))

pub returns-then-has : goal.returns-then-has
returns-then-has c = is_respelling c.args.table c.args.self.now c.in-Some.known true (c.in-Some.ensures ∙ c.as_str.ensures) (sym c.has.ensures ∙ c.if-has.true)

pub returns-else-has : goal.returns-else-has
returns-else-has c = is_respelling c.args.table c.args.self.now c.in-Some.known false (c.in-Some.ensures ∙ c.as_str.ensures) (sym c.has.ensures ∙ c.if-has.false)
