use Rattle.std.proofs.Common.{sym, ◌∙◌}
use Rattle.hp_tokens.proofs.Texts.{has_none}
use Rattle.hp_fragment.proofs.AtText.{at-text}
use Rattle.hp_fragment.proofs.parsing.Parsing.is_at_text.Goals as goal

pub returns-then-is_of_text : goal.returns-then-is_of_text
returns-then-is_of_text g c = λ h.
    at-text c.args.self.now.lexer c.args.self.now.input c.front.result c.in-Nothing.is c.if-lex.false (has_none _ c.if-not-is_empty.ensures) (sym c.is_of_text.ensures ∙ c.if-is_of_text.true) c.front.ensures (sym c.begins_text.ensures ∙ h)
