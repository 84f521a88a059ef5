use Rattle.hp_tokens.specs.declared.state.State.TheVariants.{CdataSection}
use Rattle.hp_tokens.specs.Rows.{plus, again}
use Rattle.hp_lex_markup.specs.Letters.{right_bracket}
use Rattle.hp_tokens.proofs.Told.{IfOk_then, follows_plus}
use Rattle.hp_lex_markup.proofs.rows.no_section_end.Goals as goal

pub returns : goal.returns
returns c =
    IfOk_then c.bracket_emitted.result c.bracket_emitted.ensures (λ r f. follows_plus right_bracket (plus right_bracket (again CdataSection c.args.machine.now)) c.args.tokens.now c.push_char.new.tokens c.bracket_emitted.new.tokens
    c.bracket_emitted.new.machine r c.in_ok-push_char.ensures f)
