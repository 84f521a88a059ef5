use Rattle.hp_tokens.specs.Rows.{plus, again, emitting_buffer}
use Rattle.hp_lex_raw.specs.Letters.{less_than, solidus}
use Rattle.hp_tokens.proofs.Told.{IfOk_then, follows_plus}
use Rattle.hp_lex_raw.proofs.rows.no_end_tag.Goals as goal

pub returns : goal.returns
returns c =
    let rest = emitting_buffer (again c.args.text) c.args.machine.now in
    IfOk_then c.buffer_emitted.result c.buffer_emitted.ensures (λ r f. follows_plus less_than (plus solidus rest) c.args.tokens.now c.push_char.new.tokens c.buffer_emitted.new.tokens c.buffer_emitted.new.machine r
    c.in_ok-push_char.ensures (follows_plus solidus rest c.push_char.new.tokens c.push_char-2.new.tokens c.buffer_emitted.new.tokens c.buffer_emitted.new.machine r c.in_ok-push_char-2.ensures f))
