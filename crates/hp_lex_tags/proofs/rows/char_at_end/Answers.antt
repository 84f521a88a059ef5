use Rattle.hp_tokens.specs.Rows.{ended}
use Rattle.hp_tokens.proofs.Told.{IfOk_then, follows_plus}
use Rattle.hp_lex_tags.proofs.rows.char_at_end.Goals as goal

pub returns : goal.returns
returns c =
    IfOk_then c.ended.result c.ended.ensures (λ r f. follows_plus c.args.c (ended c.args.machine.now) c.args.tokens.now c.push_char.new.tokens c.ended.new.tokens
    c.ended.new.machine r c.in_ok-push_char.ensures f)
