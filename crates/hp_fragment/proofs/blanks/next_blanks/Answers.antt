use Rattle.hp_tokens.specs.Rows.{character}
use Rattle.std.specs.Prelude.{map}
use Rattle.hp_lexer.proofs.Direct.{tokens_at_once}
use Rattle.hp_fragment.proofs.NoNul.{blanks-none}
use Rattle.hp_fragment.proofs.blanks.next_blanks.Goals as goal

pub returns-in_ok-text-in-Data-clause-text : goal.returns-in_ok-text-in-Data-clause-text
returns-in_ok-text-in-Data-clause-text c = record {
  stepped = tokens_at_once c.args.lexer.now (record c.args.lexer.now { rested = c.data_blanks.new.rested }) c.args.input.now c.data_blanks.new.input c.in-Nothing.is c.in-Nothing.is
      c.args.lexer.now.lex.machine.state (map character c.in_ok-text-in-Data.text) c.in_ok-text-in-Data.ensures.turn;
  no_nul = blanks-none c.in_ok-text-in-Data.text c.in_ok-text-in-Data.ensures.blank;
  long = c.in_ok-text-in-Data.ensures.long;
}
