use Rattle.std.proofs.Common.{refl}
use Rattle.std.proofs.lemmas.Result.{on_ok_weaker}
use Rattle.hp_pieces.proofs.FromState.{named-ends}
use Rattle.hp_fragment.proofs.Ended.{ended}
use Rattle.hp_fragment.proofs.Stepping.{control-valid}
use Rattle.hp_fragment.specs.Known.{stage_of}
use Rattle.hp_fragment.proofs.known.Parsing+Nothing.end_input.Goals as goal

pub returns : goal.returns
returns c =
    let read = c.ends_of_text.ensures.read _ _ c.in_ok-tokens.tokens (c.in_ok-tokens.ensures 0) in
    on_ok_weaker c.handle_last.result
    (λ handled. ended c.at_once.ensures.token c.ends_of_text.ensures.handled c.answers_over.ensures.own (stage_of c.args.self.now) (stage_of c.handle_last.new.self) c.in_ok-tokens.tokens refl c.requires.over c.requires.valid
    (control-valid c.views_over.ensures.valid _ (stage_of c.args.self.now) c.requires.over) read.0 read.1
    (named-ends c.in_ok-from_state.field-0 c.args.self.now.lexer.lex c.args.self.now.lexer.lex c.in_ok-tokens.tokens c.in_ok-from_state.ensures.lexer refl c.in_ok-tokens.ensures) handled)
    c.handle_last.ensures
