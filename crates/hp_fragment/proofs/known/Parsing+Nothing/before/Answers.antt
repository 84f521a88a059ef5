use Rattle.std.proofs.Common.{ap, ◌∙◌}
use Rattle.std.specs.Prelude.{◌^◌}
use Rattle.std.specs.Str.{chars}
use Rattle.hp_names.specs.BuiltIn.{built_in}
use Rattle.hp_tokens.specs.declared.lexing.LexState.{LexState}
use Rattle.hp_control.specs.States.{ControlState}
use Rattle.hp_lexer.specs.declared.lexer.Asked.TheVariants as asked
use Rattle.hp_fragment.proofs.Ended.{begins}
use Rattle.hp_fragment.specs.Known.{stage_of}
use Rattle.hp_fragment.proofs.known.Parsing+Nothing.before.Goals as goal

pub returns-in-Ok-view_of-clause-reads : goal.returns-in-Ok-view_of-clause-reads
returns-in-Ok-view_of-clause-reads c =
    begins c.comes_on.ensures.text_begins c.args.from.now (chars c.args.text.now) (stage_of _) c.requires.valid
    (c.in-Ok.ensures.lexer ∙ ap (λ (l : LexState). record { lex = l; names = built_in; asked = asked.Nothing; rested = 2 ^ 32 }) (ap (λ (s : ControlState). s.lex) c.from.view_is)) c.in-Ok.ensures.held c.of_str.ensures
    c.in-Ok-view_of.ensures.over c.in-Ok-view_of.ensures.control c.in-Ok-view_of.ensures.edits c.requires.empty
