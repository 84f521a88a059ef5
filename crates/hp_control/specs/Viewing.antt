-- The control state of its parts.
use Rattle.std.specs.Prelude.{ℕ, Bool, List, Option}
use Rattle.hp_elements.specs.declared.token.Mode.{Mode}
use Rattle.hp_tokens.specs.declared.lexing.LexState.{LexState}
use Rattle.hp_control.specs.declared.element.OpenElement.{OpenElement}
use Rattle.hp_control.specs.declared.element.FormattingEntry.{FormattingEntry}
use Rattle.hp_control.specs.States.{ControlState}

abbrev pub state_of : LexState → Mode → Option Mode → List Mode → List OpenElement → List FormattingEntry → Option ℕ → Option ℕ → Bool → Bool → List ℕ → Bool → ℕ → ControlState
state_of lex mode original templates stack formatting head form frameset_ok quirks pending skip_lf next = record {
  lex = lex;
  mode = mode;
  original = original;
  templates = templates;
  stack = stack;
  formatting = formatting;
  head = head;
  form = form;
  frameset_ok = frameset_ok;
  quirks = quirks;
  pending = pending;
  skip_lf = skip_lf;
  next = next;
}
