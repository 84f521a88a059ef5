-- How a view begins and ends.
use Rattle.std.specs.Prelude.{◌≡◌, ℕ, Bool, true, false, not, [], Option, Some, None, Ok}
use Rattle.hp_elements.specs.declared.token.Mode.{Mode}
use Rattle.hp_elements.specs.declared.token.Mode.TheVariants as mode
use Rattle.hp_elements.specs.declared.token.Rest.TheVariants.{Data}
use Rattle.hp_tokens.specs.declared.lexing.LexState.{LexState}
use Rattle.hp_tokens.specs.Advancing.{rest_state}
use Rattle.hp_control.specs.declared.change.Change.{Change}
use Rattle.hp_control.specs.declared.change.FormChange.{FormChange}
use Rattle.hp_control.specs.declared.change.FormChange.TheVariants as form
use Rattle.hp_control.specs.declared.question.Question.{Question}
use Rattle.hp_control.specs.declared.question.Question.TheVariants as ask
use Rattle.hp_control.specs.declared.question.Answer.{Answer}
use Rattle.hp_control.specs.declared.question.Answer.TheVariants as answer
use Rattle.hp_control.specs.Faithful.{Page, Split}
use Rattle.hp_control.specs.Guessing.{Guessing, heard_by}
use Rattle.hp_control.specs.Outcome.{is_table_text}
use Rattle.hp_control.specs.Plan.{gives, asks, Runs}
use Rattle.hp_control.specs.States.{ControlState}

abbrev pub form_of : Option ℕ → FormChange
form_of None = form.Cleared
form_of (Some id) = form.Own id

abbrev pub form_left : FormChange → Option ℕ
form_left form.Kept = None
form_left form.Cleared = None
form_left (form.Own id) = Some id

abbrev pub head_of : Option Page → Option ℕ
head_of None = None
head_of (Some p) = p.head

abbrev pub quirks_of : Option Page → Bool
quirks_of None = false
quirks_of (Some p) = p.quirks

-- all of the state is the view's own
abbrev pub whole_change : ControlState → Change
whole_change c = record {
  popped = 0;
  cuts = 0;
  stack = c.stack;
  formatting = c.formatting;
  lex = c.lex;
  last_tag_set = true;
  mode = c.mode;
  original = c.original;
  templates = c.templates;
  form = form_of c.form;
  frameset_off = not c.frameset_ok;
  pending = c.pending;
  skip_lf = c.skip_lf;
  made = c.next;
}

abbrev pub page_facts : ControlState → Page
page_facts c = record { head = c.head; quirks = c.quirks }

abbrev pub whole_of : ControlState → Split
whole_of c = record { change = whole_change c; edits = []; older_text = false; page = Some (page_facts c) }

-- the state with that state of the lexer
abbrev pub with_lexer : LexState → ControlState → ControlState
with_lexer lex c = record c { lex = lex }

-- nothing is changed yet
abbrev pub begun : LexState → Mode → Option Mode → Bool → Change
begun lex m original skip_lf = record {
  popped = 0;
  cuts = 0;
  stack = [];
  formatting = [];
  lex = lex;
  last_tag_set = false;
  mode = m;
  original = original;
  templates = [];
  form = form.Kept;
  frameset_off = false;
  pending = [];
  skip_lf = skip_lf;
  made = 0;
}

-- the same where that was told at the start; where the lexer isn't at rest, as before the first token
abbrev pub begun_by : Answer → Change
begun_by (answer.Resting rest after_cr m original skip_lf) = begun (rest_state rest after_cr) m original skip_lf
begun_by _ = begun (rest_state Data false) mode.Initial None false

abbrev pub begins : Answer → Split
begins a = record { change = begun_by a; edits = []; older_text = is_table_text (begun_by a).mode; page = None }

-- what is told at the start was asked, and the view begins there
pub record Begins {P : Type 0} (says : P → Question → Answer) (old new : Guessing P) (v : Split) (a : Answer) : Type 0 where
  pub told : Runs (heard_by says old) (heard_by says new) (asks ask.Entry gives) (Ok a)
  pub begun : v ≡ begins a

-- the change at its end, with that state of the lexer
abbrev pub ended : LexState → Bool → Change → Change
ended lex is_set c = record c { lex = lex; last_tag_set = is_set }
