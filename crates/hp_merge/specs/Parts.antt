-- The parts of a state as a join changes them: what the chunk keeps of its own is laid on top, and then the rest is settled.
use Rattle.std.specs.Prelude.{◌≡◌, ℕ, ◌+◌, ◌<◌, ◌≤◌, ◌^◌, not, ◌&&◌, List, [], ◌++◌, Option, Some, None, All, drop, length, map, take}
use Rattle.hp_control.specs.declared.change.Change.{Change}
use Rattle.hp_control.specs.declared.change.FormChange.{FormChange}
use Rattle.hp_control.specs.declared.change.FormChange.TheVariants.{Kept, Cleared, Own}
use Rattle.hp_control.specs.Apply.{IsShiftable, lex_after, shifted, shifted_entry}
use Rattle.hp_control.specs.States.{ControlState}
use Rattle.hp_control.specs.Walks.{cleared_by}
use Rattle.hp_merge.specs.declared.parts.Parts.{Parts}

abbrev pub state_of : Parts → ControlState
state_of p = record {
  lex = p.lex;
  mode = p.mode;
  original = p.original;
  templates = p.templates;
  stack = p.stack;
  formatting = p.formatting;
  head = p.head;
  form = p.form;
  frameset_ok = p.frameset_ok;
  quirks = p.quirks;
  pending = p.pending;
  skip_lf = p.skip_lf;
  next = p.next;
}

-- so counted, the chunk's own ids stay within 64 bits
pub record AreCounted (next : ℕ) (c : Change) : Type 0 where
  pub elements : All (λ e. next + e.id < 2 ^ 64) c.stack
  pub entries : All (IsShiftable next) c.formatting

-- with the chunk's own elements and formatting entries
abbrev pub laid_others : Change → Parts → Parts
laid_others c p = record p { stack = map (shifted p.next) c.stack ++ p.stack; formatting = map (shifted_entry p.next) c.formatting ++ p.formatting }

-- and its own template modes
abbrev pub laid : Change → Parts → Parts
laid c p = record (laid_others c p) { templates = c.templates ++ p.templates }

-- so many of each stand there
pub record StandOnTop (c : Change) (p : Parts) : Type 0 where
  pub modes : length c.templates ≤ length p.templates
  pub elements : length c.stack ≤ length p.stack
  pub entries : length c.formatting ≤ length p.formatting

-- without as many as the chunk's own
abbrev pub taken_off : Change → Parts → Parts
taken_off c p = record p { templates = drop (length c.templates) p.templates; stack = drop (length c.stack) p.stack; formatting = drop (length c.formatting) p.formatting }

-- the pending characters with the own ones behind them, told where there are own ones
abbrev pub IsPending : List ℕ → List ℕ → Option (List ℕ) → Type 0
IsPending own older None = own ≡ []
IsPending own older (Some both) = both ≡ older ++ own

-- the form pointer after the change, where own elements count from this id on
abbrev pub form_over : ℕ → FormChange → Option ℕ → Option ℕ
form_over next Kept older = older
form_over next Cleared older = None
form_over next (Own number) older = Some (next + number)

abbrev pub IsFormCounted : ℕ → FormChange → Type 0
IsFormCounted next Kept = Unit {0}
IsFormCounted next Cleared = Unit {0}
IsFormCounted next (Own number) = next + number < 2 ^ 64

-- without the older elements and entries that the chunk took off, and with all that it set
abbrev pub settled : Change → Parts → Parts
settled c p = record {
  lex = lex_after c.last_tag_set c.lex p.lex;
  mode = c.mode;
  original = c.original;
  templates = p.templates;
  stack = take (length c.stack) p.stack ++ drop c.popped (drop (length c.stack) p.stack);
  formatting = take (length c.formatting) p.formatting ++ cleared_by c.cuts (drop (length c.formatting) p.formatting);
  head = p.head;
  form = form_over p.next c.form p.form;
  frameset_ok = p.frameset_ok && not c.frameset_off;
  quirks = p.quirks;
  pending = p.pending ++ c.pending;
  skip_lf = c.skip_lf;
  next = p.next + c.made;
}
