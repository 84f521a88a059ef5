-- What a change makes of an older state, and where its edits point.
use Rattle.std.specs.Prelude.{ℕ, ◌+◌, ◌<◌, ◌≤◌, ◌^◌, Bool, not, ◌&&◌, if◌then◌else◌, ◌++◌, Option, Some, None, IfSome, map, drop, length, slice_get}
use Rattle.hp_tokens.specs.declared.lexing.LexState.{LexState}
use Rattle.hp_control.specs.declared.change.Change.{Change}
use Rattle.hp_control.specs.declared.change.FormChange.{FormChange}
use Rattle.hp_control.specs.declared.change.FormChange.TheVariants as form
use Rattle.hp_control.specs.declared.edit.Child.{Child}
use Rattle.hp_control.specs.declared.edit.Child.TheVariants as child
use Rattle.hp_control.specs.declared.edit.Edit.{Edit}
use Rattle.hp_control.specs.declared.edit.Edit.TheVariants.{NewElement, Put, Detach, MoveChildren, AddMissing}
use Rattle.hp_control.specs.declared.edit.Place.{Place}
use Rattle.hp_control.specs.declared.edit.Place.TheVariants.{Into, Foster}
use Rattle.hp_control.specs.declared.edit.Ref.{Ref}
use Rattle.hp_control.specs.declared.edit.Ref.TheVariants.{Fixed, Older, Own}
use Rattle.hp_control.specs.declared.element.OpenElement.{OpenElement}
use Rattle.hp_control.specs.declared.element.FormattingEntry.{FormattingEntry}
use Rattle.hp_control.specs.declared.element.FormattingEntry.TheVariants.{Marker, Element}
use Rattle.hp_control.specs.States.{ControlState, AreIds, IsId, PendingFits, entry_ids}
use Rattle.hp_control.specs.Walks.{cleared_by}

-- own ids count from this one on
abbrev pub shifted : ℕ → OpenElement → OpenElement
shifted from e = record e { id = from + e.id }

abbrev pub shifted_entry : ℕ → FormattingEntry → FormattingEntry
shifted_entry from Marker = Marker
shifted_entry from (Element id tag) = Element (from + id) tag

-- so counted, its id stays within 64 bits
abbrev pub IsShiftable : ℕ → FormattingEntry → Type 0
IsShiftable from Marker = Unit {0}
IsShiftable from (Element id tag) = from + id < 2 ^ 64

-- the form pointer after the change
abbrev pub form_after : FormChange → ControlState → Option ℕ
form_after form.Kept s = s.form
form_after form.Cleared s = None
form_after (form.Own number) s = Some (s.next + number)

-- the lexer of the change; where it told no start tag, the older last one stays
abbrev pub lex_after : Bool → LexState → LexState → LexState
lex_after is_set own older =
    if is_set then own else record own { machine = record own.machine { last_tag = older.machine.last_tag } }

-- the state after the change
abbrev pub applied : Change → ControlState → ControlState
applied c s = record {
  lex = lex_after c.last_tag_set c.lex s.lex;
  mode = c.mode;
  original = c.original;
  templates = c.templates ++ s.templates;
  stack = map (shifted s.next) c.stack ++ drop c.popped s.stack;
  formatting = map (shifted_entry s.next) c.formatting ++ cleared_by c.cuts s.formatting;
  head = s.head;
  form = form_after c.form s;
  frameset_ok = s.frameset_ok && not c.frameset_off;
  quirks = s.quirks;
  pending = s.pending ++ c.pending;
  skip_lf = c.skip_lf;
  next = s.next + c.made;
}

abbrev pub element_id : Option OpenElement → ℕ
element_id None = 0
element_id (Some e) = e.id

-- the node that a reference names, where the older state is s
abbrev pub named : ControlState → Ref → Ref
named s (Fixed id) = Fixed id
named s (Older depth) = Fixed (element_id (slice_get s.stack depth))
named s (Own number) = Fixed (s.next + number)

abbrev pub named_place : ControlState → Place → Place
named_place s (Into parent) = Into (named s parent)
named_place s (Foster table above) = Foster (named s table) (named s above)

abbrev pub named_child : ControlState → Child → Child
named_child s (child.Element node) = child.Element (named s node)
named_child s (child.Text text) = child.Text text
named_child s (child.Comment text) = child.Comment text
named_child s (child.Doctype parts) = child.Doctype parts

abbrev pub named_edit : ControlState → Edit → Edit
named_edit s (NewElement tag) = NewElement tag
named_edit s (Put what place) = Put (named_child s what) (named_place s place)
named_edit s (Detach node) = Detach (named s node)
named_edit s (MoveChildren from to) = MoveChildren (named s from) (named s to)
named_edit s (AddMissing node attributes) = AddMissing (named s node) attributes

-- a state that may stand below: that of a page, or that below a parser which starts from a known state
pub record IsOlder (s : ControlState) : Type 0 where
  pub short : length s.stack < 2 ^ 60
  pub next : s.next < 2 ^ 60
  pub entries : length s.formatting ≤ 2 ^ 26
  pub stack_ids : AreIds 0 s.next (map (λ e. e.id) s.stack)
  pub list_ids : AreIds 1 s.next (entry_ids s.formatting)
  pub form : IfSome s.form (IsId s.next)
  pub pending : PendingFits s.mode s.pending
