-- The control state that is guessed for a chunk, from the tags of the text before it and of its own text.
use Rattle.std.specs.Prelude.{ℕ, suc, ◌-◌, Bool, true, false, not, ◌==◌, ◌&&◌, if◌then◌else◌, nat_le, nat_lt, List, [], ◌∷◌, ◌++◌, length, drop, slice_index, Option, None, Some}
use Rattle.std.specs.Option.{is_some, unwrap_or}
use Rattle.std.specs.Str.{bytes_eq}
use Rattle.hp_elements.specs.Names.{text_of}
use Rattle.hp_elements.specs.RawText.{raw_text_of}
use Rattle.hp_elements.specs.Sets.{in_set}
use Rattle.hp_elements.specs.declared.kinds.Point.TheVariants as point
use Rattle.hp_elements.specs.KnownNames as known
use Rattle.hp_elements.specs.declared.sets.Namespace.TheVariants.{Html}
use Rattle.hp_elements.specs.declared.sets.SetName.TheVariants.{Formatting, Markers}
use Rattle.hp_elements.specs.declared.token.Mode.{Mode}
use Rattle.hp_elements.specs.declared.token.Mode.TheVariants as mode
use Rattle.hp_elements.specs.declared.token.Rest.TheVariants.{Data}
use Rattle.hp_tokens.specs.Rows.{resting}
use Rattle.hp_tokens.specs.declared.lexing.LexState.{LexState}
use Rattle.hp_control.specs.States.{ControlState}
use Rattle.hp_control.specs.Walks.{reset_mode}
use Rattle.hp_control.specs.declared.element.OpenElement.{OpenElement}
use Rattle.hp_control.specs.declared.element.FormattingEntry.{FormattingEntry}
use Rattle.hp_control.specs.declared.element.FormattingEntry.TheVariants.{Marker, Element}
use Rattle.hp_predict.specs.Tags.{counted_tags}
use Rattle.hp_predict.specs.OpenNames.{Names, is_name, after, unmatched}

-- whether a byte of UTF-8 goes on with a code point
abbrev pub continues : ℕ → Bool
continues byte = nat_le 128 byte && nat_lt byte 192

-- a text from its first start of a code point on
abbrev pub from_start : List ℕ → List ℕ
from_start [] = []
from_start (byte ∷ bytes) = if continues byte then from_start bytes else byte ∷ bytes

-- the last 4,096 bytes of a text, or all of it
abbrev pub last_bytes : List ℕ → List ℕ
last_bytes text = drop (length text - 4096) text

-- these from the first start of a code point on
abbrev pub last_part : List ℕ → List ℕ
last_part text = from_start (last_bytes text)

-- names in which end tags are looked for in order, each from the name after the one before on; one that isn't found stands behind them
unfoldable pub with_ends : Names → Names → Names
with_ends [] ends = ends
with_ends (name ∷ names) [] = name ∷ names
with_ends (name ∷ names) (end ∷ ends) = name ∷ with_ends names (if bytes_eq name end then ends else end ∷ ends)

-- the names of the stack, the current node's first
abbrev pub names_for : List ℕ → List ℕ → Names
names_for before text =
    with_ends (after (counted_tags (last_part before)) []) (unmatched (counted_tags text) [])
    ++ text_of known.Body ∷ text_of known.Html ∷ []

-- an HTML element of that name
abbrev pub element : ℕ → List ℕ → OpenElement
element id name = record { id = id; namespace = Html; name = name; point = point.No }

-- the elements of those names, numbered from the last one on
unfoldable pub elements : Names → List OpenElement
elements [] = []
elements (name ∷ names) = element (suc (length names)) name ∷ elements names

-- the entry that an element of that name has: a formatting element has one without attributes, and some others have a marker
abbrev pub entry : ℕ → List ℕ → List FormattingEntry
entry id name =
    if in_set Formatting Html name then Element id (record { namespace = Html; name = name; attributes = [] }) ∷ []
    else if in_set Markers Html name then Marker ∷ []
    else []

-- the entries of the elements of those names
unfoldable pub entries : Names → List FormattingEntry
entries [] = []
entries (name ∷ names) = entry (suc (length names)) name ++ entries names

-- a template mode for each template
unfoldable pub template_modes : Names → List Mode
template_modes [] = []
template_modes (name ∷ names) = if is_name known.Template name then mode.InTemplate ∷ template_modes names else template_modes names

abbrev pub first_of : Option ℕ → Option ℕ → Option ℕ
first_of None other = other
first_of (Some id) other = Some id

-- the form that is nearest to the first element
unfoldable pub first_form : Names → Option ℕ
first_form [] = None
first_form (name ∷ names) = first_of (first_form names) (if is_name known.Form name then Some (suc (length names)) else None)

-- the mode to which the insertion mode is reset where those elements are open and the head pointer is set
abbrev pub mode_for : List Mode → List OpenElement → Mode
mode_for templates stack = reset_mode true templates stack

-- whether the text of an element of that name is read in the mode text
abbrev pub is_text : List ℕ → Bool
is_text name = is_some (raw_text_of name) && not (is_name known.Plaintext name)

-- the name of the current node
abbrev pub top : Names → List ℕ
top [] = []
top (name ∷ names) = name

abbrev pub rest_of_names : Names → Names
rest_of_names [] = []
rest_of_names (name ∷ names) = names

-- the lexer in the state for the text of an element of that name, which it read last
abbrev pub lex_for : Bool → List ℕ → LexState
lex_for after_cr name = record {
  machine = record (resting (unwrap_or (raw_text_of name) Data) after_cr) { last_tag = Some name };
  ahead = [];
}

-- the state in which the elements of these names are open
abbrev pub state_for : Bool → Names → ControlState
state_for after_cr names = record {
  lex = lex_for after_cr (top names);
  mode = if is_text (top names) then mode.Text else mode_for (template_modes names) (elements names);
  original = if is_text (top names) then Some (mode_for (template_modes names) (elements (rest_of_names names))) else None;
  templates = template_modes names;
  stack = elements names;
  formatting = entries names;
  head = Some (suc (length names));
  form = first_form names;
  frameset_ok = false;
  quirks = false;
  pending = [];
  skip_lf = false;
  next = suc (suc (length names));
}

-- whether the last byte of a text is CR
abbrev pub ends_in_cr : List ℕ → Bool
ends_in_cr text = slice_index text (length text - 1) == 13

-- the state that is guessed for a chunk
abbrev pub guessed : List ℕ → List ℕ → ControlState
guessed before text = state_for (ends_in_cr before) (names_for before text)
