-- The control state: all that the tree builder knows (13.2.4). Stacks and lists have their top first.
use Rattle.std.specs.Prelude.{◌≡◌, ℕ, ◌<◌, ◌≤◌, ◌^◌, Bool, true, false, ◌==◌, ◌&&◌, ◌||◌, codes, List, [], ◌∷◌, length, map, count_by, All, Option, None, Some, IfSome, IsSome}
use Rattle.std.specs.Str.{bytes_eq}
use Rattle.std.specs.Char.{is_ascii_alphanumeric}
use Rattle.std.specs.List.{list_all}
use Rattle.hp_elements.specs.Names.{text_of}
use Rattle.hp_elements.specs.Kinds.{is_html as is_html_space}
use Rattle.hp_elements.specs.declared.known.Known.{Known}
use Rattle.hp_elements.specs.KnownNames as known
use Rattle.hp_elements.specs.declared.sets.Namespace.TheVariants.{Html}
use Rattle.hp_elements.specs.declared.sets.SetName.TheVariants.{Formatting}
use Rattle.hp_elements.specs.declared.token.Mode.{Mode}
use Rattle.hp_elements.specs.declared.token.Mode.TheVariants as mode
use Rattle.hp_elements.specs.declared.token.Rest.TheVariants.{Data}
use Rattle.hp_tokens.specs.declared.lexing.LexState.{LexState}
use Rattle.hp_tokens.specs.Rows.{resting}
use Rattle.hp_tokens.specs.States.{enter}
use Rattle.hp_tokens.specs.Valid.{has_token, is_front, is_front_without_case}
use Rattle.hp_tokens.specs.declared.state.State.{State}
use Rattle.hp_tokens.specs.declared.state.State.TheVariants.{MarkupDeclarationOpen, AfterDoctypeName, NamedCharacterReference}
use Rattle.hp_control.specs.declared.element.OpenElement.{OpenElement}
use Rattle.hp_control.specs.declared.element.FormattingEntry.{FormattingEntry}
use Rattle.hp_control.specs.declared.element.FormattingEntry.TheVariants.{Marker, Element}
use Rattle.hp_elements.specs.Sets.{in_set}

pub record ControlState : Type 0 where
  pub lex : LexState
  pub mode : Mode
  pub original : Option Mode
  pub templates : List Mode
  pub stack : List OpenElement
  pub formatting : List FormattingEntry
  pub head : Option ℕ
  pub form : Option ℕ
  pub frameset_ok : Bool
  pub quirks : Bool
  pub pending : List ℕ
  pub skip_lf : Bool
  pub next : ℕ

-- the lexer in the data state, before the first start tag
abbrev pub lex_start : LexState
lex_start = record { machine = record (resting Data false) { last_tag = Some [] }; ahead = [] }

-- the state before the first token
abbrev pub start : ControlState
start = record {
  lex = lex_start;
  mode = mode.Initial;
  original = None;
  templates = [];
  stack = [];
  formatting = [];
  head = None;
  form = None;
  frameset_ok = true;
  quirks = false;
  pending = [];
  skip_lf = false;
  next = 1;
}

abbrev pub is_html : OpenElement → Bool
is_html e = is_html_space e.namespace

-- the HTML element of that name
abbrev pub is_named : Known → OpenElement → Bool
is_named name e = is_html e && bytes_eq e.name (text_of name)

abbrev pub is_template : OpenElement → Bool
is_template = is_named known.Template

-- the first element is the HTML html, with id 1
abbrev pub is_rooted : List OpenElement → Bool
is_rooted [] = false
is_rooted (e ∷ []) = is_named known.Html e && e.id == 1
is_rooted (e ∷ f ∷ es) = is_rooted (f ∷ es)

-- there is more than one element, and the current node is HTML
abbrev pub is_tall : List OpenElement → Bool
is_tall [] = false
is_tall (e ∷ []) = false
is_tall (e ∷ f ∷ es) = is_html e

abbrev pub NothingOpen : ControlState → Type 0
NothingOpen s = (s.stack ≡ []) × (s.next ≡ 1)

abbrev pub StackFits : Mode → ControlState → Type 0
StackFits mode.Initial s = NothingOpen s
StackFits mode.BeforeHtml s = NothingOpen s
StackFits mode.Text s = (is_rooted s.stack ≡ true) × (is_tall s.stack ≡ true)
StackFits _ s = is_rooted s.stack ≡ true

-- a mode that text and in table text go back to
abbrev pub is_settled : Mode → Bool
is_settled mode.Initial = false
is_settled mode.BeforeHtml = false
is_settled mode.Text = false
is_settled mode.InTableText = false
is_settled _ = true

abbrev pub IsSettled : Option Mode → Type 0
IsSettled None = ⊥
IsSettled (Some m) = is_settled m ≡ true

abbrev pub OriginalFits : Mode → Option Mode → Type 0
OriginalFits mode.Text original = IsSettled original
OriginalFits mode.InTableText original = IsSettled original
OriginalFits _ original = original ≡ None

abbrev pub PendingFits : Mode → List ℕ → Type 0
PendingFits mode.InTableText pending = Unit {0}
PendingFits _ pending = pending ≡ []

abbrev pub is_template_mode : Mode → Bool
is_template_mode mode.InTemplate = true
is_template_mode mode.InTable = true
is_template_mode mode.InColumnGroup = true
is_template_mode mode.InTableBody = true
is_template_mode mode.InRow = true
is_template_mode mode.InBody = true
is_template_mode _ = false

-- none of the ids is that one
abbrev pub IsNew : ℕ → List ℕ → Type 0
IsNew x [] = Unit {0}
IsNew x (y ∷ ys) = (x ≡ y → ⊥) × IsNew x ys

-- the ids are above one number and below another, and none stands twice
abbrev pub AreIds : ℕ → ℕ → List ℕ → Type 0
AreIds low next [] = Unit {0}
AreIds low next (x ∷ xs) = (low < x) × (x < next) × IsNew x xs × AreIds low next xs

abbrev pub IsId : ℕ → ℕ → Type 0
IsId next id = (1 < id) × (id < next)

-- the ids of the entries that are no markers
abbrev pub entry_ids : List FormattingEntry → List ℕ
entry_ids [] = []
entry_ids (Marker ∷ es) = entry_ids es
entry_ids (Element id tag ∷ es) = id ∷ entry_ids es

-- an HTML formatting element, or a marker
abbrev pub IsFormatting : FormattingEntry → Type 0
IsFormatting Marker = Unit {0}
IsFormatting (Element id tag) = (tag.namespace ≡ Html) × (in_set Formatting tag.namespace tag.name ≡ true)

-- code points of which the lexer doesn't know yet what they mean (13.2.5.42, 13.2.5.56, 13.2.5.73)
abbrev pub may_be_ahead : State → List ℕ → Bool
may_be_ahead MarkupDeclarationOpen text =
    is_front text (codes "--") || (is_front_without_case text (codes "doctype") || is_front text (codes "[CDATA["))
may_be_ahead AfterDoctypeName text = is_front_without_case text (codes "public") || is_front_without_case text (codes "system")
may_be_ahead NamedCharacterReference text = list_all is_ascii_alphanumeric text
may_be_ahead _ text = bytes_eq text []

-- The machine has exactly the parts that its state uses: none that the state doesn't use, and the token that it does. Code points
-- are read ahead only where they are needed.
pub record LexFits (l : LexState) : Type 0 where
  pub parts : enter l.machine.state l.machine ≡ l.machine
  pub token : has_token l.machine.state l.machine.return_to l.machine.building ≡ true
  pub ahead : may_be_ahead l.machine.state l.ahead ≡ true
  pub last_tag : IsSome l.machine.last_tag

-- what holds between two tokens
pub record IsValid (s : ControlState) : Type 0 where
  pub stack_ids : AreIds 0 s.next (map (λ e. e.id) s.stack)
  pub list_ids : AreIds 1 s.next (entry_ids s.formatting)
  pub head : IfSome s.head (IsId s.next)
  pub form : IfSome s.form (IsId s.next)
  pub formatting : All IsFormatting s.formatting
  pub stack : StackFits s.mode s
  pub original : OriginalFits s.mode s.original
  pub pending : PendingFits s.mode s.pending
  pub template_modes : All (λ m. is_template_mode m ≡ true) s.templates
  pub templates : count_by is_template s.stack ≤ length s.templates
  pub lex : LexFits s.lex

-- the state of a page of a size that is read: ids and entries can be counted
pub record Fits (s : ControlState) : Type 0 where
  pub ids : s.next < 2 ^ 60
  pub entries : length s.formatting ≤ 2 ^ 26
