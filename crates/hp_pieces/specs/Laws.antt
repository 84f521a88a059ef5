-- The laws of runs from known states and of ends of input.
use Rattle.std.specs.Prelude.{◌≡◌, ℕ, List, [], ◌++◌, length, true}
use Rattle.std.specs.Option.{is_some}
use Rattle.hp_elements.specs.declared.token.Token.{Token}
use Rattle.hp_names.specs.BuiltIn.{built_in}
use Rattle.hp_names.specs.References.{Reference}
use Rattle.hp_tokens.specs.Advancing.{AreRuns, Ends as EndsText, singles}
use Rattle.hp_tokens.specs.Moves.{Lexing, asks_last_tag, move, needs_more}
use Rattle.hp_control.specs.declared.edit.Edit.{Edit}
use Rattle.hp_control.specs.States.{ControlState, IsValid, may_be_ahead, start}
use Rattle.hp_control.specs.Truth.{rest_of}
use Rattle.hp_control.specs.Tree.{Tree, applied_all, document}
use Rattle.hp_groves.specs.Laws.{HasOnlyWhatIsThere}
use Rattle.hp_groves.specs.Split.{name_what_is_there}
use Rattle.hp_groves.specs.Joining.{JoinTexts}
use Rattle.hp_lexer.specs.Table.{table}
use Rattle.hp_model.specs.Handling.{handle}
use Rattle.hp_model.specs.Runs.{EndsWith, Goes, Parser, followed_by, step}
use Rattle.hp_runs.specs.Pages.{IsTreeOf, Runs}
use Rattle.hp_runs.specs.Tokens.{AllRead}
use Rattle.hp_runs.specs.Handling.{made_after}
use Rattle.hp_control.specs.Holds.{Holds}
use Rattle.hp_pieces.specs.Guesses.{Guessed, IsSound, covered_text, state_behind, tree_behind}
use Rattle.hp_pieces.specs.Running.{Ends, Leads, parser_in}
use Rattle.hp_pieces.specs.Waiting.{MayStand, Waits}

-- from each state there is a run over each text
abbrev pub LeadsExist : Type 0
LeadsExist = (names : List Reference) (text : List ℕ) (s : ControlState) → (es : List Edit) × (t : ControlState) × Leads names text s es t

-- and one alone, but for how the texts of its edits are joined
abbrev pub LeadsOnce : Type 0
LeadsOnce = (names : List Reference) (text : List ℕ) (s t u : ControlState) (es fs : List Edit) → Leads names text s es t → Leads names text s fs u → (t ≡ u) × JoinTexts es fs

-- from a valid state it leads to a valid one
abbrev pub LeadsValid : Type 0
LeadsValid = (text : List ℕ) (s t : ControlState) (es : List Edit) → Leads built_in text s es t → IsValid s → IsValid t

-- the run over two texts in a row
abbrev pub LeadsJoin : Type 0
LeadsJoin = (names : List Reference) (a b : List ℕ) (s m t : ControlState) (es fs : List Edit) → Leads names a s es m → Leads names b m fs t → Leads names (a ++ b) s (es ++ fs) t

-- the run over a page, and the end of input behind it, build the page's tree
abbrev pub PageBuilt : Type 0
PageBuilt = (names : List Reference) (page : List ℕ) (t : ControlState) (es fs : List Edit) → Leads names page start es t → Ends names t fs → IsTreeOf names page (applied_all document (es ++ fs))

-- along a run from a valid state the last start tag's name is never asked
abbrev pub NeverAsked : Type 0
NeverAsked = (text : List ℕ) (s : ControlState) (p : Parser) (es : List Edit) → IsValid s → Goes (step (table built_in)) (followed_by (parser_in s) text) es p
    → move (table built_in) p.lexing ≡ asks_last_tag → ⊥

-- it rests only where more text is needed
abbrev pub RestsForMore : Type 0
RestsForMore = (text : List ℕ) (s : ControlState) (p : Parser) (es : List Edit) → IsValid s → Runs built_in (parser_in s) text es p → move (table built_in) p.lexing ≡ needs_more

-- the tokens of the end of input are as the lexer reads them
abbrev pub EndsRead : Type 0
EndsRead = (names : List Reference) (l : Lexing) (tokens : List Token) → EndsText (table names) l [] tokens → AllRead tokens × AreRuns tokens

-- Handled one behind the other they are the end of the run, whatever they call for: none but the last move emits others than characters, and behind that nothing is read.
abbrev pub EndsHandled : Type 0
EndsHandled = (names : List Reference) (l : Lexing) (c : ControlState) (tokens : List Token) → may_be_ahead l.machine.state l.unread ≡ true → EndsText (table names) l [] tokens
    → EndsWith (table names) (record { lexing = l; control = c }) (made_after handle c (singles tokens))

-- the state before a page waits
abbrev pub StartWaits : Type 0
StartWaits = (names : List Reference) → Waits names start

-- and so does each that a run leads to from a valid one
abbrev pub RunsWait : Type 0
RunsWait = (text : List ℕ) (s t : ControlState) (es : List Edit) → Leads built_in text s es t → IsValid s → Waits built_in t

-- and so does each valid one in a resting state: nothing was read ahead there
abbrev pub RestingWaits : Type 0
RestingWaits = (names : List Reference) (s : ControlState) → IsValid s → is_some (rest_of s.lex.machine.state) ≡ true → Waits names s

-- over a state that waits the run over nothing stays where it is
abbrev pub WaitingStays : Type 0
WaitingStays = (names : List Reference) (s : ControlState) → Waits names s → Leads names [] s [] s

-- A sound guess is the run over what it covers, and where it covers nothing it is that over nothing; on the tree of the state its edits
-- come to what the inner ones make, put behind the tree, and then the outer ones.
pub record GrowsOn (f : Guessed) (s : ControlState) : Type 0 where
  pub edits : List Edit
  pub leads : Leads f.names (covered_text f) s edits (state_behind f s)
  pub makes : (t : Tree) → HasOnlyWhatIsThere t → length t ≡ s.next → name_what_is_there s.next edits ≡ true → applied_all t edits ≡ tree_behind f s t

abbrev pub GuessGrows : Type 0
GuessGrows = (f : Guessed) (s : ControlState) → IsSound f → MayStand f.names s → Holds f.assumptions s → GrowsOn f s
