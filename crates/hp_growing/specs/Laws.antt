-- The laws of what the edits of a token, of a run and of a page name.
use Rattle.std.specs.Prelude.{◌≡◌, ℕ, ◌⊎◌, true, All, List, map}
use Rattle.hp_elements.specs.declared.token.Token.{Token}
use Rattle.hp_names.specs.References.{Reference}
use Rattle.hp_tokens.specs.Moves.{Rules}
use Rattle.hp_control.specs.declared.edit.Edit.{Edit}
use Rattle.hp_control.specs.Apply.{named_edit}
use Rattle.hp_control.specs.Edits.{IsFixedEdit}
use Rattle.hp_control.specs.Holds.{Holds}
use Rattle.hp_control.specs.States.{ControlState, Fits, IsValid, is_rooted}
use Rattle.hp_control.specs.Tree.{Tree, applied_all}
use Rattle.hp_groves.specs.Grafts.{graft}
use Rattle.hp_groves.specs.Laws.{HasOnlyWhatIsThere}
use Rattle.hp_groves.specs.Naming.{IsBelow, own_grove, own_outer}
use Rattle.hp_groves.specs.Split.{grove_of, name_what_is_there, outer_of}
use Rattle.hp_growth.specs.Marking.{name_first}
use Rattle.hp_growth.specs.Telling.{own_told}
use Rattle.hp_model.specs.AtOnce.{built_at_once, handle_at_once}
use Rattle.hp_model.specs.Handling.{handle}
use Rattle.hp_model.specs.Runs.{EndsWith, Goes, Parser, step}
use Rattle.hp_model.specs.Turns.{left_by}
use Rattle.hp_runs.specs.Pages.{IsTreeOf}
use Rattle.hp_pieces.specs.At.{IsAt}
use Rattle.hp_pieces.specs.Growth.{Grows, grown_tree}
use Rattle.hp_pieces.specs.Guesses.{Guessed, IsSound, covered_text, state_behind, tree_behind}
use Rattle.hp_pieces.specs.Running.{Ends, Leads}
use Rattle.hp_pieces.specs.Waiting.{MayStand}
use Rattle.hp_growing.specs.Naming.{IsCounted, NamesThere}

-- From a valid state the edits of a token name what is there,
abbrev pub HandledNamesThere : Type 0
HandledNamesThere = (c : ControlState) (t : Token) → IsValid c → NamesThere c.next (handle c t).outcome.edits (left_by (handle c t)).next

-- also where a run of characters is handled at once;
abbrev pub AtOnceNamesThere : Type 0
AtOnceNamesThere = (c : ControlState) (t : Token) → IsValid c → NamesThere c.next (handle_at_once c t).outcome.edits (left_by (handle_at_once c t)).next

-- so do those of steps one after the other, as of a run over a text,
abbrev pub RunsNameThere : Type 0
RunsNameThere = (rules : Rules) (old new : Parser) (es : List Edit) → Goes (step rules) old es new → IsValid old.control → NamesThere old.control.next es new.control.next

-- and those of the end of input.
abbrev pub EndsNameThere : Type 0
EndsNameThere = (rules : Rules) (p : Parser) (es : List Edit) → EndsWith rules p es → IsValid p.control → name_what_is_there p.control.next es ≡ true

-- Tokens one after the other name what is there too where each is handled at once.
abbrev pub TokensNameThere : Type 0
TokensNameThere = (ts : List Token) (p : Parser) → IsValid p.control → NamesThere p.control.next (built_at_once p ts).edits (built_at_once p ts).parser.control.next

-- So on a tree that has the elements below the next id the inner edits of a run may be made first, by themselves.
abbrev pub RunsSplit : Type 0
RunsSplit = (rules : Rules) (old new : Parser) (es : List Edit) (t : Tree) → Goes (step rules) old es new → IsValid old.control → IsCounted old.control.next t
    → applied_all t es ≡ applied_all (graft t (grove_of old.control.next es)) (outer_of old.control.next es)

-- A fragment's edits are those of the run but for how texts are joined: so from a valid state they name what is there too,
abbrev pub LeadsNameThere : Type 0
LeadsNameThere = (names : List Reference) (text : List ℕ) (s u : ControlState) (es : List Edit) → Leads names text s es u → IsValid s → NamesThere s.next es u.next

-- as those of the end of input do,
abbrev pub LastNameThere : Type 0
LastNameThere = (names : List Reference) (s : ControlState) (es : List Edit) → Ends names s es → IsValid s → name_what_is_there s.next es ≡ true

-- and its inner edits may be made first, by themselves.
abbrev pub LeadsSplit : Type 0
LeadsSplit = (names : List Reference) (text : List ℕ) (s u : ControlState) (es : List Edit) (t : Tree) → Leads names text s es u → IsValid s → IsCounted s.next t
    → applied_all t es ≡ applied_all (graft t (grove_of s.next es)) (outer_of s.next es)

-- A run leads from a tree that has the elements below the next id to one that has those below the later one,
abbrev pub RunsCount : Type 0
RunsCount = (names : List Reference) (text : List ℕ) (s u : ControlState) (es : List Edit) (t : Tree) → Leads names text s es u → IsValid s → IsCounted s.next t → IsCounted u.next (applied_all t es)

-- and the end of input puts nothing into it that isn't there.
abbrev pub EndsHaveThere : Type 0
EndsHaveThere = (names : List Reference) (s : ControlState) (es : List Edit) (t : Tree) → Ends names s es → IsValid s → IsCounted s.next t → HasOnlyWhatIsThere (applied_all t es)

-- At each place of a page the tree has the elements below the next id,
abbrev pub PlacesCount : Type 0
PlacesCount = (text : List ℕ) (place : ℕ) (s : ControlState) (t : Tree) → IsAt text place s t → IsCounted s.next t

-- and in the tree of a page stands only what is there.
abbrev pub TreesHaveThere : Type 0
TreesHaveThere = (names : List Reference) (page : List ℕ) (tree : Tree) → IsTreeOf names page tree → HasOnlyWhatIsThere tree

-- A sound guess is the run over what it covers, and builds on the tree what the run builds:
pub record BuildsOn (f : Guessed) (s : ControlState) (t : Tree) : Type 0 where
  pub edits : List Edit
  pub leads : Leads f.names (covered_text f) s edits (state_behind f s)
  pub builds : applied_all t edits ≡ tree_behind f s t

-- so it is over each state for which it is right, on a tree that has the elements below the next id.
abbrev pub GuessBuilds : Type 0
GuessBuilds = (f : Guessed) (s : ControlState) (t : Tree) → IsSound f → MayStand f.names s → Holds f.assumptions s → IsCounted s.next t → BuildsOn f s t

-- A run that comes to a grove and outer edits builds on the tree of its state what these build there.
abbrev pub GrownBuilds : Type 0
GrownBuilds = (names : List Reference) (text : List ℕ) (s exit : ControlState) (grove : Tree) (outer : List Edit) (t : Tree) → (g : Grows names text s grove outer exit) → IsValid s → IsCounted s.next t
    → applied_all t (map (named_edit s) g.edits) ≡ grown_tree grove outer s t

-- The edits of a run, told by ids, come to these where they are told over its state.
abbrev pub RunGrows : Type 0
RunGrows = (names : List Reference) (text : List ℕ) (s exit : ControlState) (es : List Edit) → IsValid s → All IsFixedEdit es → Leads names text s es exit
    → Grows names text s (own_grove (map (own_told s.next) es)) (own_outer (map (own_told s.next) es)) exit

-- What a fragment's edits name by ids is older, where no id but the document's and the first element's is named, and where that element is
-- there, or none is made.
abbrev pub FirstIsBelow : Type 0
FirstIsBelow = (names : List Reference) (text : List ℕ) (s exit : ControlState) (es : List Edit) → IsValid s → Fits s → Leads names text s (map (named_edit s) es) exit
    → name_first es ≡ true → (is_rooted s.stack ≡ true) ⊎ (exit.next ≡ s.next) → IsBelow s es
