-- Where a lexer stands in a text, and what its calls promise.
use Rattle.std.specs.Prelude.{◌≡◌, ℕ, ◌+◌, ◌*◌, ◌-◌, ◌<◌, ◌≤◌, ◌^◌, Bool, true, false, List, [], ◌∷◌, length, map, Option, Some, None, if◌then◌else◌}
use Rattle.std.specs.List.{list_all}
use Rattle.hp_tokens.specs.Plain.{none_of}
use Rattle.hp_tokens.specs.Rows.{character}
use Rattle.hp_elements.specs.declared.token.Token.{Token}
use Rattle.hp_names.specs.References.{Reference}
use Rattle.hp_tokens.specs.declared.state.State.{State}
use Rattle.hp_tokens.specs.declared.machine.Machine.{Machine}
use Rattle.hp_tokens.specs.Reading.{Unread}
use Rattle.hp_tokens.specs.Moves.{Lexing, needs_more, asks_cdata, asks_last_tag, move}
use Rattle.hp_tokens.specs.Advancing.{held, lexing, Advances, Stops, IsGroup}
use Rattle.hp_tokens.specs.Ranks.{weight}
use Rattle.hp_tokens.specs.States.{enter, state_of_rest}
use Rattle.hp_elements.specs.declared.token.Rest.{Rest}
use Rattle.hp_lex_raw.specs.Raw.{is_untold}
use Rattle.hp_lex_tags.specs.Tags.{EmitsLast}
use Rattle.hp_lex_markup.specs.declared.words.Word.TheVariants.{Cdata as CdataWord}
use Rattle.hp_lex_markup.specs.Markup.{in_section, after_word}
use Rattle.hp_lexer.specs.declared.lexer.Asked.{Asked}
use Rattle.hp_lexer.specs.declared.lexer.Asked.TheVariants as asked
use Rattle.hp_lexer.specs.declared.lexer.Lexer.{Lexer}
use Rattle.hp_lexer.specs.declared.lexer.Step.{Step}
use Rattle.hp_lexer.specs.declared.lexer.Step.TheVariants as steps
use Rattle.hp_lexer.specs.Table.{table, part_of}

-- a question waits for its answer
abbrev pub is_answered : Asked → Bool
is_answered asked.Cdata = false
is_answered _ = true

-- the machine behind `[CDATA[`: in a CDATA section where there is an adjusted current node outside the HTML namespace,
-- otherwise in a comment
abbrev pub behind_cdata : Bool → Machine → Machine
behind_cdata true m = in_section m
behind_cdata false m = after_word CdataWord m

-- the machine, once the move behind an answered question is made
abbrev pub opened : Asked → Machine → Machine
opened (asked.CdataAnswered foreign) m = behind_cdata foreign m
opened _ m = m

-- where the lexer stands in a text
abbrev pub stands : Lexer → Unread → Lexing
stands l input = lexing (record l.lex { machine = opened l.asked l.lex.machine }) input l.rested

-- the same, if the question after `[CDATA[` is answered so
abbrev pub stands_answered : Bool → Lexer → Unread → Lexing
stands_answered foreign l input = stands (record l { asked = asked.CdataAnswered foreign }) input

-- these tokens were emitted by moves from there to here, and the first of them began at that place
abbrev pub Reaches : Lexer → Unread → Lexer → Unread → List Token → Bool → Type 0
Reaches old old_input new new_input tokens emitted = Advances (table old.names) (stands old old_input) [] (stands new new_input) tokens new.rested emitted

-- moves that emit nothing led to the question after `[CDATA[`, and it was read
pub record ReachesCdata (old : Lexer) (old_input : Unread) (new : Lexer) (new_input : Unread) : Type 0 where
  pub there : Lexing
  pub rested : ℕ
  pub advances : Advances (table old.names) (stands old old_input) [] there [] rested false
  pub asks : move (table old.names) there ≡ asks_cdata (stands_answered true new new_input) (stands_answered false new new_input)
  pub asked : new.asked ≡ asked.Cdata

-- moves that emit nothing led to where more input is needed; the text is used up, and in the next one the lexer rested nowhere yet
pub record ReachesCut (old : Lexer) (old_input : Unread) (new : Lexer) (new_input : Unread) : Type 0 where
  pub rested : ℕ
  pub advances : Advances (table old.names) (stands old old_input) [] (stands (record new { rested = rested }) new_input) [] rested false
  pub needs : move (table old.names) (stands (record new { rested = rested }) new_input) ≡ needs_more
  pub asked : new.asked ≡ asked.Nothing
  pub start : new.rested ≡ 2 ^ 32
  pub held : held new.lex ≤ 2 ^ 32
  pub used : new_input.text ≡ []

-- The promise of `next`. The tokens are those of moves from one rest to the next, or to where no move is made or the state is in
-- another part of the table; more input is needed; a question is asked.
abbrev pub Stepped : Lexer → Unread → Lexer → Unread → Step → Type 0
Stepped old old_input new new_input (steps.Tokens began tokens) =
    Reaches old old_input new new_input tokens true
    × (began ≡ new.rested - 2 ^ 32) × (new.asked ≡ asked.Nothing)
    × ((s : State) × Stops (table old.names) (part_of s) (stands new new_input))
Stepped old old_input new new_input steps.AskCdata = ReachesCdata old old_input new new_input
Stepped old old_input new new_input steps.AskLastTag =
    Reaches old old_input new new_input [] false
    × (move (table old.names) (stands new new_input) ≡ asks_last_tag) × (new.asked ≡ asked.LastTag)
Stepped old old_input new new_input steps.AtCut = ReachesCut old old_input new new_input

-- The tokens of one answer are one group, or one run, by moves that from the first that emits something on are made in one part of the
-- table. It ends at the first rest behind it, or before that where no move is made or the state is in another part.
pub record IsBatch (names : List Reference) (old : Lexing) (new : Lexing) (tokens : List Token) (place : ℕ) : Type 0 where
  pub part : State
  pub group : IsGroup (move (table names)) (part_of part) old [] new tokens place
  pub stops : Stops (table names) (part_of part) new

-- so it is of each answer that has tokens
abbrev pub Batched : Lexer → Unread → Lexer → Unread → Step → Type 0
Batched old old_input new new_input (steps.Tokens began tokens) = IsBatch old.names (stands old old_input) (stands new new_input) tokens new.rested
Batched old old_input new new_input _ = Unit {0}

-- moves that emit nothing led to where more input is needed; the text is used up, and the place of the last rest is kept
pub record ReachesCutWithin (old : Lexer) (old_input : Unread) (new : Lexer) (new_input : Unread) : Type 0 where
  pub advances : Reaches old old_input new new_input [] false
  pub needs : move (table old.names) (stands new new_input) ≡ needs_more
  pub asked : new.asked ≡ asked.Nothing
  pub held : held new.lex ≤ 2 ^ 32
  pub used : new_input.text ≡ []

-- the promise of `next_within`: that of `next`, but that the place of the last rest is kept at a cut
abbrev pub SteppedWithin : Lexer → Unread → Lexer → Unread → Step → Type 0
SteppedWithin old old_input new new_input steps.AtCut = ReachesCutWithin old old_input new new_input
SteppedWithin old old_input new new_input step = Stepped old old_input new new_input step

-- The promise of `next_plain`: the text's code points, each in a token of its own, were emitted by moves from one rest to the next;
-- none of them is U+0000.
pub record PlainStepped (old : Lexer) (old_input : Unread) (new : Lexer) (new_input : Unread) (text : List ℕ) : Type 0 where
  pub stepped : Stepped old old_input new new_input (steps.Tokens (new.rested - 2 ^ 32) (map character text))
  pub no_nul : list_all (none_of (0 ∷ [])) text ≡ true
  pub long : 0 < length text

-- The promise of `next_tag`: a tag was emitted by moves from one rest to the next, by the last of them; or moves were made that emit
-- nothing.
abbrev pub TagStepped : Lexer → Unread → Lexer → Unread → Option Token → Type 0
TagStepped old old_input new new_input (Some tag) =
    Stepped old old_input new new_input (steps.Tokens (new.rested - 2 ^ 32) (tag ∷ []))
    × EmitsLast (table old.names) (stands old old_input) tag (stands new new_input) new.rested
TagStepped old old_input new new_input None = Reaches old old_input new new_input [] false

-- What falls with each step of a run over a text: twice the weight of what is unread and of the state, and one where the last
-- start tag's name isn't told.
abbrev pub load : Lexer → Unread → ℕ
load l input = let s = stands l input in 2 * weight s + (if is_untold s.machine.last_tag then 1 else 0)

-- It falls before the next step, whatever a question is answered, and also where the tree builder switches the lexer.
abbrev pub Falls : Lexer → Unread → Lexer → Unread → Step → Type 0
Falls old old_input new new_input (steps.Tokens began tokens) = 2 * weight (stands new new_input) + 1 < load old old_input
Falls old old_input new new_input steps.AskCdata = (foreign : Bool) → 2 * weight (stands_answered foreign new new_input) + 1 < load old old_input
Falls old old_input new new_input steps.AskLastTag = 2 * weight (stands new new_input) < load old old_input
Falls old old_input new new_input steps.AtCut = Unit {0}

-- it is no larger behind moves that emit nothing
abbrev pub SilentFall : Type 0
SilentFall = (old new : Lexer) (old_input new_input : Unread) → Reaches old old_input new new_input [] false → load new new_input ≤ load old old_input

abbrev pub StepsFall : Type 0
StepsFall = (old new : Lexer) (old_input new_input : Unread) (step : Step) → Stepped old old_input new new_input step → Falls old old_input new new_input step

-- the lexer behind the tree builder's switch
abbrev pub switched : Rest → Lexer → Lexer
switched to l = record l { lex = record l.lex { machine = enter (state_of_rest to) l.lex.machine } }

-- a switch makes the weight no larger
abbrev pub SwitchesFall : Type 0
SwitchesFall = (to : Rest) (l : Lexer) (input : Unread) → l.asked ≡ asked.Nothing → weight (stands (switched to l) input) ≤ weight (stands l input)
