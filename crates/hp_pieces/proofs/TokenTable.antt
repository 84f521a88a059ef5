-- The moves of the whole table keep a lexer whose token is its state's.
use Rattle.std.proofs.Common.{◌≡◌, ℕ, List, [], ◌∷◌, Bool, true, false, ◌&&◌, ◌||◌, cond, refl, ap, ◌∙◌, sym, subst, Option, None, Some, arith}
use Rattle.std.specs.Prelude.{◌==◌, codes}
use Rattle.std.proofs.lemmas.Bool.{and_parts}
use Rattle.std.proofs.lemmas.Bool.Decides.{nat_tests}
use Rattle.hp_names.specs.References.{Reference}
use Rattle.hp_names.specs.Longest.{is_open as is_open_name, longest}
use Rattle.hp_names.specs.declared.names.Found.{Found}
use Rattle.hp_tokens.specs.Moves.{Lexing, Move, needs_more, asks_cdata, asks_last_tag, makes, ends, after_pair, after_row, move, move_on, read_as, row_move}
use Rattle.hp_tokens.specs.Rows.{Row, flushed}
use Rattle.hp_tokens.specs.Valid.{has_token, has_value, is_doctype, is_tag, is_tag_with_attribute}
use Rattle.hp_tokens.specs.declared.building.Building.{Building}
use Rattle.hp_tokens.specs.declared.machine.Machine.{Machine}
use Rattle.hp_tokens.specs.declared.rows.Reads.{Reads}
use Rattle.hp_tokens.specs.declared.rows.Reads.TheVariants.{Consume, Again, End}
use Rattle.hp_tokens.specs.declared.state.Return.{Return}
use Rattle.hp_tokens.specs.declared.state.State.{State}
use Rattle.hp_tokens.specs.declared.state.State.TheVariants.{AfterAttributeName, NamedCharacterReference, MarkupDeclarationOpen, AfterDoctypeName}
use Rattle.hp_lex_tags.specs.Named.{reference_move, with_found}
use Rattle.hp_lex_tags.specs.Rows as tag_rows
use Rattle.hp_lex_tags.specs.Tags as tags
use Rattle.hp_lex_raw.specs.Raw as raw
use Rattle.hp_lex_raw.specs.Rows as raw_rows
use Rattle.hp_lex_markup.specs.Markup as markup
use Rattle.hp_lex_markup.specs.Rows as markup_rows
use Rattle.hp_lex_markup.specs.Words.{begins, begins_without_case, is_open, word}
use Rattle.hp_lex_markup.specs.declared.words.Word.{Word}
use Rattle.hp_lex_markup.specs.declared.words.Word.TheVariants.{Hyphens, Doctype, Cdata, Public, System}
use Rattle.hp_lexer.specs.Table.{table}
use Rattle.hp_control.specs.States.{may_be_ahead}
use Rattle.hp_pieces.proofs.TokenRows.{Owns, ends_tag, flushed-own, flushed-return, has_own, left_unread, owns, returned, still}
use Rattle.hp_pieces.proofs.TokenMarkup as markup_tokens
use Rattle.hp_pieces.proofs.TokenRaw as raw_tokens
use Rattle.hp_pieces.proofs.TokenTags as tag_tokens

abbrev pub Own : Lexing → Type 0
Own l = owns l.machine l.unread ≡ true

abbrev pub MoveOwns : Move → Type 0
MoveOwns needs_more = Unit {0}
MoveOwns (asks_cdata f h) = Own f × Own h
MoveOwns asks_last_tag = Unit {0}
MoveOwns (makes l es) = Own l
MoveOwns (ends es) = Unit {0}

either-moves : (b : Bool) (x y : Move) → MoveOwns x → MoveOwns y → MoveOwns (cond b x y)
either-moves true x y h k = h
either-moves false x y h k = k

-- CR is read as LF, and neither ends a tag
ends_as_read : (c : ℕ) → ends_tag (read_as c) ≡ ends_tag c
ends_as_read c = by_cases (c == 13) refl
  where
    by_cases : (b : Bool) → (c == 13) ≡ b → ends_tag (cond b 10 c) ≡ ends_tag c
    by_cases true e = grind (arith, nat_tests)
    by_cases false e = refl

as_read : (s : State) (c : ℕ) (cs : List ℕ) (r : Return) (b : Building) → has_own s (read_as c ∷ cs) r b ≡ has_own s (c ∷ cs) r b
as_read AfterAttributeName c cs r b = ap (λ e. is_tag_with_attribute b || (is_tag b && e)) (ends_as_read c)
as_read _ c cs r b = refl

after_row_owns : (r : Row) (l : Lexing) (c : ℕ) (cs : List ℕ) (reads : Reads) → owns r.to (left_unread reads (read_as c) cs) ≡ true → MoveOwns (after_row r l c cs reads)
after_row_owns r l c cs Consume h = h
after_row_owns r l c cs Again h = sym (as_read r.to.state c cs r.to.return_to r.to.building) ∙ h
after_row_owns r l c cs End h = tt

row_owns : (row : Machine → Option ℕ → Row) (l : Lexing) (c : ℕ) (cs : List ℕ) → Owns (read_as c) cs (row l.machine (Some (read_as c))) → MoveOwns (row_move row l c cs)
row_owns row l c cs h = let r : Row = row l.machine (Some (read_as c)) in after_row_owns r l c cs r.reads h.own

reference_owns : (o : Option Found) (l : Lexing) → has_value l.machine.return_to l.machine.building ≡ true → MoveOwns (reference_move o l)
reference_owns None l h = subst (λ r. has_value r (flushed l.machine).building ≡ true) (sym (flushed-return l.machine)) (flushed-own l.machine h)
reference_owns (Some f) l h =
    let m : Machine = with_found f l.machine l.unread in
    returned m.return_to (flushed m).return_to (flushed m).building _ (flushed-own m h)

abbrev at : State → Lexing → Lexing
at s l = record l { machine = record l.machine { state = s } }

tags_own : (s : State) (names : List Reference) (l : Lexing) (c : ℕ) (cs : List ℕ) → has_own s (c ∷ cs) l.machine.return_to l.machine.building ≡ true → MoveOwns (tags.on_state s names (at s l) c cs)
tags_own NamedCharacterReference names l c cs h =
    either-moves (is_open_name names l.unread) needs_more (reference_move (longest names l.unread) (at NamedCharacterReference l)) tt (reference_owns (longest names l.unread) (at NamedCharacterReference l) h)
tags_own s names l c cs h =
    either-moves (tag_rows.has_row s) (row_move tag_rows.row (at s l) c cs) needs_more
    (row_owns tag_rows.row (at s l) c cs (tag_tokens.row_owns (at s l).machine (read_as c) cs (as_read s c cs l.machine.return_to l.machine.building ∙ h))) tt

raw_owns : (l : Lexing) (c : ℕ) (cs : List ℕ) → owns l.machine (c ∷ cs) ≡ true → MoveOwns (raw.raw_rules.on l c cs)
raw_owns l c cs h =
    either-moves (raw_rows.has_row l.machine.state) (cond (raw.asks l.machine c) asks_last_tag (row_move raw_rows.row l c cs)) needs_more
    (either-moves (raw.asks l.machine c) asks_last_tag (row_move raw_rows.row l c cs) tt
    (row_owns raw_rows.row l c cs (raw_tokens.row_owns l.machine (read_as c) cs (as_read l.machine.state c cs l.machine.return_to l.machine.building ∙ h)))) tt

-- what a word, or none, needs
abbrev WordOwns : Option Word → Lexing → ℕ → List ℕ → Type 0
WordOwns None l c cs = Owns (read_as c) cs (markup_rows.row l.machine (Some (read_as c)))
WordOwns (Some Public) l c cs = is_doctype l.machine.building ≡ true
WordOwns (Some System) l c cs = is_doctype l.machine.building ≡ true
WordOwns (Some w) l c cs = Unit {0}

word_owns : (o : Option Word) (l : Lexing) (c : ℕ) (cs : List ℕ) → WordOwns o l c cs → MoveOwns (markup.word_read o l c cs)
word_owns None l c cs h = row_owns markup_rows.row l c cs h
word_owns (Some Hyphens) l c cs h = refl
word_owns (Some Doctype) l c cs h = refl
word_owns (Some Cdata) l c cs h = (refl, refl)
word_owns (Some Public) l c cs h = h
word_owns (Some System) l c cs h = h

markup_words : (a b d : Bool) (l : Lexing) (c : ℕ) (cs : List ℕ) → WordOwns None l c cs → WordOwns (cond a (Some Hyphens) (cond b (Some Doctype) (cond d (Some Cdata) None))) l c cs
markup_words true b d l c cs h = tt
markup_words false true d l c cs h = tt
markup_words false false true l c cs h = tt
markup_words false false false l c cs h = h

keywords : (a b : Bool) (l : Lexing) (c : ℕ) (cs : List ℕ) → is_doctype l.machine.building ≡ true → WordOwns None l c cs → WordOwns (cond a (Some Public) (cond b (Some System) None)) l c cs
keywords true b l c cs d h = d
keywords false true l c cs d h = d
keywords false false l c cs d h = h

markup_owns : (s : State) (l : Lexing) (c : ℕ) (cs : List ℕ) → has_own s (c ∷ cs) l.machine.return_to l.machine.building ≡ true → MoveOwns (markup.on_state s (at s l) c cs)
markup_owns MarkupDeclarationOpen l c cs h =
    let here : Lexing = at MarkupDeclarationOpen l in
    let text : List ℕ = l.unread in
    either-moves (is_open MarkupDeclarationOpen text) needs_more (markup.word_read (word MarkupDeclarationOpen text) here c cs) tt
    (word_owns (word MarkupDeclarationOpen text) here c cs (markup_words (begins text (codes "--")) (begins_without_case text (codes "doctype")) (begins text (codes "[CDATA[")) here c cs (markup_tokens.row_owns here.machine (read_as c) cs h)))
markup_owns AfterDoctypeName l c cs h =
    let here : Lexing = at AfterDoctypeName l in
    let text : List ℕ = l.unread in
    either-moves (is_open AfterDoctypeName text) needs_more (markup.word_read (word AfterDoctypeName text) here c cs) tt
    (word_owns (word AfterDoctypeName text) here c cs (keywords (begins_without_case text (codes "public")) (begins_without_case text (codes "system")) here c cs h (markup_tokens.row_owns here.machine (read_as c) cs h)))
markup_owns s l c cs h =
    either-moves (markup_rows.has_row s) (row_move markup_rows.row (at s l) c cs) needs_more
    (row_owns markup_rows.row (at s l) c cs (markup_tokens.row_owns (at s l).machine (read_as c) cs (as_read s c cs l.machine.return_to l.machine.building ∙ h))) tt

table_owns : (names : List Reference) (l : Lexing) (c : ℕ) (cs : List ℕ) → owns l.machine (c ∷ cs) ≡ true → MoveOwns ((table names).on l c cs)
table_owns names l c cs h =
    either-moves (tags.is_here l.machine.state) (tags.on_state l.machine.state names l c cs) (cond (raw.is_here l.machine.state) (raw.raw_rules.on l c cs) (markup.on_state l.machine.state l c cs))
    (tags_own l.machine.state names l c cs h)
    (either-moves (raw.is_here l.machine.state) (raw.raw_rules.on l c cs) (markup.on_state l.machine.state l c cs) (raw_owns l c cs h) (markup_owns l.machine.state l c cs h))

-- the LF of a pair ends no tag
line_goes_on : (c : ℕ) → (c == 10) ≡ true → ends_tag c ≡ false
line_goes_on c h = grind (arith, nat_tests)

past_pair : (s : State) (c : ℕ) (cs : List ℕ) (r : Return) (b : Building) → (c == 10) ≡ true → has_own s (c ∷ cs) r b ≡ true → has_own s cs r b ≡ true
past_pair AfterAttributeName c cs r b q h = still cs r b (tag_tokens.there (is_tag_with_attribute b) (is_tag b) (ends_tag c) (line_goes_on c q) h)
past_pair _ c cs r b q h = h

on_owns : (names : List Reference) (l : Lexing) (text : List ℕ) → owns l.machine text ≡ true → MoveOwns (move_on (table names) l text)
on_owns names l [] h = tt
on_owns names l (c ∷ cs) h = by_cases (l.machine.after_cr && c == 10) refl
  where
    by_cases : (b : Bool) → (l.machine.after_cr && c == 10) ≡ b → MoveOwns (cond b (after_pair l cs) ((table names).on l c cs))
    by_cases true q = past_pair l.machine.state c cs l.machine.return_to l.machine.building (and_parts l.machine.after_cr (c == 10) q).1 h
    by_cases false q = table_owns names l c cs h

pub move_owns : (names : List Reference) (l : Lexing) → Own l → MoveOwns (move (table names) l)
move_owns names l h = on_owns names l l.unread h

-- between two texts the token is there, and whatever text follows then
pub token_there : (s : State) (text : List ℕ) (r : Return) (b : Building) → may_be_ahead s text ≡ true → has_own s text r b ≡ true → has_token s r b ≡ true
token_there AfterAttributeName [] r b a h = h
token_there AfterAttributeName (c ∷ cs) r b a h = let no : false ≡ true = a in cc
token_there _ text r b a h = h

pub token_owned : (s : State) (text : List ℕ) (r : Return) (b : Building) → has_token s r b ≡ true → has_own s text r b ≡ true
token_owned AfterAttributeName text r b h = still text r b h
token_owned _ text r b h = h
