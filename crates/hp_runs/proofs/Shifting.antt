-- Places are only counted: lexers that have the same machine and the same unread text make the same moves.
use Rattle.std.proofs.Common.{◌≡◌, ℕ, List, [], ◌∷◌, Bool, true, false, cond, refl, ap, ◌∙◌, sym, subst, Option, None, Some}
use Rattle.std.specs.Prelude.{◌==◌, ◌&&◌}
use Rattle.hp_elements.specs.declared.token.Token.{Token}
use Rattle.hp_names.specs.References.{Reference}
use Rattle.hp_names.specs.Longest.{longest, is_open as is_open_name}
use Rattle.hp_names.specs.declared.names.Found.{Found}
use Rattle.hp_tokens.specs.declared.machine.Machine.{Machine}
use Rattle.hp_tokens.specs.declared.state.State.{State}
use Rattle.hp_tokens.specs.declared.state.State.TheVariants.{NamedCharacterReference, MarkupDeclarationOpen, AfterDoctypeName}
use Rattle.hp_tokens.specs.declared.rows.Reads.{Reads}
use Rattle.hp_tokens.specs.declared.rows.Reads.TheVariants.{Consume, Again, End}
use Rattle.hp_tokens.specs.Rows.{Row, flushed_tokens}
use Rattle.hp_tokens.specs.Advancing.{tokens_of}
use Rattle.hp_tokens.specs.Moves.{Lexing, Move, needs_more, asks_cdata, asks_last_tag, all_began, after_row, row_move, after_end, row_end, read_as, taking, after_pair, move_on, move, end_move_on, end_move}
use Rattle.hp_lex_tags.specs.Tags as tags
use Rattle.hp_lex_tags.specs.Rows as tag_rows
use Rattle.hp_lex_tags.specs.Named.{reference_move, with_found}
use Rattle.hp_lex_raw.specs.Raw as raw
use Rattle.hp_lex_raw.specs.Rows as raw_rows
use Rattle.hp_lex_markup.specs.Markup as markup
use Rattle.hp_lex_markup.specs.Rows as markup_rows
use Rattle.hp_lex_markup.specs.Words.{is_open, word, asks, count}
use Rattle.hp_lex_markup.specs.declared.words.Word.{Word}
use Rattle.hp_lexer.specs.Table.{table}
use Rattle.hp_runs.proofs.Began.{tokens-began}
use Rattle.hp_runs.specs.Alike.{Alike, SameMove, moved}

began-same : (place other : ℕ) (ts : List Token) → tokens_of (all_began other ts) ≡ tokens_of (all_began place ts)
began-same place other ts = tokens-began other ts ∙ sym (tokens-began place ts)

alike : (l k : Lexing) → l.machine ≡ k.machine → l.unread ≡ k.unread → Alike l k
alike l k m u = record { machine = m; unread = u }

after_row-same : (r : Row) (l : Lexing) (p q c : ℕ) (cs : List ℕ) (reads : Reads) → SameMove (after_row r l c cs reads) (after_row r (moved p q l) c cs reads)
after_row-same r l p q c cs Consume = (_, _, refl, alike _ _ refl refl, began-same l.rested q r.emits)
after_row-same r l p q c cs Again = (_, _, refl, alike _ _ refl refl, began-same l.rested q r.emits)
after_row-same r l p q c cs End = refl

row-same : (row : Machine → Option ℕ → Row) (l : Lexing) (p q c : ℕ) (cs : List ℕ) → SameMove (row_move row l c cs) (row_move row (moved p q l) c cs)
row-same row l p q c cs = let r : Row = row l.machine (Some (read_as c)) in after_row-same r l p q c cs r.reads

after_end-same : (r : Row) (l : Lexing) (p q : ℕ) (reads : Reads) → SameMove (after_end r l reads) (after_end r (moved p q l) reads)
after_end-same r l p q Consume = refl
after_end-same r l p q Again = (_, _, refl, alike _ _ refl refl, began-same l.rested q r.emits)
after_end-same r l p q End = (_, refl, began-same l.rested q r.emits)

row_end-same : (row : Machine → Option ℕ → Row) (l : Lexing) (p q : ℕ) (text : List ℕ) → SameMove (row_end row l text) (row_end row (moved p q l) text)
row_end-same row l p q [] = let r : Row = row l.machine None in after_end-same r l p q r.reads
row_end-same row l p q (c ∷ cs) = row-same row l p q c cs

either-same : (b : Bool) (x y x' y' : Move) → SameMove x x' → SameMove y y' → SameMove (cond b x y) (cond b x' y')
either-same true x y x' y' h k = h
either-same false x y x' y' h k = k

-- a move that is made in some states alone
if-same : (b : Bool) (x x' : Move) → SameMove x x' → SameMove (cond b x needs_more) (cond b x' needs_more)
if-same true x x' h = h
if-same false x x' h = refl

unless-same : (b : Bool) (x x' : Move) → SameMove x x' → SameMove (cond b needs_more x) (cond b needs_more x')
unless-same true x x' h = refl
unless-same false x x' h = h

asking-same : (b : Bool) (x x' : Move) → SameMove x x' → SameMove (cond b asks_last_tag x) (cond b asks_last_tag x')
asking-same true x x' h = refl
asking-same false x x' h = h

reference-same : (o : Option Found) (l : Lexing) (p q : ℕ) → SameMove (reference_move o l) (reference_move o (moved p q l))
reference-same None l p q = (_, _, refl, alike _ _ refl refl, began-same l.rested q (flushed_tokens l.machine))
reference-same (Some f) l p q = (_, _, refl, alike _ _ refl refl, began-same l.rested q (flushed_tokens (with_found f l.machine l.unread)))

tags_same : (s : State) (names : List Reference) (l : Lexing) (p q c : ℕ) (cs : List ℕ) → SameMove (tags.on_state s names l c cs) (tags.on_state s names (moved p q l) c cs)
tags_same NamedCharacterReference names l p q c cs = unless-same (is_open_name names l.unread) (reference_move (longest names l.unread) l) (reference_move (longest names l.unread) (moved p q l)) (reference-same (longest names l.unread) l p q)
tags_same s names l p q c cs = if-same (tag_rows.has_row s) (row_move tag_rows.row l c cs) (row_move tag_rows.row (moved p q l) c cs) (row-same tag_rows.row l p q c cs)

tags_end_same : (s : State) (names : List Reference) (l : Lexing) (p q : ℕ) (text : List ℕ) → SameMove (tags.last_state s names l text) (tags.last_state s names (moved p q l) text)
tags_end_same NamedCharacterReference names l p q text = reference-same (longest names l.unread) l p q
tags_end_same s names l p q text = if-same (tag_rows.has_row s) (row_end tag_rows.row l text) (row_end tag_rows.row (moved p q l) text) (row_end-same tag_rows.row l p q text)

raw_same : (l : Lexing) (p q c : ℕ) (cs : List ℕ) → SameMove (raw.raw_rules.on l c cs) (raw.raw_rules.on (moved p q l) c cs)
raw_same l p q c cs =
    if-same (raw_rows.has_row l.machine.state) (cond (raw.asks l.machine c) asks_last_tag (row_move raw_rows.row l c cs)) (cond (raw.asks l.machine c) asks_last_tag (row_move raw_rows.row (moved p q l) c cs))
    (asking-same (raw.asks l.machine c) (row_move raw_rows.row l c cs) (row_move raw_rows.row (moved p q l) c cs) (row-same raw_rows.row l p q c cs))

raw_end_same : (l : Lexing) (p q : ℕ) (text : List ℕ) → SameMove (raw.raw_rules.last l text) (raw.raw_rules.last (moved p q l) text)
raw_end_same l p q text = if-same (raw_rows.has_row l.machine.state) (row_end raw_rows.row l text) (row_end raw_rows.row (moved p q l) text) (row_end-same raw_rows.row l p q text)

past_same : (w : Word) (l : Lexing) (p q : ℕ) → SameMove (markup.past_word w l) (markup.past_word w (moved p q l))
past_same w l p q = (_, _, refl, alike _ _ refl refl, refl)

word-same : (o : Option Word) (l : Lexing) (p q c : ℕ) (cs : List ℕ) → SameMove (markup.word_read o l c cs) (markup.word_read o (moved p q l) c cs)
word-same None l p q c cs = row-same markup_rows.row l p q c cs
word-same (Some w) l p q c cs = either-same (asks w) (asks_cdata (taking (count w) (markup.in_section l.machine) l) (taking (count w) (markup.after_word w l.machine) l)) (markup.past_word w l)
    (asks_cdata (taking (count w) (markup.in_section l.machine) (moved p q l)) (taking (count w) (markup.after_word w l.machine) (moved p q l))) (markup.past_word w (moved p q l))
    (_, _, refl, alike _ _ refl refl, alike _ _ refl refl) (past_same w l p q)

word_end-same : (o : Option Word) (l : Lexing) (p q : ℕ) (text : List ℕ) → SameMove (markup.word_read_at_end o l text) (markup.word_read_at_end o (moved p q l) text)
word_end-same None l p q text = row_end-same markup_rows.row l p q text
word_end-same (Some w) l p q text = past_same w l p q

markup_same : (s : State) (l : Lexing) (p q c : ℕ) (cs : List ℕ) → SameMove (markup.on_state s l c cs) (markup.on_state s (moved p q l) c cs)
markup_same MarkupDeclarationOpen l p q c cs = unless-same (is_open l.machine.state l.unread) (markup.word_read (word l.machine.state l.unread) l c cs) (markup.word_read (word l.machine.state l.unread) (moved p q l) c cs) (word-same (word l.machine.state l.unread) l p q c cs)
markup_same AfterDoctypeName l p q c cs = unless-same (is_open l.machine.state l.unread) (markup.word_read (word l.machine.state l.unread) l c cs) (markup.word_read (word l.machine.state l.unread) (moved p q l) c cs) (word-same (word l.machine.state l.unread) l p q c cs)
markup_same s l p q c cs = if-same (markup_rows.has_row s) (row_move markup_rows.row l c cs) (row_move markup_rows.row (moved p q l) c cs) (row-same markup_rows.row l p q c cs)

markup_end_same : (s : State) (l : Lexing) (p q : ℕ) (text : List ℕ) → SameMove (markup.last_state s l text) (markup.last_state s (moved p q l) text)
markup_end_same MarkupDeclarationOpen l p q text = word_end-same (word l.machine.state l.unread) l p q text
markup_end_same AfterDoctypeName l p q text = word_end-same (word l.machine.state l.unread) l p q text
markup_end_same s l p q text = if-same (markup_rows.has_row s) (row_end markup_rows.row l text) (row_end markup_rows.row (moved p q l) text) (row_end-same markup_rows.row l p q text)

-- one of three parts
parts-same : (a b : Bool) (x y z x' y' z' : Move) → SameMove x x' → SameMove y y' → SameMove z z' → SameMove (cond a x (cond b y z)) (cond a x' (cond b y' z'))
parts-same true b x y z x' y' z' h k i = h
parts-same false true x y z x' y' z' h k i = k
parts-same false false x y z x' y' z' h k i = i

table_same : (names : List Reference) (l : Lexing) (p q c : ℕ) (cs : List ℕ) → SameMove ((table names).on l c cs) ((table names).on (moved p q l) c cs)
table_same names l p q c cs =
    parts-same (tags.is_here l.machine.state) (raw.is_here l.machine.state)
    (tags.on_state l.machine.state names l c cs) (raw.raw_rules.on l c cs) (markup.on_state l.machine.state l c cs)
    (tags.on_state l.machine.state names (moved p q l) c cs) (raw.raw_rules.on (moved p q l) c cs) (markup.on_state l.machine.state (moved p q l) c cs)
    (tags_same l.machine.state names l p q c cs) (raw_same l p q c cs) (markup_same l.machine.state l p q c cs)

last_same : (names : List Reference) (l : Lexing) (p q : ℕ) (text : List ℕ) → SameMove ((table names).last l text) ((table names).last (moved p q l) text)
last_same names l p q text =
    parts-same (tags.is_here l.machine.state) (raw.is_here l.machine.state)
    (tags.last_state l.machine.state names l text) (raw.raw_rules.last l text) (markup.last_state l.machine.state l text)
    (tags.last_state l.machine.state names (moved p q l) text) (raw.raw_rules.last (moved p q l) text) (markup.last_state l.machine.state (moved p q l) text)
    (tags_end_same l.machine.state names l p q text) (raw_end_same l p q text) (markup_end_same l.machine.state l p q text)

pair-same : (b : Bool) (l : Lexing) (p q : ℕ) (cs : List ℕ) (x x' : Move) → SameMove x x' → SameMove (cond b (after_pair l cs) x) (cond b (after_pair (moved p q l) cs) x')
pair-same true l p q cs x x' h = (_, _, refl, alike _ _ refl refl, refl)
pair-same false l p q cs x x' h = h

on_same : (names : List Reference) (l : Lexing) (p q : ℕ) (text : List ℕ) → SameMove (move_on (table names) l text) (move_on (table names) (moved p q l) text)
on_same names l p q [] = refl
on_same names l p q (c ∷ cs) =
    pair-same (l.machine.after_cr && c == 10) l p q cs ((table names).on l c cs) ((table names).on (moved p q l) c cs) (table_same names l p q c cs)

end_on_same : (names : List Reference) (l : Lexing) (p q : ℕ) (text : List ℕ) → SameMove (end_move_on (table names) l text) (end_move_on (table names) (moved p q l) text)
end_on_same names l p q [] = last_same names l p q []
end_on_same names l p q (c ∷ cs) =
    pair-same (l.machine.after_cr && c == 10) l p q cs ((table names).last l (c ∷ cs)) ((table names).last (moved p q l) (c ∷ cs)) (last_same names l p q (c ∷ cs))

is_moved : (l k : Lexing) → Alike l k → moved k.place k.rested l ≡ k
is_moved l k a =
    ap (λ (m : Machine). record { machine = m; place = k.place; rested = k.rested; unread = l.unread }) a.machine
    ∙ ap (λ (u : List ℕ). record { machine = k.machine; place = k.place; rested = k.rested; unread = u }) a.unread

-- lexers that are alike make the same moves
pub move-same : (names : List Reference) (l k : Lexing) → Alike l k → SameMove (move (table names) l) (move (table names) k)
move-same names l k a =
    let P : Lexing → Type 0 = λ x. SameMove (move (table names) l) (move (table names) x) in
    subst P (is_moved l k a) (on_same names l k.place k.rested l.unread)

pub end_move-same : (names : List Reference) (l k : Lexing) → Alike l k → SameMove (end_move (table names) l) (end_move (table names) k)
end_move-same names l k a =
    let P : Lexing → Type 0 = λ x. SameMove (end_move (table names) l) (end_move (table names) x) in
    subst P (is_moved l k a) (end_on_same names l k.place k.rested l.unread)
