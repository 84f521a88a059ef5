-- The moves of the whole table keep a machine that fits. Where more is needed, what is unread decides nothing yet.
use Rattle.std.proofs.Common.{◌≡◌, ℕ, List, [], ◌∷◌, Bool, true, false, ◌&&◌, ◌||◌, cond, refl, sym, subst, Option, None, Some}
use Rattle.std.specs.Prelude.{◌==◌, IsSome, IsTrue, codes}
use Rattle.hp_names.specs.BuiltIn.{built_in}
use Rattle.hp_names.specs.Longest.{is_open as is_open_name, longest}
use Rattle.hp_names.specs.declared.names.Found.{Found}
use Rattle.hp_tokens.specs.Moves.{Lexing, Move, needs_more, asks_cdata, asks_last_tag, makes, ends, after_row, after_pair, move, move_on, read_as, row_move, taking}
use Rattle.hp_tokens.specs.Ranks.{Falls}
use Rattle.hp_tokens.specs.Rows.{Row, flushed, new_comment, putting_text}
use Rattle.hp_tokens.specs.States.{return_state}
use Rattle.hp_tokens.specs.declared.building.Part.TheVariants as parts
use Rattle.hp_tokens.specs.declared.machine.Machine.{Machine}
use Rattle.hp_tokens.specs.declared.rows.Reads.{Reads}
use Rattle.hp_tokens.specs.declared.rows.Reads.TheVariants.{Consume, Again, End}
use Rattle.hp_tokens.specs.declared.state.State.{State}
use Rattle.hp_tokens.specs.declared.state.State.TheVariants.{Data, AmbiguousAmpersand, BogusComment, CommentStart, Doctype as DoctypeState, AfterDoctypePublicKeyword, AfterDoctypeSystemKeyword, CdataSection, NamedCharacterReference, MarkupDeclarationOpen, AfterDoctypeName}
use Rattle.hp_lex_tags.specs.Fine as tag_fine
use Rattle.hp_lex_tags.specs.Named.{reference_move, with_found}
use Rattle.hp_lex_tags.specs.Rows as tag_rows
use Rattle.hp_lex_tags.specs.Tags as tags
use Rattle.hp_lex_raw.specs.Fine as raw_fine
use Rattle.hp_lex_raw.specs.Raw as raw
use Rattle.hp_lex_raw.specs.Rows as raw_rows
use Rattle.hp_lex_markup.specs.Fine as markup_fine
use Rattle.hp_lex_markup.specs.Markup as markup
use Rattle.hp_lex_markup.specs.Rows as markup_rows
use Rattle.hp_lex_markup.specs.Words.{asks, count, is_open, word}
use Rattle.hp_lex_markup.specs.declared.words.Word.{Word}
use Rattle.hp_lex_markup.specs.declared.words.Word.TheVariants.{Hyphens, Doctype, Cdata, Public, System}
use Rattle.hp_lexer.specs.Table.{table}
use Rattle.hp_control.specs.States.{may_be_ahead}
use Rattle.hp_pieces.proofs.FitNames.{open-built_in}
use Rattle.hp_pieces.proofs.FitRows.{Fits, Keeps, cr-fits, entered, flushed-told}
use Rattle.hp_pieces.proofs.FitMarkup as markup_fits
use Rattle.hp_pieces.proofs.FitRaw as raw_fits
use Rattle.hp_pieces.proofs.FitTags as tag_fits

abbrev pub MoveKeeps : State → List ℕ → Move → Type 0
MoveKeeps s text needs_more = may_be_ahead s text ≡ true
MoveKeeps s text (asks_cdata f h) = Fits f.machine × Fits h.machine
MoveKeeps s text asks_last_tag = ⊥
MoveKeeps s text (makes m es) = Fits m.machine
MoveKeeps s text (ends es) = ⊥

-- no row ends the input on a code point
no_end : (s : State) (c : ℕ) (to : State) (reads : Reads) → Falls s (Some c) to reads → reads ≡ End → ⊥
no_end s c to Consume h e = cc
no_end s c to Again h e = cc
no_end s c to End h e = h

after_row_keeps : (r : Row) (l : Lexing) (c : ℕ) (cs : List ℕ) (s : State) (text : List ℕ) (reads : Reads) → Keeps r → (reads ≡ End → ⊥) → MoveKeeps s text (after_row r l c cs reads)
after_row_keeps r l c cs s text Consume k n = cr-fits r.to (c == 13) k.fits
after_row_keeps r l c cs s text Again k n = k.fits
after_row_keeps r l c cs s text End k n = absurd (n refl)

-- a row that is there
row_here : (b : Bool) (r : Row) (l : Lexing) (c : ℕ) (cs : List ℕ) (s : State) (text : List ℕ) → IsTrue b → (IsTrue b → Keeps r) → (IsTrue b → r.reads ≡ End → ⊥) → MoveKeeps s text (cond b (after_row r l c cs r.reads) needs_more)
row_here true r l c cs s text h k n = after_row_keeps r l c cs s text r.reads (k h) (n h)
row_here false r l c cs s text h k n = cc

reference_keeps : (o : Option Found) (l : Lexing) (s : State) (text : List ℕ) → IsSome l.machine.last_tag → MoveKeeps s text (reference_move o l)
reference_keeps None l s text h = entered AmbiguousAmpersand (flushed l.machine) (flushed-told l.machine h)
reference_keeps (Some f) l s text h =
    let m : Machine = with_found f l.machine l.unread in
    entered (return_state m.return_to) (flushed m) (flushed-told m h)

named_keeps : (b : Bool) (l : Lexing) → is_open_name built_in l.unread ≡ b → IsSome l.machine.last_tag → MoveKeeps NamedCharacterReference l.unread (cond b needs_more (reference_move (longest built_in l.unread) l))
named_keeps true l e h = open-built_in l.unread e
named_keeps false l e h = reference_keeps (longest built_in l.unread) l NamedCharacterReference l.unread h

tags_keep : (s : State) (l : Lexing) (c : ℕ) (cs : List ℕ) → l.machine.state ≡ s → Fits l.machine → IsTrue (tags.is_here s) → MoveKeeps s l.unread (tags.on_state s built_in l c cs)
tags_keep NamedCharacterReference l c cs e h k = named_keeps (is_open_name built_in l.unread) l refl h.told
tags_keep s l c cs e h k =
    row_here (tag_rows.has_row s) (tag_rows.row l.machine (Some (read_as c))) l c cs s l.unread k
    (λ x. tag_fits.row_keeps l.machine (read_as c) h (subst (λ y. IsTrue (tag_rows.has_row y)) (sym e) x))
    (λ x. no_end l.machine.state (read_as c) (tag_rows.row l.machine (Some (read_as c))).to.state (tag_rows.row l.machine (Some (read_as c))).reads (tag_fine.row_fine l.machine (Some (read_as c)) (subst (λ y. IsTrue (tag_rows.has_row y)) (sym e) x)).falls)

-- the last start tag's name is told
never_asks : (a e : Bool) (o : Option (List ℕ)) → IsSome o → ((a && raw.is_untold o) && e) ≡ true → ⊥
never_asks a e None h q = absurd (cc)
never_asks true e (Some name) h q = absurd (cc)
never_asks false e (Some name) h q = absurd (cc)

raw_keeps : (l : Lexing) (c : ℕ) (cs : List ℕ) → Fits l.machine → IsTrue (raw_rows.has_row l.machine.state) → MoveKeeps l.machine.state l.unread (raw.raw_rules.on l c cs)
raw_keeps l c cs h k = by_cases (raw_rows.has_row l.machine.state) k (raw.asks l.machine c) refl
  where
    by_cases : (b : Bool) → IsTrue b → (a : Bool) → raw.asks l.machine c ≡ a → MoveKeeps l.machine.state l.unread (cond b (cond a asks_last_tag (row_move raw_rows.row l c cs)) needs_more)
    by_cases true t true q = absurd (never_asks (raw.names_end_tag l.machine.state) (raw_rows.ends_name (read_as c)) l.machine.last_tag h.told q)
    by_cases true t false q =
        after_row_keeps (raw_rows.row l.machine (Some (read_as c))) l c cs l.machine.state l.unread (raw_rows.row l.machine (Some (read_as c))).reads (raw_fits.row_keeps l.machine (read_as c) h k)
        (no_end l.machine.state (read_as c) (raw_rows.row l.machine (Some (read_as c))).to.state (raw_rows.row l.machine (Some (read_as c))).reads (raw_fine.row_fine l.machine (Some (read_as c)) k).falls)
    by_cases false t a q = cc

word-fits : (w : Word) (m : Machine) → IsSome m.last_tag → Fits (markup.after_word w m)
word-fits Hyphens m h = entered CommentStart (new_comment (markup.behind_word m)) h
word-fits Doctype m h = entered DoctypeState (markup.behind_word m) h
word-fits Cdata m h = entered BogusComment (putting_text parts.Comment (codes "[CDATA[") (new_comment (markup.behind_word m))) h
word-fits Public m h = entered AfterDoctypePublicKeyword (markup.behind_word m) h
word-fits System m h = entered AfterDoctypeSystemKeyword (markup.behind_word m) h

asked_keeps : (b : Bool) (w : Word) (l : Lexing) (s : State) (text : List ℕ) → IsSome l.machine.last_tag
    → MoveKeeps s text (cond b (asks_cdata (taking (count w) (markup.in_section l.machine) l) (taking (count w) (markup.after_word w l.machine) l)) (markup.past_word w l))
asked_keeps true w l s text h = (entered CdataSection (markup.behind_word l.machine) h, word-fits w l.machine h)
asked_keeps false w l s text h = word-fits w l.machine h

word_keeps : (o : Option Word) (l : Lexing) (c : ℕ) (cs : List ℕ) (s : State) → Fits l.machine → IsTrue (markup_rows.is_here l.machine.state) → MoveKeeps s l.unread (markup.word_read o l c cs)
word_keeps None l c cs s h k =
    after_row_keeps (markup_rows.row l.machine (Some (read_as c))) l c cs s l.unread (markup_rows.row l.machine (Some (read_as c))).reads (markup_fits.here_keeps l.machine (read_as c) h k)
    (no_end l.machine.state (read_as c) (markup_rows.row l.machine (Some (read_as c))).to.state (markup_rows.row l.machine (Some (read_as c))).reads (markup_fine.here_fine l.machine (Some (read_as c)) k).falls)
word_keeps (Some w) l c cs s h k = asked_keeps (asks w) w l s l.unread h.told

markup_keep : (s : State) (l : Lexing) (c : ℕ) (cs : List ℕ) → l.machine.state ≡ s → Fits l.machine → IsTrue (markup_rows.is_here s) → MoveKeeps s l.unread (markup.on_state s l c cs)
markup_keep MarkupDeclarationOpen l c cs e h k = by_cases (is_open l.machine.state l.unread) refl
  where
    by_cases : (b : Bool) → is_open l.machine.state l.unread ≡ b → MoveKeeps MarkupDeclarationOpen l.unread (cond b needs_more (markup.word_read (word l.machine.state l.unread) l c cs))
    by_cases true q = subst (λ x. is_open x l.unread ≡ true) e q
    by_cases false q = word_keeps (word l.machine.state l.unread) l c cs MarkupDeclarationOpen h (subst (λ x. IsTrue (markup_rows.is_here x)) (sym e) refl)
markup_keep AfterDoctypeName l c cs e h k = by_cases (is_open l.machine.state l.unread) refl
  where
    by_cases : (b : Bool) → is_open l.machine.state l.unread ≡ b → MoveKeeps AfterDoctypeName l.unread (cond b needs_more (markup.word_read (word l.machine.state l.unread) l c cs))
    by_cases true q = subst (λ x. is_open x l.unread ≡ true) e q
    by_cases false q = word_keeps (word l.machine.state l.unread) l c cs AfterDoctypeName h (subst (λ x. IsTrue (markup_rows.is_here x)) (sym e) refl)
markup_keep s l c cs e h k =
    row_here (markup_rows.has_row s) (markup_rows.row l.machine (Some (read_as c))) l c cs s l.unread k
    (λ x. markup_fits.row_keeps l.machine (read_as c) h (subst (λ y. IsTrue (markup_rows.has_row y)) (sym e) x))
    (λ x. no_end l.machine.state (read_as c) (markup_rows.row l.machine (Some (read_as c))).to.state (markup_rows.row l.machine (Some (read_as c))).reads (markup_fine.row_fine l.machine (Some (read_as c)) (subst (λ y. IsTrue (markup_rows.has_row y)) (sym e) x)).falls)

-- each state is in one of the three parts
in_parts : (s : State) → (tags.is_here s || (raw.is_here s || markup_rows.is_here s)) ≡ true
in_parts Data = refl
in_parts _ = refl

third : (a b c : Bool) → (a || (b || c)) ≡ true → a ≡ false → b ≡ false → c ≡ true
third true b c h e f = cc
third false true c h e f = cc
third false false c h e f = h

table_keeps : (l : Lexing) (c : ℕ) (cs : List ℕ) → Fits l.machine → MoveKeeps l.machine.state l.unread ((table built_in).on l c cs)
table_keeps l c cs h = by_part (tags.is_here l.machine.state) refl (raw.is_here l.machine.state) refl
  where
    by_part : (a : Bool) → tags.is_here l.machine.state ≡ a → (b : Bool) → raw.is_here l.machine.state ≡ b
        → MoveKeeps l.machine.state l.unread (cond a ((tags.tag_rules built_in).on l c cs) (cond b (raw.raw_rules.on l c cs) (markup.markup_rules.on l c cs)))
    by_part true e b f = tags_keep l.machine.state l c cs refl h e
    by_part false e true f = raw_keeps l c cs h f
    by_part false e false f = markup_keep l.machine.state l c cs refl h (third (tags.is_here l.machine.state) (raw.is_here l.machine.state) (markup_rows.is_here l.machine.state) (in_parts l.machine.state) e f)

-- nothing read ahead decides nothing
nothing_ahead : (s : State) → may_be_ahead s [] ≡ true
nothing_ahead MarkupDeclarationOpen = refl
nothing_ahead AfterDoctypeName = refl
nothing_ahead NamedCharacterReference = refl
nothing_ahead _ = refl

pair_keeps : (b : Bool) (l : Lexing) (cs : List ℕ) (s : State) (text : List ℕ) (other : Move) → Fits l.machine → MoveKeeps s text other → MoveKeeps s text (cond b (after_pair l cs) other)
pair_keeps true l cs s text other h k = cr-fits l.machine false h
pair_keeps false l cs s text other h k = k

on_keeps : (l : Lexing) (text : List ℕ) → l.unread ≡ text → Fits l.machine → MoveKeeps l.machine.state l.unread (move_on (table built_in) l text)
on_keeps l [] e h = subst (λ x. may_be_ahead l.machine.state x ≡ true) (sym e) (nothing_ahead l.machine.state)
on_keeps l (c ∷ cs) e h = pair_keeps (l.machine.after_cr && c == 10) l cs l.machine.state l.unread ((table built_in).on l c cs) h (table_keeps l c cs h)

pub move_keeps : (l : Lexing) → Fits l.machine → MoveKeeps l.machine.state l.unread (move (table built_in) l)
move_keeps l h = on_keeps l l.unread refl h
