-- The moves of the whole table emit code points one by one, so that what the run asks so is what it asks in one of its readings.
use Rattle.std.proofs.Common.{◌≡◌, ℕ, List, [], ◌∷◌, Bool, true, false, ◌&&◌, cond, refl, ap, sym, subst, inl, Option, None, Some}
use Rattle.std.specs.Prelude.{◌==◌, IsTrue}
use Rattle.hp_elements.specs.declared.token.Token.{Token}
use Rattle.hp_elements.specs.declared.token.Token.TheVariants as token
use Rattle.hp_names.specs.References.{Reference}
use Rattle.hp_names.specs.Longest.{is_open as is_open_name, longest}
use Rattle.hp_names.specs.declared.names.Found.{Found}
use Rattle.hp_tokens.specs.declared.rows.Reads.{Reads}
use Rattle.hp_tokens.specs.declared.rows.Reads.TheVariants.{Consume, Again, End}
use Rattle.hp_tokens.specs.declared.state.State.{State}
use Rattle.hp_tokens.specs.declared.state.State.TheVariants.{NamedCharacterReference, MarkupDeclarationOpen, AfterDoctypeName}
use Rattle.hp_tokens.specs.Advancing.{singles, tokens_of}
use Rattle.hp_tokens.specs.Moves.{Emitted, Lexing, Move, needs_more, asks_cdata, asks_last_tag, makes, after_row, all_began, move, move_on, read_as, row_move, taking}
use Rattle.hp_tokens.specs.Ranks.{AreSingle}
use Rattle.hp_tokens.specs.Rows.{Row}
use Rattle.hp_tokens.proofs.FineRows.{flushed-single}
use Rattle.hp_lex_tags.specs.Fine as tag_fine
use Rattle.hp_lex_tags.specs.Tags as tags
use Rattle.hp_lex_tags.specs.Rows as tag_rows
use Rattle.hp_lex_tags.specs.Named.{reference_move, with_found}
use Rattle.hp_lex_raw.specs.Fine as raw_fine
use Rattle.hp_lex_raw.specs.Raw as raw
use Rattle.hp_lex_raw.specs.Rows as raw_rows
use Rattle.hp_lex_markup.specs.Fine as markup_fine
use Rattle.hp_lex_markup.specs.Markup as markup
use Rattle.hp_lex_markup.specs.Rows as markup_rows
use Rattle.hp_lex_markup.specs.Words.{asks, count, is_open, word}
use Rattle.hp_lex_markup.specs.declared.words.Word.{Word}
use Rattle.hp_lexer.specs.Table.{table}
use Rattle.hp_control.specs.declared.question.Question.{Question}
use Rattle.hp_control.specs.States.{ControlState}
use Rattle.hp_runs.specs.Closing.{last, stays}
use Rattle.hp_asked.specs.Laws.{RightSingly}
use Rattle.hp_asked.specs.Right.{AsksOver, entry, onward as begun_onward}
use Rattle.hp_asked.specs.Seeking.{AreFilled, Asks, Seeker, Spells, name, nothing, onward, section, tokens}
use Rattle.hp_asked.specs.Singly.{AsksSingly, AsksSinglyOver, entry as entry_singly, from_there, name as name_singly, nothing as nothing_singly, onward as onward_singly, section as section_singly, tokens as tokens_singly}

abbrev IsSingleMove : Move → Type 0
IsSingleMove (makes l es) = AreSingle (tokens_of es)
IsSingleMove _ = Unit {0}

began-single : (place : ℕ) (ts : List Token) → AreSingle ts → AreSingle (tokens_of (all_began place ts))
began-single place [] h = tt
began-single place (t ∷ ts) h = (h.0, began-single place ts h.1)

after_row-single : (r : Row) (l : Lexing) (c : ℕ) (cs : List ℕ) (reads : Reads) → AreSingle r.emits → IsSingleMove (after_row r l c cs reads)
after_row-single r l c cs Consume h = began-single l.rested r.emits h
after_row-single r l c cs Again h = began-single l.rested r.emits h
after_row-single r l c cs End h = tt

-- a row that is there
row-single : (b : Bool) (r : Row) (l : Lexing) (c : ℕ) (cs : List ℕ) → (b ≡ true → AreSingle r.emits) → IsSingleMove (cond b (after_row r l c cs r.reads) needs_more)
row-single true r l c cs h = after_row-single r l c cs r.reads (h refl)
row-single false r l c cs h = tt

either-single : (b : Bool) (x y : Move) → IsSingleMove x → IsSingleMove y → IsSingleMove (cond b x y)
either-single true x y h k = h
either-single false x y h k = k

reference-single : (o : Option Found) (l : Lexing) → IsSingleMove (reference_move o l)
reference-single None l = began-single l.rested _ (flushed-single l.machine)
reference-single (Some f) l = began-single l.rested _ (flushed-single (with_found f l.machine l.unread))

tags-single : (s : State) (names : List Reference) (l : Lexing) (c : ℕ) (cs : List ℕ) → s ≡ l.machine.state → IsSingleMove (tags.on_state s names l c cs)
tags-single NamedCharacterReference names l c cs e = either-single (is_open_name names l.unread) needs_more (reference_move (longest names l.unread) l) tt (reference-single (longest names l.unread) l)
tags-single s names l c cs e = row-single (tag_rows.has_row s) (tag_rows.row l.machine (Some (read_as c))) l c cs (λ h. (tag_fine.row_fine l.machine (Some (read_as c)) (subst (λ x. tag_rows.has_row x ≡ true) e h)).single)

raw-single : (l : Lexing) (c : ℕ) (cs : List ℕ) → IsSingleMove (raw.raw_rules.on l c cs)
raw-single l c cs = go (raw_rows.has_row l.machine.state) refl (raw.asks l.machine c)
  where
    go : (b : Bool) → raw_rows.has_row l.machine.state ≡ b → (a : Bool) → IsSingleMove (cond b (cond a asks_last_tag (row_move raw_rows.row l c cs)) needs_more)
    go true e true = tt
    go true e false = after_row-single (raw_rows.row l.machine (Some (read_as c))) l c cs _ (raw_fine.row_fine l.machine (Some (read_as c)) e).single
    go false e a = tt

word-single : (o : Option Word) (l : Lexing) (c : ℕ) (cs : List ℕ) → IsTrue (markup_rows.is_here l.machine.state) → IsSingleMove (markup.word_read o l c cs)
word-single None l c cs h = after_row-single (markup_rows.row l.machine (Some (read_as c))) l c cs _ (markup_fine.here_fine l.machine (Some (read_as c)) h).single
word-single (Some w) l c cs h = go (asks w)
  where
    go : (b : Bool) → IsSingleMove (cond b (asks_cdata (taking (count w) (markup.in_section l.machine) l) (taking (count w) (markup.after_word w l.machine) l)) (markup.past_word w l))
    go true = tt
    go false = tt

markup-single : (s : State) (l : Lexing) (c : ℕ) (cs : List ℕ) → s ≡ l.machine.state → IsSingleMove (markup.on_state s l c cs)
markup-single MarkupDeclarationOpen l c cs e = either-single (is_open l.machine.state l.unread) needs_more (markup.word_read (word l.machine.state l.unread) l c cs) tt (word-single (word l.machine.state l.unread) l c cs (subst (λ x. markup_rows.is_here x ≡ true) e refl))
markup-single AfterDoctypeName l c cs e = either-single (is_open l.machine.state l.unread) needs_more (markup.word_read (word l.machine.state l.unread) l c cs) tt (word-single (word l.machine.state l.unread) l c cs (subst (λ x. markup_rows.is_here x ≡ true) e refl))
markup-single s l c cs e = row-single (markup_rows.has_row s) (markup_rows.row l.machine (Some (read_as c))) l c cs (λ h. (markup_fine.row_fine l.machine (Some (read_as c)) (subst (λ x. markup_rows.has_row x ≡ true) e h)).single)

on-single : (names : List Reference) (l : Lexing) (text : List ℕ) → IsSingleMove (move_on (table names) l text)
on-single names l [] = tt
on-single names l (c ∷ cs) =
    either-single (l.machine.after_cr && c == 10) _ _ tt
    (either-single (tags.is_here l.machine.state) _ _ (tags-single l.machine.state names l c cs refl)
    (either-single (raw.is_here l.machine.state) _ _ (raw-single l c cs) (markup-single l.machine.state l c cs refl)))

single-move : (names : List Reference) (l m : Lexing) (es : List Emitted) → move (table names) l ≡ makes m es → AreSingle (tokens_of es)
single-move names l m es made = subst IsSingleMove made (on-single names l l.unread)

single-spelled : (ts : List Token) → AreSingle ts → AreFilled ts × (singles ts ≡ ts)
single-spelled [] h = (tt, refl)
single-spelled (token.Characters class text ∷ ts) ((c, one, same), h) =
    let rest = single-spelled ts h in
    subst (λ (xs : List ℕ). AreFilled (token.Characters class xs ∷ ts) × (singles (token.Characters class xs ∷ ts) ≡ token.Characters class xs ∷ ts)) (sym one)
    (rest.0, ap (λ (us : List Token). token.Characters class (c ∷ []) ∷ us) rest.1)
single-spelled (t ∷ ts) h = let rest = single-spelled ts h.1 in (rest.0, ap (λ (us : List Token). t ∷ us) rest.1)

module _ (names : List Reference) (s : ControlState) where
  spells-itself : (k : Seeker) (l : Lexing) (es : List Emitted) → move (table names) k.lexing ≡ makes l es → Spells s k.split (tokens_of es) es
  spells-itself k l es made = inl (single-spelled (tokens_of es) (single-move names k.lexing l es made))

  as-reading : {k : Seeker} {qs : List Question} → AsksSingly names s k qs → Asks names s k qs
  as-reading nothing_singly = nothing
  as-reading {k} (tokens_singly {l = l} {es = es} made) = tokens {ts = tokens_of es} (last made) (spells-itself k l es made)
  as-reading {k} (onward_singly {l = l} {es = es} made ends more) = onward {ts = tokens_of es} (last made) (spells-itself k l es made) ends (as-reading more)
  as-reading (section_singly {is_foreign = is_foreign} asks_it ends more) = section {is_foreign = is_foreign} stays asks_it ends (as-reading more)
  as-reading (name_singly asks_it more) = name stays asks_it (as-reading more)

over-reading : (names : List Reference) (s : ControlState) (text : List ℕ) {qs : List Question} → AsksSinglyOver names s text qs → AsksOver names s text qs
over-reading names s text entry_singly = entry
over-reading names s text (from_there rests more) = begun_onward rests (as-reading names s more)

pub right-singly : RightSingly
right-singly says names s text right = λ qs over. right qs (over-reading names s text over)
