-- A move that is made stays made when more text follows.
use Rattle.std.proofs.Common.{◌≡◌, ℕ, ◌+◌, ◌≤◌, List, [], ◌∷◌, ◌++◌, Bool, true, false, cond, length, refl, ap, ◌∙◌, sym, subst, Option, None, Some}
use Rattle.std.specs.Prelude.{sum_by}
use Rattle.std.specs.Char.{len_utf8}
use Rattle.std.proofs.lemmas.List.{take-append-le, drop-append-le}
use Rattle.hp_tokens.specs.declared.state.State.{State}
use Rattle.hp_tokens.specs.declared.state.State.TheVariants.{MarkupDeclarationOpen, AfterDoctypeName}
use Rattle.hp_tokens.specs.declared.machine.Machine.{Machine}
use Rattle.hp_tokens.specs.declared.rows.Reads.{Reads}
use Rattle.hp_tokens.specs.declared.rows.Reads.TheVariants.{Consume, Again, End}
use Rattle.hp_tokens.specs.Rows.{Row}
use Rattle.hp_tokens.specs.Moves.{Lexing, Move, needs_more, asks_cdata, makes, taking, read_as, after_row, row_move}
use Rattle.hp_tokens.specs.Runs.{followed_by, Stays, IsSteady}
use Rattle.hp_tokens.proofs.Stepping.{stand_same}
use Rattle.hp_lex_markup.specs.declared.words.Word.{Word}
use Rattle.hp_lex_markup.specs.Words.{is_open, word, count, asks}
use Rattle.hp_lex_markup.specs.Rows.{has_row, row}
use Rattle.hp_lex_markup.specs.Markup.{in_section, after_word, word_read, word_move, on_state, markup_rules}
use Rattle.hp_lex_markup.proofs.Spelled.{stays, word_fits}

row_stays : (r : Row) (l : Lexing) (c : ℕ) (cs text : List ℕ) (x : Reads)
    → Stays (after_row r l c cs x) (after_row r (followed_by l text) c (cs ++ text) x) text
row_stays r l c cs text Consume = refl
row_stays r l c cs text Again = refl
row_stays r l c cs text End = tt

taken_same : (n : ℕ) (m : Machine) (l : Lexing) (text : List ℕ) → n ≤ length l.unread
    → taking n m (followed_by l text) ≡ followed_by (taking n m l) text
taken_same n m l text h =
    stand_same {m = m} {m' = m} refl (ap (λ (xs : List ℕ). l.place + sum_by len_utf8 xs) (take-append-le n l.unread text h)) refl
    (drop-append-le n l.unread text h)

word_stays : (b : Bool) (n : ℕ) (m k : Machine) (l : Lexing) (text : List ℕ) → n ≤ length l.unread
    → Stays (cond b (asks_cdata (taking n m l) (taking n k l)) (makes (taking n k l) []))
    (cond b (asks_cdata (taking n m (followed_by l text)) (taking n k (followed_by l text))) (makes (taking n k (followed_by l text)) [])) text
word_stays true n m k l text h =
    ap (λ (x : Lexing). asks_cdata x (taking n k (followed_by l text))) (taken_same n m l text h)
    ∙ ap (λ (x : Lexing). asks_cdata (followed_by (taking n m l) text) x) (taken_same n k l text h)
word_stays false n m k l text h = ap (λ (x : Lexing). makes x []) (taken_same n k l text h)

read_stays : (o : Option Word) (l : Lexing) (c : ℕ) (cs text : List ℕ) → ((w : Word) → o ≡ Some w → count w ≤ length l.unread)
    → Stays (word_read o l c cs) (word_read o (followed_by l text) c (cs ++ text)) text
read_stays None l c cs text h = row_stays (row l.machine (Some (read_as c))) l c cs text (row l.machine (Some (read_as c))).reads
read_stays (Some w) l c cs text h = word_stays (asks w) (count w) (in_section l.machine) (after_word w l.machine) l text (h w refl)

move_stays : (l : Lexing) (c : ℕ) (cs text : List ℕ) → Stays (word_move l c cs) (word_move (followed_by l text) c (cs ++ text)) text
move_stays l c cs text = by_case (is_open l.machine.state l.unread) refl
  where
    by_case : (b : Bool) → is_open l.machine.state l.unread ≡ b
        → Stays (cond b needs_more (word_read (word l.machine.state l.unread) l c cs)) (word_move (followed_by l text) c (cs ++ text)) text
    by_case true e = tt
    by_case false e =
        let s = stays l.machine.state l.unread text e in
        let later : word_move (followed_by l text) c (cs ++ text) ≡ word_read (word l.machine.state l.unread) (followed_by l text) c (cs ++ text) =
        rw s.0 (ap (λ (o : Option Word). word_read o (followed_by l text) c (cs ++ text)) s.1) in
        let P : Move → Type 0 = λ x. Stays (word_read (word l.machine.state l.unread) l c cs) x text in
        subst P (sym later)
        (read_stays (word l.machine.state l.unread) l c cs text (λ w some. word_fits l.machine.state l.unread w some))

either_stays : (b : Bool) (x y : Move) (text : List ℕ) → Stays x y text → Stays (cond b x needs_more) (cond b y needs_more) text
either_stays true x y text h = h
either_stays false x y text h = tt

state_stays : (s : State) (l : Lexing) (c : ℕ) (cs text : List ℕ) → Stays (on_state s l c cs) (on_state s (followed_by l text) c (cs ++ text)) text
state_stays MarkupDeclarationOpen l c cs text = move_stays l c cs text
state_stays AfterDoctypeName l c cs text = move_stays l c cs text
state_stays s l c cs text =
    either_stays (has_row s) (row_move row l c cs) (row_move row (followed_by l text) c (cs ++ text)) text (row_stays (row l.machine (Some (read_as c))) l c cs text (row l.machine (Some (read_as c))).reads)

pub markup_steady : IsSteady markup_rules
markup_steady = record { stays = λ l c cs text. state_stays l.machine.state l c cs text }
