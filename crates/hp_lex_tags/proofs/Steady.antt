-- A move that is made stays made when more text follows.
use Rattle.std.proofs.Common.{◌≡◌, ℕ, ◌+◌, ◌≤◌, List, [], ◌∷◌, ◌++◌, Bool, true, false, ◌&&◌, cond, not, length, take, drop, refl, ap, ◌∙◌, sym, arith, Option, None, Some, length-drop, eq-eqb}
use Rattle.std.specs.Prelude.{◌==◌, sum_by}
use Rattle.std.specs.Char.{len_utf8}
use Rattle.std.proofs.lemmas.List.{take-append-le, drop-append-le}
use Rattle.hp_names.specs.References.{Reference}
use Rattle.hp_names.specs.Longest.{longest, is_open, is_whole_unclosed}
use Rattle.hp_names.specs.declared.names.Found.{Found}
use Rattle.hp_names.proofs.OpenLemmas.{closed-ended, whole-open, stays-closed}
use Rattle.hp_tokens.specs.declared.state.State.{State}
use Rattle.hp_tokens.specs.declared.state.State.TheVariants.{NamedCharacterReference}
use Rattle.hp_tokens.specs.declared.machine.Machine.{Machine}
use Rattle.hp_tokens.specs.declared.rows.Reads.{Reads}
use Rattle.hp_tokens.specs.declared.rows.Reads.TheVariants.{Consume, Again, End}
use Rattle.hp_tokens.specs.Reading.{first}
use Rattle.hp_tokens.specs.States.{is_in_value}
use Rattle.hp_tokens.specs.Rows.{Row, flushed_tokens, with_buffer}
use Rattle.hp_tokens.specs.Moves.{Lexing, Move, needs_more, makes, taking, all_began, read_as, after_row, row_move}
use Rattle.hp_tokens.specs.Runs.{followed_by, Stays, IsSteady}
use Rattle.hp_tokens.proofs.Stepping.{stand_same}
use Rattle.hp_lex_tags.specs.Named.{reference_move, named_move, goes_on, is_no_reference, read_buffer, with_found, gone_back}
use Rattle.hp_lex_tags.specs.Rows.{has_row, row}
use Rattle.hp_lex_tags.specs.Tags.{tag_rules, on_state}
use Rattle.hp_lex_tags.proofs.NamedSteps.{longest-within}

row_stays : (r : Row) (l : Lexing) (c : ℕ) (cs text : List ℕ) (x : Reads)
    → Stays (after_row r l c cs x) (after_row r (followed_by l text) c (cs ++ text) x) text
row_stays r l c cs text Consume = refl
row_stays r l c cs text Again = refl
row_stays r l c cs text End = tt

either_stays : (text : List ℕ) (here : Bool) (x y : Move) → Stays x y text → Stays (cond here x needs_more) (cond here y needs_more) text
either_stays text true x y h = h
either_stays text false x y h = tt

neither : (a x y : Bool) → ((a && false) && x) ≡ ((a && false) && y)
neither true x y = refl
neither false x y = refl

ended : (a b : Bool) → (a && not b) ≡ false → a ≡ true → b ≡ true
ended true true h e = refl
ended true false h e = cc
ended false b h e = cc

-- whether a name is a reference is decided by what is behind it, or by its semicolon
behind : (f : Found) (m : Machine) (u text d : List ℕ) → f.length ≤ length u → is_whole_unclosed (Some f) u ≡ false → drop f.length u ≡ d
    → is_no_reference f m (first (d ++ text)) ≡ is_no_reference f m (first d)
behind f m u text (c ∷ cs) fits whole e = refl
behind f m u text [] fits whole e =
    let same : f.length ≡ length u = omega (arith, ap length e, length-drop f.length u, fits) in
    let closed : f.ends_with_semicolon ≡ true = ended (f.length == length u) f.ends_with_semicolon whole (eq-eqb f.length (length u) same) in
    rw closed (neither (is_in_value m.return_to) (goes_on (first text)) (goes_on None))

with_found_stays : (f : Found) (m : Machine) (u text : List ℕ) → f.length ≤ length u → is_whole_unclosed (Some f) u ≡ false
    → with_found f m (u ++ text) ≡ with_found f m u
with_found_stays f m u text fits whole =
    let taken : take f.length (u ++ text) ≡ take f.length u = take-append-le f.length u text fits in
    let left : drop f.length (u ++ text) ≡ drop f.length u ++ text = drop-append-le f.length u text fits in
    let kept : is_no_reference f m (first (drop f.length (u ++ text))) ≡ is_no_reference f m (first (drop f.length u)) =
    ap (λ (xs : List ℕ). is_no_reference f m (first xs)) left ∙ behind f m u text (drop f.length u) fits whole refl in
    ap (λ (k : Bool). with_buffer (read_buffer f k (take f.length (u ++ text))) m) kept
    ∙ ap (λ (xs : List ℕ). with_buffer (read_buffer f (is_no_reference f m (first (drop f.length u))) xs) m) taken

reference_stays : (o : Option Found) (l : Lexing) (text : List ℕ)
    → ((f : Found) → o ≡ Some f → (f.length ≤ length l.unread) × (is_whole_unclosed (Some f) l.unread ≡ false))
    → Stays (reference_move o l) (reference_move o (followed_by l text)) text
reference_stays None l text h = refl
reference_stays (Some f) l text h =
    let fits : f.length ≤ length l.unread = (h f refl).0 in
    let found : Machine = with_found f l.machine l.unread in
    let same : with_found f l.machine (l.unread ++ text) ≡ found = with_found_stays f l.machine l.unread text fits (h f refl).1 in
    let taken : take f.length (l.unread ++ text) ≡ take f.length l.unread = take-append-le f.length l.unread text fits in
    let place : l.place + sum_by len_utf8 (take f.length (l.unread ++ text)) ≡ l.place + sum_by len_utf8 (take f.length l.unread) =
    ap (λ (xs : List ℕ). l.place + sum_by len_utf8 xs) taken in
    ap (λ (m : Machine). makes (taking f.length (gone_back m) (followed_by l text)) (all_began l.rested (flushed_tokens m))) same
    ∙ ap (λ (x : Lexing). makes x (all_began l.rested (flushed_tokens found)))
    (stand_same refl place refl (drop-append-le f.length l.unread text fits))

named_stays : (names : List Reference) (l : Lexing) (text : List ℕ) → Stays (named_move names l) (named_move names (followed_by l text)) text
named_stays names l text = by_cases (is_open names l.unread) refl
  where
    by_cases : (b : Bool) → is_open names l.unread ≡ b
        → Stays (cond b needs_more (reference_move (longest names l.unread) l)) (named_move names (followed_by l text)) text
    by_cases true e = tt
    by_cases false e =
        let closed = stays-closed names l.unread e text in
        rw (closed.1, closed.0)
        (reference_stays (longest names l.unread) l text
        (λ f found. (
          longest-within names l.unread f found,
          ap (λ (o : Option Found). is_whole_unclosed o l.unread) (sym found) ∙ (whole-open names l.unread (closed-ended names l.unread e) ∙ e),
        )))

tags_stay : (s : State) (names : List Reference) (l : Lexing) (c : ℕ) (cs text : List ℕ)
    → Stays (on_state s names l c cs) (on_state s names (followed_by l text) c (cs ++ text)) text
tags_stay NamedCharacterReference names l c cs text = named_stays names l text
tags_stay s names l c cs text =
    either_stays text (has_row s) (row_move row l c cs) (row_move row (followed_by l text) c (cs ++ text))
    (row_stays (row l.machine (Some (read_as c))) l c cs text (row l.machine (Some (read_as c))).reads)

pub tags_steady : (names : List Reference) → IsSteady (tag_rules names)
tags_steady names = record { stays = λ l c cs text. tags_stay l.machine.state names l c cs text }
