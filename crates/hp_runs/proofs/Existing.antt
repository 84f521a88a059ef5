-- There is a run over each text, and a tree of each page: with each step of the parser what its lexer has before it weighs less.
use Rattle.std.proofs.Common.{◌≡◌, ℕ, zero, suc, ◌-◌, ◌<◌, ◌≤◌, List, [], ◌∷◌, ◌++◌, Bool, true, false, ◌&&◌, cond, length, drop, refl, ap, ◌∙◌, sym, subst, arith, Option, None, Some, length-drop}
use Rattle.std.specs.Prelude.{if◌then◌else◌, ◌==◌, IsTrue}
use Rattle.hp_elements.specs.declared.token.Rest.{Rest}
use Rattle.hp_elements.specs.declared.token.Rest.TheVariants as rest
use Rattle.hp_names.specs.References.{Reference}
use Rattle.hp_names.specs.Longest.{longest}
use Rattle.hp_names.specs.declared.names.Found.{Found}
use Rattle.hp_tokens.specs.declared.machine.Machine.{Machine}
use Rattle.hp_tokens.specs.declared.rows.Reads.{Reads}
use Rattle.hp_tokens.specs.declared.rows.Reads.TheVariants.{Consume, Again, End}
use Rattle.hp_tokens.specs.declared.state.State.{State}
use Rattle.hp_tokens.specs.declared.state.State.TheVariants.{NamedCharacterReference, MarkupDeclarationOpen, AfterDoctypeName}
use Rattle.hp_tokens.specs.States.{state_of_rest}
use Rattle.hp_tokens.specs.Rows.{Row}
use Rattle.hp_tokens.specs.Ranks.{rank, symbol_of, weight, Falls, IsFine}
use Rattle.hp_tokens.specs.Moves.{Lexing, Emitted, Move, needs_more, asks_cdata, asks_last_tag, makes, ends, after_end, after_row, end_move, end_move_on, move, read_as, row_end, taking}
use Rattle.hp_tokens.proofs.Stepping.{rank-below}
use Rattle.hp_lex_tags.specs.Tags as tags
use Rattle.hp_lex_tags.specs.Rows as tag_rows
use Rattle.hp_lex_tags.specs.Fine as tag_fine
use Rattle.hp_lex_tags.specs.Named.{reference_move}
use Rattle.hp_lex_raw.specs.Raw as raw
use Rattle.hp_lex_raw.specs.Rows as raw_rows
use Rattle.hp_lex_raw.specs.Fine as raw_fine
use Rattle.hp_lex_markup.specs.Markup as markup
use Rattle.hp_lex_markup.specs.Rows as markup_rows
use Rattle.hp_lex_markup.specs.Fine as markup_fine
use Rattle.hp_lex_markup.specs.Words.{word}
use Rattle.hp_lex_markup.specs.declared.words.Word.{Word}
use Rattle.hp_lex_markup.specs.declared.words.Word.TheVariants.{Cdata}
use Rattle.hp_lexer.specs.Table.{table}
use Rattle.hp_lexer.proofs.Falling.{AsksCdata, FallsTo, end_move_falls, move_falls}
use Rattle.hp_lexer.proofs.Parts.{markup-else}
use Rattle.hp_control.specs.declared.edit.Edit.{Edit}
use Rattle.hp_control.specs.Composed.{is_foreign_now}
use Rattle.hp_control.specs.Tree.{Tree, applied_all, document}
use Rattle.hp_model.specs.Handling.{handle}
use Rattle.hp_model.specs.Runs.{Parser, rests, goes, Goes, here, onward, Rests, EndsWith, last, before_it, at_lexing, at_start, built, followed_by, step, step_by, switched, told}
use Rattle.hp_runs.specs.Pages.{IsTreeOf, Runs}

-- a switch, and what is handled, make the weight no larger
rank-rest : (to : Rest) (symbol : Option ℕ) → rank (state_of_rest to) symbol ≡ 0
rank-rest rest.Data symbol = refl
rank-rest _ symbol = refl

switched-weight : (to : Option Rest) (l : Lexing) → weight (switched to l) ≤ weight l
switched-weight None l = omega arith
switched-weight (Some to) l = let e : rank (state_of_rest to) (symbol_of l.unread) ≡ 0 = rank-rest to (symbol_of l.unread) in omega arith

built-weight : (es : List Emitted) (p : Parser) → weight (built p es).parser.lexing ≤ weight p.lexing
built-weight [] p = omega arith
built-weight (e ∷ es) p =
    let h = handle p.control e.token in
    let a : weight (built (told p h) es).parser.lexing ≤ weight (told p h).lexing = built-weight es (told p h) in
    let b : weight (switched h.switch p.lexing) ≤ weight p.lexing = switched-weight h.switch p.lexing in
    omega arith

taken-smaller : (m : Machine) (l : Lexing) → 7 ≤ length l.unread → weight (taking 7 m l) < weight l
taken-smaller m l h =
    let a : length (drop 7 l.unread) ≡ length l.unread - 7 = length-drop 7 l.unread in
    let b : rank m.state (symbol_of (drop 7 l.unread)) < 8 = rank-below m.state (symbol_of (drop 7 l.unread)) in
    omega arith

answered-smaller : (b : Bool) (l f h : Lexing) → AsksCdata l f h → weight (if b then f else h) < weight l
answered-smaller true l f h a = subst (λ (x : Lexing). weight x < weight l) (sym a.foreign) (taken-smaller (markup.in_section l.machine) l a.long)
answered-smaller false l f h a = subst (λ (x : Lexing). weight x < weight l) (sym a.html) (taken-smaller (markup.after_word Cdata l.machine) l a.long)

-- where the parser gets to
record Reached (names : List Reference) (p : Parser) : Type 0 where
  pub edits : List Edit
  pub new : Parser
  pub goes : Goes (step (table names)) p edits new
  pub rests : Rests (step (table names)) new

rests_here : (names : List Reference) (p : Parser) → step (table names) p ≡ rests → Reached names p
rests_here names p e = record { edits = []; new = p; goes = here; rests = record { no_step = λ q es f. apart q es (sym e ∙ f) } }
  where
    apart : (q : Parser) (es : List Edit) → rests ≡ goes q es → ⊥
    apart q es h = cc

goes_there : (names : List Reference) (p q : Parser) (es : List Edit) → step (table names) p ≡ goes q es → Reached names q → Reached names p
goes_there names p q es e r = record { edits = es ++ r.edits; new = r.new; goes = onward e r.goes; rests = r.rests }

reached : (names : List Reference) (n : ℕ) (p : Parser) → weight p.lexing < n → Reached names p
reached names zero p h = absurd (omega arith)
reached names (suc n) p h = go (move (table names) p.lexing) refl (move_falls names p.lexing) (reached names n)
  where
    go : (m : Move) → move (table names) p.lexing ≡ m → FallsTo p.lexing m → ((q : Parser) → weight q.lexing < n → Reached names q) → Reached names p
    go needs_more e f more = rests_here names p (ap (step_by p) e)
    go (asks_cdata foreign html) e f more =
        let l : Lexing = if is_foreign_now p.control then foreign else html in
        let s : weight l < weight p.lexing = answered-smaller (is_foreign_now p.control) p.lexing foreign html f in
        goes_there names p (at_lexing p l) [] (ap (step_by p) e) (more (at_lexing p l) (omega arith))
    go asks_last_tag e f more = rests_here names p (ap (step_by p) e)
    go (makes l es) e f more =
        let b = built (at_lexing p l) es in
        let s : weight b.parser.lexing ≤ weight l = built-weight es (at_lexing p l) in
        let t : weight l < weight p.lexing = f.0 in
        goes_there names p b.parser b.edits (ap (step_by p) e) (more b.parser (omega arith))
    go (ends es) e f more = rests_here names p (ap (step_by p) e)

-- at the end of input a move is always made, or the input ends
abbrev MovesOn : Move → Type 0
MovesOn (makes l es) = Unit {0}
MovesOn (ends es) = Unit {0}
MovesOn _ = ⊥

after_end_on : (s : State) (r : Row) (l : Lexing) (reads : Reads) → reads ≡ r.reads → IsFine s None r → MovesOn (after_end r l reads)
after_end_on s r l Consume e fine = subst (λ (x : Reads). Falls s None r.to.state x) (sym e) fine.falls
after_end_on s r l Again e fine = tt
after_end_on s r l End e fine = tt

after_row_on : (s : State) (r : Row) (l : Lexing) (c d : ℕ) (cs : List ℕ) (reads : Reads) → reads ≡ r.reads → IsFine s (Some d) r → MovesOn (after_row r l c cs reads)
after_row_on s r l c d cs Consume e fine = tt
after_row_on s r l c d cs Again e fine = tt
after_row_on s r l c d cs End e fine = subst (λ (x : Reads). Falls s (Some d) r.to.state x) (sym e) fine.falls

row_end_on : (row : Machine → Option ℕ → Row) (l : Lexing) (text : List ℕ) → ((symbol : Option ℕ) → IsFine l.machine.state symbol (row l.machine symbol)) → MovesOn (row_end row l text)
row_end_on row l [] fine = after_end_on l.machine.state (row l.machine None) l (row l.machine None).reads refl (fine None)
row_end_on row l (c ∷ cs) fine = after_row_on l.machine.state (row l.machine (Some (read_as c))) l c (read_as c) cs (row l.machine (Some (read_as c))).reads refl (fine (Some (read_as c)))

on_if : (b : Bool) (x : Move) → b ≡ true → MovesOn x → MovesOn (cond b x needs_more)
on_if true x h m = m
on_if false x h m = absurd (cc)

reference_on : (o : Option Found) (l : Lexing) → MovesOn (reference_move o l)
reference_on None l = tt
reference_on (Some f) l = tt

tags_on : (s : State) (names : List Reference) (l : Lexing) (text : List ℕ) → s ≡ l.machine.state → tags.is_here s ≡ true → MovesOn (tags.last_state s names l text)
tags_on NamedCharacterReference names l text e h = reference_on (longest names l.unread) l
tags_on s names l text e h =
    on_if (tag_rows.has_row s) (row_end tag_rows.row l text) h (row_end_on tag_rows.row l text (λ symbol. tag_fine.row_fine l.machine symbol (subst (λ (x : State). tag_rows.has_row x ≡ true) e h)))

word_on : (o : Option Word) (l : Lexing) (text : List ℕ) → IsTrue (markup_rows.is_here l.machine.state) → MovesOn (markup.word_read_at_end o l text)
word_on None l text h = row_end_on markup_rows.row l text (λ symbol. markup_fine.here_fine l.machine symbol h)
word_on (Some w) l text h = tt

markup_on : (s : State) (l : Lexing) (text : List ℕ) → s ≡ l.machine.state → IsTrue (markup_rows.is_here s) → MovesOn (markup.last_state s l text)
markup_on MarkupDeclarationOpen l text e h = word_on (word l.machine.state l.unread) l text (subst (λ (x : State). IsTrue (markup_rows.is_here x)) e h)
markup_on AfterDoctypeName l text e h = word_on (word l.machine.state l.unread) l text (subst (λ (x : State). IsTrue (markup_rows.is_here x)) e h)
markup_on s l text e h =
    on_if (markup_rows.has_row s) (row_end markup_rows.row l text) h (row_end_on markup_rows.row l text (λ symbol. markup_fine.here_fine l.machine symbol (subst (λ (x : State). IsTrue (markup_rows.is_here x)) e h)))

parts_on : (a b : Bool) (x y z : Move) → (a ≡ true → MovesOn x) → (b ≡ true → MovesOn y) → (a ≡ false → b ≡ false → MovesOn z) → MovesOn (cond a x (cond b y z))
parts_on true b x y z f g h = f refl
parts_on false true x y z f g h = g refl
parts_on false false x y z f g h = h refl refl

last_on : (names : List Reference) (l : Lexing) (text : List ℕ) → MovesOn ((table names).last l text)
last_on names l text =
    parts_on (tags.is_here l.machine.state) (raw.is_here l.machine.state) _ _ _
    (λ h. tags_on l.machine.state names l text refl h)
    (λ h. on_if (raw_rows.has_row l.machine.state) (row_end raw_rows.row l text) h (row_end_on raw_rows.row l text (λ symbol. raw_fine.row_fine l.machine symbol h)))
    (λ h k. markup_on l.machine.state l text refl (markup-else l.machine.state h k))

either_on : (b : Bool) (x y : Move) → MovesOn x → MovesOn y → MovesOn (cond b x y)
either_on true x y h k = h
either_on false x y h k = k

end_on : (names : List Reference) (l : Lexing) (text : List ℕ) → MovesOn (end_move_on (table names) l text)
end_on names l [] = last_on names l []
end_on names l (c ∷ cs) = either_on (l.machine.after_cr && c == 10) _ _ tt (last_on names l (c ∷ cs))

end_reached : (names : List Reference) (n : ℕ) (p : Parser) → weight p.lexing < n → (es : List Edit) × EndsWith (table names) p es
end_reached names zero p h = absurd (omega arith)
end_reached names (suc n) p h = go (end_move (table names) p.lexing) refl (end_move_falls names p.lexing) (end_on names p.lexing p.lexing.unread) (end_reached names n)
  where
    go : (m : Move) → end_move (table names) p.lexing ≡ m → FallsTo p.lexing m → MovesOn m → ((q : Parser) → weight q.lexing < n → (es : List Edit) × EndsWith (table names) q es) → (es : List Edit) × EndsWith (table names) p es
    go needs_more e f on more = absurd on
    go (asks_cdata foreign html) e f on more = absurd on
    go asks_last_tag e f on more = absurd on
    go (makes l es) e f on more =
        let b = built (at_lexing p l) es in
        let s : weight b.parser.lexing ≤ weight l = built-weight es (at_lexing p l) in
        let t : weight l < weight p.lexing = f.0 in
        let (fs, rest) = more b.parser (omega arith) in
        (b.edits ++ fs, before_it {q = b.parser} {es = b.edits} {fs = fs} (ap (step_by p) e) rest)
    go (ends es) e f on more = ((built p es).edits, last {es = es} e)

pub run_exists : (names : List Reference) (old : Parser) (text : List ℕ) → (edits : List Edit) × (new : Parser) × Runs names old text edits new
run_exists names old text =
    let r = reached names (suc (weight (followed_by old text).lexing)) (followed_by old text) (omega arith) in
    (r.edits, r.new, record { goes = r.goes; rests = r.rests })

pub tree_exists : (names : List Reference) (page : List ℕ) → (tree : Tree) × IsTreeOf names page tree
tree_exists names page =
    let (edits, new, runs) = run_exists names at_start page in
    let (at_end, ended) = end_reached names (suc (weight new.lexing)) new (omega arith) in
    (applied_all document (edits ++ at_end), record { read = new; edits = edits; at_end = at_end; runs = runs; ends = ended; builds = refl })
