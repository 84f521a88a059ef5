-- With each move of the table the weight of what is unread and of the state falls.
use Rattle.std.proofs.Common.{◌≡◌, ℕ, zero, suc, ◌+◌, ◌*◌, ◌<◌, ◌≤◌, List, [], ◌∷◌, Bool, true, false, cond, length, drop, refl, ap, ◌∙◌, sym, subst, arith, Option, None, Some, length-drop}
use Rattle.std.specs.Prelude.{◌==◌, ◌&&◌, IsTrue, sum_by, codes}
use Rattle.std.specs.Char.{len_utf8}
use Rattle.hp_names.specs.References.{Reference}
use Rattle.hp_names.specs.Longest.{longest, is_open as is_open_name}
use Rattle.hp_names.specs.declared.names.Found.{Found}
use Rattle.hp_tokens.specs.declared.state.State.{State}
use Rattle.hp_tokens.specs.declared.state.State.TheVariants.{NamedCharacterReference, MarkupDeclarationOpen, AfterDoctypeName}
use Rattle.hp_tokens.specs.declared.state.Return.{Return}
use Rattle.hp_tokens.specs.declared.state.Return.TheVariants as returns
use Rattle.hp_tokens.specs.declared.machine.Machine.{Machine}
use Rattle.hp_tokens.specs.declared.rows.Reads.{Reads}
use Rattle.hp_tokens.specs.declared.rows.Reads.TheVariants.{Consume, Again, End}
use Rattle.hp_tokens.specs.States.{return_state, is_resting}
use Rattle.hp_tokens.specs.Rows.{Row}
use Rattle.hp_tokens.specs.Moves.{Lexing, Emitted, Move, needs_more, asks_cdata, asks_last_tag, makes, read_as, after_row, row_move, after_end, row_end, taking, after_pair, move_on, move, end_move_on, end_move, standing}
use Rattle.hp_tokens.specs.Runs.{Leads, here, onward}
use Rattle.hp_tokens.specs.Ranks.{rank, symbol_of, weight, Falls, IsFine}
use Rattle.hp_tokens.proofs.Stepping.{rank-below, read_smaller, again_smaller}
use Rattle.hp_lex_tags.specs.Tags as tags
use Rattle.hp_lex_tags.specs.Rows as tag_rows
use Rattle.hp_lex_tags.specs.Fine as tag_fine
use Rattle.hp_lex_tags.specs.Named.{reference_move}
use Rattle.hp_lex_raw.specs.Raw as raw
use Rattle.hp_lex_raw.specs.Rows as raw_rows
use Rattle.hp_lex_raw.specs.Fine as raw_fine
use Rattle.hp_lex_markup.specs.Markup as markup
use Rattle.hp_lex_markup.specs.Rows as markup_rows
use Rattle.hp_lex_markup.specs.Fine as markup_fine
use Rattle.hp_lex_markup.specs.Words.{is_open, word, markup_word, keyword, begins, begins_without_case, count}
use Rattle.std.proofs.lemmas.Bool.{and_parts}
use Rattle.std.proofs.lemmas.List.Sums.{sum_by-cons}
use Rattle.hp_lex_markup.specs.declared.words.Word.{Word}
use Rattle.hp_lex_markup.specs.declared.words.Word.TheVariants.{Hyphens, Doctype, Cdata, Public, System}
use Rattle.hp_lexer.specs.Table.{table}
use Rattle.hp_lexer.proofs.Parts.{markup-else}

abbrev pub bytes : List ℕ → ℕ
bytes text = sum_by len_utf8 text

-- the question behind `[CDATA[`, where that is unread
pub record AsksCdata (l f h : Lexing) : Type 0 where
  pub foreign : f ≡ taking 7 (markup.in_section l.machine) l
  pub html : h ≡ taking 7 (markup.after_word Cdata l.machine) l
  pub long : 7 ≤ length l.unread
  pub away : is_resting l.machine.state ≡ false

-- If it is a move, the weight falls, and no more bytes are unread. If it asks for CDATA, that is unread. If it asks for the last
-- start tag's name, that isn't told.
abbrev pub FallsTo : Lexing → Move → Type 0
FallsTo l (makes m es) = (weight m < weight l) × (bytes m.unread ≤ bytes l.unread)
FallsTo l (asks_cdata f h) = AsksCdata l f h
FallsTo l asks_last_tag = l.machine.last_tag ≡ None
FallsTo l _ = Unit {0}

falls_if : (l : Lexing) (b : Bool) (x y : Move) → FallsTo l x → FallsTo l y → FallsTo l (cond b x y)
falls_if l true x y h k = h
falls_if l false x y h k = k

pub bytes-cons : (c : ℕ) (cs : List ℕ) → bytes (c ∷ cs) ≡ len_utf8 c + bytes cs
bytes-cons c cs = sum_by-cons len_utf8 c cs

no_more : (c : ℕ) (cs text : List ℕ) → text ≡ c ∷ cs → bytes cs ≤ bytes text
no_more c cs text u = omega (arith, ap bytes u, bytes-cons c cs)

bytes-drop : (n : ℕ) (text : List ℕ) → bytes (drop n text) ≤ bytes text
bytes-drop zero text = omega arith
bytes-drop (suc n) [] = omega arith
bytes-drop (suc n) (c ∷ cs) = omega (arith, bytes-drop n cs, bytes-cons c cs)

after_row-falls : (r : Row) (l : Lexing) (c : ℕ) (cs : List ℕ) (reads : Reads) → reads ≡ r.reads → IsFine l.machine.state (Some (read_as c)) r
    → l.unread ≡ c ∷ cs → FallsTo l (after_row r l c cs reads)
after_row-falls r l c cs Consume e fine u =
    (read_smaller l.machine.state r.to.state c cs l.unread u, no_more c cs l.unread u)
after_row-falls r l c cs Again e fine u =
    (again_smaller l.machine.state r.to.state r c cs l.unread (c ∷ cs) fine (sym e) refl u (sym u), omega (arith, ap bytes u))
after_row-falls r l c cs End e fine u = tt

after_end-falls : (r : Row) (l : Lexing) (reads : Reads) → reads ≡ r.reads → IsFine l.machine.state None r → l.unread ≡ [] → FallsTo l (after_end r l reads)
after_end-falls r l Consume e fine u = tt
after_end-falls r l Again e fine u =
    let P : Reads → Type 0 = λ x. Falls l.machine.state None r.to.state x in
    let lower : rank r.to.state None < rank l.machine.state None = subst P (sym e) fine.falls in
    let Q : List ℕ → Type 0 = λ t. weight (standing r.to l.place l.rested []) < 8 * length t + rank l.machine.state (symbol_of t) in
    (subst Q (sym u) (omega (arith, lower)), omega arith)
after_end-falls r l End e fine u = tt

pair_falls : (l : Lexing) (c : ℕ) (cs : List ℕ) → l.unread ≡ c ∷ cs → FallsTo l (after_pair l cs)
pair_falls l c cs u = (read_smaller l.machine.state l.machine.state c cs l.unread u, no_more c cs l.unread u)

past_falls : (n : ℕ) (m : Machine) (l : Lexing) (c : ℕ) (cs : List ℕ) → l.unread ≡ c ∷ cs → 1 ≤ n → FallsTo l (makes (taking n m l) [])
past_falls n m l c cs u some =
    (omega (arith, some, length-drop n l.unread, ap length u, rank-below m.state (symbol_of (drop n l.unread))), bytes-drop n l.unread)

-- rows
tag_row : (b : Bool) (l : Lexing) (c : ℕ) (cs : List ℕ) → (b ≡ true → IsTrue (tag_rows.has_row l.machine.state)) → l.unread ≡ c ∷ cs
    → FallsTo l (cond b (row_move tag_rows.row l c cs) needs_more)
tag_row true l c cs h u = after_row-falls (tag_rows.row l.machine (Some (read_as c))) l c cs _ refl (tag_fine.row_fine l.machine (Some (read_as c)) (h refl)) u
tag_row false l c cs h u = tt

tag_end : (b : Bool) (l : Lexing) (text : List ℕ) → (b ≡ true → IsTrue (tag_rows.has_row l.machine.state)) → l.unread ≡ text
    → FallsTo l (cond b (row_end tag_rows.row l text) needs_more)
tag_end true l [] h u = after_end-falls (tag_rows.row l.machine None) l _ refl (tag_fine.row_fine l.machine None (h refl)) u
tag_end true l (c ∷ cs) h u = tag_row true l c cs h u
tag_end false l text h u = tt

raw_row : (b : Bool) (l : Lexing) (c : ℕ) (cs : List ℕ) → (b ≡ true → IsTrue (raw_rows.has_row l.machine.state)) → l.unread ≡ c ∷ cs
    → FallsTo l (cond b (row_move raw_rows.row l c cs) needs_more)
raw_row true l c cs h u = after_row-falls (raw_rows.row l.machine (Some (read_as c))) l c cs _ refl (raw_fine.row_fine l.machine (Some (read_as c)) (h refl)) u
raw_row false l c cs h u = tt

raw_end : (b : Bool) (l : Lexing) (text : List ℕ) → (b ≡ true → IsTrue (raw_rows.has_row l.machine.state)) → l.unread ≡ text
    → FallsTo l (cond b (row_end raw_rows.row l text) needs_more)
raw_end true l [] h u = after_end-falls (raw_rows.row l.machine None) l _ refl (raw_fine.row_fine l.machine None (h refl)) u
raw_end true l (c ∷ cs) h u = raw_row true l c cs h u
raw_end false l text h u = tt

markup_row : (b : Bool) (l : Lexing) (c : ℕ) (cs : List ℕ) → (b ≡ true → IsTrue (markup_rows.is_here l.machine.state)) → l.unread ≡ c ∷ cs
    → FallsTo l (cond b (row_move markup_rows.row l c cs) needs_more)
markup_row true l c cs h u = after_row-falls (markup_rows.row l.machine (Some (read_as c))) l c cs _ refl (markup_fine.here_fine l.machine (Some (read_as c)) (h refl)) u
markup_row false l c cs h u = tt

markup_end : (b : Bool) (l : Lexing) (text : List ℕ) → (b ≡ true → IsTrue (markup_rows.is_here l.machine.state)) → l.unread ≡ text
    → FallsTo l (cond b (row_end markup_rows.row l text) needs_more)
markup_end true l [] h u = after_end-falls (markup_rows.row l.machine None) l _ refl (markup_fine.here_fine l.machine None (h refl)) u
markup_end true l (c ∷ cs) h u = markup_row true l c cs h u
markup_end false l text h u = tt

-- named references
return-rank : (r : Return) (symbol : Option ℕ) → rank (return_state r) symbol ≡ 0
return-rank returns.Data symbol = refl
return-rank _ symbol = refl

reference_falls : (o : Option Found) (l : Lexing) → l.machine.state ≡ NamedCharacterReference → FallsTo l (reference_move o l)
reference_falls None l s =
    let two : rank l.machine.state (symbol_of l.unread) ≡ 2 = ap (λ (x : State). rank x (symbol_of l.unread)) s in
    (omega (arith, two), omega arith)
reference_falls (Some f) l s =
    let two : rank l.machine.state (symbol_of l.unread) ≡ 2 = ap (λ (x : State). rank x (symbol_of l.unread)) s in
    (omega (arith, two, length-drop f.length l.unread, return-rank l.machine.return_to (symbol_of (drop f.length l.unread))), bytes-drop f.length l.unread)

tags_fall : (s : State) (names : List Reference) (l : Lexing) (c : ℕ) (cs : List ℕ) → l.machine.state ≡ s → l.unread ≡ c ∷ cs
    → FallsTo l (tags.on_state s names l c cs)
tags_fall NamedCharacterReference names l c cs e u =
    falls_if l (is_open_name names l.unread) needs_more (reference_move (longest names l.unread) l) tt (reference_falls (longest names l.unread) l e)
tags_fall s names l c cs e u =
    let P : State → Type 0 = λ x. IsTrue (tag_rows.has_row x) in
    tag_row (tag_rows.has_row s) l c cs (λ h. subst P (sym e) h) u

tags_fall_at_end : (s : State) (names : List Reference) (l : Lexing) (text : List ℕ) → l.machine.state ≡ s → l.unread ≡ text
    → FallsTo l (tags.last_state s names l text)
tags_fall_at_end NamedCharacterReference names l text e u = reference_falls (longest names l.unread) l e
tags_fall_at_end s names l text e u =
    let P : State → Type 0 = λ x. IsTrue (tag_rows.has_row x) in
    tag_end (tag_rows.has_row s) l text (λ h. subst P (sym e) h) u

untold : (o : Option (List ℕ)) → raw.is_untold o ≡ true → o ≡ None
untold None h = refl
untold (Some name) h = cc

ask_falls : (l : Lexing) (b : Bool) (x : Move) → (b ≡ true → l.machine.last_tag ≡ None) → FallsTo l x → FallsTo l (cond b asks_last_tag x)
ask_falls l true x h k = h refl
ask_falls l false x h k = k

asks_untold : (m : Machine) (c : ℕ) → raw.asks m c ≡ true → m.last_tag ≡ None
asks_untold m c h =
    let both = and_parts (raw.names_end_tag m.state && raw.is_untold m.last_tag) (raw_rows.ends_name (read_as c)) h in
    untold m.last_tag (and_parts (raw.names_end_tag m.state) (raw.is_untold m.last_tag) both.0).1

raw_falls : (l : Lexing) (c : ℕ) (cs : List ℕ) (b : Bool) → b ≡ raw_rows.has_row l.machine.state → l.unread ≡ c ∷ cs
    → FallsTo l (cond b (cond (raw.asks l.machine c) asks_last_tag (row_move raw_rows.row l c cs)) needs_more)
raw_falls l c cs true e u = ask_falls l (raw.asks l.machine c) (row_move raw_rows.row l c cs) (asks_untold l.machine c) (raw_row true l c cs (λ h. sym e) u)
raw_falls l c cs false e u = tt

-- words
count-some : (w : Word) → 1 ≤ count w
count-some Hyphens = omega arith
count-some _ = omega arith

no_word : (s : State) → word s [] ≡ None
no_word MarkupDeclarationOpen = refl
no_word _ = refl

begins-long : (text word : List ℕ) → begins text word ≡ true → length word ≤ length text
begins-long text [] h = omega arith
begins-long [] (w ∷ ws) h = cc
begins-long (c ∷ cs) (w ∷ ws) h = omega (arith, begins-long cs ws (and_parts (c == w) (begins cs ws) h).1)

is_third : (a b c : Bool) → cond a (Some Hyphens) (cond b (Some Doctype) (cond c (Some Cdata) None)) ≡ Some Cdata → c ≡ true
is_third true b c h = cc
is_third false true c h = cc
is_third false false true h = refl
is_third false false false h = cc

cdata-long : (text : List ℕ) → markup_word text ≡ Some Cdata → 7 ≤ length text
cdata-long text h = begins-long text (codes "[CDATA[") (is_third (begins text (codes "--")) (begins_without_case text (codes "doctype")) (begins text (codes "[CDATA[")) h)

is_neither : (a b : Bool) → cond a (Some Public) (cond b (Some System) None) ≡ Some Cdata → ⊥
is_neither true b h = cc
is_neither false true h = cc
is_neither false false h = cc

no_cdata : (text : List ℕ) → keyword text ≡ Some Cdata → ⊥
no_cdata text h = is_neither (begins_without_case text (codes "public")) (begins_without_case text (codes "system")) h

word_falls : (o : Option Word) (l : Lexing) (c : ℕ) (cs : List ℕ) → IsTrue (markup_rows.is_here l.machine.state) → l.unread ≡ c ∷ cs
    → (o ≡ Some Cdata → (7 ≤ length l.unread) × (is_resting l.machine.state ≡ false)) → FallsTo l (markup.word_read o l c cs)
word_falls None l c cs h u asks = markup_row true l c cs (λ k. h) u
word_falls (Some Cdata) l c cs h u asks = let a = asks refl in record { foreign = refl; html = refl; long = a.0; away = a.1 }
word_falls (Some w) l c cs h u asks = past_falls (count w) (markup.after_word w l.machine) l c cs u (count-some w)

word_falls_at_end : (o : Option Word) (s : State) (l : Lexing) (text : List ℕ) → o ≡ word s text → IsTrue (markup_rows.is_here l.machine.state) → l.unread ≡ text
    → FallsTo l (markup.word_read_at_end o l text)
word_falls_at_end None s l text e h u = markup_end true l text (λ k. h) u
word_falls_at_end (Some w) s l [] e h u = let none : Some w ≡ None = e ∙ no_word s in cc
word_falls_at_end (Some w) s l (c ∷ cs) e h u = past_falls (count w) (markup.after_word w l.machine) l c cs u (count-some w)

markup_falls : (s : State) (l : Lexing) (c : ℕ) (cs : List ℕ) → l.machine.state ≡ s → IsTrue (markup_rows.is_here l.machine.state) → l.unread ≡ c ∷ cs
    → FallsTo l (markup.on_state s l c cs)
markup_falls MarkupDeclarationOpen l c cs e h u =
    let word_is : word l.machine.state l.unread ≡ markup_word l.unread = ap (λ (x : State). word x l.unread) e in
    let away : is_resting l.machine.state ≡ false = ap (λ (x : State). is_resting x) e in
    falls_if l (is_open l.machine.state l.unread) needs_more _ tt
    (word_falls (word l.machine.state l.unread) l c cs h u (λ k. (cdata-long l.unread (sym word_is ∙ k), away)))
markup_falls AfterDoctypeName l c cs e h u =
    let word_is : word l.machine.state l.unread ≡ keyword l.unread = ap (λ (x : State). word x l.unread) e in
    falls_if l (is_open l.machine.state l.unread) needs_more _ tt
    (word_falls (word l.machine.state l.unread) l c cs h u (λ k. absurd (no_cdata l.unread (sym word_is ∙ k))))
markup_falls s l c cs e h u = markup_row (markup_rows.has_row s) l c cs (λ k. h) u

markup_falls_at_end : (s : State) (l : Lexing) (text : List ℕ) → l.machine.state ≡ s → IsTrue (markup_rows.is_here l.machine.state) → l.unread ≡ text
    → FallsTo l (markup.last_state s l text)
markup_falls_at_end MarkupDeclarationOpen l text e h u =
    word_falls_at_end (word l.machine.state l.unread) l.machine.state l text (ap (λ (t : List ℕ). word l.machine.state t) u) h u
markup_falls_at_end AfterDoctypeName l text e h u =
    word_falls_at_end (word l.machine.state l.unread) l.machine.state l text (ap (λ (t : List ℕ). word l.machine.state t) u) h u
markup_falls_at_end s l text e h u = markup_end (markup_rows.has_row s) l text (λ k. h) u

-- the whole table
part_falls : (l : Lexing) (a b : Bool) (x y z : Move) → (a ≡ true → FallsTo l x) → (b ≡ true → FallsTo l y) → (a ≡ false → b ≡ false → FallsTo l z)
    → FallsTo l (cond a x (cond b y z))
part_falls l true b x y z f g h = f refl
part_falls l false true x y z f g h = g refl
part_falls l false false x y z f g h = h refl refl

module _ (names : List Reference) where
  table_falls : (l : Lexing) (c : ℕ) (cs : List ℕ) → l.unread ≡ c ∷ cs → FallsTo l ((table names).on l c cs)
  table_falls l c cs u = part_falls l (tags.is_here l.machine.state) (raw.is_here l.machine.state) _ _ _
      (λ h. tags_fall l.machine.state names l c cs refl u)
      (λ h. raw_falls l c cs (raw_rows.has_row l.machine.state) refl u)
      (λ h k. markup_falls l.machine.state l c cs refl (markup-else l.machine.state h k) u)

  table_falls_at_end : (l : Lexing) (text : List ℕ) → l.unread ≡ text → FallsTo l ((table names).last l text)
  table_falls_at_end l text u = part_falls l (tags.is_here l.machine.state) (raw.is_here l.machine.state) _ _ _
      (λ h. tags_fall_at_end l.machine.state names l text refl u)
      (λ h. raw_end (raw_rows.has_row l.machine.state) l text (λ k. k) u)
      (λ h k. markup_falls_at_end l.machine.state l text refl (markup-else l.machine.state h k) u)

  pub move_falls : (l : Lexing) → FallsTo l (move (table names) l)
  move_falls l = at l.unread refl
    where
      at : (u : List ℕ) → l.unread ≡ u → FallsTo l (move_on (table names) l u)
      at [] u = tt
      at (c ∷ cs) u = falls_if l (l.machine.after_cr && c == 10) _ _ (pair_falls l c cs u) (table_falls l c cs u)

  pub end_move_falls : (l : Lexing) → FallsTo l (end_move (table names) l)
  end_move_falls l = at l.unread refl
    where
      at : (u : List ℕ) → l.unread ≡ u → FallsTo l (end_move_on (table names) l u)
      at [] u = table_falls_at_end l [] u
      at (c ∷ cs) u = falls_if l (l.machine.after_cr && c == 10) _ _ (pair_falls l c cs u) (table_falls_at_end l (c ∷ cs) u)

-- moves, of which each falls, lead to no larger weight, and to no more bytes
module _ (next : Lexing → Move) (falls : (l : Lexing) → FallsTo l (next l)) where
  one : (l m : Lexing) (es : List Emitted) → next l ≡ makes m es → (weight m < weight l) × (bytes m.unread ≤ bytes l.unread)
  one l m es e = let P : Move → Type 0 = λ x. FallsTo l x in subst P e (falls l)

  pub Leads-at_most : {l k : Lexing} {es : List Emitted} → Leads next l es k → (weight k ≤ weight l) × (bytes k.unread ≤ bytes l.unread)
  Leads-at_most here = (omega arith, omega arith)
  Leads-at_most {l} (onward {m = m} {es = es} e r) =
      let a = one l m es e in
      let b = Leads-at_most r in
      (omega (arith, a.0, b.0), omega (arith, a.1, b.1))

  -- moves that lead out of some states are at least one
  pub Leads-smaller : {l k : Lexing} {es : List Emitted} (has : State → Bool) → has l.machine.state ≡ true → has k.machine.state ≡ false → Leads next l es k
      → weight k < weight l
  Leads-smaller has h n here = cc
  Leads-smaller {l} has h n (onward {m = m} {es = es} e r) =
      let a = one l m es e in
      let b = Leads-at_most r in
      omega (arith, a.0, b.0)
