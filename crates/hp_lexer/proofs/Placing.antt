-- The moves in a piece are those in the whole text, and so are the places where tokens begin.
use Rattle.std.proofs.Common.{◌≡◌, ℕ, ◌+◌, ◌-◌, ◌≤◌, ◌^◌, List, [], ◌∷◌, ◌++◌, Bool, true, false, cond, refl, ap, ◌∙◌, sym, subst, arith, Option, None, Some}
use Rattle.std.specs.Prelude.{◌==◌, ◌&&◌, sum_by, take, drop}
use Rattle.std.specs.Char.{len_utf8}
use Rattle.hp_elements.specs.declared.token.Token.{Token}
use Rattle.hp_names.specs.References.{Reference}
use Rattle.hp_names.specs.Longest.{longest, is_open as is_open_name}
use Rattle.hp_names.specs.declared.names.Found.{Found}
use Rattle.hp_tokens.specs.declared.machine.Machine.{Machine}
use Rattle.hp_tokens.specs.declared.state.State.{State}
use Rattle.hp_tokens.specs.declared.state.State.TheVariants.{NamedCharacterReference, MarkupDeclarationOpen, AfterDoctypeName}
use Rattle.hp_tokens.specs.declared.rows.Reads.{Reads}
use Rattle.hp_tokens.specs.declared.rows.Reads.TheVariants.{Consume, Again, End}
use Rattle.hp_tokens.specs.Rows.{Row, flushed_tokens}
use Rattle.hp_tokens.specs.States.{is_resting}
use Rattle.hp_tokens.specs.Advancing.{tokens_of}
use Rattle.hp_tokens.specs.Moves.{Lexing, Emitted, Move, needs_more, asks_cdata, asks_last_tag, makes, ends, standing, all_began, after_row, row_move, read_as, taking, after_pair, move_on, move}
use Rattle.hp_tokens.specs.Runs.{Leads, here, onward}
use Rattle.hp_lex_tags.specs.Tags as tags
use Rattle.hp_lex_tags.specs.Rows as tag_rows
use Rattle.hp_lex_tags.specs.Named.{reference_move, with_found, gone_back, unfound}
use Rattle.hp_lex_raw.specs.Raw as raw
use Rattle.hp_lex_raw.specs.Rows as raw_rows
use Rattle.hp_lex_markup.specs.Markup as markup
use Rattle.hp_lex_markup.specs.Rows as markup_rows
use Rattle.hp_lex_markup.specs.Words.{is_open, word, asks, count}
use Rattle.hp_lex_markup.specs.declared.words.Word.{Word}
use Rattle.hp_lexer.specs.Table.{table}
use Rattle.hp_lexer.specs.Places.{IsInPiece}

-- the same tokens, begun at the same places
abbrev pub BeganAlike : ℕ → List Emitted → List Emitted → Type 0
BeganAlike base [] [] = Unit {0}
BeganAlike base [] (f ∷ fs) = ⊥
BeganAlike base (e ∷ es) [] = ⊥
BeganAlike base (e ∷ es) (f ∷ fs) = (f.token ≡ e.token) × (e.began - 2 ^ 32 ≡ f.began - base) × BeganAlike base es fs

-- the same move in the whole text
abbrev pub PlacedMove : ℕ → Move → Move → Type 0
PlacedMove base needs_more other = other ≡ needs_more
PlacedMove base (asks_cdata f h) other = (f' : Lexing) × (h' : Lexing) × (other ≡ asks_cdata f' h') × IsInPiece base f f' × IsInPiece base h h'
PlacedMove base asks_last_tag other = other ≡ asks_last_tag
PlacedMove base (makes l es) other = (k : Lexing) × (fs : List Emitted) × (other ≡ makes k fs) × IsInPiece base l k × BeganAlike base es fs
PlacedMove base (ends es) other = Unit {0}

pub here_alike : (o base place p : ℕ) → place + base ≡ p + o → place - o ≡ p - base
here_alike o base place p e = omega arith

on_alike : (o base place p n : ℕ) → place + base ≡ p + o → (place + n) + base ≡ (p + n) + o
on_alike o base place p n e = omega arith

later : (q p n : ℕ) → q ≤ p → q ≤ p + n
later q p n h = omega arith

pub same_place : (p : ℕ) → p ≤ p
same_place p = omega arith

rests_alike : (x : Bool) (o base place p rested q : ℕ) → place + base ≡ p + o → rested - o ≡ q - base → cond x place rested - o ≡ cond x p q - base
rests_alike true o base place p rested q e r = here_alike o base place p e
rests_alike false o base place p rested q e r = r

rests_behind : (x : Bool) (p q : ℕ) → q ≤ p → cond x p q ≤ p
rests_behind true p q b = same_place p
rests_behind false p q b = b

-- where a lexer stands
pub stand : (base : ℕ) (m : Machine) (u : List ℕ) (place p rested q : ℕ) → place + base ≡ p + 2 ^ 32 → rested - 2 ^ 32 ≡ q - base → q ≤ p
    → IsInPiece base (standing m place rested u) (standing m p q u)
stand base m u place p rested q e r b = record {
  machine = refl;
  unread = refl;
  place = e;
  rested = rests_alike (is_resting m.state) (2 ^ 32) base place p rested q e r;
  behind = rests_behind (is_resting m.state) p q b;
}

-- places counted otherwise
abbrev pub moved : ℕ → ℕ → Lexing → Lexing
moved place rested l = record l { place = place; rested = rested }

either-placed : (base : ℕ) (b : Bool) (x y x' y' : Move) → PlacedMove base x x' → PlacedMove base y y' → PlacedMove base (cond b x y) (cond b x' y')
either-placed base true x y x' y' h k = h
either-placed base false x y x' y' h k = k

if-placed : (base : ℕ) (b : Bool) (x x' : Move) → PlacedMove base x x' → PlacedMove base (cond b x needs_more) (cond b x' needs_more)
if-placed base true x x' h = h
if-placed base false x x' h = refl

unless-placed : (base : ℕ) (b : Bool) (x x' : Move) → PlacedMove base x x' → PlacedMove base (cond b needs_more x) (cond b needs_more x')
unless-placed base true x x' h = refl
unless-placed base false x x' h = h

asking-placed : (base : ℕ) (b : Bool) (x x' : Move) → PlacedMove base x x' → PlacedMove base (cond b asks_last_tag x) (cond b asks_last_tag x')
asking-placed base true x x' h = refl
asking-placed base false x x' h = h

parts-placed : (base : ℕ) (a b : Bool) (x y z x' y' z' : Move) → PlacedMove base x x' → PlacedMove base y y' → PlacedMove base z z'
    → PlacedMove base (cond a x (cond b y z)) (cond a x' (cond b y' z'))
parts-placed base true b x y z x' y' z' h k i = h
parts-placed base false true x y z x' y' z' h k i = k
parts-placed base false false x y z x' y' z' h k i = i

module _ (base : ℕ) (l : Lexing) (p q : ℕ) (place : l.place + base ≡ p + 2 ^ 32) (rested : l.rested - 2 ^ 32 ≡ q - base) (behind : q ≤ p) where
  began : (ts : List Token) → BeganAlike base (all_began l.rested ts) (all_began q ts)
  began [] = tt
  began (t ∷ ts) = (refl, rested, began ts)

  again : (m : Machine) (u : List ℕ) (ts : List Token)
      → PlacedMove base (makes (standing m l.place l.rested u) (all_began l.rested ts)) (makes (standing m p q u) (all_began q ts))
  again m u ts = (standing m p q u, all_began q ts, refl, stand base m u l.place p l.rested q place rested behind, began ts)

  further : (m : Machine) (n : ℕ) (u : List ℕ) → IsInPiece base (standing m (l.place + n) l.rested u) (standing m (p + n) q u)
  further m n u = stand base m u (l.place + n) (p + n) l.rested q (on_alike (2 ^ 32) base l.place p n place) rested (later q p n behind)

  onto : (m : Machine) (n : ℕ) (u : List ℕ) (ts : List Token)
      → PlacedMove base (makes (standing m (l.place + n) l.rested u) (all_began l.rested ts)) (makes (standing m (p + n) q u) (all_began q ts))
  onto m n u ts = (standing m (p + n) q u, all_began q ts, refl, further m n u, began ts)

  after_row-placed : (r : Row) (c : ℕ) (cs : List ℕ) (reads : Reads) → PlacedMove base (after_row r l c cs reads) (after_row r (moved p q l) c cs reads)
  after_row-placed r c cs Consume = onto (record r.to { after_cr = c == 13 }) (len_utf8 c) cs r.emits
  after_row-placed r c cs Again = again r.to (c ∷ cs) r.emits
  after_row-placed r c cs End = refl

  row-placed : (row : Machine → Option ℕ → Row) (c : ℕ) (cs : List ℕ) → PlacedMove base (row_move row l c cs) (row_move row (moved p q l) c cs)
  row-placed row c cs = let r : Row = row l.machine (Some (read_as c)) in after_row-placed r c cs r.reads

  taken : (n : ℕ) (m : Machine) → IsInPiece base (taking n m l) (taking n m (moved p q l))
  taken n m = further m (sum_by len_utf8 (take n l.unread)) (drop n l.unread)

  reference-placed : (o : Option Found) → PlacedMove base (reference_move o l) (reference_move o (moved p q l))
  reference-placed None = onto (unfound l.machine) (sum_by len_utf8 (take 0 l.unread)) (drop 0 l.unread) (flushed_tokens l.machine)
  reference-placed (Some f) =
      onto (gone_back (with_found f l.machine l.unread)) (sum_by len_utf8 (take f.length l.unread)) (drop f.length l.unread) (flushed_tokens (with_found f l.machine l.unread))

  tags-placed : (s : State) (names : List Reference) (c : ℕ) (cs : List ℕ) → PlacedMove base (tags.on_state s names l c cs) (tags.on_state s names (moved p q l) c cs)
  tags-placed NamedCharacterReference names c cs =
      unless-placed base (is_open_name names l.unread) (reference_move (longest names l.unread) l) (reference_move (longest names l.unread) (moved p q l)) (reference-placed (longest names l.unread))
  tags-placed s names c cs =
      if-placed base (tag_rows.has_row s) (row_move tag_rows.row l c cs) (row_move tag_rows.row (moved p q l) c cs) (row-placed tag_rows.row c cs)

  raw-placed : (c : ℕ) (cs : List ℕ) → PlacedMove base (raw.raw_rules.on l c cs) (raw.raw_rules.on (moved p q l) c cs)
  raw-placed c cs =
      if-placed base (raw_rows.has_row l.machine.state)
      (cond (raw.asks l.machine c) asks_last_tag (row_move raw_rows.row l c cs)) (cond (raw.asks l.machine c) asks_last_tag (row_move raw_rows.row (moved p q l) c cs))
      (asking-placed base (raw.asks l.machine c) (row_move raw_rows.row l c cs) (row_move raw_rows.row (moved p q l) c cs) (row-placed raw_rows.row c cs))

  word-placed : (o : Option Word) (c : ℕ) (cs : List ℕ) → PlacedMove base (markup.word_read o l c cs) (markup.word_read o (moved p q l) c cs)
  word-placed None c cs = row-placed markup_rows.row c cs
  word-placed (Some w) c cs =
      either-placed base (asks w) (asks_cdata (taking (count w) (markup.in_section l.machine) l) (taking (count w) (markup.after_word w l.machine) l)) (markup.past_word w l)
      (asks_cdata (taking (count w) (markup.in_section l.machine) (moved p q l)) (taking (count w) (markup.after_word w l.machine) (moved p q l))) (markup.past_word w (moved p q l))
      (_, _, refl, taken (count w) (markup.in_section l.machine), taken (count w) (markup.after_word w l.machine))
      (_, _, refl, taken (count w) (markup.after_word w l.machine), tt)

  markup-placed : (s : State) (c : ℕ) (cs : List ℕ) → PlacedMove base (markup.on_state s l c cs) (markup.on_state s (moved p q l) c cs)
  markup-placed MarkupDeclarationOpen c cs =
      unless-placed base (is_open l.machine.state l.unread) (markup.word_read (word l.machine.state l.unread) l c cs) (markup.word_read (word l.machine.state l.unread) (moved p q l) c cs)
      (word-placed (word l.machine.state l.unread) c cs)
  markup-placed AfterDoctypeName c cs =
      unless-placed base (is_open l.machine.state l.unread) (markup.word_read (word l.machine.state l.unread) l c cs) (markup.word_read (word l.machine.state l.unread) (moved p q l) c cs)
      (word-placed (word l.machine.state l.unread) c cs)
  markup-placed s c cs =
      if-placed base (markup_rows.has_row s) (row_move markup_rows.row l c cs) (row_move markup_rows.row (moved p q l) c cs) (row-placed markup_rows.row c cs)

  table-placed : (names : List Reference) (c : ℕ) (cs : List ℕ) → PlacedMove base ((table names).on l c cs) ((table names).on (moved p q l) c cs)
  table-placed names c cs =
      parts-placed base (tags.is_here l.machine.state) (raw.is_here l.machine.state)
      (tags.on_state l.machine.state names l c cs) (raw.raw_rules.on l c cs) (markup.on_state l.machine.state l c cs)
      (tags.on_state l.machine.state names (moved p q l) c cs) (raw.raw_rules.on (moved p q l) c cs) (markup.on_state l.machine.state (moved p q l) c cs)
      (tags-placed l.machine.state names c cs) (raw-placed c cs) (markup-placed l.machine.state c cs)

  pair-placed : (b : Bool) (cs : List ℕ) (x x' : Move) → PlacedMove base x x' → PlacedMove base (cond b (after_pair l cs) x) (cond b (after_pair (moved p q l) cs) x')
  pair-placed true cs x x' h = onto (record l.machine { after_cr = false }) 1 cs []
  pair-placed false cs x x' h = h

  on-placed : (names : List Reference) (text : List ℕ) → PlacedMove base (move_on (table names) l text) (move_on (table names) (moved p q l) text)
  on-placed names [] = refl
  on-placed names (c ∷ cs) =
      pair-placed (l.machine.after_cr && c == 10) cs ((table names).on l c cs) ((table names).on (moved p q l) c cs) (table-placed names c cs)

is_moved : (base : ℕ) (l k : Lexing) → IsInPiece base l k → moved k.place k.rested l ≡ k
is_moved base l k a =
    ap (λ (m : Machine). record { machine = m; place = k.place; rested = k.rested; unread = l.unread }) (sym a.machine)
    ∙ ap (λ (u : List ℕ). record { machine = k.machine; place = k.place; rested = k.rested; unread = u }) (sym a.unread)

pub move-placed : (names : List Reference) (base : ℕ) (l k : Lexing) → IsInPiece base l k → PlacedMove base (move (table names) l) (move (table names) k)
move-placed names base l k a =
    let P : Lexing → Type 0 = λ x. PlacedMove base (move (table names) l) (move (table names) x) in
    subst P (is_moved base l k a) (on-placed base l k.place k.rested a.place a.rested a.behind names l.unread)

-- moves in the piece are moves in the whole text
pub record Led (names : List Reference) (base : ℕ) (whole : Lexing) (es : List Emitted) (l : Lexing) : Type 0 where
  pub there : Lexing
  pub fs : List Emitted
  pub leads : Leads (move (table names)) whole fs there
  pub same : IsInPiece base l there
  pub alike : BeganAlike base es fs

alike-append : (base : ℕ) (es es' fs fs' : List Emitted) → BeganAlike base es fs → BeganAlike base es' fs' → BeganAlike base (es ++ es') (fs ++ fs')
alike-append base [] es' [] fs' h k = k
alike-append base [] es' (f ∷ fs) fs' h k = absurd h
alike-append base (e ∷ es) es' [] fs' h k = absurd h
alike-append base (e ∷ es) es' (f ∷ fs) fs' h k = (h.0, h.1, alike-append base es es' fs fs' h.2 k)

joined : (names : List Reference) (base : ℕ) (whole m k : Lexing) (es more : List Emitted) (n : Lexing) (fs : List Emitted) → move (table names) whole ≡ makes n fs
    → BeganAlike base es fs → Led names base n more k → Led names base whole (es ++ more) k
joined names base whole m k es more n fs same alike rest = record {
  there = rest.there;
  fs = fs ++ rest.fs;
  leads = onward same rest.leads;
  same = rest.same;
  alike = alike-append base es more fs rest.fs alike rest.alike;
}

pub leads-placed : (names : List Reference) (base : ℕ) {l k : Lexing} {es : List Emitted} (whole : Lexing) → IsInPiece base l whole → Leads (move (table names)) l es k
    → Led names base whole es k
leads-placed names base whole a here = record { there = whole; fs = []; leads = here; same = a; alike = tt }
leads-placed names base {l} whole a (onward {m = m} {k = k} {es = es} {fs = more} e r) =
    let made : PlacedMove base (makes m es) (move (table names) whole) =
    subst (λ (x : Move). PlacedMove base x (move (table names) whole)) e (move-placed names base l whole a) in
    joined names base whole m k es more made.0 made.1 made.2 made.4 (leads-placed names base made.0 made.3 r)

pub alike-tokens : (base : ℕ) (es fs : List Emitted) → BeganAlike base es fs → tokens_of fs ≡ tokens_of es
alike-tokens base [] [] h = refl
alike-tokens base [] (f ∷ fs) h = absurd h
alike-tokens base (e ∷ es) [] h = absurd h
alike-tokens base (e ∷ es) (f ∷ fs) h =
    ap (λ (t : Token). t ∷ tokens_of fs) h.0 ∙ ap (λ (ts : List Token). e.token ∷ ts) (alike-tokens base es fs h.2)

pub alike-none : (base : ℕ) (fs : List Emitted) → BeganAlike base [] fs → fs ≡ []
alike-none base [] h = refl
alike-none base (f ∷ fs) h = absurd h
