-- Where tokens of a run over a text begin: each began where the lexer rested last, which is a place in the text.
use Rattle.std.proofs.Common.{◌≡◌, ℕ, ◌+◌, ◌<◌, List, [], ◌∷◌, ◌++◌, Bool, true, false, cond, take, drop, ◌⊎◌, inl, inr, refl, sym, arith, Option, None, Some}
use Rattle.std.specs.Prelude.{◌==◌, ◌&&◌, sum_by}
use Rattle.std.specs.Char.{len_utf8}
use Rattle.std.proofs.lemmas.Bool.{and_parts, eqb-true}
use Rattle.std.proofs.lemmas.List.{take-append-drop}
use Rattle.std.proofs.lemmas.List.Sums.{sum_by-cons}
use Rattle.std.proofs.lemmas.Str.{len_utf8_ascii}
use Rattle.hp_elements.specs.declared.token.Token.{Token}
use Rattle.hp_names.specs.References.{Reference}
use Rattle.hp_names.specs.Longest.{longest, is_open as is_open_name}
use Rattle.hp_names.specs.declared.names.Found.{Found}
use Rattle.hp_tokens.specs.declared.machine.Machine.{Machine}
use Rattle.hp_tokens.specs.declared.state.State.{State}
use Rattle.hp_tokens.specs.declared.state.State.TheVariants.{NamedCharacterReference, MarkupDeclarationOpen, AfterDoctypeName}
use Rattle.hp_tokens.specs.declared.rows.Reads.{Reads}
use Rattle.hp_tokens.specs.declared.rows.Reads.TheVariants.{Consume, Again, End}
use Rattle.hp_tokens.specs.Rows.{Row, flushed_tokens}
use Rattle.hp_tokens.specs.States.{is_resting}
use Rattle.hp_tokens.specs.Moves.{Lexing, Move, needs_more, asks_cdata, asks_last_tag, makes, ends, standing, all_began, after_row, row_move, read_as, taking, after_pair, move_on, move}
use Rattle.hp_tokens.specs.Groups.{AllBegan}
use Rattle.hp_lex_tags.specs.Tags as tags
use Rattle.hp_lex_tags.specs.Rows as tag_rows
use Rattle.hp_lex_tags.specs.Named.{reference_move, with_found, gone_back, unfound}
use Rattle.hp_lex_raw.specs.Raw as raw
use Rattle.hp_lex_raw.specs.Rows as raw_rows
use Rattle.hp_lex_markup.specs.Markup as markup
use Rattle.hp_lex_markup.specs.Rows as markup_rows
use Rattle.hp_lex_markup.specs.Words.{is_open, word, asks, count}
use Rattle.hp_lex_markup.specs.declared.words.Word.{Word}
use Rattle.hp_lexer.specs.Table.{table}

-- what was read of a text, from one place to another
pub record HasRead (l k : Lexing) : Type 0 where
  pub read : List ℕ
  pub text : l.unread ≡ read ++ k.unread
  pub place : k.place ≡ l.place + sum_by len_utf8 read
  pub rested : (k.rested ≡ l.rested) ⊎ (k.rested ≡ k.place)

-- a move reads on, and what it emits began at the last place of rest
abbrev pub ReadsOn : Lexing → Move → Type 0
ReadsOn l needs_more = Unit {0}
ReadsOn l (asks_cdata f h) = HasRead l f × HasRead l h
ReadsOn l asks_last_tag = Unit {0}
ReadsOn l (makes k es) = HasRead l k × AllBegan es l.rested
ReadsOn l (ends es) = Unit {0}

began : (place : ℕ) (ts : List Token) → AllBegan (all_began place ts) place
began place [] = tt
began place (t ∷ ts) = (refl, began place ts)

rests_either : (b : Bool) (place rested : ℕ) → (cond b place rested ≡ rested) ⊎ (cond b place rested ≡ place)
rests_either true place rested = inr refl
rests_either false place rested = inl refl

pub stood : (l : Lexing) (m : Machine) (read u : List ℕ) (place : ℕ) → l.unread ≡ read ++ u → place ≡ l.place + sum_by len_utf8 read → HasRead l (standing m place l.rested u)
stood l m read u place e p = record { read = read; text = e; place = p; rested = rests_either (is_resting m.state) place l.rested }

one : (p c : ℕ) → p + len_utf8 c ≡ p + sum_by len_utf8 (c ∷ [])
one p c = omega (arith, sum_by-cons len_utf8 c [])

none : (p : ℕ) → p ≡ p + sum_by len_utf8 []
none p = omega arith

either-reads : (l : Lexing) (b : Bool) (x y : Move) → ReadsOn l x → ReadsOn l y → ReadsOn l (cond b x y)
either-reads l true x y h k = h
either-reads l false x y h k = k

module _ (l : Lexing) where
  after_row-reads : (r : Row) (c : ℕ) (cs : List ℕ) (reads : Reads) → l.unread ≡ c ∷ cs → ReadsOn l (after_row r l c cs reads)
  after_row-reads r c cs Consume e = (stood l (record r.to { after_cr = c == 13 }) (c ∷ []) cs (l.place + len_utf8 c) e (one l.place c), began l.rested r.emits)
  after_row-reads r c cs Again e = (stood l r.to [] (c ∷ cs) l.place e (none l.place), began l.rested r.emits)
  after_row-reads r c cs End e = tt

  row-reads : (row : Machine → Option ℕ → Row) (c : ℕ) (cs : List ℕ) → l.unread ≡ c ∷ cs → ReadsOn l (row_move row l c cs)
  row-reads row c cs e = let r : Row = row l.machine (Some (read_as c)) in after_row-reads r c cs r.reads e

  taken : (n : ℕ) (m : Machine) → HasRead l (taking n m l)
  taken n m = stood l m (take n l.unread) (drop n l.unread) (l.place + sum_by len_utf8 (take n l.unread)) (sym (take-append-drop n l.unread)) refl

  reference-reads : (o : Option Found) → ReadsOn l (reference_move o l)
  reference-reads None = (taken 0 (unfound l.machine), began l.rested (flushed_tokens l.machine))
  reference-reads (Some f) = (taken f.length (gone_back (with_found f l.machine l.unread)), began l.rested (flushed_tokens (with_found f l.machine l.unread)))

  tags-reads : (s : State) (names : List Reference) (c : ℕ) (cs : List ℕ) → l.unread ≡ c ∷ cs → ReadsOn l (tags.on_state s names l c cs)
  tags-reads NamedCharacterReference names c cs e = either-reads l (is_open_name names l.unread) needs_more (reference_move (longest names l.unread) l) tt (reference-reads (longest names l.unread))
  tags-reads s names c cs e = either-reads l (tag_rows.has_row s) (row_move tag_rows.row l c cs) needs_more (row-reads tag_rows.row c cs e) tt

  raw-reads : (c : ℕ) (cs : List ℕ) → l.unread ≡ c ∷ cs → ReadsOn l (raw.raw_rules.on l c cs)
  raw-reads c cs e =
      either-reads l (raw_rows.has_row l.machine.state) (cond (raw.asks l.machine c) asks_last_tag (row_move raw_rows.row l c cs)) needs_more
      (either-reads l (raw.asks l.machine c) asks_last_tag (row_move raw_rows.row l c cs) tt (row-reads raw_rows.row c cs e)) tt

  word-reads : (o : Option Word) (c : ℕ) (cs : List ℕ) → l.unread ≡ c ∷ cs → ReadsOn l (markup.word_read o l c cs)
  word-reads None c cs e = row-reads markup_rows.row c cs e
  word-reads (Some w) c cs e =
      either-reads l (asks w) (asks_cdata (taking (count w) (markup.in_section l.machine) l) (taking (count w) (markup.after_word w l.machine) l)) (markup.past_word w l)
      (taken (count w) (markup.in_section l.machine), taken (count w) (markup.after_word w l.machine)) (taken (count w) (markup.after_word w l.machine), tt)

  markup-reads : (s : State) (c : ℕ) (cs : List ℕ) → l.unread ≡ c ∷ cs → ReadsOn l (markup.on_state s l c cs)
  markup-reads MarkupDeclarationOpen c cs e =
      either-reads l (is_open l.machine.state l.unread) needs_more (markup.word_read (word l.machine.state l.unread) l c cs) tt (word-reads (word l.machine.state l.unread) c cs e)
  markup-reads AfterDoctypeName c cs e =
      either-reads l (is_open l.machine.state l.unread) needs_more (markup.word_read (word l.machine.state l.unread) l c cs) tt (word-reads (word l.machine.state l.unread) c cs e)
  markup-reads s c cs e = either-reads l (markup_rows.has_row s) (row_move markup_rows.row l c cs) needs_more (row-reads markup_rows.row c cs e) tt

  parts-read : (a b : Bool) (x y z : Move) → ReadsOn l x → ReadsOn l y → ReadsOn l z → ReadsOn l (cond a x (cond b y z))
  parts-read a b x y z h k i = either-reads l a x (cond b y z) h (either-reads l b y z k i)

  table-reads : (names : List Reference) (c : ℕ) (cs : List ℕ) → l.unread ≡ c ∷ cs → ReadsOn l ((table names).on l c cs)
  table-reads names c cs e =
      parts-read (tags.is_here l.machine.state) (raw.is_here l.machine.state)
      (tags.on_state l.machine.state names l c cs) (raw.raw_rules.on l c cs) (markup.on_state l.machine.state l c cs)
      (tags-reads l.machine.state names c cs e) (raw-reads c cs e) (markup-reads l.machine.state c cs e)

  pair-reads : (b : Bool) (c : ℕ) (cs : List ℕ) (x : Move) → l.unread ≡ c ∷ cs → (b ≡ true → c ≡ 10) → ReadsOn l x → ReadsOn l (cond b (after_pair l cs) x)
  pair-reads true c cs x e k h =
      let low : c < 128 = omega (arith, k refl) in
      (stood l (record l.machine { after_cr = false }) (c ∷ []) cs (l.place + 1) e (omega (arith, one l.place c, len_utf8_ascii c low)), tt)
  pair-reads false c cs x e k h = h

  on-reads : (names : List Reference) (text : List ℕ) → l.unread ≡ text → ReadsOn l (move_on (table names) l text)
  on-reads names [] e = tt
  on-reads names (c ∷ cs) e =
      pair-reads (l.machine.after_cr && c == 10) c cs ((table names).on l c cs) e (λ h. eqb-true c 10 (and_parts l.machine.after_cr (c == 10) h).1) (table-reads names c cs e)

pub move-reads : (names : List Reference) (l : Lexing) → ReadsOn l (move (table names) l)
move-reads names l = on-reads l names l.unread refl
