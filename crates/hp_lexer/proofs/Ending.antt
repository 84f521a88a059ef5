-- The end of input, over the parts of the table: its moves depend on the machine and on what is unread, on no place.
use Rattle.std.proofs.Common.{◌≡◌, ℕ, ◌+◌, ◌*◌, ◌<◌, ◌≤◌, List, [], ◌∷◌, ◌++◌, Bool, true, false, cond, length, refl, ap, ◌∙◌, sym, subst, arith, Option, None, Some, append-nil, append_assoc}
use Rattle.std.specs.Prelude.{◌==◌, ◌&&◌}
use Rattle.hp_elements.specs.declared.token.Token.{Token}
use Rattle.hp_names.specs.References.{Reference}
use Rattle.hp_names.specs.Longest.{longest}
use Rattle.hp_names.specs.declared.names.Found.{Found}
use Rattle.hp_tokens.specs.declared.state.State.{State}
use Rattle.hp_tokens.specs.declared.state.State.TheVariants.{NamedCharacterReference, MarkupDeclarationOpen, AfterDoctypeName}
use Rattle.hp_tokens.specs.declared.machine.Machine.{Machine}
use Rattle.hp_tokens.specs.declared.lexing.LexState.{LexState}
use Rattle.hp_tokens.specs.declared.rows.Reads.{Reads}
use Rattle.hp_tokens.specs.declared.rows.Reads.TheVariants.{Consume, Again, End}
use Rattle.hp_tokens.specs.declared.rows.Turn.{Turn}
use Rattle.hp_tokens.specs.declared.rows.Turn.TheVariants as turns
use Rattle.hp_tokens.specs.Rows.{Row, flushed_tokens}
use Rattle.hp_tokens.specs.Moves.{Lexing, Emitted, Move, needs_more, makes, ends, all_began, after_row, after_end, row_end, end_move_on, end_move}
use Rattle.hp_tokens.specs.Runs.{Leads, here, onward}
use Rattle.hp_tokens.specs.Ranks.{rank, symbol_of, weight}
use Rattle.hp_tokens.specs.Advancing.{held, lexing, tokens_of, Appends, end_of_text, EndTurned, Ends, Leaves}
use Rattle.hp_tokens.proofs.Pieces.{Leads-join}
use Rattle.hp_tokens.proofs.OneByOne.{Appends-join, Appends-none}
use Rattle.hp_tokens.proofs.Stepping.{tokens_of-all_began}
use Rattle.hp_lex_tags.specs.Tags as tags
use Rattle.hp_lex_tags.specs.Rows as tag_rows
use Rattle.hp_lex_tags.specs.Named.{reference_move, with_found}
use Rattle.hp_lex_raw.specs.Raw as raw
use Rattle.hp_lex_raw.specs.Rows as raw_rows
use Rattle.hp_lex_markup.specs.Markup as markup
use Rattle.hp_lex_markup.specs.Rows as markup_rows
use Rattle.hp_lex_markup.specs.Words.{word}
use Rattle.hp_lex_markup.specs.declared.words.Word.{Word}
use Rattle.hp_lexer.specs.Table.{table, part_of}
use Rattle.hp_lexer.proofs.Parts.{in_its_part}
use Rattle.hp_lexer.proofs.Falling.{bytes, end_move_falls, Leads-at_most, Leads-smaller}

-- the same machine with the same unread
pub record Same (l k : Lexing) : Type 0 where
  pub machine : l.machine ≡ k.machine
  pub unread : l.unread ≡ k.unread

abbrev pub placed : ℕ → ℕ → Lexing → Lexing
placed place rested l = record l { place = place; rested = rested }

abbrev pub Alike : Move → Move → Type 0
Alike (makes m es) y = (n : Lexing) × (fs : List Emitted) × (y ≡ makes n fs) × Same m n × (tokens_of es ≡ tokens_of fs)
Alike (ends es) y = (fs : List Emitted) × (y ≡ ends fs) × (tokens_of es ≡ tokens_of fs)
Alike _ y = Unit {0}

same_tokens : (p q : ℕ) (ts : List Token) → tokens_of (all_began p ts) ≡ tokens_of (all_began q ts)
same_tokens p q ts = tokens_of-all_began p ts ∙ sym (tokens_of-all_began q ts)

made_alike : (m n : Lexing) (p q : ℕ) (ts : List Token) → m.machine ≡ n.machine → m.unread ≡ n.unread
    → Alike (makes m (all_began p ts)) (makes n (all_began q ts))
made_alike m n p q ts a b = (n, all_began q ts, refl, record { machine = a; unread = b }, same_tokens p q ts)

alike_if : (b : Bool) (x y x' y' : Move) → Alike x x' → Alike y y' → Alike (cond b x y) (cond b x' y')
alike_if true x y x' y' h k = h
alike_if false x y x' y' h k = k

module _ (p q : ℕ) (l : Lexing) where
  row_alike : (r : Row) (c : ℕ) (cs : List ℕ) (reads : Reads) → Alike (after_row r l c cs reads) (after_row r (placed p q l) c cs reads)
  row_alike r c cs Consume = made_alike _ _ l.rested q r.emits refl refl
  row_alike r c cs Again = made_alike _ _ l.rested q r.emits refl refl
  row_alike r c cs End = tt

  end_alike : (r : Row) (reads : Reads) → Alike (after_end r l reads) (after_end r (placed p q l) reads)
  end_alike r Consume = tt
  end_alike r Again = made_alike _ _ l.rested q r.emits refl refl
  end_alike r End = (all_began q r.emits, refl, same_tokens l.rested q r.emits)

  row_end-alike : (row : Machine → Option ℕ → Row) (text : List ℕ) → Alike (row_end row l text) (row_end row (placed p q l) text)
  row_end-alike row [] = end_alike (row l.machine None) _
  row_end-alike row (c ∷ cs) = row_alike (row l.machine _) c cs _

  row_if : (b : Bool) (row : Machine → Option ℕ → Row) (text : List ℕ) → Alike (cond b (row_end row l text) needs_more) (cond b (row_end row (placed p q l) text) needs_more)
  row_if true row text = row_end-alike row text
  row_if false row text = tt

  reference_alike : (o : Option Found) → Alike (reference_move o l) (reference_move o (placed p q l))
  reference_alike None = made_alike _ _ l.rested q (flushed_tokens l.machine) refl refl
  reference_alike (Some f) = made_alike _ _ l.rested q (flushed_tokens (with_found f l.machine l.unread)) refl refl

  tags_alike : (s : State) (names : List Reference) (text : List ℕ) → Alike (tags.last_state s names l text) (tags.last_state s names (placed p q l) text)
  tags_alike NamedCharacterReference names text = reference_alike (longest names l.unread)
  tags_alike s names text = row_if (tag_rows.has_row s) tag_rows.row text

  word_alike : (o : Option Word) (text : List ℕ) → Alike (markup.word_read_at_end o l text) (markup.word_read_at_end o (placed p q l) text)
  word_alike None text = row_end-alike markup_rows.row text
  word_alike (Some w) text = made_alike _ _ l.rested q [] refl refl

  markup_alike : (s : State) (text : List ℕ) → Alike (markup.last_state s l text) (markup.last_state s (placed p q l) text)
  markup_alike MarkupDeclarationOpen text = word_alike (word l.machine.state l.unread) text
  markup_alike AfterDoctypeName text = word_alike (word l.machine.state l.unread) text
  markup_alike s text = row_if (markup_rows.has_row s) markup_rows.row text

  table_alike : (names : List Reference) (text : List ℕ) → Alike ((table names).last l text) ((table names).last (placed p q l) text)
  table_alike names text =
      alike_if (tags.is_here l.machine.state) _ _ _ _ (tags_alike l.machine.state names text)
      (alike_if (raw.is_here l.machine.state) _ _ _ _ (row_if (raw_rows.has_row l.machine.state) raw_rows.row text)
      (markup_alike l.machine.state text))

  move_alike : (names : List Reference) (text : List ℕ) → Alike (end_move_on (table names) l text) (end_move_on (table names) (placed p q l) text)
  move_alike names [] = table_alike names []
  move_alike names (c ∷ cs) =
      alike_if (l.machine.after_cr && c == 10) _ _ _ _ (made_alike _ _ l.rested q [] refl refl) (table_alike names (c ∷ cs))

tokens_of-append : (xs ys : List Emitted) → tokens_of (xs ++ ys) ≡ tokens_of xs ++ tokens_of ys
tokens_of-append [] ys = refl
tokens_of-append (x ∷ xs) ys = ap (λ (ts : List Token). x.token ∷ ts) (tokens_of-append xs ys)

module _ (names : List Reference) where
  same_move : (l k : Lexing) → Same l k → Alike (end_move (table names) l) (end_move (table names) k)
  same_move l k s =
      let a : placed k.place k.rested l ≡ k =
      ap (λ (x : Machine). record { machine = x; place = k.place; rested = k.rested; unread = l.unread }) s.machine
      ∙ ap (λ (x : List ℕ). record { machine = k.machine; place = k.place; rested = k.rested; unread = x }) s.unread in
      let P : Lexing → Type 0 = λ x. Alike (end_move (table names) l) (end_move (table names) x) in
      subst P a (move_alike k.place k.rested l names l.unread)

  made_there : (l k m : Lexing) (es : List Emitted) → Same l k → end_move (table names) l ≡ makes m es
      → (n : Lexing) × (fs : List Emitted) × (end_move (table names) k ≡ makes n fs) × Same m n × (tokens_of es ≡ tokens_of fs)
  made_there l k m es s e = let P : Move → Type 0 = λ x. Alike x (end_move (table names) k) in subst P e (same_move l k s)

  ended_there : (l k : Lexing) (es : List Emitted) → Same l k → end_move (table names) l ≡ ends es
      → (fs : List Emitted) × (end_move (table names) k ≡ ends fs) × (tokens_of es ≡ tokens_of fs)
  ended_there l k es s e = let P : Move → Type 0 = λ x. Alike x (end_move (table names) k) in subst P e (same_move l k s)

  leads_there : {l m : Lexing} {es : List Emitted} (k : Lexing) → Same l k → Leads (end_move (table names)) l es m
      → (n : Lexing) × (fs : List Emitted) × Leads (end_move (table names)) k fs n × Same m n × (tokens_of es ≡ tokens_of fs)
  leads_there k s here = (k, [], here, s, refl)
  leads_there {l} k s (onward {m = mid} {es = first} {fs = rest} e r) =
      let a = made_there l k mid first s e in
      let b = leads_there a.0 a.3 r in (
        b.0,
        a.1 ++ b.1,
        onward a.2 b.2,
        b.3,
        tokens_of-append first rest ∙ (ap (λ (ts : List Token). ts ++ tokens_of rest) a.4 ∙ (ap (λ (ts : List Token). tokens_of a.1 ++ ts) b.4 ∙ sym (tokens_of-append a.1 b.1))),
      )

  module _ (old : Lexing) (mid : LexState) (old_tokens mid_tokens : List Token) (left : Leaves (table names) old old_tokens mid mid_tokens) where
    stood : Same (lexing mid end_of_text 0) left.there
    stood = record { machine = sym left.machine; unread = append-nil mid.ahead ∙ sym left.unread }

    appends_same : (es fs : List Emitted) (new_tokens : List Token) → tokens_of es ≡ tokens_of fs → Appends mid_tokens es new_tokens → Appends mid_tokens fs new_tokens
    appends_same es fs new_tokens e a = record { more = a.more; appended = a.appended; spelled = a.spelled ∙ e; runs = a.runs }

    pub left_on : (new : LexState) (tokens : List Token) → Leaves (table names) (lexing mid end_of_text 0) mid_tokens new tokens → Leaves (table names) old old_tokens new tokens
    left_on new tokens b =
        let c = leads_there left.there stood b.leads in
        record {
          there = c.0;
          machine = sym c.3.machine ∙ b.machine;
          unread = sym c.3.unread ∙ b.unread;
          es = left.es ++ c.1;
          leads = Leads-join left.leads c.2;
          appends = Appends-join left.appends (appends_same b.es c.1 tokens c.4 b.appends);
        }

    pub ended_on : (tokens : List Token) → Ends (table names) (lexing mid end_of_text 0) mid_tokens tokens → Ends (table names) old old_tokens tokens
    ended_on tokens b =
        let c = leads_there left.there stood b.leads in
        let d = ended_there b.mid c.0 b.rest c.3 b.ended in
        let same : tokens_of (b.first ++ b.rest) ≡ tokens_of (c.1 ++ d.0) =
        tokens_of-append b.first b.rest ∙ (ap (λ (ts : List Token). ts ++ tokens_of b.rest) c.4 ∙ (ap (λ (ts : List Token). tokens_of c.1 ++ ts) d.2 ∙ sym (tokens_of-append c.1 d.0))) in
        record {
          mid = c.0;
          first = left.es ++ c.1;
          rest = d.0;
          leads = Leads-join left.leads c.2;
          ended = d.1;
          appends = subst (λ (xs : List Emitted). Appends old_tokens xs tokens) (sym (append_assoc left.es c.1 d.0))
              (Appends-join left.appends (appends_same (b.first ++ b.rest) (c.1 ++ d.0) tokens same b.appends));
        }

    pub left_held : held mid ≤ bytes old.unread
    left_held = omega (arith, (Leads-at_most (λ l. end_move (table names) l) (end_move_falls names) left.leads).1, ap bytes left.unread)

  pub left_smaller : (mid new : LexState) (mid_tokens tokens : List Token) → Leaves (table names) (lexing mid end_of_text 0) mid_tokens new tokens
      → part_of mid.machine.state new.machine.state ≡ false → weight (lexing new end_of_text 0) < weight (lexing mid end_of_text 0)
  left_smaller mid new mid_tokens tokens b away =
      let there : part_of mid.machine.state b.there.machine.state ≡ false = ap (λ (m : Machine). part_of mid.machine.state m.state) b.machine ∙ away in
      let falls : weight b.there < weight (lexing mid end_of_text 0) =
      Leads-smaller (λ l. end_move (table names) l) (end_move_falls names) (part_of mid.machine.state) (in_its_part mid.machine.state) there b.leads in
      let unread_is : b.there.unread ≡ new.ahead ++ [] = b.unread ∙ sym (append-nil new.ahead) in
      let P : List ℕ → Type 0 = λ u. 8 * length u + rank b.there.machine.state (symbol_of u) < weight (lexing mid end_of_text 0) in
      let Q : Machine → Type 0 = λ m. 8 * length (new.ahead ++ []) + rank m.state (symbol_of (new.ahead ++ [])) < weight (lexing mid end_of_text 0) in
      subst Q b.machine (subst P unread_is falls)

  pub left_none : (old : LexState) (rested : ℕ) (tokens : List Token) → tokens ≡ [] → Leaves (table names) (lexing old end_of_text rested) [] old tokens
  left_none old rested tokens e = record {
    there = lexing old end_of_text rested;
    machine = refl;
    unread = append-nil old.ahead;
    es = [];
    leads = here;
    appends = subst (λ (ts : List Token). Appends [] [] ts) (sym e) (Appends-none []);
  }

-- the end was reached, unless the state is in another part
pub ended_if : (names : List Reference) (has : State → Bool) (old : Lexing) (old_tokens : List Token) (new : LexState) (tokens : List Token) (turn : Turn)
    → EndTurned (table names) has old old_tokens new tokens turn → (turn ≡ turns.Moved → ⊥) → Ends (table names) old old_tokens tokens
ended_if names has old old_tokens new tokens turns.Emitted h other = h
ended_if names has old old_tokens new tokens turns.Moved h other = absurd (other refl)
ended_if names has old old_tokens new tokens _ h other = absurd h
