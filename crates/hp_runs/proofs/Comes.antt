-- What the lexer's calls do to how far a run over an older state has come.
use Rattle.std.proofs.Common.{◌≡◌, ℕ, ◌+◌, ◌-◌, ◌≤◌, ◌^◌, List, [], ◌∷◌, ◌++◌, map, Bool, true, false, cond, not, refl, ap, ◌∙◌, sym, subst, append-nil, arith, Option, Some}
use Rattle.std.specs.Prelude.{◌&&◌}
use Rattle.hp_elements.specs.declared.token.CharClass.TheVariants.{White}
use Rattle.hp_elements.specs.declared.token.Rest.{Rest}
use Rattle.hp_elements.specs.declared.token.Token.{Token}
use Rattle.hp_elements.specs.declared.token.Token.TheVariants as token
use Rattle.hp_names.specs.References.{Reference}
use Rattle.hp_tokens.specs.declared.machine.Machine.{Machine}
use Rattle.hp_tokens.specs.Advancing.{AreRuns, held, singles, tokens_of}
use Rattle.hp_tokens.specs.Moves.{Emitted, Lexing, Move, asks_cdata, asks_last_tag, makes, move, needs_more, standing}
use Rattle.hp_tokens.specs.Reading.{Unread}
use Rattle.hp_tokens.specs.Rows.{character}
use Rattle.hp_tokens.specs.Runs.{Leads}
use Rattle.hp_control.specs.declared.edit.Edit.{Edit}
use Rattle.hp_control.specs.Composed.{is_foreign_now}
use Rattle.hp_control.specs.Outcome.{is_older, touches_any}
use Rattle.hp_control.specs.States.{ControlState, IsValid}
use Rattle.hp_groves.specs.Joining.{JoinTexts, Same, Back, Through}
use Rattle.hp_groves.proofs.Joined.{one_by_one-join}
use Rattle.hp_lexer.specs.declared.lexer.Asked.{Asked}
use Rattle.hp_lexer.specs.declared.lexer.Lexer.{Lexer}
use Rattle.hp_lexer.specs.Places.{IsInPiece, told, text_at}
use Rattle.hp_lexer.specs.Standing.{IsBatch, PlainStepped, opened, stands, stands_answered}
use Rattle.hp_lexer.specs.Table.{table}
use Rattle.hp_lexer.proofs.Placing.{PlacedMove, move-placed, stand}
use Rattle.hp_model.proofs.AtOnce.{runs_at_once}
use Rattle.hp_model.proofs.Texts.{texts_at_once}
use Rattle.hp_model.specs.AtOnce.{LeaveSame, handle_at_once}
use Rattle.hp_model.specs.Handling.{handle}
use Rattle.hp_model.specs.Runs.{Parser, at_lexing, goes, step, step_by, switched}
use Rattle.hp_model.specs.Texts.{as_run, each_at_once}
use Rattle.hp_model.specs.Turns.{left_by}
use Rattle.hp_runs.specs.Closing.{AreCharacters, LeadsOn, last}
use Rattle.hp_runs.specs.Coming.{BlanksCome, ComesFurther, CutEnds, HasCome, NameComes, RunBegins, SectionComes, SilenceComes, TagComes, TextBegins, TextComes, TokensCome, TokensRead, untouched_at_once}
use Rattle.hp_runs.specs.Filled.{FilledMove, at_filled, filled}
use Rattle.hp_runs.specs.Handling.{left_after, made_after, turned_by}
use Rattle.hp_runs.specs.Tokens.{AllRead}
use Rattle.hp_runs.specs.Touching.{GoesOwn, here, onward, is_untouched, untouched}
use Rattle.hp_runs.proofs.AtOnce.{after-valid, characters-single, each-left, each-made, each-untouched, untouched-singles, white_same}
use Rattle.hp_runs.proofs.Batches.{at}
use Rattle.hp_runs.proofs.ClosingRows.{characters-alone}
use Rattle.hp_runs.proofs.Filling.{answer-fills}
use Rattle.hp_runs.proofs.FillingTable.{moves-filled}
use Rattle.hp_runs.proofs.Following.{Follows, led-follows}
use Rattle.hp_runs.proofs.Groups.{Led, batch-led, characters-led, led-behind}
use Rattle.hp_runs.proofs.Lexers.{characters-after, stands-after}
use Rattle.hp_runs.proofs.Own.{own-join}
use Rattle.hp_runs.proofs.Insides.{leads-inside, runs-inside}
use Rattle.hp_runs.proofs.Stepping.{silent-moves, stepped-read}
use Rattle.hp_runs.proofs.Together.{at_once-valid}
use Rattle.hp_runs.proofs.Turning.{Does, all-together}

pub tokens-read : TokensRead
tokens-read old new old_input new_input began tokens s =
    let read = stepped-read old old_input new new_input began tokens s in
    (read.0, read.1, runs-inside s.0.es tokens (ap singles s.0.appends.appended ∙ s.0.appends.spelled) (leads-inside old.names s.0.leads))

pub run-begins : RunBegins
run-begins names name base s from l input a = record { at = from.lexing; goes = here; follows = a }

start_place : (o h : ℕ) → h ≤ o → (o - h) + h ≡ 0 + o
start_place o h few = omega arith

start_rest : (o h now : ℕ) → now ≡ o → now - o ≡ 0 - h
start_rest o h now e = omega arith

none_before : (h : ℕ) → 0 ≤ h
none_before h = omega arith

pub text-begins : TextBegins
text-begins names name s c l machine text nothing begins few is = record { at = standing machine 0 0 (l.lex.ahead ++ text); goes = here; follows = subst Q (sym nothing) (subst P (sym is) there) }
  where
    there : IsInPiece (held l.lex) (standing (filled name l.lex.machine) (2 ^ 32 - held l.lex) l.rested (l.lex.ahead ++ text)) (standing (filled name l.lex.machine) 0 0 (l.lex.ahead ++ text))
    there = stand (held l.lex) (filled name l.lex.machine) (l.lex.ahead ++ text) (2 ^ 32 - held l.lex) 0 l.rested 0 (start_place (2 ^ 32) (held l.lex) few) (start_rest (2 ^ 32) (held l.lex) l.rested begins) (none_before 0)

    P : Machine → Type 0
    P m = IsInPiece (held l.lex) (standing (filled name l.lex.machine) (2 ^ 32 - held l.lex) l.rested (l.lex.ahead ++ text)) (standing m 0 0 (l.lex.ahead ++ text))

    Q : Asked → Type 0
    Q a = IsInPiece (held l.lex) (at_filled name (stands (record l { asked = a }) (text_at (2 ^ 32) text))) (standing machine 0 0 (l.lex.ahead ++ text))

module _ (names : List Reference) (name : List ℕ) (base : ℕ) (s : ControlState) (from : Parser) where
  abbrev pub Come : Lexing → ControlState → List Edit → Type 0
  Come l c es = HasCome names name base s from l c es

  -- such moves, and each token by itself
  pub led-come : (l k : Lexing) (c : ControlState) (es : List Edit) (emitted : List Emitted) → Come l c es → LeadsOn (move (table names)) l emitted k → untouched s c (tokens_of emitted) ≡ true
      → Come (turned_by handle c (tokens_of emitted) k) (left_after handle c (tokens_of emitted)) (es ++ made_after handle c (tokens_of emitted))
  led-come l k c es emitted h leads u =
      let f : Follows names name base s h.at c (made_after handle c (tokens_of emitted)) (turned_by handle c (tokens_of emitted) k) (left_after handle c (tokens_of emitted)) =
      led-follows names name base s h.at c leads h.follows u in
      record { at = f.there; goes = own-join (table names) s h.goes f.goes; follows = f.follows }

  -- moves that emit nothing
  pub silent-come : (l k : Lexing) (c : ControlState) (es : List Edit) → Come l c es → Leads (move (table names)) l [] k → Come k c es
  silent-come l k c es h leads = subst (Come k c) (append-nil es) (led-come l k c es [] h (characters-led names leads tt) refl)

  -- tokens of an answer, at once
  tokens-further : (l k : Lexing) (c : ControlState) (es : List Edit) (emitted : List Emitted) (tokens : List Token) → Come l c es → LeadsOn (move (table names)) l emitted k → singles tokens ≡ tokens_of emitted
      → AllRead tokens → AreRuns tokens → IsValid c → untouched_at_once s c tokens ≡ true
      → ComesFurther names name base s from (turned_by handle_at_once c tokens k) (left_after handle_at_once c tokens) es (made_after handle_at_once c tokens)
  tokens-further l k c es emitted tokens h leads spelled read runs valid u = record {
    more = made_after handle c (singles tokens);
    comes =
        subst (λ (n : Lexing). Come n (left_after handle_at_once c tokens) (es ++ made_after handle c (singles tokens))) does.turned
        (subst (λ (d : ControlState). Come (turned_by handle c (singles tokens) k) d (es ++ made_after handle c (singles tokens))) does.left there);
    same = Back _ _ does.made;
    valid = after-valid tokens c read runs valid;
  }
    where
      does : Does c tokens k
      does = all-together runs_at_once tokens c k read runs valid

      there : Come (turned_by handle c (singles tokens) k) (left_after handle c (singles tokens)) (es ++ made_after handle c (singles tokens))
      there =
          subst (λ (ts : List Token). Come (turned_by handle c ts k) (left_after handle c ts) (es ++ made_after handle c ts)) (sym spelled)
          (led-come l k c es emitted h leads (ap (untouched s c) (sym spelled) ∙ (untouched-singles s tokens c read runs valid ∙ u)))

  -- one token, as it was emitted
  tag-further : (l k : Lexing) (c : ControlState) (es : List Edit) (e : Emitted) → Come l c es → LeadsOn (move (table names)) l (e ∷ []) k → AllRead (e.token ∷ []) → AreRuns (e.token ∷ []) → IsValid c
      → untouched_at_once s c (e.token ∷ []) ≡ true
      → ComesFurther names name base s from (turned_by handle_at_once c (e.token ∷ []) k) (left_after handle_at_once c (e.token ∷ [])) es (made_after handle_at_once c (e.token ∷ []))
  tag-further l k c es e h leads read runs valid u = record {
    more = made_after handle c (e.token ∷ []);
    comes =
        subst (λ (r : Option Rest). Come (switched r k) (left_by (handle_at_once c e.token)) (es ++ made_after handle c (e.token ∷ []))) same.switch
        (subst (λ (d : ControlState). Come (switched (handle c e.token).switch k) d (es ++ made_after handle c (e.token ∷ []))) same.control
        (led-come l k c es (e ∷ []) h leads (ap (λ b. not b && true) (same.touched (is_older s)) ∙ u)));
    same = one_by_one-join (handle_at_once c e.token).outcome.edits (handle c e.token).outcome.edits [] [] (Back _ _ same.edits) (Same []);
    valid = at_once-valid runs_at_once e.token c read.0 runs valid;
  }
    where
      same : LeaveSame (handle c e.token) (handle_at_once c e.token)
      same = runs_at_once e.token c read.0 runs.0 valid

  -- code points as one run
  run-further : (l : Lexing) (c : ControlState) (es : List Edit) (ts : List Token) (run : Token) → ComesFurther names name base s from l (left_after handle_at_once c ts) es (made_after handle_at_once c ts)
      → LeaveSame (each_at_once c ts) (handle_at_once c run) → ComesFurther names name base s from l (left_by (handle_at_once c run)) es (handle_at_once c run).outcome.edits
  run-further l c es ts run f same = record {
    more = f.more;
    comes = subst (λ (d : ControlState). Come l d (es ++ f.more)) left f.comes;
    same = Through _ _ _ (Back _ _ same.edits) (subst (λ (made : List Edit). JoinTexts made f.more) (sym (each-made c ts)) f.same);
    valid = subst IsValid left f.valid;
  }
    where
      left : left_after handle_at_once c ts ≡ left_by (handle_at_once c run)
      left = sym (each-left c ts) ∙ same.control

  -- a text's code points, which are one run
  plain-further : (c : ControlState) (es : List Edit) (old new : Lexer) (old_input new_input : Unread) (text : List ℕ) (run : Token) → Come (stands old old_input) c es → old.names ≡ names → IsValid c
      → PlainStepped old old_input new new_input text → LeaveSame (each_at_once c (map character text)) (handle_at_once c run) → touches_any s (handle_at_once c run).outcome ≡ false
      → ComesFurther names name base s from (stands new new_input) (left_by (handle_at_once c run)) es (handle_at_once c run).outcome.edits
  plain-further c es old new old_input new_input text run h is valid plain same u =
      run-further (stands new new_input) c es (map character text) run
      (subst (λ (l : Lexing). ComesFurther names name base s from l (left_after handle_at_once c (map character text)) es (made_after handle_at_once c (map character text))) there
      (tokens-further (stands old old_input) (stands new new_input) c es plain.stepped.0.es (map character text) h leads spelled read.0 read.1 valid untouched_text)) same
    where
      read : AllRead (map character text) × AreRuns (map character text)
      read = stepped-read old old_input new new_input _ (map character text) plain.stepped

      spelled : singles (map character text) ≡ tokens_of plain.stepped.0.es
      spelled = ap singles plain.stepped.0.appends.appended ∙ plain.stepped.0.appends.spelled

      leads : LeadsOn (move (table names)) (stands old old_input) plain.stepped.0.es (stands new new_input)
      leads =
          characters-led names (subst (λ (n : List Reference). Leads (move (table n)) (stands old old_input) plain.stepped.0.es (stands new new_input)) is plain.stepped.0.leads)
          (subst AreCharacters (sym (characters-single text) ∙ spelled) (characters-alone text))

      there : turned_by handle_at_once c (map character text) (stands new new_input) ≡ stands new new_input
      there = sym (stands-after handle_at_once c (map character text) new new_input plain.stepped.2) ∙ ap (λ (l : Lexer). stands l new_input) (characters-after c text new)

      untouched_text : untouched_at_once s c (map character text) ≡ true
      untouched_text = each-untouched s c (map character text) ∙ ap not (same.touched (is_older s) ∙ u)

  -- the question's answer
  section-come : (l f h : Lexing) (c : ControlState) (es : List Edit) (foreign : Bool) → Come l c es → move (table names) l ≡ asks_cdata f h → foreign ≡ is_foreign_now c
      → Come (cond foreign f h) c es
  section-come l f h c es foreign come asks now = by asked_there
    where
      told_asks : move (table names) (at_filled name l) ≡ asks_cdata (at_filled name f) (at_filled name h)
      told_asks = subst (λ (x : Move). FilledMove name x (move (table names) (at_filled name l))) asks (moves-filled names name l)

      asked_there : PlacedMove base (asks_cdata (at_filled name f) (at_filled name h)) (move (table names) come.at)
      asked_there = subst (λ (x : Move). PlacedMove base x (move (table names) come.at)) told_asks (move-placed names base (at_filled name l) come.at come.follows)

      on : (k : Lexing) → step (table names) (at come.at c) ≡ goes (at k c) [] → is_untouched s c (move (table names) come.at) ≡ true → GoesOwn (table names) s from es (at k c)
      on k e u = subst (λ (xs : List Edit). GoesOwn (table names) s from xs (at k c)) (append-nil es) (own-join (table names) s come.goes (onward e u here))

      by : PlacedMove base (asks_cdata (at_filled name f) (at_filled name h)) (move (table names) come.at) → Come (cond foreign f h) c es
      by (f', h', same, in_section, in_comment) = answered foreign now
        where
          answered : (b : Bool) → b ≡ is_foreign_now c → Come (cond b f h) c es
          answered true e = record {
            at = f';
            goes = on f' (ap (step_by (at come.at c)) same ∙ ap (λ (x : Bool). goes (at_lexing (at come.at c) (cond x f' h')) []) (sym e)) (ap (is_untouched s c) same);
            follows = in_section;
          }
          answered false e = record {
            at = h';
            goes = on h' (ap (step_by (at come.at c)) same ∙ ap (λ (x : Bool). goes (at_lexing (at come.at c) (cond x f' h')) []) (sym e)) (ap (is_untouched s c) same);
            follows = in_comment;
          }

pub tokens-come : TokensCome
tokens-come names name base s from c es old new old_input new_input began tokens h is valid stepped batch u =
    let read = stepped-read old old_input new new_input began tokens stepped in
    let led : Led names (stands old old_input) (stands new new_input) tokens new.rested =
    batch-led names (stands old old_input) (stands new new_input) tokens new.rested (subst (λ (n : List Reference). IsBatch n (stands old old_input) (stands new new_input) tokens new.rested) is batch) in
    subst (λ (l : Lexing). ComesFurther names name base s from l (left_after handle_at_once c tokens) es (made_after handle_at_once c tokens)) (sym (stands-after handle_at_once c tokens new new_input stepped.2))
    (tokens-further names name base s from (stands old old_input) (stands new new_input) c es led.es tokens h led.leads led.spelled read.0 read.1 valid u)

pub tag-comes : TagComes
tag-comes names name base s from c es old new old_input new_input tag h is valid (stepped, emits) u =
    let read = stepped-read old old_input new new_input _ (tag ∷ []) stepped in
    let e : Emitted = record { began = new.rested; token = tag } in
    let leads : LeadsOn (move (table names)) (stands old old_input) (e ∷ []) (stands new new_input) =
    led-behind names (subst (λ (n : List Reference). Leads (move (table n)) (stands old old_input) [] emits.mid) is emits.leads) tt
    (last (subst (λ (n : List Reference). move (table n) emits.mid ≡ makes (stands new new_input) (e ∷ [])) is emits.last)) in
    subst (λ (l : Lexing). ComesFurther names name base s from l (left_after handle_at_once c (tag ∷ [])) es (made_after handle_at_once c (tag ∷ []))) (sym (stands-after handle_at_once c (tag ∷ []) new new_input stepped.2))
    (tag-further names name base s from (stands old old_input) (stands new new_input) c es e h leads read.0 read.1 valid u)

pub text-comes : TextComes
text-comes names name base s from c es old new old_input new_input [] h is valid plain takes u = absurd (omega (arith, plain.long))
text-comes names name base s from c es old new old_input new_input (x ∷ xs) h is valid plain takes u =
    plain-further names name base s from c es old new old_input new_input (x ∷ xs) (as_run (x ∷ xs)) h is valid plain (texts_at_once x xs c valid takes plain.no_nul).same u

pub blanks-come : BlanksCome
blanks-come names name base s from c es old new old_input new_input [] h is valid plain blank u = absurd (omega (arith, plain.long))
blanks-come names name base s from c es old new old_input new_input (x ∷ xs) h is valid plain blank u =
    plain-further names name base s from c es old new old_input new_input (x ∷ xs) (token.Characters White (x ∷ xs)) h is valid plain (white_same x xs c valid blank) u

pub silence-comes : SilenceComes
silence-comes names name base s from c es old new old_input new_input h is reaches =
    silent-come names name base s from (stands old old_input) (stands new new_input) c es h (silent-moves names old.names reaches is)

pub section-comes : SectionComes
section-comes names name base s from c es old new old_input new_input foreign h is reaches now = by foreign (section-come names name base s from reaches.there (stands_answered true new new_input) (stands_answered false new new_input) c es foreign there asks now)
  where
    there : HasCome names name base s from reaches.there c es
    there = silent-come names name base s from (stands old old_input) reaches.there c es h (silent-moves names old.names reaches.advances is)

    asks : move (table names) reaches.there ≡ asks_cdata (stands_answered true new new_input) (stands_answered false new new_input)
    asks = subst (λ (n : List Reference). move (table n) reaches.there ≡ asks_cdata (stands_answered true new new_input) (stands_answered false new new_input)) is reaches.asks

    by : (b : Bool) → HasCome names name base s from (cond b (stands_answered true new new_input) (stands_answered false new new_input)) c es → HasCome names name base s from (stands_answered b new new_input) c es
    by true k = k
    by false k = k

pub name-comes : NameComes
name-comes names name base s from c es old new old_input new_input h is (reaches, asks, nothing) = record {
  at = there.at;
  goes = there.goes;
  follows = subst (λ (l : Lexing). IsInPiece base l there.at) same there.follows;
}
  where
    there : HasCome names name base s from (stands new new_input) c es
    there = silent-come names name base s from (stands old old_input) (stands new new_input) c es h (silent-moves names old.names reaches is)

    asks_there : move (table names) (stands new new_input) ≡ asks_last_tag
    asks_there = subst (λ (n : List Reference). move (table n) (stands new new_input) ≡ asks_last_tag) is asks

    answered : Lexing → Lexing
    answered l = record l { machine = record l.machine { last_tag = Some name } }

    behind : stands (told name new) new_input ≡ answered (stands new new_input)
    behind = subst (λ (a : Asked). stands (told name new) new_input ≡ answered (stands (record new { asked = a }) new_input)) (sym nothing) refl

    same : at_filled name (stands new new_input) ≡ at_filled name (stands (told name new) new_input)
    same = sym (ap (at_filled name) behind ∙ answer-fills names name (stands new new_input) asks_there)

pub cut-ends : CutEnds
cut-ends names name base s from c es old new old_input new_input h is cut = record {
  at = there.at;
  goes = there.goes;
  machine = there.follows.machine ∙ ap (λ (a : Asked). filled name (opened a new.lex.machine)) cut.asked;
  unread = there.follows.unread ∙ (ap (λ (t : List ℕ). new.lex.ahead ++ t) cut.used ∙ append-nil new.lex.ahead);
  needs = needs_there;
}
  where
    stop : Lexing
    stop = stands (record new { rested = cut.rested }) new_input

    there : HasCome names name base s from stop c es
    there = silent-come names name base s from (stands old old_input) stop c es h (silent-moves names old.names cut.advances is)

    needs_told : move (table names) (at_filled name stop) ≡ needs_more
    needs_told =
        subst (λ (x : Move). FilledMove name x (move (table names) (at_filled name stop))) (subst (λ (n : List Reference). move (table n) stop ≡ needs_more) is cut.needs) (moves-filled names name stop)

    needs_there : move (table names) there.at ≡ needs_more
    needs_there = subst (λ (x : Move). PlacedMove base x (move (table names) there.at)) needs_told (move-placed names base (at_filled name stop) there.at there.follows)
