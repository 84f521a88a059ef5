-- What a parser behind a guess has made is true of each older state of which the answers are true.
use Rattle.std.proofs.Common.{◌≡◌, ◌⊎◌, inl, inr, ℕ, ◌^◌, ◌<◌, List, [], ◌∷◌, ◌++◌, map, length, Bool, true, false, refl, ap, ◌∙◌, sym, subst, lit≤, arith, ◌≤◌, Option, None, Some}
use Rattle.std.specs.Prelude.{All, IsTrue, Result, Ok, take, if◌then◌else◌}
use Rattle.std.specs.Option.{is_some, unwrap_or}
use Rattle.std.specs.Str.{IsCharBoundary, IsUtf8, chars}
use Rattle.std.proofs.lemmas.List.Elements.{All-cons, All-nil}
use Rattle.std.proofs.lemmas.List.{length-take}
use Rattle.std.proofs.lemmas.Str.{IsCharBoundary-from_take, IsCharBoundary-start}
use Rattle.hp_elements.specs.declared.token.Mode.{Mode}
use Rattle.hp_elements.specs.declared.token.Rest.{Rest}
use Rattle.hp_names.specs.BuiltIn.{built_in}
use Rattle.hp_tokens.specs.Advancing.{held, rest_state}
use Rattle.hp_tokens.specs.Moves.{standing}
use Rattle.hp_tokens.specs.Reading.{Unread}
use Rattle.hp_tokens.specs.declared.lexing.LexState.{LexState}
use Rattle.hp_tokens.specs.declared.machine.Machine.{Machine}
use Rattle.hp_control.specs.Agree.{AllTrue}
use Rattle.hp_control.specs.Apply.{applied, lex_after, named_edit}
use Rattle.hp_control.specs.Faithful.{IsBase, IsOpen, Page, Split, StandsOn, state_over, with_page}
use Rattle.hp_control.specs.Guessing.{AreSaid, Guessing, heard_by}
use Rattle.hp_control.specs.Holds.{Holds}
use Rattle.hp_control.specs.Laws.{KeptOnceWhereTrue}
use Rattle.hp_control.specs.Plan.{Heard, added, added_each, is_asked, kept_pairs, noting}
use Rattle.hp_control.specs.States.{ControlState, Fits, IsValid, is_rooted, lex_start}
use Rattle.hp_control.specs.Tree.{Tree}
use Rattle.hp_control.specs.declared.change.Change.{Change}
use Rattle.hp_control.specs.declared.edit.Edit.{Edit}
use Rattle.hp_control.specs.declared.question.Answer.{Answer}
use Rattle.hp_control.specs.declared.question.Answer.TheVariants as answer
use Rattle.hp_control.specs.declared.question.Crossing.{Crossing}
use Rattle.hp_control.specs.declared.question.Kept.{Kept}
use Rattle.hp_control.specs.declared.question.Question.{Question}
use Rattle.hp_control.specs.declared.question.Question.TheVariants as ask
use Rattle.hp_lexer.specs.declared.lexer.Asked.TheVariants as asked
use Rattle.hp_growing.specs.Laws.{FirstIsBelow}
use Rattle.hp_groves.specs.Joining.{JoinTexts}
use Rattle.hp_lexer.specs.declared.lexer.Lexer.{Lexer}
use Rattle.hp_lexer.specs.Places.{text_at}
use Rattle.hp_lexer.specs.Standing.{is_answered, stands}
use Rattle.hp_lexer.specs.Table.{table}
use Rattle.hp_model.specs.Runs.{Parser, followed_by, goes, rests, step_by}
use Rattle.hp_older.specs.Laws.{IsBegun, ViewsBegin}
use Rattle.hp_older.specs.Over.{IsOver, before_html, of_chunk, of_known}
use Rattle.hp_pieces.specs.Growth.{Grows as GrowsTo}
use Rattle.hp_pieces.specs.Guesses.{Guessed, IsSound}
use Rattle.hp_pieces.specs.Running.{Leads, parser_in}
use Rattle.hp_runs.proofs.Own.{own-goes}
use Rattle.hp_runs.specs.Coming.{HasCome, TextBegins}
use Rattle.hp_runs.specs.Filled.{filled}
use Rattle.hp_views.specs.Begins.{Begins, begins, ended}
use Rattle.hp_fragment.proofs.Asking.{noted-then}
use Rattle.hp_fragment.proofs.Ended.{some-is, split-so}
use Rattle.hp_pieces.specs.Reaching.{IsSaid}
use Rattle.hp_fragment.specs.Guessing.{HasBegun, IsGuessOf, made_by}
use Rattle.hp_fragment.specs.Making.{AllComeTo, Amounts, ComeTo, IsSplit, IsSplitIn, SplitBy}
use Rattle.hp_fragment.specs.Reading.{GoesToEnd, HasRead, HasReadAll, IsReady, Stage, Way, control_at}
use Rattle.hp_fragment.specs.declared.sink.Sink.{Sink}
use Rattle.hp_fragment.specs.declared.sink.Naming.{Naming}
use Rattle.hp_fragment.specs.declared.sink.Naming.TheVariants.{Numbers}
use Rattle.hp_fragment.specs.declared.sink.Splitting.{Splitting}

-- the run over a text behind s, which isn't known
abbrev pub way_over : ControlState → List ℕ → Way
way_over s text = record {
  older = s;
  name = unwrap_or s.lex.machine.last_tag [];
  told = false;
  base = 0;
  from = followed_by (parser_in s) text;
  kind = SplitBy Numbers;
}

-- a lexer that isn't told the name of s is that of s, once it is told
abbrev untold : LexState → ControlState → LexState
untold own s = lex_after false own s.lex

machine-filled : (own : LexState) (s : ControlState) → own.machine.last_tag ≡ None → is_some s.lex.machine.last_tag ≡ true → (untold own s).machine ≡ filled (unwrap_or s.lex.machine.last_tag []) own.machine
machine-filled own s none some = by_cases own.machine.last_tag s.lex.machine.last_tag none some
  where
    by_cases : (o p : Option (List ℕ)) → o ≡ None → is_some p ≡ true → record own.machine { last_tag = p } ≡ record own.machine { last_tag = Some (unwrap_or o (unwrap_or p [])) }
    by_cases None (Some x) e h = refl
    by_cases None None e h = cc
    by_cases (Some x) p e h = cc

-- what is left of the lexer is what was told, or else the older name
left-filled : (own : LexState) (s : ControlState) → is_some s.lex.machine.last_tag ≡ true
    → lex_after (is_some own.machine.last_tag) own s.lex ≡ record { machine = filled (unwrap_or s.lex.machine.last_tag []) own.machine; ahead = own.ahead }
left-filled own s some = by_cases own.machine.last_tag refl s.lex.machine.last_tag refl some
  where
    by_cases : (o : Option (List ℕ)) → own.machine.last_tag ≡ o → (p : Option (List ℕ)) → s.lex.machine.last_tag ≡ p → is_some p ≡ true
        → lex_after (is_some own.machine.last_tag) own s.lex ≡ record { machine = filled (unwrap_or s.lex.machine.last_tag []) own.machine; ahead = own.ahead }
    by_cases (Some x) e p f h =
        ap (λ (b : Bool). lex_after b own s.lex) (ap is_some e)
        ∙ (ap (λ (o : Option (List ℕ)). record { machine = record own.machine { last_tag = o }; ahead = own.ahead }) e
        ∙ sym (ap (λ (o : Option (List ℕ)). record { machine = record own.machine { last_tag = Some (unwrap_or o (unwrap_or s.lex.machine.last_tag [])) }; ahead = own.ahead }) e))
    by_cases None e (Some x) f h =
        ap (λ (b : Bool). lex_after b own s.lex) (ap is_some e)
        ∙ (ap (λ (o : Option (List ℕ)). record { machine = record own.machine { last_tag = o }; ahead = own.ahead }) f
        ∙ sym (ap (λ (o : Option (List ℕ)). record { machine = record own.machine { last_tag = Some (unwrap_or o (unwrap_or s.lex.machine.last_tag [])) }; ahead = own.ahead }) e
        ∙ ap (λ (o : Option (List ℕ)). record { machine = record own.machine { last_tag = Some (unwrap_or o []) }; ahead = own.ahead }) f))
    by_cases None e None f h = cc

-- the answers that were kept
module _ (says : Question → Answer) where
  abbrev pub none_heard : Heard
  none_heard = record { says = says; kept = Some [] }

  pairs-said : (qs : List Question) → AreSaid says (kept_pairs says qs)
  pairs-said [] = tt
  pairs-said (q ∷ qs) = (refl, pairs-said qs)

  said-add : (kept : List Kept) (k : Kept) → AreSaid says kept → k.answer ≡ says k.question → AreSaid says (kept ++ k ∷ [])
  said-add [] k h e = (e, tt)
  said-add (x ∷ xs) k h e = (h.0, said-add xs k h.1 e)

  said-each : (more kept : List Kept) → AreSaid says kept → AreSaid says more → AreSaid says (added_each kept more)
  said-each [] kept h m = h
  said-each (k ∷ ks) kept h m = said-each ks (added kept k) (by_cases (is_asked kept k.question)) m.1
    where
      by_cases : (b : Bool) → AreSaid says (if b then kept else kept ++ k ∷ [])
      by_cases true = h
      by_cases false = said-add kept k h m.0

  all-said : (kept : List Kept) → AreSaid says kept → All (λ (k : Kept). k.answer ≡ says k.question) kept
  all-said [] h = All-nil (λ (k : Kept). k.answer ≡ says k.question)
  all-said (k ∷ ks) h = All-cons (λ (k : Kept). k.answer ≡ says k.question) k ks h.0 (all-said ks h.1)

-- what is added stands behind what was there
first-stays : (k : Kept) (ks more : List Kept) → (rest : List Kept) × (added_each (k ∷ ks) more ≡ k ∷ rest)
first-stays k ks [] = (ks, refl)
first-stays k ks (x ∷ xs) = by_cases (is_asked (k ∷ ks) x.question) (λ (more : List Kept). first-stays k more xs)
  where
    by_cases : (b : Bool) → ((more : List Kept) → (rest : List Kept) × (added_each (k ∷ more) xs ≡ k ∷ rest)) → (rest : List Kept) × (added_each (if b then k ∷ ks else (k ∷ ks) ++ x ∷ []) xs ≡ k ∷ rest)
    by_cases true on = on ks
    by_cases false on = on (ks ++ x ∷ [])

module _ (law : TextBegins) (s : ControlState) (text : List ℕ) (valid : IsValid s) where
  some : is_some s.lex.machine.last_tag ≡ true
  some = some-is s.lex.machine.last_tag valid.lex.last_tag

  name : List ℕ
  name = unwrap_or s.lex.machine.last_tag []

  -- nothing was read yet
  pub begins-over : (rest : Rest) (after_cr : Bool) (m : Mode) (original : Option Mode) (skip_lf : Bool) (p : Stage) → IsBegun s (begins (answer.Resting rest after_cr m original skip_lf))
      → p.lexer ≡ record { lex = rest_state rest after_cr; names = built_in; asked = asked.Nothing; rested = 2 ^ 32 } → p.input ≡ text_at (2 ^ 32) text → p.split ≡ begins (answer.Resting rest after_cr m original skip_lf) → Amounts (SplitBy Numbers) p.sink s [] []
      → HasRead (way_over s text) p
  unfolding name
  begins-over rest after_cr m original skip_lf p begun lexer input split empty = record {
    named = refl;
    unpaged = λ guess. ap (λ (v : Split). v.page) split;
    over = subst (IsOver s) (sym split) begun.over;
    edits = [];
    comes =
        subst (λ (c : ControlState). HasCome built_in name 0 s from (stands p.lexer p.input) c []) (sym control)
        (subst (λ (u : Unread). HasCome built_in name 0 s from (stands p.lexer u) (record s { lex = lex_start }) []) (sym input)
        (subst (λ (l : Lexer). HasCome built_in name 0 s from (stands l (text_at (2 ^ 32) text)) (record s { lex = lex_start }) []) (sym lexer)
        (subst (λ (ahead : List ℕ). HasCome built_in name 0 s (followed_by (record { lexing = standing s.lex.machine 0 0 ahead; control = record s { lex = lex_start } }) text) (stands new (text_at (2 ^ 32) text)) (record s { lex = lex_start }) [])
        (ap (λ (l : LexState). l.ahead) same)
        (law built_in name s (record s { lex = lex_start }) new s.lex.machine text refl refl (lit≤ tt) (sym (ap (λ (l : LexState). l.machine) same) ∙ machine-filled own s refl some)))));
    amounts = subst (λ (es : List Edit). Amounts (SplitBy Numbers) p.sink s es []) (sym (ap (λ (v : Split). v.edits) split)) empty;
  }
    where
      own : LexState
      own = rest_state rest after_cr

      new : Lexer
      new = record { lex = own; names = built_in; asked = asked.Nothing; rested = 2 ^ 32 }

      from : Parser
      from = followed_by (parser_in s) text

      same : untold own s ≡ s.lex
      same = ap (λ (c : ControlState). c.lex) begun.same

      control : control_at s p ≡ record s { lex = lex_start }
      control = ap (λ (v : Split). record (state_over v s) { lex = lex_start }) split ∙ ap (λ (c : ControlState). record c { lex = lex_start }) begun.same

  -- the text is read to its end
  ends-over : (p : Stage) (all : HasReadAll (way_over s text) p) (edits : List Edit) → JoinTexts (map (named_edit s) edits) all.edits
      → Leads built_in text s (map (named_edit s) edits) (applied (ended p.lexer.lex (is_some p.lexer.lex.machine.last_tag) p.split.change) s)
  ends-over p all edits same = record {
    made = all.edits;
    there = there;
    run = record { goes = own-goes (table built_in) s all.ended.goes; rests = record { no_step = λ q fs e. none q fs (sym (ap (step_by there) all.ended.needs) ∙ e) } };
    reaches = ap (λ (l : LexState). record (applied p.split.change s) { lex = l }) lex ∙ sym (ap (λ (page : Option Page). record (with_page page (applied p.split.change s)) { lex = left }) (all.unpaged refl));
    same = same;
  }
    where
      there : Parser
      there = record { lexing = all.ended.at; control = control_at s p }

      none : (q : Parser) (fs : List Edit) → rests ≡ goes q fs → ⊥
      none q fs e = cc

      left : LexState
      left = record { machine = all.ended.at.machine; ahead = all.ended.at.unread }

      lex : lex_after (is_some p.lexer.lex.machine.last_tag) p.lexer.lex s.lex ≡ left
      lex =
          left-filled p.lexer.lex s some
          ∙ (ap (λ (m : Machine). record { machine = m; ahead = p.lexer.lex.ahead }) (sym all.ended.machine)
          ∙ ap (λ (u : List ℕ). record { machine = all.ended.at.machine; ahead = u }) (sym all.ended.unread))

-- a view on no page stands over a state in which html is open,
rooted-below : (s : ControlState) (v : Split) → StandsOn s v → v.page ≡ None → is_rooted s.stack ≡ true
rooted-below s v stands unpaged = let open_there : IsOpen v.change s = subst (λ (page : Option Page). IsBase page v.change s) unpaged stands.base in open_there.rooted

-- or it has made no element
rooted-or-none : (s : ControlState) (v : Split) → IsOver s v → v.page ≡ None → (is_rooted s.stack ≡ true) ⊎ ((applied v.change s).next ≡ s.next)
rooted-or-none s v (of_chunk k) unpaged = inl (rooted-below s v k.stands unpaged)
rooted-or-none s v (before_html k) unpaged = let none : v.change.made ≡ 0 = ap (λ (c : Change). c.made) k.unchanged in inr (omega (arith, none))
rooted-or-none s v (of_known k) unpaged = inl (rooted-below s v k.stands unpaged)

pub some-same : (xs ys : List Kept) → Some xs ≡ Some ys → xs ≡ ys
some-same xs ys e = cc

none_positive : 0 < 0 → ⊥
none_positive h = omega (arith, h)

-- what was asked first
abbrev pub first_asked : (Question → Answer) → Heard
first_asked says = noting (none_heard says) (ask.Entry ∷ [])

front-within : (text front : List ℕ) → front ≡ take (length front) text → length front ≤ length text
front-within text front is = omega (arith, ap length is, length-take (length front) text)

-- what is kept of these questions is what is said
pairs-are-said : (says : Question → Answer) (qs : List Question) (f : Guessed) → f.assumptions ≡ added_each [] (kept_pairs says (ask.Entry ∷ qs)) → IsSaid says f
pairs-are-said says qs f is =
    let entry : Kept = record { question = ask.Entry; answer = says ask.Entry } in
    let first = first-stays entry [] (kept_pairs says qs) in record {
      more = first.0;
      first = is ∙ first.1;
      said = subst (All (λ (k : Kept). k.answer ≡ says k.question)) (sym is)
          (all-said says (added_each [] (kept_pairs says (ask.Entry ∷ qs))) (said-each says (kept_pairs says (ask.Entry ∷ qs)) [] tt (pairs-said says (ask.Entry ∷ qs))));
    }

-- what the begin of a view asks and is told
module _ {P : Type 0} (says : P → Question → Answer) (predictor : P) (guess below : Guessing P) (v : Split) (a : Answer) (new : guess ≡ record { predictor = predictor; kept = [] }) (b : Begins says guess below v a) where
  pub heard-first : heard_by says below ≡ first_asked (says predictor)
  heard-first = b.told.noted ∙ ap (λ (g : Guessing P). noting (heard_by says g) (ask.Entry ∷ [])) new

  pub says-stay : says below.predictor ≡ says predictor
  says-stay = ap (λ (h : Heard). h.says) heard-first

  -- where nothing is read
  pub nothing-guessed : (text : List ℕ) (f : Guessed) → f.names ≡ built_in → f.text ≡ text → f.assumptions ≡ below.kept → IsGuessOf (says predictor) text f
  nothing-guessed text f names whole kept = record {
    names = names;
    whole = whole;
    said = pairs-are-said (says predictor) [] f (kept ∙ some-same below.kept (added_each [] (kept_pairs (says predictor) (ask.Entry ∷ []))) (ap (λ (h : Heard). h.kept) heard-first));
  }

pub ok-same : (a b : Answer) → Path (Result Answer Crossing) (Ok a) (Ok b) → a ≡ b
ok-same a b e = cc

pub begun-front : {P : Type 0} (says : P → Question → Answer) (predictor : P) (guess below : Guessing P) (v : Split) (rest : Rest) (after_cr : Bool) (m : Mode) (original : Option Mode) (skip_lf : Bool) (l : Lexer) → guess ≡ record { predictor = predictor; kept = [] }
    → Begins says guess below v (answer.Resting rest after_cr m original skip_lf) → l ≡ record { lex = rest_state rest after_cr; names = built_in; asked = asked.Nothing; rested = 2 ^ 32 } → HasBegun l (heard_by says below) v
begun-front {P} says predictor guess below v rest after_cr m original skip_lf l new b lexer = record {
  rest = rest;
  after_cr = after_cr;
  mode = m;
  original = original;
  skip_lf = skip_lf;
  told = ap (λ (h : Heard). h.says ask.Entry) b.told.noted ∙ ok-same (says guess.predictor ask.Entry) (answer.Resting rest after_cr m original skip_lf) b.told.ends;
  kept = ap (λ (h : Heard). h.kept) first ∙ ap (λ (x : Question → Answer). Some (record { question = ask.Entry; answer = x ask.Entry } ∷ [])) (sym (ap (λ (h : Heard). h.says) first));
  split = b.begun;
  lexer = lexer;
}
  where
    first : heard_by says below ≡ first_asked (says predictor)
    first = heard-first says predictor guess below v (answer.Resting rest after_cr m original skip_lf) new b

pub nothing-sound : (f : Guessed) → IsUtf8 f.text → f.covered ≡ 0 → IsSound f
nothing-sound f utf8 none = record {
  utf8 = utf8;
  within = omega (arith, none);
  boundary = subst (IsCharBoundary f.text) (sym none) (IsCharBoundary-start f.text utf8);
  sound = λ s valid fits holds some. absurd (none_positive (subst (λ (n : ℕ). 0 < n) none some));
}

-- the lexer may be called
pub ready-front : (l : Lexer) (text : List ℕ) (h : Heard) (v : Split) (x : Sink) → HasBegun l h v → IsReady (record { lexer = l; input = text_at (2 ^ 32) text; heard = h; split = v; sink = x })
ready-front l text h v x b = record {
  names = ap (λ (m : Lexer). m.names) b.lexer;
  answered = subst (λ (m : Lexer). IsTrue (is_answered m.asked)) (sym b.lexer) refl;
  held = subst (λ (m : Lexer). held m.lex ≤ 2 ^ 32) (sym b.lexer) (lit≤ tt);
}

-- A front was read to its end: what is kept is all that was asked.
module _ (old new : Stage) (b : HasBegun old.lexer old.heard old.split) (g : GoesToEnd old new) (kept : List Kept) (is : new.heard.kept ≡ Some kept) where
  pub pairs : kept ≡ added_each [] (kept_pairs old.heard.says (ask.Entry ∷ g.asked))
  pairs = some-same kept (added_each [] (kept_pairs old.heard.says (ask.Entry ∷ g.asked))) (sym is ∙ ap (λ (h : Heard). h.kept) all)
    where
      first : old.heard ≡ first_asked old.heard.says
      first = ap (λ (o : Option (List Kept)). record { says = old.heard.says; kept = o }) b.kept

      all : new.heard ≡ noting (none_heard old.heard.says) (ask.Entry ∷ g.asked)
      all = noted-then (none_heard old.heard.says) old.heard new.heard (ask.Entry ∷ []) g.asked first g.noted

  pub covered-said : (text : List ℕ) (f : Guessed) → f.names ≡ built_in → f.text ≡ text → f.assumptions ≡ kept → IsGuessOf old.heard.says text f
  covered-said text f names whole same = record { names = names; whole = whole; said = pairs-are-said old.heard.says g.asked f (same ∙ pairs) }

  grows-over : TextBegins → ViewsBegin → KeptOnceWhereTrue → FirstIsBelow → (s : ControlState) (text : List ℕ) → IsValid s → Fits s → old.input ≡ text_at (2 ^ 32) text → Amounts (SplitBy Numbers) old.sink s [] [] → Holds kept s
      → (splitting : Splitting) (grove : Tree) (outer : List Edit) → IsSplitIn new.sink splitting → AllComeTo splitting new.split.edits grove outer
      → GrowsTo built_in text s grove outer (applied (ended new.lexer.lex (is_some new.lexer.lex.machine.last_tag) new.split.change) s)
  grows-over law views once below s text valid fits input empty holds splitting grove outer is_splitting comes = record {
    edits = edits;
    leads = leads;
    below = below built_in text s (applied (ended new.lexer.lex (is_some new.lexer.lex.machine.last_tag) new.split.change) s) edits valid fits leads come.may (rooted-or-none s new.split all.over (all.unpaged refl));
    inner = come.inner;
    others = come.others;
  }
    where
      true_there : AllTrue s old.heard.says (ask.Entry ∷ g.asked)
      true_there = ((once s old.heard.says [] (ask.Entry ∷ g.asked) tt).1 (subst (λ (ks : List Kept). Holds ks s) pairs holds)).1

      begun : IsBegun s (begins (answer.Resting b.rest b.after_cr b.mode b.original b.skip_lf))
      begun = views s (answer.Resting b.rest b.after_cr b.mode b.original b.skip_lf) valid fits (true_there.0 ∙ b.told) tt

      all : HasReadAll (way_over s text) new
      all = g.reads (way_over s text) true_there.1 (begins-over law s text valid b.rest b.after_cr b.mode b.original b.skip_lf old begun b.lexer input b.split empty)

      split : IsSplit splitting s new.split.edits all.edits × (splitting.naming ≡ Numbers)
      split = split-so new.sink Numbers s new.split.edits all.edits splitting all.amounts is_splitting

      edits : List Edit
      edits = split.0.first ++ new.split.edits

      come : ComeTo Numbers edits grove outer
      come = subst (λ (naming : Naming). ComeTo naming edits grove outer) split.1 (comes split.0.first split.0.grown)

      leads : Leads built_in text s (map (named_edit s) edits) (applied (ended new.lexer.lex (is_some new.lexer.lex.machine.last_tag) new.split.change) s)
      leads = ends-over law s text valid new all edits split.0.same

  -- so what is made is sound
  pub covered-sound : TextBegins → ViewsBegin → KeptOnceWhereTrue → FirstIsBelow → (text front : List ℕ) → IsUtf8 text → IsUtf8 front → front ≡ take (length front) text → old.input ≡ text_at (2 ^ 32) (chars front) → ((s : ControlState) → Amounts (SplitBy Numbers) old.sink s [] [])
      → (splitting : Splitting) (grove : Tree) (outer : List Edit) → IsSplitIn new.sink splitting → AllComeTo splitting new.split.edits grove outer
      → IsSound (made_by text (length front) kept (ended new.lexer.lex (is_some new.lexer.lex.machine.last_tag) new.split.change) grove outer)
  covered-sound law views once below text front utf8 own is_front input empty splitting grove outer is_splitting comes = record {
    utf8 = utf8;
    within = front-within text front is_front;
    boundary = IsCharBoundary-from_take text (length front) utf8 (front-within text front is_front) (subst IsUtf8 is_front own);
    sound = λ s valid fits holds some.
        subst (λ (bytes : List ℕ). GrowsTo built_in (chars bytes) s grove outer (applied (ended new.lexer.lex (is_some new.lexer.lex.machine.last_tag) new.split.change) s)) is_front
        (grows-over law views once below s (chars front) valid fits input (empty s) holds splitting grove outer is_splitting comes);
  }
