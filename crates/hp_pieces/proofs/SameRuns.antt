-- Where places are counted otherwise, a run makes the same edits and leads to the same state.
use Rattle.std.proofs.Common.{◌≡◌, List, [], ◌∷◌, ◌++◌, Bool, true, false, cond, refl, ap, ◌∙◌, sym, subst, Option, None, Some}
use Rattle.hp_elements.specs.declared.token.Rest.{Rest}
use Rattle.hp_elements.specs.declared.token.Token.{Token}
use Rattle.hp_names.specs.References.{Reference}
use Rattle.hp_tokens.specs.Advancing.{tokens_of}
use Rattle.hp_tokens.specs.Moves.{Emitted, Lexing, Move, needs_more, asks_cdata, asks_last_tag, makes, ends, move, end_move}
use Rattle.hp_tokens.specs.States.{enter, state_of_rest}
use Rattle.hp_tokens.specs.declared.machine.Machine.{Machine}
use Rattle.hp_control.specs.Composed.{is_foreign_now}
use Rattle.hp_control.specs.States.{ControlState}
use Rattle.hp_control.specs.declared.edit.Edit.{Edit}
use Rattle.hp_lexer.specs.Table.{table}
use Rattle.hp_model.specs.Handling.{handle}
use Rattle.hp_model.specs.Runs.{EndsWith, last, before_it, Goes, here, onward, Parser, Rests, RunsTo, Step, rests, goes, at_lexing, built, step, step_by, switched, told}
use Rattle.hp_model.specs.Turns.{Handled}
use Rattle.hp_runs.specs.Alike.{Alike, SameMove}
use Rattle.hp_runs.proofs.Shifting.{end_move-same, move-same}

pub record AlikeParsers (p q : Parser) : Type 0 where
  pub lexing : Alike p.lexing q.lexing
  pub control : p.control ≡ q.control

pub turned : (p q : Parser) → AlikeParsers p q → AlikeParsers q p
turned p q a = record { lexing = record { machine = sym a.lexing.machine; unread = sym a.lexing.unread }; control = sym a.control }

switched-same : (o : Option Rest) (l k : Lexing) → Alike l k → Alike (switched o l) (switched o k)
switched-same None l k a = a
switched-same (Some rest) l k a = record { machine = ap (λ (m : Machine). enter (state_of_rest rest) m) a.machine; unread = a.unread }

told-same : (p q : Parser) (h k : Handled) → h ≡ k → AlikeParsers p q → AlikeParsers (told p h) (told q k)
told-same p q h k e a =
    let P : Handled → Type 0 = λ x. AlikeParsers (told p h) (told q x) in
    subst P e (record { lexing = switched-same h.switch p.lexing q.lexing a.lexing; control = refl })

-- what was emitted is handled in the same way
pub record BuildSame (p q : Parser) (es fs : List Emitted) : Type 0 where
  pub parser : AlikeParsers (built p es).parser (built q fs).parser
  pub edits : (built q fs).edits ≡ (built p es).edits

first-same : (t u : Token) (ts us : List Token) → t ∷ ts ≡ u ∷ us → t ≡ u
first-same t u ts us e = cc

rest-same : (t u : Token) (ts us : List Token) → t ∷ ts ≡ u ∷ us → ts ≡ us
rest-same t u ts us e = cc

built-same : (es fs : List Emitted) (p q : Parser) → tokens_of fs ≡ tokens_of es → AlikeParsers p q → BuildSame p q es fs
built-same [] [] p q h a = record { parser = a; edits = refl }
built-same [] (f ∷ fs) p q h a = cc
built-same (e ∷ es) [] p q h a = cc
built-same (e ∷ es) (f ∷ fs) p q h a =
    let token : f.token ≡ e.token = first-same f.token e.token (tokens_of fs) (tokens_of es) h in
    let same : handle p.control e.token ≡ handle q.control f.token = ap (λ (c : ControlState). handle c e.token) a.control ∙ ap (λ (t : Token). handle q.control t) (sym token) in
    let later : BuildSame (told p (handle p.control e.token)) (told q (handle q.control f.token)) es fs =
    built-same es fs (told p (handle p.control e.token)) (told q (handle q.control f.token)) (rest-same f.token e.token (tokens_of fs) (tokens_of es) h) (told-same p q (handle p.control e.token) (handle q.control f.token) same a) in record {
      parser = later.parser;
      edits =
          ap (λ (xs : List Edit). (handle q.control f.token).outcome.edits ++ xs) later.edits
          ∙ ap (λ (x : Handled). x.outcome.edits ++ (built (told p (handle p.control e.token)) es).edits) (sym same);
    }

abbrev SameStep : Step → Step → Type 0
SameStep rests s = s ≡ rests
SameStep (goes q es) s = (r : Parser) × (s ≡ goes r es) × AlikeParsers q r

foreign-same : (c d : ControlState) (f h k i : Lexing) → c ≡ d → Alike f k → Alike h i → Alike (cond (is_foreign_now c) f h) (cond (is_foreign_now d) k i)
foreign-same c d f h k i e a b =
    let P : ControlState → Type 0 = λ x. Alike (cond (is_foreign_now c) f h) (cond (is_foreign_now x) k i) in
    subst P e (by_cases (is_foreign_now c))
  where
    by_cases : (x : Bool) → Alike (cond x f h) (cond x k i)
    by_cases true = a
    by_cases false = b

step_by-same : (p q : Parser) (m n : Move) → SameMove m n → AlikeParsers p q → SameStep (step_by p m) (step_by q n)
step_by-same p q needs_more n s a = ap (step_by q) s
step_by-same p q (asks_cdata f h) n s a =
    (at_lexing q (cond (is_foreign_now q.control) s.0 s.1), ap (step_by q) s.2, record { lexing = foreign-same p.control q.control f h s.0 s.1 a.control s.3 s.4; control = a.control })
step_by-same p q asks_last_tag n s a = ap (step_by q) s
step_by-same p q (makes l es) n s a =
    let b : BuildSame (at_lexing p l) (at_lexing q s.0) es s.1 = built-same es s.1 (at_lexing p l) (at_lexing q s.0) s.4 (record { lexing = s.3; control = a.control }) in
    ((built (at_lexing q s.0) s.1).parser, ap (step_by q) s.2 ∙ ap (λ (xs : List Edit). goes (built (at_lexing q s.0) s.1).parser xs) b.edits, b.parser)
step_by-same p q (ends es) n s a = ap (step_by q) s.1

module _ (names : List Reference) where
  step-same : (p q : Parser) → AlikeParsers p q → SameStep (step (table names) p) (step (table names) q)
  step-same p q a = step_by-same p q (move (table names) p.lexing) (move (table names) q.lexing) (move-same names p.lexing q.lexing a.lexing) a

  goes-same : {p r : Parser} {es : List Edit} (q : Parser) → Goes (step (table names)) p es r → AlikeParsers p q → (t : Parser) × Goes (step (table names)) q es t × AlikeParsers r t
  goes-same q here a = (q, here, a)
  goes-same {p} q (onward {q = mid} {es = es} e g) a =
      let s : SameStep (goes mid es) (step (table names) q) = subst (λ (x : Step). SameStep x (step (table names) q)) e (step-same p q a) in
      let later = goes-same s.0 g s.2 in
      (later.0, onward s.1 later.1, later.2)

  rests-same : (p q : Parser) → AlikeParsers p q → Rests (step (table names)) p → Rests (step (table names)) q
  rests-same p q a r = record {
    no_step = λ t es e.
        let s : SameStep (goes t es) (step (table names) p) = subst (λ (x : Step). SameStep x (step (table names) p)) e (step-same q p (turned p q a)) in
        r.no_step s.0 es s.1;
  }

  pub run-same : (p q r : Parser) (es : List Edit) → AlikeParsers p q → RunsTo (table names) p es r → (t : Parser) × RunsTo (table names) q es t × AlikeParsers r t
  run-same p q r es a run =
      let g = goes-same q run.goes a in
      (g.0, record { goes = g.1; rests = rests-same r g.0 g.2 run.rests }, g.2)

  pub end-same : {p : Parser} {es : List Edit} (q : Parser) → EndsWith (table names) p es → AlikeParsers p q → EndsWith (table names) q es
  end-same {p} q (last {es = es} e) a =
      let s : SameMove (ends es) (end_move (table names) q.lexing) = subst (λ (x : Move). SameMove x (end_move (table names) q.lexing)) e (end_move-same names p.lexing q.lexing a.lexing) in
      subst (EndsWith (table names) q) (built-same es s.0 p q s.2 a).edits (last s.1)
  end-same {p} q (before_it {q = mid} {es = es} e rest) a =
      let s : SameStep (goes mid es) (step_by q (end_move (table names) q.lexing)) =
      subst (λ (x : Step). SameStep x (step_by q (end_move (table names) q.lexing))) e
      (step_by-same p q (end_move (table names) p.lexing) (end_move (table names) q.lexing) (end_move-same names p.lexing q.lexing a.lexing) a) in
      before_it s.1 (end-same s.0 rest s.2)
