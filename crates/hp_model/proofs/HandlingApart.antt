-- No handling of a token reads the lexer's part of the control state, and so no step of a run does.
use Rattle.std.proofs.Common.{◌≡◌, ℕ, zero, suc, Bool, true, false, ◌&&◌, cond, List, [], ◌∷◌, ◌++◌, Option, None, Some, refl, ap, ◌∙◌, sym, subst}
use Rattle.std.specs.Option.{unwrap_or}
use Rattle.hp_elements.specs.Rules.{Plan, ends, ◌⨾◌, when, unless, plan_for}
use Rattle.hp_elements.specs.Tokens.{kind_of}
use Rattle.hp_elements.specs.declared.act.Act.{Act as RowAct}
use Rattle.hp_elements.specs.declared.act.Act.TheVariants as act
use Rattle.hp_elements.specs.declared.act.Test.{Test}
use Rattle.hp_elements.specs.declared.act.Test.TheVariants as test
use Rattle.hp_elements.specs.declared.token.Mode.{Mode}
use Rattle.hp_elements.specs.declared.token.Token.{Token}
use Rattle.hp_tokens.specs.Moves.{Emitted, Move, Rules, needs_more, asks_cdata, asks_last_tag, makes, ends as ends_input, move}
use Rattle.hp_tokens.specs.declared.lexing.LexState.{LexState}
use Rattle.hp_control.specs.Acts.{headed, touching}
use Rattle.hp_control.specs.Foreign.{is_foreign}
use Rattle.hp_control.specs.Outcome.{Outcome, becomes}
use Rattle.hp_control.specs.States.{ControlState}
use Rattle.hp_control.specs.declared.edit.Edit.{Edit}
use Rattle.hp_rules_rest.specs.Foreign.{foreign}
use Rattle.hp_rules_rest.specs.Whole.{every_mode_rows}
use Rattle.hp_model.specs.Apart.{AtOnceApart, AtOnceLeaves, HandlingApart, HandlingLeaves, RunsApart, RunsLeave, relexed, relexed_parser, relexed_state}
use Rattle.hp_model.specs.AtOnce.{after_first, handle_rest}
use Rattle.hp_model.specs.Handling.{all_turns, bound, handle, handle_all, handle_piece, settled}
use Rattle.hp_model.specs.Rows.{carry, carry_plan, entering, foreign_turn, is_head_mode, mode_turn, nothing_more, rules, turn}
use Rattle.hp_model.specs.Runs.{Built, Goes, Parser, Step, at_lexing, built, goes, going, here, onward, rests, step, step_by, told}
use Rattle.hp_model.specs.Steps.{holds}
use Rattle.hp_model.specs.Tokens.{is_line_feed, pieces}
use Rattle.hp_model.specs.Turns.{Handled, Turn, after_turn, again, and_then, as_part, before, before_all, done, goes_on, joined, left_by, plainly, turns, unchanged}
use Rattle.hp_model.proofs.ActsApart.{either, step-apart}

abbrev relexed_turn : LexState → Turn → Turn
relexed_turn lex (goes_on h) = goes_on (relexed lex h)
relexed_turn lex (done h) = done (relexed lex h)
relexed_turn lex (again token h) = again token (relexed lex h)

abbrev Apart : (ControlState → Turn) → Type 0
Apart f = (lex : LexState) (c : ControlState) → f (relexed_state lex c) ≡ relexed_turn lex (f c)

before-apart : (h : Handled) (t : Turn) (lex : LexState) → before (relexed lex h) (relexed_turn lex t) ≡ relexed_turn lex (before h t)
before-apart h (goes_on k) lex = refl
before-apart h (done k) lex = refl
before-apart h (again token k) lex = refl

next-apart : (t : Turn) (next : ControlState → Turn) (lex : LexState) → Apart next → and_then (relexed_turn lex t) next ≡ relexed_turn lex (and_then t next)
next-apart (goes_on h) next lex k = ap (before (relexed lex h)) (k lex (left_by h)) ∙ before-apart h (next (left_by h)) lex
next-apart (done h) next lex k = refl
next-apart (again token h) next lex k = refl

then-apart : (t u : Turn) (next : ControlState → Turn) (lex : LexState) → u ≡ relexed_turn lex t → Apart next → and_then u next ≡ relexed_turn lex (and_then t next)
then-apart t u next lex e k = ap (λ (x : Turn). and_then x next) e ∙ next-apart t next lex k

relexed_part : (t : Turn) (lex : LexState) → as_part (relexed_turn lex t) ≡ relexed_turn lex (as_part t)
relexed_part (goes_on h) lex = refl
relexed_part (done h) lex = refl
relexed_part (again token h) lex = refl

part-apart : (t u : Turn) (lex : LexState) → u ≡ relexed_turn lex t → as_part u ≡ relexed_turn lex (as_part t)
part-apart t u lex e = ap as_part e ∙ relexed_part t lex

-- no test reads it either
holds-apart : (t : Token) (q : Test) (lex : LexState) (c : ControlState) → holds t q (relexed_state lex c) ≡ holds t q c
holds-apart t test.TemplateInStack lex c = refl
holds-apart t _ lex c = refl

-- one of two turns, by a test that may be asked of either state
one_turn : (a b : Bool) (x y v w : Turn) (lex : LexState) → a ≡ b → v ≡ relexed_turn lex x → w ≡ relexed_turn lex y → cond a v w ≡ relexed_turn lex (cond b x y)
one_turn a true x y v w lex e h k = ap (λ (d : Bool). cond d v w) e ∙ h
one_turn a false x y v w lex e h k = ap (λ (d : Bool). cond d v w) e ∙ k

module _ (follow : Bool → Mode → ControlState → Turn) (present : ControlState → Turn) (fostering : Bool) (t : Token)
    (f : (b : Bool) (m : Mode) → Apart (follow b m)) (p : Apart present) where
  carry-apart : (a : RowAct) → Apart (carry follow present fostering t a)
  carry-apart act.Done lex c = refl
  carry-apart act.Again lex c = refl
  carry-apart (act.AgainAs name) lex c = refl
  carry-apart (act.As m) lex c = part-apart (follow fostering m c) (follow fostering m (relexed_state lex c)) lex (f fostering m lex c)
  carry-apart (act.AsFostered m) lex c = part-apart (follow true m c) (follow true m (relexed_state lex c)) lex (f true m lex c)
  carry-apart act.AsPresent lex c = part-apart (present c) (present (relexed_state lex c)) lex (p lex c)
  carry-apart act.Stop lex c = refl
  carry-apart (act.Lexer rest) lex c = refl
  carry-apart a lex c = ap (λ (o : Outcome). goes_on (plainly o)) (step-apart fostering t a lex c)

  plan-apart : (q : Plan) → Apart (carry_plan follow present fostering t q)
  plan-apart ends lex c = refl
  plan-apart (a ⨾ q) lex c =
      then-apart (carry follow present fostering t a c) (carry follow present fostering t a (relexed_state lex c)) (carry_plan follow present fostering t q) lex (carry-apart a lex c) (plan-apart q)
  plan-apart (when test q r) lex c =
      let first : ControlState → Turn = λ d. cond (holds t test d) (carry_plan follow present fostering t q d) (goes_on (unchanged d)) in
      then-apart (first c) (first (relexed_state lex c)) (carry_plan follow present fostering t r) lex
      (one_turn (holds t test (relexed_state lex c)) (holds t test c) (carry_plan follow present fostering t q c) (goes_on (unchanged c)) (carry_plan follow present fostering t q (relexed_state lex c)) (goes_on (unchanged (relexed_state lex c)))
      lex (holds-apart t test lex c) (plan-apart q lex c) refl) (plan-apart r)
  plan-apart (unless test q r) lex c =
      let first : ControlState → Turn = λ d. cond (holds t test d) (goes_on (unchanged d)) (carry_plan follow present fostering t q d) in
      then-apart (first c) (first (relexed_state lex c)) (carry_plan follow present fostering t r) lex
      (one_turn (holds t test (relexed_state lex c)) (holds t test c) (goes_on (unchanged c)) (carry_plan follow present fostering t q c) (goes_on (unchanged (relexed_state lex c))) (carry_plan follow present fostering t q (relexed_state lex c))
      lex (holds-apart t test lex c) refl (plan-apart q lex c)) (plan-apart r)

rules-apart : (depth : ℕ) (t : Token) (fostering : Bool) (m : Mode) → Apart (rules depth t fostering m)
unfolding rules
rules-apart zero t fostering m lex c = refl
rules-apart (suc depth) t fostering m lex c = plan-apart (rules depth t) nothing_more fostering t (rules-apart depth t) (λ l d. refl) (plan_for (every_mode_rows m) (kind_of t)) lex c

foreign-apart : (t : Token) → Apart (foreign_turn t)
foreign-apart t lex c = plan-apart (rules 4 t) (mode_turn t c.mode) false t (rules-apart 4 t) (rules-apart 4 t false c.mode) (plan_for foreign (kind_of t)) lex c

turn-apart : (t : Token) → Apart (turn t)
unfolding turn
turn-apart t lex c =
    let rest : ControlState → Turn = λ d. cond (is_foreign (kind_of t) c.stack) (foreign_turn t d) (mode_turn t c.mode d) in
    let first : entering (relexed_state lex c) ≡ relexed lex (entering c) =
    ap plainly (either (is_head_mode c.mode) (touching headed (becomes (relexed_state lex c))) (becomes (relexed_state lex c)) (touching headed (becomes c)) (becomes c) lex refl refl) in
    ap (λ (h : Handled). before h (rest (relexed_state lex c))) first
    ∙ (ap (before (relexed lex (entering c)))
    (one_turn (is_foreign (kind_of t) c.stack) (is_foreign (kind_of t) c.stack) (foreign_turn t c) (mode_turn t c.mode c) (foreign_turn t (relexed_state lex c)) (mode_turn t c.mode (relexed_state lex c)) lex refl
    (foreign-apart t lex c) (rules-apart 4 t false c.mode lex c))
    ∙ before-apart (entering c) (rest c) lex)

abbrev relexed_all : LexState → Option Handled → Option Handled
relexed_all lex None = None
relexed_all lex (Some h) = Some (relexed lex h)

before_all-apart : (h : Handled) (o : Option Handled) (lex : LexState) → before_all (relexed lex h) (relexed_all lex o) ≡ relexed_all lex (before_all h o)
before_all-apart h None lex = refl
before_all-apart h (Some k) lex = refl

after_turn-apart : (x : Turn) (next : Token → ControlState → Option Handled) (lex : LexState) → ((t : Token) (c : ControlState) → next t (relexed_state lex c) ≡ relexed_all lex (next t c))
    → after_turn (relexed_turn lex x) next ≡ relexed_all lex (after_turn x next)
after_turn-apart (goes_on h) next lex k = refl
after_turn-apart (done h) next lex k = refl
after_turn-apart (again token h) next lex k = ap (before_all (relexed lex h)) (k token (left_by h)) ∙ before_all-apart h (next token (left_by h)) lex

turns-apart : (n : ℕ) (lex : LexState) (t : Token) (c : ControlState) → turns turn n t (relexed_state lex c) ≡ relexed_all lex (turns turn n t c)
turns-apart zero lex t c = refl
turns-apart (suc n) lex t c = ap (λ (x : Turn). after_turn x (turns turn n)) (turn-apart t lex c) ∙ after_turn-apart (turn t c) (turns turn n) lex (turns-apart n lex)

unwrapped : (o : Option Handled) (lex : LexState) (c : ControlState) → unwrap_or (relexed_all lex o) (unchanged (relexed_state lex c)) ≡ relexed lex (unwrap_or o (unchanged c))
unwrapped None lex c = refl
unwrapped (Some h) lex c = refl

all_turns-apart : (lex : LexState) (c : ControlState) (t : Token) → all_turns (relexed_state lex c) t ≡ relexed lex (all_turns c t)
all_turns-apart lex c t =
    ap (λ (o : Option Handled). unwrap_or o (unchanged (relexed_state lex c))) (turns-apart (bound c) lex t c) ∙ unwrapped (turns turn (bound c) t c) lex c

either-handled : (b : Bool) (x y v w : Handled) (lex : LexState) → v ≡ relexed lex x → w ≡ relexed lex y → cond b v w ≡ relexed lex (cond b x y)
either-handled true x y v w lex h k = h
either-handled false x y v w lex h k = k

piece-apart : (lex : LexState) (c : ControlState) (t : Token) → handle_piece (relexed_state lex c) t ≡ relexed lex (handle_piece c t)
piece-apart lex c t =
    either-handled (c.skip_lf && is_line_feed t) (unchanged (settled c)) (all_turns (settled c) t) (unchanged (settled (relexed_state lex c))) (all_turns (settled (relexed_state lex c)) t) lex refl
    (all_turns-apart lex (settled c) t)

all-apart : (lex : LexState) (c : ControlState) (ts : List Token) → handle_all (relexed_state lex c) ts ≡ relexed lex (handle_all c ts)
all-apart lex c [] = refl
all-apart lex c (t ∷ ts) =
    ap (λ (h : Handled). joined h (handle_all (left_by h) ts)) (piece-apart lex c t)
    ∙ ap (joined (relexed lex (handle_piece c t))) (all-apart lex (left_by (handle_piece c t)) ts)

pub handling-apart : HandlingApart
handling-apart lex c t = all-apart lex c (pieces t)

rest-apart : (lex : LexState) (c : ControlState) (o : Option Token) → handle_rest (relexed_state lex c) o ≡ relexed lex (handle_rest c o)
rest-apart lex c None = refl
rest-apart lex c (Some t) = all_turns-apart lex c t

pub at-once-apart : AtOnceApart
at-once-apart lex c t =
    either-handled (c.skip_lf && is_line_feed t) (handle_rest (settled c) (after_first t)) (all_turns (settled c) t)
    (handle_rest (settled (relexed_state lex c)) (after_first t)) (all_turns (settled (relexed_state lex c)) t) lex
    (rest-apart lex (settled c) (after_first t)) (all_turns-apart lex (settled c) t)

-- over its own part nothing changes
pub handling-leaves : HandlingLeaves
handling-leaves c t = ap (λ (h : Handled). (left_by h).lex) (handling-apart c.lex c t)

pub at-once-leaves : AtOnceLeaves
at-once-leaves c t = ap (λ (h : Handled). (left_by h).lex) (at-once-apart c.lex c t)

abbrev relexed_built : LexState → Built → Built
relexed_built lex b = record b { parser = relexed_parser lex b.parser }

built-apart : (lex : LexState) (es : List Emitted) (p : Parser) → built (relexed_parser lex p) es ≡ relexed_built lex (built p es)
built-apart lex [] p = refl
built-apart lex (e ∷ es) p =
    let by : Handled → Built = λ h. let rest = built (told p h) es in record { parser = rest.parser; edits = h.outcome.edits ++ rest.edits } in
    let h = handle p.control e.token in
    let behind : Built → Built = λ rest. record { parser = rest.parser; edits = h.outcome.edits ++ rest.edits } in
    ap by (handling-apart lex p.control e.token) ∙ ap behind (built-apart lex es (told p h))

abbrev relexed_step : LexState → Step → Step
relexed_step lex rests = rests
relexed_step lex (goes q es) = goes (relexed_parser lex q) es

move-apart : (lex : LexState) (p : Parser) (m : Move) → step_by (relexed_parser lex p) m ≡ relexed_step lex (step_by p m)
move-apart lex p needs_more = refl
move-apart lex p (asks_cdata f h) = refl
move-apart lex p asks_last_tag = refl
move-apart lex p (makes l es) = ap going (built-apart lex es (at_lexing p l))
move-apart lex p (ends_input es) = refl

step-relexed : (by : Rules) (lex : LexState) (p : Parser) → step by (relexed_parser lex p) ≡ relexed_step lex (step by p)
step-relexed by lex p = move-apart lex p (move by p.lexing)

pub runs-apart : RunsApart
runs-apart by lex p _ _ here = here
runs-apart by lex p q _ (onward {q = m} {fs = fs} e g) = onward (step-relexed by lex p ∙ ap (relexed_step lex) e) (runs-apart by lex m q fs g)

-- a step to that parser leaves that part
abbrev LeavesIt : LexState → Step → Type 0
LeavesIt lex rests = Unit {0}
LeavesIt lex (goes q es) = q.control.lex ≡ lex

relexed-leaves : (lex : LexState) (s : Step) → LeavesIt lex (relexed_step lex s)
relexed-leaves lex rests = tt
relexed-leaves lex (goes q es) = refl

step-leaves : (by : Rules) (p : Parser) → LeavesIt p.control.lex (step by p)
step-leaves by p = subst (LeavesIt p.control.lex) (sym (step-relexed by p.control.lex p)) (relexed-leaves p.control.lex (step by p))

pub goes-leave : (by : Rules) {p q : Parser} {es : List Edit} → Goes (step by) p es q → q.control.lex ≡ p.control.lex
goes-leave by here = refl
goes-leave by {p} (onward e g) = goes-leave by g ∙ subst (LeavesIt p.control.lex) e (step-leaves by p)

pub runs-leave : RunsLeave
runs-leave by p q es g = goes-leave by g
