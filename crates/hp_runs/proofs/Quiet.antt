-- A run of characters never switches the lexer: no row for characters does, and each hands on the same run.
use Rattle.std.proofs.Common.{◌≡◌, ℕ, zero, suc, List, [], ◌∷◌, Bool, true, false, ◌&&◌, cond, refl, subst, sym, Option, None, Some}
use Rattle.std.specs.Option.{unwrap_or}
use Rattle.std.proofs.lemmas.Bool.{and_parts}
use Rattle.hp_elements.specs.Rules.{Plan, ends, ◌⨾◌, when, unless, plan_for}
use Rattle.hp_elements.specs.declared.act.Act.{Act}
use Rattle.hp_elements.specs.declared.act.Act.TheVariants as act
use Rattle.hp_elements.specs.declared.token.CharClass.{CharClass}
use Rattle.hp_elements.specs.declared.token.CharClass.TheVariants.{White, Nul, Other}
use Rattle.hp_elements.specs.declared.token.Kind.TheVariants.{Characters}
use Rattle.hp_elements.specs.declared.token.Mode.{Mode}
use Rattle.hp_elements.specs.declared.token.Mode.TheVariants as mode
use Rattle.hp_elements.specs.declared.token.Rest.{Rest}
use Rattle.hp_elements.specs.declared.token.Token.{Token}
use Rattle.hp_elements.specs.declared.token.Token.TheVariants as token
use Rattle.hp_control.specs.Foreign.{is_foreign}
use Rattle.hp_control.specs.States.{ControlState}
use Rattle.hp_rules_rest.specs.Foreign.{foreign}
use Rattle.hp_rules_rest.specs.Whole.{every_mode_rows}
use Rattle.hp_model.specs.AtOnce.{after_first, handle_at_once, handle_rest}
use Rattle.hp_model.specs.Handling.{all_turns, bound, handle, handle_piece, settled}
use Rattle.hp_model.specs.Rows.{carry, carry_plan, entering, foreign_turn, mode_turn, nothing_more, rules, turn}
use Rattle.hp_model.specs.Steps.{holds}
use Rattle.hp_model.specs.Tokens.{is_line_feed}
use Rattle.hp_model.specs.Turns.{Handled, Turn, goes_on, done, again, after_turn, and_then, as_part, before, before_all, later, left_by, turns, unchanged}
use Rattle.hp_runs.specs.Closing.{AreCharacters}
use Rattle.hp_runs.specs.Handling.{AreQuiet}

abbrev act_stays : Act → Bool
act_stays (act.Lexer rest) = false
act_stays (act.AgainAs name) = false
act_stays _ = true

-- whether a plan leaves the lexer as it is, and the token too
abbrev plan_stays : Plan → Bool
plan_stays ends = true
plan_stays (a ⨾ plan) = act_stays a && plan_stays plan
plan_stays (when test plan rest) = plan_stays plan && plan_stays rest
plan_stays (unless test plan rest) = plan_stays plan && plan_stays rest

rows_stay : (m : Mode) (class : CharClass) → plan_stays (plan_for (every_mode_rows m) (Characters class)) ≡ true
unfolding every_mode_rows
rows_stay mode.Initial White = refl
rows_stay mode.Initial Nul = refl
rows_stay mode.Initial Other = refl
rows_stay mode.BeforeHtml White = refl
rows_stay mode.BeforeHtml Nul = refl
rows_stay mode.BeforeHtml Other = refl
rows_stay mode.BeforeHead White = refl
rows_stay mode.BeforeHead Nul = refl
rows_stay mode.BeforeHead Other = refl
rows_stay mode.InHead White = refl
rows_stay mode.InHead Nul = refl
rows_stay mode.InHead Other = refl
rows_stay mode.InHeadNoscript White = refl
rows_stay mode.InHeadNoscript Nul = refl
rows_stay mode.InHeadNoscript Other = refl
rows_stay mode.AfterHead White = refl
rows_stay mode.AfterHead Nul = refl
rows_stay mode.AfterHead Other = refl
rows_stay mode.InBody White = refl
rows_stay mode.InBody Nul = refl
rows_stay mode.InBody Other = refl
rows_stay mode.Text White = refl
rows_stay mode.Text Nul = refl
rows_stay mode.Text Other = refl
rows_stay mode.InTable White = refl
rows_stay mode.InTable Nul = refl
rows_stay mode.InTable Other = refl
rows_stay mode.InTableText White = refl
rows_stay mode.InTableText Nul = refl
rows_stay mode.InTableText Other = refl
rows_stay mode.InCaption White = refl
rows_stay mode.InCaption Nul = refl
rows_stay mode.InCaption Other = refl
rows_stay mode.InColumnGroup White = refl
rows_stay mode.InColumnGroup Nul = refl
rows_stay mode.InColumnGroup Other = refl
rows_stay mode.InTableBody White = refl
rows_stay mode.InTableBody Nul = refl
rows_stay mode.InTableBody Other = refl
rows_stay mode.InRow White = refl
rows_stay mode.InRow Nul = refl
rows_stay mode.InRow Other = refl
rows_stay mode.InCell White = refl
rows_stay mode.InCell Nul = refl
rows_stay mode.InCell Other = refl
rows_stay mode.InSelect White = refl
rows_stay mode.InSelect Nul = refl
rows_stay mode.InSelect Other = refl
rows_stay mode.InSelectInTable White = refl
rows_stay mode.InSelectInTable Nul = refl
rows_stay mode.InSelectInTable Other = refl
rows_stay mode.InTemplate White = refl
rows_stay mode.InTemplate Nul = refl
rows_stay mode.InTemplate Other = refl
rows_stay mode.AfterBody White = refl
rows_stay mode.AfterBody Nul = refl
rows_stay mode.AfterBody Other = refl
rows_stay mode.InFrameset White = refl
rows_stay mode.InFrameset Nul = refl
rows_stay mode.InFrameset Other = refl
rows_stay mode.AfterFrameset White = refl
rows_stay mode.AfterFrameset Nul = refl
rows_stay mode.AfterFrameset Other = refl
rows_stay mode.AfterAfterBody White = refl
rows_stay mode.AfterAfterBody Nul = refl
rows_stay mode.AfterAfterBody Other = refl
rows_stay mode.AfterAfterFrameset White = refl
rows_stay mode.AfterAfterFrameset Nul = refl
rows_stay mode.AfterAfterFrameset Other = refl

foreign_stays : (class : CharClass) → plan_stays (plan_for foreign (Characters class)) ≡ true
foreign_stays White = refl
foreign_stays Nul = refl
foreign_stays Other = refl

-- the lexer stays as it is, and the same token is handed on
abbrev Stays : Token → Turn → Type 0
Stays t (goes_on h) = h.switch ≡ None
Stays t (done h) = h.switch ≡ None
Stays t (again u h) = (h.switch ≡ None) × (u ≡ t)

none-later : (a b : Option Rest) → a ≡ None → b ≡ None → later a b ≡ None
none-later a None e h = e
none-later a (Some rest) e h = h

before-stays : (t : Token) (h : Handled) (k : Turn) → h.switch ≡ None → Stays t k → Stays t (before h k)
before-stays t h (goes_on k) e s = none-later h.switch k.switch e s
before-stays t h (done k) e s = none-later h.switch k.switch e s
before-stays t h (again u k) e s = (none-later h.switch k.switch e s.0, s.1)

then-stays : (t : Token) (a : Turn) (f : ControlState → Turn) → Stays t a → ((c : ControlState) → Stays t (f c)) → Stays t (and_then a f)
then-stays t (goes_on h) f s rest = before-stays t h (f (left_by h)) s (rest (left_by h))
then-stays t (done h) f s rest = s
then-stays t (again u h) f s rest = s

part-stays : (t : Token) (a : Turn) → Stays t a → Stays t (as_part a)
part-stays t (goes_on h) s = s
part-stays t (done h) s = s
part-stays t (again u h) s = s

either-stays : (t : Token) (b : Bool) (x y : Turn) → Stays t x → Stays t y → Stays t (cond b x y)
either-stays t true x y h k = h
either-stays t false x y h k = k

module _ (t : Token) (follow : Bool → Mode → ControlState → Turn) (present : ControlState → Turn)
    (follow_stays : (f : Bool) (m : Mode) (c : ControlState) → Stays t (follow f m c)) (present_stays : (c : ControlState) → Stays t (present c)) (fostering : Bool) where
  act-turn : (a : Act) (c : ControlState) → act_stays a ≡ true → Stays t (carry follow present fostering t a c)
  act-turn act.Done c h = refl
  act-turn act.Again c h = (refl, refl)
  act-turn (act.AgainAs name) c h = let no : false ≡ true = h in cc
  act-turn (act.As m) c h = part-stays t (follow fostering m c) (follow_stays fostering m c)
  act-turn (act.AsFostered m) c h = part-stays t (follow true m c) (follow_stays true m c)
  act-turn act.AsPresent c h = part-stays t (present c) (present_stays c)
  act-turn act.Stop c h = refl
  act-turn (act.Lexer rest) c h = let no : false ≡ true = h in cc
  act-turn other c h = refl

  plan-turn : (plan : Plan) (c : ControlState) → plan_stays plan ≡ true → Stays t (carry_plan follow present fostering t plan c)
  plan-turn ends c h = refl
  plan-turn (a ⨾ plan) c h =
      let parts = and_parts (act_stays a) (plan_stays plan) h in
      then-stays t (carry follow present fostering t a c) (carry_plan follow present fostering t plan) (act-turn a c parts.0) (λ d. plan-turn plan d parts.1)
  plan-turn (when test plan rest) c h =
      let parts = and_parts (plan_stays plan) (plan_stays rest) h in
      then-stays t (cond (holds t test c) (carry_plan follow present fostering t plan c) (goes_on (unchanged c))) (carry_plan follow present fostering t rest)
      (either-stays t (holds t test c) (carry_plan follow present fostering t plan c) (goes_on (unchanged c)) (plan-turn plan c parts.0) refl)
      (λ d. plan-turn rest d parts.1)
  plan-turn (unless test plan rest) c h =
      let parts = and_parts (plan_stays plan) (plan_stays rest) h in
      then-stays t (cond (holds t test c) (goes_on (unchanged c)) (carry_plan follow present fostering t plan c)) (carry_plan follow present fostering t rest)
      (either-stays t (holds t test c) (goes_on (unchanged c)) (carry_plan follow present fostering t plan c) refl (plan-turn plan c parts.0))
      (λ d. plan-turn rest d parts.1)

module _ (class : CharClass) (text : List ℕ) where
  abbrev run : Token
  run = token.Characters class text

  rules-turn : (depth : ℕ) (fostering : Bool) (m : Mode) (c : ControlState) → Stays run (rules depth run fostering m c)
  unfolding rules
  rules-turn zero fostering m c = refl
  rules-turn (suc depth) fostering m c =
      plan-turn run (rules depth run) nothing_more (rules-turn depth) (λ d. refl) fostering (plan_for (every_mode_rows m) (Characters class)) c (rows_stay m class)

  foreign-turn : (c : ControlState) → Stays run (foreign_turn run c)
  foreign-turn c =
      plan-turn run (rules 4 run) (mode_turn run c.mode) (rules-turn 4) (λ d. rules-turn 4 false c.mode d) false (plan_for foreign (Characters class)) c (foreign_stays class)

  one-turn : (c : ControlState) → Stays run (turn run c)
  unfolding turn
  one-turn c =
      before-stays run (entering c) _ refl
      (either-stays run (is_foreign (Characters class) c.stack) (foreign_turn run c) (mode_turn run c.mode c) (foreign-turn c) (rules-turn 4 false c.mode c))

  abbrev AllStay : Option Handled → Type 0
  AllStay None = Unit {0}
  AllStay (Some h) = h.switch ≡ None

  joined-stays : (h : Handled) (o : Option Handled) → h.switch ≡ None → AllStay o → AllStay (before_all h o)
  joined-stays h None e s = tt
  joined-stays h (Some k) e s = none-later h.switch k.switch e s

  turns-stay : (n : ℕ) (c : ControlState) → AllStay (turns turn n run c)
  turns-stay zero c = tt
  turns-stay (suc n) c = by (turn run c) (one-turn c) (turns-stay n)
    where
      by : (t : Turn) → Stays run t → ((d : ControlState) → AllStay (turns turn n run d)) → AllStay (after_turn t (turns turn n))
      by (goes_on h) s more = s
      by (done h) s more = s
      by (again u h) s more = joined-stays h (turns turn n u (left_by h)) s.0 (subst (λ (v : Token). AllStay (turns turn n v (left_by h))) (sym s.1) (more (left_by h)))

  pub all-stays : (c : ControlState) → (all_turns c run).switch ≡ None
  all-stays c = by (turns turn (bound c) run c) (turns-stay (bound c) c)
    where
      by : (o : Option Handled) → AllStay o → (unwrap_or o (unchanged c)).switch ≡ None
      by None s = refl
      by (Some h) s = s

either-quiet : (b : Bool) (h k : Handled) → h.switch ≡ None → k.switch ≡ None → (cond b h k).switch ≡ None
either-quiet true h k e f = e
either-quiet false h k e f = f

rest-quiet : (class : CharClass) (text : List ℕ) (c : ControlState) → (handle_rest c (after_first (token.Characters class text))).switch ≡ None
rest-quiet class [] c = refl
rest-quiet class (x ∷ []) c = refl
rest-quiet class (x ∷ y ∷ text) c = all-stays class (y ∷ text) c

-- a run at once
pub at_once-quiet : (class : CharClass) (text : List ℕ) (c : ControlState) → (handle_at_once c (token.Characters class text)).switch ≡ None
at_once-quiet class text c =
    either-quiet (c.skip_lf && is_line_feed (token.Characters class text)) (handle_rest (settled c) (after_first (token.Characters class text))) (all_turns (settled c) (token.Characters class text))
    (rest-quiet class text (settled c)) (all-stays class text (settled c))

-- and code point by code point
pub run-quiet : (class : CharClass) (text : List ℕ) (c : ControlState) → (handle c (token.Characters class text)).switch ≡ None
run-quiet class [] c = refl
run-quiet class (x ∷ text) c =
    let t : Token = token.Characters class (x ∷ []) in
    none-later (handle_piece c t).switch (handle (left_by (handle_piece c t)) (token.Characters class text)).switch
    (either-quiet (c.skip_lf && is_line_feed t) (unchanged (settled c)) (all_turns (settled c) t) refl (all-stays class (x ∷ []) (settled c)))
    (run-quiet class text (left_by (handle_piece c t)))

pub characters-quiet : (ts : List Token) (c : ControlState) → AreCharacters ts → AreQuiet handle c ts
characters-quiet [] c h = tt
characters-quiet (token.Characters class text ∷ ts) c h = (run-quiet class text c, characters-quiet ts (left_by (handle c (token.Characters class text))) h)
characters-quiet (_ ∷ ts) c h = absurd h
