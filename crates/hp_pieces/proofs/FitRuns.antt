-- A run leads from a state of the lexer that can stand between two texts to such a state.
use Rattle.std.proofs.Common.{◌≡◌, ℕ, List, [], ◌∷◌, Bool, true, false, cond, refl, ap, ◌∙◌, subst, Option, None, Some}
use Rattle.std.specs.Prelude.{IsSome}
use Rattle.hp_elements.specs.declared.token.Mode.{Mode}
use Rattle.hp_elements.specs.declared.token.Mode.TheVariants as mode
use Rattle.hp_elements.specs.declared.token.Rest.{Rest}
use Rattle.hp_elements.specs.declared.token.Rest.TheVariants as rest
use Rattle.hp_names.specs.BuiltIn.{built_in}
use Rattle.hp_names.specs.References.{Reference}
use Rattle.hp_tokens.specs.Moves.{Lexing, Emitted, Move, needs_more, asks_cdata, asks_last_tag, makes, ends, move}
use Rattle.hp_tokens.specs.States.{enter, state_of_rest, uses_buffer, uses_return, uses_value}
use Rattle.hp_tokens.specs.declared.building.Building.{Building}
use Rattle.hp_tokens.specs.declared.lexing.LexState.{LexState}
use Rattle.hp_tokens.specs.declared.machine.Machine.{Machine}
use Rattle.hp_tokens.specs.declared.state.Return.{Return}
use Rattle.hp_tokens.specs.declared.state.Return.TheVariants as returns
use Rattle.hp_tokens.specs.declared.state.State.{State}
use Rattle.hp_control.specs.Composed.{is_foreign_now}
use Rattle.hp_control.specs.declared.edit.Edit.{Edit}
use Rattle.hp_control.proofs.StartLemmas.{start_valid}
use Rattle.hp_control.specs.States.{ControlState, IsValid, LexFits, StackFits, lex_start, may_be_ahead}
use Rattle.hp_lexer.specs.Table.{table}
use Rattle.hp_model.proofs.Running.{runs-valid}
use Rattle.hp_model.specs.Handling.{handle}
use Rattle.hp_model.specs.Runs.{Parser, RunsTo, Step, rests, goes, Goes, here, onward, at_lexing, built, followed_by, step, step_by, switched, told}
use Rattle.hp_runs.proofs.TableRows.{table_read}
use Rattle.hp_runs.specs.Pages.{Runs}
use Rattle.hp_pieces.specs.Running.{parser_in, state_at}
use Rattle.hp_pieces.proofs.FitRows.{Fits, entered}
use Rattle.hp_pieces.proofs.FitTable.{MoveKeeps, move_keeps}
use Rattle.hp_pieces.proofs.TokenTable.{MoveOwns, Own, move_owns, token_owned, token_there}

switched-fits : (o : Option Rest) (l : Lexing) → Fits l.machine → Fits (switched o l).machine
switched-fits None l h = h
switched-fits (Some rest) l h = entered (state_of_rest rest) l.machine h.told

built-fits : (es : List Emitted) (p : Parser) → Fits p.lexing.machine → Fits (built p es).parser.lexing.machine
built-fits [] p h = h
built-fits (e ∷ es) p h = built-fits es (told p (handle p.control e.token)) (switched-fits (handle p.control e.token).switch p.lexing h)

abbrev StepKeeps : Step → Type 0
StepKeeps rests = Unit {0}
StepKeeps (goes q es) = Fits q.lexing.machine

either-fits : (b : Bool) (f h : Lexing) → Fits f.machine → Fits h.machine → Fits (cond b f h).machine
either-fits true f h x y = x
either-fits false f h x y = y

step_keeps : (p : Parser) (m : Move) (s : State) (text : List ℕ) → MoveKeeps s text m → StepKeeps (step_by p m)
step_keeps p needs_more s text k = tt
step_keeps p (asks_cdata f h) s text k = either-fits (is_foreign_now p.control) f h k.0 k.1
step_keeps p asks_last_tag s text k = tt
step_keeps p (makes l es) s text k = built-fits es (at_lexing p l) k
step_keeps p (ends es) s text k = tt

goes_keep : {p q : Parser} {es : List Edit} → Goes (step (table built_in)) p es q → Fits p.lexing.machine → Fits q.lexing.machine
goes_keep here h = h
goes_keep {p} (onward {q = q} {es = es} e g) h =
    goes_keep g (subst StepKeeps e (step_keeps p (move (table built_in) p.lexing) p.lexing.machine.state p.lexing.unread (move_keeps p.lexing h)))

-- the same of the token under construction
switched-owns : (o : Option Rest) (l : Lexing) → Own l → Own (switched o l)
switched-owns None l h = h
switched-owns (Some r) l h = rested r
  where
    rested : (q : Rest) → Own (switched (Some q) l)
    rested rest.Data = refl
    rested _ = refl

built-owns : (es : List Emitted) (p : Parser) → Own p.lexing → Own (built p es).parser.lexing
built-owns [] p h = h
built-owns (e ∷ es) p h = built-owns es (told p (handle p.control e.token)) (switched-owns (handle p.control e.token).switch p.lexing h)

abbrev StepOwns : Step → Type 0
StepOwns rests = Unit {0}
StepOwns (goes q es) = Own q.lexing

step_owns : (p : Parser) (m : Move) → MoveOwns m → StepOwns (step_by p m)
step_owns p needs_more k = tt
step_owns p (asks_cdata f h) k = chosen (is_foreign_now p.control)
  where
    chosen : (b : Bool) → Own (cond b f h)
    chosen true = k.0
    chosen false = k.1
step_owns p asks_last_tag k = tt
step_owns p (makes l es) k = built-owns es (at_lexing p l) k
step_owns p (ends es) k = tt

goes_own : (names : List Reference) {p q : Parser} {es : List Edit} → Goes (step (table names)) p es q → Own p.lexing → Own q.lexing
goes_own names here h = h
goes_own names {p} (onward {q = q} {es = es} e g) h = goes_own names g (subst StepOwns e (step_owns p (move (table names) p.lexing) (move_owns names p.lexing h)))

-- where no step is made, more text is needed
needs : (p : Parser) (m : Move) (s : State) (text : List ℕ) → MoveKeeps s text m → ((q : Parser) (es : List Edit) → step_by p m ≡ goes q es → ⊥) → m ≡ needs_more
needs p needs_more s text k n = refl
needs p (asks_cdata f h) s text k n = absurd (n _ _ refl)
needs p asks_last_tag s text k n = absurd k
needs p (makes l es) s text k n = absurd (n _ _ refl)
needs p (ends es) s text k n = absurd k

needs_there : {p there : Parser} {es : List Edit} → RunsTo (table built_in) p es there → Fits there.lexing.machine → move (table built_in) there.lexing ≡ needs_more
needs_there {p} {there} run h = needs there (move (table built_in) there.lexing) there.lexing.machine.state there.lexing.unread (move_keeps there.lexing h) run.rests.no_step

-- the parts, one by one
from_parts : (m : Machine) → enter m.state m ≡ m → IsSome m.last_tag → Fits m
from_parts m e h = record {
  building = ap (λ (x : Machine). x.building) e;
  buffer = ap (λ (x : Machine). x.buffer) e;
  return_to = ap (λ (x : Machine). x.return_to) e;
  value = ap (λ (x : Machine). x.value) e;
  told = h;
}

to_parts : (m : Machine) → Fits m → enter m.state m ≡ m
to_parts m h =
    let b' : List ℕ = cond (uses_buffer m.state) m.buffer [] in
    let r' : Return = cond (uses_return m.state) m.return_to returns.Data in
    let v' : ℕ = cond (uses_value m.state) m.value 0 in
    let one : Building → List ℕ → Return → ℕ → Machine = λ x b r v. record m { building = x; buffer = b; return_to = r; value = v } in
    ap (λ (x : Building). one x b' r' v') h.building
    ∙ (ap (λ (b : List ℕ). one m.building b r' v') h.buffer
    ∙ (ap (λ (r : Return). one m.building m.buffer r v') h.return_to
    ∙ ap (λ (v : ℕ). one m.building m.buffer m.return_to v) h.value))

relex_stack : (m : Mode) (c : ControlState) (l : LexState) → StackFits m c → StackFits m (record c { lex = l })
relex_stack mode.Initial c l h = h
relex_stack _ c l h = h

-- a valid state with another state of the lexer
pub relex_valid : (c : ControlState) (l : LexState) → IsValid c → LexFits l → IsValid (record c { lex = l })
relex_valid c l v f = record {
  stack_ids = v.stack_ids;
  list_ids = v.list_ids;
  head = v.head;
  form = v.form;
  formatting = v.formatting;
  stack = relex_stack c.mode c l v.stack;
  original = v.original;
  pending = v.pending;
  template_modes = v.template_modes;
  templates = v.templates;
  lex = f;
}

lex_fits : (s : ControlState) (text : List ℕ) (es : List Edit) (there : Parser) → Runs built_in (parser_in s) text es there → LexFits s.lex → LexFits (state_at there).lex
lex_fits s text es there run f =
    let m : Machine = there.lexing.machine in
    let h : Fits m = goes_keep run.goes (from_parts s.lex.machine f.parts f.last_tag) in
    let ahead : may_be_ahead m.state there.lexing.unread ≡ true = subst (MoveKeeps m.state there.lexing.unread) (needs_there run h) (move_keeps there.lexing h) in record {
      parts = to_parts m h;
      token = token_there m.state there.lexing.unread m.return_to m.building ahead (goes_own built_in run.goes (token_owned s.lex.machine.state _ s.lex.machine.return_to s.lex.machine.building f.token));
      ahead = ahead;
      last_tag = h.told;
    }

-- and so it leads from a valid state to a valid one
pub exit_valid : (s : ControlState) (text : List ℕ) (es : List Edit) (there : Parser) → Runs built_in (parser_in s) text es there → IsValid s → IsValid (state_at there)
exit_valid s text es there run v =
    relex_valid there.control (state_at there).lex (runs-valid (table built_in) (table_read built_in) (parser_in s) there text es run (relex_valid s lex_start v start_valid.lex))
    (lex_fits s text es there run v.lex)

-- along it the last start tag's name is never asked
pub never_asked : (text : List ℕ) (s : ControlState) (p : Parser) (es : List Edit) → IsValid s → Goes (step (table built_in)) (followed_by (parser_in s) text) es p
    → move (table built_in) p.lexing ≡ asks_last_tag → ⊥
never_asked text s p es v g e =
    subst (MoveKeeps p.lexing.machine.state p.lexing.unread) e (move_keeps p.lexing (goes_keep g (from_parts s.lex.machine v.lex.parts v.lex.last_tag)))

-- it rests only where more text is needed
pub rests_for_more : (text : List ℕ) (s : ControlState) (p : Parser) (es : List Edit) → IsValid s → Runs built_in (parser_in s) text es p → move (table built_in) p.lexing ≡ needs_more
rests_for_more text s p es v run = needs_there run (goes_keep run.goes (from_parts s.lex.machine v.lex.parts v.lex.last_tag))
