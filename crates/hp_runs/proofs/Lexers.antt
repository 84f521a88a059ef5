-- The lexer in code behind the switches of some tokens.
use Rattle.std.proofs.Common.{◌≡◌, ℕ, List, [], ◌∷◌, Bool, true, false, cond, refl, ap, ◌∙◌, sym, subst, map, Option, None, Some}
use Rattle.hp_elements.specs.Tokens.{class_of}
use Rattle.hp_elements.specs.declared.token.Rest.{Rest}
use Rattle.hp_elements.specs.declared.token.Rest.TheVariants as rest
use Rattle.hp_elements.specs.declared.token.Token.{Token}
use Rattle.hp_tokens.specs.Advancing.{place_of, unread}
use Rattle.hp_tokens.specs.Moves.{Lexing}
use Rattle.hp_tokens.specs.Reading.{Unread}
use Rattle.hp_tokens.specs.Rows.{character}
use Rattle.hp_tokens.specs.States.{enter, is_resting, state_of_rest}
use Rattle.hp_tokens.specs.declared.machine.Machine.{Machine}
use Rattle.hp_control.specs.States.{ControlState}
use Rattle.hp_lexer.specs.declared.lexer.Asked.{Asked}
use Rattle.hp_lexer.specs.declared.lexer.Asked.TheVariants as asked
use Rattle.hp_lexer.specs.declared.lexer.Lexer.{Lexer}
use Rattle.hp_lexer.specs.Standing.{stands}
use Rattle.hp_model.specs.AtOnce.{handle_at_once}
use Rattle.hp_model.specs.Runs.{switched}
use Rattle.hp_model.specs.Turns.{left_by}
use Rattle.hp_runs.specs.Handling.{Handler, lexer_after, turned, turned_by}
use Rattle.hp_runs.proofs.Quiet.{at_once-quiet}

pub turned-asked : (s : Option Rest) (l : Lexer) → (turned s l).asked ≡ l.asked
turned-asked None l = refl
turned-asked (Some rest) l = refl

rests : (to : Rest) → is_resting (state_of_rest to) ≡ true
rests rest.Data = refl
rests _ = refl

rested-there : (b : Bool) (place p q : ℕ) → b ≡ true → cond b place p ≡ cond b place q
rested-there true place p q e = refl
rested-there false place p q e = cc

-- the lexer in code stands where the run's is switched to
turned-stands : (s : Option Rest) (l : Lexer) (input : Unread) → l.asked ≡ asked.Nothing → stands (turned s l) input ≡ switched s (stands l input)
turned-stands None l input e = refl
turned-stands (Some to) l input e =
    let n : Machine = enter (state_of_rest to) l.lex.machine in
    let there : ℕ → Lexing = λ rested. record { machine = n; place = place_of l.lex input; rested = rested; unread = unread l.lex input } in
    let P : Asked → Type 0 = λ a. stands (record (turned (Some to) l) { asked = a }) input ≡ switched (Some to) (stands (record l { asked = a }) input) in
    subst P (sym e) (ap there (rested-there (is_resting (state_of_rest to)) (place_of l.lex input) l.rested (stands (record l { asked = asked.Nothing }) input).rested (rests to)))

module _ (does : Handler) where
  -- and so behind all of them
  pub stands-after : (c : ControlState) (ts : List Token) (l : Lexer) (input : Unread) → l.asked ≡ asked.Nothing → stands (lexer_after does c ts l) input ≡ turned_by does c ts (stands l input)
  stands-after c [] l input e = refl
  stands-after c (t ∷ ts) l input e =
      stands-after (left_by (does c t)) ts (turned (does c t).switch l) input (turned-asked (does c t).switch l ∙ e)
      ∙ ap (turned_by does (left_by (does c t)) ts) (turned-stands (does c t).switch l input e)

-- characters, one by one, leave it as it is
pub characters-after : (c : ControlState) (text : List ℕ) (l : Lexer) → lexer_after handle_at_once c (map character text) l ≡ l
characters-after c [] l = refl
characters-after c (x ∷ text) l =
    ap (λ (s : Option Rest). lexer_after handle_at_once (left_by (handle_at_once c (character x))) (map character text) (turned s l)) (at_once-quiet (class_of x) (x ∷ []) c)
    ∙ characters-after (left_by (handle_at_once c (character x))) text l
