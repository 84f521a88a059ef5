-- What `next` did is what it promises.
use Rattle.std.proofs.Common.{◌≡◌, ℕ, ◌-◌, ◌≤◌, ◌^◌, List, [], Bool, true, false, length, refl, ap, ◌∙◌, sym, subst}
use Rattle.hp_elements.specs.declared.token.Token.{Token}
use Rattle.hp_tokens.specs.declared.state.State.{State}
use Rattle.hp_tokens.specs.declared.machine.Machine.{Machine}
use Rattle.hp_tokens.specs.declared.rows.Turn.{Turn}
use Rattle.hp_tokens.specs.declared.rows.Turn.TheVariants as turns
use Rattle.hp_tokens.specs.Reading.{Unread}
use Rattle.hp_tokens.specs.Moves.{Lexing, Move, needs_more, asks_cdata, taking, move}
use Rattle.hp_tokens.specs.Advancing.{held, unread, lexing, Advances, Stops}
use Rattle.hp_tokens.proofs.OneByOne.{settled_elsewhere}
use Rattle.hp_tokens.proofs.Stepping.{stand_same}
use Rattle.hp_lexer.specs.declared.lexer.Asked.{Asked}
use Rattle.hp_lexer.specs.declared.lexer.Asked.TheVariants as asked
use Rattle.hp_lexer.specs.declared.lexer.Lexer.{Lexer}
use Rattle.hp_lexer.specs.declared.lexer.Step.{Step}
use Rattle.hp_lexer.specs.declared.lexer.Step.TheVariants as steps
use Rattle.hp_lexer.specs.Table.{table, part_of}
use Rattle.hp_lexer.specs.Running.{Passed, Led, Ran, emits}
use Rattle.hp_lexer.specs.Standing.{opened, behind_cdata, stands, stands_answered, Stepped, SteppedWithin, IsBatch}
use Rattle.hp_lexer.proofs.Falling.{FallsTo, AsksCdata, move_falls}

pub at_nothing : (l : Lexer) (input : Unread) → l.asked ≡ asked.Nothing → stands l input ≡ lexing l.lex input l.rested
at_nothing l input e = ap (λ (a : Asked). lexing (record l.lex { machine = opened a l.lex.machine }) input l.rested) e

module _ (old o mid : Lexer) (old_input mid_input : Unread) (tokens : List Token) (turn : Turn)
    (is : o ≡ record old { lex = record old.lex { machine = opened old.asked old.lex.machine }; asked = asked.Nothing })
    (same : mid.asked ≡ o.asked) (ran : Ran o.names o.lex old_input o.rested mid.lex mid_input tokens mid.rested turn) where
  pub nothing : mid.asked ≡ asked.Nothing
  nothing = same ∙ ap (λ (x : Lexer). x.asked) is

  there : Lexing
  there = lexing mid.lex mid_input mid.rested

  advanced : (t : Turn) → turn ≡ t → Advances (table old.names) (stands old old_input) [] (lexing mid.lex mid_input mid.rested) tokens mid.rested (emits t)
  advanced t e =
      let P : Turn → Type 0 = λ x. Advances (table o.names) (lexing o.lex old_input o.rested) [] (lexing mid.lex mid_input mid.rested) tokens mid.rested (emits x) in
      let Q : Lexer → Type 0 = λ x. Advances (table x.names) (lexing x.lex old_input x.rested) [] (lexing mid.lex mid_input mid.rested) tokens mid.rested (emits t) in
      subst Q is (subst P e ran.0)

  led : (t : Turn) → turn ≡ t → Led old.names o.lex old_input o.rested mid.lex mid_input tokens mid.rested t
  led t e =
      let P : Turn → Type 0 = λ x. Led o.names o.lex old_input o.rested mid.lex mid_input tokens mid.rested x in
      let Q : Lexer → Type 0 = λ x. Led x.names o.lex old_input o.rested mid.lex mid_input tokens mid.rested t in
      subst Q is (subst P e ran.1)

  at_mid : stands mid mid_input ≡ lexing mid.lex mid_input mid.rested
  at_mid = at_nothing mid mid_input nothing

  pub emitted : turn ≡ turns.Emitted → (began : ℕ) → began ≡ mid.rested - 2 ^ 32 → Stepped old old_input mid mid_input (steps.Tokens began tokens)
  emitted e began h =
      let P : Lexing → Type 0 = λ x. Advances (table old.names) (stands old old_input) [] x tokens mid.rested true in
      let Q : Lexing → Type 0 = λ x. (s : State) × Stops (table old.names) (part_of s) x in
      (subst P (sym at_mid) (advanced turns.Emitted e), h, nothing, subst Q (sym at_mid) (led turns.Emitted e))

  -- nothing was emitted
  silent : (t : Turn) → turn ≡ t → emits t ≡ false → tokens ≡ [] → Advances (table old.names) (stands old old_input) [] (lexing mid.lex mid_input mid.rested) [] mid.rested false
  silent t e f none =
      let P : Bool → Type 0 = λ b. Advances (table old.names) (stands old old_input) [] (lexing mid.lex mid_input mid.rested) tokens mid.rested b in
      let Q : List Token → Type 0 = λ ts. Advances (table old.names) (stands old old_input) [] (lexing mid.lex mid_input mid.rested) ts mid.rested false in
      subst Q none (subst P f (advanced t e))

  pub within_cut : turn ≡ turns.NeedsMore → held mid.lex ≤ 2 ^ 32 → mid_input.text ≡ [] → SteppedWithin old old_input mid mid_input steps.AtCut
  within_cut e few used =
      let l = led turns.NeedsMore e in
      let P : Lexing → Type 0 = λ x. Advances (table old.names) (stands old old_input) [] x [] mid.rested false in
      let Q : Lexing → Type 0 = λ x. move (table old.names) x ≡ needs_more in
      record {
        advances = subst P (sym at_mid) (silent turns.NeedsMore e refl l.0);
        needs = subst Q (sym at_mid) l.1;
        asked = nothing;
        held = few;
        used = used;
      }

  pub batched : IsBatch o.names (lexing o.lex old_input o.rested) (lexing mid.lex mid_input mid.rested) tokens mid.rested
      → IsBatch old.names (stands old old_input) (stands mid mid_input) tokens mid.rested
  batched b =
      let P : Lexer → Type 0 = λ x. IsBatch x.names (lexing x.lex old_input x.rested) (lexing mid.lex mid_input mid.rested) tokens mid.rested in
      let Q : Lexing → Type 0 = λ x. IsBatch old.names (stands old old_input) x tokens mid.rested in
      subst Q (sym at_mid) (subst P is b)

  pub asks_tag : turn ≡ turns.AskLastTag → Stepped old old_input (record mid { asked = asked.LastTag }) mid_input steps.AskLastTag
  asks_tag e =
      let l = led turns.AskLastTag e in
      (silent turns.AskLastTag e refl l.0, l.1, refl)

  module _ (e : turn ≡ turns.AskCdata) where
    asks_there : AsksCdata (lexing mid.lex mid_input mid.rested) (led turns.AskCdata e).1.0 (led turns.AskCdata e).1.1
    asks_there = let P : Move → Type 0 = λ x. FallsTo (lexing mid.lex mid_input mid.rested) x in
        subst P (led turns.AskCdata e).1.2 (move_falls old.names (lexing mid.lex mid_input mid.rested))

    pub long : 7 ≤ length (unread mid.lex mid_input)
    long = asks_there.long

    module _ (new : Lexer) (new_input : Unread) (passed : Passed 7 mid.lex mid_input new.lex new_input) (is_asked : new.asked ≡ asked.Cdata) (rested : new.rested ≡ mid.rested) where
      rested_is : (lexing mid.lex mid_input mid.rested).rested ≡ new.rested
      rested_is = sym (settled_elsewhere mid.lex mid_input mid.rested asks_there.away) ∙ sym rested

      behind : (foreign : Bool) → taking 7 (behind_cdata foreign mid.lex.machine) (lexing mid.lex mid_input mid.rested) ≡ stands_answered foreign new new_input
      behind foreign = stand_same (ap (λ (m : Machine). behind_cdata foreign m) (sym passed.machine)) (sym passed.place) rested_is (sym passed.text)

      pub asks_data : Stepped old old_input new new_input steps.AskCdata
      asks_data =
          let l = led turns.AskCdata e in
          record {
            there = lexing mid.lex mid_input mid.rested;
            rested = mid.rested;
            advances = silent turns.AskCdata e refl l.0;
            asks = l.1.2 ∙ (ap (λ (x : Lexing). asks_cdata x l.1.1) (asks_there.foreign ∙ behind true)
                ∙ ap (λ (x : Lexing). asks_cdata (stands_answered true new new_input) x) (asks_there.html ∙ behind false));
            asked = is_asked;
          }

-- the same at a cut, where the next text begins
pub cut_after : (old mid : Lexer) (old_input input : Unread) → SteppedWithin old old_input mid input steps.AtCut
    → Stepped old old_input (record mid { rested = 2 ^ 32 }) input steps.AtCut
cut_after old mid old_input input r = record {
  rested = mid.rested;
  advances = r.advances;
  needs = r.needs;
  asked = r.asked;
  start = refl;
  held = r.held;
  used = r.used;
}

pub as_within : (old mid : Lexer) (old_input input : Unread) (step : Step) → (step ≡ steps.AtCut → ⊥) → SteppedWithin old old_input mid input step → Stepped old old_input mid input step
as_within old mid old_input input steps.AtCut other h = absurd (other refl)
as_within old mid old_input input (steps.Tokens began tokens) other h = h
as_within old mid old_input input steps.AskCdata other h = h
as_within old mid old_input input steps.AskLastTag other h = h
