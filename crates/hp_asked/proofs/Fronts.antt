-- What the run over a text asks is asked by the run over a longer one.
use Rattle.std.proofs.Common.{◌≡◌, ℕ, Bool, true, false, List, [], ◌∷◌, ◌++◌, refl, ap, ◌∙◌, sym, subst, Option, None, Some}
use Rattle.std.specs.Prelude.{Ok, if◌then◌else◌}
use Rattle.hp_elements.specs.declared.token.Rest.{Rest}
use Rattle.hp_elements.specs.declared.token.Token.{Token}
use Rattle.hp_names.specs.References.{Reference}
use Rattle.hp_tokens.specs.Moves.{Emitted, Lexing, Move, move}
use Rattle.hp_tokens.specs.Runs.{Stays, followed_by as more_unread}
use Rattle.hp_tokens.proofs.Pieces.{move-stays}
use Rattle.hp_control.specs.declared.question.Answer.{Answer}
use Rattle.hp_control.specs.declared.question.Question.{Question}
use Rattle.hp_control.specs.Plan.{Plan, asked_by, asks, crosses, end_by, followed_by, gives}
use Rattle.hp_control.specs.Running.{end_then, on_end}
use Rattle.hp_control.specs.States.{ControlState}
use Rattle.hp_control.specs.Truth.{answer_of}
use Rattle.hp_lexer.specs.Table.{table}
use Rattle.hp_lexer.proofs.Steady.{table_steady}
use Rattle.hp_model.specs.Runs.{switched}
use Rattle.hp_acts.specs.HandlePlans.{handle_plan}
use Rattle.hp_acts.specs.RowPlans.{Reached}
use Rattle.hp_acts.proofs.PlainRuns.{follow_assoc}
use Rattle.hp_runs.specs.Closing.{LeadsOn, last, onward as leads_on, stays}
use Rattle.hp_asked.specs.Laws.{RightBefore}
use Rattle.hp_asked.specs.Right.{AsksOver, entry, onward as begun_onward}
use Rattle.hp_asked.specs.Seeking.{Asks, Seeker, at, led_to, name, nothing, onward, section, seek, tokens}

-- the same seeker with more text behind what is unread
abbrev with_text : List ℕ → Seeker → Seeker
with_text text k = at (more_unread k.lexing text) k

switched-with : (to : Option Rest) (l : Lexing) (text : List ℕ) → switched to (more_unread l text) ≡ more_unread (switched to l) text
switched-with None l text = refl
switched-with (Some rest) l text = refl

led-with : (text : List ℕ) (r : Reached) (k : Seeker) → led_to r (with_text text k) ≡ with_text text (led_to r k)
led-with text r k = ap (λ (l : Lexing). record { lexing = l; split = r.split }) (switched-with r.handled.switch k.lexing text)

abbrev gives_with : List ℕ → Seeker → Plan Seeker
gives_with text m = gives (with_text text m)

seek-with : (text : List ℕ) (ts : List Token) (k : Seeker) → seek ts (with_text text k) ≡ followed_by (seek ts k) (gives_with text)
seek-with text [] k = refl
seek-with text (t ∷ ts) k =
    ap (λ (next : Reached → Plan Seeker). followed_by (handle_plan t k.split) next) (λ i. λ r. (ap (seek ts) (led-with text r k) ∙ seek-with text ts (led_to r k)) i)
    ∙ sym (follow_assoc (handle_plan t k.split) (λ r. seek ts (led_to r k)) (gives_with text))

asked-gives : (says : Question → Answer) (text : List ℕ) (p : Plan Seeker) → asked_by says (followed_by p (gives_with text)) ≡ asked_by says p
asked-gives says text (gives x) = refl
asked-gives says text (crosses crossing) = refl
asked-gives says text (asks q go) = ap (λ (qs : List Question). q ∷ qs) (asked-gives says text (go (says q)))

-- the tokens ask the same, and lead to the same
asked-with : (says : Question → Answer) (text : List ℕ) (ts : List Token) (k : Seeker) → asked_by says (seek ts (with_text text k)) ≡ asked_by says (seek ts k)
asked-with says text ts k = ap (asked_by says) (seek-with text ts k) ∙ asked-gives says text (seek ts k)

ends-with : (says : Question → Answer) (text : List ℕ) (ts : List Token) (k m : Seeker) → end_by says (seek ts k) ≡ Ok m → end_by says (seek ts (with_text text k)) ≡ Ok (with_text text m)
ends-with says text ts k m ends =
    ap (end_by says) (seek-with text ts k)
    ∙ (end_then says (seek ts k) (gives_with text) ∙ ap (λ e. on_end e (λ n. end_by says (gives_with text n))) ends)

either-with : (b : Bool) (l m : Lexing) (text : List ℕ) → more_unread (if b then l else m) text ≡ (if b then more_unread l text else more_unread m text)
either-with true l m text = refl
either-with false l m text = refl

module _ (names : List Reference) (text : List ℕ) where
  -- a move that is made stays made, a question stays asked
  stays-so : (l : Lexing) (x : Move) → move (table names) l ≡ x → Stays x (move (table names) (more_unread l text)) text
  stays-so l x e = subst (λ (y : Move). Stays y (move (table names) (more_unread l text)) text) e (move-stays (table names) (table_steady names) l text)

  led-further : {l k : Lexing} {es : List Emitted} → LeadsOn (move (table names)) l es k → LeadsOn (move (table names)) (more_unread l text) es (more_unread k text)
  led-further stays = stays
  led-further {l} (last made) = last (stays-so l _ made)
  led-further {l} (leads_on made characters rest) = leads_on (stays-so l _ made) characters (led-further rest)

  asks-further : (s : ControlState) {k : Seeker} {qs : List Question} → Asks names s k qs → Asks names s (with_text text k) qs
  asks-further s nothing = nothing
  asks-further s {k} (tokens {l = l} {ts = ts} leads spells) =
      subst (Asks names s (with_text text k)) (asked-with (answer_of s) text ts (at l k)) (tokens {ts = ts} (led-further leads) spells)
  asks-further s {k} (onward {m = m} {l = l} {ts = ts} {qs = qs} leads spells ends more) =
      subst (λ (rs : List Question). Asks names s (with_text text k) (rs ++ qs)) (asked-with (answer_of s) text ts (at l k))
      (onward {ts = ts} (led-further leads) spells (ends-with (answer_of s) text ts (at l k) m ends) (asks-further s more))
  asks-further s {k} (section {l = l} {foreign = foreign} {html = html} {is_foreign = is_foreign} {qs = qs} leads asks_it ends more) =
      section {is_foreign = is_foreign} (led-further leads) (stays-so l _ asks_it) ends
      (subst (λ (m : Lexing). Asks names s (at m k) qs) (either-with is_foreign foreign html text) (asks-further s more))
  asks-further s {k} (name {l = l} leads asks_it more) = name (led-further leads) (stays-so l _ asks_it) (asks-further s more)

over-further : (names : List Reference) (s : ControlState) (a b : List ℕ) {qs : List Question} → AsksOver names s a qs → AsksOver names s (a ++ b) qs
over-further names s a b entry = entry
over-further names s a b (begun_onward rests more) = begun_onward rests (asks-further names b s more)

pub right-before : RightBefore
right-before says names s a b right = λ qs over. right qs (over-further names s a b over)
