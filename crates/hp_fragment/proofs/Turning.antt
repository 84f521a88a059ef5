-- The lexer behind switches, and its load behind a step.
use Rattle.std.proofs.Common.{◌≡◌, ℕ, ◌+◌, ◌*◌, ◌<◌, ◌≤◌, List, Bool, true, false, cond, refl, ap, ◌∙◌, sym, subst, arith, lit≤, Option, None, Some}
use Rattle.std.specs.Prelude.{sum_by}
use Rattle.std.specs.Char.{len_utf8}
use Rattle.hp_elements.specs.declared.token.Rest.{Rest}
use Rattle.hp_elements.specs.declared.token.Token.{Token}
use Rattle.hp_tokens.specs.Advancing.{held}
use Rattle.hp_tokens.specs.Ranks.{weight}
use Rattle.hp_tokens.specs.Reading.{Unread}
use Rattle.hp_control.specs.Faithful.{Split}
use Rattle.hp_control.specs.Plan.{Heard}
use Rattle.hp_lex_raw.specs.Raw.{is_untold}
use Rattle.hp_lexer.specs.declared.lexer.Asked.{Asked}
use Rattle.hp_lexer.specs.declared.lexer.Asked.TheVariants as asked
use Rattle.hp_lexer.specs.declared.lexer.Lexer.{Lexer}
use Rattle.hp_lexer.specs.declared.lexer.Step.TheVariants as steps
use Rattle.hp_lexer.specs.Places.{told}
use Rattle.hp_lexer.specs.Standing.{Stepped, StepsFall, SwitchesFall, is_answered, load, stands}
use Rattle.hp_runs.specs.Handling.{turned}
use Rattle.hp_fragment.specs.Reading.{IsAtEnd, IsReady, IsTurned, Stage, StepsOn, Tried, WentStraight, load_of}

pub none-turned : (l : Lexer) → IsTurned l l
none-turned l = record { names = refl; asked = refl; ahead = refl; weight = λ input told. omega arith; rested = refl }

pub turned-once : SwitchesFall → (l : Lexer) (to : Option Rest) → IsTurned l (turned to l)
turned-once law l None = none-turned l
turned-once law l (Some rest) = record { names = refl; asked = refl; ahead = refl; weight = λ input told. law rest l input told; rested = refl }

chain : (a b c : ℕ) → a ≤ b → b ≤ c → a ≤ c
chain a b c f g = omega (arith, f, g)

pub turned-then : (a b c : Lexer) → IsTurned a b → IsTurned b c → IsTurned a c
turned-then a b c f g = record {
  names = g.names ∙ f.names;
  asked = g.asked ∙ f.asked;
  rested = g.rested ∙ f.rested;
  ahead = g.ahead ∙ f.ahead;
  weight = λ input told. chain (weight (stands c input)) (weight (stands b input)) (weight (stands a input)) (g.weight input (f.asked ∙ told)) (f.weight input told);
}

untold-few : (b : Bool) → cond b 1 0 ≤ 1
untold-few true = lit≤ tt
untold-few false = lit≤ tt

few-more : (w v n o : ℕ) → n ≤ 1 → w ≤ v → 2 * v + 1 < o → 2 * w + n < o
few-more w v n o h i k = omega (arith, h, i, k)

pub held-on : (a b c d : ℕ) → b ≤ d → c ≡ d → a ≡ b → a ≤ c
held-on a b c d h e f = omega (arith, h, e, f)

-- behind the tokens of a step the lexer may be called, and its load is smaller
pub step-smaller : StepsFall → (old mid new : Stage) (tokens : List Token) (began : ℕ) → IsReady old → Stepped old.lexer old.input mid.lexer mid.input (steps.Tokens began tokens) → held mid.lexer.lex ≤ mid.input.place
    → mid.lexer.names ≡ old.lexer.names → new.input ≡ mid.input → IsTurned mid.lexer new.lexer → StepsOn old new true
step-smaller fall old mid new tokens began ready stepped fits names input turned = (
  record {
    names = turned.names ∙ (names ∙ ready.names);
    answered = ap is_answered (turned.asked ∙ stepped.2);
    held = held-on (held new.lexer.lex) (held mid.lexer.lex) new.input.place mid.input.place fits (ap (λ (u : Unread). u.place) input) (ap (sum_by len_utf8) turned.ahead);
  },
  subst (λ (u : Unread). load new.lexer u < load_of old) (sym input)
      (few-more (weight (stands new.lexer mid.input)) (weight (stands mid.lexer mid.input)) (cond (is_untold (stands new.lexer mid.input).machine.last_tag) 1 0) (load_of old)
      (untold-few (is_untold (stands new.lexer mid.input).machine.last_tag)) (turned.weight mid.input stepped.2) (fall old.lexer mid.lexer old.input mid.input (steps.Tokens began tokens) stepped)),
)

-- once a question is answered it is so too
load-so : (w n o : ℕ) → n ≤ 1 → 2 * w + 1 < o → 2 * w + n < o
load-so w n o h k = omega (arith, h, k)

pub section-smaller : StepsFall → (old new : Stage) (l : Lexer) (u : Unread) (foreign : Bool) → IsReady old → Stepped old.lexer old.input l u steps.AskCdata → held l.lex ≤ u.place → l.names ≡ old.lexer.names
    → new.lexer ≡ record l { asked = asked.CdataAnswered foreign } → new.input ≡ u → StepsOn old new true
section-smaller fall old new l u foreign ready stepped fits names lexer input =
    let told : Lexer = record l { asked = asked.CdataAnswered foreign } in (
      record {
        names = ap (λ (x : Lexer). x.names) lexer ∙ (names ∙ ready.names);
        answered = ap (λ (x : Lexer). is_answered x.asked) lexer;
        held = held-on (held new.lexer.lex) (held l.lex) new.input.place u.place fits (ap (λ (v : Unread). v.place) input) (ap (λ (x : Lexer). held x.lex) lexer);
      },
      subst (λ (v : Unread). load new.lexer v < load_of old) (sym input)
          (subst (λ (x : Lexer). load x u < load_of old) (sym lexer)
          (load-so (weight (stands told u)) (cond (is_untold (stands told u).machine.last_tag) 1 0) (load_of old) (untold-few (is_untold (stands told u).machine.last_tag))
          (fall old.lexer l old.input u steps.AskCdata stepped foreign))),
    )

load-named : (w v o : ℕ) → w ≡ v → 2 * v < o → 2 * w + 0 < o
load-named w v o h k = omega (arith, h, k)

pub name-smaller : StepsFall → (old new : Stage) (l : Lexer) (u : Unread) (name : List ℕ) → IsReady old → Stepped old.lexer old.input l u steps.AskLastTag → held l.lex ≤ u.place → l.names ≡ old.lexer.names
    → new.lexer ≡ told name l → new.input ≡ u → StepsOn old new true
name-smaller fall old new l u name ready stepped fits names lexer input = (
  record {
    names = ap (λ (x : Lexer). x.names) lexer ∙ (names ∙ ready.names);
    answered = ap (λ (x : Lexer). is_answered x.asked) lexer;
    held = held-on (held new.lexer.lex) (held l.lex) new.input.place u.place fits (ap (λ (v : Unread). v.place) input) (ap (λ (x : Lexer). held x.lex) lexer);
  },
  subst (λ (v : Unread). load new.lexer v < load_of old) (sym input)
      (subst (λ (x : Lexer). load x u < load_of old) (sym lexer)
      (load-named (weight (stands (told name l) u)) (weight (stands l u)) (load_of old) (ap (λ (a : Asked). weight (stands (record l { asked = a }) u)) (sym stepped.2)) (fall old.lexer l old.input u steps.AskLastTag stepped))),
)

-- the text is used up
pub cut-at-end : (old : Stage) (l : Lexer) (u : Unread) → IsReady old → Stepped old.lexer old.input l u steps.AtCut → l.names ≡ old.lexer.names → IsAtEnd (record old { lexer = l; input = u })
cut-at-end old l u ready stepped names = record { names = names ∙ ready.names; asked = stepped.asked; held = stepped.held; used = stepped.used }

-- ways that go straight, one behind the other
pub none-went : (p : Stage) → IsReady p → WentStraight p p
none-went p ready = record { ready = ready; load = omega arith }

pub went-nowhere : (old new : Stage) → new ≡ old → IsReady old → WentStraight old new
went-nowhere old new is ready = subst (WentStraight old) (sym is) (none-went old ready)

pub asked-nowhere : (old : Stage) (h : Heard) (v : Split) → IsReady old → WentStraight old (record old { heard = h; split = v })
asked-nowhere old h v ready = record { ready = record { names = ready.names; answered = ready.answered; held = ready.held }; load = omega arith }

pub one-went : (old mid new : Stage) (made : Bool) → WentStraight old mid → Tried mid new made → WentStraight old new
one-went old mid new true went tried =
    let few : load_of mid ≤ load_of old = went.load in
    let fewer : load_of new < load_of mid = tried.1 in record { ready = tried.0; load = omega (arith, few, fewer) }
one-went old mid new false went tried = record { ready = tried.ready; load = chain (load_of new) (load_of mid) (load_of old) tried.load went.load }

pub tried-made : (old new : Stage) (made : Bool) → made ≡ true → Tried old new made → StepsOn old new true
tried-made old new made is h = subst (Tried old new) is h

pub stepped-on : (old new : Stage) (more : Bool) → more ≡ true → StepsOn old new more → StepsOn old new true
stepped-on old new more is h = subst (StepsOn old new) is h

pub stepped-off : (old new : Stage) (more : Bool) → more ≡ false → StepsOn old new more → StepsOn old new false
stepped-off old new more is h = subst (StepsOn old new) is h

pub smaller-behind : (old mid new : Stage) → WentStraight old mid → StepsOn mid new true → load_of new < load_of old
smaller-behind old mid new went s =
    let few : load_of mid ≤ load_of old = went.load in
    let fewer : load_of new < load_of mid = s.1 in omega (arith, few, fewer)
