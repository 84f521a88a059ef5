-- A further piece of the text, and tokens that switch the lexer nowhere, as steps of the run: from any parser, and from a page's start.
use Rattle.std.proofs.Common.{◌≡◌, ℕ, List, [], ◌++◌, refl, ap, ◌∙◌, sym, subst, append_assoc}
use Rattle.hp_elements.specs.declared.token.Token.{Token}
use Rattle.hp_names.specs.References.{Reference}
use Rattle.hp_tokens.specs.Advancing.{tokens_of}
use Rattle.hp_tokens.specs.Moves.{Lexing, Emitted, Move, makes, move}
use Rattle.hp_tokens.specs.Runs.{Leads, here, onward, followed_by as more_unread}
use Rattle.hp_tokens.proofs.Pieces.{Leads-followed}
use Rattle.hp_control.specs.declared.edit.Edit.{Edit}
use Rattle.hp_control.specs.States.{ControlState, lex_start, start}
use Rattle.hp_lexer.proofs.Steady.{table_steady}
use Rattle.hp_lexer.specs.Table.{table}
use Rattle.hp_model.specs.Handling.{handle}
use Rattle.hp_model.specs.Runs.{Parser, Step, Goes, here as stays, onward as steps_on, at_start, followed_by, step}
use Rattle.hp_runs.specs.Alike.{Alike, SameMove}
use Rattle.hp_runs.specs.Handling.{left_after, made_after, AreQuiet}
use Rattle.hp_runs.specs.Standing.{HasGone, HasRead}
use Rattle.hp_runs.proofs.Batches.{at, quiet-goes}
use Rattle.hp_runs.proofs.Began.{tokens-append}
use Rattle.hp_runs.proofs.Shifting.{move-same}

pub Goes-join : {next : Parser → Step} {p q r : Parser} {es fs : List Edit} → Goes next p es q → Goes next q fs r → Goes next p (es ++ fs) r
Goes-join stays g = g
Goes-join {next} {p} {r = r} {fs = fs} (steps_on {es = first} {fs = later} e g) h =
    let P : List Edit → Type 0 = λ xs. Goes next p xs r in
    subst P (sym (append_assoc first later fs)) (steps_on e (Goes-join g h))

-- moves from a lexer that is alike lead to one that is alike, and emit the same tokens
pub record LeadsSame (next : Lexing → Move) (k l' : Lexing) (es : List Emitted) : Type 0 where
  pub to : Lexing
  pub emits : List Emitted
  pub leads : Leads next l' emits to
  pub alike : Alike k to
  pub tokens : tokens_of emits ≡ tokens_of es

module _ (next : Lexing → Move) (same : (l k : Lexing) → Alike l k → SameMove (next l) (next k)) where
  pub leads-same : {l k : Lexing} {es : List Emitted} (l' : Lexing) → Leads next l es k → Alike l l' → LeadsSame next k l' es
  leads-same l' here a = record { to = l'; emits = []; leads = here; alike = a; tokens = refl }
  leads-same {l} {k} l' (onward {m = m} {es = es} {fs = fs} made rest) a =
      let first : SameMove (makes m es) (next l') = subst (λ (x : Move). SameMove x (next l')) made (same l l' a) in
      let later : LeadsSame next k first.0 fs = leads-same first.0 rest first.3 in
      record {
        to = later.to;
        emits = first.1 ++ later.emits;
        leads = onward first.2 later.leads;
        alike = later.alike;
        tokens =
            tokens-append first.1 later.emits
            ∙ (ap (λ (ts : List Token). ts ++ tokens_of later.emits) first.4
            ∙ (ap (λ (ts : List Token). tokens_of es ++ ts) later.tokens ∙ sym (tokens-append es fs)));
      }

module _ (names : List Reference) (from : Parser) where
  -- the next piece of the page
  pub piece-from : (l : Lexing) (piece later : List ℕ) (c : ControlState) (es : List Edit) → HasGone names from l (piece ++ later) c es → HasGone names from (more_unread l piece) later c es
  piece-from l piece later c es h = record {
    at = h.at;
    goes = h.goes;
    alike = record { machine = h.alike.machine; unread = append_assoc l.unread piece later ∙ h.alike.unread };
  }

  -- tokens that switch the lexer nowhere
  pub quiet-from : (l k : Lexing) (later : List ℕ) (c : ControlState) (es : List Edit) (emitted : List Emitted) → HasGone names from l later c es → Leads (move (table names)) l emitted k
      → AreQuiet handle c (tokens_of emitted) → HasGone names from k later (left_after handle c (tokens_of emitted)) (es ++ made_after handle c (tokens_of emitted))
  quiet-from l k later c es emitted h leads q =
      let there : LeadsSame (move (table names)) (more_unread k later) h.at emitted =
      leads-same (move (table names)) (move-same names) h.at (Leads-followed (table names) (table_steady names) later leads) h.alike in
      let P : List Token → Type 0 = λ ts. Goes (step (table names)) (at h.at c) (made_after handle c ts) (at there.to (left_after handle c ts)) in
      record {
        at = there.to;
        goes = Goes-join h.goes (subst P there.tokens (quiet-goes (table names) c there.leads (subst (AreQuiet handle c) (sym there.tokens) q)));
        alike = there.alike;
      }

module _ (names : List Reference) (page : List ℕ) where
  -- a page's start
  pub start-on : (l : Lexing) → l.machine ≡ lex_start.machine → l.unread ≡ [] → HasRead names page l page start []
  start-on l m u = record {
    at = (followed_by at_start page).lexing;
    goes = stays;
    alike = record { machine = m; unread = ap (λ (t : List ℕ). t ++ page) u };
  }

  pub piece-on : (l : Lexing) (piece later : List ℕ) (c : ControlState) (es : List Edit) → HasRead names page l (piece ++ later) c es → HasRead names page (more_unread l piece) later c es
  piece-on = piece-from names (followed_by at_start page)

  pub quiet-on : (l k : Lexing) (later : List ℕ) (c : ControlState) (es : List Edit) (emitted : List Emitted) → HasRead names page l later c es → Leads (move (table names)) l emitted k
      → AreQuiet handle c (tokens_of emitted) → HasRead names page k later (left_after handle c (tokens_of emitted)) (es ++ made_after handle c (tokens_of emitted))
  quiet-on = quiet-from names (followed_by at_start page)
