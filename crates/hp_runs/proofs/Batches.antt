-- What a batch of moves emits is handled token by token, and that makes steps of the run.
use Rattle.std.proofs.Common.{◌≡◌, List, [], ◌∷◌, ◌++◌, refl, ap, ◌∙◌, sym, subst, append_assoc, Option}
use Rattle.hp_elements.specs.declared.token.Token.{Token}
use Rattle.hp_elements.specs.declared.token.Rest.{Rest}
use Rattle.hp_tokens.specs.Advancing.{tokens_of}
use Rattle.hp_tokens.specs.Moves.{Lexing, Emitted, Move, makes, Rules, move}
use Rattle.hp_tokens.specs.Runs.{Leads, here, onward}
use Rattle.hp_control.specs.declared.edit.Edit.{Edit}
use Rattle.hp_control.specs.States.{ControlState}
use Rattle.hp_model.specs.Handling.{handle}
use Rattle.hp_model.specs.Turns.{Handled, left_by}
use Rattle.hp_model.specs.Runs.{Parser, goes, Goes, here as stays, onward as steps_on, built, step, step_by, switched, told}
use Rattle.hp_runs.specs.Handling.{Handler, left_after, made_after, AreQuiet}
use Rattle.hp_runs.proofs.Began.{tokens-append}

module _ (does : Handler) where
  pub left-append : (c : ControlState) (xs ys : List Token) → left_after does c (xs ++ ys) ≡ left_after does (left_after does c xs) ys
  left-append c [] ys = refl
  left-append c (x ∷ xs) ys = left-append (left_by (does c x)) xs ys

  pub made-append : (c : ControlState) (xs ys : List Token) → made_after does c (xs ++ ys) ≡ made_after does c xs ++ made_after does (left_after does c xs) ys
  made-append c [] ys = refl
  made-append c (x ∷ xs) ys =
      ap (λ (es : List Edit). (does c x).outcome.edits ++ es) (made-append (left_by (does c x)) xs ys)
      ∙ sym (append_assoc (does c x).outcome.edits (made_after does (left_by (does c x)) xs) (made_after does (left_after does (left_by (does c x)) xs) ys))

  pub quiet-split : (c : ControlState) (xs ys : List Token) → AreQuiet does c (xs ++ ys) → AreQuiet does c xs × AreQuiet does (left_after does c xs) ys
  quiet-split c [] ys h = (tt, h)
  quiet-split c (x ∷ xs) ys h = let rest = quiet-split (left_by (does c x)) xs ys h.1 in ((h.0, rest.0), rest.1)

abbrev pub at : Lexing → ControlState → Parser
at l c = record { lexing = l; control = c }

pub built-control : (es : List Emitted) (p : Parser) → (built p es).parser.control ≡ left_after handle p.control (tokens_of es)
built-control [] p = refl
built-control (e ∷ es) p = built-control es (told p (handle p.control e.token))

built-edits : (es : List Emitted) (p : Parser) → (built p es).edits ≡ made_after handle p.control (tokens_of es)
built-edits [] p = refl
built-edits (e ∷ es) p =
    let h : Handled = handle p.control e.token in
    ap (λ (fs : List Edit). h.outcome.edits ++ fs) (built-edits es (told p h))

built-lexing : (es : List Emitted) (p : Parser) → AreQuiet handle p.control (tokens_of es) → (built p es).parser.lexing ≡ p.lexing
built-lexing [] p q = refl
built-lexing (e ∷ es) p q =
    let h : Handled = handle p.control e.token in
    built-lexing es (told p h) q.1 ∙ ap (λ (s : Option Rest). switched s p.lexing) q.0

pub built-quiet : (es : List Emitted) (p : Parser) → AreQuiet handle p.control (tokens_of es) → (built p es).parser ≡ at p.lexing (left_after handle p.control (tokens_of es))
built-quiet es p q =
    ap (λ (l : Lexing). at l (built p es).parser.control) (built-lexing es p q)
    ∙ ap (λ (c : ControlState). at p.lexing c) (built-control es p)

pub built-made : (es : List Emitted) (p : Parser) → (built p es).edits ≡ made_after handle p.control (tokens_of es)
built-made = built-edits

pub quiet-step : (l m : Lexing) (es : List Emitted) (c : ControlState) (made : Move) → made ≡ makes m es → AreQuiet handle c (tokens_of es)
    → step_by (at l c) made ≡ goes (at m (left_after handle c (tokens_of es))) (made_after handle c (tokens_of es))
quiet-step l m es c made is q =
    ap (step_by (at l c)) is
    ∙ (ap (λ (p : Parser). goes p (built (at m c) es).edits) (built-quiet es (at m c) q)
    ∙ ap (λ (fs : List Edit). goes (at m (left_after handle c (tokens_of es))) fs) (built-edits es (at m c)))

pub quiet-goes : (rules : Rules) {l k : Lexing} {es : List Emitted} (c : ControlState) → Leads (move rules) l es k → AreQuiet handle c (tokens_of es)
    → Goes (step rules) (at l c) (made_after handle c (tokens_of es)) (at k (left_after handle c (tokens_of es)))
quiet-goes rules c here q = stays
quiet-goes rules {l} {k} c (onward {m = m} {es = es} {fs = fs} made rest) q =
    let same : tokens_of (es ++ fs) ≡ tokens_of es ++ tokens_of fs = tokens-append es fs in
    let parts : AreQuiet handle c (tokens_of es) × AreQuiet handle (left_after handle c (tokens_of es)) (tokens_of fs) =
    quiet-split handle c (tokens_of es) (tokens_of fs) (subst (AreQuiet handle c) same q) in
    let mid : ControlState = left_after handle c (tokens_of es) in
    let way : Goes (step rules) (at l c) (made_after handle c (tokens_of es) ++ made_after handle mid (tokens_of fs)) (at k (left_after handle mid (tokens_of fs))) =
    steps_on (quiet-step l m es c (move rules l) made parts.0) (quiet-goes rules mid rest parts.1) in
    let P : List Token → Type 0 = λ ts. Goes (step rules) (at l c) (made_after handle c ts) (at k (left_after handle c ts)) in
    let E : List Edit → Type 0 = λ es'. Goes (step rules) (at l c) es' (at k (left_after handle c (tokens_of es ++ tokens_of fs))) in
    let C : ControlState → Type 0 = λ d. Goes (step rules) (at l c) (made_after handle c (tokens_of es) ++ made_after handle mid (tokens_of fs)) (at k d) in
    subst P (sym same)
    (subst E (sym (made-append handle c (tokens_of es) (tokens_of fs))) (subst C (sym (left-append handle c (tokens_of es) (tokens_of fs))) way))
