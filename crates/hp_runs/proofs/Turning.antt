-- All tokens of some moves, each with its switch, are steps of the run.
use Rattle.std.proofs.Common.{◌≡◌, ℕ, List, [], ◌∷◌, ◌++◌, refl, ap, ◌∙◌, sym, subst, Option}
use Rattle.hp_elements.specs.declared.token.CharClass.{CharClass}
use Rattle.hp_elements.specs.declared.token.Rest.{Rest}
use Rattle.hp_elements.specs.declared.token.Token.{Token}
use Rattle.hp_elements.specs.declared.token.Token.TheVariants as token
use Rattle.hp_tokens.specs.Advancing.{AreRuns, single, singles, tokens_of}
use Rattle.hp_tokens.specs.Moves.{Lexing, Emitted, Move, makes}
use Rattle.hp_control.specs.declared.edit.Edit.{Edit}
use Rattle.hp_control.specs.States.{ControlState, IsValid}
use Rattle.hp_groves.specs.Joining.{JoinTexts, Same}
use Rattle.hp_groves.proofs.Joined.{one_by_one-join}
use Rattle.hp_model.proofs.Handled.{handle-valid}
use Rattle.hp_model.specs.AtOnce.{LeaveSame, RunsAtOnce, handle_at_once}
use Rattle.hp_model.specs.Handling.{handle}
use Rattle.hp_model.specs.Runs.{Parser, goes, built, step_by, switched, told}
use Rattle.hp_model.specs.Turns.{left_by}
use Rattle.hp_runs.specs.Closing.{AreCharacters}
use Rattle.hp_runs.specs.Tokens.{AllRead}
use Rattle.hp_runs.specs.Handling.{AreQuiet, Handler, left_after, made_after, turned_by}
use Rattle.hp_runs.proofs.Batches.{at, built-control, built-made, left-append, made-append}
use Rattle.hp_runs.proofs.Quiet.{at_once-quiet, characters-quiet}
use Rattle.hp_runs.proofs.Together.{left-single, made-single}

pub turned-append : (does : Handler) (c : ControlState) (xs ys : List Token) (l : Lexing) → turned_by does c (xs ++ ys) l ≡ turned_by does (left_after does c xs) ys (turned_by does c xs l)
turned-append does c [] ys l = refl
turned-append does c (x ∷ xs) ys l = turned-append does (left_by (does c x)) xs ys (switched (does c x).switch l)

-- tokens that switch the lexer nowhere leave it as it is
pub turned-quiet : (does : Handler) (c : ControlState) (ts : List Token) (l : Lexing) → AreQuiet does c ts → turned_by does c ts l ≡ l
turned-quiet does c [] l q = refl
turned-quiet does c (t ∷ ts) l q =
    ap (λ (s : Option Rest). turned_by does (left_by (does c t)) ts (switched s l)) q.0 ∙ turned-quiet does (left_by (does c t)) ts l q.1

built-turned : (es : List Emitted) (p : Parser) → (built p es).parser.lexing ≡ turned_by handle p.control (tokens_of es) p.lexing
built-turned [] p = refl
built-turned (e ∷ es) p = built-turned es (told p (handle p.control e.token))

-- what a move emits
pub loud-step : (l m : Lexing) (es : List Emitted) (c : ControlState) (made : Move) → made ≡ makes m es
    → step_by (at l c) made ≡ goes (at (turned_by handle c (tokens_of es) m) (left_after handle c (tokens_of es))) (made_after handle c (tokens_of es))
loud-step l m es c made is =
    ap (step_by (at l c)) is
    ∙ (ap (λ (k : Lexing). goes (at k (built (at m c) es).parser.control) (built (at m c) es).edits) (built-turned es (at m c))
    ∙ (ap (λ (d : ControlState). goes (at (turned_by handle c (tokens_of es) m) d) (built (at m c) es).edits) (built-control es (at m c))
    ∙ ap (λ (fs : List Edit). goes (at (turned_by handle c (tokens_of es) m) (left_after handle c (tokens_of es))) fs) (built-made es (at m c))))

-- the tokens of the table do what the runs do at once, with each switch
pub record Does (c : ControlState) (ts : List Token) (k : Lexing) : Type 0 where
  pub turned : turned_by handle c (singles ts) k ≡ turned_by handle_at_once c ts k
  pub left : left_after handle c (singles ts) ≡ left_after handle_at_once c ts
  pub made : JoinTexts (made_after handle c (singles ts)) (made_after handle_at_once c ts)

letters-turned : (class : CharClass) (text : List ℕ) (c : ControlState) (k : Lexing) → turned_by handle c (single (token.Characters class text)) k ≡ k
letters-turned class text c k = turned-quiet handle c (single (token.Characters class text)) k (characters-quiet (single (token.Characters class text)) c (alone text))
  where
    alone : (xs : List ℕ) → AreCharacters (single (token.Characters class xs))
    alone [] = tt
    alone (x ∷ xs) = alone xs

single-turned : (c : ControlState) (t : Token) (k : Lexing) → LeaveSame (handle c t) (handle_at_once c t) → turned_by handle c (single t) k ≡ switched (handle_at_once c t).switch k
single-turned c (token.Characters class text) k same = letters-turned class text c k ∙ ap (λ (s : Option Rest). switched s k) (sym (at_once-quiet class text c))
single-turned c t k same = ap (λ (s : Option Rest). switched s k) same.switch

does-on : (t : Token) (ts : List Token) (c : ControlState) (k : Lexing) → LeaveSame (handle c t) (handle_at_once c t) → Does (left_by (handle c t)) ts (switched (handle_at_once c t).switch k) → Does c (t ∷ ts) k
does-on t ts c k same rest = record {
  turned =
      turned-append handle c (single t) (singles ts) k
      ∙ (ap (λ (x : ControlState). turned_by handle x (singles ts) (turned_by handle c (single t) k)) (left-single c t)
      ∙ (ap (turned_by handle (left_by (handle c t)) (singles ts)) (single-turned c t k same)
      ∙ (rest.turned ∙ ap (λ (x : ControlState). turned_by handle_at_once x ts (switched (handle_at_once c t).switch k)) same.control)));
  left =
      left-append handle c (single t) (singles ts)
      ∙ (ap (λ (x : ControlState). left_after handle x (singles ts)) (left-single c t)
      ∙ (rest.left ∙ ap (λ (x : ControlState). left_after handle_at_once x ts) same.control));
  made =
      subst (λ (es : List Edit). JoinTexts es (made_after handle_at_once c (t ∷ ts))) (sym parts)
      (subst (λ (x : ControlState). JoinTexts ((handle c t).outcome.edits ++ made_after handle (left_by (handle c t)) (singles ts)) ((handle_at_once c t).outcome.edits ++ made_after handle_at_once x ts)) same.control
      (one_by_one-join (handle c t).outcome.edits (handle_at_once c t).outcome.edits (made_after handle (left_by (handle c t)) (singles ts)) (made_after handle_at_once (left_by (handle c t)) ts) same.edits rest.made));
}
  where
    parts : made_after handle c (singles (t ∷ ts)) ≡ (handle c t).outcome.edits ++ made_after handle (left_by (handle c t)) (singles ts)
    parts =
        made-append handle c (single t) (singles ts)
        ∙ (ap (λ (es : List Edit). es ++ made_after handle (left_after handle c (single t)) (singles ts)) (made-single c t)
        ∙ ap (λ (x : ControlState). (handle c t).outcome.edits ++ made_after handle x (singles ts)) (left-single c t))

pub all-together : RunsAtOnce → (ts : List Token) (c : ControlState) (k : Lexing) → AllRead ts → AreRuns ts → IsValid c → Does c ts k
all-together law [] c k read runs v = record { turned = refl; left = refl; made = Same [] }
all-together law (t ∷ ts) c k read runs v =
    let same : LeaveSame (handle c t) (handle_at_once c t) = law t c read.0 runs.0 v in
    does-on t ts c k same (all-together law ts (left_by (handle c t)) (switched (handle_at_once c t).switch k) read.1 runs.1 (handle-valid t c read.0 v))
