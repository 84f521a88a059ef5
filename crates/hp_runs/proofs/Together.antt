-- Tokens that are handled at once, and the tokens of the table of which they consist.
use Rattle.std.proofs.Common.{◌≡◌, ℕ, List, [], ◌∷◌, ◌++◌, refl, ap, ◌∙◌, sym, subst, append-nil, map}
use Rattle.hp_elements.specs.declared.token.CharClass.{CharClass}
use Rattle.hp_elements.specs.declared.token.Token.{Token}
use Rattle.hp_elements.specs.declared.token.Token.TheVariants as token
use Rattle.hp_tokens.specs.Advancing.{AreRuns, single, singles, tokens_of}
use Rattle.hp_tokens.specs.Moves.{Lexing, Emitted, Rules, move}
use Rattle.hp_tokens.specs.Runs.{Leads, here, onward}
use Rattle.hp_control.specs.declared.edit.Edit.{Edit}
use Rattle.hp_control.specs.States.{ControlState, IsValid}
use Rattle.hp_control.specs.Tree.{Tree, applied, applied_all}
use Rattle.hp_model.proofs.Handled.{handle-valid}
use Rattle.hp_model.specs.Handling.{handle, handle_all, handle_piece}
use Rattle.hp_model.specs.Runs.{AreRead, ReadsHtml}
use Rattle.hp_model.specs.Turns.{Handled, left_by}
use Rattle.hp_model.specs.Whole.{IsRead}
use Rattle.hp_model.specs.AtOnce.{RunsAtOnce, handle_at_once}
use Rattle.hp_runs.specs.Tokens.{AllRead}
use Rattle.hp_runs.specs.Handling.{left_after, made_after}

pub applied-append : (t : Tree) (es fs : List Edit) → applied_all t (es ++ fs) ≡ applied_all (applied_all t es) fs
applied-append t [] fs = refl
applied-append t (e ∷ es) fs = applied-append (applied t e) es fs

-- what is read
read-split : (xs ys : List Token) → AllRead (xs ++ ys) → AllRead xs × AllRead ys
read-split [] ys h = (tt, h)
read-split (x ∷ xs) ys h = let rest = read-split xs ys h.1 in ((h.0, rest.0), rest.1)

pub read-join : (es fs : List Emitted) → AreRead es → AreRead fs → AreRead (es ++ fs)
read-join [] fs h k = k
read-join (e ∷ es) fs h k = (h.0, read-join es fs h.1 k)

pub leads-read : {rules : Rules} {l k : Lexing} {es : List Emitted} → ReadsHtml rules → Leads (move rules) l es k → AreRead es
leads-read html here = tt
leads-read {l = l} html (onward {m = m} {es = es} {fs = fs} made rest) = read-join es fs (html.emits l m es made) (leads-read html rest)

tokens-read : (es : List Emitted) → AreRead es → AllRead (tokens_of es)
tokens-read [] h = tt
tokens-read (e ∷ es) h = (h.0, tokens-read es h.1)

single-read : (t : Token) → AllRead (single t) → IsRead t
single-read (token.Characters class text) h = tt
single-read (token.Start self_closing tag) h = h.0
single-read _ h = tt

singles-read : (ts : List Token) → AllRead (singles ts) → AllRead ts
singles-read [] h = tt
singles-read (t ∷ ts) h = let parts = read-split (single t) (singles ts) h in (single-read t parts.0, singles-read ts parts.1)

pub runs-read : (es : List Emitted) (ts : List Token) → singles ts ≡ tokens_of es → AreRead es → AllRead ts
runs-read es ts same h = singles-read ts (subst AllRead (sym same) (tokens-read es h))

-- a run and its code points
abbrev letters : CharClass → List ℕ → List Token
letters class text = map (λ x. token.Characters class (x ∷ [])) text

letters-left : (class : CharClass) (text : List ℕ) (c : ControlState) → left_after handle c (letters class text) ≡ left_by (handle_all c (letters class text))
letters-left class [] c = refl
letters-left class (x ∷ xs) c = letters-left class xs (left_by (handle_piece c (token.Characters class (x ∷ []))))

letters-made : (class : CharClass) (text : List ℕ) (c : ControlState) → made_after handle c (letters class text) ≡ (handle_all c (letters class text)).outcome.edits
letters-made class [] c = refl
letters-made class (x ∷ xs) c =
    let first : Handled = handle_piece c (token.Characters class (x ∷ [])) in
    ap (λ (es : List Edit). es ++ made_after handle (left_by first) (letters class xs)) (append-nil first.outcome.edits)
    ∙ ap (λ (es : List Edit). first.outcome.edits ++ es) (letters-made class xs (left_by first))

pub left-single : (c : ControlState) (t : Token) → left_after handle c (single t) ≡ left_by (handle c t)
left-single c (token.Characters class text) = letters-left class text c
left-single c t = refl

pub made-single : (c : ControlState) (t : Token) → made_after handle c (single t) ≡ (handle c t).outcome.edits
made-single c (token.Characters class text) = letters-made class text c
made-single c t = append-nil (handle c t).outcome.edits

-- a token at once leaves a valid state
pub at_once-valid : RunsAtOnce → (t : Token) (c : ControlState) → IsRead t → AreRuns (t ∷ []) → IsValid c → IsValid (left_by (handle_at_once c t))
at_once-valid law t c read runs v = subst IsValid (law t c read runs.0 v).control (handle-valid t c read v)
