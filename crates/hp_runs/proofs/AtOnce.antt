-- Tokens that are handled at once touch what their code points touch, handled one by one; and texts and white space as one run.
use Rattle.std.proofs.Common.{◌≡◌, ℕ, List, [], ◌∷◌, ◌++◌, map, Bool, true, false, not, refl, ap, ◌∙◌, sym, append-nil, arith}
use Rattle.std.specs.Prelude.{◌&&◌, ◌||◌}
use Rattle.std.specs.List.{list_all, list_any}
use Rattle.std.proofs.lemmas.Bool.{and_parts}
use Rattle.std.proofs.lemmas.List.Folds.{list_any-append}
use Rattle.hp_elements.specs.Tokens.{class_of}
use Rattle.hp_elements.specs.declared.token.CharClass.{CharClass}
use Rattle.hp_elements.specs.declared.token.CharClass.TheVariants.{White}
use Rattle.hp_elements.specs.declared.token.Token.{Token}
use Rattle.hp_elements.specs.declared.token.Token.TheVariants as token
use Rattle.hp_tokens.specs.Advancing.{AreRuns, single, singles}
use Rattle.hp_tokens.specs.Rows.{character, is_blank}
use Rattle.hp_control.specs.declared.edit.Edit.{Edit}
use Rattle.hp_control.specs.Outcome.{Touch, is_older, touches_any}
use Rattle.hp_control.specs.States.{ControlState, IsValid}
use Rattle.hp_model.proofs.AtOnce.{characters_at_once, runs_at_once, same_by, same_then}
use Rattle.hp_model.proofs.Handled.{handle-valid}
use Rattle.hp_model.specs.AtOnce.{LeaveSame, handle_at_once}
use Rattle.hp_model.specs.Handling.{handle, handle_all, handle_piece}
use Rattle.hp_model.specs.Texts.{each_at_once}
use Rattle.hp_model.specs.Turns.{Handled, joined, left_by}
use Rattle.hp_runs.specs.Coming.{untouched_at_once}
use Rattle.hp_runs.specs.Handling.{left_after, made_after}
use Rattle.hp_runs.specs.Tokens.{AllRead}
use Rattle.hp_runs.specs.Touching.{untouched}
use Rattle.hp_runs.proofs.Own.{untouched-append}
use Rattle.hp_runs.proofs.Together.{at_once-valid, left-single}

neither : (a b : Bool) → not (a || b) ≡ (not a && not b)
neither true b = refl
neither false b = refl

and-true : (b : Bool) → (b && true) ≡ b
and-true true = refl
and-true false = refl

-- a run and its code points
abbrev letters : CharClass → List ℕ → List Token
letters class text = map (λ x. token.Characters class (x ∷ [])) text

untouched-letters : (s : ControlState) (class : CharClass) (text : List ℕ) (c : ControlState) → untouched s c (letters class text) ≡ not (touches_any s (handle_all c (letters class text)).outcome)
untouched-letters s class [] c = refl
untouched-letters s class (x ∷ xs) c =
    let first : Handled = handle_piece c (token.Characters class (x ∷ [])) in
    let rest : Handled = handle_all (left_by first) (letters class xs) in
    ap (λ (ts : List Touch). not (list_any (is_older s) ts) && untouched s (left_by first) (letters class xs)) (append-nil first.outcome.touched)
    ∙ (ap (λ b. not (list_any (is_older s) first.outcome.touched) && b) (untouched-letters s class xs (left_by first))
    ∙ sym (ap not (list_any-append (is_older s) first.outcome.touched rest.outcome.touched) ∙ neither (list_any (is_older s) first.outcome.touched) (list_any (is_older s) rest.outcome.touched)))

pub untouched-single : (s c : ControlState) (t : Token) → untouched s c (single t) ≡ not (touches_any s (handle c t).outcome)
untouched-single s c (token.Characters class text) = untouched-letters s class text c
untouched-single s c t = and-true (not (touches_any s (handle c t).outcome))

pub untouched-singles : (s : ControlState) (ts : List Token) (c : ControlState) → AllRead ts → AreRuns ts → IsValid c → untouched s c (singles ts) ≡ untouched_at_once s c ts
untouched-singles s [] c read runs v = refl
untouched-singles s (t ∷ ts) c read runs v =
    let same : LeaveSame (handle c t) (handle_at_once c t) = runs_at_once t c read.0 runs.0 v in
    untouched-append s c (single t) (singles ts)
    ∙ (ap (λ b. b && untouched s (left_after handle c (single t)) (singles ts)) (untouched-single s c t)
    ∙ (ap (λ (d : ControlState). not (touches_any s (handle c t).outcome) && untouched s d (singles ts)) (left-single c t)
    ∙ (ap (λ b. not b && untouched s (left_by (handle c t)) (singles ts)) (same.touched (is_older s))
    ∙ (ap (λ b. not (touches_any s (handle_at_once c t).outcome) && b) (untouched-singles s ts (left_by (handle c t)) read.1 runs.1 (handle-valid t c read.0 v))
    ∙ ap (λ (d : ControlState). not (touches_any s (handle_at_once c t).outcome) && untouched_at_once s d ts) same.control))))

-- a valid state is left
pub after-valid : (ts : List Token) (c : ControlState) → AllRead ts → AreRuns ts → IsValid c → IsValid (left_after handle_at_once c ts)
after-valid [] c read runs v = v
after-valid (t ∷ ts) c read runs v = after-valid ts (left_by (handle_at_once c t)) read.1 runs.1 (at_once-valid runs_at_once t c read.0 (runs.0, tt) v)

-- tokens one by one, told in parts
pub each-left : (c : ControlState) (ts : List Token) → left_by (each_at_once c ts) ≡ left_after handle_at_once c ts
each-left c [] = refl
each-left c (t ∷ ts) = each-left (left_by (handle_at_once c t)) ts

pub each-made : (c : ControlState) (ts : List Token) → (each_at_once c ts).outcome.edits ≡ made_after handle_at_once c ts
each-made c [] = refl
each-made c (t ∷ ts) = ap (λ (es : List Edit). (handle_at_once c t).outcome.edits ++ es) (each-made (left_by (handle_at_once c t)) ts)

pub each-untouched : (s c : ControlState) (ts : List Token) → untouched_at_once s c ts ≡ not (touches_any s (each_at_once c ts).outcome)
each-untouched s c [] = refl
each-untouched s c (t ∷ ts) =
    let first : Handled = handle_at_once c t in
    let rest : Handled = each_at_once (left_by first) ts in
    ap (λ b. not (touches_any s first.outcome) && b) (each-untouched s (left_by first) ts)
    ∙ sym (ap not (list_any-append (is_older s) first.outcome.touched rest.outcome.touched) ∙ neither (touches_any s first.outcome) (touches_any s rest.outcome))

-- code points are tokens of their own
pub characters-single : (text : List ℕ) → singles (map character text) ≡ map character text
characters-single [] = refl
characters-single (x ∷ text) = ap (λ (ts : List Token). character x ∷ ts) (characters-single text)

-- white space is in a class of its own
pub blank_white : (c : ℕ) → is_blank c ≡ true → class_of c ≡ White
blank_white c h = grind arith

each_handled : (text : List ℕ) (c : ControlState) → list_all is_blank text ≡ true → each_at_once c (map character text) ≡ handle c (token.Characters White text)
each_handled [] c h = refl
each_handled (x ∷ xs) c h =
    let both = and_parts (is_blank x) (list_all is_blank xs) h in
    let one : character x ≡ token.Characters White (x ∷ []) = ap (λ class. token.Characters class (x ∷ [])) (blank_white x both.0) in
    let first : Handled = handle_piece c (token.Characters White (x ∷ [])) in
    ap (λ (t : Token). joined (handle_at_once c t) (each_at_once (left_by (handle_at_once c t)) (map character xs))) one
    ∙ ap (λ (h : Handled). joined first h) (each_handled xs (left_by first) both.1)

-- white space as one token is its code points, one by one
pub white_same : (x : ℕ) (xs : List ℕ) (c : ControlState) → IsValid c → list_all is_blank (x ∷ xs) ≡ true → LeaveSame (each_at_once c (map character (x ∷ xs))) (handle_at_once c (token.Characters White (x ∷ xs)))
white_same x xs c v h =
    same_then (each_at_once c (map character (x ∷ xs))) (handle c (token.Characters White (x ∷ xs))) (handle_at_once c (token.Characters White (x ∷ xs)))
    (same_by (each_at_once c (map character (x ∷ xs))) (handle c (token.Characters White (x ∷ xs))) (each_handled (x ∷ xs) c h)) (characters_at_once White x xs c v)
