-- How far a fragment can reach, in the bytes of its text; and that over a known state nothing older is touched.
use Rattle.std.proofs.Common.{◌≡◌, ℕ, ◌+◌, List, [], ◌∷◌, ◌++◌, true, false, ◌&&◌, ◌||◌, length, take, drop, refl, ap, ◌∙◌, sym, subst, arith, length-append}
use Rattle.std.specs.Prelude.{not, sum_by}
use Rattle.std.specs.Char.{len_utf8}
use Rattle.std.specs.List.{list_any}
use Rattle.std.specs.Str.{chars, IsCharBoundary, IsUtf8}
use Rattle.std.proofs.lemmas.Bool.{and_parts, le-ltb}
use Rattle.std.proofs.lemmas.List.{length-take-le, take-append-drop}
use Rattle.std.proofs.lemmas.List.Sums.{sum_by-cons}
use Rattle.std.proofs.lemmas.Str.{chars-append, encodes-append, encodes-chars, IsCharBoundary-at_seam, IsUtf8-take, length-encode, scalars-chars}
use lib.Utf8.{encode, encodes, scalar, scalars}
use Rattle.hp_elements.specs.declared.token.Token.{Token}
use Rattle.hp_names.specs.References.{Reference}
use Rattle.hp_tokens.proofs.Characters.{bytes-length}
use Rattle.hp_tokens.specs.Advancing.{tokens_of}
use Rattle.hp_tokens.specs.Moves.{Move, Rules, asks_cdata, asks_last_tag, ends, makes, move, needs_more}
use Rattle.hp_control.specs.declared.edit.Edit.{Edit}
use Rattle.hp_control.specs.declared.question.Crossing.{Crossing}
use Rattle.hp_control.specs.declared.question.Crossing.TheVariants.{X6, X7}
use Rattle.hp_control.specs.Nothing.{nothing}
use Rattle.hp_control.specs.Outcome.{Touch, is_older, is_older_by}
use Rattle.hp_control.specs.States.{ControlState, IsValid}
use Rattle.hp_model.specs.Handling.{handle}
use Rattle.hp_model.specs.Runs.{Goes, here as stays, onward as steps_on, Parser, step}
use Rattle.hp_model.specs.Turns.{left_by}
use Rattle.hp_runs.specs.Touching.{GoesOwn, here, onward, is_untouched, untouched}
use Rattle.hp_pieces.specs.First.{IsFirst}
use Rattle.hp_pieces.proofs.Inside.{first_parts}
use Rattle.hp_pieces.proofs.Own.{first_before}

encodes-length : (cs : List ℕ) → sum_by len_utf8 cs ≡ length (encodes cs)
encodes-length [] = refl
encodes-length (c ∷ cs) =
    sum_by-cons len_utf8 c cs
    ∙ (ap (λ (n : ℕ). len_utf8 c + n) (encodes-length cs) ∙ (ap (λ (n : ℕ). n + length (encodes cs)) (sym (length-encode c)) ∙ sym (length-append (encode c) (encodes cs))))

scalars-behind : (a b : List ℕ) → scalars (a ++ b) ≡ true → scalars b ≡ true
scalars-behind [] b h = h
scalars-behind (x ∷ a) b h = scalars-behind a b (and_parts (scalar x) (scalars (a ++ b)) h).1

-- a place between two code points is one between their bytes
boundary_at : (bytes a b : List ℕ) → IsUtf8 bytes → chars bytes ≡ a ++ b → IsCharBoundary bytes (sum_by len_utf8 a)
boundary_at bytes a b u e =
    let seam : bytes ≡ encodes a ++ encodes b = sym (encodes-chars bytes u) ∙ (ap encodes e ∙ encodes-append a b) in
    let fine : scalars b ≡ true = scalars-behind a b (subst (λ (cs : List ℕ). scalars cs ≡ true) e (scalars-chars bytes u)) in
    subst (IsCharBoundary bytes) (sym (encodes-length a)) (IsCharBoundary-at_seam bytes (encodes a) (encodes b) seam (b, (fine, refl)))

pub first_in_bytes : (names : List Reference) (s : ControlState) (bytes : List ℕ) (n : ℕ) → IsUtf8 bytes → IsValid s → IsFirst names s (chars bytes) n
    → IsCharBoundary bytes n × IsFirst names s (chars (take n bytes)) n
first_in_bytes names s bytes n u v f = (boundary, first_before names s (chars (take n bytes)) (chars (drop n bytes)) n (subst (λ (cs : List ℕ). IsFirst names s cs n) front f) count)
  where
    boundary : IsCharBoundary bytes n
    boundary = let p = first_parts names s (chars bytes) n v f in subst (IsCharBoundary bytes) (sym p.3) (boundary_at bytes p.0 p.1 u p.2)

    utf8 : IsUtf8 (take n bytes)
    utf8 = IsUtf8-take bytes n u boundary

    front : chars bytes ≡ chars (take n bytes) ++ chars (drop n bytes)
    front = ap chars (sym (take-append-drop n bytes)) ∙ chars-append (take n bytes) (drop n bytes) utf8

    count : n ≡ sum_by len_utf8 (chars (take n bytes))
    count = sym (length-take-le n bytes boundary.0) ∙ bytes-length (take n bytes) utf8

-- over a known state nothing is older
not_older : (x : Crossing) (what : ℕ) → is_older_by x nothing what ≡ false
not_older X6 what = refl
not_older X7 what = refl
not_older _ what = le-ltb what 0 (omega arith)

none_older : (touched : List Touch) → list_any (is_older nothing) touched ≡ false
none_older [] = refl
none_older (t ∷ ts) = ap (λ b. b || list_any (is_older nothing) ts) (not_older t.crossing t.what) ∙ none_older ts

untouched-nothing : (c : ControlState) (ts : List Token) → untouched nothing c ts ≡ true
untouched-nothing c [] = refl
untouched-nothing c (t ∷ ts) =
    ap (λ b. not b && untouched nothing (left_by (handle c t)) ts) (none_older (handle c t).outcome.touched) ∙ untouched-nothing (left_by (handle c t)) ts

move-untouched : (c : ControlState) (m : Move) → is_untouched nothing c m ≡ true
move-untouched c needs_more = refl
move-untouched c (asks_cdata f h) = refl
move-untouched c asks_last_tag = refl
move-untouched c (makes l es) = untouched-nothing c (tokens_of es)
move-untouched c (ends es) = refl

pub own_nothing : (rules : Rules) (p q : Parser) (es : List Edit) → Goes (step rules) p es q → GoesOwn rules nothing p es q
own_nothing rules p q es g = go g
  where
    go : {p q : Parser} {es : List Edit} → Goes (step rules) p es q → GoesOwn rules nothing p es q
    go stays = here
    go {p} (steps_on e g) = onward e (move-untouched p.control (move rules p.lexing)) (go g)
