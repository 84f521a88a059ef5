-- The run over a page without markup, and its tree.
use Rattle.std.proofs.Common.{◌≡◌, ℕ, List, [], ◌∷◌, ◌++◌, Bool, true, false, cond, map, refl, ap, ◌∙◌, sym, subst, append-nil, append_assoc, ◌⊎◌, inl, inr}
use Rattle.std.specs.Prelude.{◌==◌, ◌||◌}
use Rattle.hp_elements.specs.declared.token.CharClass.{CharClass}
use Rattle.hp_elements.specs.declared.token.CharClass.TheVariants.{White, Nul, Other}
use Rattle.hp_elements.specs.declared.token.Token.{Token}
use Rattle.hp_elements.specs.declared.token.Token.TheVariants.{EndOfInput}
use Rattle.hp_names.specs.References.{Reference}
use Rattle.hp_tokens.specs.Moves.{Lexing}
use Rattle.hp_tokens.specs.Rows.{character}
use Rattle.hp_control.specs.declared.edit.Edit.{Edit}
use Rattle.hp_control.specs.States.{ControlState, start}
use Rattle.hp_control.specs.Tree.{Text, Tree, applied_all, document}
use Rattle.hp_model.specs.Handling.{handle}
use Rattle.hp_model.specs.Turns.{left_by}
use Rattle.hp_runs.specs.Pages.{IsTreeOf}
use Rattle.hp_runs.specs.Handling.{AreQuiet, left_after, made_after}
use Rattle.hp_runs.specs.Standing.{HasRead}
use Rattle.hp_runs.proofs.Ending.{ended-on}
use Rattle.hp_runs.proofs.Standing.{piece-on, quiet-on, start-on}
use Rattle.hp_runs.proofs.Together.{applied-append}
use Rattle.hp_runs.specs.Plain.{has_markup, is_white, one_text, plain, with_body, without_leading_white}
use Rattle.hp_runs.proofs.Lexed.{ArePlain, PlainLeads, at_data, plain-ends, plain-leads, plain-waits}
use Rattle.hp_runs.proofs.PlainHandled.{Leaves, letter, in_body, white-first, white-drops, other-first, other-makes, white-next, other-next, white-adds, other-adds, ends-quietly, ends-empty, body-ends_quietly, body-ends}

-- the bytes of a page without markup
none_of : (a b c d e : Bool) → ((a || b || c || d) || e) ≡ false → (a ≡ false) × (b ≡ false) × (c ≡ false) × (d ≡ false) × (e ≡ false)
none_of false false false false false h = (refl, refl, refl, refl, refl)
none_of true b c d e h = cc
none_of false true c d e h = cc
none_of false false true d e h = cc
none_of false false false true e h = cc
none_of false false false false true h = cc

pub are-plain : (text : List ℕ) → has_markup text ≡ false → ArePlain text
are-plain [] h = tt
are-plain (c ∷ cs) h = let parts = none_of (c == 60) (c == 38) (c == 13) (c == 0) (has_markup cs) h in (parts.0, parts.1, parts.2, parts.3, are-plain cs parts.4)

-- such a code point is white, or another
class-white : (w n : Bool) → w ≡ true → cond w White (cond n Nul Other) ≡ White
class-white true n h = refl
class-white false n h = cc

class-other : (w n : Bool) → w ≡ false → n ≡ false → cond w White (cond n Nul Other) ≡ Other
class-other false false h k = refl
class-other true n h k = cc
class-other false true h k = cc

white-letter : (c : ℕ) → is_white c ≡ true → character c ≡ letter White c
white-letter c h = ap (λ (k : CharClass). letter k c) (class-white (is_white c) (c == 0) h)

other-letter : (c : ℕ) → is_white c ≡ false → (c == 0) ≡ false → character c ≡ letter Other c
other-letter c h k = ap (λ (x : CharClass). letter x c) (class-other (is_white c) (c == 0) h k)

either : (b : Bool) → (b ≡ true) ⊎ (b ≡ false)
either true = inl refl
either false = inr refl

-- one code point in the body
record Adds (c : ℕ) : Type 0 where
  leaves : Leaves in_body in_body (character c)
  adds : (text : List ℕ) → applied_all (with_body (Text text ∷ [])) (handle in_body (character c)).outcome.edits ≡ with_body (Text (text ++ c ∷ []) ∷ [])

adds-one : (c : ℕ) → (c == 0) ≡ false → Adds c
adds-one c nul = by (either (is_white c))
  where
    by : (is_white c ≡ true) ⊎ (is_white c ≡ false) → Adds c
    by (inl w) = record {
      leaves = subst (Leaves in_body in_body) (sym (white-letter c w)) (white-next c);
      adds = λ text. ap (λ (t : Token). applied_all (with_body (Text text ∷ [])) (handle in_body t).outcome.edits) (white-letter c w) ∙ white-adds c text;
    }
    by (inr o) = record {
      leaves = subst (Leaves in_body in_body) (sym (other-letter c o nul)) (other-next c);
      adds = λ text. ap (λ (t : Token). applied_all (with_body (Text text ∷ [])) (handle in_body t).outcome.edits) (other-letter c o nul) ∙ other-adds c text;
    }

-- a text in the body
record Fills (text : List ℕ) : Type 0 where
  quiet : AreQuiet handle in_body (map character text)
  left : left_after handle in_body (map character text) ≡ in_body
  adds : (before : List ℕ) → applied_all (with_body (Text before ∷ [])) (made_after handle in_body (map character text)) ≡ with_body (Text (before ++ text) ∷ [])

fills : (text : List ℕ) → ArePlain text → Fills text
fills [] h = record { quiet = tt; left = refl; adds = λ before. ap (λ (t : List ℕ). with_body (Text t ∷ [])) (sym (append-nil before)) }
fills (c ∷ cs) h =
    let one : Adds c = adds-one c h.3 in
    let rest : Fills cs = fills cs h.4 in
    record {
      quiet = (one.leaves.quiet, subst (λ (s : ControlState). AreQuiet handle s (map character cs)) (sym one.leaves.left) rest.quiet);
      left = ap (λ (s : ControlState). left_after handle s (map character cs)) one.leaves.left ∙ rest.left;
      adds = λ before.
          applied-append (with_body (Text before ∷ [])) (handle in_body (character c)).outcome.edits (made_after handle (left_by (handle in_body (character c))) (map character cs))
          ∙ (ap (λ (t : Tree). applied_all t (made_after handle (left_by (handle in_body (character c))) (map character cs))) (one.adds before)
          ∙ (ap (λ (s : ControlState). applied_all (with_body (Text (before ++ c ∷ []) ∷ [])) (made_after handle s (map character cs))) one.leaves.left
          ∙ (rest.adds (before ++ c ∷ []) ∙ ap (λ (t : List ℕ). with_body (Text t ∷ [])) (append_assoc before (c ∷ []) cs))));
    }

-- a whole text, and the end of input
record Makes (text : List ℕ) : Type 0 where
  quiet : AreQuiet handle start (map character text)
  ends : AreQuiet handle (left_after handle start (map character text)) (EndOfInput ∷ [])
  tree : applied_all document (made_after handle start (map character text) ++ made_after handle (left_after handle start (map character text)) (EndOfInput ∷ [])) ≡ plain text

from-body : (c : ℕ) (cs : List ℕ) → Leaves start in_body (character c) → applied_all document (handle start (character c)).outcome.edits ≡ with_body (Text (c ∷ []) ∷ []) → Fills cs
    → with_body (Text (c ∷ cs) ∷ []) ≡ plain (c ∷ cs) → Makes (c ∷ cs)
from-body c cs first made rest is = record {
  quiet = (first.quiet, subst (λ (s : ControlState). AreQuiet handle s (map character cs)) (sym first.left) rest.quiet);
  ends = subst (λ (s : ControlState). AreQuiet handle s (EndOfInput ∷ [])) (sym after) (body-ends_quietly, tt);
  tree =
      applied-append document (first_edits ++ made_after handle (left_by (handle start (character c))) (map character cs)) (made_after handle (left_after handle start (map character (c ∷ cs))) (EndOfInput ∷ []))
      ∙ (ap (λ (t : Tree). applied_all t (made_after handle (left_after handle start (map character (c ∷ cs))) (EndOfInput ∷ []))) filled
      ∙ (ap (λ (s : ControlState). applied_all (with_body (Text (c ∷ cs) ∷ [])) (made_after handle s (EndOfInput ∷ []))) after
      ∙ (ap (applied_all (with_body (Text (c ∷ cs) ∷ []))) (append-nil (handle in_body EndOfInput).outcome.edits)
      ∙ (body-ends (Text (c ∷ cs) ∷ []) ∙ is))));
}
  where
    first_edits : List Edit
    first_edits = (handle start (character c)).outcome.edits

    after : left_after handle start (map character (c ∷ cs)) ≡ in_body
    after = ap (λ (s : ControlState). left_after handle s (map character cs)) first.left ∙ rest.left

    filled : applied_all document (first_edits ++ made_after handle (left_by (handle start (character c))) (map character cs)) ≡ with_body (Text (c ∷ cs) ∷ [])
    filled =
        applied-append document first_edits (made_after handle (left_by (handle start (character c))) (map character cs))
        ∙ (ap (λ (t : Tree). applied_all t (made_after handle (left_by (handle start (character c))) (map character cs))) made
        ∙ (ap (λ (s : ControlState). applied_all (with_body (Text (c ∷ []) ∷ [])) (made_after handle s (map character cs))) first.left ∙ rest.adds (c ∷ [])))

from-start : (c : ℕ) (cs : List ℕ) → Leaves start start (character c) → (handle start (character c)).outcome.edits ≡ [] → Makes cs → plain cs ≡ plain (c ∷ cs) → Makes (c ∷ cs)
from-start c cs first none rest is = record {
  quiet = (first.quiet, subst (λ (s : ControlState). AreQuiet handle s (map character cs)) (sym first.left) rest.quiet);
  ends = subst (λ (s : ControlState). AreQuiet handle (left_after handle s (map character cs)) (EndOfInput ∷ [])) (sym first.left) rest.ends;
  tree =
      ap (λ (es : List Edit). applied_all document ((es ++ made_after handle (left_by (handle start (character c))) (map character cs)) ++ made_after handle (left_after handle start (map character (c ∷ cs))) (EndOfInput ∷ []))) none
      ∙ (ap (λ (s : ControlState). applied_all document (made_after handle s (map character cs) ++ made_after handle (left_after handle s (map character cs)) (EndOfInput ∷ []))) first.left
      ∙ (rest.tree ∙ is));
}

either-plain : (b : Bool) (xs ys : List ℕ) → b ≡ true → xs ≡ cond b xs ys
either-plain true xs ys h = refl
either-plain false xs ys h = cc

else-plain : (b : Bool) (xs ys : List ℕ) → b ≡ false → ys ≡ cond b xs ys
else-plain false xs ys h = refl
else-plain true xs ys h = cc

white-makes : (c : ℕ) (cs : List ℕ) → is_white c ≡ true → Makes cs → Makes (c ∷ cs)
white-makes c cs w rest =
    from-start c cs (subst (Leaves start start) (sym (white-letter c w)) (white-first c)) (ap (λ (t : Token). (handle start t).outcome.edits) (white-letter c w) ∙ white-drops c) rest
    (ap (λ (t : List ℕ). with_body (one_text t)) (either-plain (is_white c) (without_leading_white cs) (c ∷ cs) w))

other-makes-all : (c : ℕ) (cs : List ℕ) → is_white c ≡ false → (c == 0) ≡ false → ArePlain cs → Makes (c ∷ cs)
other-makes-all c cs o nul h =
    from-body c cs (subst (Leaves start in_body) (sym (other-letter c o nul)) (other-first c))
    (ap (λ (t : Token). applied_all document (handle start t).outcome.edits) (other-letter c o nul) ∙ other-makes c) (fills cs h)
    (ap (λ (t : List ℕ). with_body (one_text t)) (else-plain (is_white c) (without_leading_white cs) (c ∷ cs) o))

makes-either : (c : ℕ) (cs : List ℕ) → (is_white c ≡ true) ⊎ (is_white c ≡ false) → ArePlain (c ∷ cs) → Makes cs → Makes (c ∷ cs)
makes-either c cs (inl w) h rest = white-makes c cs w rest
makes-either c cs (inr o) h rest = other-makes-all c cs o h.3 h.4

makes : (text : List ℕ) → ArePlain text → Makes text
makes [] h = record {
  quiet = tt;
  ends = (ends-quietly, tt);
  tree = ap (applied_all document) (append-nil (handle start EndOfInput).outcome.edits) ∙ ends-empty;
}
makes (c ∷ cs) h = makes-either c cs (either (is_white c)) h (makes cs h.4)

pub plain-tree : (names : List Reference) (page : List ℕ) → has_markup page ≡ false → IsTreeOf names page (plain page)
plain-tree names page none =
    ended-on names page there there (left_after handle start (map character page)) (made_after handle start (map character page)) (EndOfInput ∷ []) read
    (plain-waits names way.place_after way.rested_after) (plain-ends names way.place_after way.rested_after) (record { machine = refl; unread = refl }) all.ends (plain page) (sym all.tree)
  where
    h : ArePlain page
    h = are-plain page none

    way : PlainLeads names 0 0 page
    way = plain-leads names 0 0 page h

    there : Lexing
    there = at_data way.place_after way.rested_after []

    all : Makes page
    all = makes page h

    before : HasRead names page (at_data 0 0 []) (page ++ []) start []
    before = subst (λ (u : List ℕ). HasRead names page (at_data 0 0 []) u start []) (sym (append-nil page)) (start-on names page (at_data 0 0 []) refl refl)

    begun : HasRead names page (at_data 0 0 page) [] start []
    begun = piece-on names page (at_data 0 0 []) page [] start [] before

    read : HasRead names page there [] (left_after handle start (map character page)) (made_after handle start (map character page))
    read =
        subst (λ (ts : List Token). HasRead names page there [] (left_after handle start ts) (made_after handle start ts)) way.tokens
        (quiet-on names page (at_data 0 0 page) there [] start [] way.es begun way.leads (subst (AreQuiet handle start) (sym way.tokens) all.quiet))
