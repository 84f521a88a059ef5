use Rattle.std.proofs.Common.{◌≡◌, List, ℕ, ◌++◌, ◌==◌, length, sum_by, refl, ◌∙◌, ap, sym, subst, arith}
use Rattle.std.specs.Str.{chars, IsUtf8}
use Rattle.std.proofs.lemmas.Str.{chars-append, IsUtf8-append}
use Rattle.std.specs.Char.{len_utf8}
use Rattle.hp_elements.specs.Texts.{placed, IsPlaced}
use Rattle.hp_elements.proofs.TextLemmas.{byte_length}
use Rattle.hp_elements.proofs.text.Text.join.Goals as goal
use Rattle.hp_elements.proofs.text.Text.join.Goals.{in_default-via-in-Here-1, in_default-via-in-Page+in-None-1}

pub invariant_of-self-2 : goal.invariant_of-self-2
invariant_of-self-2 c =
    let held = subst IsPlaced c.in-Page.is c.self.invariant in (
      omega (arith, held.0, c.in-Some.ensures.within),
      subst (λ (xs : List ℕ). IsUtf8 xs) (sym c.in-Some.ensures.text) (IsUtf8-append _ c.as_str.result.now held.1 c.as_str.utf8),
    )

pub returns : goal.returns
returns c =
    let held = subst IsPlaced c.in-Page.is c.self.invariant in
    record {
      joined =
          ap chars c.in-Some.ensures.text
          ∙ (chars-append _ c.as_str.result.now held.1
          ∙ (ap (λ (xs : List ℕ). xs ++ chars c.as_str.result.now) (sym (ap placed c.in-Page.is) ∙ c.self.view_is) ∙ ap (λ (xs : List ℕ). c.args.self.now ++ xs) c.as_str.ensures));
      kept = tt;
      empty = λ e. refl;
      long = tt;
    }

pub returns-2 : goal.returns-2
returns-2 c =
    let same : placed c.in_default.self-inside.place ≡ c.args.self.now =
    elim c.in_default.branch [
      | in_default-via-in-Here-1 w ↦ ap (λ text. placed text.place) w.self-inside-is ∙ c.self.view_is
      | in_default-via-in-Page+in-None-1 w ↦ ap (λ text. placed text.place) w.self-inside-is ∙ (sym (ap placed w.in-Page.is) ∙ c.self.view_is)
    ] in
    record {
      joined = tt;
      kept = (refl, same);
      empty = λ e. sym (c.is_empty.ensures ∙ ap (λ (xs : List ℕ). length xs == 0) e) ∙ c.if-is_empty.false;
      long =
          let front : length c.as_str-2.result.now ≡ sum_by len_utf8 c.args.self.now = byte_length _ c.as_str-2.utf8 ∙ ap (sum_by len_utf8) (c.as_str-2.ensures ∙ same) in
          let back : length c.as_str-3.result.now ≡ sum_by len_utf8 c.args.next = byte_length _ c.as_str-3.utf8 ∙ ap (sum_by len_utf8) c.as_str-3.ensures in
          omega (arith, front, back, c.in_default-2.ensures.long);
    }
