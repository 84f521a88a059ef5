use Rattle.std.proofs.Common.{◌≡◌, ℕ, List, ap, ◌∙◌, sym, subst}
use Rattle.std.specs.List.{list_all}
use Rattle.std.specs.Str.{chars, IsUtf8}
use Rattle.std.specs.Str.Iter.{chars_rest}
use Rattle.std.specs.declared.str.Chars.{Chars}
use Rattle.hp_control.specs.Composed.{is_white}
use Rattle.hp_adoption.proofs.Whites.{white_there, other_there, utf8_there, all_there}
use Rattle.hp_adoption.proofs.pending.are_white.Goals as goal

pub loop-c-init : goal.loop-c-init
loop-c-init c =
    let rest : chars_rest c.into_iter-c-iterator.result ≡ c.as_str.result.now =
    ap (λ (s : Chars). chars_rest s) c.into_iter-c-iterator.ensures.into_iter_gives ∙ c.chars-c-items.ensures.rest in
    let P : List ℕ → Type 0 = λ xs. IsUtf8 xs in (
      ap (λ (xs : List ℕ). list_all is_white (chars xs)) rest ∙ ap (λ (xs : List ℕ). list_all is_white xs) c.as_str.ensures,
      subst P (sym rest) c.as_str.utf8,
    )

pub returns-then-not-is_white : goal.returns-then-not-is_white
returns-then-not-is_white c =
    other_there (chars_rest c.loop-c.c-iterator) (chars_rest c.next.new.self) c.in-Some.c c.loop-c.invariant.1 c.in-Some.ensures.steps.0
    (sym c.is_white.ensures ∙ c.if-not-is_white.true)
    ∙ c.loop-c.invariant.0

pub loop-c-preserved : goal.loop-c-preserved
loop-c-preserved c = (
  white_there (chars_rest c.loop-c.c-iterator) (chars_rest c.next.new.self) c.in-Some.c c.loop-c.invariant.1 c.in-Some.ensures.steps.0
      (sym c.is_white.ensures ∙ c.if-not-is_white.false)
      ∙ c.loop-c.invariant.0,
  utf8_there (chars_rest c.loop-c.c-iterator) (chars_rest c.next.new.self) c.in-Some.c c.loop-c.invariant.1 c.in-Some.ensures.steps.0,
)

pub returns : goal.returns
returns c = all_there (chars_rest c.loop-c.c-iterator) c.in-None.ensures.steps.0.0 ∙ c.loop-c.invariant.0
