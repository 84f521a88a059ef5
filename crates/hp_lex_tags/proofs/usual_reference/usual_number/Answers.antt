use Rattle.std.proofs.Common.{ℕ, ◌≡◌, ◌+◌, ◌∷◌, false, ap, ◌∙◌, sym, subst, arith, length, length-append}
use Rattle.std.specs.Prelude.{◌==◌}
use Rattle.std.specs.Str.{chars}
use Rattle.hp_names.specs.Numeric.{numeric}
use Rattle.hp_lex_tags.specs.Decided.{IsReference}
use Rattle.hp_lex_tags.proofs.UsualReference.{unequal}
use Rattle.hp_lex_tags.proofs.Decimals.{decimal_reference, decimal_chars}
use Rattle.hp_lex_tags.proofs.usual_reference.usual_number.Goals as goal

pub overflow_add-result : goal.overflow_add-result
overflow_add-result c = grind (arith, ap length c.in_ok-value.ensures.spelled, length-append {A = ℕ})

pub returns : goal.returns
returns c =
    let is : c.numeric-stands_for.result ≡ numeric c.in_ok-value.value = c.numeric-stands_for.ensures ∙ ap numeric c.from.ensures in
    let S : ℕ → Type 0 = λ x. (x == 0) ≡ false in
    let R : ℕ → Type 0 = λ x. IsReference c.args.names.now (35 ∷ chars c.args.text.now) x (c.in_ok-value.count + 2) in
    subst R (sym is)
    (decimal_reference c.args.names.now (chars c.args.text.now) c.in_ok-value.value c.in_ok-value.count (decimal_chars c.args.text.now c.in_ok-value.value c.in_ok-value.count c.requires.utf8 c.in_ok-value.ensures)
    (subst S is (unequal c.numeric-stands_for.result c.if-stands_for-eq0.false)))
