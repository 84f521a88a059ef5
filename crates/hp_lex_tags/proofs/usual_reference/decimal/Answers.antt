use Rattle.std.proofs.Common.{arith, sym, ◌∙◌}
use Rattle.hp_lex_tags.proofs.Decimals.{digit_on, digits_end, some_count}
use Rattle.hp_lex_tags.proofs.usual_reference.decimal.Goals as goal

pub digits-preserved : goal.digits-preserved
digits-preserved c =
    digit_on c.args.text.now c.digits.count c.digits.value c.with_digit-value.result c.digits.invariant (omega (arith, c.digits-test.true))
    (sym c.is_ascii_digit.ensures.value ∙ c.if-is_ascii_digit.true) c.with_digit-value.ensures

pub returns : goal.returns
returns c =
    digits_end c.args.text.now c.digits.count c.digits.value c.digits.invariant (some_count c.digits.count c.if-count-eq0.false)
    (omega (arith, c.if-count-text.false)) c.if-text-count-ne59.false
