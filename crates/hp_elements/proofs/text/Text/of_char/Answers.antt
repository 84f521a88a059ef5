use Rattle.std.proofs.Common.{ℕ, List, ◌<◌, ◌∙◌, ap, sym, subst, arith}
use Rattle.std.proofs.lemmas.Bool.{ltb-true}
use Rattle.std.specs.Str.{chars, IsUtf8}
use Rattle.std.proofs.lemmas.Str.{encode_ascii, IsUtf8-encode}
use Rattle.hp_elements.proofs.TextLemmas.{short_is, chars-encode}
use Rattle.hp_elements.proofs.text.Text.of_char.Goals as goal

pub invariant_of-result : goal.invariant_of-result
invariant_of-result c =
    let small : c.args.c < 128 = ltb-true c.args.c 128 (sym c.is_ascii.ensures ∙ c.if-is_ascii.true) in (
      omega arith,
      subst (λ (xs : List ℕ). IsUtf8 xs) (encode_ascii c.args.c small) (IsUtf8-encode c.args.c c.ranges.c.0),
    )

pub returns-then-is_ascii : goal.returns-then-is_ascii
returns-then-is_ascii c =
    let small : c.args.c < 128 = ltb-true c.args.c 128 (sym c.is_ascii.ensures ∙ c.if-is_ascii.true) in
    ap chars (sym (encode_ascii c.args.c small)) ∙ chars-encode c.args.c c.ranges.c.0

pub returns : goal.returns
returns c =
    ap chars (short_is c.as_bytes.result.now c.encode_utf8-text.result.now c.short_bytes.result c.as_bytes.ensures.value c.short_bytes.ensures)
    ∙ (ap chars c.encode_utf8-text.ensures.value ∙ chars-encode c.args.c c.ranges.c.0)
