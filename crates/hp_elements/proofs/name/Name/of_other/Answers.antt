use Rattle.std.proofs.Common.{List, ℕ, ◌∙◌, ap, sym, subst, string_bytes}
use Rattle.std.specs.Str.{chars, IsUtf8}
use Rattle.hp_elements.specs.Names.{known_of}
use Rattle.hp_elements.proofs.NameLemmas.{other_chars}
use Rattle.hp_elements.proofs.TextLemmas.{short_is}
use Rattle.hp_elements.proofs.name.Name.of_other.Goals as goal

pub invariant_of-result : goal.invariant_of-result
invariant_of-result c =
    let e = short_is c.as_bytes.result.now c.args.text.now c.short_bytes.result c.as_bytes.ensures.value c.short_bytes.ensures in (
      c.if-text-le-SHORT.true,
      subst (λ (xs : List ℕ). IsUtf8 xs) (sym e) c.utf8.text,
      ap (λ (xs : List ℕ). known_of (chars xs)) e ∙ other_chars c.args.text.now c.utf8.text c.requires,
    )

pub invariant_of-result-2 : goal.invariant_of-result-2
invariant_of-result-2 c =
    ap (λ s. known_of (chars (string_bytes s))) c.in_ok-text.ensures.ok
    ∙ (ap (λ (xs : List ℕ). known_of (chars xs)) c.in_ok-from_str.ensures.ok ∙ other_chars c.args.text.now c.utf8.text c.requires)
