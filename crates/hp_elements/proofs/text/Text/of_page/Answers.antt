use Rattle.std.proofs.Common.{◌+◌, ◌≤◌, length, subst, sym, ap, arith}
use Rattle.std.specs.Str.{IsUtf8, IsCharBoundary}
use Rattle.std.proofs.lemmas.Str.{IsUtf8-between}
use Rattle.hp_elements.proofs.TextLemmas.{window_has, window_text}
use Rattle.hp_elements.proofs.text.Text.of_page.Goals as goal

pub invariant_of-result : goal.invariant_of-result
invariant_of-result c =
    let bytes = c.as_bytes-bytes.result.now in
    let within : c.args.to + c.min-spare.result ≤ length bytes = omega (arith, c.min-spare.ensures, c.requires.within, ap length c.as_bytes-bytes.ensures.value) in (
      window_has bytes c.args.from c.args.to c.min-spare.result c.requires.ordered within,
      subst (λ xs. IsUtf8 xs) (sym (window_text bytes c.args.from c.args.to c.min-spare.result c.requires.ordered within))
          (IsUtf8-between bytes c.args.from c.args.to c.as_bytes-bytes.ensures.utf8 c.requires.ordered
          (subst (λ xs. IsCharBoundary xs c.args.from) (sym c.as_bytes-bytes.ensures.value) c.requires.start)
          (subst (λ xs. IsCharBoundary xs c.args.to) (sym c.as_bytes-bytes.ensures.value) c.requires.end)),
    )
