use Rattle.std.proofs.Common.{◌≡◌, ℕ, List, ◌+◌, ◌++◌, ◌∙◌, ap, sym, subst, take, length, arith}
use Rattle.std.specs.Str.{chars, IsUtf8}
use Rattle.std.proofs.lemmas.Str.{chars-append, IsUtf8-append}
use Rattle.hp_elements.proofs.TextLemmas.{short_both}
use Rattle.hp_elements.proofs.text.both_here.Goals as goal

pub invariant_of-result : goal.invariant_of-result
invariant_of-result c =
    let e : take (length c.args.front.now + length c.args.back.now) c.put_behind-longer.result ≡ c.args.front.now ++ c.args.back.now =
    short_both c.args.front.now c.args.back.now c.as_bytes.result.now c.as_bytes-2.result.now c.short_bytes.result c.put_behind-longer.result c.as_bytes.ensures.value c.as_bytes-2.ensures.value c.short_bytes.ensures c.put_behind-longer.ensures in (
      omega arith,
      subst (λ (xs : List ℕ). IsUtf8 xs) (sym e) (IsUtf8-append c.args.front.now c.args.back.now c.utf8.front c.utf8.back),
    )

pub returns : goal.returns
returns c =
    let e : take (length c.args.front.now + length c.args.back.now) c.put_behind-longer.result ≡ c.args.front.now ++ c.args.back.now =
    short_both c.args.front.now c.args.back.now c.as_bytes.result.now c.as_bytes-2.result.now c.short_bytes.result c.put_behind-longer.result c.as_bytes.ensures.value c.as_bytes-2.ensures.value c.short_bytes.ensures c.put_behind-longer.ensures in
    record {
      both = ap chars e ∙ chars-append c.args.front.now c.args.back.now c.utf8.front;
      long = tt;
    }
