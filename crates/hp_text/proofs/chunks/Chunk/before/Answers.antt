use Rattle.std.proofs.Common.{◌≡◌, ℕ, ◌-◌, List, take, drop, ap, ◌∙◌, arith}
use Rattle.std.specs.Prelude.{slice_range}
use Rattle.hp_text.proofs.chunks.Chunk.before.Goals as goal

front : (n : ℕ) (xs ys : List ℕ) → xs ≡ ys → slice_range xs 0 n ≡ take n ys
front n xs ys e =
    let all : n - 0 ≡ n = omega arith in
    ap (λ (k : ℕ). take k (drop 0 xs)) all ∙ ap (λ (zs : List ℕ). take n zs) e

pub returns-clause-value : goal.returns-clause-value
returns-clause-value c = c.as_bytes.ensures.value ∙ (c.range.ensures.value ∙ front c.args.self.now.from c.as_str.result.now _ c.as_str.ensures.value)

pub returns-clause-len : goal.returns-clause-len
returns-clause-len c = omega (arith, c.as_bytes.ensures.len, c.range.ensures.len)
