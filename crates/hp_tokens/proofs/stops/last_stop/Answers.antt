use Rattle.std.proofs.Common.{◌≡◌, ℕ, [], ◌∷◌, get_or, true, arith}
use borrow.Author.Count.{below_more}
use Rattle.hp_tokens.specs.Plain.{none_of}
use Rattle.hp_tokens.proofs.Blocks.{unlike_all}
use Rattle.hp_tokens.proofs.stops.last_stop.Goals as goal

pub loop-at-preserved : goal.loop-at-preserved
loop-at-preserved c =
    let P : ℕ → Type 0 = λ k. none_of (0 ∷ 13 ∷ c.args.a ∷ c.args.b ∷ []) (get_or c.args.bytes.now k 0) ≡ true in
    (omega arith, below_more P c.loop-at.at c.loop-at.invariant.1 (unlike_all c.args.a c.args.b _ c.if-byte-eq0.false c.if-byte-eq13.false c.if-byte-a.false c.if-byte-b.false))
