use Rattle.std.proofs.Common.{◌≡◌, ◌<◌, ◌∷◌, true, false, length, get_or, sym, ◌∙◌, add-one, rules}
use Rattle.std.specs.Prelude.{nat_le}
use Rattle.std.proofs.lemmas.Bool.{le-leb, lt-leb}
use Rattle.hp_cut.specs.Refusals.{falls}
use Rattle.hp_cut.proofs.Firsts.{first_within-here, first_within-skip}
use Rattle.hp_cut.proofs.listed.first_not_rising.Goals as goal

pub returns-then-place-before : goal.returns-then-place-before
returns-then-place-before c =
    let passes : falls c.args.places.now c.loop-index.index ≡ true = rw (← c.loop-index.invariant.before_is) (le-leb _ _ c.if-place-before.true) in
    sym (first_within-here _ _ _ c.loop-index-test.true passes) ∙ c.loop-index.invariant.first

pub loop-index-preserved : goal.loop-index-preserved
loop-index-preserved c =
    let fails : falls c.args.places.now c.loop-index.index ≡ false = rw (← c.loop-index.invariant.before_is) (lt-leb _ _ c.if-place-before.false) in
    record { before_is = rw add-one (search rules); first = sym (first_within-skip _ _ _ c.loop-index-test.true fails) ∙ c.loop-index.invariant.first }
