use Rattle.std.proofs.Common.{◌≡◌, List, arith, rules, subst}
use Rattle.std.proofs.lemmas.List.{take_all}
use Rattle.hp_control.specs.declared.question.Kept.{Kept}
use Rattle.hp_control.specs.Holds.{Holds}
use Rattle.hp_control.specs.Truth.{answer_of}
use Rattle.hp_merge.proofs.Holding.{holds_more}
use Rattle.hp_merge.proofs.checking.first_false.Goals as goal

pub loop-place-preserved : goal.loop-place-preserved
loop-place-preserved g c =
    let here : answer_of c.args.control.now c.index-kept-place.result.question ≡ c.index-kept-place.result.answer = search rules in (
      holds_more c.args.control.now c.args.kept.now c.loop-place.place c.index-kept-place.result (omega arith) c.index-kept-place.is c.loop-place.invariant.0 here,
      omega (arith, c.loop-place.invariant.1, c.truth.ensures.steps),
    )

pub returns-clause-first : goal.returns-clause-first
returns-clause-first g c = subst (λ (kept : List Kept). Holds kept c.args.control.now) (take_all c.loop-place.place c.args.kept.now (omega arith)) c.loop-place.invariant.0
