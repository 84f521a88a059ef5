use Rattle.std.proofs.Common.{◌≡◌, ◌+◌, [], ◌∷◌, ◌++◌, length, ap, ◌∙◌, arith, length-append}
use Rattle.hp_control.proofs.Setting.{moved, none_left, front_of, back_of}
use Rattle.hp_control.proofs.open_elements.OpenElements.lift.Goals as goal

pub unreachable-requires : goal.unreachable-requires
unreachable-requires c =
    let n = none_left c.loop-turn.top c.loop-turn.self c.args.self.now c.loop-turn.invariant.0 c.in-None.ensures.0 in
    omega (arith, n, c.loop-turn.invariant.1, c.loop-turn-test.true, c.requires)

pub loop-turn-smaller : goal.loop-turn-smaller
loop-turn-smaller c = omega (arith, c.loop-turn-test.true)

pub loop-turn-preserved : goal.loop-turn-preserved
loop-turn-preserved c =
    let e = c.in_ok-push-in-Some.ensures.ok in
    let m = moved c.loop-turn.top c.loop-turn.self c.pop.new.self c.args.self.now c.in-Some.item c.loop-turn.invariant.0 c.in-Some.ensures in
    let l = length-append c.loop-turn.top (c.in-Some.item ∷ []) in
    (ap (λ l. l ++ c.pop.new.self) e ∙ m, ap length e ∙ (l ∙ ap (λ n. n + 1) c.loop-turn.invariant.1))

pub returns-clause-top : goal.returns-clause-top
returns-clause-top c =
    let n : length c.loop-turn.top ≡ c.args.count = omega (arith, c.loop-turn.invariant.1, c.loop-turn-test.false, c.loop-turn.auto._turn-end) in
    front_of c.loop-turn.top c.loop-turn.self c.args.self.now c.args.count c.loop-turn.invariant.0 n

pub returns-clause-rest : goal.returns-clause-rest
returns-clause-rest c =
    let n : length c.loop-turn.top ≡ c.args.count = omega (arith, c.loop-turn.invariant.1, c.loop-turn-test.false, c.loop-turn.auto._turn-end) in
    back_of c.loop-turn.top c.loop-turn.self c.args.self.now c.args.count c.loop-turn.invariant.0 n
