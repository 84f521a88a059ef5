use Rattle.std.proofs.Common.{◌≡◌, ℕ, List, ◌∷◌, ◌++◌, [], drop, length, sym, ◌∙◌, ap, arith, length-drop}
use Rattle.hp_lex_tags.proofs.NamedSteps.{step_front}
use Rattle.hp_lex_tags.proofs.named.take_front.Goals as goal

pub unreachable-requires : goal.unreachable-requires
unreachable-requires c =
    let none = c.in-None.ensures {u = tt} in
    let all : drop c.loop-turn._turn c.args.text.now ≡ [] = sym c.loop-turn.invariant.1 ∙ none.0 in
    omega (arith, ap length all, length-drop c.loop-turn._turn c.args.text.now)

pub loop-turn-preserved : goal.loop-turn-preserved
loop-turn-preserved c =
    let one = step_front c.args.text.now c.take_first.new.self c.loop-turn._turn c.in-Some.c (sym c.loop-turn.invariant.1 ∙ c.in-Some.ensures) in
    (c.in_ok-push-in-Some.ensures.ok ∙ (ap (λ (xs : List ℕ). xs ++ c.in-Some.c ∷ []) c.loop-turn.invariant.0 ∙ sym one.0), sym one.1)
