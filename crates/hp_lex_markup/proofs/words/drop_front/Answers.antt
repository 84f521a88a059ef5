use Rattle.std.proofs.Common.{◌≡◌, drop, length, [], sym, ◌∙◌, ap, arith, length-drop}
use Rattle.hp_lex_markup.proofs.Spelled.{dropped_more}
use Rattle.hp_lex_markup.proofs.words.drop_front.Goals as goal

pub unreachable-requires : goal.unreachable-requires
unreachable-requires c =
    let none = c.in-None.ensures {u = tt} in
    let all : drop c.loop-turn._turn c.args.text.now ≡ [] = sym c.loop-turn.invariant ∙ none.0 in
    omega (arith, ap length all, length-drop c.loop-turn._turn c.args.text.now)

pub loop-turn-preserved : goal.loop-turn-preserved
loop-turn-preserved c =
    sym (dropped_more c.args.text.now c.take_first.new.self c.loop-turn._turn c.in-Some.field-0 (sym c.loop-turn.invariant ∙ c.in-Some.ensures))
