use Rattle.std.proofs.Common.{◌≡◌, Some, None, ap, sym, ◌∙◌}
use Rattle.hp_select.specs.Grammar.{combinator_at, selector_of}
use Rattle.hp_select.specs.Reading.{part_seen}
use Rattle.hp_select.proofs.Compounds.{first_steps, last_compound, next_compound, no_combinator, no_compound, with_steps}
use Rattle.hp_select.proofs.reading.read_steps.Goals as goal

pub loop-steps-init : goal.loop-steps-init
loop-steps-init c = ap (λ steps. with_steps steps (selector_of c.args.text.now)) c.new-steps.ensures ∙ first_steps (selector_of c.args.text.now)

pub loop-steps-preserved : goal.loop-steps-preserved
loop-steps-preserved c =
    let follows : combinator_at c.in_ok-compound.rest.now ≡ Some (c.in-Some.next, c.in-Some.behind.now) = sym c.combinator_at.ensures ∙ ap part_seen c.in-Some.is in
    let more = next_compound c.loop-steps.steps c.push.new.self c.loop-steps.combinator c.in-Some.next c.loop-steps.left.now c.in_ok-compound.compound c.in_ok-compound.rest.now c.in-Some.behind.now
    c.in_ok-compound.ensures (sym c.is_empty.ensures ∙ c.if-is_empty.false) c.in_ok-push.ensures.ok (sym c.is_empty-in-loop-steps.ensures ∙ c.if-is_empty-2.false) follows in
    sym more.0 ∙ c.loop-steps.invariant

pub loop-steps-smaller : goal.loop-steps-smaller
loop-steps-smaller c =
    let follows : combinator_at c.in_ok-compound.rest.now ≡ Some (c.in-Some.next, c.in-Some.behind.now) = sym c.combinator_at.ensures ∙ ap part_seen c.in-Some.is in
    let more = next_compound c.loop-steps.steps c.push.new.self c.loop-steps.combinator c.in-Some.next c.loop-steps.left.now c.in_ok-compound.compound c.in_ok-compound.rest.now c.in-Some.behind.now
    c.in_ok-compound.ensures (sym c.is_empty.ensures ∙ c.if-is_empty.false) c.in_ok-push.ensures.ok (sym c.is_empty-in-loop-steps.ensures ∙ c.if-is_empty-2.false) follows in
    more.1

pub returns-then-is_empty : goal.returns-then-is_empty
returns-then-is_empty c =
    sym (no_compound c.loop-steps.steps c.loop-steps.combinator c.loop-steps.left.now c.in_ok-compound.compound c.in_ok-compound.rest.now c.in_ok-compound.ensures (sym c.is_empty.ensures ∙ c.if-is_empty.true))
    ∙ c.loop-steps.invariant

pub returns-then-is_empty-2 : goal.returns-then-is_empty-2
returns-then-is_empty-2 c =
    sym (last_compound c.loop-steps.steps c.push.new.self c.loop-steps.combinator c.loop-steps.left.now c.in_ok-compound.compound c.in_ok-compound.rest.now c.in_ok-compound.ensures
    (sym c.is_empty.ensures ∙ c.if-is_empty.false) c.in_ok-push.ensures.ok (sym c.is_empty-in-loop-steps.ensures ∙ c.if-is_empty-2.true))
    ∙ c.loop-steps.invariant

pub returns-in_default : goal.returns-in_default
returns-in_default c =
    let none : combinator_at c.in_ok-compound.rest.now ≡ None = sym c.combinator_at.ensures ∙ ap part_seen c.in_default.is in
    sym (no_combinator c.loop-steps.steps c.loop-steps.combinator c.loop-steps.left.now c.in_ok-compound.compound c.in_ok-compound.rest.now c.in_ok-compound.ensures
    (sym c.is_empty.ensures ∙ c.if-is_empty.false) (sym c.is_empty-in-loop-steps.ensures ∙ c.if-is_empty-2.false) none)
    ∙ c.loop-steps.invariant
