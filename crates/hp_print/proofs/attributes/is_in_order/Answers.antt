use Rattle.std.proofs.Common.{◌≡◌, ◌++◌, ◌∷◌, sym, ap, ◌∙◌}
use Rattle.hp_print.specs.Order.{comes_before}
use Rattle.hp_print.specs.Shown.{attribute_of}
use Rattle.hp_print.proofs.Ordered.{ordered, ordered_next, ordered_last, in_order_already, last}
use Rattle.hp_print.proofs.attributes.is_in_order.Goals as goal

pub loop-attribute-init : goal.loop-attribute-init
loop-attribute-init c = rw (c.into_iter-attribute-iterator.ensures.into_iter_gives, c.iter-attribute-items.ensures) (λ e. e)

pub loop-attribute-preserved : goal.loop-attribute-preserved
loop-attribute-preserved c = λ more.
    let before = c.loop-attribute.before in
    let shown = c.of-shown.result in
    let rest = c.next.new.self in
    let left : last before ++ c.loop-attribute.attribute-iterator ≡ last before ++ attribute_of shown ∷ rest =
    ap (λ xs. last before ++ xs) (c.in-Some.ensures.steps ∙ ap (λ a. a ∷ rest) (sym c.of-shown.ensures)) in
    c.loop-attribute.invariant (ap (ordered comes_before) left ∙ ordered_next before shown rest (sym c.follows.ensures ∙ c.if-not-follows.false) more)

pub returns : goal.returns
returns c = λ _.
    let before = c.loop-attribute.before in
    in_order_already c.args.attributes.now (c.loop-attribute.invariant (ap (λ xs. ordered comes_before (last before ++ xs)) c.in-None.ensures.steps.0 ∙ ordered_last before))
