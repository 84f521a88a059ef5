use Rattle.std.proofs.Common.{[], ◌++◌, refl, sym, ap, ◌∙◌, append-nil, append_assoc}
use Rattle.hp_print.specs.Print.{attribute_line, attribute_lines}
use Rattle.hp_print.proofs.Pieces.{prints_then, prints_none, prints_as}
use Rattle.hp_print.proofs.attributes.print_unsorted.Goals as goal

pub loop-attribute-init : goal.loop-attribute-init
loop-attribute-init g c = ([], prints_none _ _, rw (c.into_iter-attribute-iterator.ensures.into_iter_gives, c.iter-attribute-items.ensures) refl)

pub loop-attribute-preserved : goal.loop-attribute-preserved
loop-attribute-preserved g c =
    let i = c.loop-attribute.invariant in
    let attribute = c.in-Some.attribute.now in (
      i.0 ++ attribute_line c.args.depth attribute,
      prints_then _ _ _ _ _ _ _ _ i.1 (prints_as _ _ _ _ _ _ c.print_attribute.ensures (ap (attribute_line c.args.depth) c.of.ensures)),
      append_assoc i.0 (attribute_line c.args.depth attribute) (attribute_lines c.args.depth c.next.new.self)
          ∙ ap (λ xs. i.0 ++ attribute_lines c.args.depth xs) (sym c.in-Some.ensures.steps)
          ∙ i.2,
    )

pub returns : goal.returns
returns g c =
    let i = c.loop-attribute.invariant in
    prints_as _ _ _ _ _ _ i.1 (sym (append-nil i.0) ∙ ap (λ xs. i.0 ++ attribute_lines c.args.depth xs) (sym c.in-None.ensures.steps.0) ∙ i.2)
