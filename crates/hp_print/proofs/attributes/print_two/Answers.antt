use Rattle.hp_print.specs.Shown.{attribute_of}
use Rattle.hp_print.proofs.Pieces.{prints_as}
use Rattle.hp_print.proofs.Sorting.{two_are, two_kept, two_turned}
use Rattle.hp_print.proofs.attributes.print_two.Goals as goal

pub returns-then-follows : goal.returns-then-follows
returns-then-follows g c =
    prints_as _ _ _ _ _ _ c.print_both.ensures
    (two_kept c.args.depth c.args.attributes.now (attribute_of c.of-first.result) (attribute_of c.of-second.result) c.follows.result
    (two_are c.args.attributes.now c.next.new.self c.next-2.new.self c.in-Some.first.now c.in-Some-next.second.now _ _ (rw c.iter-rest.ensures at c.in-Some.ensures.steps) c.in-Some-next.ensures.steps c.requires.two c.of-first.ensures c.of-second.ensures)
    c.follows.ensures c.if-follows.true)

pub returns-else-follows : goal.returns-else-follows
returns-else-follows g c =
    prints_as _ _ _ _ _ _ c.print_both-else-follows.ensures
    (two_turned c.args.depth c.args.attributes.now (attribute_of c.of-first.result) (attribute_of c.of-second.result) c.follows.result
    (two_are c.args.attributes.now c.next.new.self c.next-2.new.self c.in-Some.first.now c.in-Some-next.second.now _ _ (rw c.iter-rest.ensures at c.in-Some.ensures.steps) c.in-Some-next.ensures.steps c.requires.two c.of-first.ensures c.of-second.ensures)
    c.follows.ensures c.if-follows.false)
