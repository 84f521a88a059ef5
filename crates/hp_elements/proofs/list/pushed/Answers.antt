use Rattle.std.proofs.Common.{ap, rules}
use Rattle.hp_elements.specs.Lists.{listed}
use Rattle.hp_elements.proofs.ListLemmas.{kept, only, second}
use Rattle.hp_elements.proofs.list.pushed.Goals as goal

pub returns-in-One : goal.returns-in-One
returns-in-One g c =
    let both = second _ _ (listed c.args.items) _ _ c.two.ensures.ok c.two.ensures.err (only (ap listed c.in-One.is) (search rules) (search rules)) in
    record { ok = both.0; err = both.1; returned = c.two.ensures.returned }

pub returns-in-Many : goal.returns-in-Many
returns-in-Many g c =
    let both = kept _ _ _ _ c.push-answer.ensures.items in
    rw c.in-Many.is record { ok = both.0; err = both.1; returned = c.push-answer.ensures.value_returned }
