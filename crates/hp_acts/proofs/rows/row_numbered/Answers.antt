use Rattle.std.proofs.Common.{◌≡◌, rules}
use Rattle.hp_elements.specs.Rules.{acts_numbered}
use Rattle.hp_acts.specs.Rows.{rows_in}
use Rattle.hp_acts.proofs.Keeping.{numbered_keeps, numbered_later, numbered_short}
use Rattle.hp_acts.proofs.rows.row_numbered.Goals as goal

pub invariant_of-result : goal.invariant_of-result
invariant_of-result c =
    let is : c.match-part.result.0.now ≡ acts_numbered (rows_in c.args.part) c.args.number = search rules in
    record {
      keeps = numbered_keeps c.args.part c.args.number c.match-part.result.0.now is;
      later = numbered_later c.args.part c.args.number c.match-part.result.0.now is;
      short = numbered_short c.args.part c.args.number c.match-part.result.0.now is;
    }
