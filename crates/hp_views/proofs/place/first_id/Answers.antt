use Rattle.std.specs.Prelude.{◌≤◌, ◌-◌, length, slice_index_or}
use Rattle.std.proofs.Common.{arith, ap, ◌∙◌}
use Rattle.hp_views.proofs.Ends.{first_at, first_none}
use Rattle.hp_views.proofs.place.first_id.Goals as goal

pub returns-then-count-eq0 : goal.returns-then-count-eq0
returns-then-count-eq0 c = first_none c.args.stack.now (omega (arith, c.len-count.ensures, c.if-count-eq0.true))

pub returns-else-count-eq0 : goal.returns-else-count-eq0
returns-else-count-eq0 c =
    let st = c.args.stack.now in
    let some : 1 ≤ length st = omega (arith, c.len-count.ensures, c.if-count-eq0.false) in
    ap (λ e. e.id) c.at.ensures ∙ (ap (λ n. (slice_index_or st (n - 1) c.at.result.now).id) c.len-count.ensures ∙ first_at st c.at.result.now some)
