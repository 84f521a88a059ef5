use Rattle.std.specs.Prelude.{◌≤◌, ◌-◌, length, slice_index_or}
use Rattle.std.proofs.Common.{arith, ap, ◌∙◌}
use Rattle.hp_views.proofs.Ends.{second_at, second_none}
use Rattle.hp_views.proofs.place.second_id.Goals as goal

pub returns-then-count-lt2 : goal.returns-then-count-lt2
returns-then-count-lt2 c = second_none c.args.stack.now (omega (arith, c.len-count.ensures, c.if-count-lt2.true))

pub returns-else-count-lt2 : goal.returns-else-count-lt2
returns-else-count-lt2 c =
    let st = c.args.stack.now in
    let some : 2 ≤ length st = omega (arith, c.len-count.ensures, c.if-count-lt2.false) in
    ap (λ e. e.id) c.at.ensures ∙ (ap (λ n. (slice_index_or st (n - 2) c.at.result.now).id) c.len-count.ensures ∙ second_at st c.at.result.now some)
