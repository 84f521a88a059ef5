use Rattle.std.specs.Prelude.{◌≤◌, ◌-◌, length, slice_index_or}
use Rattle.std.proofs.Common.{arith, ap, ◌∙◌}
use Rattle.hp_elements.specs.KnownNames.{Body}
use Rattle.hp_control.specs.States.{is_named}
use Rattle.hp_views.proofs.Ends.{last_body_at}
use Rattle.hp_views.proofs.tests_of_state.last_is_body.Goals as goal

pub returns-then-count-ge1 : goal.returns-then-count-ge1
returns-then-count-ge1 c =
    let st = c.args.stack.now in
    let some : 1 ≤ length st = omega (arith, c.len-count.ensures, c.if-count-ge1.true) in
    c.is_named.ensures
    ∙ (ap (is_named Body) c.at.ensures
    ∙ (ap (λ n. is_named Body (slice_index_or st (n - 1) c.at.result.now)) c.len-count.ensures ∙ last_body_at st c.at.result.now some))
