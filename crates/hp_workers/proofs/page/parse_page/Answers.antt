use Rattle.std.proofs.Common.{◌≡◌, ◌+◌, ◌≤◌, arith}
use Rattle.hp_workers.proofs.Counting.{borne_by_more}
use Rattle.hp_workers.proofs.page.parse_page.Goals as goal

pub returns : goal.returns
returns g c =
    let borne = borne_by_more c.min-workers.result c.args.workers c.in_ok-front.journal.items (omega (arith, c.min-workers.ensures)) c.in_ok-front.ensures.borne in
    record { parsed = record { tree = c.in_ok-tree.ensures; done = c.in_ok-front.ensures.done; fair = c.in_ok-front.ensures.fair; by = c.in_ok-front.ensures.by; borne = borne } }
