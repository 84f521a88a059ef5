use Rattle.std.proofs.Common.{ap, ◌∙◌, ◌≡◌, ◌+◌}
use Rattle.hp_text.specs.Page.{text_of as page_text}
use Rattle.hp_board.specs.Desk.{Desk}
use Rattle.hp_workers.proofs.Pages.{opening_is}
use Rattle.hp_workers.proofs.page.begin.Goals as goal

pub returns-clause-ready : goal.returns-clause-ready
returns-clause-ready c =
    opening_is (page_text c.args.page) c.in_ok-cuts.cuts c.args.workers c.in_ok-board.board c.in_ok-board.tallies.items c.requires.most c.in_ok-board.ensures.board c.in_ok-board.ensures.tallies

pub returns-clause-same : goal.returns-clause-same
returns-clause-same c =
    let e = c.in_ok-board.ensures.board in
    record { text = ap (λ (d : Desk). d.text) e; cuts = ap (λ (d : Desk). d.cuts) e ∙ c.in_ok-cuts.ensures; workers = ap (λ (d : Desk). d.workers) e }
