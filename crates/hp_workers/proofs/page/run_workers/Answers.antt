use Rattle.std.proofs.Common.{◌≡◌, ◌+◌, ◌<◌, subst, sym, ◌∙◌, arith}
use Rattle.hp_board.specs.Desk.{Desk}
use Rattle.hp_workers.specs.Turns.{IsFree}
use Rattle.hp_workers.proofs.Pages.{ends_some, main_number, none_is, popped_is, pushed_main}
use Rattle.hp_workers.proofs.Recalls.{recalled_is_free}
use Rattle.hp_workers.proofs.page.run_workers.Goals as goal

pub unreachable-requires : goal.unreachable-requires
unreachable-requires g c =
    none_is _ (c.in_default.ensures.value c.requires.main.main (omega (arith, ends_some c.args.progress.tallies.items c.requires.main, c.args.progress.tallies.ok.0)))

pub returns-clause-free : goal.returns-clause-free
returns-clause-free g c = subst (λ (d : Desk). IsFree d) (sym c.recall-taken.ensures.board) (recalled_is_free c.in-Some.main.worker c.run_threads-board.result)

pub returns-clause-main : goal.returns-clause-main
returns-clause-main g c =
    pushed_main c.push.result _ c.push.new.self.items c.recall-taken.new.tally (sym c.if-is_err.ensures.value) c.push.ensures.items
    (c.recall-taken.ensures.later.worker
    ∙ main_number c.args.progress.tallies.items c.pop.new.self.items c.in-Some.main c.requires.main
    (popped_is c.args.progress.tallies.items c.pop.new.self.items c.pop.result c.in-Some.main c.pop.ensures.items c.in-Some.is))
