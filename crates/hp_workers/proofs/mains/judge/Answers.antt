use Rattle.std.proofs.Common.{sym, ◌∙◌, subst, ap, ◌≡◌, ◌+◌}
use Rattle.hp_board.specs.Calls.{IsAdvance}
use Rattle.hp_board.specs.Tallies.{IsRaisedUnlessIdle}
use Rattle.hp_board.specs.declared.steps.Advance.TheVariants as advance
use Rattle.hp_workers.proofs.Going.{advanced_on, idle_is, judged_idle, not_idle}
use Rattle.hp_workers.proofs.Weights.{advanced}
use Rattle.hp_workers.proofs.mains.judge.Goals as goal

pub returns-clause-on : goal.returns-clause-on
returns-clause-on c busy =
    let a = c.in_ok-advance.advance in
    let e = c.in_ok-advance.ensures in
    advanced_on c.args.board.now c.advance_by.new.board c.args.tally.now c.advance_by.new.tally a c.requires.free c.requires.main c.requires.short (not_idle a (sym c.is_idle-idle.ensures ∙ busy)) e.page e.judged e.raised

pub returns-clause-less : goal.returns-clause-less
returns-clause-less c busy =
    let a = c.in_ok-advance.advance in
    (advanced c.args.board.now c.advance_by.new.board c.args.tally.now.worker a c.requires.free (not_idle a (sym c.is_idle-idle.ensures ∙ busy)) c.in_ok-advance.ensures.judged).0

pub returns-clause-idle : goal.returns-clause-idle
returns-clause-idle c idle =
    let a = c.in_ok-advance.advance in
    judged_idle c.args.board.now c.advance_by.new.board c.args.tally.now c.advance_by.new.tally a (idle_is a (sym c.is_idle-idle.ensures ∙ idle)) c.in_ok-advance.ensures.judged c.in_ok-advance.ensures.raised
