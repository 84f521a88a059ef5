use Rattle.std.proofs.Common.{◌≡◌, ◌+◌, ℕ, List, ap, length, subst, rules, arith}
use Rattle.hp_text.specs.Page.{text_of as page_text}
use Rattle.hp_board.specs.Calls.{IsBoardOf}
use Rattle.hp_board.specs.declared.tally.Tally.{Tally}
use Rattle.hp_workers.proofs.Pages.{length_fresh, own_text}
use Rattle.hp_workers.proofs.page.work_all.Goals as goal

pub returns-then-is_of-clause-ready : goal.returns-then-is_of-clause-ready
returns-then-is_of-clause-ready g c =
    let worked = c.in_ok-worked.worked in
    let slice : c.as_slice.result.now ≡ worked.tallies.items = search rules in
    let o = subst (λ (ts : List Tally). IsBoardOf worked.board (page_text c.args.page) c.args.cuts.now ts) slice (c.is_of.ensures.0 c.if-is_of.true) in
    record { of = own_text worked.board (page_text c.args.page) c.args.cuts.now worked.tallies.items o; free = c.in_ok-worked.ensures.free; main = c.in_ok-worked.ensures.main }

pub returns-then-is_of-clause-same : goal.returns-then-is_of-clause-same
returns-then-is_of-clause-same g c =
    let worked = c.in_ok-worked.worked in
    let progress = c.in_ok-progress.progress in
    let slice : c.as_slice.result.now ≡ worked.tallies.items = search rules in
    let o = subst (λ (ts : List Tally). IsBoardOf worked.board (page_text c.args.page) c.args.cuts.now ts) slice (c.is_of.ensures.0 c.if-is_of.true) in
    let count : worked.board.workers ≡ c.args.workers =
    omega (arith, o.numbered.count, c.in_ok-worked.ensures.count, ap length c.in_ok-progress.ensures.main, length_fresh c.args.workers c.requires.most, worked.tallies.ok.0, progress.tallies.ok.0) in
    record { text = o.text; cuts = o.cuts; workers = count }
