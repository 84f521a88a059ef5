use Rattle.std.proofs.Common.{◌≡◌, ◌+◌, ◌<◌, ℕ, sym, subst, rules}
use Rattle.hp_board.specs.Calls.{IsClaim, IsPostable}
use Rattle.hp_board.specs.Tallies.{IsRaised}
use Rattle.hp_workers.proofs.Going.{taken_on}
use Rattle.hp_workers.proofs.Takes.{all_claimed, all_done, not_refused, postable, taken}
use Rattle.hp_workers.proofs.mains.take.Goals as goal

pub unreachable-requires : goal.unreachable-requires
unreachable-requires c =
    c.requires.undone (all_done c.args.board.now c.kept.ensures.kept c.requires.free
    (all_claimed c.in_ok-claim.field-0 c.args.board.now c.claim.new.self c.args.tally.now c.claim.new.tally c.in_default.is (rw c.take_spent.ensures.board at c.in_ok-claim.ensures.none)) c.requires.idle)

pub unreachable-requires-in-Err : goal.unreachable-requires-in-Err
unreachable-requires-in-Err c =
    let claim = c.in-Some.claim in
    let made = c.in_ok-fragment.fragment in
    let mid = c.claim.new.self in
    let k = claim.chunk.number in
    let some : IsClaim c.args.board.now c.args.tally.now.worker claim mid × IsRaised c.args.tally.now c.claim.new.tally = search rules in
    let can = postable c.args.board.now mid c.args.tally.now.worker c.args.kind claim made some.0 c.in_ok-fragment.ensures in
    not_refused mid c.claim.new.tally.worker k made c.in-Err.field-0.cause (subst (λ (w : ℕ). IsPostable mid w k made) (sym some.1.worker) can) c.in-Err.ensures.cause

pub returns-clause-on : goal.returns-clause-on
returns-clause-on c =
    let claim = c.in-Some.claim in
    let mid = c.claim.new.self in
    let some : IsClaim c.args.board.now c.args.tally.now.worker claim mid × IsRaised c.args.tally.now c.claim.new.tally = search rules in
    taken_on c.args.board.now mid c.post.new.self c.args.tally.now c.claim.new.tally c.post.new.tally c.args.kind claim c.in_ok-fragment.fragment c.kept.ensures.kept c.requires.free c.requires.main c.requires.short
    (rw c.take_spent.ensures.board at c.in_ok-claim.ensures.page) some.0 some.1 c.in_ok-fragment.ensures c.in-Ok.ensures.page c.in-Ok.ensures.board c.in-Ok.ensures.raised

pub returns-clause-less : goal.returns-clause-less
returns-clause-less c =
    let claim = c.in-Some.claim in
    let mid = c.claim.new.self in
    let some : IsClaim c.args.board.now c.args.tally.now.worker claim mid × IsRaised c.args.tally.now c.claim.new.tally = search rules in
    (taken c.args.board.now mid c.post.new.self c.args.tally.now.worker c.claim.new.tally.worker c.args.kind claim c.in_ok-fragment.fragment c.requires.free some.0 c.in_ok-fragment.ensures c.in-Ok.ensures.board).0
