-- The first chunk that is Unclaimed.
use Rattle.std.proofs.Common.{◌≡◌, ◌+◌, true, subst}
use Rattle.hp_board.specs.Desk.{Desk, statuses}
use Rattle.hp_board.specs.Machine.{is_first, is_unclaimed, none}
use Rattle.hp_board.proofs.Nexts.{first_open, none_open}
use Rattle.hp_board.proofs.board.Board.first_free.Goals as goal

pub returns-in-Some-clause-first : goal.returns-in-Some-clause-first
returns-in-Some-clause-first c =
    subst (λ (d : Desk). is_first is_unclaimed (statuses d) (c.self.inside.done + c.in-Some.behind) ≡ true) c.self.view_is
    (first_open _ c.deref.result.now c.in-Some.behind c.self.invariant.0 c.deref.ensures.value c.in-Some.ensures.first)

pub returns-in-None-clause-none : goal.returns-in-None-clause-none
returns-in-None-clause-none c =
    subst (λ (d : Desk). none is_unclaimed (statuses d) ≡ true) c.self.view_is
    (none_open _ c.deref.result.now c.self.invariant.0 c.deref.ensures.value c.in-None.ensures.none)
