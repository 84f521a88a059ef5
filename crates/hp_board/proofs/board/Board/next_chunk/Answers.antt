-- The next chunk.
use Rattle.std.proofs.Common.{arith, ◌≡◌, ◌∙◌, sym, false, true}
use Rattle.hp_board.proofs.Nexts.{no_again, unclaimed_open}
use Rattle.hp_board.proofs.board.Board.next_chunk.Goals as goal

pub returns-in-Some-clause-within : goal.returns-in-Some-clause-within
returns-in-Some-clause-within c = (c.in-Some.ensures.within, unclaimed_open c.args.self.now c.in-Some.chunk c.kept.ensures.kept c.in-Some.ensures.within c.in-Some.ensures.first)

pub returns-in-Some-clause-next : goal.returns-in-Some-clause-next
returns-in-Some-clause-next c = rw (no_again c.args.self.now c.kept.ensures.kept (sym c.is_front_again.ensures ∙ c.if-is_front_again.false)) c.in-Some.ensures.first

pub returns-in-None-clause-none : goal.returns-in-None-clause-none
returns-in-None-clause-none c = record { again = no_again c.args.self.now c.kept.ensures.kept (sym c.is_front_again.ensures ∙ c.if-is_front_again.false); unclaimed = c.in-None.ensures.none }
