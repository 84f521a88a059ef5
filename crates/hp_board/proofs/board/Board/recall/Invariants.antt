-- The claims of the chunks so far are taken back.
use Rattle.std.proofs.Common.{◌≡◌, ◌+◌, ◌-◌, ◌≤◌, ◌^◌, min, take}
use Rattle.std.specs.Prelude.{count_by}
use Rattle.hp_board.specs.Calls.{is_claimed, recalled}
use Rattle.hp_board.specs.Desk.{SamePage}
use Rattle.hp_board.proofs.board.Board.recall.Given as goal

abbrev pub invariant-loop-chunk : goal.invariant-loop-chunk
invariant-loop-chunk l = record {
  page : SamePage l.fn.self l.self;
  board : l.self ≡ recalled l.fn.tally.worker l.fn.self l.chunk;
  count : l.count ≡ count_by is_claimed (take l.chunk l.fn.self.slots);
  worker : l.tally.worker ≡ l.fn.tally.worker;
  entries : l.fn.tally.entries ≤ l.tally.entries;
  raised : l.tally.entries ≡ min (l.fn.tally.entries + l.count) (2 ^ 64 - 1);
}
