use Rattle.std.proofs.Common.{◌≡◌, ◌≤◌, ◌-◌, ◌++◌, vec_len}
use Rattle.hp_make.specs.Pages.{page_of, filled}
use Rattle.hp_make.proofs.make_page.Given as goal

abbrev pub invariant-loop-piece : goal.invariant-loop-piece
invariant-loop-piece l = record {
  fits : vec_len l.page ≤ l.size;
  so_far : l.page.items ++ filled l.number (l.size - vec_len l.page) ≡ page_of l.seed l.bytes;
}

abbrev pub decreases-loop-piece : goal.decreases-loop-piece
decreases-loop-piece l = l.size - vec_len l.page
