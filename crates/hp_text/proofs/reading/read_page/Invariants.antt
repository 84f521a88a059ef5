use Rattle.std.proofs.Common.{◌≡◌, ◌+◌, ◌-◌, ◌<◌, ◌≤◌, length, vec_len}
use Rattle.std.specs.Io.KnownBytes.{prepend_known}
use Rattle.hp_text.specs.declared.reading.TheConstants.{PAGE_LIMIT}
use Rattle.hp_text.proofs.reading.read_page.Given as goal

abbrev pub invariant-loop-page : goal.invariant-loop-page
invariant-loop-page g l = record {
  given : g.S.Source.left l.initial.source ≡ prepend_known l.page.items (g.S.Source.left l.source);
  within_limit : vec_len l.page ≤ PAGE_LIMIT;
  room : 0 < length l.room;
  faults : g.S.Source.faults l.source ≡ g.S.Source.faults l.initial.source;
  calls : g.S.Source.calls l.source ≤ g.S.Source.calls l.initial.source + vec_len l.page;
}

abbrev pub decreases-loop-page : goal.decreases-loop-page
decreases-loop-page g l = PAGE_LIMIT - vec_len l.page
