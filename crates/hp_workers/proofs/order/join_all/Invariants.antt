use Rattle.std.specs.Prelude.{slice_index}
use Rattle.hp_text.specs.Page.{text_of as page_text}
use Rattle.hp_cut.specs.Places.{ends}
use Rattle.hp_workers.specs.Joining.{StandsAt}
use Rattle.hp_workers.proofs.order.join_all.Given as goal

abbrev pub invariant-loop-number : goal.invariant-loop-number
invariant-loop-number l = StandsAt (page_text l.page) (slice_index (ends l.cuts) l.number) l.front
