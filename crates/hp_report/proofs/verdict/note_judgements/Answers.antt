use Rattle.std.proofs.Common.{◌≡◌, ◌∙◌, ap, length, map, reverse}
use Rattle.std.proofs.lemmas.Iterator.Adapters.{YieldsList-from_rev_slice}
use Rattle.std.proofs.lemmas.Iterator.Consumers.{YieldsList-end}
use Rattle.hp_report.specs.Noting.{first_said, noted}
use Rattle.hp_report.proofs.Verdicts.{none_said, noted_more, reverse_more, reverse_twice}
use Rattle.hp_report.proofs.verdict.note_judgements.Goals as goal

pub loop-entry-init : goal.loop-entry-init
loop-entry-init c = c.requires ∙ none_said (length c.args.verdicts.now)

pub loop-entry-preserved : goal.loop-entry-preserved
loop-entry-preserved c =
    rw (reverse_more (λ e. e.now) c.loop-entry.yielded c.in-Some.entry) (c.note.ensures ∙ ap (λ said. noted said c.in-Some.entry.now.step) c.loop-entry.invariant ∙ noted_more (length c.args.verdicts.now) c.in-Some.entry.now _)

pub returns : goal.returns
returns c =
    let source : c.into_iter-entry-iterator.result.iter.rest.now ≡ c.args.journal.now = rw (c.into_iter-entry-iterator.ensures.into_iter_gives, c.rev-entry-items.ensures.source) c.iter.ensures.rest in
    let items = YieldsList-end (YieldsList-from_rev_slice {s = c.into_iter-entry-iterator.result} c.args.journal.now source) c.loop-entry.yielded _ c.loop-entry.yielded_by _ _ c.in-None.is c.next.ensures.steps in
    c.loop-entry.invariant ∙ ap (λ seen. first_said (length c.args.verdicts.now) seen) (ap reverse items.0 ∙ reverse_twice c.args.journal.now)
