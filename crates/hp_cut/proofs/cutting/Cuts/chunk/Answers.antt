use Rattle.std.proofs.Common.{◌≡◌, ◌+◌, ◌≤◌, ◌<◌, length, get_or, arith}
use Rattle.std.specs.Prelude.{slice_index}
use Rattle.hp_text.specs.Page.{text_of}
use Rattle.hp_cut.specs.Places.{ends}
use Rattle.std.specs.Str.{IsUtf8}
use Rattle.hp_cut.proofs.Ends.{end-boundary, end-rises}
use Rattle.hp_cut.proofs.cutting.Cuts.chunk.Goals as goal

pub invariant_of-result : goal.invariant_of-result
invariant_of-result c =
    let cuts = c.args.self.now in
    let text = text_of c.args.page in
    let utf8 : IsUtf8 text = rw (← c.text-text.ensures.value) c.text-text.ensures.utf8 in
    record {
      in_order = rw (c.end_at-from.ensures.place, c.end_at-to.ensures.place) (end-rises text cuts c.args.number c.end_at-from.ensures.lawful (omega arith));
      starts_at_code_point = rw c.end_at-from.ensures.place (end-boundary text cuts c.args.number utf8 c.requires.cuts_of_page (omega arith));
      ends_at_code_point = rw c.end_at-to.ensures.place (end-boundary text cuts (c.args.number + 1) utf8 c.requires.cuts_of_page (omega arith));
    }

pub returns-clause-from : goal.returns-clause-from
returns-clause-from c = c.end_at-from.ensures.place
