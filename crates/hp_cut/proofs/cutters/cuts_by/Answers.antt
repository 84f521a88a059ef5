use Rattle.std.proofs.Common.{◌≡◌, ◌<◌, refl, arith}
use Rattle.hp_cut.specs.Targets.{places_of}
use Rattle.hp_cut.proofs.Takes.{places-lawful, places-starts}
use Rattle.hp_cut.proofs.cutters.cuts_by.Goals as goal

pub from_lawful-requires : goal.from_lawful-requires
from_lawful-requires c =
    let is : c.in_ok-places.places.items ≡ places_of c.args.cutter c.text-text.result.now c.args.size = cc (c.in_ok-places.ensures) in
    rw is (places-lawful c.args.cutter c.text-text.result.now c.args.size (omega arith))

pub returns-clause-of_page : goal.returns-clause-of_page
returns-clause-of_page c =
    let is : c.in_ok-places.places.items ≡ places_of c.args.cutter c.text-text.result.now c.args.size = cc (c.in_ok-places.ensures) in
    rw c.from_lawful.ensures (record {
      same_length = rw c.text-text.ensures.value refl;
      at_starts = rw (is, ← c.text-text.ensures.value) (places-starts c.args.cutter c.text-text.result.now c.args.size);
    })
