use Rattle.std.proofs.Common.{◌≡◌, ◌≤◌, length, sym, refl, arith}
use Rattle.hp_text.specs.Page.{text_of}
use Rattle.hp_cut.specs.Places.{AreLawful}
use Rattle.hp_cut.proofs.Listing.{listing-lawful, listing-starts}
use Rattle.hp_cut.proofs.listed.cuts_listed.Goals as goal

pub from_lawful-requires : goal.from_lawful-requires
from_lawful-requires c =
    let few : length c.args.places.now ≤ 4095 = omega arith in
    rw c.in-Ok.ensures.items (listing-lawful _ _ (sym c.in_default.ensures) (sym c.in_default-first_past_end.ensures) few)

pub returns-in-Ok-clause-of_page : goal.returns-in-Ok-clause-of_page
returns-in-Ok-clause-of_page c =
    rw c.from_lawful.ensures (record {
      same_length = rw c.text-text.ensures.value refl;
      at_starts = rw (c.in-Ok.ensures.items, ← c.text-text.ensures.value) (listing-starts _ _ (sym c.in_default-first_not_a_start.ensures));
    })
