use Rattle.std.proofs.Common.{rules, of_calls}
use Rattle.std.proofs.lemmas.Fn.{always_returns_same}
use Rattle.hp_names.specs.Order as order
use Rattle.hp_names.specs.Table.{name_at}
use Rattle.hp_names.proofs.RowLemmas.{rows-parted, rows-stands}
use Rattle.hp_names.proofs.search.place.Goals as goal

pub returns-clause-place : goal.returns-clause-place
returns-clause-place c =
    let point = c.partition_point.ensures.partitioned (λ r. order.is_upto (name_at c.args.bytes.now r) c.args.text.now)
    (always_returns_same _ _ _ (λ a r f k. search (rules, of_calls)))
    (λ i j d l m up. rows-parted c.args.bytes.now c.args.rows.now c.args.text.now i j d c.requires l m up) in
    rows-stands c.args.bytes.now c.args.rows.now c.args.text.now c.partition_point.result c.partition_point.ensures.bound point
