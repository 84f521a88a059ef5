use Rattle.std.proofs.Common.{ltb, [], ◌∷◌, ◌-◌, ◌<◌, ◌≤◌, ◌+◌, length, arith, rules}
use Rattle.std.proofs.lemmas.List.Sorted.{IsPartitionPoint-from_clause, IsPartitionedBy-ltb}
use Rattle.hp_store.specs.declared.part.Part.{Part}
use Rattle.hp_store.specs.Numbers.{no_counts}
use Rattle.hp_store.specs.Parts.{part_elements}
use Rattle.hp_store.specs.Whole.{part_of}
use Rattle.hp_store.proofs.Rows.{row-rises}
use Rattle.hp_store.proofs.Laying.{first_element, element-end, element-row, AreLaid-front}
use Rattle.hp_store.proofs.Standing.{found, point-turned}
use Rattle.hp_store.proofs.finding.element_part.Goals as goal

home : (c : goal.After-partition_point) → (0 < c.partition_point.result) × (((part_of c.args.parts.now c.args.last.now (c.partition_point.result - 1)).before.elements ≤ c.args.id - 1)
    × (c.args.id - 1 < (part_of c.args.parts.now c.args.last.now (c.partition_point.result - 1)).before.elements + length (part_elements (part_of c.args.parts.now c.args.last.now (c.partition_point.result - 1)))))
home c =
    let own = element-row no_counts c.args.parts.now (AreLaid-front no_counts c.args.parts.now (c.args.last.now ∷ []) c.requires.laid) in
    let parted = IsPartitionedBy-ltb first_element c.args.parts.now c.args.id (row-rises first_element part_elements 0 c.args.parts.now own) in
    let point = IsPartitionPoint-from_clause (λ (p : Part). ltb p.before.elements c.args.id) _ _ c.partition_point.ensures.partitioned parted (λ a r q k. search rules) in
    found first_element part_elements c.args.parts.now c.args.last.now (c.args.id - 1) c.partition_point.result (element-row no_counts _ c.requires.laid) own c.partition_point.ensures.bound
    (point-turned first_element c.args.parts.now c.args.id c.partition_point.result c.requires.some point) (omega (arith, c.requires.some))

pub overflow_sub-result : goal.overflow_sub-result
overflow_sub-result c = let h = home c in omega (arith, h.0)

pub returns-clause-here : goal.returns-clause-here
returns-clause-here c =
    let h = home c in
    record { from = omega (arith, h.1.0, c.requires.some); to = omega (arith, h.1.1, element-end (part_of c.args.parts.now c.args.last.now (c.partition_point.result - 1))) }
