use Rattle.std.proofs.Common.{leb, [], ◌∷◌, ◌-◌, ◌<◌, ◌≤◌, ◌+◌, length, arith, rules}
use Rattle.std.proofs.lemmas.List.Sorted.{IsPartitionPoint-from_clause, IsPartitionedBy-leb}
use Rattle.hp_store.specs.declared.part.Part.{Part}
use Rattle.hp_store.specs.Numbers.{no_counts}
use Rattle.hp_store.specs.Parts.{part_leaves}
use Rattle.hp_store.specs.Whole.{part_of}
use Rattle.hp_store.proofs.Rows.{row-rises}
use Rattle.hp_store.proofs.Laying.{first_leaf, leaf-end, leaf-row, AreLaid-front}
use Rattle.hp_store.proofs.Standing.{found}
use Rattle.hp_store.proofs.finding.leaf_part.Goals as goal

home : (c : goal.After-partition_point) → (0 < c.partition_point.result) × (((part_of c.args.parts.now c.args.last.now (c.partition_point.result - 1)).before.leaves ≤ c.args.number)
    × (c.args.number < (part_of c.args.parts.now c.args.last.now (c.partition_point.result - 1)).before.leaves + length (part_leaves (part_of c.args.parts.now c.args.last.now (c.partition_point.result - 1)))))
home c =
    let own = leaf-row no_counts c.args.parts.now (AreLaid-front no_counts c.args.parts.now (c.args.last.now ∷ []) c.requires.laid) in
    let parted = IsPartitionedBy-leb first_leaf c.args.parts.now c.args.number (row-rises first_leaf part_leaves 0 c.args.parts.now own) in
    let point = IsPartitionPoint-from_clause (λ (p : Part). leb p.before.leaves c.args.number) _ _ c.partition_point.ensures.partitioned parted (λ a r q k. search rules) in
    found first_leaf part_leaves c.args.parts.now c.args.last.now c.args.number c.partition_point.result (leaf-row no_counts _ c.requires.laid) own c.partition_point.ensures.bound point (omega arith)

pub overflow_sub-result : goal.overflow_sub-result
overflow_sub-result c = let h = home c in omega (arith, h.0)

pub returns-clause-here : goal.returns-clause-here
returns-clause-here c =
    let h = home c in
    record { from = h.1.0; to = omega (arith, h.1.1, leaf-end (part_of c.args.parts.now c.args.last.now (c.partition_point.result - 1))) }
