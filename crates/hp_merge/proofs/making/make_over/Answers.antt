use Rattle.std.proofs.Common.{◌≡◌, ◌+◌, ◌≤◌, ◌<◌, ◌^◌, ℕ, ap, subst, sym, ◌∙◌, map, drop, length, rules}
use Rattle.hp_control.specs.Apply.{named_edit}
use Rattle.hp_control.specs.Edits.{room_of_all}
use Rattle.hp_control.specs.Nothing.{nothing}
use Rattle.hp_control.specs.Telling.{told_over}
use Rattle.hp_control.specs.Tree.{applied_all}
use Rattle.hp_merge.proofs.Made.{told_applied, told_length, told_once_all, told_room_all}
use Rattle.hp_merge.proofs.making.make_over.Goals as goal

pub apply_each-requires : goal.apply_each-requires
apply_each-requires g c =
    let older = drop c.args.above c.args.stack.now in
    let told : c.name_all.new.edits ≡ map (told_over (drop c.args.above c.args.stack.now) c.args.next) c.args.edits =
    c.name_all.ensures ∙ ap (map (told_over (drop c.args.above c.args.stack.now) c.args.next)) (c.as_mut_slice-edits.ensures.value ∙ c.into_vec-batch.ensures) in
    subst (λ (n : ℕ). n ≤ c.args.tree.now.spare) (sym (ap room_of_all told ∙ told_room_all c.edits_are_told.ensures.told_room older c.args.next c.args.edits)) c.requires.room

pub returns-clause-tree : goal.returns-clause-tree
returns-clause-tree g c =
    let older = drop c.args.above c.args.stack.now in
    let told : c.name_all.new.edits ≡ map (told_over (drop c.args.above c.args.stack.now) c.args.next) c.args.edits =
    c.name_all.ensures ∙ ap (map (told_over (drop c.args.above c.args.stack.now) c.args.next)) (c.as_mut_slice-edits.ensures.value ∙ c.into_vec-batch.ensures) in
    let counted : length c.apply_each.new.tree.branches < 2 ^ 64 = search rules in
    let once : map (named_edit nothing) c.name_all.new.edits ≡ map (told_over (drop c.args.above c.args.stack.now) c.args.next) c.args.edits =
    ap (map (named_edit nothing)) told ∙ told_once_all c.edits_are_told.ensures.told_once older c.args.next c.args.edits in
    told_applied c.edits_are_told.ensures.same older c.args.next c.args.tree.now.branches c.apply_each.new.tree.branches c.args.edits
    (c.apply_each.ensures.branches ∙ ap (applied_all c.args.tree.now.branches) once) counted

pub returns-clause-cost : goal.returns-clause-cost
returns-clause-cost g c =
    let older = drop c.args.above c.args.stack.now in
    let told : c.name_all.new.edits ≡ map (told_over (drop c.args.above c.args.stack.now) c.args.next) c.args.edits =
    c.name_all.ensures ∙ ap (map (told_over (drop c.args.above c.args.stack.now) c.args.next)) (c.as_mut_slice-edits.ensures.value ∙ c.into_vec-batch.ensures) in
    c.apply_each.ensures.cost ∙ ap (λ (n : ℕ). c.args.steps.now + n) (ap length told ∙ told_length older c.args.next c.args.edits)
