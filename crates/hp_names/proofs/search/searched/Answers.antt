use Rattle.std.proofs.Common.{◌≡◌, ◌<◌, ◌-◌, ℕ, arith, ◌∙◌, sym, ap, length, take, min, Some}
use Rattle.std.proofs.lemmas.List.{length-take}
use Rattle.hp_names.specs.Order as order
use Rattle.hp_names.specs.Longest as spec
use Rattle.hp_names.specs.Table.{references}
use Rattle.hp_names.proofs.RowLemmas.{rows-none, rows-found, rows-shared, rows-shorter}
use Rattle.hp_names.proofs.search.searched.Goals as goal

pub returns-then-at-eq0 : goal.returns-then-at-eq0
returns-then-at-eq0 c =
    sym (rows-none c.args.bytes.now c.args.rows.now c.loop-left.left.now c.place-at.result c.if-at-eq0.true c.place-at.ensures.place) ∙ c.loop-left.invariant

pub returns-then-shared-name : goal.returns-then-shared-name
returns-then-shared-name c =
    let whole : order.common c.name_of-name.result.now c.loop-left.left.now ≡ length c.name_of-name.result.now = sym c.common-shared.ensures.exact ∙ c.if-shared-name.true in
    let found = rows-found c.args.bytes.now c.args.rows.now c.loop-left.left.now c.place-at.result (c.place-at.result - 1) _ c.name_of-name.result.now
    c.requires (omega arith) c.place-at.ensures.place (omega arith) c.name_of-name.ensures whole in
    ap (λ x. Some x) c.found_of.ensures ∙ sym found ∙ c.loop-left.invariant

pub loop-left-smaller : goal.loop-left-smaller
loop-left-smaller c =
    let short : order.common c.name_of-name.result.now c.loop-left.left.now < length c.loop-left.left.now =
    rows-shorter c.args.bytes.now c.args.rows.now c.loop-left.left.now c.place-at.result (c.place-at.result - 1) _ c.name_of-name.result.now
    (omega arith) c.place-at.ensures.place (omega arith) c.name_of-name.ensures (λ e. c.if-shared-name.false (c.common-shared.ensures.exact ∙ e)) in
    let kept : length (take c.common-shared.result c.loop-left.left.now) ≡ min c.common-shared.result (length c.loop-left.left.now) = length-take c.common-shared.result c.loop-left.left.now in
    let smaller : length (take c.common-shared.result c.loop-left.left.now) < length c.loop-left.left.now = omega arith in
    smaller

pub loop-left-preserved : goal.loop-left-preserved
loop-left-preserved c =
    ap (λ (n : ℕ). spec.longest (references c.args.bytes.now c.args.rows.now) (take n c.loop-left.left.now)) c.common-shared.ensures.exact
    ∙ rows-shared c.args.bytes.now c.args.rows.now c.loop-left.left.now c.place-at.result (c.place-at.result - 1) _ c.name_of-name.result.now
    c.requires (omega arith) c.place-at.ensures.place (omega arith) c.name_of-name.ensures
    ∙ c.loop-left.invariant
