use Rattle.std.proofs.Common.{◌≡◌, ℕ, List, false, nat_lt, arith, ◌∙◌, sym, ap, length}
use Rattle.std.proofs.lemmas.Bool.Decides.{nat_tests}
use Rattle.hp_names.specs.Order as order
use Rattle.hp_names.proofs.RowLemmas.{rows-grows, rows-last-grows}
use Rattle.hp_names.proofs.search.may_grow.Goals as goal

pub returns-then-at-rows : goal.returns-then-at-rows
returns-then-at-rows c =
    c.begins.ensures ∙ ap (λ (x : List ℕ). order.begins x c.args.text.now) c.name_of.ensures
    ∙ sym (rows-grows c.args.bytes.now c.args.rows.now c.args.text.now c.place-at.result _ c.requires c.place-at.ensures.place c.if-at-rows.true)

pub returns-else-at-rows : goal.returns-else-at-rows
returns-else-at-rows c =
    let test : nat_lt c.place-at.result (length c.args.rows.now) ≡ false = grind (arith, nat_tests) in
    test ∙ sym (rows-last-grows c.args.bytes.now c.args.rows.now c.args.text.now c.place-at.result c.place-at.ensures.place c.if-at-rows.false)
