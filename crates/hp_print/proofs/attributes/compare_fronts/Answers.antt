use Rattle.std.proofs.Common.{ℕ, List, sym, ap, ◌∙◌}
use Rattle.std.specs.Str.{chars}
use Rattle.hp_print.specs.Order.{by_units}
use Rattle.hp_print.proofs.Fronts.{fronts_tell}
use Rattle.hp_print.proofs.attributes.compare_fronts.Goals as goal

pub returns-then-first-second : goal.returns-then-first-second
returns-then-first-second c =
    let ours = c.as_bytes-ours.ensures in
    let theirs = c.as_bytes-theirs.ensures in
    c.cmp.ensures
    ∙ fronts_tell c.as_bytes-ours.result.now c.as_bytes-theirs.result.now ours.utf8 theirs.utf8
    (sym c.is_empty.ensures ∙ c.if-is_empty.false) (sym c.is_empty-else-is_empty.ensures ∙ c.if-is_empty-2.false)
    c.if-first-lt128.true c.if-second-lt128.true c.if-first-second.true
    ∙ ap (λ (text : List ℕ). by_units (chars text) (chars c.as_bytes-theirs.result.now)) ours.value
    ∙ ap (λ (text : List ℕ). by_units (chars c.args.name.now) (chars text)) theirs.value
