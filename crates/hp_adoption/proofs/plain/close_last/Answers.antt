use Rattle.std.proofs.Common.{◌≡◌, List, length, ap, ◌∙◌, arith}
use Rattle.hp_control.specs.declared.element.FormattingEntry.{FormattingEntry}
use Rattle.hp_control.specs.Faithful.{Split}
use Rattle.hp_views.specs.FieldPlans.{with_change}
use Rattle.hp_views.specs.ListPlans.{with_entries}
use Rattle.hp_views.specs.View.{split_of}
use Rattle.hp_adoption.specs.LastEntry.{without_last}
use Rattle.hp_adoption.proofs.plain.close_last.Goals as goal

pub pop_own-requires : goal.pop_own-requires
pop_own-requires g c = omega (arith, c.requires.open)

pub drop_top-requires : goal.drop_top-requires
drop_top-requires g c =
    let same : c.pop_own.new.self.change.formatting ≡ c.args.view.now.change.formatting = ap (λ (v : Split). v.change.formatting) c.pop_own.ensures.split in
    omega (arith, ap length same, c.requires.listed)

pub returns-clause-split : goal.returns-clause-split
returns-clause-split g c =
    let popped = split_of c.pop_own.new.self in
    ap (λ (l : List FormattingEntry). with_change (with_entries l popped.change) popped) c.drop_top.ensures ∙ ap without_last c.pop_own.ensures.split
