use Rattle.std.proofs.Common.{map, ap, arith}
use Rattle.std.proofs.lemmas.List.{drop_all}
use Rattle.hp_growth.specs.Telling.{own_named}
use Rattle.hp_growth.proofs.Grown.{leads-first, leads-last, leads-told}
use Rattle.hp_growth.proofs.growing.Growing.put_each_told.Goals as goal

pub loop-edit-init : goal.loop-edit-init
loop-edit-init c = leads-first _ _

pub loop-edit-preserved : goal.loop-edit-preserved
loop-edit-preserved c =
    leads-told (own_named c.args.next) _ _ c.loop-edit.edits c.loop-edit.edit-index c.edit-item.result _ _ c.loop-edit.self c.put.new.self c.loop-edit.invariant (omega arith) c.tell_own.ensures c.in_ok-put.ensures.ok

pub returns : goal.returns
returns c = leads-last _ _ _ _ c.loop-edit.invariant (ap (map (own_named c.args.next)) (drop_all c.loop-edit.edit-index c.loop-edit.edits (omega arith)))
