use Rattle.std.proofs.Common.{sym, ap, ◌∙◌, arith}
use Rattle.std.proofs.lemmas.List.{drop_all}
use Rattle.hp_growth.specs.Marking.{name_first}
use Rattle.hp_growth.proofs.Grown.{leads-first, leads-last, leads-named}
use Rattle.hp_growth.proofs.growing.Growing.put_each.Goals as goal

pub loop-edit-init : goal.loop-edit-init
loop-edit-init c = record { leads = leads-first _ _; first = λ all. all }

pub loop-edit-preserved : goal.loop-edit-preserved
loop-edit-preserved c =
    leads-named _ _ c.loop-edit.edits c.loop-edit.edit-index c.edit-item.result _ c.loop-edit.self c.put.new.self c.loop-edit.invariant (omega arith) (sym c.names_first.ensures ∙ c.if-not-names_first.false) c.in_ok-put.ensures.ok

pub returns : goal.returns
returns c =
    let none = drop_all c.loop-edit.edit-index c.loop-edit.edits (omega arith) in
    record { ok = leads-last _ _ _ _ c.loop-edit.invariant.leads none; first = c.loop-edit.invariant.first (ap name_first none) }
