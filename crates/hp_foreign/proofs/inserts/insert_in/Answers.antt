use Rattle.std.proofs.Common.{rules, Ok}
use Rattle.hp_foreign.specs.Plans.{pop_where_plan}
use Rattle.hp_views.specs.View.{sight, Carries}
use Rattle.hp_foreign.proofs.Inserting.{inserted, not_inserted}
use Rattle.hp_foreign.proofs.inserts.insert_in.Goals as goal

pub returns-in_err-insert : goal.returns-in_err-insert
returns-in_err-insert g c =
    not_inserted c.from_residual-in_err-insert.result c.in_err-insert.field-0.0 (sight g.B.Below.heard c.args.view.now) (sight g.B.Below.heard c.insert.new.self)
    c.args.namespace c.args.fostering c.args.self_closing c.args.tag c.in_ok-tag.tag c.from_residual-in_err-insert.ensures.1 c.in_ok-tag.ensures c.in_err-insert.ensures

pub returns-then-self_closing : goal.returns-then-self_closing
returns-then-self_closing g c =
    let mid = sight g.B.Below.heard c.insert.new.self in
    let new = sight g.B.Below.heard c.pop.new.self in
    let popped : Carries c.pop.result mid new (pop_where_plan c.args.self_closing) = search rules in
    inserted c.pop.result (sight g.B.Below.heard c.args.view.now) mid new
    c.args.namespace c.args.fostering c.args.self_closing c.args.tag c.in_ok-tag.tag c.in_ok-tag.ensures c.in_ok-insert.ensures popped

pub returns-else-self_closing : goal.returns-else-self_closing
returns-else-self_closing g c =
    let mid = sight g.B.Below.heard c.insert.new.self in
    let stays : Carries (Ok tt) mid mid (pop_where_plan c.args.self_closing) = search rules in
    inserted (Ok tt) (sight g.B.Below.heard c.args.view.now) mid mid
    c.args.namespace c.args.fostering c.args.self_closing c.args.tag c.in_ok-tag.tag c.in_ok-tag.ensures c.in_ok-insert.ensures stays
