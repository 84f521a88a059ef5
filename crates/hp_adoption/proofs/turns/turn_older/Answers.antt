use Rattle.std.proofs.Common.{◌≡◌, ◌∙◌, Bool, Ok, Err, ap, length, sym, take, arith}
use Rattle.std.specs.Prelude.{if◌then◌else◌}
use Rattle.std.proofs.lemmas.List.{take_all}
use Rattle.hp_control.specs.declared.change.Refusal.TheVariants.{Crossed}
use Rattle.hp_control.specs.declared.question.Crossing.TheVariants.{X1}
use Rattle.hp_control.specs.Adoption.{hides}
use Rattle.hp_control.specs.Plan.{crosses}
use Rattle.hp_views.specs.View.{Sight, sight, split_of}
use Rattle.hp_adoption.specs.AdoptPlans.{kind_turn, stays, walk_turn}
use Rattle.hp_adoption.proofs.TurnSteps.{turn_crosses, turn_stays, turns_after}
use Rattle.hp_adoption.proofs.turns.turn_older.Goals as goal

pub returns-in-Absent : goal.returns-in-Absent
returns-in-Absent g c =
    let mid : Sight = record { heard = g.B.Below.heard c.older_listed.new.below; split = split_of c.args.view.now } in
    turns_after (c.walk.result) (g.B.Below.heard c.args.view.now.below) mid (sight g.B.Below.heard c.walk.new.view) c.args.name.now c.in_ok-copy.field-0 c.in_ok-standing.standing (walk_turn c.args.name.now) c.in_ok-copy.ensures c.in_ok-standing.ensures
    (sym (ap (kind_turn c.args.name.now mid.split) c.in-Absent.is)) (c.walk.ensures)

pub returns-in-Closed : goal.returns-in-Closed
returns-in-Closed g c =
    let mid : Sight = record { heard = g.B.Below.heard c.older_listed.new.below; split = split_of c.args.view.now } in
    turns_after (Err (Crossed X1)) (g.B.Below.heard c.args.view.now.below) mid (mid) c.args.name.now c.in_ok-copy.field-0 c.in_ok-standing.standing (λ v. crosses X1) c.in_ok-copy.ensures c.in_ok-standing.ensures
    (sym (ap (kind_turn c.args.name.now mid.split) c.in-Closed.is)) (turn_crosses mid.heard mid.split)

pub returns-in-Hidden : goal.returns-in-Hidden
returns-in-Hidden g c =
    let mid : Sight = record { heard = g.B.Below.heard c.older_listed.new.below; split = split_of c.args.view.now } in
    turns_after (Ok _) (g.B.Below.heard c.args.view.now.below) mid (mid) c.args.name.now c.in_ok-copy.field-0 c.in_ok-standing.standing stays c.in_ok-copy.ensures c.in_ok-standing.ensures
    (sym (ap (kind_turn c.args.name.now mid.split) c.in-Hidden.is)) (turn_stays mid.heard mid.split)

pub returns-then-hides : goal.returns-then-hides
returns-then-hides g c =
    let mid : Sight = record { heard = g.B.Below.heard c.older_listed.new.below; split = split_of c.args.view.now } in
    let stack = mid.split.change.stack in
    let seen : c.hides.result ≡ hides stack = c.hides.ensures ∙ ap hides (ap (λ n. take n stack) c.len.ensures ∙ take_all (length stack) stack (omega arith)) in
    turns_after (Ok _) (g.B.Below.heard c.args.view.now.below) mid (mid) c.args.name.now c.in_ok-copy.field-0 c.in_ok-standing.standing stays c.in_ok-copy.ensures c.in_ok-standing.ensures
    (sym (ap (kind_turn c.args.name.now mid.split) c.in-InScope.is ∙ ap (λ (b : Bool). if b then stays mid.split else crosses X1) (sym seen ∙ c.if-hides.true))) (turn_stays mid.heard mid.split)

pub returns-else-hides : goal.returns-else-hides
returns-else-hides g c =
    let mid : Sight = record { heard = g.B.Below.heard c.older_listed.new.below; split = split_of c.args.view.now } in
    let stack = mid.split.change.stack in
    let seen : c.hides.result ≡ hides stack = c.hides.ensures ∙ ap hides (ap (λ n. take n stack) c.len.ensures ∙ take_all (length stack) stack (omega arith)) in
    turns_after (Err (Crossed X1)) (g.B.Below.heard c.args.view.now.below) mid (mid) c.args.name.now c.in_ok-copy.field-0 c.in_ok-standing.standing (λ v. crosses X1) c.in_ok-copy.ensures c.in_ok-standing.ensures
    (sym (ap (kind_turn c.args.name.now mid.split) c.in-InScope.is ∙ ap (λ (b : Bool). if b then stays mid.split else crosses X1) (sym seen ∙ c.if-hides.false))) (turn_crosses mid.heard mid.split)
