use Rattle.std.proofs.Common.{ap, sym, ◌+◌}
use Rattle.hp_views.specs.Asking.{ask_pointer}
use Rattle.hp_views.specs.ClosingPlans.{first_then, implied_plan}
use Rattle.hp_views.specs.FormPlans.{form_emptied, older_off_plan, pointed_plan}
use Rattle.hp_views.specs.View.{Sight, sight, split_of}
use Rattle.hp_views.proofs.Carrying.{carries_asked, carries_next}
use Rattle.hp_views.proofs.view.View.end_pointed_form.Goals as goal

pub returns-in_ok-implied-in-Here : goal.returns-in_ok-implied-in-Here
returns-in_ok-implied-in-Here g c =
    let heard = g.B.Below.heard in
    let v = c.args.self.now in
    let d = v.change.popped + c.in-Here.count in
    let emptied = form_emptied (split_of v) in
    let mid : Sight = record { heard = heard c.older_pointer.new.below; split = emptied } in
    carries_asked c.take_older_off.result (sight heard v) mid (sight heard c.take_older_off.new.self)
    (λ w. ask_pointer w.change.popped) (λ w. pointed_plan (form_emptied w)) (first_then implied_plan (older_off_plan d)) c.in_ok-pointed.pointed
    c.in_ok-pointed.ensures.learns (ap (pointed_plan emptied) (sym c.in-Here.is))
    (carries_next c.take_older_off.result mid (sight heard c.implied.new.self) (sight heard c.take_older_off.new.self)
    implied_plan (older_off_plan d) c.in_ok-implied-in-Here.ensures c.take_older_off.ensures.plan)
