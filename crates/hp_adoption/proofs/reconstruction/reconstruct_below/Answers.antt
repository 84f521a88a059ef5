use Rattle.std.proofs.Common.{Bool, true, false, Err, ap, refl, subst, sym}
use Rattle.hp_control.specs.declared.question.Crossing.TheVariants.{X2}
use Rattle.hp_control.specs.Faithful.{Split}
use Rattle.hp_control.specs.Plan.{Heard, Runs}
use Rattle.hp_control.specs.Running.{runs_gives, runs_then}
use Rattle.hp_views.proofs.Carrying.{carries_as, carries_then}
use Rattle.hp_views.specs.Asking.{ask_quiet}
use Rattle.hp_views.specs.View.{Carries, Sight, sight, split_of}
use Rattle.hp_adoption.specs.ReconPlans.{recon_older, renew_down_plan}
use Rattle.hp_adoption.proofs.reconstruction.reconstruct_below.Goals as goal

pub returns-then-branch : goal.returns-then-branch
returns-then-branch g c =
    let old : Sight = sight g.B.Below.heard c.args.view.now in
    let mid : Sight = record { heard = g.B.Below.heard c.older_quiet.new.below; split = split_of c.args.view.now } in
    let new : Sight = sight g.B.Below.heard c.renew_down.new.view in
    let P : Bool → Type 0 = λ b. Carries c.renew_down.result mid new (λ v. recon_older c.args.fostering v b) in
    carries_then c.renew_down.result old mid new (λ v. ask_quiet v.change.popped v.change.cuts) (recon_older c.args.fostering) c.in_ok-older_quiet.field-0
    (record { runs = c.in_ok-older_quiet.ensures; same = refl })
    (subst P (sym c.if-branch.true)
    (carries_as c.renew_down.result mid new (renew_down_plan c.args.fostering c.len-count.result) (λ v. recon_older c.args.fostering v true)
    (ap (λ n. renew_down_plan c.args.fostering n mid.split) c.len-count.ensures) c.renew_down.ensures))

pub returns-else-branch : goal.returns-else-branch
returns-else-branch g c =
    let now : Heard = g.B.Below.heard c.older_quiet.new.below in
    let v : Split = split_of c.args.view.now in
    let P : Bool → Type 0 = λ b. Runs now now (recon_older c.args.fostering v b) (Err X2) in
    let crossed : Runs now now (recon_older c.args.fostering v false) (Err X2) = record { ends = refl; noted = (runs_gives now v).noted } in
    runs_then (recon_older c.args.fostering v) c.in_ok-older_quiet.ensures (subst P (sym c.if-branch.false) crossed)
