use Rattle.std.proofs.Common.{◌∙◌, sym}
use Rattle.hp_views.specs.View.{sight, split_of}
use Rattle.hp_adoption.specs.ReconPlans.{recon_below, reconstruct_plan}
use Rattle.hp_views.proofs.Carrying.{carries_as}
use Rattle.hp_adoption.proofs.Standing.{none_stale, still_first, still_runs}
use Rattle.hp_adoption.proofs.reconstruction.reconstruct.Goals as goal

pub returns-then-is_empty : goal.returns-then-is_empty
returns-then-is_empty g c =
    carries_as c.reconstruct_below.result (sight g.B.Below.heard c.args.view.now) (sight g.B.Below.heard c.reconstruct_below.new.view) (recon_below c.args.fostering) (reconstruct_plan c.args.fostering)
    (none_stale c.args.fostering (split_of c.args.view.now) (sym c.is_empty.ensures ∙ c.if-is_empty.true)) c.reconstruct_below.ensures

pub returns-then-is_still_at : goal.returns-then-is_still_at
returns-then-is_still_at g c =
    let v = split_of c.args.view.now in
    still_runs (g.B.Below.heard c.args.view.now.below) c.args.fostering v
    (still_first v.change.stack v.change.formatting c.at.result.now (sym c.is_empty.ensures ∙ c.if-is_empty.false) c.at.ensures ∙ (sym c.is_still_at.ensures ∙ c.if-is_still_at.true))
