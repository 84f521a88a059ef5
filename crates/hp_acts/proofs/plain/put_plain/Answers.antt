use Rattle.std.proofs.Common.{Ok, Err, subst, sym}
use Rattle.hp_control.specs.Plan.{Runs}
use Rattle.hp_elements.specs.declared.token.Token.{Token}
use Rattle.hp_views.specs.View.{Carries, sight, split_of}
use Rattle.hp_acts.specs.Plain.{run_plan}
use Rattle.hp_acts.proofs.PlainRuns.{no_run, plain_put, plain_refused}
use Rattle.hp_acts.proofs.plain.put_plain.Goals as goal

pub returns-in-Ok : goal.returns-in-Ok
returns-in-Ok g c =
    let P : Token → Type 0 = λ t. Runs (g.B.Below.heard c.args.view.now.below) (g.B.Below.heard c.put_characters.new.view.below) (run_plan t (split_of c.args.view.now)) (Ok (split_of c.put_characters.new.view)) in
    plain_put (g.B.Below.heard c.args.view.now.below) (g.B.Below.heard c.put_characters.new.view.below) c.args.token (split_of c.args.view.now) (split_of c.put_characters.new.view) c.requires (subst P (sym c.in-Characters.is) c.in-Ok.ensures)

pub returns-in-Characters : goal.returns-in-Characters
returns-in-Characters g c =
    let P : Token → Type 0 = λ t. Carries (Err c.in-Err.refused) (sight g.B.Below.heard c.args.view.now) (sight g.B.Below.heard c.put_characters.new.view) (run_plan t) in
    plain_refused c.in-Err.refused (sight g.B.Below.heard c.args.view.now) (sight g.B.Below.heard c.put_characters.new.view) c.args.token c.requires (subst P (sym c.in-Characters.is) c.in-Err.ensures)

pub returns : goal.returns
returns g c = absurd (no_run c.args.token c.in_default.not-Characters c.requires.run)
