use Rattle.hp_views.specs.View.{sight}
use Rattle.hp_views.proofs.Carrying.{carries_then}
use Rattle.hp_foreign.specs.Plans.{namespace_plan, in_namespace}
use Rattle.hp_foreign.proofs.inserts.insert_as_current.Goals as goal

pub returns : goal.returns
returns g c =
    carries_then c.insert_in.result (sight g.B.Below.heard c.args.view.now) (sight g.B.Below.heard c.current_namespace.new.view) (sight g.B.Below.heard c.insert_in.new.view)
    namespace_plan (λ v space. in_namespace c.args.fostering c.args.self_closing c.args.tag v space) c.in_ok-namespace.namespace c.in_ok-namespace.ensures c.insert_in.ensures
