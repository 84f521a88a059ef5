use Rattle.std.proofs.Common.{◌<◌, ap, ◌∙◌, rules}
use Rattle.hp_control.specs.States.{ControlState}
use Rattle.hp_merge.proofs.Behind.{fore, guess_joined}
use Rattle.hp_merge.proofs.front.Front.join_guess.Goals as goal

pub returns-in-Ok-clause-ok : goal.returns-in-Ok-clause-ok
returns-in-Ok-clause-ok g c =
    let covers : 0 < c.args.guess.covered = search rules in
    c.keep_spent.ensures
    ∙ guess_joined c.args.self.now c.args.guess c.replace-control.result c.in-Ok.control c.self.inside.tree.branches c.joined_to.new.tree.branches covers
    (ap (λ (s : ControlState). fore s c.self.inside.tree.branches) c.replace-control.ensures.value ∙ c.self.view_is) c.in-Ok.ensures.control c.in-Ok.ensures.tree
