use Rattle.std.proofs.Common.{ap, ◌∙◌}
use Rattle.hp_pieces.specs.declared.exact_parts.States.{States}
use Rattle.hp_merge.proofs.Behind.{exact_joined}
use Rattle.hp_merge.proofs.front.Front.join_exact.Goals as goal

pub returns-in-Ok-clause-ok : goal.returns-in-Ok-clause-ok
returns-in-Ok-clause-ok g c =
    c.keep_spent.ensures
    ∙ exact_joined c.args.self.now c.args.exact c.self.inside.control c.swap.new.x c.self.inside.tree.branches c.join_exact.new.tree.branches c.requires.holds c.self.view_is
    (c.swap.ensures.x_after ∙ (ap (λ (b : States). b.exit) c.deref_mut.ensures.value ∙ c.in-Ok.ensures.exit)) c.in-Ok.ensures.tree
