use Rattle.std.proofs.Common.{ap, ◌∙◌}
use Rattle.hp_control.specs.Apply.{named_edit}
use Rattle.hp_control.specs.Nothing.{nothing}
use Rattle.hp_control.specs.Tree.{applied}
use Rattle.hp_growth.specs.Growing.{Grown, own_edit}
use Rattle.hp_growth.specs.Reaching.{reaches}
use Rattle.hp_growth.proofs.Grown.{rooted-put}
use Rattle.hp_growth.proofs.growing.Growing.put_inner.Goals as goal

pub invariant_of-self-2 : goal.invariant_of-self-2
invariant_of-self-2 c =
    let inner = ap (λ (g : Grown). reaches g.grove g.marks (own_edit c.args.edit.now)) c.self.view_is ∙ c.requires.inner in
    let told = c.tell.ensures.told ∙ c.tell.ensures.edit in
    let made = c.make.ensures.branches ∙ ap (λ t. applied t (named_edit nothing c.tell.new.edit)) c.in_ok-make_room.ensures.branches ∙ ap (applied c.self.inside.grove.branches) told in
    rooted-put c.self.inside.grove.branches c.make.new.self.branches c.self.inside.marks c.add_made.new.self c.args.edit.now c.trees_grow.ensures.count c.self.invariant inner made c.in_ok-add_made.ensures.ok
