use Rattle.std.proofs.Common.{◌++◌, ◌∙◌, ap}
use Rattle.hp_elements.specs.declared.tag.Tag.{Tag}
use Rattle.hp_adoption.specs.Turning.{closing}
use Rattle.hp_adoption.proofs.Climbing.{four_put}
use Rattle.hp_adoption.proofs.Spots.{ok_as}
use Rattle.hp_adoption.proofs.adopting.close.Goals as goal

pub returns : goal.returns
returns c =
    ok_as _ _ _ c.push-4.result c.push-4.ensures.ok
    (four_put c.args.edits.now c.push.new.self c.push-2.new.self c.push-3.new.self _ _ _ _ c.in_ok-push.ensures.ok c.in_ok-push-2.ensures.ok c.in_ok-push-3.ensures.ok
    ∙ ap (λ (t : Tag). c.args.edits.now ++ closing c.args.last c.args.place c.args.block c.args.made t) c.in_ok-tag.ensures)
