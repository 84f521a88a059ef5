use Rattle.std.proofs.Common.{◌∷◌, ◌++◌, ◌∙◌, List, ap}
use Rattle.hp_control.specs.declared.element.OpenElement.{OpenElement}
use Rattle.hp_control.specs.Acts.{element_for}
use Rattle.hp_adoption.proofs.Apart.{piled}
use Rattle.hp_adoption.proofs.Spots.{ok_as}
use Rattle.hp_adoption.proofs.adopting.restack.Goals as goal

pub returns : goal.returns
returns c =
    let made : OpenElement = element_for c.args.id c.args.tag.now in
    ok_as _ _ _ c.pile-2.result c.pile-2.ensures
    (ap (λ (s : List OpenElement). c.args.above ++ s)
    (c.in_ok-push.ensures.ok ∙ (ap (λ (e : OpenElement). e ∷ c.pile.new.self) c.in_ok-element_for.ensures ∙ ap (λ (s : List OpenElement). made ∷ s) c.in_ok-pile.ensures))
    ∙ piled c.args.above c.args.kept c.args.stack.now made)
