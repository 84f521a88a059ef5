use Rattle.std.proofs.Common.{◌<◌, length, get_or, ap, ◌∙◌, arith}
use Rattle.hp_control.proofs.StandingLemmas.{elements_count, element_at}
use Rattle.hp_control.proofs.open_elements.OpenElements.at.Goals as goal

pub at-requires : goal.at-requires
at-requires c =
    let e = elements_count c.self.inside.standing in
    let f = ap length c.self.view_is in
    omega (arith, c.requires)

pub returns : goal.returns
returns c =
    let ss = c.self.inside.standing in
    let x = c.at.result.now in
    let e = elements_count c.self.inside.standing in
    let f = ap length c.self.view_is in
    let h : c.args.depth < length c.self.inside.standing = omega (arith, c.requires) in
    element_at ss c.args.depth x h c.at.ensures ∙ ap (λ es. get_or es c.args.depth x.element) c.self.view_is
