use Rattle.std.proofs.Common.{◌+◌, ◌<◌, length, ap, ◌∙◌, arith}
use Rattle.hp_control.proofs.StandingLemmas.{elements_count, room_above, told_under, shown_without}
use Rattle.hp_control.proofs.open_elements.OpenElements.take_out.Goals as goal

pub take_out-requires : goal.take_out-requires
take_out-requires c =
    let e = elements_count c.self.inside.standing in
    let f = ap length c.self.view_is in
    omega (arith, c.requires)

pub renew-requires : goal.renew-requires
renew-requires c =
    let ss = c.self.inside.standing in
    let e = elements_count c.self.inside.standing in
    let f = ap length c.self.view_is in
    let h : c.args.depth < length c.self.inside.standing = omega (arith, c.requires) in
    record {
      count = room_above ss c.take_out.new.self c.args.depth (c.args.depth + 1) (omega (arith, h)) c.take_out.ensures;
      below = told_under ss c.take_out.new.self c.args.depth (c.args.depth + 1) (omega (arith, h)) c.take_out.ensures c.self.invariant;
    }

pub returns : goal.returns
returns c = c.renew.ensures.elements ∙ shown_without c.self.inside.standing c.take_out.new.self c.args.self.now c.args.depth (c.args.depth + 1) c.self.view_is c.take_out.ensures
