use Rattle.std.proofs.Common.{◌+◌, ◌≤◌, length, ap, ◌∙◌, arith}
use Rattle.hp_control.proofs.StandingLemmas.{elements_count, room_above, told_under, shown_without}
use Rattle.hp_control.proofs.open_elements.OpenElements.take_out_many.Goals as goal

pub take_out_many-requires : goal.take_out_many-requires
take_out_many-requires c =
    let e = elements_count c.self.inside.standing in
    let f = ap length c.self.view_is in
    omega (arith, c.requires)

pub renew-requires : goal.renew-requires
renew-requires c =
    let ss = c.self.inside.standing in
    let e = elements_count c.self.inside.standing in
    let f = ap length c.self.view_is in
    let h : c.args.depth ≤ length c.self.inside.standing = omega (arith, c.requires) in
    record {
      count = room_above ss c.take_out_many.new.self c.args.depth (c.args.depth + c.args.count) h c.take_out_many.ensures;
      below = told_under ss c.take_out_many.new.self c.args.depth (c.args.depth + c.args.count) h c.take_out_many.ensures c.self.invariant;
    }

pub returns : goal.returns
returns c =
    c.renew.ensures.elements
    ∙ shown_without c.self.inside.standing c.take_out_many.new.self c.args.self.now c.args.depth (c.args.depth + c.args.count) c.self.view_is c.take_out_many.ensures
