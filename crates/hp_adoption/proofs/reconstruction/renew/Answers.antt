use Rattle.std.proofs.Common.{◌≤◌, ◌<◌, length, arith}
use Rattle.hp_views.specs.View.{split_of}
use Rattle.hp_adoption.proofs.Renewing.{past_renews, marker_renews}
use Rattle.hp_adoption.proofs.reconstruction.renew.Goals as goal

pub returns-then-depth-len : goal.returns-then-depth-len
returns-then-depth-len g c =
    let v = split_of c.args.view.now in
    let past : length v.change.formatting ≤ c.args.depth = omega (arith, c.if-depth-len.true, c.len.ensures) in
    past_renews (g.B.Below.heard c.args.view.now.below) c.args.fostering c.args.depth v past

pub returns-in-Marker : goal.returns-in-Marker
returns-in-Marker g c =
    let v = split_of c.args.view.now in
    let inside : c.args.depth < length v.change.formatting = omega (arith, c.if-depth-len.false, c.len.ensures) in
    marker_renews (g.B.Below.heard c.args.view.now.below) c.args.fostering c.args.depth v c.replace-old.result c.replace-old.new.self inside c.in-Marker.is c.replace-old.ensures.value c.replace-old.ensures.items
