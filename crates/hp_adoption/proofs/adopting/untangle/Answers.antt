use Rattle.std.proofs.Common.{◌≡◌, ◌∙◌, List, ap, subst, sym}
use Rattle.std.specs.Option.{is_some}
use Rattle.hp_control.specs.declared.element.OpenElement.{OpenElement}
use Rattle.hp_control.specs.Faithful.{Split}
use Rattle.hp_views.specs.FieldPlans.{with_change}
use Rattle.hp_views.specs.PlacePlans.{place_plan}
use Rattle.hp_views.specs.View.{Sight, Finds, sight, split_of}
use Rattle.hp_adoption.specs.AdoptPlans.{below_depth}
use Rattle.hp_adoption.proofs.Apart.{some_seen}
use Rattle.hp_adoption.proofs.Untangling.{untangle_done}
use Rattle.hp_adoption.proofs.adopting.untangle.Goals as goal

pub returns : goal.returns
returns g c =
    let v : Split = split_of c.args.view.now in
    let mid : Sight = sight g.B.Below.heard c.place.new.self in
    let S : List OpenElement → Type 0 = λ s. Finds (record { heard = g.B.Below.heard c.args.view.now.below; split = with_change (record v.change { stack = s }) v }) mid (place_plan c.args.fostering) c.in_ok-place.place in
    let found : Finds (record { heard = g.B.Below.heard c.args.view.now.below; split = below_depth c.args.tangle.depth v }) mid (place_plan c.args.fostering) c.in_ok-place.place = subst S c.in_ok-over.ensures.rest c.in_ok-place.ensures in
    let page : c.is_some.result ≡ is_some v.page = c.is_some.ensures ∙ (sym (some_seen _ c.place.new.self.page) ∙ ap (λ (s : Split). is_some s.page) found.same) in
    untangle_done c.args.fostering c.is_some.result c.args.tangle.id c.args.tag c.args.tangle.depth c.args.tangle.block c.in_ok-over.over.above c.in_ok-over.over.between c.in_ok-over.over.block c.in_ok-place.place v c.rebuild.new.change c.rebuild.new.edits (g.B.Below.heard c.args.view.now.below) mid
    c.in_ok-over.ensures.block c.in_ok-over.ensures.above c.in_ok-over.ensures.between page found c.in_ok-rebuild.ensures.change c.in_ok-rebuild.ensures.edits
