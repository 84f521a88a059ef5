use Rattle.std.proofs.Common.{◌≡◌, ◌∙◌, Some, ap, slice_get, sym}
use Rattle.hp_control.specs.declared.element.FormattingEntry.TheVariants.{Element}
use Rattle.hp_control.specs.Faithful.{Split}
use Rattle.hp_views.specs.View.{Sight, sight, split_of}
use Rattle.hp_views.specs.declared.walks.Walk.TheVariants.{Found}
use Rattle.hp_adoption.specs.AdoptPlans.{entry_turn, own_turn}
use Rattle.hp_adoption.specs.Entries.{is_element, tag_in}
use Rattle.hp_adoption.proofs.Renewing.{got}
use Rattle.hp_adoption.proofs.TurnSteps.{entry_walked, turn_of_none, turn_struck, turns_as}
use Rattle.hp_adoption.proofs.turns.turn_entry.Goals as goal

pub returns-in_default : goal.returns-in_default
returns-in_default g c =
    let v : Split = split_of c.args.view.now in
    turn_of_none (g.B.Below.heard c.args.view.now.below) c.args.fostering v (slice_get v.change.formatting c.args.at) c.at.result.now
    (got v.change.formatting c.args.at c.at.result.now c.requires c.at.ensures) c.in_default.not-Element

pub turn_open-requires-clause-listed : goal.turn_open-requires-clause-listed
turn_open-requires-clause-listed g c = ap is_element (got (split_of c.args.view.now).change.formatting c.args.at c.at.result.now c.requires c.at.ensures ∙ ap Some c.in-Element.is)

pub returns-in-Found : goal.returns-in-Found
returns-in-Found g c =
    let old : Sight = sight g.B.Below.heard c.args.view.now in
    let entry : slice_get old.split.change.formatting c.args.at ≡ Some (Element c.in-Element.id c.in-Element.tag) =
    got old.split.change.formatting c.args.at c.at.result.now c.requires c.at.ensures ∙ ap Some c.in-Element.is in
    turns_as c.turn_open.result old (sight g.B.Below.heard c.turn_open.new.view)
    (λ v. own_turn c.args.fostering c.in-Element.id (tag_in (slice_get v.change.formatting c.args.at)) v (Found c.in-Found.depth))
    (λ v. entry_turn c.args.fostering v (slice_get v.change.formatting c.args.at))
    (entry_walked c.args.fostering c.in-Element.id c.in-Element.tag old.split (slice_get old.split.change.formatting c.args.at) (Found c.in-Found.depth) (sym c.in-Found.is ∙ c.open_walk.ensures.walk) entry)
    c.turn_open.ensures

pub returns-in-Stopped : goal.returns-in-Stopped
returns-in-Stopped g c =
    let v : Split = split_of c.args.view.now in
    turn_struck (g.B.Below.heard c.args.view.now.below) c.args.fostering c.in-Element.id c.in-Element.tag v (slice_get v.change.formatting c.args.at) c.open_walk.result c.strike.new.list c.in-Stopped.is c.open_walk.ensures.walk
    (got v.change.formatting c.args.at c.at.result.now c.requires c.at.ensures ∙ ap Some c.in-Element.is) c.strike.ensures
