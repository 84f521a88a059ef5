use Rattle.std.proofs.Common.{◌∙◌, Ok, Some, ap, slice_get, sym}
use Rattle.hp_views.specs.View.{sight, split_of}
use Rattle.hp_views.specs.declared.walks.Walk.TheVariants.{Found}
use Rattle.hp_adoption.specs.Entries.{tag_in}
use Rattle.hp_adoption.proofs.Renewing.{got}
use Rattle.hp_adoption.proofs.TurnSteps.{element_there, turns_of}
use Rattle.hp_adoption.proofs.Untangling.{turn_hidden, turn_popped, turn_tangled}
use Rattle.hp_adoption.proofs.turns.turn_open.Goals as goal

pub unreachable-requires : goal.unreachable-requires
unreachable-requires g c =
    element_there _ c.at.result.now (got c.args.view.now.change.formatting c.args.at c.at.result.now c.requires.inside c.at.ensures) c.requires.listed c.in_default.not-Element

pub returns-in_ok-untangle-in-Some : goal.returns-in_ok-untangle-in-Some
returns-in_ok-untangle-in-Some g c =
    let entry = got c.args.view.now.change.formatting c.args.at c.at.result.now c.requires.inside c.at.ensures ∙ ap Some c.in-Element.is in
    turns_of c.args.fostering c.args.id c.in_ok-tag-in-Some.tag (Ok _) (sight g.B.Below.heard c.args.view.now) (sight g.B.Below.heard c.untangle.new.view) (Found c.args.depth) c.args.at (c.in_ok-tag-in-Some.ensures ∙ sym (ap tag_in entry))
    (turn_tangled c.args.fostering c.args.id c.in_ok-tag-in-Some.tag c.args.depth c.in-Some.block (sight g.B.Below.heard c.args.view.now) (sight g.B.Below.heard c.untangle.new.view)
    (sym c.hides.ensures ∙ c.if-hides.false) (sym c.furthest.ensures.found ∙ c.in-Some.is) c.in_ok-untangle-in-Some.ensures)

pub returns-then-hides : goal.returns-then-hides
returns-then-hides g c =
    let v = split_of c.args.view.now in
    turn_hidden (g.B.Below.heard c.args.view.now.below) c.args.fostering c.args.id (tag_in (slice_get v.change.formatting c.args.at)) c.args.depth v (sym c.hides.ensures ∙ c.if-hides.true)

pub returns-in-None : goal.returns-in-None
returns-in-None g c =
    let v = split_of c.args.view.now in
    turn_popped (g.B.Below.heard c.args.view.now.below) (g.B.Below.heard c.pop_own.new.self.below) c.args.fostering c.args.id (tag_in (slice_get v.change.formatting c.args.at)) c.args.depth v (split_of c.pop_own.new.self) c.strike.new.list
    (sym c.hides.ensures ∙ c.if-hides.false) (sym c.furthest.ensures.found ∙ c.in-None.is) (ap g.B.Below.heard c.pop_own.ensures.below) c.pop_own.ensures.split c.strike.ensures
