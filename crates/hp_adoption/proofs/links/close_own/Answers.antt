use Rattle.std.proofs.Common.{◌≡◌, ◌∙◌, ℕ, Bool, List, Option, Some, Result, Ok, ap, refl, slice_get, subst, sym}
use Rattle.hp_elements.specs.declared.tag.Tag.{Tag}
use Rattle.hp_control.specs.declared.change.Refusal.{Refusal}
use Rattle.hp_control.specs.declared.element.FormattingEntry.{FormattingEntry}
use Rattle.hp_control.specs.declared.element.FormattingEntry.TheVariants.{Marker, Element}
use Rattle.hp_control.specs.Faithful.{Split}
use Rattle.hp_control.specs.Plan.{Heard, Runs, followed_by}
use Rattle.hp_control.specs.Running.{runs_gives}
use Rattle.hp_views.specs.RemovePlans.{remove_entry_plan, take_off_plan}
use Rattle.hp_views.specs.View.{Carries, Sight, sight, split_of}
use Rattle.hp_adoption.specs.AdoptPlans.{adopt_plan}
use Rattle.hp_adoption.specs.LinkPlans.{a_link, gone_plan, close_own_plan}
use Rattle.hp_views.proofs.Carrying.{carries_as, carries_next, carries_failed}
use Rattle.hp_adoption.proofs.Renewing.{got}
use Rattle.hp_adoption.proofs.links.close_own.Goals as goal

no_link : (now : Heard) (fostering : Bool) (v : Split) (o : Option FormattingEntry) (e : FormattingEntry) → o ≡ Some e → ((id : ℕ) (tag : Tag) → e ≡ Element id tag → ⊥) → Runs now now (close_own_plan fostering v o) (Ok v)
no_link now fostering v o Marker is not_element =
    let P : Option FormattingEntry → Type 0 = λ x. Runs now now (close_own_plan fostering v x) (Ok v) in subst P (sym is) (runs_gives now v)
no_link now fostering v o (Element id tag) is not_element = absurd (not_element id tag refl)

-- a link that is adopted leaves list and stack
link_closed : (result : Result (Unit {0}) Refusal) (old new : Sight) (fostering : Bool) (at id : ℕ) (tag : Tag) (name : List ℕ) → name ≡ a_link → slice_get old.split.change.formatting at ≡ Some (Element id tag)
    → Carries result old new (λ v. followed_by (adopt_plan fostering name v) (gone_plan id)) → Carries result old new (λ v. close_own_plan fostering v (slice_get v.change.formatting at))
link_closed result old new fostering at id tag name link entry run =
    carries_as result old new (λ v. followed_by (adopt_plan fostering name v) (gone_plan id)) (λ v. close_own_plan fostering v (slice_get v.change.formatting at))
    (ap (λ (n : List ℕ). followed_by (adopt_plan fostering n old.split) (gone_plan id)) link ∙ ap (close_own_plan fostering old.split) (sym entry)) run

pub returns-in_default : goal.returns-in_default
returns-in_default g c =
    let v : Split = split_of c.args.view.now in
    no_link (g.B.Below.heard c.args.view.now.below) c.args.fostering v (slice_get v.change.formatting c.args.at) c.at.result.now
    (got v.change.formatting c.args.at c.at.result.now c.requires c.at.ensures) c.in_default.not-Element

pub returns-in_err-adopt : goal.returns-in_err-adopt
returns-in_err-adopt g c =
    let old : Sight = sight g.B.Below.heard c.args.view.now in
    let new : Sight = sight g.B.Below.heard c.adopt.new.view in
    link_closed c.from_residual.result old new c.args.fostering c.args.at c.in-Element.id c.in-Element.tag c.of_known.result c.of_known.ensures
    (got old.split.change.formatting c.args.at c.at.result.now c.requires c.at.ensures ∙ ap Some c.in-Element.is)
    (carries_failed c.from_residual.result c.in_err-adopt.field-0.0 old new
    (adopt_plan c.args.fostering c.of_known.result) (gone_plan c.in-Element.id) c.from_residual.ensures.1 c.in_err-adopt.ensures)

pub returns-in_err-remove_entry : goal.returns-in_err-remove_entry
returns-in_err-remove_entry g c =
    let old : Sight = sight g.B.Below.heard c.args.view.now in
    let mid : Sight = sight g.B.Below.heard c.adopt.new.view in
    let new : Sight = sight g.B.Below.heard c.remove_entry.new.self in
    link_closed c.from_residual-in_err-remove_entry.result old new c.args.fostering c.args.at c.in-Element.id c.in-Element.tag c.of_known.result c.of_known.ensures
    (got old.split.change.formatting c.args.at c.at.result.now c.requires c.at.ensures ∙ ap Some c.in-Element.is)
    (carries_next c.from_residual-in_err-remove_entry.result old mid new
    (adopt_plan c.args.fostering c.of_known.result) (gone_plan c.in-Element.id) c.in_ok-adopt.ensures
    (carries_failed c.from_residual-in_err-remove_entry.result c.in_err-remove_entry.field-0.0 mid new
    (remove_entry_plan c.in-Element.id) (take_off_plan c.in-Element.id) c.from_residual-in_err-remove_entry.ensures.1 c.in_err-remove_entry.ensures))

pub returns : goal.returns
returns g c =
    let old : Sight = sight g.B.Below.heard c.args.view.now in
    let mid : Sight = sight g.B.Below.heard c.adopt.new.view in
    let left : Sight = sight g.B.Below.heard c.remove_entry.new.self in
    let new : Sight = sight g.B.Below.heard c.take_off.new.self in
    link_closed c.take_off.result old new c.args.fostering c.args.at c.in-Element.id c.in-Element.tag c.of_known.result c.of_known.ensures
    (got old.split.change.formatting c.args.at c.at.result.now c.requires c.at.ensures ∙ ap Some c.in-Element.is)
    (carries_next c.take_off.result old mid new
    (adopt_plan c.args.fostering c.of_known.result) (gone_plan c.in-Element.id) c.in_ok-adopt.ensures
    (carries_next c.take_off.result mid left new
    (remove_entry_plan c.in-Element.id) (take_off_plan c.in-Element.id) c.in_ok-remove_entry.ensures c.take_off.ensures))
