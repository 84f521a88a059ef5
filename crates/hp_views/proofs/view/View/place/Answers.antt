use Rattle.std.specs.Prelude.{Ok, refl}
use Rattle.std.proofs.Common.{Bool, ap, subst, sym}
use Rattle.hp_elements.specs.declared.kinds.Kinds.TheVariants as kinds
use Rattle.hp_elements.specs.declared.sets.SetName.TheVariants as sets
use Rattle.hp_control.specs.declared.edit.Place.TheVariants.{Into}
use Rattle.hp_views.specs.PlacePlans.{current_ref, fostered, place_plan}
use Rattle.hp_views.specs.StackPlans.{current_is_plan}
use Rattle.hp_views.specs.View.{Answers, sight}
use Rattle.hp_views.proofs.AtOnce.{gives_same}
use Rattle.hp_views.proofs.Carrying.{answers_then}
use Rattle.hp_views.proofs.view.View.place.Goals as goal

pub returns-then-in_table : goal.returns-then-in_table
returns-then-in_table g c =
    let heard = g.B.Below.heard in
    let result = c.foster_place.result in
    let old = sight heard c.args.self.now in
    let mid = sight heard c.current_is.new.self in
    let new = sight heard c.foster_place.new.self in
    let P : Bool → Type 0 = λ b. Answers result old new (place_plan b) in
    let Q : Bool → Type 0 = λ b. Answers result mid new (λ v. fostered v b) in
    subst P (sym c.if-not-fostering.false)
    (answers_then result old mid new (current_is_plan (kinds.Set sets.FosterParents)) fostered c.in_ok-in_table.in_table c.in_ok-in_table.ensures
    (subst Q (sym c.if-in_table.true) c.foster_place.ensures))

pub returns-else-in_table : goal.returns-else-in_table
returns-else-in_table g c =
    let heard = g.B.Below.heard in
    let old = sight heard c.args.self.now in
    let mid = sight heard c.current_is.new.self in
    let here = Into c.ref_at-else-in_table.result in
    let P : Bool → Type 0 = λ b. Answers (Ok here) old mid (place_plan b) in
    let Q : Bool → Type 0 = λ b. Answers (Ok here) mid mid (λ v. fostered v b) in
    subst P (sym c.if-not-fostering.false)
    (answers_then (Ok here) old mid mid (current_is_plan (kinds.Set sets.FosterParents)) fostered c.in_ok-in_table.in_table c.in_ok-in_table.ensures
    (subst Q (sym c.if-in_table.false) (record { runs = gives_same mid.heard (Into (current_ref mid.split)) here (ap Into (sym c.ref_at-else-in_table.ensures)); same = refl })))
