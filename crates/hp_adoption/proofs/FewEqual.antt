-- Among fewer than three entries no three are equal.
use Rattle.std.proofs.Common.{◌≡◌, ℕ, suc, ◌+◌, ◌-◌, ◌≤◌, ◌<◌, Bool, true, false, nat_lt, List, [], ◌∷◌, Option, Some, None, Result, ap, refl, sym, ◌∙◌, length, arith}
use Rattle.std.specs.Prelude.{if◌then◌else◌}
use Rattle.std.specs.Option.{is_some}
use Rattle.std.proofs.lemmas.Bool.Decides.{nat_tests}
use Rattle.hp_elements.specs.declared.tag.Tag.{Tag}
use Rattle.hp_control.specs.declared.change.Refusal.{Refusal}
use Rattle.hp_control.specs.declared.element.FormattingEntry.{FormattingEntry}
use Rattle.hp_control.specs.declared.element.FormattingEntry.TheVariants.{Marker, Element}
use Rattle.hp_control.specs.declared.question.Crossing.TheVariants.{X1}
use Rattle.hp_control.specs.Faithful.{Split, Page}
use Rattle.hp_control.specs.Plan.{Plan, gives, crosses, followed_by}
use Rattle.hp_control.specs.Walks.{same_tag}
use Rattle.hp_views.specs.ListPlans.{append_plan}
use Rattle.hp_views.specs.RemovePlans.{remove_entry_plan}
use Rattle.hp_views.specs.View.{Sight, Carries}
use Rattle.hp_views.proofs.Carrying.{carries_as}
use Rattle.hp_adoption.specs.FewEntries.{IsShort}
use Rattle.hp_adoption.specs.ArkPlans.{Tally, tally, tally_on, older_equals, room_with, room_by, room_plan, append_to_list_plan}

tally_few : (tag : Tag) (es : List FormattingEntry) (count earliest : ℕ) → (tally tag es count earliest).count ≤ count + length es
tally_few tag [] count earliest = omega arith
tally_few tag (Marker ∷ es) count earliest = omega arith
tally_few tag (Element id other ∷ es) count earliest =
    elim (same_tag tag other) as (λ b. (tally_on b count earliest id (tally tag es)).count ≤ count + suc (length es)) [
      | true ↦ let h : (tally tag es (suc count) id).count ≤ suc count + length es = tally_few tag es (suc count) id in omega (arith, h)
      | false ↦ let h : (tally tag es count earliest).count ≤ count + length es = tally_few tag es count earliest in omega (arith, h)
    ]

below_left : (n : ℕ) → n < 3 → nat_lt 0 (3 - n) ≡ true
below_left n h = grind (arith, nat_tests)

no_room : (own : Tally) (v : Split) → own.count < 3 → room_with own v 0 ≡ gives v
no_room own v h = ap (λ (b : Bool). if b then gives v else (if nat_lt 0 0 then crosses X1 else remove_entry_plan own.earliest v)) (below_left own.count h)

none_older : (page : Option Page) (cuts : ℕ) (tag : Tag) → is_some page ≡ true → older_equals page cuts tag ≡ gives 0
none_older None cuts tag h = absurd (cc)
none_older (Some p) cuts tag h = refl

room_either : (ended : Bool) (tag : Tag) (own : Tally) (v : Split) → is_some v.page ≡ true → own.count < 3 → room_by ended tag own v ≡ gives v
room_either true tag own v s h = no_room own v h
room_either false tag own v s h = ap (λ (p : Plan ℕ). followed_by p (room_with own v)) (none_older v.page v.change.cuts tag s) ∙ no_room own v h

pub few_room : (tag : Tag) (v : Split) → is_some v.page ≡ true → length v.change.formatting < 3 → room_plan tag v ≡ gives v
few_room tag v s h =
    let few : (tally tag v.change.formatting 0 0).count ≤ 0 + length v.change.formatting = tally_few tag v.change.formatting 0 0 in
    room_either (tally tag v.change.formatting 0 0).ended tag (tally tag v.change.formatting 0 0) v s (omega (arith, few))

pub few_appended : (result : Result (Unit {0}) Refusal) (old new : Sight) (tag : Tag) → IsShort old.split → Carries result old new (append_plan tag) → Carries result old new (append_to_list_plan tag)
few_appended result old new tag h run =
    carries_as result old new (append_plan tag) (append_to_list_plan tag) (sym (ap (λ (p : Plan Split). followed_by p (append_plan tag)) (few_room tag old.split h.0 h.1))) run
