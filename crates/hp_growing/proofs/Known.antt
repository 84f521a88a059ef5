-- Runs over a known state come to a grove and outer edits too, and whatever a run comes to builds on a tree what the run builds.
use Rattle.std.proofs.Common.{◌≡◌, ℕ, ◌+◌, ◌-◌, Bool, true, false, List, [], ◌∷◌, map, refl, sym, ap, ap₂, ◌∙◌, subst, arith, inl, inr}
use Rattle.std.specs.Prelude.{◌||◌, nat_lt, All}
use Rattle.std.specs.List.{list_all}
use Rattle.std.proofs.lemmas.Bool.{and_from, cases_Bool, cond-false, cond-true, ltb-false}
use Rattle.std.proofs.lemmas.List.Elements.{All-head, All-tail}
use Rattle.std.proofs.lemmas.List.Folds.{list_all-append}
use Rattle.hp_control.specs.declared.edit.Child.{Child}
use Rattle.hp_control.specs.declared.edit.Child.TheVariants as child
use Rattle.hp_control.specs.declared.edit.Edit.{Edit}
use Rattle.hp_control.specs.declared.edit.Edit.TheVariants.{NewElement, Put, Detach, MoveChildren, AddMissing}
use Rattle.hp_control.specs.declared.edit.Place.{Place}
use Rattle.hp_control.specs.declared.edit.Place.TheVariants.{Into, Foster}
use Rattle.hp_control.specs.declared.edit.Ref.{Ref}
use Rattle.hp_control.specs.declared.edit.Ref.TheVariants.{Fixed, Older, Own}
use Rattle.hp_control.specs.Apply.{named, named_child, named_edit, named_place}
use Rattle.hp_control.specs.Edits.{IsFixed, IsFixedChild, IsFixedEdit, IsFixedPlace}
use Rattle.hp_control.specs.States.{ControlState}
use Rattle.hp_control.specs.Tree.{Tree, id_of}
use Rattle.hp_groves.specs.Naming.{child_by, child_refs, is_own, names_older, own_outer, place_by, place_refs, refs}
use Rattle.hp_groves.proofs.Fragments.{own-makes_same}
use Rattle.hp_growth.specs.Telling.{own_from, own_told}
use Rattle.hp_pieces.specs.Growth.{grown_tree}
use Rattle.hp_pieces.specs.Running.{Leads}
use Rattle.hp_growing.specs.Laws.{GrownBuilds, RunGrows}
use Rattle.hp_growing.proofs.Handled.{valid-has}
use Rattle.hp_growing.proofs.Places.{leads-name_there}

pub grown-builds : GrownBuilds
grown-builds names text s exit grove outer t g v counted =
    let there = leads-name_there names text s exit (map (named_edit s) g.edits) g.leads v in
    own-makes_same t s g.edits counted.there counted.count there.named g.below
    ∙ ap (λ (made : Tree). grown_tree made (own_outer g.edits) s t) (sym g.inner)
    ∙ ap (λ (outer : List Edit). grown_tree grove outer s t) (sym g.others)

-- the element that a state names is told as before where it was told by its id
told-named : (s : ControlState) (r : Ref) → IsFixed r → named s (own_from s.next r) ≡ r
told-named s (Fixed id) h =
    elim (cases_Bool (nat_lt id s.next)) [
      | inl low ↦ ap (named s) (cond-true (nat_lt id s.next) (Fixed id) (Own (id - s.next)) low)
      | inr high ↦ ap (named s) (cond-false (nat_lt id s.next) (Fixed id) (Own (id - s.next)) high) ∙ ap Fixed (there id high)
    ]
  where
    there : (id : ℕ) → nat_lt id s.next ≡ false → s.next + (id - s.next) ≡ id
    there id high = omega (arith, ltb-false id s.next high)
told-named s (Older depth) h = absurd h
told-named s (Own number) h = absurd h

told-place : (s : ControlState) (place : Place) → IsFixedPlace place → named_place s (place_by (own_from s.next) place) ≡ place
told-place s (Into parent) h = ap Into (told-named s parent h)
told-place s (Foster table above) h = ap₂ Foster (told-named s table h.0) (told-named s above h.1)

told-child : (s : ControlState) (c : Child) → IsFixedChild c → named_child s (child_by (own_from s.next) c) ≡ c
told-child s (child.Element node) h = ap child.Element (told-named s node h)
told-child s (child.Text text) h = refl
told-child s (child.Comment text) h = refl
told-child s (child.Doctype parts) h = refl

told-edit : (s : ControlState) (e : Edit) → IsFixedEdit e → named_edit s (own_told s.next e) ≡ e
told-edit s (NewElement tag) h = refl
told-edit s (Put c place) h = ap₂ Put (told-child s c h.0) (told-place s place h.1)
told-edit s (Detach node) h = ap Detach (told-named s node h)
told-edit s (MoveChildren from to) h = ap₂ MoveChildren (told-named s from h.0) (told-named s to h.1)
told-edit s (AddMissing node more) h = ap (λ r. AddMissing r more) (told-named s node h)

told-same : (s : ControlState) (es : List Edit) → All IsFixedEdit es → map (named_edit s) (map (own_told s.next) es) ≡ es
told-same s [] h = refl
told-same s (e ∷ es) h = ap₂ (λ x xs. x ∷ xs) (told-edit s e (All-head IsFixedEdit e es h)) (told-same s es (All-tail IsFixedEdit e es h))

-- and it is an own or an older one
abbrev is_right : ControlState → Ref → Bool
is_right s r = is_own r || nat_lt (id_of (named s r)) s.next

told-right : (s : ControlState) (r : Ref) → IsFixed r → is_right s (own_from s.next r) ≡ true
told-right s (Fixed id) h =
    elim (cases_Bool (nat_lt id s.next)) [
      | inl low ↦ ap (is_right s) (cond-true (nat_lt id s.next) (Fixed id) (Own (id - s.next)) low) ∙ low
      | inr high ↦ ap (is_right s) (cond-false (nat_lt id s.next) (Fixed id) (Own (id - s.next)) high)
    ]
told-right s (Older depth) h = absurd h
told-right s (Own number) h = absurd h

one-right : (s : ControlState) (r : Ref) → IsFixed r → list_all (is_right s) (own_from s.next r ∷ []) ≡ true
one-right s r h = and_from (is_right s (own_from s.next r)) true (told-right s r h) refl

two-right : (s : ControlState) (q r : Ref) → IsFixed q → IsFixed r → list_all (is_right s) (own_from s.next q ∷ own_from s.next r ∷ []) ≡ true
two-right s q r h k = and_from (is_right s (own_from s.next q)) (list_all (is_right s) (own_from s.next r ∷ [])) (told-right s q h) (one-right s r k)

child-right : (s : ControlState) (c : Child) → IsFixedChild c → list_all (is_right s) (child_refs (child_by (own_from s.next) c)) ≡ true
child-right s (child.Element node) h = one-right s node h
child-right s (child.Text text) h = refl
child-right s (child.Comment text) h = refl
child-right s (child.Doctype parts) h = refl

place-right : (s : ControlState) (place : Place) → IsFixedPlace place → list_all (is_right s) (place_refs (place_by (own_from s.next) place)) ≡ true
place-right s (Into parent) h = one-right s parent h
place-right s (Foster table above) h = two-right s table above h.0 h.1

edit-right : (s : ControlState) (e : Edit) → IsFixedEdit e → list_all (is_right s) (refs (own_told s.next e)) ≡ true
edit-right s (NewElement tag) h = refl
edit-right s (Put c place) h =
    let those = child_refs (child_by (own_from s.next) c) in
    let others = place_refs (place_by (own_from s.next) place) in
    list_all-append (is_right s) those others ∙ and_from (list_all (is_right s) those) (list_all (is_right s) others) (child-right s c h.0) (place-right s place h.1)
edit-right s (Detach node) h = one-right s node h
edit-right s (MoveChildren from to) h = two-right s from to h.0 h.1
edit-right s (AddMissing node more) h = one-right s node h

told-older : (s : ControlState) (es : List Edit) → All IsFixedEdit es → names_older s (map (own_told s.next) es) ≡ true
told-older s [] h = refl
told-older s (e ∷ es) h =
    and_from (list_all (is_right s) (refs (own_told s.next e))) (names_older s (map (own_told s.next) es)) (edit-right s e (All-head IsFixedEdit e es h)) (told-older s es (All-tail IsFixedEdit e es h))

pub run-grows : RunGrows
run-grows names text s exit es v fixed run = record {
  edits = map (own_told s.next) es;
  leads = subst (λ (all : List Edit). Leads names text s all exit) (sym (told-same s es fixed)) run;
  below = record { document = (valid-has s v).document; older = told-older s es fixed };
  inner = refl;
  others = refl;
}
