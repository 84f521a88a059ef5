-- Names are told once, and ids past 64 bits make no difference in a tree.
use Rattle.std.proofs.Common.{◌≡◌, ◌≤◌, ◌<◌, ◌-◌, ◌^◌, ℕ, [], ◌∷◌, length, map, Bool, true, false, refl, sym, ap, ap₂, ◌∙◌, ◌⊎◌, inl, inr, arith, min}
use Rattle.std.specs.Prelude.{if◌then◌else◌, ◌&&◌, not, ◌==◌, nat_lt}
use Rattle.std.proofs.lemmas.Bool.{ltb-true, ltb-false, le-ltb}
use Rattle.std.proofs.Math.Nat.{min-eq_left}
use Rattle.hp_control.specs.declared.edit.Child.{Child}
use Rattle.hp_control.specs.declared.edit.Child.TheVariants as child
use Rattle.hp_control.specs.declared.edit.Edit.{Edit}
use Rattle.hp_control.specs.declared.edit.Edit.TheVariants.{NewElement, Put, Detach, MoveChildren, AddMissing}
use Rattle.hp_control.specs.declared.edit.Place.{Place}
use Rattle.hp_control.specs.declared.edit.Place.TheVariants.{Into, Foster}
use Rattle.hp_control.specs.declared.edit.Ref.{Ref}
use Rattle.hp_control.specs.declared.edit.Ref.TheVariants.{Fixed, Older, Own}
use Rattle.hp_control.specs.Apply.{named, named_place, named_child, named_edit}
use Rattle.hp_control.specs.Edits.{IsFixed, IsFixedPlace, IsFixedChild, IsFixedEdit}
use Rattle.hp_control.specs.Nothing.{nothing}
use Rattle.hp_control.specs.States.{ControlState}
use Rattle.hp_control.specs.Telling.{below, counted, counted_place, counted_child, counted_edit, named_edit_over, told_over, NamedOver, FixedMeansSame, NamedOnce, NamedRoom, ToldOnce, ToldRoom, ToldMakesSame}
use Rattle.hp_control.specs.Tree.{Element, Tree, applied, applied_all, detached, id_of, is_there, is_place, put, put_child, children_moved, with_tag, with_attributes, branch}
use Rattle.hp_control.proofs.TreeLengths.{longer, longer_all}

over_ref : (s : ControlState) (r : Ref) → named s r ≡ named (below s.stack s.next) r
over_ref s (Fixed id) = refl
over_ref s (Older depth) = refl
over_ref s (Own number) = refl

over_place : (s : ControlState) (p : Place) → named_place s p ≡ named_place (below s.stack s.next) p
over_place s (Into parent) = ap Into (over_ref s parent)
over_place s (Foster table above) = ap₂ Foster (over_ref s table) (over_ref s above)

over_child : (s : ControlState) (c : Child) → named_child s c ≡ named_child (below s.stack s.next) c
over_child s (child.Element node) = ap child.Element (over_ref s node)
over_child s (child.Text text) = refl
over_child s (child.Comment text) = refl
over_child s (child.Doctype parts) = refl

pub named_over : NamedOver
named_over s (NewElement tag) = refl
named_over s (Put what place) = ap₂ Put (over_child s what) (over_place s place)
named_over s (Detach node) = ap Detach (over_ref s node)
named_over s (MoveChildren from to) = ap₂ MoveChildren (over_ref s from) (over_ref s to)
named_over s (AddMissing node more) = ap (λ r. AddMissing r more) (over_ref s node)

-- an element that is told by its id is that one over every state
pub fixed_ref : (s : ControlState) (r : Ref) → IsFixed r → named s r ≡ r
fixed_ref s (Fixed id) f = refl
fixed_ref s (Older depth) f = absurd f
fixed_ref s (Own number) f = absurd f

fixed_place : (s : ControlState) (p : Place) → IsFixedPlace p → named_place s p ≡ p
fixed_place s (Into parent) f = ap Into (fixed_ref s parent f)
fixed_place s (Foster table above) f = ap₂ Foster (fixed_ref s table f.0) (fixed_ref s above f.1)

pub fixed_child : (s : ControlState) (c : Child) → IsFixedChild c → named_child s c ≡ c
fixed_child s (child.Element node) f = ap child.Element (fixed_ref s node f)
fixed_child s (child.Text text) f = refl
fixed_child s (child.Comment text) f = refl
fixed_child s (child.Doctype parts) f = refl

pub fixed_means_same : FixedMeansSame
fixed_means_same s (NewElement tag) f = refl
fixed_means_same s (Put what place) f = ap₂ Put (fixed_child s what f.0) (fixed_place s place f.1)
fixed_means_same s (Detach node) f = ap Detach (fixed_ref s node f)
fixed_means_same s (MoveChildren from to) f = ap₂ MoveChildren (fixed_ref s from f.0) (fixed_ref s to f.1)
fixed_means_same s (AddMissing node more) f = ap (λ r. AddMissing r more) (fixed_ref s node f)

-- what is named is told by its id
ref_named : (s : ControlState) (r : Ref) → IsFixed (named s r)
ref_named s (Fixed id) = tt
ref_named s (Older depth) = tt
ref_named s (Own number) = tt

place_named : (s : ControlState) (p : Place) → IsFixedPlace (named_place s p)
place_named s (Into parent) = ref_named s parent
place_named s (Foster table above) = (ref_named s table, ref_named s above)

child_named : (s : ControlState) (c : Child) → IsFixedChild (named_child s c)
child_named s (child.Element node) = ref_named s node
child_named s (child.Text text) = tt
child_named s (child.Comment text) = tt
child_named s (child.Doctype parts) = tt

edit_named : (s : ControlState) (e : Edit) → IsFixedEdit (named_edit s e)
edit_named s (NewElement tag) = tt
edit_named s (Put what place) = (child_named s what, place_named s place)
edit_named s (Detach node) = ref_named s node
edit_named s (MoveChildren from to) = (ref_named s from, ref_named s to)
edit_named s (AddMissing node more) = ref_named s node

-- and stays so where it is counted
ref_counted : (r : Ref) → IsFixed r → IsFixed (counted r)
ref_counted (Fixed id) f = tt
ref_counted (Older depth) f = f
ref_counted (Own number) f = f

place_counted : (p : Place) → IsFixedPlace p → IsFixedPlace (counted_place p)
place_counted (Into parent) f = ref_counted parent f
place_counted (Foster table above) f = (ref_counted table f.0, ref_counted above f.1)

child_counted : (c : Child) → IsFixedChild c → IsFixedChild (counted_child c)
child_counted (child.Element node) f = ref_counted node f
child_counted (child.Text text) f = tt
child_counted (child.Comment text) f = tt
child_counted (child.Doctype parts) f = tt

edit_counted : (e : Edit) → IsFixedEdit e → IsFixedEdit (counted_edit e)
edit_counted (NewElement tag) f = tt
edit_counted (Put what place) f = (child_counted what f.0, place_counted place f.1)
edit_counted (Detach node) f = ref_counted node f
edit_counted (MoveChildren from to) f = (ref_counted from f.0, ref_counted to f.1)
edit_counted (AddMissing node more) f = ref_counted node f

pub named_once : NamedOnce
named_once s e = fixed_means_same nothing (named_edit s e) (edit_named s e)

pub told_once : ToldOnce
told_once stack next e = fixed_means_same nothing (told_over stack next e) (edit_counted (named_edit_over stack next e) (edit_named (below stack next) e))

pub named_room : NamedRoom
named_room s (NewElement tag) = refl
named_room s (Put what place) = refl
named_room s (Detach node) = refl
named_room s (MoveChildren from to) = refl
named_room s (AddMissing node more) = refl

pub told_room : ToldRoom
told_room stack next (NewElement tag) = refl
told_room stack next (Put what place) = refl
told_room stack next (Detach node) = refl
told_room stack next (MoveChildren from to) = refl
told_room stack next (AddMissing node more) = refl

-- a counted id is the same, or neither is there
counted_id : (b : Bool) (n id : ℕ) → n < 2 ^ 64 → nat_lt id (2 ^ 64) ≡ b → (min id (2 ^ 64 - 1) ≡ id) ⊎ ((nat_lt (min id (2 ^ 64 - 1)) n ≡ false) × (nat_lt id n ≡ false))
counted_id true n id h e = inl (min-eq_left (omega (arith, ltb-true id (2 ^ 64) e)))
counted_id false n id h e =
    let past : 2 ^ 64 ≤ id = ltb-false id (2 ^ 64) e in
    inr (le-ltb (min id (2 ^ 64 - 1)) n (omega arith), le-ltb id n (omega arith))

counted_there : (t : Tree) (r : Ref) → length t < 2 ^ 64 → (counted r ≡ r) ⊎ ((is_there t (counted r) ≡ false) × (is_there t r ≡ false))
counted_there t (Fixed id) h = elim (counted_id (nat_lt id (2 ^ 64)) (length t) id h refl) [ inl e ↦ inl (ap Fixed e) | inr neither ↦ inr neither ]
counted_there t (Older depth) h = inl refl
counted_there t (Own number) h = inl refl

-- what does nothing with an element that isn't there makes the same of a counted id
by_ref : (t : Tree) (made : Ref → Tree) → ((r : Ref) → is_there t r ≡ false → made r ≡ t) → length t < 2 ^ 64 → (r : Ref) → made (counted r) ≡ made r
by_ref t made absent h r = elim (counted_there t r h) [ inl e ↦ ap made e | inr neither ↦ absent (counted r) neither.0 ∙ sym (absent r neither.1) ]

same_both : (b : Bool) (t : Tree) → (if b then t else t) ≡ t
same_both true t = refl
same_both false t = refl

and_false : (b c : Bool) → c ≡ false → (b && c) ≡ false
and_false true c e = e
and_false false c e = refl

second_fails : (a b c : Bool) (u t : Tree) → b ≡ false → (if a && b && c then u else t) ≡ t
second_fails true b c u t e = ap (λ k. if k && c then u else t) e
second_fails false b c u t e = refl

put_nowhere : (t : Tree) (c : Child) (p : Place) → is_place t p ≡ false → applied t (Put c p) ≡ t
put_nowhere t c p e = ap (λ b. if b then put_child t c p else t) e

put_no_child : (t : Tree) (p : Place) (r : Ref) → is_there t r ≡ false → applied t (Put (child.Element r) p) ≡ t
put_no_child t p r e =
    ap (λ u. if is_place t p then u else t) (ap (λ b. if b && not (id_of r == 0) then put (detached t (id_of r)) (Element (id_of r)) p else t) e) ∙ same_both (is_place t p) t

module _ (t : Tree) (h : length t < 2 ^ 64) where
  put_counted_child : (c : Child) (p : Place) → applied t (Put (counted_child c) p) ≡ applied t (Put c p)
  put_counted_child (child.Element node) p = by_ref t (λ r. applied t (Put (child.Element r) p)) (put_no_child t p) h node
  put_counted_child (child.Text text) p = refl
  put_counted_child (child.Comment text) p = refl
  put_counted_child (child.Doctype parts) p = refl

  put_counted_place : (c : Child) (p : Place) → applied t (Put c (counted_place p)) ≡ applied t (Put c p)
  put_counted_place c (Into parent) = by_ref t (λ r. applied t (Put c (Into r))) (λ r e. put_nowhere t c (Into r) e) h parent
  put_counted_place c (Foster table above) =
      by_ref t (λ r. applied t (Put c (Foster r (counted above)))) (λ r e. put_nowhere t c (Foster r (counted above)) (ap (λ b. b && is_there t (counted above)) e)) h table
      ∙ by_ref t (λ r. applied t (Put c (Foster table r))) (λ r e. put_nowhere t c (Foster table r) (and_false (is_there t table) (is_there t r) e)) h above

  counted_makes_same : (e : Edit) → applied t (counted_edit e) ≡ applied t e
  counted_makes_same (NewElement tag) = refl
  counted_makes_same (Put what place) = put_counted_child what (counted_place place) ∙ put_counted_place what place
  counted_makes_same (Detach node) = by_ref t (λ r. applied t (Detach r)) (λ r e. ap (λ b. if b && not (id_of r == 0) then detached t (id_of r) else t) e) h node
  counted_makes_same (MoveChildren from to) =
      by_ref t (λ r. applied t (MoveChildren r (counted to)))
      (λ r e. ap (λ b. if b && is_there t (counted to) && not (id_of r == id_of (counted to)) then children_moved t (id_of r) (id_of (counted to)) else t) e) h from
      ∙ by_ref t (λ r. applied t (MoveChildren from r))
      (λ r e. second_fails (is_there t from) (is_there t r) (not (id_of from == id_of r)) (children_moved t (id_of from) (id_of r)) t e) h to
  counted_makes_same (AddMissing node more) =
      by_ref t (λ r. applied t (AddMissing r more)) (λ r e. ap (λ b. if b then with_tag t (id_of r) (with_attributes (branch t (id_of r)).tag more) else t) e) h node

pub told_makes_same : ToldMakesSame
told_makes_same s t [] h = refl
told_makes_same s t (e ∷ es) h =
    let f = told_over s.stack s.next in
    let short : length t < 2 ^ 64 = omega (arith, h, longer t (f e), longer_all (applied t (f e)) (map f es)) in
    let first = counted_makes_same t short (named_edit_over s.stack s.next e) ∙ ap (applied t) (sym (named_over s e)) in
    told_makes_same s (applied t (f e)) es h ∙ ap (λ u. applied_all u (map (named_edit s) es)) first
