-- What names elements that are there: lists of edits, the stack, places.
use Rattle.std.proofs.Common.{◌≡◌, ℕ, ◌+◌, ◌<◌, ◌≤◌, List, [], ◌∷◌, ◌++◌, Bool, true, false, refl, subst, arith, Option, None, Some}
use Rattle.std.specs.Prelude.{All, IfSome, nat_lt, ◌&&◌, if◌then◌else◌}
use Rattle.std.specs.List.{list_all}
use Rattle.std.proofs.lemmas.Bool.{and_from, and_parts, lt-ltb}
use Rattle.std.proofs.lemmas.List.Elements.{All-nil, All-cons, All-head, All-tail}
use Rattle.hp_elements.specs.KnownNames as known
use Rattle.hp_control.specs.declared.edit.Child.{Child}
use Rattle.hp_control.specs.declared.edit.Child.TheVariants as child
use Rattle.hp_control.specs.declared.edit.Edit.{Edit}
use Rattle.hp_control.specs.declared.edit.Edit.TheVariants.{Put}
use Rattle.hp_control.specs.declared.edit.Place.{Place}
use Rattle.hp_control.specs.declared.edit.Place.TheVariants.{Into, Foster}
use Rattle.hp_control.specs.declared.edit.Ref.TheVariants.{Fixed}
use Rattle.hp_control.specs.declared.element.OpenElement.{OpenElement}
use Rattle.hp_control.specs.Acts.{current_id, first_id, foster_place, is_foster_parent, place, second_id}
use Rattle.hp_control.specs.States.{is_named, is_template}
use Rattle.hp_control.specs.Tree.{id_of}
use Rattle.hp_groves.specs.Split.{ids, made, made_by, name_what_is_there, parent_id, table_ids}
use Rattle.hp_growing.specs.Naming.{NamesThere}

-- edits, one list after the other
made-append : (es fs : List Edit) → made_by (es ++ fs) ≡ made_by es + made_by fs
made-append [] fs = omega arith
made-append (e ∷ es) fs = let h : made_by (es ++ fs) ≡ made_by es + made_by fs = made-append es fs in omega arith

named-append : (next : ℕ) (es fs : List Edit) → name_what_is_there next es ≡ true → name_what_is_there (next + made_by es) fs ≡ true → name_what_is_there next (es ++ fs) ≡ true
named-append next [] fs h k = let q : next + 0 ≡ next = omega arith in subst (λ n. name_what_is_there n fs ≡ true) q k
named-append next (e ∷ es) fs h k =
    let parts = and_parts (list_all (λ id. nat_lt id next) (ids e)) (name_what_is_there (next + made e) es) h in
    let q : next + (made e + made_by es) ≡ next + made e + made_by es = omega arith in
    and_from (list_all (λ id. nat_lt id next) (ids e)) (name_what_is_there (next + made e) (es ++ fs)) parts.0
    (named-append (next + made e) es fs parts.1 (subst (λ n. name_what_is_there n fs ≡ true) q k))

pub names_none : (next : ℕ) → NamesThere next [] next
names_none next = record { named = refl; counted = omega arith }

pub names_then : (a b c : ℕ) (es fs : List Edit) → NamesThere a es b → NamesThere b fs c → NamesThere a (es ++ fs) c
names_then a b c es fs f g = record {
  named = named-append a es fs f.named (subst (λ n. name_what_is_there n fs ≡ true) f.counted g.named);
  counted =
      let h : b ≡ a + made_by es = f.counted in
      let k : c ≡ b + made_by fs = g.counted in
      let m : made_by (es ++ fs) ≡ made_by es + made_by fs = made-append es fs in
      omega arith;
}

pub names-later : (a b : ℕ) (es : List Edit) → NamesThere a es b → a ≤ b
names-later a b es f = let h : b ≡ a + made_by es = f.counted in omega arith

-- the ids of the stack
abbrev pub IsThere : ℕ → OpenElement → Type 0
IsThere next e = e.id < next

abbrev pub AreThere : ℕ → List OpenElement → Type 0
AreThere next es = All (IsThere next) es

pub there-later : (n m : ℕ) (es : List OpenElement) → n ≤ m → AreThere n es → AreThere m es
there-later n m [] l h = All-nil (IsThere m)
there-later n m (e ∷ es) l h =
    let k : e.id < n = All-head (IsThere n) e es h in
    All-cons (IsThere m) e es (omega arith) (there-later n m es l (All-tail (IsThere n) e es h))

pub head-later : (n m : ℕ) (o : Option ℕ) → n ≤ m → IfSome o (λ id. id < n) → IfSome o (λ id. id < m)
head-later n m None l h = tt
head-later n m (Some id) l h = let k : id < n = h in omega arith

-- an id, a place, a child
pub one-there : (next id : ℕ) → id < next → list_all (λ i. nat_lt i next) (id ∷ []) ≡ true
one-there next id h = and_from (nat_lt id next) true (lt-ltb id next h) refl

pub two-there : (next id other : ℕ) → id < next → other < next → list_all (λ i. nat_lt i next) (id ∷ other ∷ []) ≡ true
two-there next id other h k = and_from (nat_lt id next) (list_all (λ i. nat_lt i next) (other ∷ [])) (lt-ltb id next h) (one-there next other k)

abbrev pub PlaceThere : ℕ → Place → Type 0
PlaceThere next (Into parent) = id_of parent < next
PlaceThere next (Foster table above) = (id_of table < next) × (id_of above < next)

abbrev pub ChildThere : ℕ → Child → Type 0
ChildThere next (child.Element node) = id_of node < next
ChildThere next (child.Text text) = Unit {0}
ChildThere next (child.Comment text) = Unit {0}
ChildThere next (child.Doctype parts) = Unit {0}

pub place-later : (n m : ℕ) (p : Place) → n ≤ m → PlaceThere n p → PlaceThere m p
place-later n m (Into parent) l h = omega arith
place-later n m (Foster table above) l h =
    let a : id_of table < n = h.0 in
    let b : id_of above < n = h.1 in
    (omega arith, omega arith)

place-ids : (next : ℕ) (p : Place) → PlaceThere next p → list_all (λ i. nat_lt i next) (table_ids p ++ parent_id p ∷ []) ≡ true
place-ids next (Into parent) h = one-there next (id_of parent) h
place-ids next (Foster table above) h = two-there next (id_of table) (id_of above) h.0 h.1

put-ids : (next : ℕ) (what : Child) (p : Place) → ChildThere next what → PlaceThere next p → list_all (λ i. nat_lt i next) (ids (Put what p)) ≡ true
put-ids next (child.Element node) p c h = and_from (nat_lt (id_of node) next) (list_all (λ i. nat_lt i next) (table_ids p ++ parent_id p ∷ [])) (lt-ltb (id_of node) next c) (place-ids next p h)
put-ids next (child.Text text) p c h = place-ids next p h
put-ids next (child.Comment text) p c h = place-ids next p h
put-ids next (child.Doctype parts) p c h = place-ids next p h

-- an edit before others
pub named-cons : (next : ℕ) (e : Edit) (es : List Edit) → list_all (λ i. nat_lt i next) (ids e) ≡ true → name_what_is_there (next + made e) es ≡ true → name_what_is_there next (e ∷ es) ≡ true
named-cons next e es h k = and_from (list_all (λ i. nat_lt i next) (ids e)) (name_what_is_there (next + made e) es) h k

pub named-put : (next : ℕ) (what : Child) (p : Place) (es : List Edit) → ChildThere next what → PlaceThere next p → name_what_is_there (next + 0) es ≡ true → name_what_is_there next (Put what p ∷ es) ≡ true
named-put next what p es c h k = named-cons next (Put what p) es (put-ids next what p c h) k

-- where content goes
foster-there : (next : ℕ) (es : List OpenElement) → 0 < next → AreThere next es → PlaceThere next (foster_place es)
foster-there next [] d h = d
foster-there next (e ∷ []) d h = All-head (IsThere next) e [] h
foster-there next (e ∷ f ∷ es) d h = go (is_template e) (is_named known.Table e) (foster-there next (f ∷ es) d (All-tail (IsThere next) e (f ∷ es) h))
  where
    here : e.id < next
    here = All-head (IsThere next) e (f ∷ es) h

    below : f.id < next
    below = All-head (IsThere next) f es (All-tail (IsThere next) e (f ∷ es) h)

    go : (a b : Bool) → PlaceThere next (foster_place (f ∷ es)) → PlaceThere next (if a then Into (Fixed e.id) else if b then Foster (Fixed e.id) (Fixed f.id) else foster_place (f ∷ es))
    go true b rest = here
    go false true rest = (here, below)
    go false false rest = rest

pub place-there : (next : ℕ) (fostering : Bool) (es : List OpenElement) → 0 < next → AreThere next es → PlaceThere next (place fostering es)
place-there next fostering [] d h = d
place-there next fostering (e ∷ es) d h = go (fostering && is_foster_parent e)
  where
    go : (b : Bool) → PlaceThere next (if b then foster_place (e ∷ es) else Into (Fixed e.id))
    go true = foster-there next (e ∷ es) d h
    go false = All-head (IsThere next) e es h

-- the current node, the first element and the second
pub current-there : (next : ℕ) (es : List OpenElement) → 0 < next → AreThere next es → current_id es < next
current-there next [] d h = d
current-there next (e ∷ es) d h = All-head (IsThere next) e es h

pub first-there : (next : ℕ) (es : List OpenElement) → 0 < next → AreThere next es → first_id es < next
first-there next [] d h = d
first-there next (e ∷ []) d h = All-head (IsThere next) e [] h
first-there next (e ∷ f ∷ es) d h = first-there next (f ∷ es) d (All-tail (IsThere next) e (f ∷ es) h)

pub second-there : (next : ℕ) (es : List OpenElement) → 0 < next → AreThere next es → second_id es < next
second-there next [] d h = d
second-there next (e ∷ []) d h = d
second-there next (e ∷ f ∷ []) d h = All-head (IsThere next) e (f ∷ []) h
second-there next (e ∷ f ∷ g ∷ es) d h = second-there next (f ∷ g ∷ es) d (All-tail (IsThere next) e (f ∷ g ∷ es) h)
