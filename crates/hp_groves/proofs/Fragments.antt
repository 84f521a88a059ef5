-- A fragment's edits split alike over each state.
use Rattle.std.proofs.Common.{◌≡◌, ℕ, zero, suc, ◌+◌, ◌-◌, ◌<◌, Bool, true, false, ◌==◌, List, [], ◌∷◌, ◌++◌, length, map, drop, replicate, refl, sym, ap, ◌∙◌, subst, inl, inr, arith}
use Rattle.std.specs.Prelude.{if◌then◌else◌, ◌||◌, ◌&&◌, nat_lt}
use Rattle.std.specs.List.{flat_map, list_all, list_any}
use Rattle.std.proofs.lemmas.Bool.{and_from, and_parts, cases_Bool, cases_lt, eq-eqb, eqb-true, le-ltb, lt-ltb, ltb-true, ne_eqb, or_cases, or_from, or_left, or_parts, or_right, false≢true, true≢false}
use Rattle.std.proofs.lemmas.List.{ext_get_or, get_or-drop, get_or-map, get_or_past, length-drop, length-map, length-replicate}
use Rattle.std.proofs.lemmas.List.Folds.{list_any-append}
use Rattle.hp_control.specs.declared.edit.Child.{Child}
use Rattle.hp_control.specs.declared.edit.Child.TheVariants as child
use Rattle.hp_control.specs.declared.edit.Edit.{Edit}
use Rattle.hp_control.specs.declared.edit.Edit.TheVariants.{NewElement, Put, Detach, MoveChildren, AddMissing}
use Rattle.hp_control.specs.declared.edit.Place.{Place}
use Rattle.hp_control.specs.declared.edit.Place.TheVariants.{Into, Foster}
use Rattle.hp_control.specs.declared.edit.Ref.{Ref}
use Rattle.hp_control.specs.declared.edit.Ref.TheVariants.{Fixed, Older, Own}
use Rattle.hp_control.specs.Apply.{named, named_child, named_edit, named_place}
use Rattle.hp_control.specs.States.{ControlState}
use Rattle.hp_control.specs.Tree.{applied, Branch, Item, Element, Text, Comment, Doctype, Tree, applied_all, id_of, is_element, no_branch, stands_in}
use Rattle.hp_groves.specs.Grafts.{graft, renumbered, renumbered_item}
use Rattle.hp_groves.specs.Laws.{GroveIsOwn, OuterIsOwn, OwnMakesSame}
use Rattle.hp_groves.specs.Naming.{IsBelow, child_refs, child_by, edit_by, is_own, names_older, outer_before, own_at, own_grove, own_outer, place_by, place_refs, refs}
use Rattle.hp_groves.specs.Split.{Hand, Parts, after_inner, after_outer, empty_hand, grove_of, ids, is_among, is_outer, moved, name_what_is_there, outer_first, outer_of, parents_from, parents_named, parents_touched, split_from}
use Rattle.hp_groves.proofs.Among.{among-none}
use Rattle.hp_groves.proofs.Branches.{inside, tag}
use Rattle.hp_groves.proofs.Grafting.{blank-inside}
use Rattle.hp_groves.proofs.Groves.{no-grove}
use Rattle.hp_groves.proofs.Renumbering.{recount, same-number}
use Rattle.hp_groves.proofs.Shifting.{IsOwnChild, IsOwnEdit, IsOwnPlace, IsOwnRef, Shifted, blank-none, same-tests, shifted-after, stands-as}
use Rattle.hp_groves.proofs.Splitting.{split-makes_same}

-- the id that a reference gets by a name, and that over a state it is to an own or to an older element
abbrev id_by : (Ref → Ref) → Ref → ℕ
id_by name r = id_of (name r)

abbrev is_right : ControlState → Ref → Bool
is_right s r = is_own r || nat_lt (id_by (named s) r) s.next

abbrev table_refs : Place → List Ref
table_refs (Into parent) = []
table_refs (Foster table above) = table ∷ []

abbrev parent_ref : Place → Ref
parent_ref (Into parent) = parent
parent_ref (Foster table above) = above

abbrev moved_refs : Edit → List Ref
moved_refs (NewElement tag) = []
moved_refs (Put c place) = child_refs c ++ table_refs place
moved_refs (Detach node) = node ∷ []
moved_refs (MoveChildren from to) = []
moved_refs (AddMissing node more) = []

abbrev parents_refs : Edit → List Ref
parents_refs (NewElement tag) = []
parents_refs (Put c place) = parent_ref place ∷ []
parents_refs (Detach node) = []
parents_refs (MoveChildren from to) = from ∷ to ∷ []
parents_refs (AddMissing node more) = []

ids-named : (f : Ref → Ref) (e : Edit) → ids (edit_by f e) ≡ map (id_by f) (refs e)
ids-named f (NewElement tag) = refl
ids-named f (Put (child.Element node) (Into parent)) = refl
ids-named f (Put (child.Element node) (Foster table above)) = refl
ids-named f (Put (child.Text text) (Into parent)) = refl
ids-named f (Put (child.Text text) (Foster table above)) = refl
ids-named f (Put (child.Comment text) (Into parent)) = refl
ids-named f (Put (child.Comment text) (Foster table above)) = refl
ids-named f (Put (child.Doctype parts) (Into parent)) = refl
ids-named f (Put (child.Doctype parts) (Foster table above)) = refl
ids-named f (Detach node) = refl
ids-named f (MoveChildren from to) = refl
ids-named f (AddMissing node more) = refl

moved-over : (f : Ref → Ref) (e : Edit) → moved (edit_by f e) ≡ map (id_by f) (moved_refs e)
moved-over f (NewElement tag) = refl
moved-over f (Put (child.Element node) (Into parent)) = refl
moved-over f (Put (child.Element node) (Foster table above)) = refl
moved-over f (Put (child.Text text) (Into parent)) = refl
moved-over f (Put (child.Text text) (Foster table above)) = refl
moved-over f (Put (child.Comment text) (Into parent)) = refl
moved-over f (Put (child.Comment text) (Foster table above)) = refl
moved-over f (Put (child.Doctype parts) (Into parent)) = refl
moved-over f (Put (child.Doctype parts) (Foster table above)) = refl
moved-over f (Detach node) = refl
moved-over f (MoveChildren from to) = refl
moved-over f (AddMissing node more) = refl

parents-over : (f : Ref → Ref) (e : Edit) → parents_named (edit_by f e) ≡ map (id_by f) (parents_refs e)
parents-over f (NewElement tag) = refl
parents-over f (Put c (Into parent)) = refl
parents-over f (Put c (Foster table above)) = refl
parents-over f (Detach node) = refl
parents-over f (MoveChildren from to) = refl
parents-over f (AddMissing node more) = refl

-- what all references pass, those among them pass
all-left : (P : Ref → Bool) (xs ys : List Ref) → list_all P (xs ++ ys) ≡ true → list_all P xs ≡ true
all-left P [] ys h = refl
all-left P (x ∷ xs) ys h = let parts = and_parts (P x) (list_all P (xs ++ ys)) h in and_from _ _ parts.0 (all-left P xs ys parts.1)

all-right : (P : Ref → Bool) (xs ys : List Ref) → list_all P (xs ++ ys) ≡ true → list_all P ys ≡ true
all-right P [] ys h = h
all-right P (x ∷ xs) ys h = all-right P xs ys (and_parts (P x) (list_all P (xs ++ ys)) h).1

all-both : (P : Ref → Bool) (xs ys : List Ref) → list_all P xs ≡ true → list_all P ys ≡ true → list_all P (xs ++ ys) ≡ true
all-both P [] ys h k = k
all-both P (x ∷ xs) ys h k = let parts = and_parts (P x) (list_all P xs) h in and_from _ _ parts.0 (all-both P xs ys parts.1 k)

tables-pass : (P : Ref → Bool) (place : Place) → list_all P (place_refs place) ≡ true → list_all P (table_refs place) ≡ true
tables-pass P (Into parent) h = refl
tables-pass P (Foster table above) h = and_from _ _ (and_parts (P table) (P above && true) h).0 refl

parent-pass : (P : Ref → Bool) (place : Place) → list_all P (place_refs place) ≡ true → (P (parent_ref place) && true) ≡ true
parent-pass P (Into parent) h = h
parent-pass P (Foster table above) h = (and_parts (P table) (P above && true) h).1

moved-pass : (P : Ref → Bool) (e : Edit) → list_all P (refs e) ≡ true → list_all P (moved_refs e) ≡ true
moved-pass P (NewElement tag) h = refl
moved-pass P (Put c place) h = all-both P (child_refs c) (table_refs place) (all-left P (child_refs c) (place_refs place) h) (tables-pass P place (all-right P (child_refs c) (place_refs place) h))
moved-pass P (Detach node) h = h
moved-pass P (MoveChildren from to) h = refl
moved-pass P (AddMissing node more) h = refl

parents-pass : (P : Ref → Bool) (e : Edit) → list_all P (refs e) ≡ true → list_all P (parents_refs e) ≡ true
parents-pass P (NewElement tag) h = refl
parents-pass P (Put c place) h = parent-pass P place (all-right P (child_refs c) (place_refs place) h)
parents-pass P (Detach node) h = refl
parents-pass P (MoveChildren from to) h = h
parents-pass P (AddMissing node more) h = refl

own-ref : (r : Ref) → is_own r ≡ true → IsOwnRef r
own-ref (Fixed id) h = false≢true h
own-ref (Older depth) h = false≢true h
own-ref (Own number) h = tt

own-place_refs : (place : Place) → list_all is_own (place_refs place) ≡ true → IsOwnPlace place
own-place_refs (Into parent) h = own-ref parent (and_parts (is_own parent) true h).0
own-place_refs (Foster table above) h = let parts = and_parts (is_own table) (is_own above && true) h in (own-ref table parts.0, own-ref above (and_parts (is_own above) true parts.1).0)

own-edit_refs : (e : Edit) → list_all is_own (refs e) ≡ true → IsOwnEdit e
own-edit_refs (NewElement tag) h = tt
own-edit_refs (Put (child.Element node) place) h = let parts = and_parts (is_own node) (list_all is_own (place_refs place)) h in (own-ref node parts.0, own-place_refs place parts.1)
own-edit_refs (Put (child.Text text) place) h = (tt, own-place_refs place h)
own-edit_refs (Put (child.Comment text) place) h = (tt, own-place_refs place h)
own-edit_refs (Put (child.Doctype parts) place) h = (tt, own-place_refs place h)
own-edit_refs (Detach node) h = own-ref node (and_parts (is_own node) true h).0
own-edit_refs (MoveChildren from to) h = let parts = and_parts (is_own from) (is_own to && true) h in (own-ref from parts.0, own-ref to (and_parts (is_own to) true parts.1).0)
own-edit_refs (AddMissing node more) h = own-ref node (and_parts (is_own node) true h).0

-- where none is older, all are own
none-older : (s : ControlState) (rs : List Ref) → list_all (is_right s) rs ≡ true → list_any (λ id. nat_lt id s.next) (map (id_by (named s)) rs) ≡ false → list_all is_own rs ≡ true
none-older s [] h k = refl
none-older s (r ∷ rs) h k =
    let parts = and_parts (is_right s r) (list_all (is_right s) rs) h in
    let none = or_parts (nat_lt (id_by (named s) r) s.next) (list_any (λ id. nat_lt id s.next) (map (id_by (named s)) rs)) k in
    let own : is_own r ≡ true = elim (or_cases (is_own r) (nat_lt (id_by (named s) r) s.next) parts.0) [ inl o ↦ o | inr o ↦ absurd (true≢false (sym o ∙ none.0)) ] in
    and_from _ _ own (none-older s rs parts.1 none.1)

-- Ids in lists of their own.
any-flat : (test : ℕ → Bool) (f : ℕ → List ℕ) (xs : List ℕ) → list_any test (flat_map f xs) ≡ list_any (λ x. list_any test (f x)) xs
any-flat test f [] = refl
any-flat test f (x ∷ xs) = list_any-append test (f x) (flat_map f xs) ∙ ap (λ b. list_any test (f x) || b) (any-flat test f xs)

among-any : (test : ℕ → Bool) (xs : List ℕ) (x : ℕ) → is_among xs x ≡ true → test x ≡ true → list_any test xs ≡ true
among-any test [] x m h = absurd (false≢true m)
among-any test (y ∷ ys) x m h =
    elim (or_cases (y == x) (is_among ys x) m) [
      | inl e ↦ or_left (test y) (list_any test ys) (ap test (eqb-true y x e) ∙ h)
      | inr l ↦ or_right (test y) (list_any test ys) (among-any test ys x l h)
    ]

any-among : (test : ℕ → Bool) (xs : List ℕ) → list_any test xs ≡ true → (x : ℕ) × (is_among xs x ≡ true) × (test x ≡ true)
any-among test [] h = absurd (false≢true h)
any-among test (y ∷ ys) h =
    elim (or_cases (test y) (list_any test ys) h) [
      | inl e ↦ (y, or_left (y == y) (is_among ys y) (eq-eqb y y refl), e)
      | inr l ↦ let more = any-among test ys l in (more.0, or_right (y == more.0) (is_among ys more.0) more.1, more.2)
    ]

not-here : (b : Bool) (first x : ℕ) → (first == x) ≡ false → is_among (if b then first ∷ [] else []) x ≡ false
not-here true first x h = or_from _ _ h refl
not-here false first x h = refl

here-or-not : (b : Bool) (first : ℕ) → is_among (if b then first ∷ [] else []) first ≡ b
here-or-not true first = or_left (first == first) false (eq-eqb first first refl)
here-or-not false first = refl

or-nothing : (a : Bool) → (a || false) ≡ a
or-nothing true = refl
or-nothing false = refl

parents-later : (first : ℕ) (t : Tree) (id x : ℕ) → x < first → is_among (parents_from first t id) x ≡ false
parents-later first [] id x h = refl
parents-later first (b ∷ bs) id x h =
    list_any-append (λ y. y == x) (if list_any (is_element id) b.inside then first ∷ [] else []) (parents_from (first + 1) bs id)
    ∙ or_from _ _ (not-here (list_any (is_element id) b.inside) first x (ne_eqb first x (λ e. absurd (omega (arith, e, h))))) (parents-later (first + 1) bs id x (omega arith))

-- the parents of an element are those among whose children it stands
parents-stand : (first : ℕ) (t : Tree) (id i : ℕ) → is_among (parents_from first t id) (first + i) ≡ stands_in t i id
parents-stand first [] id i = refl
parents-stand first (b ∷ bs) id zero =
    let same : first + 0 ≡ first = omega arith in
    let here = list_any (is_element id) b.inside in
    ap (λ x. is_among (parents_from first (b ∷ bs) id) x) same
    ∙ list_any-append (λ y. y == first) (if here then first ∷ [] else []) (parents_from (first + 1) bs id)
    ∙ ap (λ x. is_among (if here then first ∷ [] else []) first || x) (parents-later (first + 1) bs id first (omega arith))
    ∙ or-nothing (is_among (if here then first ∷ [] else []) first) ∙ here-or-not here first
parents-stand first (b ∷ bs) id (suc i) =
    let same : first + suc i ≡ first + 1 + i = omega arith in
    let here = list_any (is_element id) b.inside in
    ap (λ x. is_among (parents_from first (b ∷ bs) id) x) same
    ∙ list_any-append (λ y. y == first + 1 + i) (if here then first ∷ [] else []) (parents_from (first + 1) bs id)
    ∙ ap (λ x. x || is_among (parents_from (first + 1) bs id) (first + 1 + i)) (not-here here first (first + 1 + i) (ne_eqb first (first + 1 + i) (λ e. absurd (omega (arith, e)))))
    ∙ parents-stand (first + 1) bs id i

parents-are : (t : Tree) (id i : ℕ) → is_among (parents_from 0 t id) i ≡ stands_in t i id
parents-are t id i = let same : i ≡ 0 + i = omega arith in ap (λ x. is_among (parents_from 0 t id) x) same ∙ parents-stand 0 t id i

-- by one of two tests that are the same
by-tests : {X Y : Type 0} (P : X → Y → Type 0) (a b : Bool) (x x' : X) (y y' : Y) → a ≡ b → (a ≡ true → P x y) → (a ≡ false → P x' y') → P (if a then x else x') (if b then y else y')
by-tests P true true x x' y y' e h k = h refl
by-tests P true false x x' y y' e h k = absurd (true≢false e)
by-tests P false true x x' y y' e h k = absurd (false≢true e)
by-tests P false false x x' y y' e h k = k refl

module _ (s : ControlState) (hs : 0 < s.next) (m : ℕ) (hu : 0 < m) where
  abbrev n : ℕ
  n = s.next

  any-refs : (P : Ref → Bool) (test test' : ℕ → Bool) → ((r : Ref) → P r ≡ true → test (id_by (named s) r) ≡ test' (id_by (own_at m) r)) → (rs : List Ref) → list_all P rs ≡ true
      → list_any test (map (id_by (named s)) rs) ≡ list_any test' (map (id_by (own_at m)) rs)
  any-refs P test test' f [] h = refl
  any-refs P test test' f (r ∷ rs) h =
      let ph = and_parts (P r) (list_all P rs) h in
      ap (λ b. b || list_any test (map (id_by (named s)) rs)) (f r ph.0) ∙ ap (λ b. test' (id_by (own_at m) r) || b) (any-refs P test test' f rs ph.1)

  document-older : nat_lt 0 m ≡ true
  document-older = lt-ltb 0 m hu

  older-same : (r : Ref) → is_right s r ≡ true → nat_lt (id_by (named s) r) n ≡ nat_lt (id_by (own_at m) r) m
  older-same (Fixed id) h = h ∙ sym document-older
  older-same (Older depth) h = h ∙ sym document-older
  older-same (Own number) h = le-ltb (n + number) n (omega arith) ∙ sym (le-ltb (m + number) m (omega arith))

  older-apart : (next id i : ℕ) → nat_lt id next ≡ true → (id == next + i) ≡ false
  older-apart next id i h = ne_eqb id (next + i) (λ e. absurd (omega (arith, e, ltb-true id next h)))

  id-same : (i : ℕ) (r : Ref) → is_right s r ≡ true → (id_by (named s) r == n + i) ≡ (id_by (own_at m) r == m + i)
  id-same i (Fixed id) h = older-apart n id i h ∙ sym (older-apart m 0 i document-older)
  id-same i (Older depth) h = older-apart n (id_by (named s) (Older depth)) i h ∙ sym (older-apart m 0 i document-older)
  id-same i (Own number) h = same-number n m number i

  by-own : (test test' : ℕ → Bool) → ((i : ℕ) → test (n + i) ≡ test' (m + i)) → (r : Ref) → is_own r ≡ true → test (id_by (named s) r) ≡ test' (id_by (own_at m) r)
  by-own test test' f (Fixed id) o = absurd (false≢true o)
  by-own test test' f (Older depth) o = absurd (false≢true o)
  by-own test test' f (Own number) o = f number

  record Twins (h k : Hand) : Type 0 where
    trees : Shifted n m h.grove k.grove
    children : (i : ℕ) → h.children (n + i) ≡ k.children (m + i)
    parent : (i : ℕ) → h.parent (n + i) ≡ k.parent (m + i)

  stands-same : (g h : Tree) → Shifted n m g h → (i : ℕ) (r : Ref) → is_right s r ≡ true → stands_in g (n + i) (id_by (named s) r) ≡ stands_in h (m + i) (id_by (own_at m) r)
  stands-same g h x i (Fixed id) a = (x.left.own id a).at (n + i) refl ∙ sym ((x.right.own 0 document-older).at (m + i) refl)
  stands-same g h x i (Older depth) a = (x.left.own (id_by (named s) (Older depth)) a).at (n + i) refl ∙ sym ((x.right.own 0 document-older).at (m + i) refl)
  stands-same g h x i (Own number) a = sym (stands-as n m g h x i number)

  -- over the state own elements are named by their ids
  own-place : (place : Place) → IsOwnPlace place → place_by (named s) place ≡ place_by (own_at n) place
  own-place (Into (Fixed id)) o = absurd o
  own-place (Into (Older depth)) o = absurd o
  own-place (Into (Own k)) o = refl
  own-place (Foster (Fixed id) above) o = absurd o.0
  own-place (Foster (Older depth) above) o = absurd o.0
  own-place (Foster (Own c) (Fixed id)) o = absurd o.1
  own-place (Foster (Own c) (Older depth)) o = absurd o.1
  own-place (Foster (Own c) (Own k)) o = refl

  own-child : (c : Child) → IsOwnChild c → child_by (named s) c ≡ child_by (own_at n) c
  own-child (child.Element (Fixed id)) o = absurd o
  own-child (child.Element (Older depth)) o = absurd o
  own-child (child.Element (Own k)) o = refl
  own-child (child.Text text) o = refl
  own-child (child.Comment text) o = refl
  own-child (child.Doctype parts) o = refl

  own-ref_named : (r : Ref) → IsOwnRef r → named s r ≡ own_at n r
  own-ref_named (Fixed id) o = absurd o
  own-ref_named (Older depth) o = absurd o
  own-ref_named (Own k) o = refl

  own-named : (e : Edit) → IsOwnEdit e → edit_by (named s) e ≡ edit_by (own_at n) e
  own-named (NewElement tag) o = refl
  own-named (Put c place) o = ap (λ x. Put x (place_by (named s) place)) (own-child c o.0) ∙ ap (Put (child_by (own_at n) c)) (own-place place o.1)
  own-named (Detach node) o = ap Detach (own-ref_named node o)
  own-named (MoveChildren from to) o = ap (λ x. MoveChildren x (named s to)) (own-ref_named from o.0) ∙ ap (MoveChildren (own_at n from)) (own-ref_named to o.1)
  own-named (AddMissing node more) o = ap (λ x. AddMissing x more) (own-ref_named node o)

  module _ (h k : Hand) (w : Twins h k) (e : Edit) (fs : list_all (is_right s) (refs e) ≡ true) where
    abbrev es : Edit
    es = edit_by (named s) e

    abbrev eu : Edit
    eu = edit_by (own_at m) e

    named-older : list_any (λ id. nat_lt id n) (ids es) ≡ list_any (λ id. nat_lt id m) (ids eu)
    named-older =
        ap (list_any (λ id. nat_lt id n)) (ids-named (named s) e) ∙ any-refs (is_right s) (λ id. nat_lt id n) (λ id. nat_lt id m) older-same (refs e) fs
        ∙ ap (list_any (λ id. nat_lt id m)) (sym (ids-named (own_at m) e))

    moved-same : (i : ℕ) → is_among (moved es) (n + i) ≡ is_among (moved eu) (m + i)
    moved-same i =
        ap (λ xs. is_among xs (n + i)) (moved-over (named s) e)
        ∙ any-refs (is_right s) (λ y. y == n + i) (λ y. y == m + i) (id-same i) (moved_refs e) (moved-pass (is_right s) e fs)
        ∙ ap (λ xs. is_among xs (m + i)) (sym (moved-over (own_at m) e))

    among-touched : (t : Tree) (f : Ref → Ref) (x : ℕ) → is_among (parents_touched t (edit_by f e)) x ≡ (list_any (λ y. y == x) (map (id_by f) (parents_refs e)) || list_any (λ c. is_among (parents_from 0 t c) x) (map (id_by f) (moved_refs e)))
    among-touched t f x =
        list_any-append (λ y. y == x) (parents_named (edit_by f e)) (flat_map (parents_from 0 t) (moved (edit_by f e)))
        ∙ ap (λ xs. is_among xs x || is_among (flat_map (parents_from 0 t) (moved (edit_by f e))) x) (parents-over f e)
        ∙ ap (λ xs. is_among (map (id_by f) (parents_refs e)) x || is_among (flat_map (parents_from 0 t) xs) x) (moved-over f e)
        ∙ ap (λ b. is_among (map (id_by f) (parents_refs e)) x || b) (any-flat (λ y. y == x) (parents_from 0 t) (map (id_by f) (moved_refs e)))

    touched-same : (i : ℕ) → is_among (parents_touched h.grove es) (n + i) ≡ is_among (parents_touched k.grove eu) (m + i)
    touched-same i =
        among-touched h.grove (named s) (n + i)
        ∙ ap (λ b. b || list_any (λ c. is_among (parents_from 0 h.grove c) (n + i)) (map (id_by (named s)) (moved_refs e)))
        (any-refs (is_right s) (λ y. y == n + i) (λ y. y == m + i) (id-same i) (parents_refs e) (parents-pass (is_right s) e fs))
        ∙ ap (λ b. list_any (λ y. y == m + i) (map (id_by (own_at m)) (parents_refs e)) || b)
        (any-refs (is_right s) (λ c. is_among (parents_from 0 h.grove c) (n + i)) (λ c. is_among (parents_from 0 k.grove c) (m + i))
        (λ r a. parents-are h.grove (id_by (named s) r) (n + i) ∙ stands-same h.grove k.grove w.trees i r a ∙ sym (parents-are k.grove (id_by (own_at m) r) (m + i)))
        (moved_refs e) (moved-pass (is_right s) e fs))
        ∙ sym (among-touched k.grove (own_at m) (m + i))

    twins-outer : Twins (after_outer h es) (after_outer k eu)
    twins-outer = record {
      trees = w.trees;
      children = λ i. ap (λ b. b || is_among (parents_touched h.grove es) (n + i)) (w.children i) ∙ ap (λ b. k.children (m + i) || b) (touched-same i);
      parent = λ i. ap (λ b. b || is_among (moved es) (n + i)) (w.parent i) ∙ ap (λ b. k.parent (m + i) || b) (moved-same i);
    }

    -- where nothing older is named
    module _ (none : list_any (λ id. nat_lt id n) (ids es) ≡ false) where
      own-refs : list_all is_own (refs e) ≡ true
      own-refs = none-older s (refs e) fs (ap (list_any (λ id. nat_lt id n)) (sym (ids-named (named s) e)) ∙ none)

      any-own : (test test' : ℕ → Bool) → ((i : ℕ) → test (n + i) ≡ test' (m + i)) → (rs : List Ref) → list_all is_own rs ≡ true → list_any test (map (id_by (named s)) rs) ≡ list_any test' (map (id_by (own_at m)) rs)
      any-own test test' f rs o = any-refs is_own test test' (by-own test test' f) rs o

      parent-same : list_any h.parent (moved es) ≡ list_any k.parent (moved eu)
      parent-same =
          ap (list_any h.parent) (moved-over (named s) e) ∙ any-own h.parent k.parent w.parent (moved_refs e) (moved-pass is_own e own-refs) ∙ ap (list_any k.parent) (sym (moved-over (own_at m) e))

      parents-there : (c : ℕ) → list_any h.children (parents_from 0 h.grove (n + c)) ≡ true → list_any k.children (parents_from 0 k.grove (m + c)) ≡ true
      parents-there c p =
          let at = any-among h.children (parents_from 0 h.grove (n + c)) p in
          let st : stands_in h.grove at.0 (n + c) ≡ true = sym (parents-are h.grove (n + c) at.0) ∙ at.1 in
          elim (cases_lt at.0 n) [
            | inl below ↦ absurd (false≢true (sym (blank-none n h.grove (n + c) at.0 w.trees.left below) ∙ st))
            | inr above ↦
                let j = at.0 - n in
                let sum : at.0 ≡ n + j = omega arith in
                among-any k.children (parents_from 0 k.grove (m + c)) (m + j)
                (parents-are k.grove (m + c) (m + j) ∙ stands-as n m h.grove k.grove w.trees j c ∙ ap (λ i. stands_in h.grove i (n + c)) (sym sum) ∙ st)
                (sym (w.children j) ∙ ap h.children (sym sum) ∙ at.2)
          ]

      parents-back : (c : ℕ) → list_any k.children (parents_from 0 k.grove (m + c)) ≡ true → list_any h.children (parents_from 0 h.grove (n + c)) ≡ true
      parents-back c p =
          let at = any-among k.children (parents_from 0 k.grove (m + c)) p in
          let st : stands_in k.grove at.0 (m + c) ≡ true = sym (parents-are k.grove (m + c) at.0) ∙ at.1 in
          elim (cases_lt at.0 m) [
            | inl below ↦ absurd (false≢true (sym (blank-none m k.grove (m + c) at.0 w.trees.right below) ∙ st))
            | inr above ↦
                let j = at.0 - m in
                let sum : at.0 ≡ m + j = omega arith in
                among-any h.children (parents_from 0 h.grove (n + c)) (n + j)
                (parents-are h.grove (n + c) (n + j) ∙ sym (stands-as n m h.grove k.grove w.trees j c) ∙ ap (λ i. stands_in k.grove i (m + c)) (sym sum) ∙ st)
                (w.children j ∙ ap k.children (sym sum) ∙ at.2)
          ]

      any-touched : (t : Tree) (f : Ref → Ref) (test : ℕ → Bool) → list_any test (parents_touched t (edit_by f e)) ≡ (list_any test (map (id_by f) (parents_refs e)) || list_any (λ c. list_any test (parents_from 0 t c)) (map (id_by f) (moved_refs e)))
      any-touched t f test =
          list_any-append test (parents_named (edit_by f e)) (flat_map (parents_from 0 t) (moved (edit_by f e)))
          ∙ ap (λ xs. list_any test xs || list_any test (flat_map (parents_from 0 t) (moved (edit_by f e)))) (parents-over f e)
          ∙ ap (λ xs. list_any test (map (id_by f) (parents_refs e)) || list_any test (flat_map (parents_from 0 t) xs)) (moved-over f e)
          ∙ ap (λ b. list_any test (map (id_by f) (parents_refs e)) || b) (any-flat test (parents_from 0 t) (map (id_by f) (moved_refs e)))

      children-same : list_any h.children (parents_touched h.grove es) ≡ list_any k.children (parents_touched k.grove eu)
      children-same =
          any-touched h.grove (named s) h.children
          ∙ ap (λ b. b || list_any (λ c. list_any h.children (parents_from 0 h.grove c)) (map (id_by (named s)) (moved_refs e))) (any-own h.children k.children w.children (parents_refs e) (parents-pass is_own e own-refs))
          ∙ ap (λ b. list_any k.children (map (id_by (own_at m)) (parents_refs e)) || b)
          (any-own (λ c. list_any h.children (parents_from 0 h.grove c)) (λ c. list_any k.children (parents_from 0 k.grove c)) (λ c. same-tests _ _ (parents-there c) (parents-back c)) (moved_refs e) (moved-pass is_own e own-refs))
          ∙ sym (any-touched k.grove (own_at m) k.children)

      twins-inner : Twins (after_inner h es) (after_inner k eu)
      twins-inner = record {
        trees =
            subst (λ x. Shifted n m (applied h.grove x) (applied k.grove eu)) (sym (own-named e (own-edit_refs e own-refs)))
            (shifted-after n m hs hu h.grove k.grove w.trees e (own-edit_refs e own-refs)
            (subst (λ x. (c : ℕ) → is_among (ids x) c ≡ true → nat_lt c n ≡ false) (own-named e (own-edit_refs e own-refs)) (among-none (λ id. nat_lt id n) (ids es) none))
            (among-none (λ id. nat_lt id m) (ids eu) (sym named-older ∙ none)));
        children = w.children;
        parent = w.parent;
      }

    outer-same : is_outer n h es ≡ is_outer m k eu
    outer-same =
        elim (cases_Bool (list_any (λ id. nat_lt id n) (ids es))) [
          | inl o ↦ or_left _ _ (or_left _ _ o) ∙ sym (or_left _ _ (or_left _ _ (sym named-older ∙ o)))
          | inr o ↦
              ap (λ b. (b || list_any h.children (parents_touched h.grove es)) || list_any h.parent (moved es)) named-older
              ∙ ap (λ b. (list_any (λ id. nat_lt id m) (ids eu) || b) || list_any h.parent (moved es)) (children-same o)
              ∙ ap (λ b. (list_any (λ id. nat_lt id m) (ids eu) || list_any k.children (parents_touched k.grove eu)) || b) (parent-same o)
        ]

    inner-named : is_outer n h es ≡ false → list_any (λ id. nat_lt id n) (ids es) ≡ false
    inner-named f = (or_parts (list_any (λ id. nat_lt id n) (ids es)) (list_any h.children (parents_touched h.grove es)) (or_parts (list_any (λ id. nat_lt id n) (ids es) || list_any h.children (parents_touched h.grove es)) (list_any h.parent (moved es)) f).0).0

  record Splits (h k : Hand) (es : List Edit) : Type 0 where
    grove : Shifted n m (split_from n h (map (edit_by (named s)) es)).grove (split_from m k (map (edit_by (own_at m)) es)).grove
    outer : outer_before (named s) n h es ≡ outer_before (own_at m) m k es

  splits : (es : List Edit) (h k : Hand) → Twins h k → names_older s es ≡ true → Splits h k es
  splits [] h k w fs = record { grove = w.trees; outer = refl }
  splits (e ∷ es) h k w fs =
      let ps = and_parts (list_all (is_right s) (refs e)) (names_older s es) fs in
      let a = edit_by (named s) e in
      let b = edit_by (own_at m) e in
      let same = outer-same h k w e ps.0 in
      let out = splits es (after_outer h a) (after_outer k b) (twins-outer h k w e ps.0) ps.1 in
      let within : is_outer n h a ≡ false → Splits (after_inner h a) (after_inner k b) es = λ f. splits es (after_inner h a) (after_inner k b) (twins-inner h k w e ps.0 (inner-named h k w e ps.0 f)) ps.1 in
      record {
        grove =
            by-tests (λ (p q : Parts). Shifted n m p.grove q.grove) (is_outer n h a) (is_outer m k b)
            (outer_first a (split_from n (after_outer h a) (map (edit_by (named s)) es))) (split_from n (after_inner h a) (map (edit_by (named s)) es))
            (outer_first b (split_from m (after_outer k b) (map (edit_by (own_at m)) es))) (split_from m (after_inner k b) (map (edit_by (own_at m)) es))
            same (λ _. out.grove) (λ f. (within f).grove);
        outer =
            by-tests (λ (p q : List Edit). p ≡ q) (is_outer n h a) (is_outer m k b)
            (e ∷ outer_before (named s) n (after_outer h a) es) (outer_before (named s) n (after_inner h a) es)
            (e ∷ outer_before (own_at m) m (after_outer k b) es) (outer_before (own_at m) m (after_inner k b) es)
            same (λ _. ap (λ xs. e ∷ xs) out.outer) (λ f. (within f).outer);
      }

  blank-tag : (next i : ℕ) → tag (replicate next no_branch) (next + i) ≡ no_branch.tag
  blank-tag next i = ap (λ (b : Branch). b.tag) (get_or_past (replicate next no_branch) (next + i) no_branch (omega (arith, length-replicate next no_branch)))

  twins-first : Twins (empty_hand n) (empty_hand m)
  twins-first = record {
    trees = record {
      left = no-grove n;
      right = no-grove m;
      sizes = omega (arith, length-replicate n no_branch, length-replicate m no_branch);
      lists = record { at = λ i. blank-inside m (m + i) ∙ ap (map (recount n m)) (sym (blank-inside n (n + i))) };
      tags = record { at = λ i. blank-tag m i ∙ sym (blank-tag n i) };
    };
    children = λ i. refl;
    parent = λ i. refl;
  }

  -- numbered from 0 they are the same
  items-numbered : (xs : List Item) → map (renumbered_item (λ id. id - m)) (map (recount n m) xs) ≡ map (renumbered_item (λ id. id - n)) xs
  items-numbered [] = refl
  items-numbered (Element id ∷ xs) =
      let same : m + (id - n) - m ≡ id - n = omega arith in
      ap (λ k. Element k ∷ map (renumbered_item (λ id. id - m)) (map (recount n m) xs)) same ∙ ap (λ ys. Element (id - n) ∷ ys) (items-numbered xs)
  items-numbered (Text a ∷ xs) = ap (λ ys. Text a ∷ ys) (items-numbered xs)
  items-numbered (Comment a ∷ xs) = ap (λ ys. Comment a ∷ ys) (items-numbered xs)
  items-numbered (Doctype a b c ∷ xs) = ap (λ ys. Doctype a b c ∷ ys) (items-numbered xs)

  groves-numbered : (g h : Tree) → Shifted n m g h → map (renumbered (λ id. id - n)) (drop n g) ≡ map (renumbered (λ id. id - m)) (drop m h)
  groves-numbered g h x =
      let f : Branch → Branch = renumbered (λ id. id - n) in
      let f' : Branch → Branch = renumbered (λ id. id - m) in
      let long : length (map f (drop n g)) ≡ length (drop n g) = length-map (drop n g) f in
      let long' : length (map f' (drop m h)) ≡ length (drop m h) = length-map (drop m h) f' in
      ext_get_or no_branch (map f (drop n g)) (map f' (drop m h))
      (omega (arith, long, long', length-drop n g, length-drop m h, x.sizes, x.left.long, x.right.long))
      (λ i b.
      let here : i < length (drop n g) = omega (arith, long, b) in
      let there : i < length (drop m h) = omega (arith, long, b, length-drop n g, length-drop m h, x.sizes, x.left.long, x.right.long) in
      get_or-map f (drop n g) i no_branch no_branch here ∙ ap f (get_or-drop n g i no_branch)
      ∙ ap (λ y. record { tag = y; inside = map (renumbered_item (λ id. id - n)) (inside g (n + i)) }) (sym (x.tags.at i))
      ∙ ap (λ xs. record { tag = tag h (m + i); inside = xs }) (sym (items-numbered (inside g (n + i))) ∙ ap (map (renumbered_item (λ id. id - m))) (sym (x.lists.at i)))
      ∙ sym (get_or-map f' (drop m h) i no_branch no_branch there ∙ ap f' (get_or-drop m h i no_branch)))

child-named : (s : ControlState) (c : Child) → named_child s c ≡ child_by (named s) c
child-named s (child.Element node) = refl
child-named s (child.Text text) = refl
child-named s (child.Comment text) = refl
child-named s (child.Doctype parts) = refl

place-named : (s : ControlState) (place : Place) → named_place s place ≡ place_by (named s) place
place-named s (Into parent) = refl
place-named s (Foster table above) = refl

-- over a state an edit's references are named
named-by : (s : ControlState) (e : Edit) → named_edit s e ≡ edit_by (named s) e
named-by s (NewElement tag) = refl
named-by s (Put c place) = ap (λ x. Put x (named_place s place)) (child-named s c) ∙ ap (Put (child_by (named s) c)) (place-named s place)
named-by s (Detach node) = refl
named-by s (MoveChildren from to) = refl
named-by s (AddMissing node more) = refl

all-named : (s : ControlState) (es : List Edit) → map (named_edit s) es ≡ map (edit_by (named s)) es
all-named s [] = refl
all-named s (e ∷ es) = ap (λ x. x ∷ map (named_edit s) es) (named-by s e) ∙ ap (λ xs. edit_by (named s) e ∷ xs) (all-named s es)

-- the outer edits named are those of the edits named
outer-named : (f : Ref → Ref) (next : ℕ) (es : List Edit) (h : Hand) → (split_from next h (map (edit_by f) es)).outer ≡ map (edit_by f) (outer_before f next h es)
outer-named f next [] h = refl
outer-named f next (e ∷ es) h =
    let a = edit_by f e in
    by-tests (λ (p : Parts) (os : List Edit). p.outer ≡ map (edit_by f) os) (is_outer next h a) (is_outer next h a)
    (outer_first a (split_from next (after_outer h a) (map (edit_by f) es))) (split_from next (after_inner h a) (map (edit_by f) es))
    (e ∷ outer_before f next (after_outer h a) es) (outer_before f next (after_inner h a) es)
    refl (λ _. ap (λ os. a ∷ os) (outer-named f next es (after_outer h a))) (λ _. outer-named f next es (after_inner h a))

one-below : 0 < 1
one-below = omega arith

alone : (s : ControlState) (es : List Edit) (b : IsBelow s es) → let first : 0 < s.next = b.document in Splits s first 1 one-below (empty_hand s.next) (empty_hand 1) es
alone s es b = let first : 0 < s.next = b.document in splits s first 1 one-below es (empty_hand s.next) (empty_hand 1) (twins-first s first 1 one-below) b.older

pub grove-is_own : GroveIsOwn
grove-is_own s es b = let first : 0 < s.next = b.document in ap (grove_of s.next) (all-named s es) ∙ groves-numbered s first 1 one-below _ _ (alone s es b).grove

pub outer-is_own : OuterIsOwn
outer-is_own s es b =
    ap (outer_of s.next) (all-named s es) ∙ outer-named (named s) s.next es (empty_hand s.next)
    ∙ ap (map (edit_by (named s))) (alone s es b).outer ∙ sym (all-named s (own_outer es))

pub own-makes_same : OwnMakesSame
own-makes_same t s es only long names b =
    let all = map (named_edit s) es in
    split-makes_same t all only (subst (λ k. name_what_is_there k all ≡ true) (sym long) names)
    ∙ ap (λ k. applied_all (graft t (grove_of k all)) (outer_of k all)) long
    ∙ ap (λ g. applied_all (graft t g) (outer_of s.next all)) (grove-is_own s es b)
    ∙ ap (applied_all (graft t (own_grove es))) (outer-is_own s es b)
