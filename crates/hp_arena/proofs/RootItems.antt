-- Which elements come to stand among the children of the document.
use Rattle.std.proofs.Common.{slice_set, ◌≡◌, ◌≢◌, ℕ, ◌==◌, ◌||◌, ◌&&◌, List, [], ◌∷◌, ◌++◌, Bool, true, false, not, if◌then◌else◌, filter, refl, sym, ap, ◌∙◌, subst, inl, inr, ◌⊎◌, Some}
use Rattle.std.specs.List.{list_any}
use Rattle.std.proofs.lemmas.Bool.{true≢false, cases_eq, or_cases, cond_both, cond-true, eq-eqb, eqb-true}
use Rattle.std.proofs.lemmas.List.{get_or-set_other}
use Rattle.hp_control.specs.Tree.{Item, Branch, Tree, branch, no_branch, is_element, beside, put_last, put_before, with_inside, in_each, in_one, detached, stands_in, has_parent, put, put_into, put_child, item_of_doctype, may_be_child, leads_into_document, is_there, is_place, id_of, children_moved, with_tag, with_attributes, applied}
use Rattle.hp_control.specs.Tree as item
use Rattle.hp_control.specs.declared.edit.Child.{Child}
use Rattle.hp_control.specs.declared.edit.Child.TheVariants as child
use Rattle.hp_control.specs.declared.edit.Place.{Place}
use Rattle.hp_control.specs.declared.edit.Place.TheVariants.{Into, Foster}
use Rattle.hp_control.specs.declared.edit.Edit.{Edit}
use Rattle.hp_control.specs.declared.edit.Edit.TheVariants.{NewElement, Put, Detach, MoveChildren, AddMissing}
use Rattle.hp_arena.specs.declared.roots.Roots.{Roots}
use Rattle.hp_arena.specs.declared.roots.Roots.TheVariants as roots
use Rattle.hp_arena.specs.Roots.{has_root_table, may_be_root, with_root, may_lead, roots_after, is_apart, AreRoots}
use Rattle.hp_arena.proofs.Paths.{or-left, or-right}
use Rattle.hp_arena.proofs.Shapes.{make_branch}

-- the element is among the items
abbrev Among : ℕ → List Item → Type 0
Among id xs = list_any (is_element id) xs ≡ true

any-beside : (id : ℕ) (a b : Item) → list_any (is_element id) (beside a b) ≡ (is_element id a || (is_element id b || false))
any-beside id (item.Text a) (item.Text b) = refl
any-beside id (item.Text a) (item.Element j) = refl
any-beside id (item.Text a) (item.Comment b) = refl
any-beside id (item.Text a) (item.Doctype m q r) = refl
any-beside id (item.Element i) (item.Text b) = refl
any-beside id (item.Element i) (item.Element j) = refl
any-beside id (item.Element i) (item.Comment b) = refl
any-beside id (item.Element i) (item.Doctype m q r) = refl
any-beside id (item.Comment a) (item.Text b) = refl
any-beside id (item.Comment a) (item.Element j) = refl
any-beside id (item.Comment a) (item.Comment b) = refl
any-beside id (item.Comment a) (item.Doctype m q r) = refl
any-beside id (item.Doctype n p s) (item.Text b) = refl
any-beside id (item.Doctype n p s) (item.Element j) = refl
any-beside id (item.Doctype n p s) (item.Comment b) = refl
any-beside id (item.Doctype n p s) (item.Doctype m q r) = refl

lone : (a : Bool) → (a || false) ≡ true → a ≡ true
lone true h = refl
lone false h = h

among-beside : (id : ℕ) (a b : Item) → Among id (beside a b) → (is_element id a ≡ true) ⊎ (is_element id b ≡ true)
among-beside id a b h =
    elim (or_cases (is_element id a) (is_element id b || false) (sym (any-beside id a b) ∙ h)) [
      | inl e ↦ inl e
      | inr e ↦ inr (lone (is_element id b) e)
    ]

among-first : (id : ℕ) (x : Item) (xs : List Item) → is_element id x ≡ true → Among id (x ∷ xs)
among-first id x xs e = or-left (is_element id x) (list_any (is_element id) xs) e

among-later : (id : ℕ) (x : Item) (xs : List Item) → Among id xs → Among id (x ∷ xs)
among-later id x xs e = or-right (is_element id x) (list_any (is_element id) xs) e

among-cases : (id : ℕ) (x : Item) (xs : List Item) → Among id (x ∷ xs) → (is_element id x ≡ true) ⊎ Among id xs
among-cases id x xs h = or_cases (is_element id x) (list_any (is_element id) xs) h

among-append : (id : ℕ) (xs ys : List Item) → Among id (xs ++ ys) → Among id xs ⊎ Among id ys
among-append id [] ys h = inr h
among-append id (x ∷ xs) ys h =
    elim (among-cases id x (xs ++ ys) h) [
      | inl e ↦ inl (among-first id x xs e)
      | inr more ↦ elim (among-append id xs ys more) [
        | inl e ↦ inl (among-later id x xs e)
        | inr e ↦ inr e
      ]
    ]

among-filter : (id other : ℕ) (xs : List Item) → Among id (filter (λ item. not (is_element other item)) xs) → Among id xs
among-filter id other [] h = h
among-filter id other (x ∷ xs) h =
    cond_both (not (is_element other x)) (x ∷ filter (λ item. not (is_element other item)) xs) (filter (λ item. not (is_element other item)) xs) (λ ys. Among id ys → Among id (x ∷ xs))
    (λ e k. elim (among-cases id x (filter (λ item. not (is_element other item)) xs) k) [
      | inl first ↦ among-first id x xs first
      | inr more ↦ among-later id x xs (among-filter id other xs more)
    ])
    (λ e k. among-later id x xs (among-filter id other xs k)) h

among-put_last : (id : ℕ) (xs : List Item) (x : Item) → Among id (put_last xs x) → Among id xs ⊎ (is_element id x ≡ true)
among-put_last id [] x h = inr (lone (is_element id x) h)
among-put_last id (y ∷ []) x h =
    elim (among-beside id y x h) [
      | inl e ↦ inl (among-first id y [] e)
      | inr e ↦ inr e
    ]
among-put_last id (y ∷ z ∷ rest) x h =
    elim (among-cases id y (put_last (z ∷ rest) x) h) [
      | inl e ↦ inl (among-first id y (z ∷ rest) e)
      | inr more ↦ elim (among-put_last id (z ∷ rest) x more) [
        | inl e ↦ inl (among-later id y (z ∷ rest) e)
        | inr e ↦ inr e
      ]
    ]

among-put_before : (id table : ℕ) (xs : List Item) (x : Item) → Among id (put_before table xs x) → Among id xs ⊎ ((is_element id x ≡ true) × Among table xs)
among-put_before id table [] x h = inl h
among-put_before id table (y ∷ []) x h =
    cond_both (is_element table y) (x ∷ y ∷ []) (y ∷ []) (λ ys. Among id ys → Among id (y ∷ []) ⊎ ((is_element id x ≡ true) × Among table (y ∷ [])))
    (λ e k. elim (among-cases id x (y ∷ []) k) [
      | inl own ↦ inr (own, among-first table y [] e)
      | inr more ↦ inl more
    ])
    (λ e k. inl k) h
among-put_before id table (y ∷ z ∷ rest) x h =
    cond_both (is_element table y) (x ∷ y ∷ z ∷ rest) (if is_element table z then beside y x ++ z ∷ rest else y ∷ put_before table (z ∷ rest) x)
    (λ ys. Among id ys → Among id (y ∷ z ∷ rest) ⊎ ((is_element id x ≡ true) × Among table (y ∷ z ∷ rest)))
    (λ e k. elim (among-cases id x (y ∷ z ∷ rest) k) [
      | inl own ↦ inr (own, among-first table y (z ∷ rest) e)
      | inr more ↦ inl more
    ])
    (λ e. cond_both (is_element table z) (beside y x ++ z ∷ rest) (y ∷ put_before table (z ∷ rest) x)
    (λ ys. Among id ys → Among id (y ∷ z ∷ rest) ⊎ ((is_element id x ≡ true) × Among table (y ∷ z ∷ rest)))
    (λ e' k. elim (among-append id (beside y x) (z ∷ rest) k) [
      | inl two ↦ elim (among-beside id y x two) [
        | inl first ↦ inl (among-first id y (z ∷ rest) first)
        | inr own ↦ inr (own, among-later table y (z ∷ rest) (among-first table z rest e'))
      ]
      | inr more ↦ inl (among-later id y (z ∷ rest) more)
    ])
    (λ e' k. elim (among-cases id y (put_before table (z ∷ rest) x) k) [
      | inl first ↦ inl (among-first id y (z ∷ rest) first)
      | inr more ↦ elim (among-put_before id table (z ∷ rest) x more) [
        | inl there ↦ inl (among-later id y (z ∷ rest) there)
        | inr own ↦ inr (own.0, among-later table y (z ∷ rest) own.1)
      ]
    ])) h

-- the document's children after a change of every list, and of one
each-first : (change : List Item → List Item) (t : Tree) → change [] ≡ [] → (branch (in_each change t) 0).inside ≡ change (branch t 0).inside
each-first change [] none = sym none
each-first change (b ∷ bs) none = refl

other-first : (change : List Item → List Item) (t : Tree) (id : ℕ) → id ≢ 0 → branch (in_one change t id) 0 ≡ branch t 0
other-first change t id apart = get_or-set_other t id 0 (with_inside change (branch t id)) no_branch (λ e. apart (sym e))

own-first : (change : List Item → List Item) (t : Tree) (id : ℕ) → Among id (branch (in_one change t 0) 0).inside → Among id (change (branch t 0).inside)
own-first change [] id h = absurd (true≢false (sym h))
own-first change (b ∷ bs) id h = h

-- a child at the place is a child of the document
leads : Tree → Place → Bool
leads t (Into parent) = id_of parent == 0
leads t (Foster table above) = stands_in t 0 (id_of table) || id_of above == 0

root-into : (t : Tree) (x : Item) (parent id : ℕ) → stands_in (put_into t x parent) 0 id ≡ true → (stands_in t 0 id ≡ true) ⊎ ((is_element id x ≡ true) × ((parent == 0) ≡ true))
root-into t x parent id h =
    elim (cases_eq parent 0) [
      | inl same ↦ elim (among-put_last id (branch t 0).inside x (own-first (λ items. put_last items x) t id (subst (λ p. stands_in (put_into t x p) 0 id ≡ true) same h))) [
        | inl there ↦ inl there
        | inr own ↦ inr (own, eq-eqb parent 0 same)
      ]
      | inr other ↦ inl (ap (λ b. list_any (is_element id) b.inside) (sym (other-first (λ items. put_last items x) t parent other)) ∙ h)
    ]

root-put : (t : Tree) (x : Item) (place : Place) (id : ℕ) → stands_in (put t x place) 0 id ≡ true → (stands_in t 0 id ≡ true) ⊎ ((is_element id x ≡ true) × (leads t place ≡ true))
unfolding leads
root-put t x (Into parent) id h = root-into t x (id_of parent) id h
root-put t x (Foster table above) id h =
    cond_both (has_parent t (id_of table)) (in_each (λ items. put_before (id_of table) items x) t) (put_into t x (id_of above))
    (λ u. stands_in u 0 id ≡ true → (stands_in t 0 id ≡ true) ⊎ ((is_element id x ≡ true) × ((stands_in t 0 (id_of table) || id_of above == 0) ≡ true)))
    (λ e k. elim (among-put_before id (id_of table) (branch t 0).inside x (ap (list_any (is_element id)) (sym (each-first (λ items. put_before (id_of table) items x) t refl)) ∙ k)) [
      | inl there ↦ inl there
      | inr own ↦ inr (own.0, or-left (stands_in t 0 (id_of table)) (id_of above == 0) own.1)
    ])
    (λ e k. elim (root-into t x (id_of above) id k) [
      | inl there ↦ inl there
      | inr own ↦ inr (own.0, or-right (stands_in t 0 (id_of table)) (id_of above == 0) own.1)
    ]) h

root-detached : (t : Tree) (other id : ℕ) → stands_in (detached t other) 0 id ≡ true → stands_in t 0 id ≡ true
root-detached t other id h = among-filter id other (branch t 0).inside (ap (list_any (is_element id)) (sym (each-first (filter (λ item. not (is_element other item))) t refl)) ∙ h)

leads-detached : (t : Tree) (other : ℕ) (place : Place) → leads (detached t other) place ≡ true → leads t place ≡ true
unfolding leads
leads-detached t other (Into parent) h = h
leads-detached t other (Foster table above) h =
    elim (or_cases (stands_in (detached t other) 0 (id_of table)) (id_of above == 0) h) [
      | inl e ↦ or-left (stands_in t 0 (id_of table)) (id_of above == 0) (root-detached t other (id_of table) e)
      | inr e ↦ or-right (stands_in t 0 (id_of table)) (id_of above == 0) e
    ]

leads-may : (r : Roots) (t : Tree) (place : Place) → AreRoots r t → leads t place ≡ true → may_lead r place ≡ true
unfolding leads
leads-may r t (Into parent) all h = h
leads-may r t (Foster table above) all h =
    elim (or_cases (stands_in t 0 (id_of table)) (id_of above == 0) h) [
      | inl e ↦ or-left (may_be_root r (id_of table)) (id_of above == 0) (all (id_of table) e)
      | inr e ↦ or-right (may_be_root r (id_of table)) (id_of above == 0) e
    ]

with-more : (r : Roots) (other id : ℕ) → may_be_root r id ≡ true → may_be_root (with_root r other) id ≡ true
with-more roots.None other id h = absurd (true≢false (sym h))
with-more (roots.Only root) other id h = cond_both (root == other) (roots.Only root) roots.Any (λ r. may_be_root r id ≡ true) (λ e. h) (λ e. refl)
with-more roots.Any other id h = refl

with-own : (r : Roots) (id : ℕ) → may_be_root (with_root r id) id ≡ true
with-own roots.None id = eq-eqb id id refl
with-own (roots.Only root) id = cond_both (root == id) (roots.Only root) roots.Any (λ r. may_be_root r id ≡ true) (λ e. e) (λ e. refl)
with-own roots.Any id = refl

-- an element is put at a place
roots-element : (r : Roots) (t : Tree) (own : ℕ) (place : Place) → AreRoots r t → AreRoots (if may_lead r place then with_root r own else r) (put (detached t own) (item.Element own) place)
roots-element r t own place all id h =
    elim (root-put (detached t own) (item.Element own) place id h) [
      | inl there ↦
          let old : may_be_root r id ≡ true = all id (root-detached t own id there) in
          cond_both (may_lead r place) (with_root r own) r (λ q. may_be_root q id ≡ true) (λ e. with-more r own id old) (λ e. old)
      | inr new ↦
          let same : own ≡ id = eqb-true own id new.0 in
          let may : may_lead r place ≡ true = leads-may r t place all (leads-detached t own place new.1) in
          subst (λ q. may_be_root q id ≡ true) (sym (cond-true (may_lead r place) (with_root r own) r may)) (subst (λ i. may_be_root (with_root r own) i ≡ true) same (with-own r own))
    ]

roots-kept : (r : Roots) (t : Tree) (own : ℕ) (place : Place) → AreRoots r t → AreRoots (if may_lead r place then with_root r own else r) t
roots-kept r t own place all id h =
    cond_both (may_lead r place) (with_root r own) r (λ q. may_be_root q id ≡ true) (λ e. with-more r own id (all id h)) (λ e. all id h)

-- what is no element is put at a place
roots-leaf : (r : Roots) (t : Tree) (x : Item) (place : Place) → ((id : ℕ) → is_element id x ≡ false) → AreRoots r t → AreRoots r (put t x place)
roots-leaf r t x place leaf all id h =
    elim (root-put t x place id h) [
      | inl there ↦ all id there
      | inr new ↦ absurd (true≢false (sym new.0 ∙ leaf id))
    ]

roots-child : (r : Roots) (t : Tree) (c : Child) (place : Place) → AreRoots r t → AreRoots (roots_after r (Put c place)) (put_child t c place)
roots-child r t (child.Element node) place all =
    cond_both (may_be_child t node) (put (detached t (id_of node)) (item.Element (id_of node)) place) t (λ u. AreRoots (if may_lead r place then with_root r (id_of node) else r) u)
    (λ e. roots-element r t (id_of node) place all) (λ e. roots-kept r t (id_of node) place all)
roots-child r t (child.Text text) place all =
    cond_both (leads_into_document t place) t (put t (item.Text text) place) (λ u. AreRoots r u) (λ e. all) (λ e. roots-leaf r t (item.Text text) place (λ id. refl) all)
roots-child r t (child.Comment text) place all = roots-leaf r t (item.Comment text) place (λ id. refl) all
roots-child r t (child.Doctype parts) place all = roots-leaf r t (item_of_doctype parts) place (λ id. refl) all

roots-same : (r : Roots) (t : Tree) (c : Child) (place : Place) → AreRoots r t → AreRoots (roots_after r (Put c place)) t
roots-same r t (child.Element node) place all = roots-kept r t (id_of node) place all
roots-same r t (child.Text text) place all = all
roots-same r t (child.Comment text) place all = all
roots-same r t (child.Doctype parts) place all = all

root-emptied : (t : Tree) (from id : ℕ) → stands_in (in_one (λ _. []) t from) 0 id ≡ true → stands_in t 0 id ≡ true
root-emptied t from id h =
    elim (cases_eq from 0) [
      | inl same ↦ absurd (true≢false (sym (own-first (λ _. []) t id (subst (λ p. stands_in (in_one (λ _. []) t p) 0 id ≡ true) same h))))
      | inr other ↦ ap (λ b. list_any (is_element id) b.inside) (sym (other-first (λ _. []) t from other)) ∙ h
    ]

roots-moved : (r : Roots) (t : Tree) (from to : ℕ) → AreRoots r t → AreRoots (if to == 0 then roots.Any else r) (children_moved t from to)
roots-moved r t from to all id h =
    elim (cases_eq to 0) [
      | inl same ↦ subst (λ q. may_be_root q id ≡ true) (sym (cond-true (to == 0) roots.Any r (eq-eqb to 0 same))) refl
      | inr other ↦
          let more : List Item → List Item = λ items. items ++ (branch t from).inside in
          let there : stands_in t 0 id ≡ true = ap (λ b. list_any (is_element id) b.inside) (sym (other-first more t to other)) ∙ root-emptied (in_one more t to) from id h in
          cond_both (to == 0) roots.Any r (λ q. may_be_root q id ≡ true) (λ e. refl) (λ e. all id there)
    ]

roots-stay : (r : Roots) (t : Tree) (to : ℕ) → AreRoots r t → AreRoots (if to == 0 then roots.Any else r) t
roots-stay r t to all id h = cond_both (to == 0) roots.Any r (λ q. may_be_root q id ≡ true) (λ e. refl) (λ e. all id h)

root-new : (t : Tree) (b : Branch) (id : ℕ) → b.inside ≡ [] → stands_in (t ++ b ∷ []) 0 id ≡ true → stands_in t 0 id ≡ true
root-new [] b id none h = absurd (true≢false (sym h ∙ ap (list_any (is_element id)) none))
root-new (x ∷ t) b id none h = h

own-set : (t : Tree) (other : ℕ) (b : Branch) → b.inside ≡ (branch t 0).inside → stands_in (slice_set t 0 b) 0 other ≡ true → stands_in t 0 other ≡ true
own-set [] other b same h = h
own-set (x ∷ t) other b same h = ap (list_any (is_element other)) (sym same) ∙ h

set-first : (t : Tree) (id other : ℕ) (b : Branch) → b.inside ≡ (branch t id).inside → stands_in (slice_set t id b) 0 other ≡ true → stands_in t 0 other ≡ true
set-first t id other b same h =
    elim (cases_eq id 0) [
      | inl first ↦ own-set t other b (same ∙ ap (λ i. (branch t i).inside) first) (subst (λ i. stands_in (slice_set t i b) 0 other ≡ true) first h)
      | inr apart ↦ ap (λ x. list_any (is_element other) x.inside) (sym (get_or-set_other t id 0 b no_branch (λ e. apart (sym e)))) ∙ h
    ]

-- after an edit, what may stand there is what was told
pub roots-applied : (r : Roots) (t : Tree) (edit : Edit) → AreRoots r t → AreRoots (roots_after r edit) (applied t edit)
roots-applied r t (NewElement tag) all = λ id h. all id (root-new t (make_branch (Some tag) []) id refl h)
roots-applied r t (Put c place) all = cond_both (is_place t place) (put_child t c place) t (λ u. AreRoots (roots_after r (Put c place)) u) (λ e. roots-child r t c place all) (λ e. roots-same r t c place all)
roots-applied r t (Detach node) all = cond_both (may_be_child t node) (detached t (id_of node)) t (λ u. AreRoots r u) (λ e id h. all id (root-detached t (id_of node) id h)) (λ e. all)
roots-applied r t (MoveChildren from to) all = cond_both (is_there t from && is_there t to && not (id_of from == id_of to)) (children_moved t (id_of from) (id_of to)) t (λ u. AreRoots (if id_of to == 0 then roots.Any else r) u)
    (λ e. roots-moved r t (id_of from) (id_of to) all) (λ e. roots-stay r t (id_of to) all)
roots-applied r t (AddMissing node more) all = cond_both (is_there t node) (with_tag t (id_of node) (with_attributes (branch t (id_of node)).tag more)) t (λ u. AreRoots r u)
    (λ e id h. all id (set-first t (id_of node) id (make_branch (with_attributes (branch t (id_of node)).tag more) (branch t (id_of node)).inside) refl h)) (λ e. all)

not-true : (a : Bool) → not a ≡ true → a ≢ true
not-true true h e = true≢false (sym h)
not-true false h e = true≢false (sym e)

none-of : (a b : Bool) → (a ≡ true → b ≡ true) → b ≢ true → a ≡ false
none-of true b h miss = absurd (miss (h refl))
none-of false b h miss = refl

-- a table that is none of them is no child of the document
pub apart-table : (r : Roots) (t : Tree) (edit : Edit) → AreRoots r t → is_apart r edit ≡ true → has_root_table t edit ≡ false
apart-table r t (NewElement tag) all h = refl
apart-table r t (Put c (Into parent)) all h = refl
apart-table r t (Put c (Foster table above)) all h = none-of (stands_in t 0 (id_of table)) (may_be_root r (id_of table)) (all (id_of table)) (not-true (may_be_root r (id_of table)) h)
apart-table r t (Detach node) all h = refl
apart-table r t (MoveChildren from to) all h = refl
apart-table r t (AddMissing node more) all h = refl

-- the document alone has no children
pub roots_document : (r : Roots) (t : Tree) → t ≡ item.document → AreRoots r t
roots_document r t is id h = absurd (true≢false (sym h ∙ ap (λ u. stands_in u 0 id) is))
