-- The elements among whose children an element stands: one at most, and not the document of a grove.
use Rattle.std.proofs.Common.{◌≡◌, ℕ, zero, suc, ◌+◌, Bool, true, false, List, [], ◌∷◌, ◌++◌, Some, slice_get, refl, sym, ap, ◌∙◌, subst, inl, inr, arith}
use Rattle.std.specs.Prelude.{if◌then◌else◌, ◌||◌}
use Rattle.std.specs.List.{list_any}
use Rattle.std.proofs.Math.Bool.{or-false}
use Rattle.std.proofs.lemmas.Bool.{cond-false, cond-true, eqb-true, false_from_ne_true, false≢true, or_cases, or_parts}
use Rattle.std.proofs.lemmas.List.Folds.{list_any-append}
use Rattle.hp_control.specs.Tree.{Branch, Item, Element, Text, Comment, Doctype, IsForest, Tree, branch, has_parent, is_element, stands_in}
use Rattle.hp_groves.specs.Split.{parents_from}
use Rattle.hp_growth.specs.Growing.{IsRooted}
use Rattle.hp_growth.specs.Marking.{AreWhole, children_touched}
use Rattle.hp_growth.specs.declared.marks.Mark.{Mark}

abbrev stands : ℕ → List Item → Bool
stands id xs = list_any (is_element id) xs

-- an element in no list has no parent
pub parents-none : (first : ℕ) (t : Tree) (id : ℕ) → has_parent t id ≡ false → parents_from first t id ≡ []
parents-none first [] id h = refl
parents-none first (b ∷ bs) id h =
    let parts = or_parts (stands id b.inside) (has_parent bs id) h in
    ap (λ xs. xs ++ parents_from (first + 1) bs id) (cond-false (stands id b.inside) (first ∷ []) [] parts.0) ∙ parents-none (first + 1) bs id parts.1

parents-nowhere : (first : ℕ) (t : Tree) (id : ℕ) → ((q : ℕ) → stands_in t q id ≡ false) → parents_from first t id ≡ []
parents-nowhere first [] id h = refl
parents-nowhere first (b ∷ bs) id h =
    ap (λ xs. xs ++ parents_from (first + 1) bs id) (cond-false (stands id b.inside) (first ∷ []) [] (h zero)) ∙ parents-nowhere (first + 1) bs id (λ q. h (suc q))

parents-one : (first : ℕ) (t : Tree) (id p : ℕ) → stands_in t p id ≡ true → ((q : ℕ) → stands_in t q id ≡ true → q ≡ p) → parents_from first t id ≡ (first + p) ∷ []
parents-one first [] id p s one = absurd (false≢true s)
parents-one first (b ∷ bs) id zero s one =
    let rest : parents_from (first + 1) bs id ≡ [] = parents-nowhere (first + 1) bs id (λ q. false_from_ne_true (stands_in bs q id) (λ y. let e : suc q ≡ zero = one (suc q) y in omega arith)) in
    let same : first ≡ first + zero = omega arith in
    ap (λ xs. xs ++ parents_from (first + 1) bs id) (cond-true (stands id b.inside) (first ∷ []) [] s) ∙ ap (λ xs. first ∷ xs) rest ∙ ap (λ k. k ∷ []) same
parents-one first (b ∷ bs) id (suc p) s one =
    let none : stands id b.inside ≡ false = false_from_ne_true (stands id b.inside) (λ y. let e : zero ≡ suc p = one zero y in omega arith) in
    let rest : parents_from (first + 1) bs id ≡ (first + 1 + p) ∷ [] = parents-one (first + 1) bs id p s (λ q y. let e : suc q ≡ suc p = one (suc q) y in omega arith) in
    let sum : first + 1 + p ≡ first + suc p = omega arith in
    ap (λ xs. xs ++ parents_from (first + 1) bs id) (cond-false (stands id b.inside) (first ∷ []) [] none) ∙ rest ∙ ap (λ k. k ∷ []) sum

the-element : (id : ℕ) (x : Item) → is_element id x ≡ true → x ≡ Element id
the-element id (Element other) h = ap Element (eqb-true other id h)
the-element id (Text text) h = absurd (false≢true h)
the-element id (Comment text) h = absurd (false≢true h)
the-element id (Doctype name public system) h = absurd (false≢true h)

-- an element among items stands at a place
place-of : (id : ℕ) (xs : List Item) → stands id xs ≡ true → (k : ℕ) × (slice_get xs k ≡ Some (Element id))
place-of id [] h = absurd (false≢true h)
place-of id (x ∷ xs) h =
    elim (or_cases (is_element id x) (stands id xs) h) [
      | inl here ↦ (0, ap Some (the-element id x here))
      | inr later ↦ let more = place-of id xs later in (suc more.0, more.1)
    ]

one-parent : (t : Tree) → IsForest t → (id p q : ℕ) → stands_in t p id ≡ true → stands_in t q id ≡ true → q ≡ p
one-parent t f id p q s r =
    let a = place-of id (branch t p).inside s in
    let b = place-of id (branch t q).inside r in
    f.one_parent q p b.0 a.0 id b.1 a.1

-- an element in a list has one parent
pub parents-some : (t : Tree) (id p : ℕ) → IsForest t → stands_in t p id ≡ true → parents_from 0 t id ≡ p ∷ []
parents-some t id p f s =
    let same : 0 + p ≡ p = omega arith in
    parents-one 0 t id p s (λ q r. one-parent t f id p q s r) ∙ ap (λ k. k ∷ []) same

-- what holds of the parents of an element in a list holds of its parent,
pub any-parent : (t : Tree) (f : ℕ → Bool) (id p : ℕ) → IsForest t → stands_in t p id ≡ true → f p ≡ list_any f (parents_from 0 t id)
any-parent t f id p forest s = sym (or-false (f p)) ∙ sym (ap (list_any f) (parents-some t id p forest s))

-- and nothing holds of them where it is in none
pub any-none : (t : Tree) (f : ℕ → Bool) (id : ℕ) → has_parent t id ≡ false → false ≡ list_any f (parents_from 0 t id)
any-none t f id h = sym (ap (list_any f) (parents-none 0 t id h))

any-one : (f g : ℕ → Bool) (n : ℕ) → f n ≡ g n → (c : Bool) → list_any f (if c then n ∷ [] else []) ≡ list_any g (if c then n ∷ [] else [])
any-one f g n h true = ap (λ b. b || false) h
any-one f g n h false = refl

any-above : (f g : ℕ → Bool) → ((k : ℕ) → f (suc k) ≡ g (suc k)) → (first n : ℕ) (t : Tree) (id : ℕ) → n ≡ suc first → list_any f (parents_from n t id) ≡ list_any g (parents_from n t id)
any-above f g same first n [] id e = refl
any-above f g same first n (b ∷ bs) id e =
    let here : f n ≡ g n = subst (λ k. f k ≡ g k) (sym e) (same first) in
    let next : n + 1 ≡ suc n = omega arith in
    let rest : list_any f (parents_from (n + 1) bs id) ≡ list_any g (parents_from (n + 1) bs id) = any-above f g same n (n + 1) bs id next in
    list_any-append f (if stands id b.inside then n ∷ [] else []) (parents_from (n + 1) bs id)
    ∙ ap (λ c. c || list_any f (parents_from (n + 1) bs id)) (any-one f g n here (stands id b.inside))
    ∙ ap (λ c. list_any g (if stands id b.inside then n ∷ [] else []) || c) rest
    ∙ sym (list_any-append g (if stands id b.inside then n ∷ [] else []) (parents_from (n + 1) bs id))

-- two tests of parents that agree at own elements agree
pub parents-same : (t : Tree) (count : ℕ) (f g : ℕ → Bool) → IsRooted t count → ((k : ℕ) → f (suc k) ≡ g (suc k)) → (id : ℕ) → list_any f (parents_from 0 t id) ≡ list_any g (parents_from 0 t id)
parents-same [] count f g r same id = refl
parents-same (b ∷ bs) count f g r same id =
    let none : stands id b.inside ≡ false = ap (λ (x : Branch). stands id x.inside) r.blank in
    let skip : parents_from 0 (b ∷ bs) id ≡ parents_from 1 bs id = ap (λ xs. xs ++ parents_from 1 bs id) (cond-false (stands id b.inside) (0 ∷ []) [] none) in
    ap (list_any f) skip ∙ any-above f g same 0 1 bs id refl ∙ sym (ap (list_any g) skip)

any-never : (xs : List ℕ) → list_any (λ _. false) xs ≡ false
any-never [] = refl
any-never (x ∷ xs) = any-never xs

-- where the children of none were touched, no parent's were
pub none-whole : (t : Tree) (count : ℕ) (marks : List Mark) (id : ℕ) → IsRooted t count → AreWhole marks → list_any (children_touched marks) (parents_from 0 t id) ≡ false
none-whole t count marks id r whole = parents-same t count (children_touched marks) (λ _. false) r whole id ∙ any-never (parents_from 0 t id)
