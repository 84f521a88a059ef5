-- What each edit leaves at one element.
use Rattle.std.proofs.Common.{◌≡◌, ℕ, zero, suc, ◌<◌, true, ◌==◌, List, [], ◌∷◌, ◌++◌, length, refl, sym, ap, ◌∙◌, subst, inl, inr, Option, arith}
use Rattle.std.specs.Prelude.{if◌then◌else◌, nat_lt, slice_set}
use Rattle.std.specs.List.{list_any}
use Rattle.std.proofs.lemmas.Bool.{cases_Bool, cases_eq, cases_lt, cond-true, cond-false, or_cases, or_left, or_right, eq-eqb, ne_eqb, ltb-true, false≢true}
use Rattle.std.proofs.lemmas.List.{length-map, length-set, length_push, get_or-set_same, get_or-set_other, get_or_past, get_or_push, get_or_append_left}
use Rattle.hp_elements.specs.declared.tag.Tag.{Tag}
use Rattle.hp_control.specs.declared.edit.Ref.{Ref}
use Rattle.hp_control.specs.declared.edit.Ref.TheVariants.{Fixed, Older, Own}
use Rattle.hp_control.specs.Tree.{Branch, Item, Tree, branch, children_moved, has_parent, id_of, in_each, in_one, is_element, is_there, no_branch, stands_in, with_inside}

-- the children of an element, and its tag
abbrev pub inside : Tree → ℕ → List Item
inside t id = (branch t id).inside

abbrev pub tag : Tree → ℕ → Option Tag
tag t id = (branch t id).tag

pub below-there : (t : Tree) (r : Ref) → is_there t r ≡ true → id_of r < length t
below-there t (Fixed id) h = ltb-true id (length t) h
below-there t (Older depth) h = absurd (false≢true h)
below-there t (Own number) h = absurd (false≢true h)

-- trees of one length have the same elements
pub there-same : (t u : Tree) (r : Ref) → length t ≡ length u → is_there t r ≡ is_there u r
there-same t u (Fixed id) e = ap (nat_lt id) e
there-same t u (Older depth) e = refl
there-same t u (Own number) e = refl

pub inside-in_each : (f : List Item → List Item) → f [] ≡ [] → (t : Tree) (i : ℕ) → inside (in_each f t) i ≡ f (inside t i)
inside-in_each f e [] i = sym e
inside-in_each f e (b ∷ bs) zero = refl
inside-in_each f e (b ∷ bs) (suc i) = inside-in_each f e bs i

pub tag-in_each : (f : List Item → List Item) (t : Tree) (i : ℕ) → tag (in_each f t) i ≡ tag t i
tag-in_each f [] i = refl
tag-in_each f (b ∷ bs) zero = refl
tag-in_each f (b ∷ bs) (suc i) = tag-in_each f bs i

-- a part of a branch that a new branch has too stays everywhere
pub part-set : {X : Type 0} (part : Branch → X) (t : Tree) (id i : ℕ) (b : Branch) → part b ≡ part (branch t id) → part (branch (slice_set t id b) i) ≡ part (branch t i)
part-set part [] id i b e = refl
part-set part (x ∷ xs) zero zero b e = e
part-set part (x ∷ xs) zero (suc i) b e = refl
part-set part (x ∷ xs) (suc id) zero b e = refl
part-set part (x ∷ xs) (suc id) (suc i) b e = part-set part xs id i b e

-- the others stay, and at the element stands the new branch
pub branch-set : (t : Tree) (id i : ℕ) (b : Branch) → id < length t → branch (slice_set t id b) i ≡ (if i == id then b else branch t i)
branch-set t id i b h =
    elim (cases_eq i id) [
      | inl same ↦ ap (branch (slice_set t id b)) same ∙ get_or-set_same t id b no_branch h ∙ sym (cond-true (i == id) _ _ (eq-eqb i id same))
      | inr other ↦ get_or-set_other t id i b no_branch other ∙ sym (cond-false (i == id) _ _ (ne_eqb i id other))
    ]

pub inside-in_one : (f : List Item → List Item) (t : Tree) (id i : ℕ) → id < length t → inside (in_one f t id) i ≡ (if i == id then f (inside t i) else inside t i)
inside-in_one f t id i h =
    elim (cases_eq i id) [
      | inl same ↦
          ap (inside (in_one f t id)) same ∙ ap (λ (b : Branch). b.inside) (get_or-set_same t id (with_inside f (branch t id)) no_branch h)
          ∙ ap (λ k. f (inside t k)) (sym same) ∙ sym (cond-true (i == id) _ _ (eq-eqb i id same))
      | inr other ↦ ap (λ (b : Branch). b.inside) (get_or-set_other t id i (with_inside f (branch t id)) no_branch other) ∙ sym (cond-false (i == id) _ _ (ne_eqb i id other))
    ]

pub tag-in_one : (f : List Item → List Item) (t : Tree) (id i : ℕ) → tag (in_one f t id) i ≡ tag t i
tag-in_one f t id i = part-set (λ b. b.tag) t id i (with_inside f (branch t id)) refl

pub length-in_each : (f : List Item → List Item) (t : Tree) → length (in_each f t) ≡ length t
length-in_each f t = length-map t (with_inside f)

pub length-in_one : (f : List Item → List Item) (t : Tree) (id : ℕ) → length (in_one f t id) ≡ length t
length-in_one f t id = length-set t id (with_inside f (branch t id))

pub inside-moved : (t : Tree) (from to i : ℕ) → from < length t → to < length t
    → inside (children_moved t from to) i ≡ (if i == from then [] else (if i == to then inside t i ++ inside t from else inside t i))
inside-moved t from to i hf ht =
    let more : List Item → List Item = λ items. items ++ (branch t from).inside in
    inside-in_one (λ _. []) (in_one more t to) from i (subst (λ n. from < n) (sym (length-in_one more t to)) hf)
    ∙ ap (λ xs. if i == from then [] else xs) (inside-in_one more t to i ht)

pub tag-moved : (t : Tree) (from to i : ℕ) → tag (children_moved t from to) i ≡ tag t i
tag-moved t from to i =
    let more : List Item → List Item = λ items. items ++ (branch t from).inside in
    tag-in_one (λ _. []) (in_one more t to) from i ∙ tag-in_one more t to i

-- a new branch without children changes no list of children
pub inside-push : (t : Tree) (b : Branch) (i : ℕ) → b.inside ≡ [] → inside (t ++ b ∷ []) i ≡ inside t i
inside-push [] b zero e = e
inside-push [] b (suc i) e = refl
inside-push (x ∷ xs) b zero e = refl
inside-push (x ∷ xs) b (suc i) e = inside-push xs b i e

pub tag-push : (t : Tree) (b : Branch) (i : ℕ) → tag (t ++ b ∷ []) i ≡ (if i == length t then b.tag else tag t i)
tag-push t b i =
    elim (cases_eq i (length t)) [
      | inl same ↦ ap (λ (x : Branch). x.tag) (get_or_push t b no_branch i (sym same)) ∙ sym (cond-true (i == length t) _ _ (eq-eqb i (length t) same))
      | inr other ↦
          elim (cases_lt i (length t)) [
            | inl below ↦ ap (λ (x : Branch). x.tag) (get_or_append_left t (b ∷ []) no_branch i below)
            | inr above ↦
                ap (λ (x : Branch). x.tag)
                (get_or_past (t ++ b ∷ []) i no_branch (omega (arith, length_push t b)) ∙ sym (get_or_past t i no_branch above))
          ]
          ∙ sym (cond-false (i == length t) _ _ (ne_eqb i (length t) other))
    ]

-- an element that has a parent stands in a list of children, and the other way round
pub parent-at : (t : Tree) (id : ℕ) → has_parent t id ≡ true → (i : ℕ) × (stands_in t i id ≡ true)
parent-at [] id h = absurd (false≢true h)
parent-at (b ∷ bs) id h =
    elim (or_cases (list_any (is_element id) b.inside) (has_parent bs id) h) [
      | inl here ↦ (0, here)
      | inr later ↦ let more = parent-at bs id later in (suc more.0, more.1)
    ]

pub has_parent-at : (t : Tree) (id i : ℕ) → stands_in t i id ≡ true → has_parent t id ≡ true
has_parent-at [] id i h = absurd (false≢true h)
has_parent-at (b ∷ bs) id zero h = or_left (list_any (is_element id) b.inside) (has_parent bs id) h
has_parent-at (b ∷ bs) id (suc i) h = or_right (list_any (is_element id) b.inside) (has_parent bs id) (has_parent-at bs id i h)

-- where it stands in the same lists, it has a parent or not alike
pub has_parent-same : (t u : Tree) (id : ℕ) → ((i : ℕ) → stands_in t i id ≡ stands_in u i id) → has_parent t id ≡ has_parent u id
has_parent-same t u id same =
    elim (cases_Bool (has_parent t id)) [
      | inl h ↦ let at = parent-at t id h in h ∙ sym (has_parent-at u id at.0 (sym (same at.0) ∙ at.1))
      | inr h ↦
          elim (cases_Bool (has_parent u id)) [
            | inl k ↦ let at = parent-at u id k in absurd (false≢true (sym h ∙ has_parent-at t id at.0 (same at.0 ∙ at.1)))
            | inr k ↦ h ∙ sym k
          ]
    ]
