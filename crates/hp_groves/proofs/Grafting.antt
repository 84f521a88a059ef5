-- What inner edits make in a tree whose older elements are blank, put behind a tree.
use Rattle.std.proofs.Common.{◌≡◌, ℕ, zero, suc, ◌+◌, ◌-◌, ◌<◌, ◌≤◌, Bool, true, false, ◌==◌, List, [], ◌∷◌, ◌++◌, length, map, drop, replicate, refl, sym, ap, ◌∙◌, inl, inr, arith}
use Rattle.std.specs.Prelude.{nat_lt}
use Rattle.std.proofs.lemmas.Bool.{cases_lt, eq-eqb, ltb-true, ltb-false, not-true, or_left, or_parts, true≢false}
use Rattle.std.proofs.lemmas.List.{append-nil, drop-replicate, get_or-append_right, get_or-drop, get_or-replicate, get_or_append_left, get_or_past, length-append, length-drop, length-replicate}
use Rattle.hp_control.specs.declared.edit.Edit.{Edit}
use Rattle.hp_control.specs.Tree.{Branch, Item, Element, Text, Comment, Doctype, Tree, applied, branch, no_branch, stands_in}
use Rattle.hp_groves.specs.Grafts.{graft, renumbered, renumbered_item}
use Rattle.hp_groves.specs.Split.{is_among, moved}
use Rattle.hp_groves.proofs.Branches.{inside}
use Rattle.hp_groves.proofs.Commuting.{IsInner, fits-inner, same-trees, twice}
use Rattle.hp_groves.proofs.Items.{stands}
use Rattle.hp_groves.proofs.Lengths.{length-applied}
use Rattle.hp_groves.proofs.Sides.{Avoids, Fits, SameLists, SameTags, lists-same, lists-stay, others}
use Rattle.hp_groves.proofs.Tags.{tags-same, tags-stay}

-- a tree with the own elements of another behind it, by their ids
abbrev pub over : Tree → Tree → Tree
over t g = t ++ drop (length t) g

-- the elements below the first own one
abbrev pub older : ℕ → ℕ → Bool
older next id = nat_lt id next

pub over-older : (t g : Tree) (i : ℕ) → older (length t) i ≡ true → branch (over t g) i ≡ branch t i
over-older t g i h = get_or_append_left t (drop (length t) g) no_branch i (ltb-true i (length t) h)

pub over-own : (t g : Tree) (i : ℕ) → older (length t) i ≡ false → branch (over t g) i ≡ branch g i
over-own t g i h =
    let n = length t in
    let above : n ≤ i = ltb-false i n h in
    let sum : n + (i - n) ≡ i = omega arith in
    get_or-append_right t (drop n g) n i no_branch refl above ∙ get_or-drop n g (i - n) no_branch ∙ ap (branch g) sum

pub length-over : (t g : Tree) → length t ≤ length g → length (over t g) ≡ length g
length-over t g h = omega (arith, length-append t (drop (length t) g), length-drop (length t) g)

over-lists : (t g : Tree) → SameLists (others (older (length t))) (over t g) g
over-lists t g = record { at = λ i k. ap (λ (b : Branch). b.inside) (over-own t g i (not-true (older (length t) i) k)) }

over-tags : (t g : Tree) → SameTags (others (older (length t))) (over t g) g
over-tags t g = record { at = λ i k. ap (λ (b : Branch). b.tag) (over-own t g i (not-true (older (length t) i) k)) }

-- an edit of own elements alone acts on these alone
pub grown-over : (t g : Tree) (e : Edit) → length t ≤ length g
    → IsInner (older (length t)) (older (length t)) (older (length t)) (over t g) e → ((c : ℕ) → is_among (moved e) c ≡ true → Avoids (older (length t)) g c)
    → applied (over t g) e ≡ over t (applied g e)
grown-over t g e h f a =
    let O : ℕ → Bool = older (length t) in
    let long : length (over t g) ≡ length g = length-over t g h in
    let more : length t ≤ length (applied g e) = omega (arith, length-applied g e) in
    let fit : Fits (others O) (others O) (over t g) g e = fits-inner O O O (over t g) g e long f a in
    let u : Tree = over t (applied g e) in
    let step : SameLists (others O) (applied (over t g) e) (applied g e) = lists-same (others O) (others O) (over t g) g e fit (over-lists t g) in
    let step' : SameTags (others O) (applied (over t g) e) (applied g e) = tags-same (others O) (others O) (over t g) g e fit (over-tags t g) in
    same-trees O O (applied (over t g) e) u
    (omega (arith, length-applied (over t g) e, length-applied g e, length-over t (applied g e) more))
    (record { at = λ i k. (lists-stay (others O) (others O) (over t g) g e fit).at i (twice O i k) ∙ ap (λ (b : Branch). b.inside) (over-older t g i k ∙ sym (over-older t (applied g e) i k)) })
    (record { at = λ i k. step.at i k ∙ sym ((over-lists t (applied g e)).at i k) })
    (record { at = λ i k. (tags-stay (others O) (others O) (over t g) g e fit).at i (twice O i k) ∙ ap (λ (b : Branch). b.tag) (over-older t g i k ∙ sym (over-older t (applied g e) i k)) })
    (record { at = λ i k. step'.at i k ∙ sym ((over-tags t (applied g e)).at i k) })

-- before the first edit
pub blank-inside : (n i : ℕ) → inside (replicate n no_branch) i ≡ []
blank-inside n i =
    elim (cases_lt i n) [
      | inl below ↦ ap (λ (b : Branch). b.inside) (get_or-replicate n i no_branch no_branch below)
      | inr above ↦ ap (λ (b : Branch). b.inside) (get_or_past (replicate n no_branch) i no_branch (omega (arith, length-replicate n no_branch)))
    ]

pub over-blank : (t : Tree) → over t (replicate (length t) no_branch) ≡ t
over-blank t =
    let none : length t - length t ≡ 0 = omega arith in
    ap (λ xs. t ++ xs) (drop-replicate (length t) (length t) no_branch ∙ ap (λ n. replicate n no_branch) none) ∙ append-nil t

-- numbered from 0 and back, where no older element is among them
items-back : (n : ℕ) (xs : List Item) → ((c : ℕ) → c < n → stands c xs ≡ false) → map (renumbered_item (λ k. n + k)) (map (renumbered_item (λ id. id - n)) xs) ≡ xs
items-back n [] h = refl
items-back n (Element id ∷ xs) h =
    elim (cases_lt id n) [
      | inl below ↦ absurd (true≢false (sym (or_left (id == id) (stands id xs) (eq-eqb id id refl)) ∙ h id below))
      | inr above ↦
          let sum : n + (id - n) ≡ id = omega arith in
          ap (λ k. Element k ∷ map (renumbered_item (λ k. n + k)) (map (renumbered_item (λ id. id - n)) xs)) sum
          ∙ ap (λ ys. Element id ∷ ys) (items-back n xs (λ c b. (or_parts (id == c) (stands c xs) (h c b)).1))
    ]
items-back n (Text a ∷ xs) h = ap (λ ys. Text a ∷ ys) (items-back n xs h)
items-back n (Comment a ∷ xs) h = ap (λ ys. Comment a ∷ ys) (items-back n xs h)
items-back n (Doctype a b c ∷ xs) h = ap (λ ys. Doctype a b c ∷ ys) (items-back n xs h)

branches-back : (n : ℕ) (bs : Tree) → ((c : ℕ) → c < n → (i : ℕ) → stands_in bs i c ≡ false) → map (renumbered (λ k. n + k)) (map (renumbered (λ id. id - n)) bs) ≡ bs
branches-back n [] h = refl
branches-back n (b ∷ bs) h =
    ap (λ xs. record { tag = b.tag; inside = xs } ∷ map (renumbered (λ k. n + k)) (map (renumbered (λ id. id - n)) bs)) (items-back n b.inside (λ c below. h c below zero))
    ∙ ap (λ ys. b ∷ ys) (branches-back n bs (λ c below i. h c below (suc i)))

pub graft-back : (t g : Tree) → ((c : ℕ) → c < length t → (i : ℕ) → stands_in g i c ≡ false) → graft t (map (renumbered (λ id. id - length t)) (drop (length t) g)) ≡ over t g
graft-back t g h =
    let n = length t in
    ap (λ ys. t ++ ys) (branches-back n (drop n g) (λ c below i. ap (λ (b : Branch). stands c b.inside) (get_or-drop n g i no_branch) ∙ h c below (n + i)))
