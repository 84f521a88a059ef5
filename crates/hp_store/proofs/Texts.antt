-- Leaves that are texts, and the runs of which these are made.
use Rattle.std.proofs.Common.{◌≡◌, ℕ, zero, suc, ◌+◌, ◌-◌, ◌<◌, ◌≤◌, append_assoc, List, [], ◌∷◌, ◌++◌, true, take, length, refl, sym, ap, ◌∙◌, subst, arith, get_or, inl, inr}
use Rattle.std.specs.List.{concat}
use Rattle.std.proofs.lemmas.Bool.{cases_eq, true≢false}
use Rattle.std.proofs.lemmas.List.{append-nil, get_or-set_same, get_or-set_other, length-set, map-set}
use Rattle.std.proofs.Math.ListN.{set}
use Rattle.hp_control.specs.Tree as item
use Rattle.hp_store.specs.Lists.{leaf_at, no_leaf}
use Rattle.hp_store.specs.Leaves.{leaf_item, leaf_items, text_of, is_text_of, run_count, IsTextAdded, IsTextLonger}
use Rattle.hp_store.specs.declared.part.Leaf.{Leaf as LeafOf}
use Rattle.hp_store.specs.declared.part.Leaf.TheVariants.{Run, Text, Comment, Doctype}

-- a leaf that is a text is its text among children
leaf-text : (leaf : LeafOf) → is_text_of leaf ≡ true → leaf_item leaf ≡ item.Text (text_of leaf)
leaf-text (Run run) h = refl
leaf-text (Text runs) h = refl
leaf-text (Comment text) h = absurd (true≢false (sym h))
leaf-text (Doctype parts) h = absurd (true≢false (sym h))

-- what holds of each leaf, where one is set
each-set : (P : ℕ → LeafOf → Type 0) (leaves : List LeafOf) (number : ℕ) (leaf : LeafOf) → number < length leaves → P number leaf → ((k : ℕ) → P k (leaf_at leaves k)) → (k : ℕ) → P k (leaf_at (set leaves number leaf) k)
each-set P leaves number leaf h own all k =
    elim (cases_eq k number) [
      | inl same ↦ subst (λ i. P i (leaf_at (set leaves number leaf) i)) (sym same) (subst (λ l. P number l) (sym (get_or-set_same leaves number leaf no_leaf h)) own)
      | inr other ↦ subst (λ l. P k l) (sym (get_or-set_other leaves number k leaf no_leaf other)) (all k)
    ]

-- a leaf that is a text with more at its end
pub IsTextAdded-set : (leaves : List LeafOf) (number : ℕ) (more : LeafOf) (text : List ℕ) → number < length leaves → IsTextLonger (leaf_at leaves number) more text → IsTextAdded leaves (set leaves number more) number text
IsTextAdded-set leaves number more text h longer = record {
  items =
      map-set leaf_item leaves number more
      ∙ ap (λ x. set (leaf_items leaves) number x) (leaf-text more longer.is_text)
      ∙ ap (λ bs. set (leaf_items leaves) number (item.Text bs)) longer.text;
  count = length-set leaves number more;
  runs = each-set (λ k l. run_count l ≤ run_count (leaf_at leaves k) + 1) leaves number more h longer.runs (λ k. omega arith);
}

-- the same of the leaves after that
pub text-added : (leaves new : List LeafOf) (number : ℕ) (old more : LeafOf) (text : List ℕ) → number < length leaves → leaf_at leaves number ≡ old → IsTextLonger old more text → new ≡ set leaves number more → IsTextAdded leaves new number text
text-added leaves new number old more text h is longer now =
    subst (λ ls. IsTextAdded leaves ls number text) (sym now) (IsTextAdded-set leaves number more text h (subst (λ l. IsTextLonger l more text) (sym is) longer))

-- the leaf that was set is the one that is read there
pub set-read : (leaves new : List LeafOf) (place : ℕ) (more : LeafOf) → place < length leaves → new ≡ set leaves place more → new ≡ set leaves place (leaf_at new place)
set-read leaves new place more h now =
    now ∙ ap (set leaves place) (sym (ap (λ ls. leaf_at ls place) now ∙ get_or-set_same leaves place more no_leaf h))

-- the cells of a pair, with these texts
pub first_cell : (pair : List (List ℕ)) (text : List ℕ) → length pair ≡ 2 → set (take 1 pair) 0 text ≡ text ∷ []
first_cell [] text h = absurd (omega arith)
first_cell (a ∷ rest) text h = refl

pub both_cells : (pair : List (List ℕ)) (first second : List ℕ) → length pair ≡ 2 → set (set pair 0 first) (length (set pair 0 first) - 1) second ≡ first ∷ second ∷ []
both_cells [] first second h = absurd (omega arith)
both_cells (a ∷ []) first second h = absurd (omega arith)
both_cells (a ∷ b ∷ []) first second h = refl
both_cells (a ∷ b ∷ c ∷ rest) first second h = absurd (omega arith)

set-own : (xs : List (List ℕ)) (n : ℕ) (d : List ℕ) → n < length xs → set xs n (get_or xs n d) ≡ xs
set-own [] n d h = absurd (omega arith)
set-own (x ∷ xs) zero d h = refl
set-own (x ∷ xs) (suc n) d h = ap (λ ys. x ∷ ys) (set-own xs n d (omega arith))

set-twice : (xs : List (List ℕ)) (n : ℕ) (a b : List ℕ) → set (set xs n a) n b ≡ set xs n b
set-twice [] n a b = refl
set-twice (x ∷ xs) zero a b = refl
set-twice (x ∷ xs) (suc n) a b = ap (λ ys. x ∷ ys) (set-twice xs n a b)

concat-set_last : (xs : List (List ℕ)) (n : ℕ) (d more : List ℕ) → n + 1 ≡ length xs → concat (set xs n (get_or xs n d ++ more)) ≡ concat xs ++ more
concat-set_last [] n d more h = absurd (omega arith)
concat-set_last (x ∷ []) zero d more h = append-nil (x ++ more) ∙ ap (λ ys. ys ++ more) (sym (append-nil x))
concat-set_last (x ∷ []) (suc n) d more h = absurd (omega arith)
concat-set_last (x ∷ y ∷ rest) zero d more h = absurd (omega arith)
concat-set_last (x ∷ y ∷ rest) (suc n) d more h = ap (λ ys. x ++ ys) (concat-set_last (y ∷ rest) n d more (omega arith)) ∙ sym (append_assoc x (concat (y ∷ rest)) more)

-- the last run is taken out and put back with another text
last-set : (runs mid new : List (List ℕ)) (grown : List ℕ) → mid ≡ set runs (length runs - 1) [] → new ≡ set mid (length mid - 1) grown → new ≡ set runs (length runs - 1) grown
last-set runs mid new grown out back =
    let count : length mid ≡ length runs = ap length out ∙ length-set runs (length runs - 1) [] in
    back ∙ ap (λ n. set mid (n - 1) grown) count ∙ ap (λ xs. set xs (length runs - 1) grown) out ∙ set-twice runs (length runs - 1) [] grown

pub last-joined : (runs mid new : List (List ℕ)) (last grown text : List ℕ) → 0 < length runs → last ≡ get_or runs (length runs - 1) last → mid ≡ set runs (length runs - 1) [] → new ≡ set mid (length mid - 1) grown → grown ≡ last ++ text → concat new ≡ concat runs ++ text
last-joined runs mid new last grown text some read out back is =
    ap concat (last-set runs mid new grown out back)
    ∙ ap (λ t. concat (set runs (length runs - 1) t)) (is ∙ ap (λ t. t ++ text) read)
    ∙ concat-set_last runs (length runs - 1) last text (omega arith)

pub last-kept : (runs mid new : List (List ℕ)) (last grown : List ℕ) → 0 < length runs → last ≡ get_or runs (length runs - 1) last → mid ≡ set runs (length runs - 1) [] → new ≡ set mid (length mid - 1) grown → grown ≡ last → new ≡ runs
last-kept runs mid new last grown some read out back is =
    last-set runs mid new grown out back
    ∙ ap (λ t. set runs (length runs - 1) t) (is ∙ read)
    ∙ set-own runs (length runs - 1) last (omega arith)
