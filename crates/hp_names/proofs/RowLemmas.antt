-- The rows of a table as references: place by place, and what the search in the rows says of the references.
use Rattle.std.proofs.Common.{◌≡◌, ℕ, ◌+◌, ◌<◌, ◌≤◌, suc, zero, List, [], ◌∷◌, take, get_or, true, false, length, refl, arith, sym, ap, ◌∙◌, None, Some, subst}
use Rattle.std.specs.List.Sorted.{IsPartitionPoint}
use Rattle.hp_names.specs.Order.{begins, is_upto, common}
use Rattle.hp_names.specs.References.{Reference, rises}
use Rattle.hp_names.specs.Table.{name_at, reference_of, references}
use Rattle.hp_names.specs.Longest.{longest, found_of, may_grow}
use Rattle.hp_names.specs.Search.{StandsAt}
use Rattle.hp_names.specs.declared.table.Row.{Row}
use Rattle.hp_names.proofs.OrderLemmas.{upto-trans, common-whole, common-within}
use Rattle.hp_names.proofs.SearchLemmas.{from-upto, stands_first-none, stands-found, stands-shared, stands-shorter, stands-grows, stands-last-grows}

pub length-references : (bytes : List ℕ) (rows : List Row) → length (references bytes rows) ≡ length rows
length-references bytes [] = refl
length-references bytes (r ∷ rs) = ap suc (length-references bytes rs)

pub references-at : (bytes : List ℕ) (rows : List Row) (k : ℕ) (d : Reference) (e : Row) → k < length rows → get_or (references bytes rows) k d ≡ reference_of bytes (get_or rows k e)
references-at bytes [] k d e l = absurd (omega arith)
references-at bytes (r ∷ rs) zero d e l = refl
references-at bytes (r ∷ rs) (suc k) d e l = references-at bytes rs k d e (omega arith)

no_row : Row
no_row = record { from = 0; length = 0; first = 0; second = None }

-- the names up to a text stand before the others
pub rows-parted : (bytes : List ℕ) (rows : List Row) (text : List ℕ) (i j : ℕ) (d : Row) → rises (references bytes rows) ≡ true → i ≤ j → j < length rows
    → is_upto (name_at bytes (get_or rows j d)) text ≡ true → is_upto (name_at bytes (get_or rows i d)) text ≡ true
rows-parted bytes rows text i j d r l m up =
    let e : Reference = reference_of bytes d in
    let n : length (references bytes rows) ≡ length rows = length-references bytes rows in
    let ordered : is_upto (get_or (references bytes rows) i e).name (get_or (references bytes rows) j e).name ≡ true = from-upto (references bytes rows) i j e r l (omega arith) in
    let here : get_or (references bytes rows) i e ≡ reference_of bytes (get_or rows i d) = references-at bytes rows i e d (omega arith) in
    let there : get_or (references bytes rows) j e ≡ reference_of bytes (get_or rows j d) = references-at bytes rows j e d m in
    upto-trans (name_at bytes (get_or rows i d)) (name_at bytes (get_or rows j d)) text (rw (here, there) at ordered) up

pub rows-stands : (bytes : List ℕ) (rows : List Row) (text : List ℕ) (at : ℕ) → at ≤ length rows
    → IsPartitionPoint (λ y. is_upto (name_at bytes y) text ≡ true) (λ y. is_upto (name_at bytes y) text ≡ false) rows at
    → StandsAt (references bytes rows) text at
rows-stands bytes rows text at l p =
    let n : length (references bytes rows) ≡ length rows = length-references bytes rows in
    record {
      within = omega arith;
      upto = λ k d m. rw (references-at bytes rows k d no_row (omega arith)) (p.0 k no_row (omega arith) m);
      above = λ k d m h. rw (references-at bytes rows k d no_row (omega arith)) (p.1 k no_row m (omega arith));
    }

before-at : (bytes : List ℕ) (rows : List Row) (text : List ℕ) (at n : ℕ) → at ≡ n + 1 → StandsAt (references bytes rows) text at → StandsAt (references bytes rows) text (n + 1)
before-at bytes rows text at n e s = let P : ℕ → Type 0 = λ x. StandsAt (references bytes rows) text x in subst P e s

pub rows-none : (bytes : List ℕ) (rows : List Row) (text : List ℕ) (at : ℕ) → at ≡ 0 → StandsAt (references bytes rows) text at
    → longest (references bytes rows) text ≡ None
rows-none bytes rows text at e s =
    let P : ℕ → Type 0 = λ x. StandsAt (references bytes rows) text x in
    stands_first-none (references bytes rows) text (subst P e s)

-- the name at the last row up to the text, where the text begins with it
pub rows-found : (bytes : List ℕ) (rows : List Row) (text : List ℕ) (at n : ℕ) (e : Row) (name : List ℕ) → rises (references bytes rows) ≡ true
    → at ≡ n + 1 → StandsAt (references bytes rows) text at → n < length rows → name ≡ name_at bytes (get_or rows n e)
    → common name text ≡ length name → longest (references bytes rows) text ≡ Some (found_of (reference_of bytes (get_or rows n e)))
rows-found bytes rows text at n e name r m s l is whole =
    let d : Reference = reference_of bytes e in
    let here : get_or (references bytes rows) n d ≡ reference_of bytes (get_or rows n e) = references-at bytes rows n d e l in
    let P : List ℕ → Type 0 = λ x. begins text x ≡ true in
    let b : begins text (name_at bytes (get_or rows n e)) ≡ true = subst P is (common-whole text name whole) in
    let found : longest (references bytes rows) text ≡ Some (found_of (get_or (references bytes rows) n d)) =
    stands-found (references bytes rows) text n d r (before-at bytes rows text at n m s) (rw here b) in
    found ∙ ap (λ (x : Reference). Some (found_of x)) here

-- otherwise the search goes on in what that name and the text have in common
pub rows-shared : (bytes : List ℕ) (rows : List Row) (text : List ℕ) (at n : ℕ) (e : Row) (name : List ℕ) → rises (references bytes rows) ≡ true
    → at ≡ n + 1 → StandsAt (references bytes rows) text at → n < length rows → name ≡ name_at bytes (get_or rows n e)
    → longest (references bytes rows) (take (common name text) text) ≡ longest (references bytes rows) text
rows-shared bytes rows text at n e name r m s l is =
    let d : Reference = reference_of bytes e in
    let P : List ℕ → Type 0 = λ x. longest (references bytes rows) (take (common x text) text) ≡ longest (references bytes rows) text in
    let here : (get_or (references bytes rows) n d).name ≡ name = ap (λ (x : Reference). x.name) (references-at bytes rows n d e l) ∙ sym is in
    subst P here (sym (stands-shared (references bytes rows) text n d r (before-at bytes rows text at n m s)))

pub rows-shorter : (bytes : List ℕ) (rows : List Row) (text : List ℕ) (at n : ℕ) (e : Row) (name : List ℕ)
    → at ≡ n + 1 → StandsAt (references bytes rows) text at → n < length rows → name ≡ name_at bytes (get_or rows n e)
    → (common name text ≡ length name → ⊥) → common name text < length text
rows-shorter bytes rows text at n e name m s l is other =
    let d : Reference = reference_of bytes e in
    let bound : common name text ≤ length name = common-within name text in
    let P : List ℕ → Type 0 = λ x. common x text < length x → common x text < length text in
    let here : (get_or (references bytes rows) n d).name ≡ name = ap (λ (x : Reference). x.name) (references-at bytes rows n d e l) ∙ sym is in
    subst P here (stands-shorter (references bytes rows) text n d (before-at bytes rows text at n m s)) (omega arith)

pub rows-grows : (bytes : List ℕ) (rows : List Row) (text : List ℕ) (at : ℕ) (e : Row) → rises (references bytes rows) ≡ true
    → StandsAt (references bytes rows) text at → at < length rows
    → may_grow (references bytes rows) text ≡ begins (name_at bytes (get_or rows at e)) text
rows-grows bytes rows text at e r s l =
    let d : Reference = reference_of bytes e in
    let n : length (references bytes rows) ≡ length rows = length-references bytes rows in
    stands-grows (references bytes rows) text at d r s (omega arith) ∙ ap (λ (x : Reference). begins x.name text) (references-at bytes rows at d e l)

pub rows-last-grows : (bytes : List ℕ) (rows : List Row) (text : List ℕ) (at : ℕ)
    → StandsAt (references bytes rows) text at → length rows ≤ at → may_grow (references bytes rows) text ≡ false
rows-last-grows bytes rows text at s l =
    let n : length (references bytes rows) ≡ length rows = length-references bytes rows in
    let w : at ≤ length (references bytes rows) = s.within in
    let last : at ≡ length (references bytes rows) = omega arith in
    let P : ℕ → Type 0 = λ x. StandsAt (references bytes rows) text x in
    stands-last-grows (references bytes rows) text (reference_of bytes no_row) (subst P last s)
