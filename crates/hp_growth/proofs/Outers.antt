-- Which edits are outer, as the marks tell it.
use Rattle.std.proofs.Common.{◌≡◌, ℕ, zero, suc, ◌==◌, Bool, true, false, List, [], ◌∷◌, ◌++◌, refl, sym, ap, ◌∙◌, arith}
use Rattle.std.specs.Prelude.{◌||◌, nat_lt}
use Rattle.std.specs.List.{flat_map, list_any}
use Rattle.std.proofs.lemmas.Bool.{le-ltb, ne_eqb, or_parts}
use Rattle.std.proofs.lemmas.List.Folds.{list_any-append}
use Rattle.hp_control.specs.declared.edit.Child.TheVariants as child
use Rattle.hp_control.specs.declared.edit.Edit.{Edit}
use Rattle.hp_control.specs.declared.edit.Edit.TheVariants.{NewElement, Put, Detach, MoveChildren, AddMissing}
use Rattle.hp_control.specs.declared.edit.Place.TheVariants.{Into, Foster}
use Rattle.hp_control.specs.Tree.{Tree, id_of}
use Rattle.hp_groves.specs.Split.{Hand, ids, is_outer, moved, parents_from, parents_named, parents_touched}
use Rattle.hp_growth.specs.Growing.{IsRooted}
use Rattle.hp_growth.specs.Marking.{children_touched, mark, parent_touched}
use Rattle.hp_growth.specs.Reaching.{is_tied, reaches}
use Rattle.hp_growth.specs.declared.marks.Mark.{Mark}
use Rattle.hp_growth.proofs.Parents.{parents-same}

-- these marks tell what is at hand of own elements
pub record Agrees (h : Hand) (marks : List Mark) : Type 0 where
  pub children : (number : ℕ) → h.children (suc number) ≡ (mark marks number).children
  pub parent : (number : ℕ) → h.parent (suc number) ≡ (mark marks number).parent

below-one : (k : ℕ) → nat_lt (suc k) 1 ≡ false
below-one k = le-ltb (suc k) 1 (omega arith)

any-flat : (test : ℕ → Bool) (f : ℕ → List ℕ) (xs : List ℕ) → list_any test (flat_map f xs) ≡ list_any (λ x. list_any test (f x)) xs
any-flat test f [] = refl
any-flat test f (x ∷ xs) = list_any-append test (f x) (flat_map f xs) ∙ ap (λ b. list_any test (f x) || b) (any-flat test f xs)

any-same : (f g : ℕ → Bool) → ((x : ℕ) → f x ≡ g x) → (xs : List ℕ) → list_any f xs ≡ list_any g xs
any-same f g same [] = refl
any-same f g same (x ∷ xs) = ap (λ b. b || list_any f xs) (same x) ∙ ap (λ b. g x || b) (any-same f g same xs)

or-pairs : (a b c d : Bool) → ((a || b) || (c || d)) ≡ ((a || c) || (b || d))
or-pairs true b c d = refl
or-pairs false true true d = refl
or-pairs false true false d = refl
or-pairs false false c d = refl

any-or : (f g : ℕ → Bool) (xs : List ℕ) → list_any (λ x. f x || g x) xs ≡ (list_any f xs || list_any g xs)
any-or f g [] = refl
any-or f g (x ∷ xs) = ap (λ b. (f x || g x) || b) (any-or f g xs) ∙ or-pairs (f x) (g x) (list_any f xs) (list_any g xs)

or-five : (a p h q b : Bool) → (((a || p) || (h || q)) || b) ≡ ((p || h) || ((a || b) || q))
or-five true true h q b = refl
or-five true false true q b = refl
or-five true false false q b = refl
or-five false true h q b = refl
or-five false false true q b = refl
or-five false false false true true = refl
or-five false false false true false = refl
or-five false false false false true = refl
or-five false false false false false = refl

or-nil : (x : Bool) → x ≡ (x || false)
or-nil true = refl
or-nil false = refl

one-parent : (x : Bool) → (x || false) ≡ ((x || false) || false)
one-parent true = refl
one-parent false = refl

child-into : (x y : Bool) → (x || y) ≡ ((x || false) || (y || false))
child-into true y = refl
child-into false true = refl
child-into false false = refl

child-before : (x y z : Bool) → ((x || y) || z) ≡ ((x || false) || (z || (y || false)))
child-before true y z = refl
child-before false true true = refl
child-before false true false = refl
child-before false false true = refl
child-before false false false = refl

before-table : (x y : Bool) → ((x || y) || false) ≡ ((x || false) || (y || false))
before-table true y = refl
before-table false y = refl

two-parents : (x y : Bool) → (x || y) ≡ ((x || (y || false)) || false)
two-parents true y = refl
two-parents false true = refl
two-parents false false = refl

first-id : (id : ℕ) → (((nat_lt id 1 || false) || false) || false) ≡ (id == 0)
first-id zero = refl
first-id (suc k) = ap (λ b. ((b || false) || false) || false) (below-one k) ∙ sym (ne_eqb (suc k) 0 (λ e. omega arith))

module _ (h : Hand) (marks : List Mark) (a : Agrees h marks) (count : ℕ) (r : IsRooted h.grove count) where
  abbrev older : ℕ → Bool
  older id = nat_lt id 1

  abbrev among : ℕ → Bool
  among id = list_any h.children (parents_from 0 h.grove id)

  children-same : (id : ℕ) → (older id || h.children id) ≡ children_touched marks id
  children-same zero = refl
  children-same (suc k) = ap (λ b. b || h.children (suc k)) (below-one k) ∙ a.children k

  parent-same : (id : ℕ) → (older id || h.parent id) ≡ parent_touched marks id
  parent-same zero = refl
  parent-same (suc k) = ap (λ b. b || h.parent (suc k)) (below-one k) ∙ a.parent k

  among-same : (id : ℕ) → list_any h.children (parents_from 0 h.grove id) ≡ list_any (children_touched marks) (parents_from 0 h.grove id)
  among-same id = parents-same h.grove count h.children (children_touched marks) r a.children id

  tied-same : (id : ℕ) → ((older id || h.parent id) || among id) ≡ is_tied h.grove marks id
  tied-same id = ap (λ b. b || among id) (parent-same id) ∙ ap (λ b. parent_touched marks id || b) (among-same id)

  parents-told : (xs : List ℕ) → (list_any older xs || list_any h.children xs) ≡ list_any (children_touched marks) xs
  parents-told xs = sym (any-or older h.children xs) ∙ any-same (λ id. older id || h.children id) (children_touched marks) children-same xs

  moved-told : (xs : List ℕ) → ((list_any older xs || list_any h.parent xs) || list_any among xs) ≡ list_any (is_tied h.grove marks) xs
  moved-told xs =
      ap (λ b. b || list_any among xs) (sym (any-or older h.parent xs))
      ∙ sym (any-or (λ id. older id || h.parent id) among xs)
      ∙ any-same (λ id. (older id || h.parent id) || among id) (is_tied h.grove marks) tied-same xs

  -- where an edit names nothing but what it touches
  outer-told : (e : Edit) → ids e ≡ moved e ++ parents_named e → (list_any (children_touched marks) (parents_named e) || list_any (is_tied h.grove marks) (moved e)) ≡ is_outer 1 h e
  outer-told e named = sym (
      ap (λ b. (b || list_any h.children (parents_touched h.grove e)) || list_any h.parent (moved e)) (ap (list_any older) named ∙ list_any-append older (moved e) (parents_named e))
      ∙ ap (λ b. ((list_any older (moved e) || list_any older (parents_named e)) || b) || list_any h.parent (moved e))
      (list_any-append h.children (parents_named e) (flat_map (parents_from 0 h.grove) (moved e)) ∙ ap (λ b. list_any h.children (parents_named e) || b) (any-flat h.children (parents_from 0 h.grove) (moved e)))
      ∙ or-five (list_any older (moved e)) (list_any older (parents_named e)) (list_any h.children (parents_named e)) (list_any among (moved e)) (list_any h.parent (moved e))
      ∙ ap (λ b. b || ((list_any older (moved e) || list_any h.parent (moved e)) || list_any among (moved e))) (parents-told (parents_named e))
      ∙ ap (λ b. list_any (children_touched marks) (parents_named e) || b) (moved-told (moved e)))

  pub reaches-outer : (e : Edit) → reaches h.grove marks e ≡ is_outer 1 h e
  reaches-outer (NewElement tag) = refl
  reaches-outer (Put (child.Element node) (Into parent)) = child-into (children_touched marks (id_of parent)) (is_tied h.grove marks (id_of node)) ∙ outer-told (Put (child.Element node) (Into parent)) refl
  reaches-outer (Put (child.Element node) (Foster table above)) =
      child-before (children_touched marks (id_of above)) (is_tied h.grove marks (id_of table)) (is_tied h.grove marks (id_of node)) ∙ outer-told (Put (child.Element node) (Foster table above)) refl
  reaches-outer (Put (child.Text text) (Into parent)) = one-parent (children_touched marks (id_of parent)) ∙ outer-told (Put (child.Text text) (Into parent)) refl
  reaches-outer (Put (child.Text text) (Foster table above)) = before-table (children_touched marks (id_of above)) (is_tied h.grove marks (id_of table)) ∙ outer-told (Put (child.Text text) (Foster table above)) refl
  reaches-outer (Put (child.Comment text) (Into parent)) = one-parent (children_touched marks (id_of parent)) ∙ outer-told (Put (child.Comment text) (Into parent)) refl
  reaches-outer (Put (child.Comment text) (Foster table above)) = before-table (children_touched marks (id_of above)) (is_tied h.grove marks (id_of table)) ∙ outer-told (Put (child.Comment text) (Foster table above)) refl
  reaches-outer (Put (child.Doctype parts) (Into parent)) = one-parent (children_touched marks (id_of parent)) ∙ outer-told (Put (child.Doctype parts) (Into parent)) refl
  reaches-outer (Put (child.Doctype parts) (Foster table above)) = before-table (children_touched marks (id_of above)) (is_tied h.grove marks (id_of table)) ∙ outer-told (Put (child.Doctype parts) (Foster table above)) refl
  reaches-outer (Detach node) = or-nil (is_tied h.grove marks (id_of node)) ∙ outer-told (Detach node) refl
  reaches-outer (MoveChildren from to) = two-parents (children_touched marks (id_of from)) (children_touched marks (id_of to)) ∙ outer-told (MoveChildren from to) refl
  reaches-outer (AddMissing node more) = sym (first-id (id_of node))

-- an edit that reaches nothing names own elements alone
pub inner-own : (t : Tree) (marks : List Mark) (count : ℕ) → IsRooted t count → (e : Edit) → reaches t marks e ≡ false → list_any (λ id. nat_lt id 1) (ids e) ≡ false
inner-own t marks count r e f =
    let h : Hand = record { grove = t; children = children_touched marks; parent = parent_touched marks } in
    let outer : is_outer 1 h e ≡ false = sym (reaches-outer h marks (record { children = λ k. refl; parent = λ k. refl }) count r e) ∙ f in
    (or_parts (list_any (λ id. nat_lt id 1) (ids e)) (list_any h.children (parents_touched t e)) (or_parts (list_any (λ id. nat_lt id 1) (ids e) || list_any h.children (parents_touched t e)) (list_any h.parent (moved e)) outer).0).0
