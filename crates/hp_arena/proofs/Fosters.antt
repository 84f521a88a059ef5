-- What is put before an element that has a parent.
use Rattle.std.proofs.Common.{◌≡◌, ◌≢◌, ℕ, zero, suc, ◌+◌, ◌-◌, ◌<◌, ◌≤◌, List, [], ◌∷◌, ◌++◌, Bool, true, false, ◌==◌, eqb, length, map, refl, sym, ap, ◌∙◌, subst, arith, get_or, inl, inr}
use Rattle.std.specs.List.{list_any, IsDistinct, AllByRecursion}
use Rattle.std.proofs.lemmas.Bool.{true≢false, cases_eq, cases_Bool, cond-true, cond-false, eq-eqb, ne_eqb, eqb-true, eqb-false}
use Rattle.std.proofs.lemmas.List.{length-map}
use Rattle.hp_control.specs.Tree.{Item, Branch, is_element, beside, put_before, has_parent, stands_in, branch, no_branch}
use Rattle.hp_arena.specs.Ring.{Links, Path}
use Rattle.hp_arena.specs.Nodes.{links_of, kind_of, stops, inside, is_end, end_from}
use Rattle.hp_arena.specs.Shape.{IsTree, IsListed, item_of, branches_of, branch_of}
use Rattle.hp_store.specs.Lists.{node_of}
use Rattle.hp_store.specs.declared.node.Kind.TheVariants.{End}
use Rattle.hp_store.specs.declared.node.Node.{Node}
use Rattle.hp_store.specs.Store.{Element as ElementOf}
use Rattle.hp_arena.proofs.Branches.{branch-at}
use Rattle.hp_arena.proofs.Detaching.{end-not_node}
use Rattle.hp_arena.proofs.Forests.{one_list}
use Rattle.hp_arena.proofs.Intos.{StaysApart, ends-apart}
use Rattle.hp_arena.proofs.Paths.{put_in, is_in, Avoids, alone-not_on_path, or-left, or-right}
use Rattle.hp_arena.proofs.Shapes.{AreLeaves, is_element-item, stops-end}
use Rattle.hp_arena.proofs.Walks.{Inner, inside-inner, Path-distinct, Later, Path-later, Path-length}

eqb-swap : (a b : ℕ) (c : Bool) → (a == b) ≡ c → (b == a) ≡ c
eqb-swap a b c h =
    elim (cases_eq a b) [
      | inl same ↦ eq-eqb b a (sym same) ∙ sym (eq-eqb a b same) ∙ h
      | inr other ↦ ne_eqb b a (λ e. other (sym e)) ∙ sym (ne_eqb a b other) ∙ h
    ]

-- where a node isn't in a list, nothing is put before it there
put_in-none : (at node : ℕ) (xs : List ℕ) (to : ℕ) → AllByRecursion (λ y. eqb at y ≡ false) xs → to ≢ at → put_in at node xs to ≡ xs
put_in-none at node [] to h apart = cond-false (to == at) _ _ (ne_eqb to at apart)
put_in-none at node (x ∷ xs) to h apart = cond-false (x == at) _ _ (eqb-swap at x false h.0) ∙ ap (λ ys. x ∷ ys) (put_in-none at node xs to h.1 apart)

module _ (l : Links) (stop : ℕ → Bool) (f : ℕ → Item) (table at : ℕ) (tests : (x : ℕ) → stop x ≡ false → is_element table (f x) ≡ (x == at)) where
  -- the list with a node put before another one means the items with one more
  pub put_before-path : (node : ℕ) → StaysApart (f (l.prev at)) (f node) → (from : ℕ) (xs : List ℕ) (to : ℕ) → Path l from xs to → Inner stop xs → IsDistinct eqb xs → to ≢ at
      → map f (put_in at node xs to) ≡ put_before table (map f xs) (f node)
  unfolding IsDistinct
  put_before-path node stays from [] to p i d apart = ap (map f) (cond-false (to == at) _ _ (ne_eqb to at apart))
  put_before-path node stays from (x ∷ []) to p i d apart =
      let none : put_in at node [] to ≡ [] = cond-false (to == at) _ _ (ne_eqb to at apart) in
      elim (cases_Bool (x == at)) [
        | inl e ↦ ap (map f) (cond-true (x == at) _ _ e) ∙ ap (λ ys. f node ∷ f x ∷ map f ys) none ∙ sym (cond-true (is_element table (f x)) _ _ (tests x i.0 ∙ e))
        | inr e ↦ ap (map f) (cond-false (x == at) _ _ e) ∙ ap (λ ys. f x ∷ map f ys) none ∙ sym (cond-false (is_element table (f x)) _ _ (tests x i.0 ∙ e))
      ]
  put_before-path node stays from (x ∷ y ∷ rest) to p i d apart =
      elim (cases_Bool (x == at)) [
        | inl e ↦
            let more : put_in at node (y ∷ rest) to ≡ y ∷ rest = put_in-none at node (y ∷ rest) to (subst (λ z. AllByRecursion (λ w. eqb z w ≡ false) (y ∷ rest)) (eqb-true x at e) d.0) apart in
            ap (map f) (cond-true (x == at) _ _ e) ∙ ap (λ ys. f node ∷ f x ∷ map f ys) more ∙ sym (cond-true (is_element table (f x)) _ _ (tests x i.0 ∙ e))
        | inr e ↦
            ap (map f) (cond-false (x == at) _ _ e)
            ∙ elim (cases_Bool (y == at)) [
              | inl e' ↦
                  let own : y ≡ at = eqb-true y at e' in
                  let before : x ≡ l.prev at = sym p.1.0.back ∙ ap l.prev own in
                  let more : put_in at node rest to ≡ rest = put_in-none at node rest to (subst (λ z. AllByRecursion (λ w. eqb z w ≡ false) rest) own d.1.0) apart in
                  let two : beside (f x) (f node) ≡ f x ∷ f node ∷ [] = subst (λ z. StaysApart (f z) (f node)) (sym before) stays in
                  ap (λ ys. f x ∷ map f ys) (cond-true (y == at) _ _ e')
                  ∙ ap (λ ys. f x ∷ f node ∷ f y ∷ map f ys) more
                  ∙ ap (λ ys. ys ++ f y ∷ map f rest) (sym two)
                  ∙ sym (cond-true (is_element table (f y)) _ _ (tests y i.1.0 ∙ e'))
              | inr e' ↦
                  ap (λ ys. f x ∷ ys) (put_before-path node stays x (y ∷ rest) to p.1 i.1 d.1 apart)
                  ∙ sym (cond-false (is_element table (f y)) _ _ (tests y i.1.0 ∙ e'))
            ]
            ∙ sym (cond-false (is_element table (f x)) _ _ (tests x i.0 ∙ e))
      ]

  others-same : (g : ℕ → Item) (last : ℕ) → ((s : ℕ) → s ≢ last → g s ≡ f s) → (xs : List ℕ) → AllByRecursion (λ y. eqb last y ≡ false) xs → map g xs ≡ map f xs
  others-same g last others [] h = refl
  others-same g last others (x ∷ xs) h =
      let first : g x ≡ f x = others x (λ e. true≢false (sym (eq-eqb last x (sym e)) ∙ h.0)) in
      let rest : map g xs ≡ map f xs = others-same g last others xs h.1 in cc

  -- the list in which the text before a node got more
  pub joined_before-path : (g : ℕ → Item) (x' : Item) → ((s : ℕ) → s ≢ l.prev at → g s ≡ f s) → beside (f (l.prev at)) x' ≡ g (l.prev at) ∷ [] → l.next (l.prev at) ≡ at → at ≢ l.prev at
      → (from : ℕ) (xs : List ℕ) (to : ℕ) → Path l from xs to → Inner stop xs → IsDistinct eqb xs → to ≢ at → from ≢ l.prev at
      → map g xs ≡ put_before table (map f xs) x'
  unfolding IsDistinct
  joined_before-path g x' others joins next lone from [] to p i d apart begins = refl
  joined_before-path g x' others joins next lone from (x ∷ []) to p i d apart begins =
      let away : x ≢ at = λ e. begins (sym p.0.back ∙ ap l.prev e) in
      let other : x ≢ l.prev at = λ e. apart (sym p.1.ahead ∙ ap l.next e ∙ next) in
      ap (λ y. y ∷ []) (others x other) ∙ sym (cond-false (is_element table (f x)) _ _ (tests x i.0 ∙ ne_eqb x at away))
  joined_before-path g x' others joins next lone from (x ∷ y ∷ rest) to p i d apart begins =
      let away : x ≢ at = λ e. begins (sym p.0.back ∙ ap l.prev e) in
      elim (cases_Bool (y == at)) [
        | inl e ↦
            let own : y ≡ at = eqb-true y at e in
            let before : x ≡ l.prev at = sym p.1.0.back ∙ ap l.prev own in
            let same : g y ≡ f y = others y (λ e'. lone (sym own ∙ e')) in
            let more : map g rest ≡ map f rest = others-same g (l.prev at) others rest (subst (λ z. AllByRecursion (λ w. eqb z w ≡ false) rest) before d.0.1) in
            let one : g x ∷ [] ≡ beside (f x) x' = subst (λ z. g z ∷ [] ≡ beside (f z) x') (sym before) (sym joins) in
            ap (λ z. g x ∷ z ∷ map g rest) same ∙ ap (λ ys. g x ∷ f y ∷ ys) more ∙ ap (λ ys. ys ++ f y ∷ map f rest) one
            ∙ sym (cond-true (is_element table (f y)) _ _ (tests y i.1.0 ∙ e))
            ∙ sym (cond-false (is_element table (f x)) _ _ (tests x i.0 ∙ ne_eqb x at away))
        | inr e ↦
            let other : x ≢ l.prev at = λ e'. eqb-false y at e (sym p.1.0.ahead ∙ ap l.next e' ∙ next) in
            ap (λ z. z ∷ map g (y ∷ rest)) (others x other)
            ∙ ap (λ ys. f x ∷ ys) (joined_before-path g x' others joins next lone x (y ∷ rest) to p.1 i.1 d.1 apart other)
            ∙ sym (cond-false (is_element table (f y)) _ _ (tests y i.1.0 ∙ e))
            ∙ sym (cond-false (is_element table (f x)) _ _ (tests x i.0 ∙ ne_eqb x at away))
      ]

-- an element is among the items where its node is in the list
any-items : (nodes : List Node) (elements : List ElementOf) (leaves : List Item) → AreLeaves leaves → IsTree nodes elements (length leaves) → (id : ℕ) → id < length elements → (xs : List ℕ) → Inner (stops nodes) xs
    → list_any (is_element id) (map (item_of nodes leaves) xs) ≡ is_in (node_of elements id) xs
any-items nodes elements leaves plain t id h [] i = refl
any-items nodes elements leaves plain t id h (x ∷ xs) i =
    let first : is_element id (item_of nodes leaves x) ≡ (node_of elements id == x) = is_element-item nodes elements leaves plain t id h x i.0 ∙ sym (eqb-swap x (node_of elements id) (x == node_of elements id) refl) in
    let rest : list_any (is_element id) (map (item_of nodes leaves) xs) ≡ is_in (node_of elements id) xs = any-items nodes elements leaves plain t id h xs i.1 in cc

Avoids-in : (n : ℕ) (xs : List ℕ) → Avoids n xs → is_in n xs ≡ false
Avoids-in n [] v = refl
Avoids-in n (x ∷ xs) v =
    let first : (n == x) ≡ false = ne_eqb n x (λ e. v.0 (sym e)) in
    let rest : is_in n xs ≡ false = Avoids-in n xs v.1 in cc

any-none : (p : Branch → Bool) (bs : List Branch) → ((i : ℕ) → i < length bs → p (get_or bs i no_branch) ≡ false) → list_any p bs ≡ false
any-none p [] h = refl
any-none p (b ∷ bs) h =
    let first : p b ≡ false = h 0 (omega arith) in
    let rest : list_any p bs ≡ false = any-none p bs (λ i below. h (suc i) (omega arith)) in cc

any-some : (p : Branch → Bool) (bs : List Branch) (i : ℕ) → i < length bs → p (get_or bs i no_branch) ≡ true → list_any p bs ≡ true
any-some p [] i h e = absurd (omega arith)
any-some p (b ∷ bs) zero h e = or-left (p b) (list_any p bs) e
any-some p (b ∷ bs) (suc i) h e = or-right (p b) (list_any p bs) (any-some p bs i (omega arith) e)

-- the parent of an element, as the links lead to it
pub record ParentOf (nodes : List Node) (elements : List ElementOf) (leaves : List Item) (id : ℕ) : Type 0 where
  pub parent : ℕ
  pub end_in : end_from nodes (length nodes) (node_of elements id) < length nodes
  pub end : kind_of nodes (end_from nodes (length nodes) (node_of elements id)) ≡ End parent
  pub stands : stands_in (branches_of nodes elements leaves) parent id ≡ true

module _ (nodes : List Node) (elements : List ElementOf) (leaves : List Item) (plain : AreLeaves leaves) (t : IsTree nodes elements (length leaves)) (id : ℕ) (h : id < length elements) where
  abbrev own : ℕ
  own = node_of elements id

  abbrev lists : ℕ → List ℕ
  lists j = inside nodes (node_of elements j + 1)

  pub inner-own : stops nodes own ≡ false
  inner-own = ap is_end (t.element id h)

  stands-at : (j : ℕ) → j < length elements → list_any (is_element id) (branch (branches_of nodes elements leaves) j).inside ≡ is_in own (lists j)
  stands-at j hj = ap (λ b. list_any (is_element id) b.inside) (branch-at nodes elements leaves j hj) ∙ any-items nodes elements leaves plain t id h (lists j) (inside-inner nodes (node_of elements j + 1))

  pub has_parent-none : (links_of nodes).next own ≡ own → has_parent (branches_of nodes elements leaves) id ≡ false
  has_parent-none lone = any-none (λ b. list_any (is_element id) b.inside) (branches_of nodes elements leaves) (λ j below.
      let hj : j < length elements = subst (λ n. j < n) (length-map elements (branch_of nodes leaves)) below in
      let apart : node_of elements j + 1 ≢ own = end-not_node nodes elements (length leaves) t j id hj h in
      stands-at j hj ∙ Avoids-in own (lists j) (alone-not_on_path (links_of nodes) (node_of elements j + 1) (lists j) (node_of elements j + 1) own (t.ring j hj) lone apart).1)

  pub has_parent-some : (links_of nodes).next own ≢ own → has_parent (branches_of nodes elements leaves) id ≡ true
  has_parent-some away =
      let there : IsListed nodes elements own = t.listed own inner-own away in
      any-some (λ b. list_any (is_element id) b.inside) (branches_of nodes elements leaves) there.0
      (subst (λ n. there.0 < n) (sym (length-map elements (branch_of nodes leaves))) there.1.0)
      (stands-at there.0 there.1.0 ∙ there.1.1)

  pub tests-own : (x : ℕ) → stops nodes x ≡ false → is_element id (item_of nodes leaves x) ≡ (x == own)
  tests-own x i = is_element-item nodes elements leaves plain t id h x i

  pub distinct : (j : ℕ) → j < length elements → IsDistinct eqb (lists j)
  distinct j hj = Path-distinct (links_of nodes) (stops nodes) (node_of elements j + 1) (lists j) (node_of elements j + 1) (t.ring j hj) (inside-inner nodes (node_of elements j + 1)) (stops-end nodes elements (length leaves) t j hj)

  -- the end that one comes to from the node of an element in a list
  end-walk : (from : ℕ) (xs : List ℕ) (to left : ℕ) → Path (links_of nodes) from xs to → Inner (stops nodes) xs → stops nodes to ≡ true → length xs ≤ left → end_from nodes left ((links_of nodes).next from) ≡ to
  unfolding end_from
  end-walk from [] to zero p i e few = p.ahead
  end-walk from [] to (suc left) p i e few = cond-true (stops nodes ((links_of nodes).next from)) _ _ (ap (stops nodes) p.ahead ∙ e) ∙ p.ahead
  end-walk from (x ∷ xs) to zero p i e few = absurd (omega arith)
  end-walk from (x ∷ xs) to (suc left) p i e few =
      cond-false (stops nodes ((links_of nodes).next from)) _ _ (ap (stops nodes) p.0.ahead ∙ i.0)
      ∙ ap (λ s. end_from nodes left ((links_of nodes).next s)) p.0.ahead
      ∙ end-walk x xs to left p.1 i.1 e (omega arith)

  end-own : (n : ℕ) → (to : ℕ) (xs : List ℕ) → Path (links_of nodes) own xs to → Inner (stops nodes) xs → stops nodes to ≡ true → length xs < n → end_from nodes n own ≡ to
  unfolding end_from
  end-own zero to xs p i e few = absurd (omega arith)
  end-own (suc n) to xs p i e few = cond-false (stops nodes own) _ _ inner-own ∙ end-walk own xs to n p i e (omega arith)

  pub end-there : (j : ℕ) → j < length elements → is_in own (lists j) ≡ true → end_from nodes (length nodes) own ≡ node_of elements j + 1
  end-there j hj here =
      let later : Later (links_of nodes) (stops nodes) own (length (lists j)) (node_of elements j + 1) = Path-later (links_of nodes) (stops nodes) (node_of elements j + 1) (lists j) (node_of elements j + 1) own (t.ring j hj) (inside-inner nodes (node_of elements j + 1)) here in
      let few : length (lists j) ≤ length nodes = Path-length nodes (node_of elements j + 1) (lists j) (node_of elements j + 1) (t.ring j hj) (inside-inner nodes (node_of elements j + 1)) (stops-end nodes elements (length leaves) t j hj) in
      end-own (length nodes) (node_of elements j + 1) later.nodes later.path later.inner (stops-end nodes elements (length leaves) t j hj) (omega (arith, later.shorter, few))

  -- the element stands in the document's list where the end that follows is the document's
  pub stands_in-document : 0 < length elements → (links_of nodes).next own ≢ own → stands_in (branches_of nodes elements leaves) 0 id ≡ (end_from nodes (length nodes) own == node_of elements 0 + 1)
  stands_in-document some away =
      let there : IsListed nodes elements own = t.listed own inner-own away in
      let end : end_from nodes (length nodes) own ≡ node_of elements there.0 + 1 = end-there there.0 there.1.0 there.1.1 in
      stands-at 0 some
      ∙ elim (cases_eq there.0 0) [
        | inl same ↦ subst (λ j. is_in own (lists j) ≡ true) same there.1.1 ∙ sym (eq-eqb _ _ (end ∙ ap (λ j. node_of elements j + 1) same))
        | inr other ↦
            elim (cases_Bool (is_in own (lists 0))) [
              | inl e ↦ absurd (other (one_list nodes elements (length leaves) t there.0 0 own there.1.0 some there.1.1 e))
              | inr e ↦ e ∙ sym (ne_eqb _ _ (λ same. ends-apart nodes elements (length leaves) t there.0 0 there.1.0 some other (sym end ∙ same)))
            ]
      ]

  -- from a node in a list one comes to the end of its parent
  pub parent-there : (links_of nodes).next own ≢ own → ParentOf nodes elements leaves id
  parent-there away =
      let there : IsListed nodes elements own = t.listed own inner-own away in
      let end : end_from nodes (length nodes) own ≡ node_of elements there.0 + 1 = end-there there.0 there.1.0 there.1.1 in
      record {
        parent = there.0;
        end_in = subst (λ n. n < length nodes) (sym end) (t.end_in there.0 there.1.0);
        end = ap (kind_of nodes) end ∙ t.end there.0 there.1.0;
        stands = stands-at there.0 there.1.0 ∙ there.1.1;
      }

pub end-stop : (nodes : List Node) (n s : ℕ) → stops nodes s ≡ true → end_from nodes n s ≡ s
unfolding end_from
end-stop nodes zero s e = refl
end-stop nodes (suc n) s e = cond-true (stops nodes s) _ _ e

pub end-go : (nodes : List Node) (n s : ℕ) → stops nodes s ≡ false → 0 < n → end_from nodes n s ≡ end_from nodes (n - 1) ((links_of nodes).next s)
unfolding end_from
end-go nodes zero s e h = absurd (omega arith)
end-go nodes (suc n) s e h = let less : n ≡ suc n - 1 = omega arith in cond-false (stops nodes s) _ _ e ∙ ap (λ k. end_from nodes k ((links_of nodes).next s)) less

pub end-none : (nodes : List Node) (s : ℕ) → end_from nodes 0 s ≡ s
unfolding end_from
end-none nodes s = refl
