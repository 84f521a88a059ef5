-- All children of an element are appended to those of another.
use Rattle.std.proofs.Common.{if◌then◌else◌, ◌==◌, ◌≡◌, ◌≢◌, ℕ, ◌+◌, ◌<◌, List, [], ◌∷◌, ◌++◌, Bool, true, false, length, map, sym, ap, ◌∙◌, subst, refl, inl, inr, get_or}
use Rattle.std.proofs.lemmas.Bool.{true≢false, cases_eq, cond-true, cond-false, eq-eqb, ne_eqb}
use Rattle.std.proofs.lemmas.List.{ext_get_or, length-map, map-append, get_or-set_same, get_or-set_other, append-nil}
use Rattle.std.proofs.Math.ListN.{length-set}
use Rattle.hp_control.specs.Tree.{Item, Tree, branch, no_branch, with_inside, in_one, children_moved}
use Rattle.hp_arena.specs.Ring.{Path, spliced}
use Rattle.hp_arena.specs.Nodes.{is_end, links_of, stops, inside, IsRinged, IsRelinked}
use Rattle.hp_arena.specs.Shape.{IsTree, IsListed, branches_of, branch_of, item_of}
use Rattle.hp_store.specs.Lists.{node_of, no_element}
use Rattle.hp_store.specs.declared.node.Node.{Node}
use Rattle.hp_store.specs.Store.{Element as ElementOf}
use Rattle.hp_arena.proofs.Paths.{is_in, in-append_left, in-append_right}
use Rattle.hp_arena.proofs.Rings.{Turns, alone-spliced}
use Rattle.hp_arena.proofs.Walks.{Inner, inside-inner, inside-path}
use Rattle.hp_arena.proofs.Shapes.{IsAmong, Rewired, Inner-same, inside-rewired, IsTree-rewired, stops-end, make_branch}
use Rattle.hp_arena.proofs.Detaching.{turns, IsRinged-from, map-same_items}
use Rattle.hp_arena.proofs.Intos.{ends-apart}
use Rattle.hp_arena.proofs.Branches.{items_of, branch-at}
use Rattle.hp_arena.proofs.Splicing.{Turns-spliced, Path-spliced_there, Path-spliced_target, Path-spliced_source}

-- the lists of children after the move
abbrev pub after_move : (ℕ → List ℕ) → ℕ → ℕ → ℕ → List ℕ
after_move lists from to j = if j == from then [] else if j == to then lists to ++ lists from else lists j

pub Inner-append : (stop : ℕ → Bool) (xs ys : List ℕ) → Inner stop xs → Inner stop ys → Inner stop (xs ++ ys)
Inner-append stop [] ys i j = j
Inner-append stop (x ∷ xs) ys i j = (i.0, Inner-append stop xs ys i.1 j)

-- what the move makes of the branches, told list by list
pub branches-moved_by : (old new : List Node) (elements : List ElementOf) (leaves : List Item) (from to : ℕ) → from < length elements → to < length elements → from ≢ to
    → items_of new elements leaves from ≡ []
    → items_of new elements leaves to ≡ items_of old elements leaves to ++ items_of old elements leaves from
    → ((j : ℕ) → j < length elements → j ≢ from → j ≢ to → items_of new elements leaves j ≡ items_of old elements leaves j)
    → branches_of new elements leaves ≡ children_moved (branches_of old elements leaves) from to
branches-moved_by old new elements leaves from to hf ht apart e1 e2 e3 =
    let t : Tree = branches_of old elements leaves in
    let more : List Item → List Item = λ items. items ++ (branch t from).inside in
    let u : Tree = in_one more t to in
    let none : List Item → List Item = λ _. [] in
    let lt : length t ≡ length elements = length-map elements (branch_of old leaves) in
    let lu : length u ≡ length elements = length-set t to (with_inside more (branch t to)) ∙ lt in
    ext_get_or no_branch (branches_of new elements leaves) (in_one none u from)
    (length-map elements (branch_of new leaves) ∙ sym (length-set u from (with_inside none (branch u from)) ∙ lu))
    (λ i h.
    let below : i < length elements = subst (λ n. i < n) (length-map elements (branch_of new leaves)) h in
    elim (cases_eq i from) [
      | inl same ↦
          subst (λ k. branch (branches_of new elements leaves) k ≡ branch (in_one none u from) k) (sym same)
          (branch-at new elements leaves from hf ∙ ap (make_branch (get_or elements from no_element).tag) e1
          ∙ sym (get_or-set_same u from (with_inside none (branch u from)) no_branch (subst (λ n. from < n) (sym lu) hf)
          ∙ ap (with_inside none) (get_or-set_other t to from (with_inside more (branch t to)) no_branch apart ∙ branch-at old elements leaves from hf)))
      | inr other ↦ elim (cases_eq i to) [
        | inl same ↦
            subst (λ k. branch (branches_of new elements leaves) k ≡ branch (in_one none u from) k) (sym same)
            (branch-at new elements leaves to ht ∙ ap (make_branch (get_or elements to no_element).tag) (e2 ∙ ap (λ xs. items_of old elements leaves to ++ xs) (sym (ap (λ b. b.inside) (branch-at old elements leaves from hf))))
            ∙ sym (get_or-set_other u from to (with_inside none (branch u from)) no_branch (λ e. apart (sym e))
            ∙ get_or-set_same t to (with_inside more (branch t to)) no_branch (subst (λ n. to < n) (sym lt) ht)
            ∙ ap (with_inside more) (branch-at old elements leaves to ht)))
        | inr third ↦
            branch-at new elements leaves i below ∙ ap (make_branch (get_or elements i no_element).tag) (e3 i below other third)
            ∙ sym (get_or-set_other u from i (with_inside none (branch u from)) no_branch other
            ∙ get_or-set_other t to i (with_inside more (branch t to)) no_branch third ∙ branch-at old elements leaves i below)
      ]
    ])

move-from : (lists : ℕ → List ℕ) (from to : ℕ) → after_move lists from to from ≡ []
move-from lists from to = cond-true (from == from) _ _ (eq-eqb from from refl)

move-to : (lists : ℕ → List ℕ) (from to : ℕ) → from ≢ to → after_move lists from to to ≡ lists to ++ lists from
move-to lists from to apart = cond-false (to == from) _ _ (ne_eqb to from (λ e. apart (sym e))) ∙ cond-true (to == to) _ _ (eq-eqb to to refl)

move-other : (lists : ℕ → List ℕ) (from to j : ℕ) → j ≢ from → j ≢ to → after_move lists from to j ≡ lists j
move-other lists from to j h1 h2 = cond-false (j == from) _ _ (ne_eqb j from h1) ∙ cond-false (j == to) _ _ (ne_eqb j to h2)

module _ (old new : List Node) (elements : List ElementOf) (leaves : List Item) (t : IsTree old elements (length leaves)) (from to : ℕ) (hf : from < length elements) (ht : to < length elements) (apart : from ≢ to)
    (some : (links_of old).next (node_of elements from + 1) ≢ node_of elements from + 1)
    (relinked : IsRelinked old new (spliced (links_of old) (node_of elements from + 1) (node_of elements to + 1))) where
  abbrev end_of : ℕ → ℕ
  end_of j = node_of elements j + 1

  abbrev lists : ℕ → List ℕ
  lists j = inside old (node_of elements j + 1)

  ends : (i j : ℕ) → i < length elements → j < length elements → i ≢ j → end_of i ≢ end_of j
  ends i j hi hj other = ends-apart old elements (length leaves) t i j hi hj other

  source : Turns (links_of old) (end_of from)
  source = turns old t.ringed (end_of from) (t.end_in from hf)

  target : Turns (links_of old) (end_of to)
  target = turns old t.ringed (end_of to) (t.end_in to ht)

  stop_source : stops old (end_of from) ≡ true
  stop_source = stops-end old elements (length leaves) t from hf

  stop_target : stops old (end_of to) ≡ true
  stop_target = stops-end old elements (length leaves) t to ht

  ringed : IsRinged new
  ringed = IsRinged-from new (λ x hx. subst (λ l. Turns l x) (sym relinked.links_are)
      (Turns-spliced (links_of old) (stops old) (end_of from) (end_of to) (ends from to hf ht apart) some source target stop_source stop_target x (turns old t.ringed x (subst (λ n. x < n) relinked.same.count hx))))

  path-to : (xs : List ℕ) → Path (links_of old) (end_of from) xs (end_of from) → Inner (stops old) xs → Path (spliced (links_of old) (end_of from) (end_of to)) (end_of to) (lists to ++ xs) (end_of to)
  path-to [] p i = absurd (some p.ahead)
  path-to (f ∷ xs) p i = Path-spliced_target (links_of old) (stops old) (end_of from) (end_of to) (ends from to hf ht apart) some source target stop_source stop_target (end_of to) (lists to) f xs (t.ring to ht) p (inside-inner old (end_of to)) i (ends to from ht hf (λ e. apart (sym e)))

  path : (j : ℕ) → j < length elements → Path (spliced (links_of old) (end_of from) (end_of to)) (end_of j) (after_move lists from to j) (end_of j)
  path j hj =
      elim (cases_eq j from) [
        | inl same ↦
            subst (λ k. Path (spliced (links_of old) (end_of from) (end_of to)) (end_of k) (after_move lists from to k) (end_of k)) (sym same)
            (subst (λ xs. Path (spliced (links_of old) (end_of from) (end_of to)) (end_of from) xs (end_of from)) (sym (move-from lists from to))
            (Path-spliced_source (links_of old) (stops old) (end_of from) (end_of to) (ends from to hf ht apart) some source target stop_source stop_target))
        | inr other ↦ elim (cases_eq j to) [
          | inl same ↦
              subst (λ k. Path (spliced (links_of old) (end_of from) (end_of to)) (end_of k) (after_move lists from to k) (end_of k)) (sym same)
              (subst (λ xs. Path (spliced (links_of old) (end_of from) (end_of to)) (end_of to) xs (end_of to)) (sym (move-to lists from to apart))
              (path-to (lists from) (t.ring from hf) (inside-inner old (end_of from))))
          | inr third ↦
              subst (λ xs. Path (spliced (links_of old) (end_of from) (end_of to)) (end_of j) xs (end_of j)) (sym (move-other lists from to j other third))
              (Path-spliced_there (links_of old) (stops old) (end_of from) (end_of to) (ends from to hf ht apart) some source target stop_source stop_target (end_of j) (lists j) (end_of j) (t.ring j hj) (inside-inner old (end_of j))
              (ends j from hj hf other) (ends j from hj hf other) (ends j to hj ht third))
        ]
      ]

  inner : (j : ℕ) → Inner (stops old) (after_move lists from to j)
  inner j =
      elim (cases_eq j from) [
        | inl same ↦ subst (λ k. Inner (stops old) (after_move lists from to k)) (sym same) (subst (λ xs. Inner (stops old) xs) (sym (move-from lists from to)) tt)
        | inr other ↦ elim (cases_eq j to) [
          | inl same ↦ subst (λ k. Inner (stops old) (after_move lists from to k)) (sym same)
              (subst (λ xs. Inner (stops old) xs) (sym (move-to lists from to apart)) (Inner-append (stops old) (lists to) (lists from) (inside-inner old (end_of to)) (inside-inner old (end_of from))))
          | inr third ↦ subst (λ xs. Inner (stops old) xs) (sym (move-other lists from to j other third)) (inside-inner old (end_of j))
        ]
      ]

  rewired : Rewired new elements (after_move lists from to)
  rewired = record {
    path = λ j hj. subst (λ l. Path l (end_of j) (after_move lists from to j) (end_of j)) (sym relinked.links_are) (path j hj);
    inner = λ j hj. Inner-same old new relinked.same (after_move lists from to j) (inner j);
  }

  alone-still : (s : ℕ) → stops old s ≡ false → (links_of old).next s ≡ s → (links_of new).next s ≡ s
  alone-still s i e = subst (λ l. l.next s ≡ s) (sym relinked.links_are)
      (alone-spliced (links_of old) (end_of from) (end_of to) s source target (λ same. true≢false (sym stop_source ∙ ap (stops old) (sym same) ∙ i)) (λ same. true≢false (sym stop_target ∙ ap (stops old) (sym same) ∙ i)) e)

  listed : (s : ℕ) → stops old s ≡ false → (links_of new).next s ≢ s → IsAmong elements (after_move lists from to) s
  listed s i h =
      let there : IsListed old elements s = t.listed s i (λ e. h (alone-still s i e)) in
      elim (cases_eq there.0 from) [
        | inl same ↦
            (to, (ht, subst (λ xs. is_in s xs ≡ true) (sym (move-to lists from to apart)) (in-append_right s (lists to) (lists from) (subst (λ j. is_in s (lists j) ≡ true) same there.1.1))))
        | inr other ↦ elim (cases_eq there.0 to) [
          | inl same ↦
              (to, (ht, subst (λ xs. is_in s xs ≡ true) (sym (move-to lists from to apart)) (in-append_left s (lists to) (lists from) (subst (λ j. is_in s (lists j) ≡ true) same there.1.1))))
          | inr third ↦ (there.0, (there.1.0, subst (λ xs. is_in s xs ≡ true) (sym (move-other lists from to there.0 other third)) there.1.1))
        ]
      ]

  pub IsTree-spliced : IsTree new elements (length leaves)
  IsTree-spliced = IsTree-rewired old new elements (length leaves) (after_move lists from to) t relinked.same relinked.closed ringed rewired listed
      (λ some. alone-still (node_of elements 0) (ap is_end (t.element 0 some)) (t.root some))

  now : (j : ℕ) → j < length elements → items_of new elements leaves j ≡ map (item_of old leaves) (after_move lists from to j)
  now j hj = ap (map (item_of new leaves)) (inside-rewired old new elements (length leaves) (after_move lists from to) t relinked.same rewired j hj) ∙ map-same_items old new leaves relinked.same (after_move lists from to j)

  pub branches-spliced : branches_of new elements leaves ≡ children_moved (branches_of old elements leaves) from to
  branches-spliced = branches-moved_by old new elements leaves from to hf ht apart
      (now from hf ∙ ap (map (item_of old leaves)) (move-from lists from to))
      (now to ht ∙ ap (map (item_of old leaves)) (move-to lists from to apart) ∙ map-append (item_of old leaves) (lists to) (lists from))
      (λ j hj other third. now j hj ∙ ap (map (item_of old leaves)) (move-other lists from to j other third))

-- where there are no children nothing moves
pub branches-no_children : (nodes : List Node) (elements : List ElementOf) (leaves : List Item) → IsTree nodes elements (length leaves) → (from to : ℕ) → from < length elements → to < length elements → from ≢ to
    → (links_of nodes).next (node_of elements from + 1) ≡ node_of elements from + 1 → branches_of nodes elements leaves ≡ children_moved (branches_of nodes elements leaves) from to
branches-no_children nodes elements leaves t from to hf ht apart alone =
    let end : ℕ = node_of elements from + 1 in
    let none : inside nodes end ≡ [] = inside-path nodes end [] (record { ahead = alone; back = sym (ap (links_of nodes).prev alone) ∙ t.ringed.after end (t.end_in from hf) }) tt (stops-end nodes elements (length leaves) t from hf) in
    let empty : items_of nodes elements leaves from ≡ [] = ap (map (item_of nodes leaves)) none in
    branches-moved_by nodes nodes elements leaves from to hf ht apart empty (sym (ap (λ xs. items_of nodes elements leaves to ++ xs) empty ∙ append-nil (items_of nodes elements leaves to))) (λ j hj other third. refl)
