-- A node that is alone is put before another.
use Rattle.std.proofs.Common.{◌≡◌, ◌≢◌, ℕ, ◌+◌, ◌<◌, List, [], ◌∷◌, ◌++◌, Bool, true, false, ◌==◌, if◌then◌else◌, length, refl, sym, ap, ◌∙◌, subst, inl, inr, ◌⊎◌}
use Rattle.std.proofs.lemmas.Bool.{cond_both, true≢false, ne_eqb, cases_eq}
use Rattle.hp_arena.specs.Ring.{Path, inserted}
use Rattle.hp_arena.specs.Nodes.{is_end, links_of, stops, inside, IsRinged, IsRelinked}
use Rattle.hp_arena.specs.Shape.{IsTree, IsListed}
use Rattle.hp_store.specs.Lists.{node_of}
use Rattle.hp_store.specs.declared.node.Node.{Node}
use Rattle.hp_store.specs.Store.{Element as ElementOf}
use Rattle.hp_arena.proofs.Paths.{put_in, Path-inserted, Avoids, alone-not_on_path, is_in, in-put_in, new-put_in, end-put_in}
use Rattle.hp_arena.proofs.Rings.{Turns, Turns-inserted, alone-inserted}
use Rattle.hp_arena.proofs.Walks.{Inner, inside-inner, inner-below}
use Rattle.hp_arena.proofs.Shapes.{IsAmong, Rewired, Inner-same, inside-rewired, IsTree-rewired, stops-end}
use Rattle.hp_arena.proofs.Detaching.{turns, IsRinged-from}

pub Inner-put_in : (stop : ℕ → Bool) (at node : ℕ) (xs : List ℕ) (to : ℕ) → stop node ≡ false → Inner stop xs → Inner stop (put_in at node xs to)
Inner-put_in stop at node [] to h i = cond_both (to == at) (node ∷ []) [] (λ ys. Inner stop ys) (λ e. (h, tt)) (λ e. tt)
Inner-put_in stop at node (x ∷ xs) to h i =
    let rest : Inner stop (put_in at node xs to) = Inner-put_in stop at node xs to h i.1 in
    cond_both (x == at) (node ∷ x ∷ put_in at node xs to) (x ∷ put_in at node xs to) (λ ys. Inner stop ys) (λ e. (h, (i.0, rest))) (λ e. (i.0, rest))

-- before an end: the list that ends there gets the node last, and no other gets it
pub put_in-end : (stop : ℕ → Bool) (at node : ℕ) (xs : List ℕ) (to : ℕ) → stop at ≡ true → Inner stop xs → put_in at node xs to ≡ xs ++ (if to == at then node ∷ [] else [])
put_in-end stop at node [] to h i = refl
put_in-end stop at node (x ∷ xs) to h i =
    let other : x ≢ at = λ same. true≢false (sym h ∙ ap stop (sym same) ∙ i.0) in
    rw (ne_eqb x at other) (ap (λ ys. x ∷ ys) (put_in-end stop at node xs to h i.1))

-- the node is the end of a list of children, or an element in one
abbrev pub IsStop : List Node → List ElementOf → ℕ → Type 0
IsStop nodes elements at =
    ((id : ℕ) × ((id < length elements) × (at ≡ node_of elements id + 1))) ⊎ ((stops nodes at ≡ false) × ((links_of nodes).next at ≢ at))

module _ (old new : List Node) (elements : List ElementOf) (leaves : ℕ) (t : IsTree old elements leaves) (at node : ℕ) (at_in : at < length old)
    (inner : stops old node ≡ false) (alone : (links_of old).next node ≡ node) (apart : at ≢ node)
    (stop : IsStop old elements at) (other : 0 < length elements → node_of elements 0 ≢ node)
    (relinked : IsRelinked old new (inserted (links_of old) at node)) where
  ringed : IsRinged new
  ringed = IsRinged-from new (λ s hs. subst (λ l. Turns l s) (sym relinked.links_are)
      (Turns-inserted (links_of old) at node s alone apart (turns old t.ringed at at_in) (turns old t.ringed node (inner-below old node inner))
      (turns old t.ringed s (subst (λ n. s < n) relinked.same.count hs))))

  pub put_at : ℕ → List ℕ
  put_at j = put_in at node (inside old (node_of elements j + 1)) (node_of elements j + 1)

  pub rewired-inserted : Rewired new elements put_at
  unfolding put_at
  rewired-inserted = record {
    path = λ j hj.
        let end : ℕ = node_of elements j + 1 in
        let other : end ≢ node = λ same. true≢false (sym (stops-end old elements leaves t j hj) ∙ ap (stops old) same ∙ inner) in
        let avoids : (end ≢ node) × Avoids node (inside old end) = alone-not_on_path (links_of old) end (inside old end) end node (t.ring j hj) alone other in
        subst (λ l. Path l end (put_in at node (inside old end) end) end) (sym relinked.links_are)
        (Path-inserted (links_of old) end (inside old end) end at node (t.ring j hj) (t.ringed.before at at_in) other other (λ same. apart (sym same)) avoids.1);
    inner = λ j hj. Inner-same old new relinked.same (put_in at node (inside old (node_of elements j + 1)) (node_of elements j + 1))
        (Inner-put_in (stops old) at node (inside old (node_of elements j + 1)) (node_of elements j + 1) inner (inside-inner old (node_of elements j + 1)));
  }

  -- the place isn't a node that is alone, but for an end
  lively : (s : ℕ) → stops old s ≡ false → (links_of old).next s ≡ s → at ≢ s
  lively s i e same =
      elim stop [
        | inl f ↦ true≢false (sym (stops-end old elements leaves t f.0 f.1.0) ∙ ap (stops old) (sym f.1.1 ∙ same) ∙ i)
        | inr f ↦ f.1 (ap (links_of old).next same ∙ e ∙ sym same)
      ]

  alone-still : (s : ℕ) → stops old s ≡ false → s ≢ node → (links_of old).next s ≡ s → (links_of new).next s ≡ s
  alone-still s i h e = subst (λ l. l.next s ≡ s) (sym relinked.links_are) (alone-inserted (links_of old) at node s (turns old t.ringed at at_in) h (lively s i e) e)

  own : IsAmong elements put_at node
  unfolding put_at
  own =
      elim stop [
        | inl f ↦
            (f.0, (f.1.0, subst (λ a. is_in node (put_in a node (inside old (node_of elements f.0 + 1)) (node_of elements f.0 + 1)) ≡ true) (sym f.1.1) (end-put_in node (inside old (node_of elements f.0 + 1)) (node_of elements f.0 + 1))))
        | inr f ↦
            let there : IsListed old elements at = t.listed at f.0 f.1 in
            (there.0, (there.1.0, new-put_in at node (inside old (node_of elements there.0 + 1)) (node_of elements there.0 + 1) there.1.1))
      ]

  listed : (s : ℕ) → stops old s ≡ false → (links_of new).next s ≢ s → IsAmong elements put_at s
  unfolding put_at
  listed s i h =
      elim (cases_eq s node) [
        | inl same ↦ subst (λ n. IsAmong elements put_at n) (sym same) own
        | inr others ↦
            let there : IsListed old elements s = t.listed s i (λ e. h (alone-still s i others e)) in
            (there.0, (there.1.0, in-put_in s at node (inside old (node_of elements there.0 + 1)) (node_of elements there.0 + 1) there.1.1))
      ]

  pub IsTree-inserted : IsTree new elements leaves
  IsTree-inserted = IsTree-rewired old new elements leaves put_at t relinked.same relinked.closed ringed rewired-inserted listed
      (λ some. alone-still (node_of elements 0) (ap is_end (t.element 0 some)) (other some) (t.root some))

  pub inside-inserted : (j : ℕ) → j < length elements → inside new (node_of elements j + 1) ≡ put_in at node (inside old (node_of elements j + 1)) (node_of elements j + 1)
  unfolding put_at
  inside-inserted j hj = inside-rewired old new elements leaves put_at t relinked.same rewired-inserted j hj
