-- Links that are written one after the other.
use Rattle.std.proofs.Common.{◌≡◌, ℕ, ◌<◌, ◌==◌, List, length, if◌then◌else◌, arith, refl, sym, ap, ◌∙◌, subst, inl, inr}
use Rattle.std.proofs.Math.ListN.{set}
use Rattle.std.proofs.lemmas.Bool.{cases_eq, cond_both, eq-eqb, ne_eqb}
use Rattle.std.proofs.lemmas.Bool.Decides.{nat_tests}
use Rattle.std.proofs.lemmas.List.{get_or-set_same, get_or-set_other, length-set}
use Rattle.hp_store.specs.Lists.{blank, linked, node_at, put_between, with_next}
use Rattle.hp_store.specs.Store.{Stored}
use Rattle.hp_store.specs.declared.node.Node.{Node}
use Rattle.hp_arena.specs.Nodes.{links_of, IsClosed, IsRelinked, IsRinged, SameKinds}
use Rattle.hp_arena.specs.Ring.{Links, inserted, joined, spliced, unlinked}

-- what holds of each node, where one is set
set-at : {T : Type 0} (f : Node → T) (nodes : List Node) (at : ℕ) (n : Node) (s : ℕ) → at < length nodes → f (node_at (set nodes at n) s) ≡ (if s == at then f n else f (node_at nodes s))
set-at f nodes at n s h =
    elim (cases_eq s at) [
      | inl same ↦ ap (λ i. f (node_at (set nodes at n) i)) same ∙ ap f (get_or-set_same nodes at n blank h) ∙ ap (λ b. if b then f n else f (node_at nodes s)) (sym (eq-eqb s at same))
      | inr other ↦ ap f (get_or-set_other nodes at s n blank other) ∙ ap (λ b. if b then f n else f (node_at nodes s)) (sym (ne_eqb s at other))
    ]

set-kept : {T : Type 0} (f : Node → T) (nodes : List Node) (at : ℕ) (n : Node) (s : ℕ) → at < length nodes → f n ≡ f (node_at nodes at) → f (node_at (set nodes at n) s) ≡ f (node_at nodes s)
set-kept f nodes at n s h own =
    elim (cases_eq s at) [
      | inl same ↦ ap (λ i. f (node_at (set nodes at n) i)) same ∙ ap f (get_or-set_same nodes at n blank h) ∙ own ∙ ap (λ i. f (node_at nodes i)) (sym same)
      | inr other ↦ ap f (get_or-set_other nodes at s n blank other)
    ]

module _ (nodes : List Node) (first second : ℕ) (first_in : first < length nodes) (second_in : second < length nodes) where
  abbrev middle : List Node
  middle = with_next nodes first second

  second_there : second < length middle
  second_there = subst (λ n. second < n) (sym (length-set nodes first (record (node_at nodes first) { next = second }))) second_in

  next-linked : (s : ℕ) → (node_at (linked nodes first second) s).next ≡ (if s == first then second else (node_at nodes s).next)
  next-linked s =
      set-kept (λ n. n.next) middle second (record (node_at middle second) { prev = first }) s second_there refl
      ∙ set-at (λ n. n.next) nodes first (record (node_at nodes first) { next = second }) s first_in

  prev-linked : (s : ℕ) → (node_at (linked nodes first second) s).prev ≡ (if s == second then first else (node_at nodes s).prev)
  prev-linked s =
      set-at (λ n. n.prev) middle second (record (node_at middle second) { prev = first }) s second_there
      ∙ ap (λ p. if s == second then first else p) (set-kept (λ n. n.prev) nodes first (record (node_at nodes first) { next = second }) s first_in refl)

  links-linked : links_of (linked nodes first second) ≡ joined (links_of nodes) first second
  links-linked = λ i. record { next = λ s. next-linked s i; prev = λ s. prev-linked s i }

  pub length-linked : length (linked nodes first second) ≡ length nodes
  length-linked = length-set middle second (record (node_at middle second) { prev = first }) ∙ length-set nodes first (record (node_at nodes first) { next = second })

  kinds-linked : SameKinds nodes (linked nodes first second)
  kinds-linked = record {
    count = length-linked;
    kind = λ s.
        set-kept (λ n. n.kind) middle second (record (node_at middle second) { prev = first }) s second_there refl
        ∙ set-kept (λ n. n.kind) nodes first (record (node_at nodes first) { next = second }) s first_in refl;
  }

  closed-linked : IsClosed nodes → IsClosed (linked nodes first second)
  closed-linked closed = record {
    next = λ s h.
        subst (λ v. v < length (linked nodes first second)) (sym (next-linked s))
        (subst (λ n. (if s == first then second else (node_at nodes s).next) < n) (sym length-linked)
        (cond_both (s == first) second (node_at nodes s).next (λ v. v < length nodes) (λ _. second_in) (λ _. closed.next s (subst (λ n. s < n) length-linked h))));
    prev = λ s h.
        subst (λ v. v < length (linked nodes first second)) (sym (prev-linked s))
        (subst (λ n. (if s == second then first else (node_at nodes s).prev) < n) (sym length-linked)
        (cond_both (s == second) first (node_at nodes s).prev (λ v. v < length nodes) (λ _. first_in) (λ _. closed.prev s (subst (λ n. s < n) length-linked h))));
  }

  -- the second is put after the first
  pub IsRelinked-linked : IsClosed nodes → IsRelinked nodes (linked nodes first second) (joined (links_of nodes) first second)
  IsRelinked-linked closed = record { links_are = links-linked; same = kinds-linked; closed = closed-linked closed }

-- and another after one more
pub IsRelinked-then : (old middle : List Node) (links : Links) (first second : ℕ) → IsRelinked old middle links → first < length old → second < length old → IsRelinked old (linked middle first second) (joined links first second)
IsRelinked-then old middle links first second done first_in second_in =
    let one : IsRelinked middle (linked middle first second) (joined (links_of middle) first second) =
    IsRelinked-linked middle first second (subst (λ n. first < n) (sym done.same.count) first_in) (subst (λ n. second < n) (sym done.same.count) second_in) done.closed in
    record {
      links_are = one.links_are ∙ ap (λ l. joined l first second) done.links_are;
      same = record { count = one.same.count ∙ done.same.count; kind = λ s. one.same.kind s ∙ done.same.kind s };
      closed = one.closed;
    }

-- a node that was alone is put before another
pub IsRelinked-between : (nodes : List Node) (at node : ℕ) → IsClosed nodes → at < length nodes → node < length nodes → IsRelinked nodes (put_between nodes at node) (inserted (links_of nodes) at node)
IsRelinked-between nodes at node closed at_in node_in =
    IsRelinked-then nodes (linked nodes (node_at nodes at).prev node) (joined (links_of nodes) (node_at nodes at).prev node) node at
    (IsRelinked-linked nodes (node_at nodes at).prev node (closed.prev at at_in) node_in closed) node_in at_in

-- all that stands in one ring is put before another node
pub IsRelinked-spliced : (old new : List Node) (source target : ℕ) (from to : Node) → from ≡ node_at old source → to ≡ node_at old target → new ≡ linked (linked (linked old to.prev from.next) from.prev target) source source
    → IsClosed old → source < length old → target < length old → IsRelinked old new (spliced (links_of old) source target)
IsRelinked-spliced old new source target from to is_from is_to is closed source_in target_in =
    rw (is, is_from, is_to)
    (IsRelinked-then old (linked (linked old (node_at old target).prev (node_at old source).next) (node_at old source).prev target) (joined (joined (links_of old) (node_at old target).prev (node_at old source).next) (node_at old source).prev target) source source
    (IsRelinked-then old (linked old (node_at old target).prev (node_at old source).next) (joined (links_of old) (node_at old target).prev (node_at old source).next) (node_at old source).prev target
    (IsRelinked-linked old (node_at old target).prev (node_at old source).next (closed.prev target target_in) (closed.next source source_in) closed)
    (closed.prev source source_in) target_in)
    source_in source_in)

next-alone : (l : Links) (node s : ℕ) → l.next node ≡ node → l.prev node ≡ node → (unlinked l node).next s ≡ l.next s
next-alone l node s ahead back = grind (arith, nat_tests, ahead, back)

prev-alone : (l : Links) (node s : ℕ) → l.next node ≡ node → l.prev node ≡ node → (unlinked l node).prev s ≡ l.prev s
prev-alone l node s ahead back = grind (arith, nat_tests, ahead, back)

-- a node that is alone is in no ring to be taken out of
pub IsRelinked-alone : (nodes : List Node) (node : ℕ) → IsClosed nodes → IsRinged nodes → node < length nodes → (node_at nodes node).next ≡ node → IsRelinked nodes nodes (unlinked (links_of nodes) node)
IsRelinked-alone nodes node closed ringed h ahead =
    let back : (node_at nodes node).prev ≡ node = ap (λ n. (node_at nodes n).prev) (sym ahead) ∙ ringed.after node h in
    record {
      links_are = λ i. record { next = λ s. sym (next-alone (links_of nodes) node s ahead back) i; prev = λ s. sym (prev-alone (links_of nodes) node s ahead back) i };
      same = record { count = refl; kind = λ s. refl };
      closed = closed;
    }

-- what two changes of the nodes leave alone
pub rest-then : (a b c : Stored) (first second : List Node) → b ≡ record a { nodes = first } → c ≡ record b { nodes = second } → c ≡ record a { nodes = c.nodes }
rest-then a b c first second one two =
    two ∙ ap {A = Stored} (λ s. record s { nodes = second }) one ∙ ap {A = List Node} (λ ns. record a { nodes = ns }) (sym (ap (λ s. s.nodes) two))
