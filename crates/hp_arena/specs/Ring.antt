-- Links among nodes, and what an edit makes of them.
use Rattle.std.specs.Prelude.{◌≡◌, ℕ, ◌==◌, if◌then◌else◌, List, [], ◌∷◌}

-- the node after and the node before each node
pub record Links : Type 0 where
  pub next : ℕ → ℕ
  pub prev : ℕ → ℕ

-- the second stands after the first
pub record Follows (links : Links) (first second : ℕ) : Type 0 where
  pub ahead : links.next first ≡ second
  pub back : links.prev second ≡ first

-- from one node one comes by these nodes, in order, to the other
abbrev pub Path : Links → ℕ → List ℕ → ℕ → Type 0
Path links from [] to = Follows links from to
Path links from (x ∷ xs) to = Follows links from x × Path links x xs to

-- the links with the second put after the first
abbrev pub joined : Links → ℕ → ℕ → Links
joined links first second = record {
  next = λ s. if s == first then second else links.next s;
  prev = λ s. if s == second then first else links.prev s;
}

-- the links without this node, which is then alone
abbrev pub unlinked : Links → ℕ → Links
unlinked links node = joined (joined links (links.prev node) (links.next node)) node node

-- the links with a node that was alone put before another
abbrev pub inserted : Links → ℕ → ℕ → Links
inserted links at node = joined (joined links (links.prev at) node) node at

-- the links with all that stands in the ring of one node put before another
abbrev pub spliced : Links → ℕ → ℕ → Links
spliced links source target =
    joined (joined (joined links (links.prev target) (links.next source)) (links.prev source) target) source source
