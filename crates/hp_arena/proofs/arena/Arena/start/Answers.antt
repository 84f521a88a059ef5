use Rattle.std.proofs.Common.{◌≤◌, zero, suc, [], ◌∷◌, ℕ, arith, refl}
use Rattle.hp_store.specs.Lists.{attribute_count, document, tag_at}
use Rattle.hp_arena.proofs.Growing.{IsTree-element}
use Rattle.hp_arena.proofs.Making.{branches-element, IsTree-empty}
use Rattle.hp_arena.proofs.arena.Arena.start.Goals as goal

no_attributes : (id : ℕ) → attribute_count (tag_at (document ∷ []) id) ≤ 0
no_attributes zero = omega arith
no_attributes (suc id) = omega arith

pub invariant_of-result : goal.invariant_of-result
invariant_of-result c =
    let made = c.in_ok-store.ensures in
    record {
      document = rw made.elements (omega arith);
      first = rw made.elements refl;
      tree = rw (made.nodes, made.elements, made.leaves) (IsTree-element [] [] 0 IsTree-empty document refl);
      room = record {
        nodes = omega arith;
        elements = omega arith;
        leaves = omega arith;
        numbers = rw made.nodes (omega arith);
        ids = rw made.elements (omega arith);
        leaf_numbers = rw made.leaves (omega arith);
        runs = rw made.leaves (λ number. omega arith);
        attributes = rw made.elements no_attributes;
        used = omega arith;
        cells = omega arith;
        cell = rw c.new.ensures.items (λ k d h. absurd (omega arith));
      };
    }

pub returns : goal.returns
returns c =
    let made = c.in_ok-store.ensures in
    rw (made.nodes, made.elements, made.leaves) (branches-element [] [] [] IsTree-empty document refl)
