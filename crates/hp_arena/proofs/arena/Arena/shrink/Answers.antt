use Rattle.std.proofs.Common.{All, ap, ◌∙◌, refl, subst, sym}
use Rattle.std.proofs.lemmas.List.Elements.{All-nil}
use Rattle.hp_store.specs.Leaves.{leaf_items, IsCell}
use Rattle.hp_arena.specs.Shape.{branches_of}
use Rattle.hp_arena.proofs.Rooms.{IsSound-bare}
use Rattle.hp_arena.proofs.arena.Arena.shrink.Goals as goal

pub invariant_of-self : goal.invariant_of-self
invariant_of-self c = IsSound-bare c.self.inside _ c.self.invariant c.shrink.ensures refl (subst (All IsCell) (sym c.clear.ensures.items) (All-nil IsCell)) refl

pub returns : goal.returns
returns c = ap (λ s. branches_of s.nodes s.elements (leaf_items s.leaves)) c.shrink.ensures ∙ ap (λ s. s.branches) c.self.view_is
