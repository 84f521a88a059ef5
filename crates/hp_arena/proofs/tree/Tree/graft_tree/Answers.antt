use Rattle.std.proofs.Common.{◌≡◌, ◌<◌, ◌+◌, Result, Ok, Err, OnOk, OnErr, length, map, ap, sym, ◌∙◌, subst}
use Rattle.std.specs.List.{list_any}
use Rattle.std.proofs.lemmas.List.{get_or_append_left}
use Rattle.hp_control.specs.Tree.{Tree, branch, no_branch, is_element}
use Rattle.hp_groves.specs.Grafts.{graft, renumbered}
use Rattle.hp_arena.specs.Arena.{Seen}
use Rattle.hp_arena.proofs.tree.Tree.graft_tree.Goals as goal

-- the document's children stay, whatever the answer
root-kept : {T E : Type 0} (r : Result T E) (old new : Seen) (grove : Tree) → OnOk r (new.branches ≡ graft old.branches grove) → OnErr r (new ≡ old) → 0 < length old.branches → branch new.branches 0 ≡ branch old.branches 0
root-kept (Ok x) old new grove is same some =
    ap (λ t. branch t 0) is ∙ get_or_append_left old.branches (map (renumbered (λ number. length old.branches + number)) grove) no_branch 0 some
root-kept (Err e) old new grove is same some = ap (λ s. branch s.branches 0) same

pub invariant_of-self : goal.invariant_of-self
invariant_of-self c =
    let kept = root-kept c.graft.result c.self.inside.arena c.graft.new.self _ c.graft.ensures.branches c.graft.ensures.err (subst (λ s. 0 < length s.branches) (sym c.self.view_is) c.len-elements.ensures.forest.document) in
    λ id h. c.self.invariant id (ap (λ b. list_any (is_element id) b.inside) (sym kept) ∙ h)
