-- A tree that grows edit by edit.
use Rattle.std.proofs.Common.{◌≡◌, ℕ, add-one, ◌+◌, ◌<◌, ◌≤◌, List, ◌∷◌, length, drop, get_or, set, ap, sym, subst, ◌∙◌, arith, map}
use Rattle.std.proofs.Math.Seq.{drop-cons}
use Rattle.std.proofs.lemmas.List.{drop-set-lt}
use Rattle.hp_control.specs.Apply.{named_edit}
use Rattle.hp_control.specs.Nothing.{nothing}
use Rattle.hp_control.specs.declared.edit.Edit.{Edit}
use Rattle.hp_control.specs.Edits.{room_of, room_of_all}
use Rattle.hp_control.specs.Tree.{Tree, applied, applied_all}

abbrev pub told : Edit → Edit
told = named_edit nothing

-- what is left to do makes the tree of all edits, and there is room for it
pub record Grows (start : Tree) (edits rest : List Edit) (branches : Tree) (spare : ℕ) : Type 0 where
  pub leads : applied_all branches (map told rest) ≡ applied_all start (map told edits)
  pub room : room_of_all rest ≤ spare

-- the next edit
next_edit : (items : List Edit) (i : ℕ) (other : Edit) → i < length items → drop i items ≡ get_or items i other ∷ drop (i + 1) items
next_edit items i other h = rw add-one (drop-cons items i other h)

-- there is room for it
pub room-next : (start : Tree) (edits items : List Edit) (i : ℕ) (other : Edit) (old : Tree) (had : ℕ) → Grows start edits (drop i items) old had
    → i < length items → room_of (get_or items i other) ≤ had
room-next start edits items i other old had grows h =
    let now : Grows start edits (get_or items i other ∷ drop (i + 1) items) old had = subst (λ b. Grows start edits b old had) (next_edit items i other h) grows in
    let r = now.room in omega arith

-- it is made, and something is left in its place
pub grown_on : (start : Tree) (edits items : List Edit) (i : ℕ) (other left : Edit) (old new : Tree) (had has : ℕ) → Grows start edits (drop i items) old had
    → i < length items → new ≡ applied old (told (get_or items i other)) → had ≤ has + room_of (get_or items i other) → Grows start edits (drop (i + 1) (set items i left)) new has
grown_on start edits items i other left old new had has grows h made spent =
    let now : Grows start edits (get_or items i other ∷ drop (i + 1) items) old had = subst (λ b. Grows start edits b old had) (next_edit items i other h) grows in
    let rest : drop (i + 1) (set items i left) ≡ drop (i + 1) items = drop-set-lt (i + 1) items i left (omega arith) in
    subst (λ b. Grows start edits b new has) (sym rest) (record {
      leads = ap (λ t. applied_all t (map told (drop (i + 1) items))) made ∙ now.leads;
      room = (let r = now.room in omega arith);
    })
