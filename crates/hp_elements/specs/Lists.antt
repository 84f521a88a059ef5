-- The items of a list, in order.
use Rattle.std.specs.Prelude.{List, [], ◌∷◌, Option, None, Some}
use Rattle.std.specs.Vec.Iter.{into_iter_items}
use Rattle.hp_elements.specs.declared.list.Left.{Left}
use Rattle.hp_elements.specs.declared.list.Left.TheVariants as left
use Rattle.hp_elements.specs.declared.list.Items.{Items}
use Rattle.hp_elements.specs.declared.list.Items.TheVariants.{Empty, One, Many}

abbrev pub listed : {T : Type 0} → Items T → List T
listed Empty = []
listed (One items) = items
listed (Many items) = items.items

-- the items of a chain, of which an empty one may have no list
abbrev pub chained : {T : Type 0} → Option (List T) → List T
chained None = []
chained (Some items) = items

-- the items that are still to come
abbrev pub left_of : {T : Type 0} → Left T → List T
left_of (left.One None) = []
left_of (left.One (Some item)) = item ∷ []
left_of (left.Many items) = into_iter_items items
