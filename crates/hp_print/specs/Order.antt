-- The order in which the attributes of an element are printed: that of the UTF-16 code units of their printed names.
use Rattle.std.specs.Prelude.{ℕ, ◌+◌, Bool, ◌&&◌, nat_lt, nat_le, List, [], ◌∷◌, ◌++◌, if◌then◌else◌, codes}
use Rattle.std.specs.List.{flat_map, fold}
use Rattle.std.specs.List.Sorted.{IsSortedBy, IsStableBy}
use Rattle.std.specs.Char.Escape.{encode_utf16}
use Rattle.std.specs.Ordering.{nat_cmp, is_lt}
use Rattle.std.specs.declared.cmp.Ordering.{Ordering}
use Rattle.std.specs.Cmp.Lexicographic.{slice_cmp}
use Rattle.hp_elements.specs.declared.tag.Attribute.{Attribute}
use Rattle.hp_elements.specs.declared.tag.AttributeSpace.{AttributeSpace}
use Rattle.hp_elements.specs.declared.tag.AttributeSpace.TheVariants.{Plain, Xlink, Xml, Xmlns}

-- what stands before the local name of an attribute
abbrev pub space_word : AttributeSpace → List ℕ
space_word Plain = []
space_word Xlink = codes "xlink "
space_word Xml = codes "xml "
space_word Xmlns = codes "xmlns "

-- the name of an attribute as it is printed, in code points
abbrev pub printed_name : Attribute → List ℕ
printed_name attribute = space_word attribute.space ++ attribute.name

-- a text in UTF-16, by its code units
abbrev pub units : List ℕ → List ℕ
units text = flat_map encode_utf16 text

-- how two texts compare by their code units
abbrev pub by_units : List ℕ → List ℕ → Ordering
by_units a b = slice_cmp nat_cmp (units a) (units b)

-- whether the printed name of the first comes before that of the second
abbrev pub comes_before : Attribute → Attribute → Bool
comes_before a b = is_lt (by_units (printed_name a) (printed_name b))

-- the items with one more, before the first that comes after it
unfoldable pub placed : {X : Type 0} → (X → X → Bool) → List X → X → List X
placed before [] a = a ∷ []
placed before (b ∷ bs) a = if before a b then a ∷ b ∷ bs else b ∷ placed before bs a

-- the attributes in order. Those of one name stay as they are
abbrev pub in_order : List Attribute → List Attribute
in_order attributes = fold (placed comes_before) [] attributes

-- the law of that order: none comes before the one that stands before it, and those of which neither comes before the
-- other, which have one name, stand as they stood
pub record IsOrder (attributes ordered : List Attribute) : Type 0 where
  pub sorted : IsSortedBy comes_before ordered
  pub stable : IsStableBy comes_before attributes ordered

abbrev pub InOrder : Type 0
InOrder = (attributes : List Attribute) → IsOrder attributes (in_order attributes)

-- a number by which code points are ordered as their code units are: those from E000 to FFFF come after those above
-- FFFF, whose units begin with one from D800 to DBFF
abbrev pub weight : ℕ → ℕ
weight c = if nat_le 0xE000 c && nat_lt c 0x10000 then c + 0x110000 else c
