-- The names that tags leave open, without regard to the rules of the tree: lists of names whose last one stands first.
use Rattle.std.specs.Prelude.{◌≡◌, ℕ, ◌==◌, Bool, true, false, not, ◌&&◌, ◌||◌, if◌then◌else◌, List, [], ◌∷◌, Option, None, Some}
use Rattle.std.specs.Option.{is_some, unwrap_or}
use Rattle.std.specs.Str.{bytes_eq}
use Rattle.hp_elements.specs.Names.{text_of}
use Rattle.hp_elements.specs.Sets.{in_set}
use Rattle.hp_elements.specs.declared.known.Known.{Known}
use Rattle.hp_elements.specs.KnownNames as known
use Rattle.hp_elements.specs.declared.sets.Namespace.TheVariants.{Html}
use Rattle.hp_elements.specs.declared.sets.SetName.TheVariants.{Cells, TableSections}
use Rattle.hp_predict.specs.Tags.{SeenTag}

abbrev pub Names : Type 0
Names = List (List ℕ)

abbrev pub is_name : Known → List ℕ → Bool
is_name known name = bytes_eq name (text_of known)

abbrev pub is_cell : List ℕ → Bool
is_cell name = in_set Cells Html name

-- the last name is table
abbrev pub is_in_table : Names → Bool
is_in_table [] = false
is_in_table (name ∷ names) = is_name known.Table name

-- the last name is tbody, tfoot or thead
abbrev pub is_in_section : Names → Bool
is_in_section [] = false
is_in_section (name ∷ names) = in_set TableSections Html name

-- a tbody opens before a tr in a table
abbrev pub with_section : Names → Names
with_section names = if is_in_table names then text_of known.Tbody ∷ names else names

-- a tr opens before a cell in a section of a table
abbrev pub with_row : Names → Names
with_row names = if is_in_section names then text_of known.Tr ∷ names else names

-- the names with those that open before a start tag of that name
abbrev pub implied : List ℕ → Names → Names
implied name names =
    if is_name known.Tr name then with_section names
    else if is_cell name then with_row (with_section names)
    else names

-- the names after a start tag
abbrev pub opened : List ℕ → Names → Names
opened name names = name ∷ implied name names

-- what stands below the last of that name; `None` where there is none
abbrev pub below : List ℕ → Names → Option Names
below name [] = None
below name (n ∷ ns) = if bytes_eq n name then Some ns else below name ns

-- an end tag whose name isn't open
abbrev pub is_unmatched : SeenTag → Names → Bool
is_unmatched tag names = tag.is_end && not (is_some (below tag.name names))

-- the names after a tag; an end tag closes the last of its name with all that opened after it
abbrev pub after_tag : SeenTag → Names → Names
after_tag tag names = if tag.is_end then unwrap_or (below tag.name names) names else opened tag.name names

-- the names after some tags
unfoldable pub after : List SeenTag → Names → Names
after [] names = names
after (tag ∷ tags) names = after tags (after_tag tag names)

-- the unmatched end tags among some tags, by name
unfoldable pub unmatched : List SeenTag → Names → Names
unmatched [] names = []
unmatched (tag ∷ tags) names =
    if is_unmatched tag names then tag.name ∷ unmatched tags names
    else unmatched tags (after_tag tag names)

-- a start tag before which nothing else opens, and the end tag that closes it at once
pub record IsPair (start end : SeenTag) : Type 0 where
  pub opens : start.is_end ≡ false
  pub closes : end.is_end ≡ true
  pub same : end.name ≡ start.name
  pub alone : (names : Names) → implied start.name names ≡ names

-- a name begins with `t`, in either case, as those of rows and cells do, before whose tags something else may open
abbrev pub begins_with_t : List ℕ → Bool
begins_with_t [] = false
begins_with_t (c ∷ cs) = c == 116 || c == 84
