-- Walks over a stack and over a formatting list, the top first.
use Rattle.std.specs.Prelude.{ℕ, zero, suc, Bool, true, false, not, ◌==◌, ◌&&◌, ◌||◌, if◌then◌else◌, List, [], ◌∷◌, Option, None, Some}
use Rattle.std.specs.Option.{option_map, is_some, unwrap_or}
use Rattle.std.specs.List.{list_any, list_all}
use Rattle.std.specs.Str.{bytes_eq}
use Rattle.hp_elements.specs.Names.{text_of}
use Rattle.hp_elements.specs.Sets.{same_namespace}
use Rattle.hp_elements.specs.declared.kinds.Kinds.{Kinds}
use Rattle.hp_elements.specs.declared.kinds.Kinds.TheVariants as kinds
use Rattle.hp_elements.specs.KnownNames as known
use Rattle.hp_elements.specs.declared.sets.SetName.TheVariants as sets
use Rattle.hp_elements.specs.declared.tag.Tag.{Tag}
use Rattle.hp_elements.specs.declared.tag.Attribute.{Attribute}
use Rattle.hp_elements.specs.declared.tag.AttributeSpace.{AttributeSpace}
use Rattle.hp_elements.specs.declared.tag.AttributeSpace.TheVariants as space
use Rattle.hp_elements.specs.declared.token.Mode.{Mode}
use Rattle.hp_elements.specs.declared.token.Mode.TheVariants as mode
use Rattle.hp_control.specs.declared.element.OpenElement.{OpenElement}
use Rattle.hp_control.specs.declared.element.FormattingEntry.{FormattingEntry}
use Rattle.hp_control.specs.declared.element.FormattingEntry.TheVariants.{Marker, Element}
use Rattle.hp_control.specs.KindTests.{within}
use Rattle.hp_control.specs.States.{is_named}

-- how many elements stand above the first that is one of the goals or of the stops, where it is a goal
abbrev pub reach : Kinds → Kinds → List OpenElement → Option ℕ
reach goals stops [] = None
reach goals stops (e ∷ es) = if within goals e then Some 0 else (if within stops e then None else option_map suc (reach goals stops es))

-- whether it is a goal
abbrev pub seen : Kinds → Kinds → List OpenElement → Bool
seen goals stops es = is_some (reach goals stops es)

-- how many of the first elements are of these kinds, one after the other
abbrev pub run_of : Kinds → List OpenElement → ℕ
run_of names [] = 0
run_of names (e ∷ es) = if within names e then suc (run_of names es) else 0

-- how many elements stand above the one with this id
abbrev pub open_at : ℕ → List OpenElement → Option ℕ
open_at id [] = None
open_at id (e ∷ es) = if e.id == id then Some 0 else option_map suc (open_at id es)

abbrev pub scope_ends : Kinds
scope_ends = kinds.Set sets.DefaultScopeEnds

-- how many elements stand above the one with this id, where no end of a scope stands above it
abbrev pub scope_at : ℕ → List OpenElement → Option ℕ
scope_at id [] = None
scope_at id (e ∷ es) = if e.id == id then Some 0 else (if within scope_ends e then None else option_map suc (scope_at id es))

-- the second element from the end is the HTML body
abbrev pub second_is_body : List OpenElement → Bool
second_is_body [] = false
second_is_body (e ∷ []) = false
second_is_body (e ∷ f ∷ []) = is_named known.Body e
second_is_body (e ∷ f ∷ g ∷ es) = second_is_body (f ∷ g ∷ es)

-- the list without what stands down to its last marker, and with it; a list without a marker is emptied
abbrev pub cleared : List FormattingEntry → List FormattingEntry
cleared [] = []
cleared (Marker ∷ es) = es
cleared (Element id tag ∷ es) = cleared es

-- the list after so many clearings
abbrev pub cleared_by : ℕ → List FormattingEntry → List FormattingEntry
cleared_by zero es = es
cleared_by (suc n) es = cleared (cleared_by n es)

-- the list is empty, or its last entry is a marker or an open element
abbrev pub is_quiet : List OpenElement → List FormattingEntry → Bool
is_quiet stack [] = true
is_quiet stack (Marker ∷ es) = true
is_quiet stack (Element id tag ∷ es) = is_some (open_at id stack)

-- the id of the last entry of the name after the last marker
abbrev pub last_named : List ℕ → List FormattingEntry → Option ℕ
last_named name [] = None
last_named name (Marker ∷ es) = None
last_named name (Element id tag ∷ es) = if bytes_eq name tag.name then Some id else last_named name es

-- an entry of the list has this id
abbrev pub has_entry : ℕ → List FormattingEntry → Bool
has_entry id [] = false
has_entry id (Marker ∷ es) = has_entry id es
has_entry id (Element other tag ∷ es) = other == id || has_entry id es

abbrev pub same_space : AttributeSpace → AttributeSpace → Bool
same_space space.Plain space.Plain = true
same_space space.Xlink space.Xlink = true
same_space space.Xml space.Xml = true
same_space space.Xmlns space.Xmlns = true
same_space _ _ = false

abbrev pub same_attribute : Attribute → Attribute → Bool
same_attribute a b = same_space a.space b.space && bytes_eq a.name b.name && bytes_eq a.value b.value

-- each of the first attributes is among the second
abbrev pub among : List Attribute → List Attribute → Bool
among these those = list_all (λ a. list_any (λ b. same_attribute a b) those) these

-- the same name, namespace and attributes, these in any order
abbrev pub same_tag : Tag → Tag → Bool
same_tag a b = same_namespace a.namespace b.namespace && bytes_eq a.name b.name && among a.attributes b.attributes && among b.attributes a.attributes

-- how many entries after the last marker are equal to the tag
abbrev pub equals_of : Tag → List FormattingEntry → ℕ
equals_of tag [] = 0
equals_of tag (Marker ∷ es) = 0
equals_of tag (Element id other ∷ es) = if same_tag tag other then suc (equals_of tag es) else equals_of tag es

-- the last template mode
abbrev pub last_template_mode : List Mode → Mode
last_template_mode [] = mode.InBody
last_template_mode (m ∷ ms) = m

-- a table stands below a select before a template does
abbrev pub table_comes : List OpenElement → Bool
table_comes es = seen (kinds.Html (text_of known.Table)) (kinds.Html (text_of known.Template)) es

abbrev pub select_mode : Bool → Mode
select_mode in_table = if in_table then mode.InSelectInTable else mode.InSelect

abbrev pub html_mode : Bool → Mode
html_mode has_head = if has_head then mode.AfterHead else mode.BeforeHead

abbrev pub is_last : List OpenElement → Bool
is_last [] = true
is_last (x ∷ xs) = false

abbrev pub is_cell : OpenElement → Bool
is_cell e = is_named known.Td e || is_named known.Th e

-- the mode of an element that decides one wherever it stands
abbrev pub mode_of : OpenElement → Option Mode
mode_of e =
    if is_named known.Tr e then Some mode.InRow
    else if within (kinds.Set sets.TableSections) e then Some mode.InTableBody
    else if is_named known.Caption e then Some mode.InCaption
    else if is_named known.Colgroup e then Some mode.InColumnGroup
    else if is_named known.Table e then Some mode.InTable
    else if is_named known.Body e then Some mode.InBody
    else if is_named known.Frameset e then Some mode.InFrameset
    else None

-- the mode that an element decides, seen with what stands below it; `None` where the walk goes on
abbrev pub mode_at : Bool → List Mode → OpenElement → List OpenElement → Option Mode
mode_at has_head templates e below =
    if is_named known.Select e then Some (select_mode (table_comes below))
    else if is_cell e && not (is_last below) then Some mode.InCell
    else if is_named known.Template e then Some (last_template_mode templates)
    else if is_named known.Head e && not (is_last below) then Some mode.InHead
    else if is_named known.Html e then Some (html_mode has_head)
    else mode_of e

-- the mode to which the insertion mode is reset (13.2.4.1)
abbrev pub reset_mode : Bool → List Mode → List OpenElement → Mode
reset_mode has_head templates [] = mode.InBody
reset_mode has_head templates (e ∷ es) = unwrap_or (mode_at has_head templates e es) (reset_mode has_head templates es)
