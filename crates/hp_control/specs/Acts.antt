-- The acts of tree construction, each as a function of the whole state (13.2.4.2, 13.2.4.3, 13.2.6.1, 13.2.6.3).
-- Popping the only element, popping through what isn't there, taking off what isn't there, and popping or replacing in an
-- empty list of template modes do nothing; clearing empties a list without a marker.
use Rattle.std.specs.Prelude.{ℕ, zero, suc, ◌+◌, ◌-◌, min, Bool, true, false, ◌==◌, ◌&&◌, if◌then◌else◌, List, [], ◌∷◌, ◌++◌, length, codes, Option, None, Some, take, drop, nat_le}
use Rattle.std.specs.Option.{is_some, unwrap_or}
use Rattle.std.specs.List.{list_any}
use Rattle.std.specs.Str.{bytes_eq}
use Rattle.hp_elements.specs.Names.{text_of, is_among, lowered, words}
use Rattle.hp_elements.specs.Sets.{in_set}
use Rattle.hp_elements.specs.declared.kinds.Kinds.{Kinds}
use Rattle.hp_elements.specs.declared.kinds.Kinds.TheVariants as kinds
use Rattle.hp_elements.specs.declared.kinds.Point.{Point}
use Rattle.hp_elements.specs.declared.kinds.Point.TheVariants as point
use Rattle.hp_elements.specs.KnownNames as known
use Rattle.hp_elements.specs.declared.sets.Namespace.{Namespace}
use Rattle.hp_elements.specs.declared.sets.Namespace.TheVariants.{Html, MathMl, Svg}
use Rattle.hp_elements.specs.declared.sets.SetName.TheVariants as sets
use Rattle.hp_elements.specs.declared.tag.Attribute.{Attribute}
use Rattle.hp_elements.specs.declared.tag.Tag.{Tag}
use Rattle.hp_elements.specs.declared.token.Mode.{Mode}
use Rattle.hp_control.specs.declared.edit.Child.{Child}
use Rattle.hp_control.specs.declared.edit.Child.TheVariants as child
use Rattle.hp_control.specs.declared.edit.Edit.{Edit}
use Rattle.hp_control.specs.declared.edit.Edit.TheVariants.{NewElement, Put, Detach, AddMissing}
use Rattle.hp_control.specs.declared.edit.Place.{Place}
use Rattle.hp_control.specs.declared.edit.Place.TheVariants.{Into, Foster}
use Rattle.hp_control.specs.declared.edit.Ref.TheVariants.{Fixed}
use Rattle.hp_control.specs.declared.element.OpenElement.{OpenElement}
use Rattle.hp_control.specs.declared.element.FormattingEntry.{FormattingEntry}
use Rattle.hp_control.specs.declared.element.FormattingEntry.TheVariants.{Marker, Element}
use Rattle.hp_control.specs.declared.question.Crossing.TheVariants.{X1, X3, X4, X5, X6, X7}
use Rattle.hp_control.specs.KindTests.{within}
use Rattle.hp_control.specs.Outcome.{Touch, Outcome, Act, becomes, and_then, choose, nothing_done}
use Rattle.hp_control.specs.States.{ControlState, is_named, is_template}
use Rattle.hp_control.specs.Walks.{reach, seen, run_of, open_at, cleared, same_tag, reset_mode}

-- where content goes that may not stand in a table: into the nearest template, or directly before the nearest table;
-- with neither, into the first element
abbrev pub foster_place : List OpenElement → Place
foster_place [] = Into (Fixed 0)
foster_place (e ∷ []) = Into (Fixed e.id)
foster_place (e ∷ f ∷ es) =
    if is_template e then Into (Fixed e.id)
    else if is_named known.Table e then Foster (Fixed e.id) (Fixed f.id)
    else foster_place (f ∷ es)

abbrev pub is_foster_parent : OpenElement → Bool
is_foster_parent = within (kinds.Set sets.FosterParents)

-- the appropriate place for inserting a node, seen from the current node (13.2.6.1)
abbrev pub place : Bool → List OpenElement → Place
place fostering [] = Into (Fixed 0)
place fostering (e ∷ es) = if fostering && is_foster_parent e then foster_place (e ∷ es) else Into (Fixed e.id)

-- the current node, or the document
abbrev pub current_id : List OpenElement → ℕ
current_id [] = 0
current_id (e ∷ es) = e.id

-- the first element, or the document
abbrev pub first_id : List OpenElement → ℕ
first_id [] = 0
first_id (e ∷ []) = e.id
first_id (e ∷ f ∷ es) = first_id (f ∷ es)

-- the second element, or the document
abbrev pub second_id : List OpenElement → ℕ
second_id [] = 0
second_id (e ∷ []) = 0
second_id (e ∷ f ∷ []) = e.id
second_id (e ∷ f ∷ g ∷ es) = second_id (f ∷ g ∷ es)

-- the attribute that makes an annotation an integration point of HTML
abbrev pub encodes_html : Attribute → Bool
encodes_html a = bytes_eq a.name (codes "encoding") && is_among (words "text/html application/xhtml+xml") (lowered a.value)

abbrev pub mathml_point : Tag → Point
mathml_point tag =
    if in_set sets.MathMlTextPoints MathMl tag.name then point.MathText
    else if bytes_eq tag.name (text_of known.AnnotationXml) && list_any encodes_html tag.attributes then point.Html
    else point.No

abbrev pub svg_point : Tag → Point
svg_point tag = if in_set sets.SvgHtmlPoints Svg tag.name then point.Html else point.No

abbrev pub point_in : Namespace → Tag → Point
point_in Html tag = point.No
point_in MathMl tag = mathml_point tag
point_in Svg tag = svg_point tag

-- the element of this id that is made for the tag
abbrev pub element_for : ℕ → Tag → OpenElement
element_for id tag = record { id = id; namespace = tag.namespace; name = tag.name; point = point_in tag.namespace tag }

abbrev pub with_edits : List Edit → ControlState → Outcome
with_edits edits c = record { control = c; edits = edits; touched = []; spared = false }

-- a child at a place, and at the present place
abbrev pub put_at : Child → Place → Act
put_at what where_ c = with_edits (Put what where_ ∷ []) c

abbrev pub put_here : Bool → Child → Act
put_here fostering what c = put_at what (place fostering c.stack) c

-- a comment into the first element
abbrev pub put_into_first : Child → Act
put_into_first what c = put_at what (Into (Fixed (first_id c.stack))) c

-- an element for the tag at a place, pushed on the stack
abbrev pub insert_at : Tag → Place → Act
insert_at tag where_ c = record {
  control = record c { stack = element_for c.next tag ∷ c.stack; next = c.next + 1 };
  edits = NewElement tag ∷ Put (child.Element (Fixed c.next)) where_ ∷ [];
  touched = [];
  spared = false;
}

abbrev pub insert : Bool → Tag → Act
insert fostering tag c = insert_at tag (place fostering c.stack) c

abbrev pub insert_into_document : Tag → Act
insert_into_document tag = insert_at tag (Into (Fixed 0))

-- that the html or the body element is changed
abbrev pub outer : Touch
outer = record { crossing = X5; what = 0 }

-- missing attributes, added to the first element and to the second
abbrev pub add_missing_to : ℕ → List Attribute → Act
add_missing_to id attributes c = record { control = c; edits = AddMissing (Fixed id) attributes ∷ []; touched = outer ∷ []; spared = false }

abbrev pub add_missing_to_first : List Attribute → Act
add_missing_to_first attributes c = add_missing_to (first_id c.stack) attributes c

abbrev pub add_missing_to_body : List Attribute → Act
add_missing_to_body attributes c = add_missing_to (second_id c.stack) attributes c

abbrev pub detach_body : Act
detach_body c = record { control = c; edits = Detach (Fixed (second_id c.stack)) ∷ []; touched = outer ∷ []; spared = false }

-- the stack without so many elements; the first element stays
abbrev pub popped_by : ℕ → List OpenElement → List OpenElement
popped_by count es = drop (min count (length es - 1)) es

-- pops so many elements
abbrev pub pop_by : ℕ → Act
pop_by count c = record { control = record c { stack = popped_by count c.stack }; edits = []; touched = []; spared = nat_le (length c.stack) count }

abbrev pub pop : Act
pop = pop_by 1

-- pops while the current node is of these kinds
abbrev pub pop_run : Kinds → Act
pop_run names c = pop_by (run_of names c.stack) c

-- how many are popped down to the first of these kinds, which stays; without one, all
abbrev pub above : Option ℕ → List OpenElement → ℕ
above None es = length es
above (Some k) es = k

-- pops until the current node is of these kinds
abbrev pub pop_to : Kinds → Act
pop_to goals c = pop_by (above (reach goals kinds.Nothing c.stack) c.stack) c

-- pops all but the first element, where the body is replaced
abbrev pub pop_to_first : Act
pop_to_first c = record { control = record c { stack = popped_by (length c.stack) c.stack }; edits = []; touched = outer ∷ []; spared = false }

-- how many are popped past the element at that depth; without one, none
abbrev pub with_it : Option ℕ → ℕ
with_it None = 0
with_it (Some k) = k + 1

-- pops up to and with the first of the goals, unless a stop stands above it
abbrev pub through : Kinds → Kinds → Act
through goals stops c = choose (λ d. seen goals stops d.stack) (pop_by (with_it (reach goals stops c.stack))) nothing_done c

abbrev pub through_named : List ℕ → Act
through_named name = through (kinds.Html name) kinds.Nothing

-- what the rules do at an end tag that no row names: up to and with the nearest element of the name, unless a special one
-- stands above it; the elements of implied end tags on the way are popped as the others are
abbrev pub walk : List ℕ → Act
walk name = through (kinds.Html name) (kinds.Set sets.Special)

-- the elements without the one at that depth
abbrev pub without : ℕ → List OpenElement → List OpenElement
without k es = take k es ++ drop (k + 1) es

abbrev pub taken_off : ℕ → Option ℕ → Act
taken_off id None c = becomes c
taken_off id (Some zero) c = pop c
taken_off id (Some (suc k)) c = record {
  control = record c { stack = without (suc k) c.stack };
  edits = [];
  touched = record { crossing = X3; what = id } ∷ [];
  spared = false;
}

-- takes the element with this id off the stack, where it stands there
abbrev pub take_off : ℕ → Act
take_off id c = taken_off id (open_at id c.stack) c

-- the head element, on the stack again: nothing where there is none, or where it stands there already
abbrev pub head_element : ℕ → OpenElement
head_element id = record { id = id; namespace = Html; name = text_of known.Head; point = point.No }

-- what no chunk knows: that a fact of the page's head is read or set
abbrev pub headed : Touch
headed = record { crossing = X4; what = 0 }

abbrev pub touching : Touch → Outcome → Outcome
touching touch o = record { control = o.control; edits = o.edits; touched = touch ∷ o.touched; spared = o.spared }

abbrev pub with_stack : List OpenElement → Act
with_stack stack c = becomes (record c { stack = stack })

abbrev pub push_head_of : Option ℕ → Act
push_head_of None c = becomes c
push_head_of (Some id) c = if is_some (open_at id c.stack) then becomes c else with_stack (head_element id ∷ c.stack) c

abbrev pub push_head : Act
push_head c = touching headed (push_head_of c.head c)

abbrev pub take_head_off_of : Option ℕ → Act
take_head_off_of None c = becomes c
take_head_off_of (Some id) c = take_off id c

abbrev pub take_head_off : Act
take_head_off c = touching headed (take_head_off_of c.head c)

abbrev pub with_list : List FormattingEntry → Act
with_list list c = becomes (record c { formatting = list })

abbrev pub add_marker : Act
add_marker c = with_list (Marker ∷ c.formatting) c

abbrev pub clear : Act
clear c = with_list (cleared c.formatting) c

-- the list without the entry of this id
abbrev pub without_entry : ℕ → List FormattingEntry → List FormattingEntry
without_entry id [] = []
without_entry id (Marker ∷ es) = Marker ∷ without_entry id es
without_entry id (Element other tag ∷ es) = if other == id then es else Element other tag ∷ without_entry id es

abbrev pub remove_entry : ℕ → Act
remove_entry id c = record {
  control = record c { formatting = without_entry id c.formatting };
  edits = [];
  touched = record { crossing = X1; what = id } ∷ [];
  spared = false;
}

-- the ids of the entries after the last marker that are equal to the tag, the last first
abbrev pub equal_ids : Tag → List FormattingEntry → List ℕ
equal_ids tag [] = []
equal_ids tag (Marker ∷ es) = []
equal_ids tag (Element id other ∷ es) = if same_tag tag other then id ∷ equal_ids tag es else equal_ids tag es

-- the earliest of three or more
abbrev pub remove_earliest : List ℕ → Act
remove_earliest [] = nothing_done
remove_earliest (id ∷ []) = remove_entry id
remove_earliest (id ∷ other ∷ ids) = remove_earliest (other ∷ ids)

abbrev pub make_room : List ℕ → Act
make_room ids = if nat_le 3 (length ids) then remove_earliest ids else nothing_done

-- an entry for the current node, made for the tag
abbrev pub append_entry : Tag → Act
append_entry tag c = with_list (Element (current_id c.stack) tag ∷ c.formatting) c

-- of three entries that are equal the earliest goes first
abbrev pub append_to_list : Tag → Act
append_to_list tag = and_then (λ c. make_room (equal_ids tag c.formatting) c) (append_entry tag)

abbrev pub frameset_not_ok : Act
frameset_not_ok c = becomes (record c { frameset_ok = false })

abbrev pub skip_line_feed : Act
skip_line_feed c = becomes (record c { skip_lf = true })

abbrev pub set_quirks : Act
set_quirks c = touching headed (becomes (record c { quirks = true }))

-- the pointers point at the current node
abbrev pub point_head : Act
point_head c = touching headed (becomes (record c { head = Some (current_id c.stack) }))

abbrev pub point_form : Act
point_form c = becomes (record c { form = Some (current_id c.stack) })

abbrev pub empty_form : Act
empty_form c = becomes (record c { form = None })

abbrev pub switch_to : Mode → Act
switch_to m c = becomes (record c { mode = m })

abbrev pub keep_original : Act
keep_original c = becomes (record c { original = Some c.mode })

abbrev pub to_original : Act
to_original c = becomes (record c { mode = unwrap_or c.original c.mode; original = None })

abbrev pub push_template_mode : Mode → Act
push_template_mode m c = becomes (record c { templates = m ∷ c.templates })

-- the last template mode, counted by how many there are
abbrev pub last_mode : List Mode → Touch
last_mode ms = record { crossing = X6; what = length ms }

abbrev pub pop_template_mode : Act
pop_template_mode c = touching (last_mode c.templates) (becomes (record c { templates = drop 1 c.templates }))

abbrev pub replaced_first : Mode → List Mode → List Mode
replaced_first new [] = []
replaced_first new (m ∷ ms) = new ∷ ms

abbrev pub replace_template_mode : Mode → Act
replace_template_mode new c = touching (last_mode c.templates) (becomes (record c { templates = replaced_first new c.templates }))

abbrev pub reset : Act
reset c = becomes (record c { mode = reset_mode (is_some c.head) c.templates c.stack })

-- the pending table characters, which go out of hand
abbrev pub pending_text : Touch
pending_text = record { crossing = X7; what = 0 }

abbrev pub empty_pending : Act
empty_pending c = touching pending_text (becomes (record c { pending = [] }))

abbrev pub append_pending : List ℕ → Act
append_pending text c = becomes (record c { pending = c.pending ++ text })
