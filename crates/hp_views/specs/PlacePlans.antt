-- Where nodes go, and the edits: what each act asks of the older state and what it changes of a view.
use Rattle.std.specs.Prelude.{ℕ, ◌+◌, ◌==◌, ◌&&◌, Bool, true, false, if◌then◌else◌, List, [], ◌∷◌, ◌++◌, length, Option, Some, None, drop}
use Rattle.std.specs.Option.{is_some}
use Rattle.hp_elements.specs.Names.{text_of}
use Rattle.hp_elements.specs.declared.kinds.Kinds.{Kinds}
use Rattle.hp_elements.specs.declared.kinds.Kinds.TheVariants as kinds
use Rattle.hp_elements.specs.KnownNames as known
use Rattle.hp_elements.specs.declared.sets.SetName.TheVariants as sets
use Rattle.hp_elements.specs.declared.tag.Attribute.{Attribute}
use Rattle.hp_elements.specs.declared.tag.Tag.{Tag}
use Rattle.hp_control.specs.declared.change.Change.{Change}
use Rattle.hp_control.specs.declared.edit.Child.{Child}
use Rattle.hp_control.specs.declared.edit.Child.TheVariants as child
use Rattle.hp_control.specs.declared.edit.Edit.{Edit}
use Rattle.hp_control.specs.declared.edit.Edit.TheVariants.{NewElement, Put, Detach, AddMissing}
use Rattle.hp_control.specs.declared.edit.Place.{Place}
use Rattle.hp_control.specs.declared.edit.Place.TheVariants.{Into, Foster}
use Rattle.hp_control.specs.declared.edit.Ref.{Ref}
use Rattle.hp_control.specs.declared.edit.Ref.TheVariants.{Fixed, Older, Own}
use Rattle.hp_control.specs.declared.element.OpenElement.{OpenElement}
use Rattle.hp_control.specs.declared.question.Crossing.TheVariants.{X5}
use Rattle.hp_control.specs.Acts.{element_for, first_id, second_id}
use Rattle.hp_control.specs.Faithful.{Page, Split}
use Rattle.hp_control.specs.Plan.{Plan, gives, crosses, followed_by}
use Rattle.hp_views.specs.declared.walks.Walk.{Walk}
use Rattle.hp_views.specs.declared.walks.Walk.TheVariants.{Found, Stopped, PastAll}
use Rattle.hp_views.specs.Asking.{ask_reach}
use Rattle.hp_views.specs.StackPlans.{current_is_plan}
use Rattle.hp_views.specs.Walks.{walk_of}

-- an own element; without an older state its id is that of the page
abbrev pub own_ref : Option Page → ℕ → Ref
own_ref None id = Own id
own_ref (Some p) id = Fixed id

-- the top of what is left below; without an older state the document
abbrev pub below_ref : Option Page → ℕ → Ref
below_ref None popped = Older popped
below_ref (Some p) popped = Fixed 0

-- the element next below own ones
abbrev pub top_ref : Option Page → ℕ → List OpenElement → Ref
top_ref page popped [] = below_ref page popped
top_ref page popped (e ∷ es) = own_ref page e.id

abbrev pub current_ref : Split → Ref
current_ref v = top_ref v.page v.change.popped v.change.stack

-- the first element of all, which is html where there is an older state
abbrev pub first_ref : Option Page → List OpenElement → Ref
first_ref None stack = Fixed 1
first_ref (Some p) stack = Fixed (first_id stack)

-- before the own table at that depth; where no element is below it, into it
abbrev pub at_table : Option Page → ℕ → List OpenElement → ℕ → Place
at_table page popped es depth =
    if is_some page && depth + 1 == length es then Into (top_ref page popped (drop depth es))
    else Foster (top_ref page popped (drop depth es)) (top_ref page popped (drop (depth + 1) es))

abbrev pub own_table : Split → Walk → Place
own_table v (Found k) = at_table v.page v.change.popped v.change.stack k
own_table v _ = Into (first_ref v.page v.change.stack)

abbrev pub older_table : Split → Option ℕ → Place
older_table v None = Into (first_ref v.page v.change.stack)
older_table v (Some k) = Foster (Older (v.change.popped + k)) (Older (v.change.popped + k + 1))

abbrev pub a_template : Kinds
a_template = kinds.Html (text_of known.Template)

abbrev pub a_table : Kinds
a_table = kinds.Html (text_of known.Table)

abbrev pub foster_older : Split → Option ℕ → Plan Place
foster_older v (Some k) = gives (Into (Older (v.change.popped + k)))
foster_older v None = followed_by (ask_reach v.change.popped a_table kinds.Nothing) (λ o. gives (older_table v o))

-- where content goes that may not stand in a table
abbrev pub foster_on : Split → Walk → Plan Place
foster_on v (Found k) = gives (Into (top_ref v.page v.change.popped (drop k v.change.stack)))
foster_on v Stopped = gives (own_table v (walk_of a_table kinds.Nothing v.change.stack))
foster_on v PastAll = followed_by (ask_reach v.change.popped a_template a_table) (λ o. foster_older v o)

abbrev pub foster_plan : Split → Plan Place
foster_plan v = foster_on v (walk_of a_template a_table v.change.stack)

-- the appropriate place for inserting a node, seen from the current node
abbrev pub fostered : Split → Bool → Plan Place
fostered v true = foster_plan v
fostered v false = gives (Into (current_ref v))

abbrev pub place_plan : Bool → Split → Plan Place
place_plan false v = gives (Into (current_ref v))
place_plan true v = followed_by (current_is_plan (kinds.Set sets.FosterParents) v) (fostered v)

abbrev pub with_edit : Edit → Split → Split
with_edit e v = record v { edits = v.edits ++ e ∷ [] }

abbrev pub put_at : Child → Split → Place → Split
put_at what v where_ = with_edit (Put what where_) v

abbrev pub put_plan : Bool → Child → Split → Plan Split
put_plan fostering what v = followed_by (place_plan fostering v) (λ where_. gives (put_at what v where_))

abbrev pub put_document_plan : Child → Split → Plan Split
put_document_plan what v = gives (put_at what v (Into (Fixed 0)))

abbrev pub put_first_plan : Child → Split → Plan Split
put_first_plan what v = gives (put_at what v (Into (first_ref v.page v.change.stack)))

-- an element for the tag is made, put into a place and pushed
abbrev pub pushed : Tag → Change → Change
pushed tag c = record c { stack = element_for c.made tag ∷ c.stack; made = c.made + 1 }

abbrev pub insert_at : Tag → Split → Place → Split
insert_at tag v where_ = record v {
  change = pushed tag v.change;
  edits = (v.edits ++ NewElement tag ∷ []) ++ Put (child.Element (own_ref v.page v.change.made)) where_ ∷ [];
}

abbrev pub insert_plan : Bool → Tag → Split → Plan Split
insert_plan fostering tag v = followed_by (place_plan fostering v) (λ where_. gives (insert_at tag v where_))

abbrev pub insert_document_plan : Tag → Split → Plan Split
insert_document_plan tag v = gives (insert_at tag v (Into (Fixed 0)))

-- the html and the body element, which no chunk changes
abbrev pub add_to_on : Option Page → ℕ → List Attribute → Split → Plan Split
add_to_on None id attributes v = crosses X5
add_to_on (Some p) id attributes v = gives (with_edit (AddMissing (Fixed id) attributes) v)

abbrev pub add_first_plan : List Attribute → Split → Plan Split
add_first_plan attributes v = add_to_on v.page (first_id v.change.stack) attributes v

abbrev pub add_body_plan : List Attribute → Split → Plan Split
add_body_plan attributes v = add_to_on v.page (second_id v.change.stack) attributes v

abbrev pub detach_on : Option Page → ℕ → Split → Plan Split
detach_on None id v = crosses X5
detach_on (Some p) id v = gives (with_edit (Detach (Fixed id)) v)

abbrev pub detach_plan : Split → Plan Split
detach_plan v = detach_on v.page (second_id v.change.stack) v
