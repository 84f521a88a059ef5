-- Foreign content over an unknown older state: what dispatch and each act ask of it, and what they change of a view
-- (13.2.6, 13.2.6.5). An older element is told without its id.
use Rattle.std.specs.Prelude.{ℕ, Bool, true, false, if◌then◌else◌, List, [], ◌∷◌, Option, Some, None}
use Rattle.std.specs.Option.{is_some}
use Rattle.hp_elements.specs.declared.kinds.Kinds.TheVariants as kinds
use Rattle.hp_elements.specs.declared.sets.Namespace.{Namespace}
use Rattle.hp_elements.specs.declared.sets.Namespace.TheVariants.{Html}
use Rattle.hp_elements.specs.declared.tag.Tag.{Tag}
use Rattle.hp_elements.specs.declared.token.Kind.{Kind}
use Rattle.hp_control.specs.declared.edit.Child.TheVariants as child
use Rattle.hp_control.specs.declared.element.OpenElement.{OpenElement}
use Rattle.hp_control.specs.declared.question.Answer.{Answer}
use Rattle.hp_control.specs.declared.question.Answer.TheVariants as answer
use Rattle.hp_control.specs.declared.question.Question.TheVariants as ask
use Rattle.hp_control.specs.Faithful.{Split}
use Rattle.hp_control.specs.Foreign.{is_end_of_input, is_foreign_at, opened_namespace, replaced, tag_in}
use Rattle.hp_control.specs.Plan.{Plan, gives, asks, followed_by}
use Rattle.hp_views.specs.declared.walks.Walk.{Walk}
use Rattle.hp_views.specs.declared.walks.Walk.TheVariants.{Found, Stopped, PastAll}
use Rattle.hp_views.specs.Asking.{ask_seen, ask_reach}
use Rattle.hp_views.specs.PlacePlans.{insert_plan, put_plan}
use Rattle.hp_views.specs.StackPlans.{pop_plan, pop_to_plan, through_plan}
use Rattle.hp_views.specs.Walks.{walk_of}

abbrev pub element_in : Answer → Option OpenElement
element_in (answer.Element space name at) = Some (record { id = 0; namespace = space; name = name; point = at })
element_in _ = None

-- the older element at that depth
abbrev pub ask_element : ℕ → Plan (Option OpenElement)
ask_element depth = asks (ask.Elem depth) (λ a. gives (element_in a))

abbrev pub foreign_one : Kind → Option OpenElement → Bool
foreign_one token None = false
foreign_one token (Some e) = is_foreign_at token e

-- what the older current node is matters only where it isn't HTML
abbrev pub unless_html : Kind → ℕ → Bool → Plan Bool
unless_html token depth true = gives false
unless_html token depth false = followed_by (ask_element depth) (λ o. gives (foreign_one token o))

abbrev pub older_goes : Kind → Split → Plan Bool
older_goes token v = followed_by (ask_seen v.change.popped kinds.AnyHtml kinds.All) (unless_html token v.change.popped)

-- whether the token goes to the rules of foreign content
abbrev pub goes_on : Kind → Split → List OpenElement → Plan Bool
goes_on token v [] = if is_end_of_input token then gives false else older_goes token v
goes_on token v (e ∷ es) = gives (is_foreign_at token e)

abbrev pub goes_plan : Kind → Split → Plan Bool
goes_plan token v = goes_on token v v.change.stack

-- whether a foreign element of that name stands above the nearest HTML element
abbrev pub names_on : List ℕ → ℕ → Walk → Plan Bool
names_on name popped (Found k) = gives true
names_on name popped Stopped = gives false
names_on name popped PastAll = followed_by (ask_reach popped (kinds.Foreign name) kinds.AnyHtml) (λ o. gives (is_some o))

abbrev pub names_plan : List ℕ → Split → Plan Bool
names_plan name v = names_on name v.change.popped (walk_of (kinds.Foreign name) kinds.AnyHtml v.change.stack)

-- the namespace of the current node; HTML where there is none
abbrev pub namespace_in : Option OpenElement → Namespace
namespace_in None = Html
namespace_in (Some e) = e.namespace

abbrev pub older_namespace : Split → Plan Namespace
older_namespace v = followed_by (ask_element v.change.popped) (λ o. gives (namespace_in o))

abbrev pub namespace_on : Split → List OpenElement → Plan Namespace
namespace_on v [] = older_namespace v
namespace_on v (e ∷ es) = gives e.namespace

abbrev pub namespace_plan : Split → Plan Namespace
namespace_plan v = namespace_on v v.change.stack

-- pops the current node where the tag was self-closing
abbrev pub pop_where_plan : Bool → Split → Plan Split
pop_where_plan true v = pop_plan v
pop_where_plan false v = gives v

-- an element of the namespace for the tag
abbrev pub insert_in_plan : Namespace → Bool → Bool → Tag → Split → Plan Split
insert_in_plan space fostering self_closing tag v = followed_by (insert_plan fostering (tag_in space tag) v) (pop_where_plan self_closing)

abbrev pub insert_foreign_plan : Bool → Bool → Tag → Split → Plan Split
insert_foreign_plan fostering self_closing tag = insert_in_plan (opened_namespace tag.name) fostering self_closing tag

abbrev pub in_namespace : Bool → Bool → Tag → Split → Namespace → Plan Split
in_namespace fostering self_closing tag v space = insert_in_plan space fostering self_closing tag v

abbrev pub insert_as_current_plan : Bool → Bool → Tag → Split → Plan Split
insert_as_current_plan fostering self_closing tag v = followed_by (namespace_plan v) (in_namespace fostering self_closing tag v)

abbrev pub pop_to_point_plan : Split → Plan Split
pop_to_point_plan = pop_to_plan kinds.HtmlOrPoint

abbrev pub through_foreign_plan : List ℕ → Split → Plan Split
through_foreign_plan name = through_plan (kinds.Foreign name) kinds.AnyHtml

abbrev pub put_replacements_plan : Bool → List ℕ → Split → Plan Split
put_replacements_plan fostering text = put_plan fostering (child.Text (replaced text))
