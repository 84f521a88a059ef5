-- The head element, on the stack again and off it: what each act changes of a view.
use Rattle.std.specs.Prelude.{ℕ, ◌∷◌, Option, Some, None}
use Rattle.hp_control.specs.declared.change.Change.{Change}
use Rattle.hp_control.specs.declared.question.Crossing.TheVariants.{X4}
use Rattle.hp_control.specs.Acts.{head_element}
use Rattle.hp_control.specs.Faithful.{Page, Split}
use Rattle.hp_control.specs.Plan.{Plan, gives, crosses}
use Rattle.hp_views.specs.declared.walks.Walk.{Walk}
use Rattle.hp_views.specs.declared.walks.Walk.TheVariants.{Found}
use Rattle.hp_views.specs.FieldPlans.{with_change}
use Rattle.hp_views.specs.RemovePlans.{take_off_plan}
use Rattle.hp_views.specs.Walks.{id_walk}

abbrev pub with_head : ℕ → Change → Change
with_head id c = record c { stack = head_element id ∷ c.stack }

-- an element that stands on the stack already stays as it is
abbrev pub push_on : ℕ → Split → Walk → Plan Split
push_on id v (Found k) = gives v
push_on id v _ = gives (with_change (with_head id v.change) v)

abbrev pub push_plan_of : ℕ → Split → Plan Split
push_plan_of id v = push_on id v (id_walk id v.change.stack)

abbrev pub push_head_of : Option ℕ → Split → Plan Split
push_head_of None v = gives v
push_head_of (Some id) v = push_plan_of id v

-- a chunk doesn't know the page's head
abbrev pub push_head_on : Option Page → Split → Plan Split
push_head_on None v = crosses X4
push_head_on (Some p) v = push_head_of p.head v

abbrev pub push_head_plan : Split → Plan Split
push_head_plan v = push_head_on v.page v

abbrev pub take_head_of : Option ℕ → Split → Plan Split
take_head_of None v = gives v
take_head_of (Some id) v = take_off_plan id v

abbrev pub take_head_on : Option Page → Split → Plan Split
take_head_on None v = crosses X4
take_head_on (Some p) v = take_head_of p.head v

abbrev pub take_head_plan : Split → Plan Split
take_head_plan v = take_head_on v.page v
