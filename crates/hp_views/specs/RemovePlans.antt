-- Own elements and entries taken out of mid-list: what each act changes of a view.
use Rattle.std.specs.Prelude.{ℕ, zero, suc, ◌+◌, ◌++◌, take, drop}
use Rattle.hp_control.specs.declared.change.Change.{Change}
use Rattle.hp_control.specs.Acts.{without}
use Rattle.hp_control.specs.Faithful.{Split}
use Rattle.hp_control.specs.Plan.{Plan, gives}
use Rattle.hp_views.specs.declared.walks.Walk.{Walk}
use Rattle.hp_views.specs.declared.walks.Walk.TheVariants.{Found}
use Rattle.hp_views.specs.FieldPlans.{with_change}
use Rattle.hp_views.specs.ListPlans.{with_entries}
use Rattle.hp_views.specs.StackPlans.{own_popped}
use Rattle.hp_views.specs.Walks.{id_walk, id_entry_walk}

abbrev pub without_at : ℕ → Change → Change
without_at k c = record c { stack = without k c.stack }

-- the own element at that depth leaves the stack; one at the top is popped
abbrev pub taken_at : ℕ → Split → Split
taken_at zero v = own_popped 1 v
taken_at (suc k) v = with_change (without_at (suc k) v.change) v

abbrev pub take_off_on : Split → Walk → Plan Split
take_off_on v (Found k) = gives (taken_at k v)
take_off_on v _ = gives v

-- the own element of this id
abbrev pub take_off_plan : ℕ → Split → Plan Split
take_off_plan id v = take_off_on v (id_walk id v.change.stack)

abbrev pub remove_on : Split → Walk → Plan Split
remove_on v (Found k) = gives (with_change (with_entries (take k v.change.formatting ++ drop (k + 1) v.change.formatting) v.change) v)
remove_on v _ = gives v

-- the own entry of this id
abbrev pub remove_entry_plan : ℕ → Split → Plan Split
remove_entry_plan id v = remove_on v (id_entry_walk id v.change.formatting)
