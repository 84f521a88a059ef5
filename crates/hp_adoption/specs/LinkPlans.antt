-- The start of a link: what that asks of the older state and what it changes of a view (13.2.6.4.7).
use Rattle.std.specs.Prelude.{ℕ, Bool, true, false, List, Option, Some, slice_get}
use Rattle.hp_elements.specs.Names.{text_of}
use Rattle.hp_elements.specs.KnownNames as known
use Rattle.hp_control.specs.declared.element.FormattingEntry.{FormattingEntry}
use Rattle.hp_control.specs.declared.element.FormattingEntry.TheVariants.{Element}
use Rattle.hp_control.specs.declared.question.Crossing.TheVariants.{X1}
use Rattle.hp_control.specs.Faithful.{Split}
use Rattle.hp_control.specs.Plan.{Plan, gives, crosses, followed_by}
use Rattle.hp_views.specs.declared.walks.Walk.{Walk}
use Rattle.hp_views.specs.declared.walks.Walk.TheVariants.{Found, Stopped, PastAll}
use Rattle.hp_views.specs.Asking.{ask_listed}
use Rattle.hp_views.specs.ListPlans.{is_there}
use Rattle.hp_views.specs.RemovePlans.{remove_entry_plan, take_off_plan}
use Rattle.hp_views.specs.Walks.{entry_walk}
use Rattle.hp_adoption.specs.AdoptPlans.{adopt_plan}

abbrev pub a_link : List ℕ
a_link = text_of known.A

-- the element leaves list and stack
abbrev pub gone_plan : ℕ → Split → Plan Split
gone_plan id v = followed_by (remove_entry_plan id v) (take_off_plan id)

abbrev pub close_own_plan : Bool → Split → Option FormattingEntry → Plan Split
close_own_plan fostering v (Some (Element id tag)) = followed_by (adopt_plan fostering a_link v) (gone_plan id)
close_own_plan fostering v _ = gives v

abbrev pub close_older_by : Split → Bool → Plan Split
close_older_by v true = crosses X1
close_older_by v false = gives v

abbrev pub close_older_plan : Split → Plan Split
close_older_plan v = followed_by (ask_listed v.change.popped v.change.cuts a_link) (λ s. close_older_by v (is_there s.kind))

abbrev pub close_on : Bool → Split → Walk → Plan Split
close_on fostering v (Found k) = close_own_plan fostering v (slice_get v.change.formatting k)
close_on fostering v Stopped = gives v
close_on fostering v PastAll = close_older_plan v

abbrev pub close_link_plan : Bool → Split → Plan Split
close_link_plan fostering v = close_on fostering v (entry_walk a_link v.change.formatting)
