-- Reconstruction: what it asks of the older state and what it changes of a view (13.2.4.3).
use Rattle.std.specs.Prelude.{ℕ, zero, suc, Bool, true, false, if◌then◌else◌, List, [], ◌∷◌, length, Option, Some, slice_get, slice_set}
use Rattle.hp_elements.specs.declared.tag.Tag.{Tag}
use Rattle.hp_control.specs.declared.element.OpenElement.{OpenElement}
use Rattle.hp_control.specs.declared.element.FormattingEntry.{FormattingEntry}
use Rattle.hp_control.specs.declared.element.FormattingEntry.TheVariants.{Marker, Element}
use Rattle.hp_control.specs.declared.question.Crossing.TheVariants.{X2}
use Rattle.hp_control.specs.Faithful.{Split}
use Rattle.hp_control.specs.Plan.{Plan, gives, crosses, followed_by}
use Rattle.hp_views.specs.declared.walks.Walk.{Walk}
use Rattle.hp_views.specs.declared.walks.Walk.TheVariants.{Found, Stopped, PastAll}
use Rattle.hp_views.specs.Asking.{ask_quiet}
use Rattle.hp_views.specs.FieldPlans.{with_change}
use Rattle.hp_views.specs.ListPlans.{with_entries}
use Rattle.hp_views.specs.PlacePlans.{insert_plan}
use Rattle.hp_views.specs.Walks.{deeper, id_walk, is_found}

-- a marker, or open in the stack
abbrev pub is_settled : List OpenElement → FormattingEntry → Bool
is_settled stack Marker = true
is_settled stack (Element id tag) = is_found (id_walk id stack)

-- down to the last entry that is a marker or open
abbrev pub stale_walk : List OpenElement → List FormattingEntry → Walk
stale_walk stack [] = PastAll
stale_walk stack (e ∷ es) = if is_settled stack e then Found 0 else deeper 1 (stale_walk stack es)

-- the own entry at that depth is for the element that is made next
abbrev pub relisted : ℕ → Tag → Split → Split
relisted depth tag v = with_change (with_entries (slice_set v.change.formatting depth (Element v.change.made tag)) v.change) v

abbrev pub renew_on : Bool → ℕ → Split → Option FormattingEntry → Plan Split
renew_on fostering depth v (Some (Element id tag)) = insert_plan fostering tag (relisted depth tag v)
renew_on fostering depth v _ = gives v

-- the element of the own entry at that depth is made anew
abbrev pub renew_plan : Bool → ℕ → Split → Plan Split
renew_plan fostering depth v = renew_on fostering depth v (slice_get v.change.formatting depth)

-- those of so many own entries, the last entry's last
abbrev pub renew_down_plan : Bool → ℕ → Split → Plan Split
renew_down_plan fostering zero v = gives v
renew_down_plan fostering (suc depth) v = followed_by (renew_plan fostering depth v) (renew_down_plan fostering depth)

abbrev pub recon_older : Bool → Split → Bool → Plan Split
recon_older fostering v true = renew_down_plan fostering (length v.change.formatting) v
recon_older fostering v false = crosses X2

-- where no own entry is a marker or open
abbrev pub recon_below : Bool → Split → Plan Split
recon_below fostering v = followed_by (ask_quiet v.change.popped v.change.cuts) (recon_older fostering v)

abbrev pub recon_on : Bool → Split → Walk → Plan Split
recon_on fostering v (Found k) = renew_down_plan fostering k v
recon_on fostering v Stopped = recon_below fostering v
recon_on fostering v PastAll = recon_below fostering v

abbrev pub reconstruct_plan : Bool → Split → Plan Split
reconstruct_plan fostering v = recon_on fostering v (stale_walk v.change.stack v.change.formatting)
