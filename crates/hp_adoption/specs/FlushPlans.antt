-- Pending table characters: what their flush asks of the older state and what it changes of a view (13.2.6.4.10).
use Rattle.std.specs.Prelude.{ℕ, Bool, true, false, List, [], ◌∷◌}
use Rattle.std.specs.List.{list_all}
use Rattle.hp_control.specs.declared.edit.Child.TheVariants as child
use Rattle.hp_control.specs.declared.question.Crossing.TheVariants.{X7}
use Rattle.hp_control.specs.Composed.{is_white}
use Rattle.hp_control.specs.Faithful.{Split}
use Rattle.hp_control.specs.Plan.{Plan, gives, crosses, followed_by}
use Rattle.hp_views.specs.FieldPlans.{with_change, with_pending, frameset_plan}
use Rattle.hp_views.specs.PlacePlans.{put_plan}
use Rattle.hp_adoption.specs.ReconPlans.{reconstruct_plan}

-- the text where content goes that may not stand in a table
abbrev pub fostered_text : List ℕ → Split → Plan Split
fostered_text text v = followed_by (put_plan true (child.Text text) v) frameset_plan

abbrev pub foster_text : List ℕ → Split → Plan Split
foster_text text v = followed_by (reconstruct_plan true v) (fostered_text text)

-- whether all of it is white
abbrev pub flush_by : List ℕ → Split → Bool → Plan Split
flush_by text v true = put_plan false (child.Text text) v
flush_by text v false = foster_text text v

abbrev pub flush_text : List ℕ → Split → Plan Split
flush_text [] v = gives v
flush_text (c ∷ cs) v = flush_by (c ∷ cs) v (list_all is_white (c ∷ cs))

-- whether the chunk began among the pending characters
abbrev pub flush_on : Split → Bool → Plan Split
flush_on v true = crosses X7
flush_on v false = flush_text v.change.pending (with_change (with_pending [] v.change) v)

abbrev pub flush_plan : Split → Plan Split
flush_plan v = flush_on v v.older_text
