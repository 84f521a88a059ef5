-- That the plans of reconstruction, of an entry put into the list and of pending characters mean their acts.
use Rattle.std.specs.Prelude.{Bool}
use Rattle.hp_elements.specs.declared.tag.Tag.{Tag}
use Rattle.hp_control.specs.Acts.{append_to_list}
use Rattle.hp_control.specs.Adoption.{reconstruct}
use Rattle.hp_control.specs.Faithful.{Faithful, FaithfulWhere}
use Rattle.hp_views.specs.FieldLaws.{has_own}
use Rattle.hp_adoption.specs.ArkPlans.{append_to_list_plan}
use Rattle.hp_adoption.specs.FlushActs.{flush_at_once}
use Rattle.hp_adoption.specs.FlushPlans.{flush_plan}
use Rattle.hp_adoption.specs.ReconPlans.{reconstruct_plan}

abbrev pub ReconstructMeans : Type 0
ReconstructMeans = (fostering : Bool) → Faithful (reconstruct_plan fostering) (reconstruct fostering)

-- where the current node is an own one
abbrev pub AppendMeans : Type 0
AppendMeans = (tag : Tag) → FaithfulWhere has_own (append_to_list_plan tag) (append_to_list tag)

abbrev pub FlushMeans : Type 0
FlushMeans = Faithful flush_plan flush_at_once
