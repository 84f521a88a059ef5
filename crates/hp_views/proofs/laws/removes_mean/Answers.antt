use Rattle.hp_views.specs.HeadLaws.{push_head_faithful, take_head_off_faithful}
use Rattle.hp_views.specs.FormLaws.{outside_faithful, end_form_faithful}
use Rattle.hp_views.specs.RemoveLaws.{take_off_faithful, remove_entry_faithful}
use Rattle.hp_views.proofs.laws.removes_mean.Goals as goal

pub returns : goal.returns
returns c = record {
  push_head = push_head_faithful;
  take_head_off = take_head_off_faithful;
  forms_outside = outside_faithful;
  forms = end_form_faithful;
  take_off = take_off_faithful;
  remove_entry = remove_entry_faithful;
}
