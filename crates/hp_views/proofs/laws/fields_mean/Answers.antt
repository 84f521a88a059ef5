use Rattle.hp_views.specs.FieldLaws.{frameset_faithful, skip_faithful, switch_faithful, keep_faithful, original_faithful, push_mode_faithful, pop_mode_faithful, replace_mode_faithful, empty_form_faithful, point_form_faithful, quirks_faithful, head_faithful, empty_pending_faithful, append_pending_faithful}
use Rattle.hp_views.proofs.laws.fields_mean.Goals as goal

pub returns : goal.returns
returns c = record {
  frameset = frameset_faithful;
  skip = skip_faithful;
  switch = switch_faithful;
  keep = keep_faithful;
  original = original_faithful;
  push_mode = push_mode_faithful;
  pop_mode = pop_mode_faithful;
  replace_mode = replace_mode_faithful;
  empty_form = empty_form_faithful;
  point_form = point_form_faithful;
  quirks = quirks_faithful;
  head = head_faithful;
  empty_pending = empty_pending_faithful;
  append_pending = append_pending_faithful;
}
