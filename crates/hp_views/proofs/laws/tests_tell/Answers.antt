use Rattle.hp_views.specs.StackLaws.{seen_faithful, in_scope_faithful, current_faithful, below_faithful, template_faithful, frameset_ok_faithful, is_quirks_faithful, form_faithful}
use Rattle.hp_views.specs.SecondLaws.{second_faithful, foreign_now_faithful, last_tag_told, modes_told}
use Rattle.hp_views.proofs.laws.tests_tell.Goals as goal

pub returns : goal.returns
returns c = record {
  seen = seen_faithful;
  in_scope = in_scope_faithful;
  current = current_faithful;
  below = below_faithful;
  template = template_faithful;
  frameset_ok = frameset_ok_faithful;
  quirks = is_quirks_faithful;
  form = form_faithful;
  second = second_faithful;
  foreign = foreign_now_faithful;
  last_tag = last_tag_told;
  modes = modes_told;
}
