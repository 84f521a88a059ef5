use Rattle.std.proofs.Common.{refl}
use Rattle.hp_control.specs.Adoption.{turns}
use Rattle.hp_control.proofs.laws.acts_by_example.Goals as goal

pub returns : goal.returns
unfolding turns
returns c = record {
  through = refl;
  through_none = refl;
  only_stays = refl;
  down_to_table = refl;
  clear_marker = refl;
  clear_all = refl;
  fostered = refl;
  in_template = refl;
  unfostered = refl;
  reset_select = refl;
  reset_cell = refl;
  reset_body = refl;
  fourth = refl;
  paragraph = refl;
  behind_button = refl;
  item = refl;
  behind_list = refl;
  form = refl;
  form_touches = refl;
  form_own = refl;
  renewed = refl;
  renewed_edits = refl;
  renewed_touches = refl;
  adopted = refl;
  adopted_edits = refl;
  adopted_list = refl;
  adopted_touches = refl;
  link = refl;
  older_mode = refl;
  own_mode = refl;
}
