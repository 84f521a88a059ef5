use Rattle.std.proofs.Common.{refl}
use Rattle.hp_control.specs.Adoption.{turns as adoption_turns}
use Rattle.hp_elements.specs.Names.{known_of}
use lib.Utf8.{encode}
use Rattle.hp_rules_rest.specs.Whole.{every_mode_rows}
use Rattle.hp_model.specs.Rows.{rules, turn}
use Rattle.hp_model.proofs.pages_by_example.Goals as goal

pub returns : goal.returns
unfolding adoption_turns encode every_mode_rows known_of rules turn
returns c = record {
  empty = (refl, refl);
  fostered = refl;
  links = refl;
  breakout = refl;
  quirky = refl;
  plain = refl;
  nulls = refl;
  adopted = refl;
  line_feed = refl;
  template = refl;
  options = refl;
  frames = refl;
  title = (refl, refl);
  cell = refl;
  pending = refl;
  after_html = refl;
}
