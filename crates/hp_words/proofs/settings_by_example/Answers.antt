use Rattle.std.proofs.Common.{refl}
use Rattle.clap.proofs.OnLiterals.{clap_on_literals}
use Rattle.hp_words.specs.Command.{app}
use Rattle.hp_words.specs.Options.{found}
use Rattle.hp_words.specs.Settings.{settings}
use Rattle.hp_words.proofs.settings_by_example.Goals as goal

pub returns : goal.returns
unfolding app found settings clap_on_literals
returns c = record {
  no_words = refl;
  listed_cuts = refl;
  as_html = refl;
  as_elements = refl;
  made = refl;
  drilled = refl;
  no_worker = refl;
  too_many_workers = refl;
  two_cutters = refl;
  two_commas = refl;
  unknown_guess = refl;
  twice = refl;
  two_forms = refl;
  html_of_a_made_page = refl;
  no_mode = refl;
  help = refl;
  separator = refl;
}
