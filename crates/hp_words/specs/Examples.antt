-- Lines of words, and what each asks for.
use Rattle.std.specs.Prelude.{◌≡◌, ℕ, ◌==◌, Bool, true, false, List, [], ◌∷◌, Option, Some, None, codes}
use Rattle.std.specs.List.{slice_split}
use Rattle.hp_words.specs.Settings.{settings}
use Rattle.hp_words.specs.declared.setting.CutSetting.{CutSetting}
use Rattle.hp_words.specs.declared.setting.CutSetting.TheVariants.{AtTags, Listed}
use Rattle.hp_words.specs.declared.setting.OutputForm.{OutputForm}
use Rattle.hp_words.specs.declared.setting.OutputForm.TheVariants.{PrintedTree, HtmlText, Elements}
use Rattle.hp_words.specs.declared.setting.Setting.{Setting}
use Rattle.hp_words.specs.declared.setting.Setting.TheVariants.{Page, Make, Drill}
use Rattle.hp_predict.specs.declared.quiet.GuessKind.{GuessKind}
use Rattle.hp_predict.specs.declared.quiet.GuessKind.TheVariants.{Quiet, Prescan}

-- what a line asks for, whose words stand between single spaces (32)
abbrev pub asked : List ℕ → Option Setting
asked line = settings (slice_split (λ byte. byte == 32) line)

-- the setting of a page
abbrev pub page : ℕ → CutSetting → GuessKind → Bool → OutputForm → Option Setting
page workers cutting guess report form = Some (Page (record { workers = workers; cutting = cutting; guess = guess; report = report; form = form }))

pub record Examples : Type 0 where
  pub no_words : settings [] ≡ page 4 (AtTags 65536) Prescan false PrintedTree
  pub listed_cuts : asked (codes "--cuts=3,6 --guess=quiet --report --workers=2") ≡ page 2 (Listed (3 ∷ 6 ∷ [])) Quiet true PrintedTree
  pub as_html : asked (codes "--html --workers 1") ≡ page 1 (AtTags 65536) Prescan false HtmlText
  pub as_elements : asked (codes "--select ul.b>li,#x --cuts 3") ≡ page 4 (Listed (3 ∷ [])) Prescan false (Elements (codes "ul.b>li,#x"))
  pub made : asked (codes "--make 0 --bytes 40") ≡ Some (Make 0 40)
  pub drilled : asked (codes "--drill 7 --bytes 20 --chunk 4096") ≡ Some (Drill 7 20 4 4096)
  pub no_worker : asked (codes "--workers 0") ≡ None
  pub too_many_workers : asked (codes "--workers 65") ≡ None
  pub two_cutters : asked (codes "--cuts 3 --chunk 64") ≡ None
  pub two_commas : asked (codes "--cuts 3,,4") ≡ None
  pub unknown_guess : asked (codes "--guess loud") ≡ None
  pub twice : asked (codes "--report --report") ≡ None
  pub two_forms : asked (codes "--select li --html") ≡ None
  pub html_of_a_made_page : asked (codes "--make 0 --bytes 40 --html") ≡ None
  pub no_mode : asked (codes "--bytes 20") ≡ None
  pub help : asked (codes "--help") ≡ None
  pub separator : asked (codes "--workers 4 --") ≡ None
