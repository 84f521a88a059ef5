-- A run of the program with these words.
use Rattle.std.specs.Prelude.{◌≡◌, ◌⊎◌, ℕ, List, Option, None, Some, IfSome}
use Rattle.hp_make.specs.Pages.{page_of}
use Rattle.hp_words.specs.Settings.{settings}
use Rattle.hp_words.specs.declared.setting.PageSetting.{PageSetting}
use Rattle.hp_words.specs.declared.setting.Setting.{Setting}
use Rattle.hp_words.specs.declared.setting.Setting.TheVariants.{Drill, Make, Page}
use Rattle.hp_program.specs.Answers.{IsAnswer, IsExact}
use Rattle.hp_program.specs.Devices.{Reading, TakesUnlessFailed, Writing, WritingFailed}
use Rattle.hp_program.specs.Forms.{form_of}
use Rattle.hp_program.specs.Modes.{IsDrill, IsModeAnswer}
use Rattle.hp_program.specs.Notes.{bad_selector_line, no_memory_line, usage_line}
use Rattle.hp_program.specs.declared.form.Form.{Form}
use Rattle.hp_program.specs.declared.status.Status.{Status}
use Rattle.hp_program.specs.declared.status.Status.TheVariants as status

-- what is answered to words that ask for nothing the program does
abbrev pub IsUsageAnswer : List ℕ → Status → Type 0
IsUsageAnswer note status.Usage = note ≡ usage_line
IsUsageAnswer note status.NoMemory = note ≡ no_memory_line
IsUsageAnswer note _ = ⊥

-- what is answered to a text that is no selector
abbrev pub IsSelectorAnswer : List ℕ → Status → Type 0
IsSelectorAnswer note status.BadSelector = note ≡ bad_selector_line
IsSelectorAnswer note status.NoMemory = note ≡ no_memory_line
IsSelectorAnswer note _ = ⊥

-- what is answered where a page is to be written in this form, or by a text that is no selector
abbrev pub IsFormAnswer : Option Form → PageSetting → Reading → Writing → List ℕ → Status → Type 0
IsFormAnswer None asked r w note s = IsSelectorAnswer note s
IsFormAnswer (Some form) asked r w note s = IsAnswer asked form r w note s

-- what is answered to what the words ask for, with what the notes say
abbrev pub IsAnswerTo : Option Setting → Reading → Writing → List ℕ → Status → Type 0
IsAnswerTo None r w note s = IsUsageAnswer note s
IsAnswerTo (Some (Page asked)) r w note s = IsFormAnswer (form_of asked.form) asked r w note s
IsAnswerTo (Some (Make seed bytes)) r w note s = IsModeAnswer (λ text. text ≡ page_of seed bytes) w note s
IsAnswerTo (Some (Drill seed bytes workers chunk)) r w note s = IsModeAnswer (IsDrill seed bytes workers chunk) w note s

-- A run: the status tells what was read and written; the notes take what belongs to it, and a prefix of that where they fail.
pub record IsRun (words : List (List ℕ)) (r : Reading) (w n : Writing) (s : Status) : Type 0 where
  pub note : List ℕ
  pub answer : IsAnswerTo (settings words) r w note s
  pub noted : TakesUnlessFailed note n

-- the words ask for a page
abbrev pub OnPage : Option Setting → (PageSetting → Type 0) → Type 0
OnPage (Some (Page asked)) P = P asked
OnPage _ P = Unit {0}

-- the words ask for a mode
abbrev pub IsMode : Option Setting → Type 0
IsMode (Some (Make seed bytes)) = Unit {0}
IsMode (Some (Drill seed bytes workers chunk)) = Unit {0}
IsMode _ = ⊥

-- the words ask for the elements of a page by a text that is no selector
abbrev pub HasBadSelector : Option Setting → Type 0
HasBadSelector (Some (Page asked)) = form_of asked.form ≡ None
HasBadSelector _ = ⊥

-- the words ask for nothing for which the page is read
abbrev pub IsWithoutPage : Option Setting → Type 0
IsWithoutPage (Some (Page asked)) = HasBadSelector (Some (Page asked))
IsWithoutPage _ = Unit {0}

-- Each status comes exactly under its cause: usage where the words are none that the program knows; a bad selector where its text is none;
-- those of a page as it calls for them; and in a mode where the output didn't fail, only memory can be wanting.
pub record IsExactRun (words : List (List ℕ)) (r : Reading) (w : Writing) (s : Status) : Type 0 where
  pub usage_only : s ≡ status.Usage → settings words ≡ None
  pub usage : settings words ≡ None → (s ≡ status.Usage) ⊎ (s ≡ status.NoMemory)
  pub bad_selector_only : s ≡ status.BadSelector → HasBadSelector (settings words)
  pub bad_selector : HasBadSelector (settings words) → (s ≡ status.BadSelector) ⊎ (s ≡ status.NoMemory)
  pub page : OnPage (settings words) (λ asked. IfSome (form_of asked.form) (λ _. IsExact asked r w s))
  pub modes : IsMode (settings words) → ¬ (WritingFailed w) → (s ≡ status.Done) ⊎ (s ≡ status.NoMemory)

-- the words couldn't be read: the notes take the line of that status
abbrev pub IsRefusedRun : Writing → Status → Type 0
IsRefusedRun n s = (note : List ℕ) × IsUsageAnswer note s × TakesUnlessFailed note n
