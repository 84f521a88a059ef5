-- The cuts of a page by the words, and the report of its journal.
use Rattle.std.specs.Prelude.{◌≡◌, ℕ, Bool, true, false, List, [], Option, None, length}
use Rattle.hp_board.specs.Fair.{IsFair}
use Rattle.hp_board.specs.declared.journal.Entry.{Entry}
use Rattle.hp_cut.specs.Places.{Cutting}
use Rattle.hp_cut.specs.Refusals.{refusal}
use Rattle.hp_cut.specs.Targets.{places_of}
use Rattle.hp_cut.specs.declared.choice.Cutter.TheVariants as cutter
use Rattle.hp_cut.specs.declared.listed.CutRefusal.{CutRefusal}
use Rattle.hp_predict.specs.declared.quiet.GuessKind.{GuessKind}
use Rattle.hp_report.specs.Report.{report_of}
use Rattle.hp_words.specs.declared.setting.CutSetting.{CutSetting}
use Rattle.hp_words.specs.declared.setting.CutSetting.TheVariants as setting
use Rattle.hp_words.specs.declared.setting.PageSetting.{PageSetting}
use Rattle.hp_workers.specs.Parsed.{AreBorneBy, EndsAllDone}
use Rattle.hp_workers.specs.Turns.{AreByKind}

-- why a text can't be cut as the words say
abbrev pub refusal_of : CutSetting → List ℕ → Option CutRefusal
refusal_of (setting.AtTags size) text = None
refusal_of (setting.Listed places) text = refusal text places

-- the places at which a text is cut
abbrev pub places_by : CutSetting → List ℕ → List ℕ
places_by (setting.AtTags size) text = places_of cutter.AtTags text size
places_by (setting.Listed places) text = places

-- the cuts of a text
abbrev pub cutting_of : CutSetting → List ℕ → Cutting
cutting_of cut text = record { places = places_by cut text; text_length = length text }

-- a journal of a page's chunks: all are done, right guesses are judged fairly, each guess is by a predictor of that kind, and each entry
-- by one of so many workers, or by main
pub record IsJournal (text : List ℕ) (cuts : Cutting) (kind : GuessKind) (workers : ℕ) (journal : List Entry) : Type 0 where
  pub done : EndsAllDone cuts journal
  pub fair : IsFair text cuts journal
  pub by : AreByKind kind journal
  pub borne : AreBorneBy workers journal

-- the report of a journal, where one is asked for
abbrev pub IsReportTextIf : Bool → Cutting → List Entry → List ℕ → Type 0
IsReportTextIf true cuts journal report = report ≡ report_of cuts journal
IsReportTextIf false cuts journal report = report ≡ []

-- the report of some journal of a page's chunks, where one is asked for
abbrev pub IsReportIf : Bool → List ℕ → Cutting → GuessKind → ℕ → List ℕ → Type 0
IsReportIf true text cuts kind workers report = (journal : List Entry) × IsJournal text cuts kind workers journal × (report ≡ report_of cuts journal)
IsReportIf false text cuts kind workers report = report ≡ []

-- what the notes say of a page with this text that was parsed
abbrev pub IsReport : PageSetting → List ℕ → List ℕ → Type 0
IsReport asked text report = IsReportIf asked.report text (cutting_of asked.cutting text) asked.guess asked.workers report
