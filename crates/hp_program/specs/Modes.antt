-- The modes, which read no page: what they write, and what they answer.
use Rattle.std.specs.Prelude.{◌≡◌, ◌≤◌, ℕ, List, [], ◌++◌, codes, length}
use Rattle.std.specs.Fmt.{decimal}
use Rattle.std.specs.Str.{chars}
use Rattle.hp_board.specs.declared.journal.Entry.{Entry}
use Rattle.hp_control.specs.Tree.{Tree}
use Rattle.hp_cut.specs.Places.{Cutting, IsOf}
use Rattle.hp_cut.specs.Targets.{places_of}
use Rattle.hp_cut.specs.declared.choice.Cutter.{Cutter}
use Rattle.hp_cut.specs.declared.choice.Cutter.TheVariants.{AtTags, BySize}
use Rattle.hp_make.specs.Pages.{page_of}
use Rattle.hp_predict.specs.declared.quiet.GuessKind.{GuessKind}
use Rattle.hp_predict.specs.declared.quiet.GuessKind.TheVariants.{Contrary, Prescan, Quiet}
use Rattle.hp_print.specs.Out.{TakesFirst}
use Rattle.hp_print.specs.Print.{print}
use Rattle.hp_report.specs.Report.{chunk_count, counts_line}
use Rattle.hp_text.specs.Page.{text_of}
use Rattle.hp_text.specs.declared.reading.TheConstants.{PAGE_LIMIT}
use Rattle.hp_words.specs.Within.{IsBetween}
use Rattle.hp_program.specs.Answers.{IsPageTree}
use Rattle.hp_program.specs.Devices.{Takes, Writing, WritingFailed}
use Rattle.hp_program.specs.Notes.{no_memory_line, write_fault_line}
use Rattle.hp_program.specs.Reports.{IsJournal}
use Rattle.hp_program.specs.declared.modes.Division.{Division}
use Rattle.hp_program.specs.declared.status.Status.{Status}
use Rattle.hp_program.specs.declared.status.Status.TheVariants as status

-- what a mode answers whose output is such a text: it is written, whole or in part, or memory is wanting
abbrev pub IsModeAnswer : (List ℕ → Type 0) → Writing → List ℕ → Status → Type 0
IsModeAnswer IsOutput w note status.Done = ((text : List ℕ) × IsOutput text × Takes text w) × (note ≡ [])
IsModeAnswer IsOutput w note status.WriteFault = (text : List ℕ) × IsOutput text × ((taken : ℕ) × TakesFirst taken text w.before w.after × WritingFailed w × (note ≡ write_fault_line taken))
IsModeAnswer IsOutput w note status.NoMemory = note ≡ no_memory_line
IsModeAnswer IsOutput w note _ = ⊥

-- the cuts of a text by a cutter
abbrev pub cutting_by : Cutter → List ℕ → ℕ → Cutting
cutting_by cutter text size = record { places = places_of cutter text size; text_length = length text }

-- the line with the counts of some journal of a text's chunks, behind these words
pub record IsDrillLine (text : List ℕ) (cuts : Cutting) (workers : ℕ) (kind : GuessKind) (label line : List ℕ) : Type 0 where
  pub journal : List Entry
  pub is : IsJournal text cuts kind workers journal
  pub counts : line ≡ counts_line label (chunk_count cuts) journal

-- the lines of a cutter, one for each predictor, behind these words
pub record AreDrillLines (text : List ℕ) (cuts : Cutting) (workers : ℕ) (quiet_label prescan_label contrary_label : List ℕ) (lines : List ℕ) : Type 0 where
  pub quiet : List ℕ
  pub prescan : List ℕ
  pub contrary : List ℕ
  pub by_quiet : IsDrillLine text cuts workers Quiet quiet_label quiet
  pub by_prescan : IsDrillLine text cuts workers Prescan prescan_label prescan
  pub by_contrary : IsDrillLine text cuts workers Contrary contrary_label contrary
  pub all : lines ≡ quiet ++ (prescan ++ contrary)

-- a length in bytes behind these words
abbrev pub length_line : List ℕ → ℕ → List ℕ
length_line label bytes = label ++ (decimal bytes ++ codes " bytes\n")

-- the lengths of a text and of its printed tree
pub record AreSizes (text lines : List ℕ) : Type 0 where
  pub tree : Tree
  pub is_tree : IsPageTree (chars text) tree
  pub all : lines ≡ length_line (codes "page: ") (length text) ++ length_line (codes "tree: ") (length (print tree))

-- what a drill with a text writes: two lengths, and the counts by each cutter and predictor
pub record IsDrillOf (text : List ℕ) (workers chunk : ℕ) (output : List ℕ) : Type 0 where
  pub sizes : List ℕ
  pub by_size : List ℕ
  pub at_tags : List ℕ
  pub are_sizes : AreSizes text sizes
  pub are_by_size : AreDrillLines text (cutting_by BySize text chunk) workers (codes "size quiet: ") (codes "size prescan: ") (codes "size contrary: ") by_size
  pub are_at_tags : AreDrillLines text (cutting_by AtTags text chunk) workers (codes "tags quiet: ") (codes "tags prescan: ") (codes "tags contrary: ") at_tags
  pub all : output ≡ sizes ++ (by_size ++ at_tags)

-- what a drill writes
abbrev pub IsDrill : ℕ → ℕ → ℕ → ℕ → List ℕ → Type 0
IsDrill seed bytes workers chunk output = IsDrillOf (page_of seed bytes) workers chunk output

-- a page that may be parsed with these cuts by so many threads
pub record IsDivided (division : Division) : Type 0 where
  pub limit : length (text_of division.page) ≤ PAGE_LIMIT
  pub cuts : IsOf (text_of division.page) division.cuts.now
  pub workers : IsBetween 1 64 division.workers
