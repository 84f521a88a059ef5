-- What a run over a page answers, and why.
use Rattle.std.specs.Prelude.{◌≡◌, ◌⊎◌, ℕ, ◌+◌, ◌<◌, ◌≤◌, List, [], length, IsUtf8, IfSome, None, Some}
use Rattle.std.specs.Str.{IsValidUpTo, chars}
use Rattle.hp_control.specs.Tree.{Tree}
use Rattle.hp_cut.specs.declared.listed.CutRefusal.{CutRefusal}
use Rattle.hp_names.specs.BuiltIn.{built_in}
use Rattle.hp_print.specs.Out.{TakesFirst}
use Rattle.hp_runs.specs.Pages.{IsTreeOf}
use Rattle.hp_text.specs.Device.{Gives}
use Rattle.hp_text.specs.Text.{without_mark}
use Rattle.hp_text.specs.declared.reading.TheConstants.{PAGE_LIMIT}
use Rattle.hp_words.specs.declared.setting.PageSetting.{PageSetting}
use Rattle.hp_program.specs.Devices.{Reading, ReadingFailed, Takes, Writing, WritingFailed}
use Rattle.hp_program.specs.Forms.{tree_text}
use Rattle.hp_program.specs.Notes.{bad_cuts_line, no_memory_line, not_utf8_line, read_fault_line, too_large_line, write_fault_line}
use Rattle.hp_program.specs.Reports.{IsReport, refusal_of}
use Rattle.hp_program.specs.declared.form.Form.{Form}
use Rattle.hp_program.specs.declared.status.Status.{Status}
use Rattle.hp_program.specs.declared.status.Status.TheVariants as status

-- more bytes than a page may have
abbrev pub IsTooLarge : List ℕ → Type 0
IsTooLarge bytes = PAGE_LIMIT < length bytes

-- the bytes may be a page's, but they are no text
pub record IsNotText (bytes : List ℕ) : Type 0 where
  pub within : length bytes ≤ PAGE_LIMIT
  pub broken : ¬ (IsUtf8 bytes)

-- the bytes are a page's text
pub record IsText (bytes : List ℕ) : Type 0 where
  pub within : length bytes ≤ PAGE_LIMIT
  pub utf8 : IsUtf8 bytes

-- they are a page's text, but it can't be cut as the words say
pub record HasBadCuts (asked : PageSetting) (bytes : List ℕ) : Type 0 where
  pub text : IsText bytes
  pub cause : CutRefusal
  pub refused : refusal_of asked.cutting (without_mark bytes) ≡ Some cause

-- they are a page's text, and it can be cut as the words say
pub record IsLawful (asked : PageSetting) (bytes : List ℕ) : Type 0 where
  pub text : IsText bytes
  pub accepted : refusal_of asked.cutting (without_mark bytes) ≡ None

-- the tree of a page of these code points: the one that the standard's sequential parser builds (13.2), with the
-- reference names that are built in (365 of the standard's longer list, docs/spec/references.md)
abbrev pub IsPageTree : List ℕ → Tree → Type 0
IsPageTree page tree = IsTreeOf built_in page tree

-- the text of that tree in this form was taken, and nothing else
abbrev pub TakesTreeOf : Form → List ℕ → Writing → Type 0
TakesTreeOf form page w = (tree : Tree) × IsPageTree page tree × Takes (tree_text form tree) w

-- the count of faults rose, and the first bytes of it were taken: so many, and not all of them
abbrev pub TakesTreePartOf : Form → List ℕ → ℕ → Writing → Type 0
TakesTreePartOf form page taken w = (tree : Tree) × IsPageTree page tree × TakesFirst taken (tree_text form tree) w.before w.after × WritingFailed w

-- what is answered of a page's text: its tree is written in this form, whole or in part; or it can't be cut as the words say; or memory is wanting
abbrev pub IsTextAnswer : PageSetting → Form → List ℕ → Writing → List ℕ → Status → Type 0
IsTextAnswer asked form text w note status.Done = (refusal_of asked.cutting text ≡ None) × TakesTreeOf form (chars text) w × IsReport asked text note
IsTextAnswer asked form text w note status.WriteFault = (refusal_of asked.cutting text ≡ None) × ((taken : ℕ) × TakesTreePartOf form (chars text) taken w × (note ≡ write_fault_line taken))
IsTextAnswer asked form text w note status.BadCuts = (cause : CutRefusal) × (refusal_of asked.cutting text ≡ Some cause) × (note ≡ bad_cuts_line cause)
IsTextAnswer asked form text w note status.NoMemory = note ≡ no_memory_line
IsTextAnswer asked form text w note _ = ⊥

-- what is answered of a page's bytes: they are no text, or else what is answered of the text, without one leading byte order mark
abbrev pub IsBytesAnswer : PageSetting → Form → List ℕ → Writing → List ℕ → Status → Type 0
IsBytesAnswer asked form bytes w note status.NotUtf8 = IsNotText bytes × ((at : ℕ) × IsValidUpTo bytes at × (note ≡ not_utf8_line at))
IsBytesAnswer asked form bytes w note s = IsText bytes × IsTextAnswer asked form (without_mark bytes) w note s

-- the source gave these bytes and came to its end; where its bytes are told, they are these
pub record IsRead (r : Reading) (bytes : List ℕ) : Type 0 where
  pub told : IfSome r.before (λ left. bytes ≡ left)
  pub ended : IfSome r.before (λ _. r.after ≡ Some [])

-- what is answered of a source, with what the notes say: it couldn't be read, or gave more than a page may have, or memory is wanting;
-- or else what is answered of the bytes that it gave
abbrev pub IsAnswer : PageSetting → Form → Reading → Writing → List ℕ → Status → Type 0
IsAnswer asked form r w note status.ReadFault = ReadingFailed r × (note ≡ read_fault_line)
IsAnswer asked form r w note status.TooLarge = IfSome r.before IsTooLarge × Gives (λ n. n ≡ PAGE_LIMIT + 1) r.before r.after × (note ≡ too_large_line)
IsAnswer asked form r w note status.NoMemory = note ≡ no_memory_line
IsAnswer asked form r w note s = (bytes : List ℕ) × IsRead r bytes × IsBytesAnswer asked form bytes w note s

-- the status is this one exactly under this cause. Under the cause it yields to want of memory, and to a fault of reading where the count
-- of faults rose
pub record ComesExactly (answer : Status) (cause : Type 0) (s : Status) (failed : Type 0) : Type 0 where
  pub only : s ≡ answer → cause
  pub always : cause → (s ≡ answer) ⊎ (s ≡ status.NoMemory) ⊎ ((s ≡ status.ReadFault) × failed)

-- Where the page is told, each refusal comes exactly under its cause; and where nothing stands against the page and no device failed, only
-- memory can be wanting.
pub record IsExact (asked : PageSetting) (r : Reading) (w : Writing) (s : Status) : Type 0 where
  pub too_large : IfSome r.before (λ bytes. ComesExactly status.TooLarge (IsTooLarge bytes) s (ReadingFailed r))
  pub not_utf8 : IfSome r.before (λ bytes. ComesExactly status.NotUtf8 (IsNotText bytes) s (ReadingFailed r))
  pub bad_cuts : IfSome r.before (λ bytes. ComesExactly status.BadCuts (HasBadCuts asked bytes) s (ReadingFailed r))
  pub complete : ¬ (ReadingFailed r) → ¬ (WritingFailed w) → IfSome r.before (λ bytes. IsLawful asked bytes → (s ≡ status.Done) ⊎ (s ≡ status.NoMemory))
