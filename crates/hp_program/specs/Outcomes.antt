-- How a run ended: its status, and what the notes say.
use Rattle.std.specs.Prelude.{◌≡◌, ℕ, List, Result, Ok, Err}
use Rattle.std.specs.declared.alloc.Global.{Global}
use Rattle.std.specs.declared.vec.Vec.{Vec}
use Rattle.hp_print.specs.Out.{TakesFirst}
use Rattle.hp_print.specs.declared.walk.Refusal.{Refusal}
use Rattle.hp_print.specs.declared.walk.Refusal.TheVariants as printing
use Rattle.hp_text.specs.declared.reading.ReadRefusal.{ReadRefusal}
use Rattle.hp_text.specs.declared.reading.ReadRefusal.TheVariants as refusal
use Rattle.hp_program.specs.Devices.{Takes, Writing, WritingFailed}
use Rattle.hp_program.specs.Notes.{bad_cuts_line, bad_selector_line, no_memory_line, not_utf8_line, read_fault_line, too_large_line, usage_line, write_fault_line}
use Rattle.hp_program.specs.declared.outcome.Outcome.{Outcome}
use Rattle.hp_program.specs.declared.outcome.Outcome.TheVariants as outcome
use Rattle.hp_program.specs.declared.status.Status.{Status}
use Rattle.hp_program.specs.declared.status.Status.TheVariants as status

abbrev pub status_of : Outcome → Status
status_of (outcome.Done report) = status.Done
status_of outcome.Usage = status.Usage
status_of (outcome.NotUtf8 at) = status.NotUtf8
status_of outcome.TooLarge = status.TooLarge
status_of outcome.ReadFault = status.ReadFault
status_of (outcome.WriteFault taken) = status.WriteFault
status_of outcome.NoMemory = status.NoMemory
status_of (outcome.BadCuts refusal) = status.BadCuts
status_of outcome.BadSelector = status.BadSelector

abbrev pub note_of : Outcome → List ℕ
note_of (outcome.Done report) = report.items
note_of outcome.Usage = usage_line
note_of (outcome.NotUtf8 at) = not_utf8_line at
note_of outcome.TooLarge = too_large_line
note_of outcome.ReadFault = read_fault_line
note_of (outcome.WriteFault taken) = write_fault_line taken
note_of outcome.NoMemory = no_memory_line
note_of (outcome.BadCuts refusal) = bad_cuts_line refusal
note_of outcome.BadSelector = bad_selector_line

-- how a run ends whose page was not read
abbrev pub unread_as : ReadRefusal → Outcome
unread_as refusal.Fault = outcome.ReadFault
unread_as refusal.TooLarge = outcome.TooLarge
unread_as refusal.NoMemory = outcome.NoMemory

-- how a run ends whose output was written so
abbrev pub ended_as : Result (Unit {0}) Refusal → Vec ℕ Global → Outcome
ended_as (Ok _) report = outcome.Done report
ended_as (Err (printing.Fault taken)) report = outcome.WriteFault taken
ended_as (Err printing.NoMemory) report = outcome.NoMemory

-- how a run ends that has this text to write: it was written, whole or in part, or memory was wanting
abbrev pub IsTextOutcome : List ℕ → List ℕ → Writing → Outcome → Type 0
IsTextOutcome text report w (outcome.Done told) = Takes text w × (told.items ≡ report)
IsTextOutcome text report w (outcome.WriteFault taken) = TakesFirst taken text w.before w.after × WritingFailed w
IsTextOutcome text report w outcome.NoMemory = Unit {0}
IsTextOutcome text report w _ = ⊥
