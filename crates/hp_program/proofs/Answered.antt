-- What is answered of a page, from the inside out; and that each status comes exactly under its cause.
use Rattle.std.proofs.Common.{◌≡◌, ◌≢◌, ◌+◌, ◌≤◌, ◌⊎◌, ℕ, List, length, refl, sym, subst, inl, inr, arith, Option, None, Some}
use Rattle.std.specs.Prelude.{IfSome, OnOk, Result, Ok, Err}
use Rattle.std.specs.Str.{chars}
use Rattle.std.specs.declared.alloc.Global.{Global}
use Rattle.std.specs.declared.vec.Vec.{Vec}
use Rattle.hp_control.specs.Tree.{Tree}
use Rattle.hp_cut.specs.declared.listed.CutRefusal.{CutRefusal}
use Rattle.hp_print.specs.Faults.{OnFault}
use Rattle.hp_print.specs.Out.{TakesFirst}
use Rattle.hp_print.specs.declared.walk.Refusal.{Refusal}
use Rattle.hp_print.specs.declared.walk.Refusal.TheVariants as printing
use Rattle.hp_text.specs.Device.{Gives}
use Rattle.hp_text.specs.Text.{without_mark}
use Rattle.hp_text.specs.declared.reading.ReadRefusal.{ReadRefusal}
use Rattle.hp_text.specs.declared.reading.ReadRefusal.TheVariants as refused
use Rattle.hp_text.specs.declared.reading.TheConstants.{PAGE_LIMIT}
use Rattle.hp_words.specs.declared.setting.PageSetting.{PageSetting}
use Rattle.hp_words.specs.declared.setting.Setting.{Setting}
use Rattle.hp_words.specs.declared.setting.Setting.TheVariants as setting
use Rattle.hp_words.specs.Settings.{settings}
use Rattle.hp_program.specs.Answers.{HasBadCuts, IsAnswer, IsBytesAnswer, IsExact, IsLawful, IsNotText, IsPageTree, IsRead, IsText, IsTextAnswer, IsTooLarge}
use Rattle.hp_program.specs.Devices.{Reading, ReadingFailed, Takes, Writing, WritingFailed}
use Rattle.hp_program.specs.Forms.{form_of, tree_text}
use Rattle.hp_program.specs.Modes.{IsModeAnswer}
use Rattle.hp_program.specs.Notes.{no_memory_line}
use Rattle.hp_program.specs.Outcomes.{IsTextOutcome, ended_as, note_of, status_of, unread_as}
use Rattle.hp_program.specs.Reports.{IsReport, refusal_of}
use Rattle.hp_program.specs.Runs.{HasBadSelector, IsAnswerTo, IsExactRun, IsFormAnswer, IsMode, OnPage}
use Rattle.hp_program.specs.declared.form.Form.{Form}
use Rattle.hp_program.specs.declared.outcome.Outcome.{Outcome}
use Rattle.hp_program.specs.declared.outcome.Outcome.TheVariants as outcome
use Rattle.hp_program.specs.declared.status.Status.{Status}
use Rattle.hp_program.specs.declared.status.Status.TheVariants as status

-- a tree that was written, whole or in part, is what is answered of the text
pub of_tree : (asked : PageSetting) (form : Form) (text : List ℕ) (tree : Tree) (report : List ℕ) (w : Writing) (o : Outcome)
    → refusal_of asked.cutting text ≡ None → IsPageTree (chars text) tree → IsReport asked text report → IsTextOutcome (tree_text form tree) report w o
    → IsTextAnswer asked form text w (note_of o) (status_of o)
of_tree asked form text tree report w (outcome.Done told) accepted is reported h = (accepted, (tree, is, h.0), subst (IsReport asked text) (sym h.1) reported)
of_tree asked form text tree report w outcome.Usage accepted is reported h = absurd h
of_tree asked form text tree report w (outcome.NotUtf8 at) accepted is reported h = absurd h
of_tree asked form text tree report w outcome.TooLarge accepted is reported h = absurd h
of_tree asked form text tree report w outcome.ReadFault accepted is reported h = absurd h
of_tree asked form text tree report w (outcome.WriteFault taken) accepted is reported h = (accepted, (taken, (tree, is, h.0, h.1), refl))
of_tree asked form text tree report w outcome.NoMemory accepted is reported h = refl
of_tree asked form text tree report w (outcome.BadCuts refusal) accepted is reported h = absurd h
of_tree asked form text tree report w outcome.BadSelector accepted is reported h = absurd h

-- what was written, by how it ended
pub of_written : (text : List ℕ) (w : Writing) (written : Result (Unit {0}) Refusal) (report : Vec ℕ Global) → OnOk written (Takes text w)
    → OnFault written (λ taken. TakesFirst taken text w.before w.after) → OnFault written (λ _. WritingFailed w) → IsTextOutcome text report.items w (ended_as written report)
of_written text w (Ok _) report whole part failed = (whole, refl)
of_written text w (Err (printing.Fault taken)) report whole part failed = (part, failed)
of_written text w (Err printing.NoMemory) report whole part failed = tt

-- where neither all nor a part was written, memory was wanting
pub of_silence : (written : Result (Unit {0}) Refusal) (report : Vec ℕ Global) → status_of (ended_as written report) ≢ status.Done → status_of (ended_as written report) ≢ status.WriteFault → written ≡ Err printing.NoMemory
of_silence (Ok _) report done fault = absurd (done refl)
of_silence (Err (printing.Fault taken)) report done fault = absurd (fault refl)
of_silence (Err printing.NoMemory) report done fault = refl

-- a text that was written is an equal one
pub of_equal : (one other report : List ℕ) (w : Writing) (o : Outcome) → one ≡ other → IsTextOutcome one report w o → IsTextOutcome other report w o
of_equal one other report w o same = subst (λ (text : List ℕ). IsTextOutcome text report w o) same

-- what is answered of the text of bytes is answered of the bytes
pub of_text : (asked : PageSetting) (form : Form) (bytes text : List ℕ) (w : Writing) (note : List ℕ) (s : Status) → text ≡ without_mark bytes → IsText bytes
    → IsTextAnswer asked form text w note s → IsBytesAnswer asked form bytes w note s
of_text asked form bytes text w note s same is h = by_status s (subst (λ (t : List ℕ). IsTextAnswer asked form t w note s) same h)
  where
    by_status : (s : Status) → IsTextAnswer asked form (without_mark bytes) w note s → IsBytesAnswer asked form bytes w note s
    by_status status.Done h = (is, h)
    by_status status.Usage h = absurd h
    by_status status.NotUtf8 h = absurd h
    by_status status.TooLarge h = absurd h
    by_status status.ReadFault h = absurd h
    by_status status.WriteFault h = (is, h)
    by_status status.NoMemory h = (is, h)
    by_status status.BadCuts h = (is, h)
    by_status status.BadSelector h = absurd h

-- what is answered of bytes that a source gave is answered of the source
pub of_bytes : (asked : PageSetting) (form : Form) (r : Reading) (w : Writing) (bytes note : List ℕ) (s : Status) → IsRead r bytes → IsBytesAnswer asked form bytes w note s → IsAnswer asked form r w note s
of_bytes asked form r w bytes note status.Done read h = (bytes, read, h)
of_bytes asked form r w bytes note status.Usage read h = absurd h.1
of_bytes asked form r w bytes note status.NotUtf8 read h = (bytes, read, h)
of_bytes asked form r w bytes note status.TooLarge read h = absurd h.1
of_bytes asked form r w bytes note status.ReadFault read h = absurd h.1
of_bytes asked form r w bytes note status.WriteFault read h = (bytes, read, h)
of_bytes asked form r w bytes note status.NoMemory read h = h.1
of_bytes asked form r w bytes note status.BadCuts read h = (bytes, read, h)
of_bytes asked form r w bytes note status.BadSelector read h = absurd h.1

-- what a status says of told bytes
abbrev Stands : PageSetting → Reading → Writing → List ℕ → Status → Type 0
Stands asked r w bytes status.Done = IsLawful asked bytes
Stands asked r w bytes status.Usage = ⊥
Stands asked r w bytes status.NotUtf8 = IsNotText bytes
Stands asked r w bytes status.TooLarge = IsTooLarge bytes
Stands asked r w bytes status.ReadFault = ReadingFailed r
Stands asked r w bytes status.WriteFault = IsLawful asked bytes × WritingFailed w
Stands asked r w bytes status.NoMemory = Unit {0}
Stands asked r w bytes status.BadCuts = HasBadCuts asked bytes
Stands asked r w bytes status.BadSelector = ⊥

-- what holds of told bytes
told_as : (left : Option (List ℕ)) (bytes : List ℕ) (P : List ℕ → Type 0) → left ≡ Some bytes → IfSome left P → P bytes
told_as None bytes P is h = absurd (cc is)
told_as (Some other) bytes P is h = subst P (cc is) h

-- what holds of the bytes for all that they can be holds of those that are told
for_told : (left : Option (List ℕ)) (P : List ℕ → Type 0) → ((bytes : List ℕ) → left ≡ Some bytes → P bytes) → IfSome left P
for_told None P h = tt
for_told (Some bytes) P h = h bytes refl

-- the bytes that were read are the told ones
same_bytes : (r : Reading) (bytes read : List ℕ) → r.before ≡ Some bytes → IsRead r read → read ≡ bytes
same_bytes r bytes read is h = told_as r.before bytes (λ left. read ≡ left) is h.told

stands : (asked : PageSetting) (form : Form) (r : Reading) (w : Writing) (bytes note : List ℕ) (s : Status) → r.before ≡ Some bytes → IsAnswer asked form r w note s → Stands asked r w bytes s
stands asked form r w bytes note status.Done is (read, given, h) = subst (λ (b : List ℕ). IsLawful asked b) (same_bytes r bytes read is given) (record { text = h.0; accepted = h.1.0 })
stands asked form r w bytes note status.Usage is (read, given, h) = absurd h.1
stands asked form r w bytes note status.NotUtf8 is (read, given, h) = subst IsNotText (same_bytes r bytes read is given) h.0
stands asked form r w bytes note status.TooLarge is h = told_as r.before bytes IsTooLarge is h.0
stands asked form r w bytes note status.ReadFault is h = h.0
stands asked form r w bytes note status.WriteFault is (read, given, (text, (accepted, (taken, part, told)))) = subst (λ (b : List ℕ). IsLawful asked b × WritingFailed w) (same_bytes r bytes read is given) (record { text = text; accepted = accepted }, part.3)
stands asked form r w bytes note status.NoMemory is h = tt
stands asked form r w bytes note status.BadCuts is (read, given, (text, (cause, refused, told))) = subst (λ (b : List ℕ). HasBadCuts asked b) (same_bytes r bytes read is given) (record { text = text; cause = cause; refused = refused })
stands asked form r w bytes note status.BadSelector is (read, given, h) = absurd h.1

-- the causes exclude each other
small : (bytes : List ℕ) → IsTooLarge bytes → length bytes ≤ PAGE_LIMIT → ⊥
small bytes large within = omega (arith, large, within)

accepts : (refusal : Option CutRefusal) (cause : CutRefusal) → refusal ≡ None → refusal ≡ Some cause → ⊥
accepts refusal cause none some = cc

lawful : (asked : PageSetting) (bytes : List ℕ) → IsLawful asked bytes → HasBadCuts asked bytes → ⊥
lawful asked bytes h bad = accepts _ bad.cause h.accepted bad.refused

too_large : (asked : PageSetting) (r : Reading) (w : Writing) (bytes : List ℕ) (s : Status) → Stands asked r w bytes s → IsTooLarge bytes → (s ≡ status.TooLarge) ⊎ (s ≡ status.NoMemory) ⊎ ((s ≡ status.ReadFault) × ReadingFailed r)
too_large asked r w bytes status.Done h large = absurd (small bytes large h.text.within)
too_large asked r w bytes status.Usage h large = absurd h
too_large asked r w bytes status.NotUtf8 h large = absurd (small bytes large h.within)
too_large asked r w bytes status.TooLarge h large = inl refl
too_large asked r w bytes status.ReadFault h large = inr (inr (refl, h))
too_large asked r w bytes status.WriteFault h large = absurd (small bytes large h.0.text.within)
too_large asked r w bytes status.NoMemory h large = inr (inl refl)
too_large asked r w bytes status.BadCuts h large = absurd (small bytes large h.text.within)
too_large asked r w bytes status.BadSelector h large = absurd h

not_text : (asked : PageSetting) (r : Reading) (w : Writing) (bytes : List ℕ) (s : Status) → Stands asked r w bytes s → IsNotText bytes → (s ≡ status.NotUtf8) ⊎ (s ≡ status.NoMemory) ⊎ ((s ≡ status.ReadFault) × ReadingFailed r)
not_text asked r w bytes status.Done h broken = absurd (broken.broken h.text.utf8)
not_text asked r w bytes status.Usage h broken = absurd h
not_text asked r w bytes status.NotUtf8 h broken = inl refl
not_text asked r w bytes status.TooLarge h broken = absurd (small bytes h broken.within)
not_text asked r w bytes status.ReadFault h broken = inr (inr (refl, h))
not_text asked r w bytes status.WriteFault h broken = absurd (broken.broken h.0.text.utf8)
not_text asked r w bytes status.NoMemory h broken = inr (inl refl)
not_text asked r w bytes status.BadCuts h broken = absurd (broken.broken h.text.utf8)
not_text asked r w bytes status.BadSelector h broken = absurd h

bad_cuts : (asked : PageSetting) (r : Reading) (w : Writing) (bytes : List ℕ) (s : Status) → Stands asked r w bytes s → HasBadCuts asked bytes → (s ≡ status.BadCuts) ⊎ (s ≡ status.NoMemory) ⊎ ((s ≡ status.ReadFault) × ReadingFailed r)
bad_cuts asked r w bytes status.Done h bad = absurd (lawful asked bytes h bad)
bad_cuts asked r w bytes status.Usage h bad = absurd h
bad_cuts asked r w bytes status.NotUtf8 h bad = absurd (h.broken bad.text.utf8)
bad_cuts asked r w bytes status.TooLarge h bad = absurd (small bytes h bad.text.within)
bad_cuts asked r w bytes status.ReadFault h bad = inr (inr (refl, h))
bad_cuts asked r w bytes status.WriteFault h bad = absurd (lawful asked bytes h.0 bad)
bad_cuts asked r w bytes status.NoMemory h bad = inr (inl refl)
bad_cuts asked r w bytes status.BadCuts h bad = inl refl
bad_cuts asked r w bytes status.BadSelector h bad = absurd h

complete : (asked : PageSetting) (r : Reading) (w : Writing) (bytes : List ℕ) (s : Status) → Stands asked r w bytes s → ¬ (ReadingFailed r) → ¬ (WritingFailed w) → IsLawful asked bytes → (s ≡ status.Done) ⊎ (s ≡ status.NoMemory)
complete asked r w bytes status.Done h reads writes good = inl refl
complete asked r w bytes status.Usage h reads writes good = absurd h
complete asked r w bytes status.NotUtf8 h reads writes good = absurd (h.broken good.text.utf8)
complete asked r w bytes status.TooLarge h reads writes good = absurd (small bytes h good.text.within)
complete asked r w bytes status.ReadFault h reads writes good = absurd (reads h)
complete asked r w bytes status.WriteFault h reads writes good = absurd (writes h.1)
complete asked r w bytes status.NoMemory h reads writes good = inr refl
complete asked r w bytes status.BadCuts h reads writes good = absurd (lawful asked bytes good h)
complete asked r w bytes status.BadSelector h reads writes good = absurd h

-- each status comes exactly under its cause
pub exact : (asked : PageSetting) (form : Form) (r : Reading) (w : Writing) (note : List ℕ) (s : Status) → IsAnswer asked form r w note s → IsExact asked r w s
exact asked form r w note s h =
    let stood : (bytes : List ℕ) → r.before ≡ Some bytes → Stands asked r w bytes s = λ bytes is. stands asked form r w bytes note s is h in
    record {
      too_large = for_told r.before _ (λ bytes is. record { only = λ e. subst (Stands asked r w bytes) e (stood bytes is); always = too_large asked r w bytes s (stood bytes is) });
      not_utf8 = for_told r.before _ (λ bytes is. record { only = λ e. subst (Stands asked r w bytes) e (stood bytes is); always = not_text asked r w bytes s (stood bytes is) });
      bad_cuts = for_told r.before _ (λ bytes is. record { only = λ e. subst (Stands asked r w bytes) e (stood bytes is); always = bad_cuts asked r w bytes s (stood bytes is) });
      complete = λ reads writes. for_told r.before _ (λ bytes is. complete asked r w bytes s (stood bytes is) reads writes);
    }

-- no run over a page answers usage
no_usage : (asked : PageSetting) (form : Form) (r : Reading) (w : Writing) (note : List ℕ) → IsAnswer asked form r w note status.Usage → ⊥
no_usage asked form r w note (bytes, read, h) = h.1

no_page_usage : (form : Option Form) (asked : PageSetting) (r : Reading) (w : Writing) (note : List ℕ) → IsFormAnswer form asked r w note status.Usage → ⊥
no_page_usage None asked r w note h = h
no_page_usage (Some form) asked r w note h = no_usage asked form r w note h

-- the same of whatever the words ask for
usage_only : (asked : Option Setting) (r : Reading) (w : Writing) (note : List ℕ) (s : Status) → IsAnswerTo asked r w note s → s ≡ status.Usage → asked ≡ None
usage_only None r w note s h is = refl
usage_only (Some (setting.Page asked)) r w note s h is = absurd (no_page_usage (form_of asked.form) asked r w note (subst (IsFormAnswer (form_of asked.form) asked r w note) is h))
usage_only (Some (setting.Make seed bytes)) r w note s h is = absurd (subst (IsAnswerTo (Some (setting.Make seed bytes)) r w note) is h)
usage_only (Some (setting.Drill seed bytes workers chunk)) r w note s h is = absurd (subst (IsAnswerTo (Some (setting.Drill seed bytes workers chunk)) r w note) is h)

usage : (r : Reading) (w : Writing) (note : List ℕ) (s : Status) → IsAnswerTo None r w note s → (s ≡ status.Usage) ⊎ (s ≡ status.NoMemory)
usage r w note status.Done h = absurd h
usage r w note status.Usage h = inl refl
usage r w note status.NotUtf8 h = absurd h
usage r w note status.TooLarge h = absurd h
usage r w note status.ReadFault h = absurd h
usage r w note status.WriteFault h = absurd h
usage r w note status.NoMemory h = inr refl
usage r w note status.BadCuts h = absurd h
usage r w note status.BadSelector h = absurd h

-- a bad selector is answered exactly to a text that is none
no_form : (form : Option Form) (asked : PageSetting) (r : Reading) (w : Writing) (note : List ℕ) → IsFormAnswer form asked r w note status.BadSelector → form ≡ None
no_form None asked r w note h = refl
no_form (Some form) asked r w note (bytes, read, h) = absurd h.1

no_selector : (asked : PageSetting) (r : Reading) (w : Writing) (note : List ℕ) (s : Status) → IsFormAnswer None asked r w note s → (s ≡ status.BadSelector) ⊎ (s ≡ status.NoMemory)
no_selector asked r w note status.Done h = absurd h
no_selector asked r w note status.Usage h = absurd h
no_selector asked r w note status.NotUtf8 h = absurd h
no_selector asked r w note status.TooLarge h = absurd h
no_selector asked r w note status.ReadFault h = absurd h
no_selector asked r w note status.WriteFault h = absurd h
no_selector asked r w note status.NoMemory h = inr refl
no_selector asked r w note status.BadCuts h = absurd h
no_selector asked r w note status.BadSelector h = inl refl

bad_selector_only : (asked : Option Setting) (r : Reading) (w : Writing) (note : List ℕ) (s : Status) → IsAnswerTo asked r w note s → s ≡ status.BadSelector → HasBadSelector asked
bad_selector_only None r w note s h is = absurd (subst (IsAnswerTo None r w note) is h)
bad_selector_only (Some (setting.Page asked)) r w note s h is = no_form (form_of asked.form) asked r w note (subst (IsFormAnswer (form_of asked.form) asked r w note) is h)
bad_selector_only (Some (setting.Make seed bytes)) r w note s h is = absurd (subst (IsAnswerTo (Some (setting.Make seed bytes)) r w note) is h)
bad_selector_only (Some (setting.Drill seed bytes workers chunk)) r w note s h is = absurd (subst (IsAnswerTo (Some (setting.Drill seed bytes workers chunk)) r w note) is h)

bad_selector : (asked : Option Setting) (r : Reading) (w : Writing) (note : List ℕ) (s : Status) → IsAnswerTo asked r w note s → HasBadSelector asked → (s ≡ status.BadSelector) ⊎ (s ≡ status.NoMemory)
bad_selector None r w note s h is = absurd is
bad_selector (Some (setting.Page asked)) r w note s h is = no_selector asked r w note s (subst (λ (form : Option Form). IsFormAnswer form asked r w note s) is h)
bad_selector (Some (setting.Make seed bytes)) r w note s h is = absurd is
bad_selector (Some (setting.Drill seed bytes workers chunk)) r w note s h is = absurd is

by_form : (form : Option Form) (asked : PageSetting) (r : Reading) (w : Writing) (note : List ℕ) (s : Status) → IsFormAnswer form asked r w note s → IfSome form (λ form. IsExact asked r w s)
by_form None asked r w note s h = tt
by_form (Some form) asked r w note s h = exact asked form r w note s h

page : (asked : Option Setting) (r : Reading) (w : Writing) (note : List ℕ) (s : Status) → IsAnswerTo asked r w note s → OnPage asked (λ page. IfSome (form_of page.form) (λ form. IsExact page r w s))
page None r w note s h = tt
page (Some (setting.Page asked)) r w note s h = by_form (form_of asked.form) asked r w note s h
page (Some (setting.Make seed bytes)) r w note s h = tt
page (Some (setting.Drill seed bytes workers chunk)) r w note s h = tt

mode : (IsOutput : List ℕ → Type 0) (w : Writing) (note : List ℕ) (s : Status) → IsModeAnswer IsOutput w note s → ¬ (WritingFailed w) → (s ≡ status.Done) ⊎ (s ≡ status.NoMemory)
mode IsOutput w note status.Done h writes = inl refl
mode IsOutput w note status.Usage h writes = absurd h
mode IsOutput w note status.NotUtf8 h writes = absurd h
mode IsOutput w note status.TooLarge h writes = absurd h
mode IsOutput w note status.ReadFault h writes = absurd h
mode IsOutput w note status.WriteFault (text, is, (taken, first, failed, told)) writes = absurd (writes failed)
mode IsOutput w note status.NoMemory h writes = inr refl
mode IsOutput w note status.BadCuts h writes = absurd h
mode IsOutput w note status.BadSelector h writes = absurd h

modes : (asked : Option Setting) (r : Reading) (w : Writing) (note : List ℕ) (s : Status) → IsAnswerTo asked r w note s → IsMode asked → ¬ (WritingFailed w) → (s ≡ status.Done) ⊎ (s ≡ status.NoMemory)
modes None r w note s h is writes = absurd is
modes (Some (setting.Page asked)) r w note s h is writes = absurd is
modes (Some (setting.Make seed bytes)) r w note s h is writes = mode _ w note s h writes
modes (Some (setting.Drill seed bytes workers chunk)) r w note s h is writes = mode _ w note s h writes

-- each status comes exactly under its cause, whatever the words ask for
pub exact_run : (words : List (List ℕ)) (r : Reading) (w : Writing) (note : List ℕ) (s : Status) → IsAnswerTo (settings words) r w note s → IsExactRun words r w s
exact_run words r w note s h = record {
  usage_only = usage_only (settings words) r w note s h;
  usage = λ none. usage r w note s (subst (λ (asked : Option Setting). IsAnswerTo asked r w note s) none h);
  bad_selector_only = bad_selector_only (settings words) r w note s h;
  bad_selector = bad_selector (settings words) r w note s h;
  page = page (settings words) r w note s h;
  modes = modes (settings words) r w note s h;
}

-- want of memory is an answer whatever the page is written as
pub wanting_form : (form : Option Form) (asked : PageSetting) (r : Reading) (w : Writing) → IsFormAnswer form asked r w no_memory_line status.NoMemory
wanting_form None asked r w = refl
wanting_form (Some form) asked r w = refl

-- and to all words
pub wanting : (asked : Option Setting) (r : Reading) (w : Writing) → IsAnswerTo asked r w no_memory_line status.NoMemory
wanting None r w = refl
wanting (Some (setting.Page asked)) r w = wanting_form (form_of asked.form) asked r w
wanting (Some (setting.Make seed bytes)) r w = refl
wanting (Some (setting.Drill seed bytes workers chunk)) r w = refl

-- a mode writes what is such a text
pub written_as : (IsOutput : List ℕ → Type 0) (text : List ℕ) (w : Writing) (note : List ℕ) (s : Status) → IsOutput text → IsModeAnswer (λ output. output ≡ text) w note s → IsModeAnswer IsOutput w note s
written_as IsOutput text w note status.Done is ((output, same, taken), none) = ((output, subst IsOutput (sym same) is, taken), none)
written_as IsOutput text w note status.Usage is h = absurd h
written_as IsOutput text w note status.NotUtf8 is h = absurd h
written_as IsOutput text w note status.TooLarge is h = absurd h
written_as IsOutput text w note status.ReadFault is h = absurd h
written_as IsOutput text w note status.WriteFault is (output, same, h) = (output, subst IsOutput (sym same) is, h)
written_as IsOutput text w note status.NoMemory is h = h
written_as IsOutput text w note status.BadCuts is h = absurd h
written_as IsOutput text w note status.BadSelector is h = absurd h

-- a page that was not read
pub of_refusal : (asked : PageSetting) (form : Form) (r : Reading) (w : Writing) (refusal : ReadRefusal) (o : Outcome) → o ≡ unread_as refusal
    → (refusal ≡ refused.Fault → ReadingFailed r) → (refusal ≡ refused.TooLarge → IfSome r.before IsTooLarge) → (refusal ≡ refused.TooLarge → Gives (λ n. n ≡ PAGE_LIMIT + 1) r.before r.after)
    → IsAnswer asked form r w (note_of o) (status_of o)
of_refusal asked form r w refusal o is fault large gives = subst (λ (o : Outcome). IsAnswer asked form r w (note_of o) (status_of o)) (sym is) (by_refusal refusal fault large gives)
  where
    by_refusal : (refusal : ReadRefusal) → (refusal ≡ refused.Fault → ReadingFailed r) → (refusal ≡ refused.TooLarge → IfSome r.before IsTooLarge) → (refusal ≡ refused.TooLarge → Gives (λ n. n ≡ PAGE_LIMIT + 1) r.before r.after)
        → IsAnswer asked form r w (note_of (unread_as refusal)) (status_of (unread_as refusal))
    by_refusal refused.Fault fault large gives = (fault refl, refl)
    by_refusal refused.TooLarge fault large gives = (large refl, gives refl, refl)
    by_refusal refused.NoMemory fault large gives = refl

-- what is answered where a page is written in a form
pub as_form : (form other : Option Form) (asked : PageSetting) (r : Reading) (w : Writing) (note : List ℕ) (s : Status) → form ≡ other → IsFormAnswer form asked r w note s → IsFormAnswer other asked r w note s
as_form form other asked r w note s same = subst (λ (f : Option Form). IsFormAnswer f asked r w note s) same

-- what is answered to a setting is answered to an equal one
pub as_asked : (asked other : Option Setting) (r : Reading) (w : Writing) (note : List ℕ) (s : Status) → asked ≡ other → IsAnswerTo asked r w note s → IsAnswerTo other r w note s
as_asked asked other r w note s same = subst (λ (a : Option Setting). IsAnswerTo a r w note s) same

-- the same of an equal status
pub as_told : (asked : Option Setting) (r : Reading) (w : Writing) (note : List ℕ) (s t : Status) → s ≡ t → IsAnswerTo asked r w note s → IsAnswerTo asked r w note t
as_told asked r w note s t same = subst (IsAnswerTo asked r w note) same
