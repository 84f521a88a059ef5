-- Texts in the notes.
use Rattle.std.proofs.Common.{◌≡◌, ◌<◌, ◌+◌, ◌++◌, ◌∙◌, ℕ, List, length, take, refl, sym, subst, ap, inl, inr, arith, Option, None, Some, Result, Ok, Err, append_assoc}
use Rattle.std.proofs.lemmas.List.{take-append-le}
use Rattle.std.proofs.Math.Seq.{take-append-add}
use Rattle.std.specs.Io.KnownBytes.{append_known}
use Rattle.std.specs.Prelude.{IfErr, OnErr, OnOk}
use Rattle.hp_text.specs.Device.{Rose}
use Rattle.hp_text.specs.declared.writing.WriteFault.{WriteFault}
use Rattle.hp_program.specs.Devices.{TakesUnlessFailed, Writing}

-- a write that was whole or not
pub noted : (text : List ℕ) (before after : Option (List ℕ)) (faults faults_after : ℕ) (done : Result (Unit {0}) WriteFault) → OnOk done (after ≡ append_known before text)
    → IfErr done (λ fault. after ≡ append_known before (take fault.taken text)) → OnErr done (Rose faults faults_after)
    → TakesUnlessFailed text (record { before = before; after = after; faults = faults; faults_after = faults_after })
noted text before after faults faults_after (Ok _) whole part failed = inl whole
noted text before after faults faults_after (Err fault) whole part failed = inr (fault.taken, part, failed)

-- a text of which only the first bytes of its first part were taken
pub cut_short : (first second : List ℕ) (n : ℕ) (before after : Option (List ℕ)) (faults faults_after : ℕ) → n < length first → after ≡ append_known before (take n first) → Rose faults faults_after
    → TakesUnlessFailed (first ++ second) (record { before = before; after = after; faults = faults; faults_after = faults_after })
cut_short first second n before after faults faults_after less part failed =
    inr (n, part ∙ ap (append_known before) (sym (take-append-le n first second (omega (arith, less)))), failed)

appended : (before : Option (List ℕ)) (first second : List ℕ) → append_known (append_known before first) second ≡ append_known before (first ++ second)
appended None first second = refl
appended (Some bytes) first second = ap Some (append_assoc bytes first second)

-- a text whose first part was taken whole
pub carried_on : (first second : List ℕ) (before mid after : Option (List ℕ)) (faults faults_mid faults_after : ℕ) → mid ≡ append_known before first → faults_mid ≡ faults
    → TakesUnlessFailed second (record { before = mid; after = after; faults = faults_mid; faults_after = faults_after })
    → TakesUnlessFailed (first ++ second) (record { before = before; after = after; faults = faults; faults_after = faults_after })
carried_on first second before mid after faults faults_mid faults_after whole same (inl taken) =
    inl (taken ∙ (ap (λ (m : Option (List ℕ)). append_known m second) whole ∙ appended before first second))
carried_on first second before mid after faults faults_mid faults_after whole same (inr (n, taken, failed)) =
    inr (
      length first + n,
      taken ∙ (ap (λ (m : Option (List ℕ)). append_known m (take n second)) whole ∙ (appended before first (take n second)
          ∙ ap (append_known before) (sym (take-append-add first second n)))),
      subst (λ (f : ℕ). Rose f faults_after) same failed,
    )

-- an equal text
pub noted_as : (one other : List ℕ) (w : Writing) → one ≡ other → TakesUnlessFailed one w → TakesUnlessFailed other w
noted_as one other w same = subst (λ (text : List ℕ). TakesUnlessFailed text w) same
