-- How a printing ends, and what its answer tells.
use Rattle.std.proofs.Common.{◌≡◌, ℕ, List, [], ◌++◌, subst, ◌∙◌}
use Rattle.std.specs.Prelude.{Result, Ok, Err, OnOk}
use Rattle.std.specs.Io.KnownBytes.{append_known}
use Rattle.hp_text.specs.Device.{Rose}
use Rattle.hp_text.specs.declared.writing.WriteFault.{WriteFault}
use Rattle.hp_control.specs.Tree.{Tree}
use Rattle.hp_print.specs.declared.output.Out.{Out}
use Rattle.hp_print.specs.declared.walk.Printing.{Printing}
use Rattle.hp_print.specs.declared.walk.Refusal.{Refusal}
use Rattle.hp_print.specs.declared.walk.Refusal.TheVariants.{NoMemory, Fault}
use Rattle.hp_print.specs.Faults.{Ended, OnFault, Tells}
use Rattle.hp_print.specs.Out.{Finished, Outcome, Prints, Sight, Starts, TakesFirst}
use Rattle.hp_print.specs.Parts.{PrintsOn}
use Rattle.hp_print.specs.Stack.{pending}

-- all was written
pub ended_whole : (a b : Out) (s t u : Sight) (text : List ℕ) (done : Result (Unit {0}) WriteFault) → done ≡ Ok tt → Prints a b s t text → Finished b done t u → Ended a (Ok tt) s u text
ended_whole a b s t u text done is prints finished = record {
  outcome = λ start bytes has. subst (λ (d : Result (Unit {0}) WriteFault). Outcome d start u (bytes ++ text)) is (finished.outcome start (bytes ++ text) (prints.after start bytes has));
}

-- or a write failed
pub ended_part : (a b : Out) (s t u : Sight) (text : List ℕ) (done : Result (Unit {0}) WriteFault) (fault : WriteFault) → done ≡ Err fault → Prints a b s t text → Finished b done t u → Ended a (Err (Fault fault.taken)) s u text
ended_part a b s t u text done fault is prints finished = record {
  outcome = λ start bytes has. subst (λ (d : Result (Unit {0}) WriteFault). Outcome d start u (bytes ++ text)) is (finished.outcome start (bytes ++ text) (prints.after start bytes has));
}

-- where nothing was printed before, the answer tells of the text alone
pub whole_end : (a : Out) (s u : Sight) (piece text : List ℕ) (result : Result (Unit {0}) Refusal) → Starts a → piece ≡ text → Ended a result s u piece → Tells result s u text
whole_end a s u piece text result starts is ended = subst (λ xs. Tells result s u xs) is (ended.outcome s [] (starts s))

-- and where some of it was printed, of all of it
pub later_end : (t : Tree) (p q : Printing) (s v u : Sight) (text : List ℕ) (result : Result (Unit {0}) Refusal) → Starts p.out → pending t p.marks.items ≡ text → PrintsOn t p q s v
    → Ended q.out result v u (pending t q.marks.items) → Tells result s u text
later_end t p q s v u text result starts is on ended =
    subst (λ xs. Tells result s u xs) (on.rest ∙ is) (ended.outcome s on.piece (on.printed.after s [] (starts s)))

pub tells_whole : (result : Result (Unit {0}) Refusal) (s u : Sight) (text : List ℕ) → Tells result s u text → OnOk result (u.0 ≡ append_known s.0 text)
tells_whole (Ok v) s u text tells = tells
tells_whole (Err NoMemory) s u text tells = tt
tells_whole (Err (Fault taken)) s u text tells = tt

pub tells_part : (result : Result (Unit {0}) Refusal) (s u : Sight) (text : List ℕ) → Tells result s u text → OnFault result (λ taken. TakesFirst taken text s.0 u.0)
tells_part (Ok v) s u text tells = tt
tells_part (Err NoMemory) s u text tells = tt
tells_part (Err (Fault taken)) s u text tells = tells.part

pub tells_failed : (result : Result (Unit {0}) Refusal) (s u : Sight) (text : List ℕ) → Tells result s u text → OnFault result (λ taken. Rose s.1 u.1)
tells_failed (Ok v) s u text tells = tt
tells_failed (Err NoMemory) s u text tells = tt
tells_failed (Err (Fault taken)) s u text tells = tells.rose

-- memory was there
pub tells_refused : (result : Result (Unit {0}) Refusal) (s u : Sight) (text : List ℕ) → result ≡ Err NoMemory → Tells result s u text → ⊥
tells_refused result s u text is tells = subst (λ (r : Result (Unit {0}) Refusal). Tells r s u text) is tells
