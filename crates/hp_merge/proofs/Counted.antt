-- Own ids, counted on from that of the state below, where the state that a change makes is valid.
use Rattle.std.proofs.Common.{◌≡◌, ℕ, zero, suc, ◌+◌, ◌<◌, ◌^◌, List, [], ◌∷◌, ◌++◌, All, map, drop, sym, subst, arith}
use Rattle.std.specs.Prelude.{IfSome}
use Rattle.hp_control.specs.declared.change.Change.{Change}
use Rattle.hp_control.specs.declared.change.FormChange.{FormChange}
use Rattle.hp_control.specs.declared.change.FormChange.TheVariants.{Kept, Cleared, Own}
use Rattle.hp_control.specs.declared.element.FormattingEntry.{FormattingEntry}
use Rattle.hp_control.specs.declared.element.FormattingEntry.TheVariants.{Marker, Element}
use Rattle.hp_control.specs.declared.element.OpenElement.{OpenElement}
use Rattle.hp_control.specs.Apply.{IsShiftable, applied, form_after, named_edit, shifted, shifted_entry}
use Rattle.hp_control.specs.Holds.{Holds}
use Rattle.hp_control.specs.States.{AreIds, ControlState, Fits, IsId, IsValid, entry_ids}
use Rattle.hp_control.specs.Walks.{cleared_by}
use Rattle.hp_names.specs.BuiltIn.{built_in}
use Rattle.hp_names.specs.References.{Reference}
use Rattle.hp_pieces.specs.Growth.{Grows}
use Rattle.hp_pieces.specs.Guesses.{Guessed, IsSound, covered_text}
use Rattle.hp_pieces.specs.Laws.{LeadsValid}
use Rattle.hp_pieces.specs.Running.{Leads}
use Rattle.hp_merge.specs.Parts.{AreCounted, IsFormCounted}

below : (x next top : ℕ) → x < next → next < top → x < top
below x next top h t = omega arith

elements_below : (es rest : List OpenElement) (from low next top : ℕ) → next < top → AreIds low next (map (λ e. e.id) (map (shifted from) es ++ rest)) → All (λ (e : OpenElement). from + e.id < top) es
elements_below [] rest from low next top t h k d less = absurd (omega arith)
elements_below (e ∷ es) rest from low next top t h zero d less = below (from + e.id) next top h.1 t
elements_below (e ∷ es) rest from low next top t h (suc k) d less = elements_below es rest from low next top t h.3 k d (omega arith)

entries_below : (es rest : List FormattingEntry) (from low next : ℕ) → next < 2 ^ 64 → AreIds low next (entry_ids (map (shifted_entry from) es ++ rest)) → All (IsShiftable from) es
entries_below [] rest from low next t h k d less = absurd (omega arith)
entries_below (Marker ∷ es) rest from low next t h zero d less = tt
entries_below (Marker ∷ es) rest from low next t h (suc k) d less = entries_below es rest from low next t h k d (omega arith)
entries_below (Element id tag ∷ es) rest from low next t h zero d less = below (from + id) next (2 ^ 64) h.1 t
entries_below (Element id tag ∷ es) rest from low next t h (suc k) d less = entries_below es rest from low next t h.3 k d (omega arith)

-- where that is valid, and so many ids can be counted
pub counted : (c : Change) (s : ControlState) → IsValid (applied c s) → s.next + c.made < 2 ^ 64 → AreCounted s.next c
counted c s valid t = record {
  elements = elements_below c.stack (drop c.popped s.stack) s.next 0 (s.next + c.made) (2 ^ 64) t valid.stack_ids;
  entries = entries_below c.formatting (cleared_by c.cuts s.formatting) s.next 1 (s.next + c.made) t valid.list_ids;
}

form_below : (change : FormChange) (s : ControlState) (next : ℕ) → next < 2 ^ 64 → IfSome (form_after change s) (IsId next) → IsFormCounted s.next change
form_below Kept s next t h = tt
form_below Cleared s next t h = tt
form_below (Own number) s next t h = below (s.next + number) next (2 ^ 64) h.1 t

pub form_counted : (c : Change) (s : ControlState) → IsValid (applied c s) → s.next + c.made < 2 ^ 64 → IsFormCounted s.next c.form
form_counted c s valid t = form_below c.form s (s.next + c.made) t valid.form

-- a sound guess over a state that fits leads to a valid one
pub valid_behind : LeadsValid → (g : Guessed) (s : ControlState) → IsSound g → g.names ≡ built_in → IsValid s → Fits s → Holds g.assumptions s → 0 < g.covered → IsValid (applied g.change s)
valid_behind law g s sound names valid fits holds covers =
    let grows : Grows g.names (covered_text g) s g.grove g.outer (applied g.change s) = sound.sound s valid fits holds covers in
    law (covered_text g) s (applied g.change s) (map (named_edit s) grows.edits)
    (subst (λ (ns : List Reference). Leads ns (covered_text g) s (map (named_edit s) grows.edits) (applied g.change s)) names grows.leads) valid

-- that many ids can be counted, so told
pub counted_so : (c d : Change) (s : ControlState) (next : ℕ) → c ≡ d → next ≡ s.next → IsValid (applied d s) → s.next + d.made < 2 ^ 64 → AreCounted next c
counted_so c d s next same is valid t = subst (λ (x : Change). AreCounted next x) (sym same) (subst (λ (n : ℕ). AreCounted n d) (sym is) (counted d s valid t))

pub form_so : (c d : Change) (s : ControlState) (next : ℕ) → c ≡ d → next ≡ s.next → IsValid (applied d s) → s.next + d.made < 2 ^ 64 → IsFormCounted next c.form
form_so c d s next same is valid t = subst (λ (x : Change). IsFormCounted next x.form) (sym same) (subst (λ (n : ℕ). IsFormCounted n d.form) (sym is) (form_counted d s valid t))
