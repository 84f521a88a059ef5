-- Fronts at places of a page's text.
use Rattle.std.proofs.Common.{◌≡◌, ℕ, List, length, sym, subst, IfOk}
use Rattle.std.specs.Prelude.{Result, Ok, Err}
use Rattle.std.specs.Str.{chars}
use Rattle.hp_names.specs.BuiltIn.{built_in}
use Rattle.hp_control.specs.States.{ControlState}
use Rattle.hp_control.specs.Tree.{Tree, applied_all}
use Rattle.hp_arena.specs.Arena.{Seen}
use Rattle.hp_runs.specs.Pages.{IsTreeOf}
use Rattle.hp_pieces.specs.At.{AtEnd, IsAt}
use Rattle.hp_pieces.specs.Fragments.{IsEnd, Last}
use Rattle.hp_pieces.specs.Running.{Ends}

-- behind the whole text, the end of input builds the page's tree
pub builds_page : {E : Type 0} → AtEnd → (text : List ℕ) (s : ControlState) (t : Tree) (last : Last) (made : Result Seen E) → IsAt text (length text) s t → last.entry ≡ s → IsEnd last
    → IfOk made (λ tree. tree.branches ≡ applied_all t last.edits) → IfOk made (λ tree. IsTreeOf built_in (chars text) tree.branches)
builds_page ends text s t last (Err e) at entry is made = made
builds_page ends text s t last (Ok tree) at entry is made =
    subst (λ (branches : Tree). IsTreeOf built_in (chars text) branches) (sym made) (ends text s t last.edits at (subst (λ (from : ControlState). Ends built_in from last.edits) entry is.ends))
