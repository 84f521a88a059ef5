-- The sequential parser's state and tree after the first bytes of a page's text.
use Rattle.std.specs.Prelude.{◌≡◌, ℕ, ◌+◌, ◌≤◌, ◌^◌, List, length, take, slice_range}
use Rattle.std.specs.Str.{chars, IsCharBoundary, IsUtf8}
use Rattle.hp_names.specs.BuiltIn.{built_in}
use Rattle.hp_control.specs.declared.edit.Edit.{Edit}
use Rattle.hp_control.specs.States.{ControlState, Fits, IsValid, start}
use Rattle.hp_control.specs.Tree.{Tree, applied_all, document}
use Rattle.hp_runs.specs.Pages.{IsTreeOf}
use Rattle.hp_pieces.specs.Running.{Ends, Leads}

pub record IsAt (text : List ℕ) (place : ℕ) (control : ControlState) (tree : Tree) : Type 0 where
  pub edits : List Edit
  pub leads : Leads built_in (chars (take place text)) start edits control
  pub builds : tree ≡ applied_all document edits

-- there is one such state, and one such tree
abbrev pub AtOnce : Type 0
AtOnce = (text : List ℕ) (n : ℕ) (s u : ControlState) (t v : Tree) → IsAt text n s t → IsAt text n u v → (s ≡ u) × (t ≡ v)

abbrev pub AtStart : Type 0
AtStart = (text : List ℕ) → IsAt text 0 start document

-- the run over what follows, up to another place
abbrev pub AtGoesOn : Type 0
AtGoesOn = (text : List ℕ) (n k : ℕ) (s u : ControlState) (t : Tree) (es : List Edit) → IsAt text n s t → IsUtf8 text → IsCharBoundary text n
    → Leads built_in (chars (slice_range text n (n + k))) s es u → IsAt text (n + k) u (applied_all t es)

-- the same where that is the front of a longer part
abbrev pub AtCovers : Type 0
AtCovers = (text : List ℕ) (n m k : ℕ) (s u : ControlState) (t : Tree) (es : List Edit) → IsAt text n s t → IsUtf8 text → IsCharBoundary text n → n + k ≤ m
    → Leads built_in (chars (take k (slice_range text n m))) s es u → IsAt text (n + k) u (applied_all t es)

-- the end of input behind the whole text
abbrev pub AtEnd : Type 0
AtEnd = (text : List ℕ) (s : ControlState) (t : Tree) (es : List Edit) → IsAt text (length text) s t → Ends built_in s es → IsTreeOf built_in (chars text) (applied_all t es)

abbrev pub AtValid : Type 0
AtValid = (text : List ℕ) (n : ℕ) (s : ControlState) (t : Tree) → IsAt text n s t → IsValid s

abbrev pub AtFits : Type 0
AtFits = (text : List ℕ) (n : ℕ) (s : ControlState) (t : Tree) → IsAt text n s t → length text ≤ 2 ^ 24 → Fits s
