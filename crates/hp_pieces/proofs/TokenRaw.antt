-- The rows of raw text keep a machine whose token is its state's.
use Rattle.std.proofs.Common.{◌≡◌, ℕ, List, ◌∷◌, true, Some}
use Rattle.hp_tokens.specs.declared.machine.Machine.{Machine}
use Rattle.hp_tokens.specs.declared.state.State.{State}
use Rattle.hp_tokens.specs.declared.state.State.TheVariants.{Rcdata}
use Rattle.hp_lex_raw.specs.Rows.{row, row_of}
use Rattle.hp_pieces.proofs.TokenRows.{Owns, has_own, owning, owns}

each_owns : (s : State) (m : Machine) (c : ℕ) (cs : List ℕ) → has_own s (c ∷ cs) m.return_to m.building ≡ true → Owns c cs (row_of s (record m { state = s }) (Some c))
each_owns Rcdata m c cs h = search (owning, h) depth 9
each_owns _ m c cs h = search (owning, h) depth 9

pub row_owns : (m : Machine) (c : ℕ) (cs : List ℕ) → owns m (c ∷ cs) ≡ true → Owns c cs (row m (Some c))
row_owns m c cs h = each_owns m.state m c cs h
