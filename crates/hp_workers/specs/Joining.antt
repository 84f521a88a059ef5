-- What becomes of the fragment of a chunk, and where the front stands then.
use Rattle.std.specs.Prelude.{◌≡◌, ℕ, ◌<◌, ◌≤◌, List, length}
use Rattle.hp_control.specs.States.{ControlState}
use Rattle.hp_pieces.specs.At.{IsAt}
use Rattle.hp_pieces.specs.Texts.{covered_of, text_of}
use Rattle.hp_pieces.specs.declared.fragment.Fragment.{Fragment}
use Rattle.hp_merge.specs.Checked.{MayJoin}
use Rattle.hp_merge.specs.Fore.{Fore}
use Rattle.hp_workers.specs.declared.joining.Joined.{Joined}
use Rattle.hp_workers.specs.declared.joining.Joined.TheVariants.{Kept, Repaired, RolledBack}

-- over this state before the chunk
abbrev pub BecomesOf : ControlState → Fragment → Joined → Type 0
BecomesOf s fragment Kept = MayJoin s fragment × (covered_of fragment ≡ length (text_of fragment))
BecomesOf s fragment (Repaired at) = MayJoin s fragment × (covered_of fragment ≡ at) × (at < length (text_of fragment))
BecomesOf s fragment RolledBack = MayJoin s fragment → ⊥

-- the front is that at this place of a page
abbrev pub StandsAt : List ℕ → ℕ → Fore → Type 0
StandsAt text place front = IsAt text place front.control front.tree

-- the front is that at some place between these two
pub record StandsWithin (text : List ℕ) (from to : ℕ) (front : Fore) : Type 0 where
  pub place : ℕ
  pub above : from ≤ place
  pub below : place ≤ to
  pub at : StandsAt text place front
