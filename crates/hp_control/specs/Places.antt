-- Where hashes stand in a list. A place is counted from 1, and 0 is none.
use Rattle.std.specs.Prelude.{◌≡◌, ◌≢◌, ℕ, ◌-◌, ◌<◌, ◌≤◌, List, length, bit_and, slice_index}

-- hashes in their order, each of which is in one of so many chains
pub record Chained : Type 0 where
  pub chains : ℕ
  pub hashes : List ℕ

-- the chain of a hash among so many: its last bits say it
abbrev pub chain_of : ℕ → ℕ → ℕ
chain_of chains hash = bit_and hash (chains - 1)

-- the last hash in a chain before an end has that place
abbrev pub IsLastOf : Chained → ℕ → ℕ → ℕ → Type 0
IsLastOf c chain end place =
    (place ≤ end)
    × ((i : ℕ) → place ≤ i → i < end → chain_of c.chains (slice_index c.hashes i) ≢ chain)
    × (0 < place → chain_of c.chains (slice_index c.hashes (place - 1)) ≡ chain)

-- each chain has the place of its last hash, and each hash that of the last one before it in its chain
abbrev pub AreChained : List ℕ → List ℕ → List ℕ → Type 0
AreChained hashes before last =
    let c : Chained = record { chains = length last; hashes = hashes } in
    (0 < length last)
    × (length before ≡ length hashes)
    × ((chain : ℕ) → chain < length last → IsLastOf c chain (length hashes) (slice_index last chain))
    × ((i : ℕ) → i < length hashes → IsLastOf c (chain_of (length last) (slice_index hashes i)) i (slice_index before i))
