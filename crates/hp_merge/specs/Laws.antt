-- The laws of fronts for the crates above.
use Rattle.std.specs.Prelude.{◌≡◌, ℕ, ◌+◌, ◌≤◌, List, slice_range}
use Rattle.std.specs.Str.{IsCharBoundary, IsUtf8}
use Rattle.hp_control.specs.States.{Fits}
use Rattle.hp_pieces.specs.At.{IsAt}
use Rattle.hp_pieces.specs.Texts.{covered_of, text_of}
use Rattle.hp_pieces.specs.declared.fragment.Fragment.{Fragment}
use Rattle.hp_merge.specs.Checked.{MayJoin}
use Rattle.hp_merge.specs.Fore.{Fore}
use Rattle.hp_merge.specs.Joined.{joined}
use Rattle.hp_merge.specs.Sound.{IsSoundFragment}

-- a front at a place goes on by what a fragment of the text behind that place covers
abbrev pub GoesOn : Type 0
GoesOn = (text : List ℕ) (n m : ℕ) (f : Fore) (fragment : Fragment) → IsAt text n f.control f.tree → Fits f.control → IsUtf8 text → IsCharBoundary text n → n ≤ m
    → IsSoundFragment fragment → MayJoin f.control fragment → text_of fragment ≡ slice_range text n m
    → IsAt text (n + covered_of fragment) (joined f fragment).control (joined f fragment).tree

-- a code point begins behind what it covers, or the text ends
abbrev pub StandsBehind : Type 0
StandsBehind = (text : List ℕ) (n m : ℕ) (fragment : Fragment) → IsUtf8 text → IsCharBoundary text n → n ≤ m → IsSoundFragment fragment → text_of fragment ≡ slice_range text n m
    → IsCharBoundary text (n + covered_of fragment) × (n + covered_of fragment ≤ m)
