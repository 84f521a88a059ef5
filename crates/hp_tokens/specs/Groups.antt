-- The moves that a group of tokens comes from: those from one rest to the next.
use Rattle.std.specs.Prelude.{◌≡◌, ℕ, ◌&&◌, not, Bool, true, false, List, [], ◌∷◌, ◌++◌}
use Rattle.hp_elements.specs.declared.token.CharClass.{CharClass}
use Rattle.hp_elements.specs.declared.token.Token.{Token}
use Rattle.hp_elements.specs.declared.token.Token.TheVariants.{Characters}
use Rattle.hp_tokens.specs.declared.state.State.{State}
use Rattle.hp_tokens.specs.States.{is_resting}
use Rattle.hp_tokens.specs.Moves.{Lexing, Emitted, Move, makes}

-- by these moves, each made in one of these states, the lexer gets from here to there, and they emit these
pub data Through (next : Lexing → Move) (may : State → Bool) : Lexing → List Emitted → Lexing → Type 0 where
  done : {l : Lexing} → Through next may l [] l
  going : {l m k : Lexing} {es fs : List Emitted} → may l.machine.state ≡ true → next l ≡ makes m es → Through next may m fs k → Through next may l (es ++ fs) k

-- one of these states, in which the lexer doesn't rest
abbrev pub restless : (State → Bool) → State → Bool
restless own s = own s && not (is_resting s)

-- all of these began there
abbrev pub AllBegan : List Emitted → ℕ → Type 0
AllBegan [] place = Unit {0}
AllBegan (e ∷ es) place = (e.began ≡ place) × AllBegan es place

-- What the moves of one step emit: it is what one move emits; or nothing; or all of it began at the last rest, in a state in
-- which the lexer doesn't rest; or, from rest to rest, it is one run of characters.
pub data Together (next : Lexing → Move) (old : Lexing) (es : List Emitted) (new : Lexing) (more : List Token) : Type 0 where
  at_once : next old ≡ makes new es → AllBegan es old.rested → Together next old es new more
  no_token : es ≡ [] → Together next old es new more
  in_state : is_resting old.machine.state ≡ false → AllBegan es old.rested → Together next old es new more
  as_run : (class : CharClass) (text : List ℕ) → more ≡ Characters class text ∷ [] → is_resting old.machine.state ≡ true → is_resting new.machine.state ≡ true
      → Together next old es new more
