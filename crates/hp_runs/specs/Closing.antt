-- What is no character is emitted where the lexer comes to a rest.
use Rattle.std.specs.Prelude.{◌≡◌, ◌⊎◌, true, List, [], ◌∷◌, ◌++◌}
use Rattle.hp_elements.specs.declared.token.Token.{Token}
use Rattle.hp_elements.specs.declared.token.Token.TheVariants as token
use Rattle.hp_names.specs.References.{Reference}
use Rattle.hp_tokens.specs.Advancing.{tokens_of}
use Rattle.hp_tokens.specs.Moves.{Emitted, Lexing, Move, makes, move}
use Rattle.hp_tokens.specs.States.{is_resting}
use Rattle.hp_lexer.specs.Table.{table}

abbrev pub AreCharacters : List Token → Type 0
AreCharacters [] = Unit {0}
AreCharacters (token.Characters class text ∷ ts) = AreCharacters ts
AreCharacters (_ ∷ ts) = ⊥

-- what is no character is emitted by a move that ends at a rest
abbrev pub TagsRest : Type 0
TagsRest = (names : List Reference) (l m : Lexing) (es : List Emitted) → move (table names) l ≡ makes m es → AreCharacters (tokens_of es) ⊎ (is_resting m.machine.state ≡ true)

-- by these moves the lexer gets from here to there, and they emit these; only the last of them emits what is no character
pub data LeadsOn (next : Lexing → Move) : Lexing → List Emitted → Lexing → Type 0 where
  stays : {l : Lexing} → LeadsOn next l [] l
  last : {l m : Lexing} {es : List Emitted} → next l ≡ makes m es → LeadsOn next l es m
  onward : {l m k : Lexing} {es fs : List Emitted} → next l ≡ makes m es → AreCharacters (tokens_of es) → LeadsOn next m fs k → LeadsOn next l (es ++ fs) k
