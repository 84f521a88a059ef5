use Rattle.std.proofs.Common.{◌≡◌, ℕ, Bool, false, List, [], ◌∷◌, Option, refl}
use Rattle.std.specs.Option.{is_some}
use Rattle.hp_tokens.specs.Reading.{first}
use Rattle.hp_lexer.proofs.lexer.Lexer.check_cut.Goals as goal

none_left : (text : List ℕ) (front : Option ℕ) (some : Bool) → front ≡ first text → some ≡ is_some front → some ≡ false → text ≡ []
none_left [] front some at is none = refl
none_left (c ∷ cs) front some at is none = cc

pub returns-clause-used : goal.returns-clause-used
returns-clause-used c = search none_left depth 2
