-- The tokens of what was emitted.
use Rattle.std.proofs.Common.{◌≡◌, ℕ, List, [], ◌∷◌, ◌++◌, refl, ap}
use Rattle.std.proofs.lemmas.List.{map-append}
use Rattle.hp_elements.specs.declared.token.Token.{Token}
use Rattle.hp_tokens.specs.Advancing.{tokens_of}
use Rattle.hp_tokens.specs.Moves.{Emitted, all_began}

pub tokens-began : (place : ℕ) (ts : List Token) → tokens_of (all_began place ts) ≡ ts
tokens-began place [] = refl
tokens-began place (t ∷ ts) = ap (λ (xs : List Token). t ∷ xs) (tokens-began place ts)

pub tokens-append : (es fs : List Emitted) → tokens_of (es ++ fs) ≡ tokens_of es ++ tokens_of fs
tokens-append es fs = map-append (λ (e : Emitted). e.token) es fs
