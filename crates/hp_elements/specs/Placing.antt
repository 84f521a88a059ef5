-- Where each kind of token stands in a table by kinds.
use Rattle.std.specs.Prelude.{ℕ, ◌+◌, List, [], ◌∷◌, ◌++◌, map, None, Some}
use Rattle.hp_elements.specs.declared.token.CharClass.TheVariants.{White, Nul, Other}
use Rattle.hp_elements.specs.declared.token.Kind.{Kind}
use Rattle.hp_elements.specs.declared.token.Kind.TheVariants.{Characters, Comment, Doctype, Start, End, EndOfInput}
use Rattle.hp_elements.specs.Names.{index_of, every}
use Rattle.hp_elements.specs.Rules.{Row, first_for}

-- the start tags by name and the start tags of other names, the end tags alike, then what has no name
abbrev pub every_kind : List Kind
every_kind =
    map (λ name. Start (Some name)) every ++ (Start None ∷ map (λ name. End (Some name)) every)
    ++ (End None ∷ Characters White ∷ Characters Nul ∷ Characters Other ∷ Comment ∷ Doctype ∷ EndOfInput ∷ [])

abbrev pub place_of : Kind → ℕ
place_of (Start (Some name)) = index_of name
place_of (Start None) = 240
place_of (End (Some name)) = 241 + index_of name
place_of (End None) = 481
place_of (Characters White) = 482
place_of (Characters Nul) = 483
place_of (Characters Other) = 484
place_of Comment = 485
place_of Doctype = 486
place_of EndOfInput = 487

-- the numbers of the rows of all kinds of tokens, where the first of the rows has that number
abbrev pub numbers : ℕ → List Row → List ℕ
numbers first rows = map (λ token. first + first_for rows token) every_kind
