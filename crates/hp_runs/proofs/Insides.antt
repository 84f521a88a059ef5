-- Tokens of moves aren't the end of input.
use Rattle.std.proofs.Common.{◌≡◌, List, [], ◌∷◌, ◌++◌, length, sym, subst}
use Rattle.hp_elements.specs.declared.token.Token.{Token}
use Rattle.hp_elements.specs.declared.token.Token.TheVariants as token
use Rattle.hp_names.specs.References.{Reference}
use Rattle.hp_tokens.specs.Advancing.{single, singles, tokens_of}
use Rattle.hp_tokens.specs.Moves.{Emitted, Lexing, makes, move}
use Rattle.hp_tokens.specs.Runs.{Leads, here, onward}
use Rattle.hp_lexer.specs.Table.{table}
use Rattle.hp_model.specs.Growth.{AreInside, IsInside}
use Rattle.hp_runs.specs.Tokens.{AllInside}
use Rattle.hp_runs.proofs.SparseTable.{MoveSparse, move_sparse}

inside-join : (es fs : List Emitted) → AreInside es → AreInside fs → AreInside (es ++ fs)
inside-join [] fs h k = k
inside-join (e ∷ es) fs h k = (h.0, inside-join es fs h.1 k)

pub leads-inside : (names : List Reference) {l k : Lexing} {es : List Emitted} → Leads (move (table names)) l es k → AreInside es
leads-inside names here = tt
leads-inside names {l} (onward {m = m} {es = es} {fs = fs} made rest) =
    let sparse : MoveSparse (length l.unread) (makes m es) = subst (MoveSparse (length l.unread)) made (move_sparse names l) in
    inside-join es fs sparse.1 (leads-inside names rest)

tokens-inside : (es : List Emitted) → AreInside es → AllInside (tokens_of es)
tokens-inside [] h = tt
tokens-inside (e ∷ es) h = (h.0, tokens-inside es h.1)

inside-split : (xs ys : List Token) → AllInside (xs ++ ys) → AllInside xs × AllInside ys
inside-split [] ys h = (tt, h)
inside-split (x ∷ xs) ys h = let rest = inside-split xs ys h.1 in ((h.0, rest.0), rest.1)

single-inside : (t : Token) → AllInside (single t) → IsInside t
single-inside (token.Characters class text) h = tt
single-inside t h = h.0

singles-inside : (ts : List Token) → AllInside (singles ts) → AllInside ts
singles-inside [] h = tt
singles-inside (t ∷ ts) h = let parts = inside-split (single t) (singles ts) h in (single-inside t parts.0, singles-inside ts parts.1)

pub runs-inside : (es : List Emitted) (ts : List Token) → singles ts ≡ tokens_of es → AreInside es → AllInside ts
runs-inside es ts same h = singles-inside ts (subst AllInside (sym same) (tokens-inside es h))
