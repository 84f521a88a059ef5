use Rattle.std.proofs.Common.{List, ℕ, subst, sym}
use Rattle.std.proofs.lemmas.Str.{IsCharBoundary-start}
use Rattle.hp_tokens.specs.Reading.{IsAt}
use Rattle.hp_tokens.proofs.cursor.Cursor.new.Goals as goal

pub invariant_of-result : goal.invariant_of-result
invariant_of-result c =
    let P : List ℕ → Type 0 = λ xs. IsAt xs 0 in
    subst P (sym c.from_utf8_unchecked-text.ensures) record {
      utf8 = c.requires.utf8;
      rest = c.requires.utf8;
      boundary = IsCharBoundary-start _ c.requires.utf8;
      fits = c.requires.fits;
    }
