use Rattle.std.proofs.lemmas.Str.{IsCharBoundary-start}
use Rattle.hp_tokens.proofs.cursor.Cursor.of_str.Goals as goal

pub invariant_of-result : goal.invariant_of-result
invariant_of-result c = record {
  utf8 = c.utf8.text;
  rest = c.utf8.text;
  boundary = IsCharBoundary-start _ c.utf8.text;
  fits = c.requires.fits;
}
