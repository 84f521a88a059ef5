use Rattle.std.proofs.Common.{sym}
use Rattle.std.specs.Prelude.{encode_utf8_all}
use Rattle.hp_print.specs.Print.{indentation}
use Rattle.hp_print.proofs.Lists.{line_joined}
use Rattle.hp_print.proofs.Pieces.{prints_as}
use Rattle.hp_print.proofs.items.print_text.Goals as goal

pub returns-in-One : goal.returns-in-One
returns-in-One g c =
    rw c.in-One.is
    (prints_as _ _ _ _ _ _ (rw c.as_str.ensures at c.put_line.ensures) (sym (line_joined (indentation c.args.depth) (encode_utf8_all c.in-One.run'.now) 34 34 10)))

pub returns-in-Several : goal.returns-in-Several
returns-in-Several g c = rw c.in-Several.is c.print_several.ensures
