use Rattle.std.proofs.Common.{ℕ, List, ◌++◌, sym, ap, ◌∙◌, append-nil, codes}
use Rattle.std.specs.Prelude.{encode_utf8_all}
use Rattle.hp_print.specs.Print.{indentation}
use Rattle.hp_print.proofs.Lists.{line_joined}
use Rattle.hp_print.proofs.Pieces.{prints_as}
use Rattle.hp_print.proofs.items.print_opening.Goals as goal

pub returns-in-Html : goal.returns-in-Html
returns-in-Html g c =
    let front = indentation c.args.depth in
    let name = encode_utf8_all c.args.tag.now.name in
    rw c.in-Html.is
    (prints_as _ _ _ _ _ _ (rw c.as_str.ensures at c.put_line.ensures)
    (sym (line_joined front name 60 62 10) ∙ ap (λ (xs : List ℕ). xs ++ name ++ codes ">\n") (sym (append-nil (front ++ codes "<")))))

pub returns-in_default : goal.returns-in_default
returns-in_default g c = c.print_foreign.ensures
