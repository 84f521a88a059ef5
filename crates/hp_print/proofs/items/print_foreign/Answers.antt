use Rattle.std.proofs.Common.{sym, append_assoc, codes}
use Rattle.hp_print.specs.Print.{indentation, namespace_word}
use Rattle.hp_print.proofs.Pieces.{prints_then, prints_as}
use Rattle.hp_print.proofs.items.print_foreign.Goals as goal

pub returns : goal.returns
returns g c =
    let depth = c.args.depth in
    let word = namespace_word c.args.tag.now.namespace in
    let front = prints_as _ _ _ _ _ _ (prints_then _ _ _ _ _ _ _ _ c.indent.ensures (rw c.open_text.ensures at c.put.ensures)) (sym (append_assoc (indentation depth) (codes "<") word)) in
    let named = prints_then _ _ _ _ _ _ _ _ front (rw c.as_str.ensures at c.put_text.ensures) in
    prints_then _ _ _ _ _ _ _ _ named c.put-2.ensures
