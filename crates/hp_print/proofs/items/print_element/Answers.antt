use Rattle.std.proofs.Common.{◌+◌, [], ◌++◌, Bool, sym, ap, ◌∙◌, append-nil, if◌then◌else◌}
use Rattle.hp_print.specs.Print.{contents_line, tag_lines}
use Rattle.hp_print.proofs.Pieces.{prints_as, prints_then}
use Rattle.hp_print.proofs.items.print_element.Goals as goal

pub returns-then-is_template-clause-printed : goal.returns-then-is_template-clause-printed
returns-then-is_template-clause-printed g c =
    let depth = c.args.depth in
    let front = tag_lines depth c.args.tag.now in
    let all = prints_then _ _ _ _ _ _ _ _ c.print_tag.ensures.printed (prints_then _ _ _ _ _ _ _ _ c.indent.ensures c.put.ensures) in
    prints_as _ _ _ _ _ _ all (ap (λ (b : Bool). front ++ (if b then contents_line (depth + 1) else [])) (sym c.if-is_template.true ∙ c.is_template.ensures))

pub returns-else-is_template-clause-printed : goal.returns-else-is_template-clause-printed
returns-else-is_template-clause-printed g c =
    let depth = c.args.depth in
    let front = tag_lines depth c.args.tag.now in
    prints_as _ _ _ _ _ _ c.print_tag.ensures.printed
    (sym (append-nil front) ∙ ap (λ (b : Bool). front ++ (if b then contents_line (depth + 1) else [])) (sym c.if-is_template.false ∙ c.is_template.ensures))
