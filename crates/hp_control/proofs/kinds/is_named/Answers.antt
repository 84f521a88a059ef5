use Rattle.std.proofs.Common.{Bool, ◌&&◌, sym, ap, ◌∙◌}
use Rattle.std.specs.Str.{bytes_eq}
use Rattle.hp_elements.specs.Names.{text_of}
use Rattle.hp_control.proofs.TextTests.{text_test}
use Rattle.hp_control.proofs.kinds.is_named.Goals as goal

pub returns-then-is_html : goal.returns-then-is_html
returns-then-is_html c =
    text_test c.is.result c.args.element.now.name (text_of c.args.known) c.is.ensures
    ∙ ap (λ (html : Bool). html && bytes_eq c.args.element.now.name (text_of c.args.known)) (sym c.if-is_html.true ∙ c.is_html.ensures)
