use Rattle.std.proofs.Common.{sym, ap, ◌∙◌, ◌-◌, arith}
use Rattle.std.specs.Option.{option_map, option_copied}
use Rattle.hp_elements.specs.Respelling.{foreign_attribute_of}
use Rattle.hp_elements.specs.declared.respelling.TheConstants.{FOREIGN}
use Rattle.hp_elements.proofs.ListLemmas.{looked_up}
use Rattle.hp_elements.proofs.NameLemmas.{found_text}
use Rattle.hp_elements.proofs.RespellingLemmas.{not_foreign, none_before, foreign_row, row_has}
use Rattle.hp_elements.proofs.name.Name.foreign_attribute.Goals as goal

pub returns-in-None : goal.returns-in-None
returns-in-None c = not_foreign c.args.self.now (sym c.in-None.ensures)

pub returns-then-place-lt-FIRST_FOREIGN : goal.returns-then-place-lt-FIRST_FOREIGN
returns-then-place-lt-FIRST_FOREIGN c =
    none_before c.in-Some.known c.index-place.result c.index-place.ensures c.if-place-lt-FIRST_FOREIGN.true ∙ ap foreign_attribute_of (found_text c.args.self.now c.in-Some.known (sym c.in-Some.ensures))

pub returns-in-None-get : goal.returns-in-None-get
returns-in-None-get c =
    ap (λ r. option_map row_has (option_copied r)) (sym c.in-None-get.is)
    ∙ (foreign_row c.in-Some.known c.index-place.result (option_copied c.get.result) c.index-place.ensures (omega arith) (looked_up c.get.result FOREIGN (c.index-place.result - 227) c.get.ensures.lookup.1 c.get.ensures.lookup.3)
    ∙ ap foreign_attribute_of (found_text c.args.self.now c.in-Some.known (sym c.in-Some.ensures)))

pub returns-in-Some-get : goal.returns-in-Some-get
returns-in-Some-get c =
    ap (λ r. option_map row_has (option_copied r)) (sym c.in-Some-get.is)
    ∙ (foreign_row c.in-Some.known c.index-place.result (option_copied c.get.result) c.index-place.ensures (omega arith) (looked_up c.get.result FOREIGN (c.index-place.result - 227) c.get.ensures.lookup.1 c.get.ensures.lookup.3)
    ∙ ap foreign_attribute_of (found_text c.args.self.now c.in-Some.known (sym c.in-Some.ensures)))
