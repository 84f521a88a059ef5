use Rattle.std.proofs.Common.{◌++◌, ap, sym, ◌∙◌}
use Rattle.std.proofs.lemmas.Str.{encodes-chars}
use Rattle.hp_serial.proofs.Joins.{ok_then}
use Rattle.hp_serial.proofs.items.put_str.Goals as goal

pub returns : goal.returns
returns c =
    ok_then c.put.result _ _
    (λ e. (rw c.as_bytes.ensures.value at e) ∙ ap (λ xs. c.args.out.now.items ++ xs) (sym (encodes-chars c.args.text.now c.utf8.text)))
    c.put.ensures
