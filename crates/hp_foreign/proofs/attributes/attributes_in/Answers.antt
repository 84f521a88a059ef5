use Rattle.std.proofs.Common.{◌∙◌, sym}
use Rattle.hp_foreign.proofs.Changing.{all_stay}
use Rattle.hp_foreign.proofs.attributes.attributes_in.Goals as goal

pub returns : goal.returns
returns c = sym (all_stay c.args.namespace c.args.attributes (sym c.any_changes.ensures ∙ c.if-any_changes.false))
