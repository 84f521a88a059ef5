use Rattle.std.proofs.Common.{◌≡◌, List, true, subst}
use Rattle.hp_names.specs.References.{Reference, is_table}
use Rattle.hp_names.proofs.EncodingLemmas.{over-chars}
use Rattle.hp_names.proofs.names.Names.rules.Goals as goal

pub returns-clause-over_chars : goal.returns-clause-over_chars
returns-clause-over_chars c = λ chars.
    let P : List Reference → Type 0 = λ t. is_table t ≡ true in
    over-chars c.args.self.now chars (subst P c.self.view_is c.self.invariant)
