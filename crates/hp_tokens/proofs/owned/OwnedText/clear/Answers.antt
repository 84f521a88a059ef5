use Rattle.std.proofs.Common.{ap, ◌∙◌}
use Rattle.std.specs.Str.{chars}
use Rattle.std.proofs.lemmas.Str.{chars-nil}
use Rattle.hp_tokens.proofs.owned.OwnedText.clear.Goals as goal
use Rattle.hp_tokens.proofs.owned.OwnedText.clear.Goals.{in-Long-1, in-Few-1}

pub returns-in-Few : goal.returns-in-Few
returns-in-Few c = ap chars c.clear.ensures ∙ chars-nil

pub returns-in-Long : goal.returns-in-Long
returns-in-Long c = ap chars c.clear-in-Long.ensures.bytes ∙ chars-nil

pub returns-in-Named : goal.returns-in-Named
returns-in-Named c = elim c.match-self-2.branch [
  | in-Long-1 w ↦ rw w.self-is (ap chars c.new.ensures ∙ chars-nil)
  | in-Few-1 w ↦ rw w.self-is (ap chars c.new.ensures ∙ chars-nil)
]
