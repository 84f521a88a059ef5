use Rattle.hp_text.proofs.streams.StreamSourceSource.read.Goals as goal

pub returns-in-Ok-clause-end : goal.returns-in-Ok-clause-end
returns-in-Ok-clause-end g c = c.in-Ok.ensures.bytes.1
