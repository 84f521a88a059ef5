use Rattle.hp_fragment.proofs.told.told_state.Goals as goal

pub into_control-control-requires : goal.into_control-control-requires
into_control-control-requires c = record { valid = c.requires.valid }

pub returns-clause-state : goal.returns-clause-state
returns-clause-state c = c.into_control-control.ensures.state

pub returns-clause-edits : goal.returns-clause-edits
returns-clause-edits c = c.into_control-control.ensures.edits
