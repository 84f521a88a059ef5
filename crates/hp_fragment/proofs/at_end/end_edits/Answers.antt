use Rattle.std.proofs.Common.{subst, sym}
use Rattle.hp_control.specs.States.{IsValid}
use Rattle.hp_fragment.proofs.Ended.{ending_is, kept-empty}
use Rattle.hp_fragment.specs.Known.{stage_of}
use Rattle.hp_fragment.proofs.at_end.end_edits.Goals as goal

pub before-requires-clause-empty : goal.before-requires-clause-empty
before-requires-clause-empty c = kept-empty

pub end_input-requires-clause-valid : goal.end_input-requires-clause-valid
end_input-requires-clause-valid c = subst IsValid (sym c.in_ok-parsing.ensures.state) c.requires.valid

pub returns-in-Ok : goal.returns-in-Ok
returns-in-Ok c =
    ending_is c.args.from.now c.told_edits.result (stage_of c.in_ok-parsing.parsing) (stage_of c.end_input.new.self) c.in_ok-parsing.ensures.state c.in_ok-parsing.ensures.edits
    c.in_ok-parsing.ensures.sink c.in-Ok.ensures c.told_edits.ensures
