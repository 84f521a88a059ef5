use Rattle.std.proofs.Common.{ap, refl, ◌∙◌}
use Rattle.std.specs.Str.{chars}
use Rattle.hp_control.specs.Nothing.{nothing}
use Rattle.hp_control.specs.States.{ControlState}
use Rattle.hp_fragment.proofs.Ended.{ran-valid, replayed, run-splits, split-empty}
use Rattle.hp_fragment.specs.Known.{stage_of}
use Rattle.hp_fragment.specs.Making.{SplitBy}
use Rattle.hp_fragment.specs.declared.sink.Naming.TheVariants.{Ids}
use Rattle.hp_fragment.proofs.replaying.run_from.Goals as goal

pub behind-requires-clause-empty : goal.behind-requires-clause-empty
behind-requires-clause-empty c = split-empty c.in_ok-splitting.splitting c.in_ok-splitting.splitting.naming nothing c.in_ok-splitting.ensures.growing refl

pub told_state-requires : goal.told_state-requires
told_state-requires c = record {
  valid = ran-valid c.runs_stay_valid.ensures c.args.from.now (chars c.args.text.now) (SplitBy c.in_ok-splitting.splitting.naming) (stage_of c.in_ok-parsing.parsing) c.in_ok-parsing.ensures.ran c.requires;
  splits = run-splits (chars c.args.text.now) c.args.from.now c.in_ok-splitting.splitting.naming (stage_of c.in_ok-parsing.parsing) c.in_ok-parsing.ensures.ran;
}

pub returns : goal.returns
returns c =
    replayed (chars c.args.text.now) c.args.from.now c.told_state.result.0 c.in_ok-splitting.splitting.naming c.told_state.result.1 c.told_state.result.2 (stage_of c.in_ok-parsing.parsing)
    (c.in_ok-splitting.ensures.naming ∙ ap (λ (s : ControlState). Ids s.next) c.from.view_is) c.in_ok-parsing.ensures.ran c.told_state.ensures.state c.told_state.ensures.splitting c.told_state.ensures.edits
