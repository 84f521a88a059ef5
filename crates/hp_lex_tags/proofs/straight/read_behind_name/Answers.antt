use Rattle.std.proofs.Common.{◌∙◌, ap, Some}
use Rattle.hp_tokens.specs.declared.state.State.TheVariants.{TagName, Data}
use Rattle.hp_tokens.specs.declared.machine.Machine.{Machine}
use Rattle.hp_tokens.specs.States.{enter}
use Rattle.hp_lex_tags.specs.declared.straight.Way.TheVariants as way
use Rattle.hp_lex_tags.proofs.StraightParts.{grows_as}
use Rattle.hp_lex_tags.proofs.StraightTags.{rests_there}
use Rattle.hp_lex_tags.proofs.straight.read_behind_name.Goals as goal

pub returns-in-Whole-clause-read : goal.returns-in-Whole-clause-read
returns-in-Whole-clause-read c =
    grows_as c.args.names.now TagName c.args.attributes.now c.read_rest.new.attributes c.args.input.now c.read_rest.new.input c.in_ok-way.way (way.Whole c.in-Whole.self_closing) c.in-Whole.is c.in_ok-way.ensures

pub returns-in-Whole-clause-behind : goal.returns-in-Whole-clause-behind
returns-in-Whole-clause-behind c =
    rests_there c.args.machine.now c.enter.new.self (Some c.args.name.now) c.requires.clear (c.enter.ensures ∙ ap (λ (m : Machine). enter Data m) c.in_ok-tell_last.ensures)
