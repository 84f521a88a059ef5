use Rattle.hp_elements.specs.declared.token.Token.TheVariants.{EndTag, Start}
use Rattle.hp_views.specs.View.{sight}
use Rattle.hp_acts.specs.declared.usual.UsualRow.TheVariants.{Begins, Closes, Ends, Opens}
use Rattle.hp_acts.proofs.UsualRuns.{carries_row}
use Rattle.hp_acts.proofs.usual.carry_usual.Goals as goal

pub returns-in-Start : goal.returns-in-Start
returns-in-Start g c =
    carries_row c.open.result (sight g.B.Below.heard c.args.view.now) (sight g.B.Below.heard c.open.new.view) c.args.row (Opens c.in-Opens.opening) c.args.token.now (Start c.in-Start.self_closing c.in-Start.tag) c.in-Opens.is c.in-Start.is c.open.ensures

pub returns-in-EndTag : goal.returns-in-EndTag
returns-in-EndTag g c =
    carries_row c.close.result (sight g.B.Below.heard c.args.view.now) (sight g.B.Below.heard c.close.new.view) c.args.row (Closes c.in-Closes.closing) c.args.token.now (EndTag c.in-EndTag.name) c.in-Closes.is c.in-EndTag.is c.close.ensures

pub returns-in-Start-token : goal.returns-in-Start-token
returns-in-Start-token g c =
    carries_row c.begin.result (sight g.B.Below.heard c.args.view.now) (sight g.B.Below.heard c.begin.new.view) c.args.row (Begins c.in-Begins.part) c.args.token.now (Start c.in-Start-token.self_closing c.in-Start-token.tag) c.in-Begins.is c.in-Start-token.is c.begin.ensures

pub returns-in-EndTag-token : goal.returns-in-EndTag-token
returns-in-EndTag-token g c =
    carries_row c.end.result (sight g.B.Below.heard c.args.view.now) (sight g.B.Below.heard c.end.new.view) c.args.row (Ends c.in-Ends.part) c.args.token.now (EndTag c.in-EndTag-token.name) c.in-Ends.is c.in-EndTag-token.is c.end.ensures
