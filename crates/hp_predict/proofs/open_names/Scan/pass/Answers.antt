use Rattle.hp_predict.specs.Found.{closing, found_tag}
use Rattle.hp_predict.proofs.PassedTags.{one_names, one_unmatched, two_names, two_unmatched}
use Rattle.hp_predict.proofs.open_names.Scan.pass.Goals as goal

pub returns-in-Some-clause-names : goal.returns-in-Some-clause-names
returns-in-Some-clause-names c =
    two_names (found_tag c.args.tag) (closing (found_tag c.args.tag)) c.from_less_than-rest.result.now c.args.tag.rest.now c.in-Some.behind.now c.from_less_than-rest.ensures.tags c.in-Some.ensures.tags c.in-Some.ensures.pair c.args.self.now.names

pub returns-in-Some-clause-unmatched : goal.returns-in-Some-clause-unmatched
returns-in-Some-clause-unmatched c =
    two_unmatched (found_tag c.args.tag) (closing (found_tag c.args.tag)) c.from_less_than-rest.result.now c.args.tag.rest.now c.in-Some.behind.now c.from_less_than-rest.ensures.tags c.in-Some.ensures.tags c.in-Some.ensures.pair c.args.self.now.names c.args.self.now.unmatched

pub returns-in_ok-take-in-None-clause-names : goal.returns-in_ok-take-in-None-clause-names
returns-in_ok-take-in-None-clause-names c =
    one_names (found_tag c.args.tag) c.from_less_than-rest.result.now c.args.tag.rest.now c.from_less_than-rest.ensures.tags c.read.result c.read.ensures c.args.self.now.names c.take.new.self.names c.in_ok-take-in-None.ensures.names

pub returns-in_ok-take-in-None-clause-unmatched : goal.returns-in_ok-take-in-None-clause-unmatched
returns-in_ok-take-in-None-clause-unmatched c =
    one_unmatched (found_tag c.args.tag) c.from_less_than-rest.result.now c.args.tag.rest.now c.from_less_than-rest.ensures.tags c.read.result c.read.ensures c.args.self.now.names c.take.new.self.names c.args.self.now.unmatched c.take.new.self.unmatched c.in_ok-take-in-None.ensures.names c.in_ok-take-in-None.ensures.unmatched
