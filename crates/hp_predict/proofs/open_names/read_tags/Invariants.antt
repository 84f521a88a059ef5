use Rattle.std.proofs.Common.{◌≡◌, [], ◌++◌, length}
use Rattle.hp_predict.specs.Tags.{counted_tags}
use Rattle.hp_predict.specs.OpenNames.{after, unmatched}
use Rattle.hp_predict.proofs.open_names.read_tags.Given as goal

abbrev pub invariant-loop-tag : goal.invariant-loop-tag
invariant-loop-tag l = record {
  names : after (counted_tags l.rest) l.scan.names ≡ after (counted_tags l.text) [];
  unmatched : l.scan.unmatched ++ unmatched (counted_tags l.rest) l.scan.names ≡ unmatched (counted_tags l.text) [];
}

abbrev pub decreases-loop-tag : goal.decreases-loop-tag
decreases-loop-tag l = length l.rest
