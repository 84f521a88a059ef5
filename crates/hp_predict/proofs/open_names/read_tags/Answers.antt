use Rattle.std.proofs.Common.{List, ◌++◌, ap, sym, ◌∙◌}
use Rattle.std.proofs.lemmas.List.{append-nil}
use Rattle.hp_predict.specs.Tags.{SeenTag, counting}
use Rattle.hp_predict.specs.OpenNames.{Names, after, unmatched}
use Rattle.hp_predict.proofs.NamesLemmas.{after_none, unmatched_none}
use Rattle.hp_predict.proofs.open_names.read_tags.Goals as goal

pub returns-clause-names : goal.returns-clause-names
returns-clause-names c =
    let names = c.loop-tag.scan.names in
    sym (ap (λ (ts : List SeenTag). after (counting ts) names) c.in_default.ensures.tags ∙ after_none names) ∙ c.loop-tag.invariant.names

pub returns-clause-unmatched : goal.returns-clause-unmatched
returns-clause-unmatched c =
    let names = c.loop-tag.scan.names in
    let seen = c.loop-tag.scan.unmatched in
    sym (ap (λ (ts : List SeenTag). seen ++ unmatched (counting ts) names) c.in_default.ensures.tags ∙ (ap (λ (ms : Names). seen ++ ms) (unmatched_none names) ∙ append-nil seen))
    ∙ c.loop-tag.invariant.unmatched
