use Rattle.std.proofs.Common.{◌≡◌, true, subst, sym, rules}
use Rattle.std.specs.Str.{IsAscii}
use Rattle.hp_predict.specs.Tags.{begins_with_letter}
use Rattle.hp_predict.proofs.TagLemmas.{name_ascii}
use Rattle.hp_predict.proofs.NamedTags.{end_past_name, read_name, tags_past_name}
use Rattle.hp_predict.proofs.tags.named.Goals as goal

pub returns-in-len1-up-clause-ascii : goal.returns-in-len1-up-clause-ascii
returns-in-len1-up-clause-ascii c = subst IsAscii (sym c.split_at.ensures.front) (name_ascii c.args.text.now c.name_length.result c.name_length.ensures.len)

pub returns-in-len1-up-clause-end : goal.returns-in-len1-up-clause-end
returns-in-len1-up-clause-end c = end_past_name c.args.text.now c.split_at.result.1.now c.name_length.result c.name_length.ensures.len c.split_at.ensures.back

pub returns-in-len1-up-clause-behind : goal.returns-in-len1-up-clause-behind
returns-in-len1-up-clause-behind c = tags_past_name c.args.text.now c.split_at.result.1.now c.name_length.result c.name_length.ensures.len c.split_at.ensures.back

pub invariant_of-result : goal.invariant_of-result
invariant_of-result c =
    let letter : begins_with_letter c.args.text.now ≡ true = search rules in
    record { is_name = read_name c.args.text.now c.split_at.result.0.now c.name_length.result letter c.name_length.ensures.len c.split_at.ensures.front }
