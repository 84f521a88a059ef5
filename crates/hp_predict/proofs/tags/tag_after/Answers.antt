use Rattle.std.proofs.Common.{◌≡◌, true, List, ap, sym, subst, rules, ◌∙◌}
use Rattle.std.specs.Prelude.{IfSome}
use Rattle.hp_predict.specs.Tags.{SeenTag, begins_with_slash, tags}
use Rattle.hp_predict.proofs.TagLemmas.{to_end}
use Rattle.hp_predict.proofs.NamedTags.{tags_past_slash}
use Rattle.hp_predict.proofs.tags.tag_after.Goals as goal

pub returns-in-47-clause-behind : goal.returns-in-47-clause-behind
returns-in-47-clause-behind c =
    let slash : begins_with_slash c.args.text.now ≡ true = search rules in
    subst (λ (ts : List SeenTag). IfSome c.named.result (λ opening. ts ≡ tags true opening.behind.now)) (ap (tags true) (to_end c.args.text.now 1) ∙ sym (tags_past_slash c.args.text.now slash)) c.named.ensures.behind
