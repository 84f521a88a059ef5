use Rattle.std.proofs.Common.{◌≡◌, ◌-◌, ℕ, false, List, ◌∷◌, length, take, drop, get_or, sym, ap, rules, ◌∙◌}
use Rattle.hp_predict.specs.Found.{closing, found_tag}
use Rattle.hp_predict.specs.Tags.{tags}
use Rattle.hp_predict.proofs.TagLemmas.{to_end}
use Rattle.hp_predict.proofs.NamedTags.{closes}
use Rattle.hp_predict.proofs.open_names.behind_closing.Goals as goal

pub returns-in-Some-eq62-clause-tags : goal.returns-in-Some-eq62-clause-tags
returns-in-Some-eq62-clause-tags c =
    let found = c.in-Some-eq62.field-0.now in
    let text = c.args.text.now in
    let less : get_or c.args.text.now 0 0 ≡ 60 = search rules in
    let slash : get_or c.args.text.now 1 0 ≡ 47 = search rules in
    let greater : get_or c.in-Some-eq62.field-0.now 0 0 ≡ 62 = search rules in
    closes c.args.start.name.now text (take (length text - 2) (drop 2 text)) found c.args.start.is_name c.in-60.len_at_least less slash (to_end text 2) c.in-Some-eq62.ensures.cases.0 c.in-Some-eq62.ensures.cases.1 c.in-Some-eq62.len_at_least greater
    ∙ ap (λ (ts : List ℕ). closing (found_tag c.args.start) ∷ tags false ts) (sym (to_end found 1))
