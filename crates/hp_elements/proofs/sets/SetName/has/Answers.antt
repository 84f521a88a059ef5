use Rattle.std.proofs.Common.{◌≡◌, List, ℕ, true, false, rules, ap, sym, ◌∙◌}
use Rattle.hp_elements.specs.Sets.{in_set, turned}
use Rattle.hp_elements.proofs.NameLemmas.{found_text}
use Rattle.hp_elements.proofs.SetLemmas.{other_in}
use Rattle.hp_elements.proofs.sets.SetName.has.Goals as goal

pub returns-in-Some : goal.returns-in-Some
returns-in-Some c = c.is_in.ensures ∙ ap (λ (xs : List ℕ). in_set c.args.self c.args.namespace xs) (found_text c.args.name.now c.in-Some.known (sym c.in-Some.ensures))

pub returns-in-SelectScopeEnds : goal.returns-in-SelectScopeEnds
returns-in-SelectScopeEnds c =
    let here : true ≡ turned c.args.self false = search rules in
    here ∙ sym (other_in c.args.self c.args.namespace c.args.name.now (sym c.in-None.ensures))

pub returns-in_default : goal.returns-in_default
returns-in_default c =
    let here : false ≡ turned c.args.self false = search rules in
    here ∙ sym (other_in c.args.self c.args.namespace c.args.name.now (sym c.in-None.ensures))
