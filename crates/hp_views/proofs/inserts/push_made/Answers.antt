use Rattle.std.proofs.Common.{◌≡◌, sym, ◌∙◌}
use Rattle.hp_elements.proofs.NameLemmas.{found_text}
use Rattle.hp_views.proofs.Made.{html_pushed}
use Rattle.hp_views.proofs.inserts.push_made.Goals as goal

pub returns : goal.returns
returns c =
    let tag = c.args.tag.now in
    let name : c.of_known.result ≡ tag.name = c.of_known.ensures ∙ found_text tag.name c.in-Some.known (sym c.known.ensures ∙ c.in-Some.is) in
    html_pushed c.push.result c.args.id c.of_known.result tag c.args.stack.now c.push.new.self c.in-Html.is name c.push.ensures.ok
