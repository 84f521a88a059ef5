use Rattle.std.proofs.Common.{◌+◌, sym, subst, ◌∙◌}
use Rattle.std.specs.Str.{IsUtf8}
use Rattle.hp_text.specs.Page.{text_of as page_text}
use Rattle.hp_pieces.specs.Texts.{covered_of}
use Rattle.hp_merge.specs.Fore.{Fore}
use Rattle.hp_workers.specs.Joining.{StandsAt}
use Rattle.hp_workers.proofs.joining.commit.Goals as goal

pub join_by-requires-clause-fits : goal.join_by-requires-clause-fits
join_by-requires-clause-fits c =
    c.pages_at.ensures.fits (page_text c.args.chunk.now.page) c.args.chunk.now.from c.args.front.now.control c.args.front.now.tree c.requires.at c.requires.limit

pub returns-in-Ok-clause-at : goal.returns-in-Ok-clause-at
returns-in-Ok-clause-at c =
    let text = page_text c.args.chunk.now.page in
    let fits = c.pages_at.ensures.fits text c.args.chunk.now.from c.args.front.now.control c.args.front.now.tree c.requires.at c.requires.limit in
    let at = c.fronts_go_on.ensures.on text c.args.chunk.now.from c.args.chunk.now.to c.args.front.now c.args.fragment c.requires.at fits
    (subst IsUtf8 c.text-page.ensures.value c.text-page.ensures.utf8) c.args.chunk.now.starts_at_code_point c.args.chunk.now.in_order c.is_sound.ensures c.requires.holds c.requires.text in
    subst (λ (front : Fore). StandsAt text (c.args.chunk.now.from + covered_of c.args.fragment) front) (sym (c.take_spent.ensures ∙ c.in-Ok.ensures.ok)) at
