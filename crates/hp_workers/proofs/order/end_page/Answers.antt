use Rattle.std.proofs.Common.{◌∙◌}
use Rattle.hp_text.specs.Page.{text_of as page_text}
use Rattle.hp_workers.proofs.Placing.{builds_page}
use Rattle.hp_workers.proofs.order.end_page.Goals as goal

pub returns-in-Ok : goal.returns-in-Ok
returns-in-Ok c =
    builds_page c.pages_at.ensures.end (page_text c.args.page) c.args.front.control c.args.front.tree c.in-Ok.end c.end.result c.requires (c.in-Ok.ensures ∙ c.control.ensures) c.edits-edits.ensures.end c.end.ensures
