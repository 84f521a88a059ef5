use Rattle.hp_cut.proofs.cutters.cuts_at_tags.Goals as goal

pub returns-clause-places : goal.returns-clause-places
returns-clause-places c = c.cuts_by.ensures.places

pub returns-clause-of_page : goal.returns-clause-of_page
returns-clause-of_page c = c.cuts_by.ensures.of_page
