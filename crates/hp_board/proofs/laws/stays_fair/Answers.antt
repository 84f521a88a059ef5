use Rattle.hp_board.proofs.Fairness.{fair-kept, fair-posted, fair-repaired, fair-rolled}
use Rattle.hp_board.proofs.laws.stays_fair.Goals as goal

pub returns-clause-posts : goal.returns-clause-posts
returns-clause-posts c desk chunk worker posted kept told = fair-posted c.last_bytes_tell.ensures c.answers_are_right.ensures.truth c.readings_alike.ensures.singly c.states_wait.ensures.resting desk chunk worker posted kept told

pub returns-clause-keeps : goal.returns-clause-keeps
returns-clause-keeps c desk posted worker front all =
    fair-kept c.last_bytes_tell.ensures c.firsts.ensures.once c.pages_at.ensures.once c.pages_at.ensures.valid c.pages_at.ensures.fits c.pages_at.ensures.start c.states_wait.ensures.runs desk posted front.kept front.within front.here front.told worker all

pub returns-clause-repairs : goal.returns-clause-repairs
returns-clause-repairs c desk posted worker place front less is =
    fair-repaired c.last_bytes_tell.ensures c.firsts.ensures.once c.pages_at.ensures.once c.pages_at.ensures.valid c.pages_at.ensures.fits c.pages_at.ensures.start c.states_wait.ensures.runs desk posted front.kept front.within front.here front.told worker place less is

pub returns-clause-rollbacks : goal.returns-clause-rollbacks
returns-clause-rollbacks c desk posted worker question answer kind front wrong =
    fair-rolled c.last_bytes_tell.ensures c.firsts.ensures.once c.pages_at.ensures.once c.pages_at.ensures.valid c.pages_at.ensures.fits c.pages_at.ensures.start c.states_wait.ensures.runs desk posted front.kept front.within front.here front.told worker question answer kind wrong
