use Rattle.std.proofs.lemmas.Result.{err_from_is_err_and}
use Rattle.hp_text.specs.declared.reading.TheConstants.{PAGE_LIMIT}
use Rattle.hp_text.proofs.KnownLemmas.{gives_one_too_many, gives_none_too_many, gives_at_least}
use Rattle.hp_text.proofs.reading.read_page.Goals as goal

pub returns-in_err-read_more-clause-too_large : goal.returns-in_err-read_more-clause-too_large
returns-in_err-read_more-clause-too_large g c =
    let p = err_from_is_err_and c.from_residual-in_err-read_more.result c.from_residual-in_err-read_more.ensures.1 in
    rw (p.1, p.2) (λ told. gives_at_least PAGE_LIMIT _ _
    (gives_one_too_many PAGE_LIMIT _ _ _ _ _ c.loop-page.page.ok.0 c.loop-page.invariant.given (c.in_err-read_more.ensures.too_large told)))

pub returns-in_err-read_more-clause-too_large_gives : goal.returns-in_err-read_more-clause-too_large_gives
returns-in_err-read_more-clause-too_large_gives g c =
    let p = err_from_is_err_and c.from_residual-in_err-read_more.result c.from_residual-in_err-read_more.ensures.1 in
    rw (p.1, p.2) (λ told.
    gives_one_too_many PAGE_LIMIT _ _ _ _ _ c.loop-page.page.ok.0 c.loop-page.invariant.given (c.in_err-read_more.ensures.too_large told))

pub returns-in_err-read_more-clause-part : goal.returns-in_err-read_more-clause-part
returns-in_err-read_more-clause-part g c =
    let p = err_from_is_err_and c.from_residual-in_err-read_more.result c.from_residual-in_err-read_more.ensures.1 in
    rw (p.1, p.2) (λ told.
    gives_none_too_many PAGE_LIMIT _ _ _ _ _ c.loop-page.page.ok.0 c.loop-page.invariant.given (c.in_err-read_more.ensures.part told))
