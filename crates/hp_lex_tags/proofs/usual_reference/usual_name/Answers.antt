use Rattle.std.proofs.Common.{sym, ◌∙◌, length-take-le}
use Rattle.hp_lex_tags.proofs.NamedSteps.{longest-within}
use Rattle.hp_lex_tags.proofs.Semicolons.{semicolon-closed}
use Rattle.hp_lex_tags.proofs.UsualReference.{usual-is, no-second, unequal}
use Rattle.hp_lex_tags.proofs.usual_reference.usual_name.Goals as goal

pub slice_bounds-name-end : goal.slice_bounds-name-end
slice_bounds-name-end c =
    sym (length-take-le c.in_ok-found.found.length c.args.text.now
    (longest-within c.args.names.now c.args.text.now c.in_ok-found.found (sym c.longest.ensures.exact ∙ c.in_ok-found.was)))

pub returns : goal.returns
returns c =
    usual-is c.args.names.now c.rules.ensures.over_chars c.args.text.now c.requires.utf8 c.in_ok-found.found c.in_ok-first.field-0.now (sym c.in_ok-first.ensures.value)
    (sym c.is_ascii_alphanumeric.ensures.value ∙ c.if-not-is_ascii_alphanumeric.false) (semicolon-closed c.args.names.now c.args.text.now c.in_ok-found.found c.rules.ensures.lawful (sym c.longest.ensures.exact ∙ c.in_ok-found.was) c.if-not-found.false)
    (sym c.longest.ensures.exact ∙ c.in_ok-found.was) (no-second c.in_ok-found.found.second c.if-is_some.ensures) c.if-not-found.false
    (unequal c.in_ok-found.found.first c.if-found-eq0.false)
    (longest-within c.args.names.now c.args.text.now c.in_ok-found.found (sym c.longest.ensures.exact ∙ c.in_ok-found.was)) c.if-not-is_ascii.ensures.cases
