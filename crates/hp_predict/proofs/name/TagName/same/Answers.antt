use Rattle.std.proofs.Common.{ℕ, List, ap, sym, subst, ◌∙◌}
use Rattle.std.specs.Str.{bytes_eq}
use Rattle.hp_elements.specs.Names.{text_of, lowered}
use Rattle.hp_control.proofs.TextTests.{text_test}
use Rattle.hp_predict.specs.Spelling.{spelled, IsSpelled}
use Rattle.hp_predict.proofs.NameLemmas.{not_known, turned_test}
use Rattle.hp_predict.proofs.name.TagName.same.Goals as goal

pub returns-in-Named : goal.returns-in-Named
returns-in-Named c = c.is.ensures ∙ (turned_test c.args.other.now (text_of c.in-Named.own) ∙ ap (λ (xs : List ℕ). bytes_eq xs c.args.other.now) (sym (ap spelled c.in-Named.is) ∙ c.self.view_is))

pub returns-in-Named-spelling : goal.returns-in-Named-spelling
returns-in-Named-spelling c =
    let text = lowered c.in-Other.text.now in
    let held = subst IsSpelled c.in-Other.is c.self.invariant in
    sym (ap (bytes_eq text) (sym c.other.view_is ∙ ap spelled c.in-Named-spelling.is) ∙ not_known c.in-Named-spelling.field-0 text held.0)
    ∙ ap (λ (xs : List ℕ). bytes_eq xs c.args.other.now) (sym (ap spelled c.in-Other.is) ∙ c.self.view_is)

pub returns-in-Other-spelling : goal.returns-in-Other-spelling
returns-in-Other-spelling c =
    let text = lowered c.in-Other.text.now in
    text_test c.eq_ignore_ascii_case.result text (lowered c.in-Other-spelling.own.now) c.eq_ignore_ascii_case.ensures.test
    ∙ (ap (bytes_eq text) (sym (ap spelled c.in-Other-spelling.is) ∙ c.other.view_is)
    ∙ ap (λ (xs : List ℕ). bytes_eq xs c.args.other.now) (sym (ap spelled c.in-Other.is) ∙ c.self.view_is))
