use Rattle.std.proofs.Common.{Option, ap, ◌∙◌, sym}
use Rattle.hp_names.specs.Longest as spec
use Rattle.hp_names.specs.declared.names.Found.{Found}
use Rattle.hp_names.proofs.LawLemmas.{OnFalse-from}
use Rattle.hp_names.proofs.OpenLemmas.{open-from_grow, whole-open, stays-closed}
use Rattle.hp_names.proofs.names.Names.is_open.Goals as goal

pub returns-then-might_grow-clause-exact : goal.returns-then-might_grow-clause-exact
returns-then-might_grow-clause-exact c =
    c.if-might_grow.true ∙ sym (open-from_grow c.args.self.now c.args.text.now (sym c.might_grow.ensures.exact ∙ c.if-might_grow.true))

pub returns-else-might_grow-clause-exact : goal.returns-else-might_grow-clause-exact
returns-else-might_grow-clause-exact c =
    c.is_whole_unclosed.ensures ∙ ap (λ (o : Option Found). spec.is_whole_unclosed o c.args.text.now) c.longest.ensures.exact
    ∙ whole-open c.args.self.now c.args.text.now (sym c.might_grow.ensures.exact ∙ c.if-might_grow.false)

pub returns-else-might_grow-clause-closed : goal.returns-else-might_grow-clause-closed
returns-else-might_grow-clause-closed c =
    OnFalse-from c.is_whole_unclosed.result _ (λ e. stays-closed c.args.self.now c.args.text.now
    (sym (whole-open c.args.self.now c.args.text.now (sym c.might_grow.ensures.exact ∙ c.if-might_grow.false)) ∙ sym (ap (λ (o : Option Found). spec.is_whole_unclosed o c.args.text.now) c.longest.ensures.exact) ∙ sym c.is_whole_unclosed.ensures ∙ e))
