use Rattle.std.proofs.Common.{◌≡◌, List, get_or, sym, ap, ◌∙◌, subst}
use Rattle.hp_elements.specs.Lists.{chained}
use Rattle.hp_elements.proofs.chain.Chain.replace_first.Goals as goal

taken : {X : Type 0} (it first : X) (cells now : List X) → it ≡ first → first ≡ get_or cells 0 first → cells ≡ now → it ≡ get_or now 0 it
taken {X} it first cells now p q e = subst (λ (x : X). x ≡ get_or now 0 x) (sym p) (q ∙ ap (λ (xs : List X). get_or xs 0 first) e)

pub returns-clause-value : goal.returns-clause-value
returns-clause-value g c =
    taken c.replace.result c.unwrap.result.now c.in-Some.cells c.args.self.now c.replace.ensures.value
    (rw c.unwrap.ensures at c.front_mut.ensures.value)
    (sym (ap chained c.in-Some.is) ∙ c.self.view_is)

pub returns-clause-items : goal.returns-clause-items
returns-clause-items g c =
    let held : c.in-Some.cells ≡ c.args.self.now = sym (ap chained c.in-Some.is) ∙ c.self.view_is in
    cc (held, c.replace.ensures.after)
