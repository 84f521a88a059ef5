use Rattle.std.proofs.Common.{List, ℕ, ◌++◌, ap, ◌∙◌, sym, subst}
use Rattle.hp_tokens.specs.Texts.{spelled, IsStored}
use Rattle.hp_tokens.specs.declared.owned.Store.{Store}
use Rattle.hp_tokens.proofs.Texts.{behind-utf8, behind-chars}
use Rattle.hp_tokens.proofs.owned.OwnedText.push_str.Goals as goal

pub invariant_of-self-2 : goal.invariant_of-self-2
invariant_of-self-2 c =
    let P : Store → Type 0 = λ s. IsStored s in
    behind-utf8 _ (c.extend.ensures ∙ ap (λ (xs : List ℕ). c.in-Few.bytes ++ xs) c.as_bytes.ensures.value) (subst P c.in-Few.is c.self.invariant) c.utf8.more

pub returns-clause-ok : goal.returns-clause-ok
returns-clause-ok c =
    let P : Store → Type 0 = λ s. IsStored s in
    behind-chars _ (c.extend.ensures ∙ ap (λ (xs : List ℕ). c.in-Few.bytes ++ xs) c.as_bytes.ensures.value) (subst P c.in-Few.is c.self.invariant)
    (sym (ap spelled c.in-Few.is) ∙ c.self.view_is)
