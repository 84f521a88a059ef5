use Rattle.std.proofs.Common.{◌∙◌, ap, sym, subst}
use Rattle.hp_tokens.specs.Texts.{spelled, IsStored}
use Rattle.hp_tokens.specs.declared.owned.Store.{Store}
use Rattle.hp_tokens.proofs.Texts.{behind-utf8, behind-chars, maybe-utf8, pushed}
use Rattle.hp_tokens.proofs.owned.OwnedText.push_longer.Goals as goal

pub invariant_of-self : goal.invariant_of-self
invariant_of-self c =
    let P : Store → Type 0 = λ s. IsStored s in
    maybe-utf8 _ _ _ _ c.push_str.ensures.bytes (subst P c.in-Long.is c.self.invariant) c.utf8.more

pub returns-in-Long-clause-ok : goal.returns-in-Long-clause-ok
returns-in-Long-clause-ok c =
    let P : Store → Type 0 = λ s. IsStored s in
    pushed c.push_str.result _ _ _ _ c.push_str.ensures.bytes (subst P c.in-Long.is c.self.invariant) (sym (ap spelled c.in-Long.is) ∙ c.self.view_is)

pub invariant_of-self-3 : goal.invariant_of-self-3
invariant_of-self-3 c = behind-utf8 _ c.in_ok-text.ensures c.as_str.utf8 c.utf8.more

pub returns : goal.returns
returns c = record {
  ok = behind-chars _ c.in_ok-text.ensures c.as_str.utf8 (c.as_str.ensures ∙ c.self.view_is);
  err = tt;
}
