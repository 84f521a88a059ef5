use Rattle.std.proofs.Common.{ℕ, List, [], ◌∷◌, ◌++◌, sym, ap, ◌∙◌, map-id}
use Rattle.std.proofs.lemmas.List.{map-append}
use Rattle.std.proofs.lemmas.Iterator.{YieldsList-from_chars}
use Rattle.std.proofs.lemmas.Iterator.Consumers.{YieldsList-end}
use Rattle.hp_control.specs.Foreign.{replaced}
use Rattle.hp_foreign.proofs.ends.replaced.Goals as goal

pub returns : goal.returns
returns c =
    let end = YieldsList-end (YieldsList-from_chars c.as_str.result.now c.as_str.utf8 cc) c.loop-c.yielded _ c.loop-c.yielded_by _ _ c.in-None.is c.next.ensures.steps in
    c.loop-c.invariant ∙ ap replaced (sym (map-id c.loop-c.yielded) ∙ (end.0 ∙ c.as_str.ensures))

pub loop-c-preserved : goal.loop-c-preserved
loop-c-preserved c = c.in_ok-push.ensures.ok ∙ (ap (λ (made : List ℕ). made ++ 0xFFFD ∷ []) c.loop-c.invariant ∙ sym (map-append (λ (x : ℕ). 0xFFFD) c.loop-c.yielded (c.in-Some._c ∷ [])))
