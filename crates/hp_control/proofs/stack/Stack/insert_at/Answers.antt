use Rattle.std.proofs.Common.{◌≡◌, [], ◌∷◌, ◌-◌, ◌≤◌, ℕ, List, length, reverse, ap, sym, ◌∙◌, arith}
use Rattle.std.specs.List.{insert}
use Rattle.std.proofs.lemmas.List.{length-reverse}
use Rattle.hp_control.specs.Adoption.{spliced}
use Rattle.hp_control.specs.Held.{held}
use Rattle.hp_control.proofs.Reversed.{insert_reverse}
use Rattle.hp_control.proofs.stack.Stack.insert_at.Goals as goal

inserted : {X : Type 0} (xs now new : List X) (len d : ℕ) (x : X) → reverse xs ≡ now → len ≡ length now → d ≤ length now → new ≡ insert xs (len - d) x → reverse new ≡ spliced d 0 (x ∷ []) now
inserted xs now new len d x v l h e =
    let m : len ≡ length xs = l ∙ (ap length (sym v) ∙ length-reverse xs) in
    let b : d ≤ length xs = omega (arith, h, l, m) in
    rw (e, m, ← v) (insert_reverse d xs x b)

pub returns-clause-ok : goal.returns-clause-ok
returns-clause-ok g c =
    inserted c.in-Some.items.items c.args.self.now c.insert.new.self.items c.len.result c.args.depth c.args.item
    (sym (ap (λ o. reverse (held o)) c.in-Some.is) ∙ (ap reverse c.begin.ensures.same ∙ c.self.view_is)) c.len.ensures c.requires c.in_ok-insert-in-Some.ensures.items
