use Rattle.std.proofs.Common.{◌≡◌, ◌+◌, ◌-◌, ◌<◌, ◌++◌, ℕ, List, length, take, drop, reverse, ap, sym, ◌∙◌, arith}
use Rattle.std.specs.List.{remove}
use Rattle.std.proofs.lemmas.List.{length-reverse}
use Rattle.hp_control.specs.Held.{held}
use Rattle.hp_control.proofs.Reversed.{remove_reverse}
use Rattle.hp_control.proofs.stack.Stack.take_out.Goals as goal

taken : {X : Type 0} (xs now new : List X) (len d : ℕ) → reverse xs ≡ now → len ≡ length now → d < length now → new ≡ remove xs (len - 1 - d) → reverse new ≡ take d now ++ drop (d + 1) now
taken xs now new len d v l h e =
    let m : len ≡ length xs = l ∙ (ap length (sym v) ∙ length-reverse xs) in
    let b : d < length xs = omega (arith, h, l, m) in
    rw (e, m, ← v) (remove_reverse d xs b)

pub returns : goal.returns
returns g c =
    taken c.in-Some.items.items c.args.self.now c.remove.new.self.items c.len.result c.args.depth
    (sym (ap (λ o. reverse (held o)) c.in-Some.is) ∙ c.self.view_is) c.len.ensures c.requires c.remove.ensures.items
