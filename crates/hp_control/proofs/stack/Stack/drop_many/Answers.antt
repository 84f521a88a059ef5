use Rattle.std.proofs.Common.{◌≡◌, ◌-◌, ◌≤◌, ℕ, List, length, take, drop, reverse, ap, sym, ◌∙◌, arith}
use Rattle.std.proofs.lemmas.List.{length-reverse}
use Rattle.hp_control.specs.Held.{held}
use Rattle.hp_control.proofs.Reversed.{drop_reverse}
use Rattle.hp_control.proofs.stack.Stack.drop_many.Goals as goal

dropped : {X : Type 0} (xs now new : List X) (len n : ℕ) → reverse xs ≡ now → len ≡ length now → n ≤ length now → new ≡ take (len - n) xs → reverse new ≡ drop n now
dropped xs now new len n v l h e =
    let m : len ≡ length xs = l ∙ (ap length (sym v) ∙ length-reverse xs) in
    let b : n ≤ length xs = omega (arith, h, l, m) in
    rw (e, m, ← v) (drop_reverse n xs b)

pub returns : goal.returns
returns g c =
    dropped c.in-Some.items.items c.args.self.now c.truncate.new.self.items c.len.result c.args.count
    (sym (ap (λ o. reverse (held o)) c.in-Some.is) ∙ c.self.view_is) c.len.ensures c.requires c.truncate.ensures.items
