use Rattle.std.proofs.Common.{◌≡◌, ◌+◌, ◌-◌, ◌≤◌, ◌++◌, ℕ, List, length, take, drop, reverse, ap, ap₂, sym, ◌∙◌, arith}
use Rattle.std.proofs.lemmas.List.{length-reverse, reverse-append}
use Rattle.hp_control.specs.Held.{held}
use Rattle.hp_control.proofs.Reversed.{drop_reverse, take_reverse}
use Rattle.hp_control.proofs.stack.Stack.take_out_many.Goals as goal

-- items that were taken out below the top ones
taken : {X : Type 0} (xs now new : List X) (len d n : ℕ) → reverse xs ≡ now → len ≡ length now → d + n ≤ length now
    → new ≡ take (len - n - d) xs ++ drop (len - n - d + n) xs → reverse new ≡ take d now ++ drop (d + n) now
taken xs now new len d n v l h e =
    let m : len ≡ length xs = l ∙ (ap length (sym v) ∙ length-reverse xs) in
    let b : d + n ≤ length xs = omega (arith, h, l, m) in
    let first : len - n - d ≡ length xs - (d + n) = omega (arith, m) in
    let second : len - n - d + n ≡ length xs - d = omega (arith, m, b) in
    rw (e, second) (reverse-append (take (len - n - d) xs) (drop (length xs - d) xs)
    ∙ (ap₂ (λ a c. a ++ c) (take_reverse d xs (omega (arith, b))) (ap (λ k. reverse (take k xs)) first ∙ drop_reverse (d + n) xs b)
    ∙ ap (λ r. take d r ++ drop (d + n) r) v))

pub returns : goal.returns
returns g c =
    taken c.in-Some.items.items c.args.self.now c.cut_out.new.items.items c.len.result c.args.depth c.args.count
    (sym (ap (λ o. reverse (held o)) c.in-Some.is) ∙ c.self.view_is) c.len.ensures c.requires c.cut_out.ensures
