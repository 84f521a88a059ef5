use Rattle.std.proofs.Common.{◌≡◌, ◌-◌, ◌<◌, ℕ, List, length, set, reverse, ap, sym, ◌∙◌, arith}
use Rattle.std.proofs.lemmas.List.{length-reverse}
use Rattle.hp_control.specs.Held.{held}
use Rattle.hp_control.proofs.Setting.{set_reverse}
use Rattle.hp_control.proofs.stack.Stack.replace.Goals as goal

put : {X : Type 0} (xs now : List X) (x item : X) (len d : ℕ) → reverse xs ≡ now → len ≡ length now → d < length now → x ≡ item → reverse (set xs (len - 1 - d) x) ≡ set now d item
put xs now x item len d v l h e =
    let m : len ≡ length xs = l ∙ (ap length (sym v) ∙ length-reverse xs) in
    let b : d < length xs = omega (arith, h, l, m) in
    rw (e, m, ← v) (set_reverse xs d item b)

pub returns-clause-items : goal.returns-clause-items
returns-clause-items g c =
    put c.in-Some.items.items c.args.self.now c.replace.new.dest c.args.item c.len.result c.args.depth
    (sym (ap (λ o. reverse (held o)) c.in-Some.is) ∙ c.self.view_is) c.len.ensures c.requires c.replace.ensures.after
