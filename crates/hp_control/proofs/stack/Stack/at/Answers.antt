use Rattle.std.proofs.Common.{◌-◌, ◌<◌, ◌≡◌, length, get_or, ap, sym, ◌∙◌, arith}
use Rattle.std.proofs.lemmas.List.{length-reverse, get_or-reverse}
use Rattle.hp_control.specs.Held.{held}
use Rattle.hp_control.proofs.stack.Stack.at.Goals as goal

pub returns : goal.returns
returns g c =
    let xs = held c.self.inside.items in
    let x = c.index-items-items.result in
    let e : length c.args.self.now ≡ length xs = sym (ap length c.self.view_is) ∙ length-reverse xs in
    let h : c.args.depth < length xs = omega (arith, c.requires) in
    c.index-items-items.is
    ∙ (ap (λ l. get_or l (length l - 1 - c.args.depth) x) c.as_slice-items.ensures
    ∙ (sym (get_or-reverse xs c.args.depth x h) ∙ ap (λ l. get_or l c.args.depth x) c.self.view_is))

pub overflow_sub-result : goal.overflow_sub-result
overflow_sub-result g c =
    let n : length c.as_slice-items.result.now ≡ length c.args.self.now = ap length c.as_slice-items.ensures ∙ (sym (length-reverse (held c.self.inside.items)) ∙ ap length c.self.view_is) in
    omega (arith, c.requires)

pub overflow_sub-result-2 : goal.overflow_sub-result-2
overflow_sub-result-2 g c =
    let n : length c.as_slice-items.result.now ≡ length c.args.self.now = ap length c.as_slice-items.ensures ∙ (sym (length-reverse (held c.self.inside.items)) ∙ ap length c.self.view_is) in
    omega (arith, c.requires)

pub offset_bounds-items-items : goal.offset_bounds-items-items
offset_bounds-items-items g c =
    let n : length c.as_slice-items.result.now ≡ length c.args.self.now = ap length c.as_slice-items.ensures ∙ (sym (length-reverse (held c.self.inside.items)) ∙ ap length c.self.view_is) in
    omega (arith, c.requires)

pub bounds-items-items : goal.bounds-items-items
bounds-items-items g c =
    let n : length c.as_slice-items.result.now ≡ length c.args.self.now = ap length c.as_slice-items.ensures ∙ (sym (length-reverse (held c.self.inside.items)) ∙ ap length c.self.view_is) in
    omega (arith, c.requires)
