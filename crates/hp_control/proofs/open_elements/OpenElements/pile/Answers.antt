use Rattle.std.proofs.Common.{◌++◌, [], ◌∷◌, length, ap, sym, ◌∙◌, arith, length-append}
use Rattle.hp_control.proofs.Setting.{moved_back}
use Rattle.hp_control.proofs.open_elements.OpenElements.pile.Goals as goal

pub loop-item-smaller : goal.loop-item-smaller
loop-item-smaller c = omega (arith, ap length c.in-Some.ensures, length-append c.pop.new.self (c.in-Some.item ∷ []))

pub loop-item-preserved : goal.loop-item-preserved
loop-item-preserved c = rw c.in_ok-push.ensures.ok (moved_back c.loop-item.rest c.pop.new.self c.loop-item.self (c.args.items ++ c.args.self.now) c.in-Some.item c.loop-item.invariant c.in-Some.ensures)

pub returns : goal.returns
returns c = ap (λ l. l ++ c.loop-item.self) (sym c.in_default.ensures.0) ∙ c.loop-item.invariant
