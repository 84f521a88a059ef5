use Rattle.std.proofs.Common.{◌≡◌, ◌≤◌, sym, ◌∙◌, ap, Some, take, drop, length, arith}
use Rattle.std.proofs.lemmas.Grind.{common_steps}
use Rattle.hp_text.specs.Memory.{SourceState}
use Rattle.hp_text.proofs.SourceLemmas.{gave_front}
use Rattle.hp_text.proofs.memory.MemorySourceSource.read.Goals as goal

pub returns-clause-given : goal.returns-clause-given
returns-clause-given c =
    let n = c.min-given.result in
    let rest = drop c.self.inside.at c.self.inside.bytes.items in
    let left : c.args.self.now.left ≡ rest = ap (λ (s : SourceState). s.left) (sym c.self.view_is) in
    let within : n ≤ length rest = grind (arith, common_steps) in
    let copied : c.copy_from_slice.new.self ≡ take n rest = grind (arith, common_steps) in
    ap Some (left ∙ gave_front c.self.inside.bytes.items c.copy_from_slice.new.self (drop n c.args.room.now) c.self.inside.at n within copied)
