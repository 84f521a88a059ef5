use Rattle.std.proofs.Common.{◌++◌, [], ◌∷◌, ap, ◌∙◌}
use Rattle.hp_store.proofs.Hanging.{IsFinished-taken}
use Rattle.hp_store.proofs.appending.finish.Goals as goal

pub returns-clause-finished : goal.returns-clause-finished
returns-clause-finished c =
    let ps = c.args.parts.now.items in
    let last = c.args.last.now in
    let done = c.in_ok-done.done in
    IsFinished-taken ps c.push_reserved.new.self.items last done c.take_items.new.self
    (c.push_reserved.ensures.items ∙ ap (λ xs. xs ++ done ∷ []) c.in_ok-reserve.ensures.items)
    c.requires.laid c.in_ok-done.ensures.taken c.in_ok-done.ensures.left
