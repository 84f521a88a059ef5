use Rattle.std.proofs.Common.{[], sym, subst}
use Rattle.hp_growth.specs.Marking.{IsMarked}
use Rattle.hp_growth.proofs.Marked.{marked-none}
use Rattle.hp_growth.proofs.Parents.{parents-none, parents-some}
use Rattle.hp_growth.proofs.touching.touch_siblings.Goals as goal

pub returns-in-Some : goal.returns-in-Some
returns-in-Some c =
    subst (λ ids. IsMarked c.args.marks.now c.touch_children.new.self ids []) (sym (parents-some c.args.grove.now.branches c.args.id c.in-Some.parent c.in-Some.ensures.forest c.in-Some.ensures.parent)) c.touch_children.ensures

pub returns-in_default : goal.returns-in_default
returns-in_default c =
    subst (λ ids. IsMarked c.args.marks.now c.args.marks.now ids []) (sym (parents-none 0 c.args.grove.now.branches c.args.id c.in_default.ensures.parent)) (marked-none c.args.marks.now)
