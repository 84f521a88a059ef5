-- All statuses are Done.
use Rattle.std.proofs.Common.{◌≡◌, sym, subst, length}
use Rattle.std.specs.Prelude.{Some, replicate}
use Rattle.hp_pieces.specs.At.{IsAt}
use Rattle.hp_board.specs.Desk.{Desk}
use Rattle.hp_board.specs.Machine.{replay}
use Rattle.hp_board.specs.declared.journal.Status.TheVariants as status
use Rattle.hp_board.proofs.Ending.{all_done, at_end}
use Rattle.hp_board.proofs.board.Board.finish.Goals as goal

pub returns-clause-replayed : goal.returns-clause-replayed
returns-clause-replayed c =
    subst (λ (d : Desk). replay (length c.args.self.slots) d.journal ≡ Some (replicate (length c.args.self.slots) status.Done)) (sym c.self.view_is) (all_done c.args.self c.kept.ensures.kept c.requires.done)

pub returns-clause-at : goal.returns-clause-at
returns-clause-at c =
    subst (λ (d : Desk). IsAt c.args.self.text (length c.args.self.text) d.control d.tree) (sym c.self.view_is) (at_end c.args.self c.kept.ensures.kept c.requires.done)
