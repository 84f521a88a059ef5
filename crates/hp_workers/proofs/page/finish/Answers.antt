use Rattle.std.proofs.Common.{◌≡◌, ◌+◌, ◌<◌, ◌++◌, ◌∷◌, [], ℕ, List, Some, length, ap, subst, sym, ◌∙◌, arith}
use Rattle.std.specs.Prelude.{replicate}
use Rattle.hp_cut.specs.Places.{Cutting}
use Rattle.hp_pieces.specs.At.{IsAt}
use Rattle.hp_board.specs.Calls.{IsBoardOf, IsDone}
use Rattle.hp_board.specs.Fair.{IsFair}
use Rattle.hp_board.specs.Machine.{replay}
use Rattle.hp_board.specs.declared.journal.Entry.{Entry}
use Rattle.hp_board.specs.declared.journal.Status.TheVariants as status
use Rattle.hp_board.specs.declared.tally.Tally.{Tally}
use Rattle.hp_workers.specs.Parsed.{AreBorneBy}
use Rattle.hp_workers.specs.Turns.{AreByKind, HasGoneOn}
use Rattle.hp_workers.proofs.Pages.{ends_some, main_number, none_is, on_ok, own_text, popped_is, pushed_is}
use Rattle.hp_workers.proofs.page.finish.Goals as goal

pub unreachable-requires : goal.unreachable-requires
unreachable-requires c =
    none_is _ (c.in_default.ensures.value c.requires.ready.main.main (omega (arith, ends_some c.args.progress.tallies.items c.requires.ready.main, c.args.progress.tallies.ok.0)))

pub finish_alone-requires-clause-free : goal.finish_alone-requires-clause-free
finish_alone-requires-clause-free c = c.requires.ready.free

pub finish_alone-requires-clause-main : goal.finish_alone-requires-clause-main
finish_alone-requires-clause-main c =
    main_number c.args.progress.tallies.items c.pop.new.self.items c.in-Some.main c.requires.ready.main
    (popped_is c.args.progress.tallies.items c.pop.new.self.items c.pop.result c.in-Some.main c.pop.ensures.items c.in-Some.is)

pub finish-requires-clause-done : goal.finish-requires-clause-done
finish-requires-clause-done c = on_ok c.finish_alone.result (IsDone c.finish_alone.new.board) (sym c.if-is_err.ensures.value) c.finish_alone.ensures.done

pub finish-requires-clause-tallies : goal.finish-requires-clause-tallies
finish-requires-clause-tallies c =
    let new = c.finish_alone.new.board in
    let gone : HasGoneOn c.args.kind c.args.progress.board c.in-Some.main c.finish_alone.new.board c.finish_alone.new.tally = on_ok c.finish_alone.result _ (sym c.if-is_err.ensures.value) c.finish_alone.ensures.on in
    let board = c.args.progress.board in
    let popped = popped_is c.args.progress.tallies.items c.pop.new.self.items c.pop.result c.in-Some.main c.pop.ensures.items c.in-Some.is in
    let counted = gone.stays c.pop.new.self.items board.text board.cuts (subst (λ (ts : List Tally). IsBoardOf board board.text board.cuts ts) popped c.requires.ready.of) in
    let tallies = c.pop.new.self.items ++ c.finish_alone.new.tally ∷ [] in
    subst (λ (ts : List Tally). IsBoardOf new new.text new.cuts ts)
    (sym (pushed_is c.push.result tallies c.pop.new.self.items c.push.new.self.items (sym c.if-is_err-2.ensures.value) c.push.ensures.items))
    (own_text new board.text board.cuts tallies counted)

pub returns-clause-at : goal.returns-clause-at
returns-clause-at c =
    let gone : HasGoneOn c.args.kind c.args.progress.board c.in-Some.main c.finish_alone.new.board c.finish_alone.new.tally = on_ok c.finish_alone.result _ (sym c.if-is_err.ensures.value) c.finish_alone.ensures.on in
    subst (λ (t : List ℕ). IsAt t (length t) c.finish.result.0.control c.finish.result.0.tree) gone.page.text c.finish.ensures.at

pub returns-clause-done : goal.returns-clause-done
returns-clause-done c =
    let gone : HasGoneOn c.args.kind c.args.progress.board c.in-Some.main c.finish_alone.new.board c.finish_alone.new.tally = on_ok c.finish_alone.result _ (sym c.if-is_err.ensures.value) c.finish_alone.ensures.on in
    subst (λ (n : ℕ). replay n c.finish.result.1.items ≡ Some (replicate n status.Done))
    (c.kept.ensures.kept.count ∙ ap (λ (cuts : Cutting). length cuts.places + 1) gone.page.cuts) c.finish.ensures.replayed

pub returns-clause-fair : goal.returns-clause-fair
returns-clause-fair c =
    let new = c.finish_alone.new.board in
    let gone : HasGoneOn c.args.kind c.args.progress.board c.in-Some.main c.finish_alone.new.board c.finish_alone.new.tally = on_ok c.finish_alone.result _ (sym c.if-is_err.ensures.value) c.finish_alone.ensures.on in
    subst (λ (es : List Entry). IsFair c.args.progress.board.text c.args.progress.board.cuts es) (sym c.finish.ensures.journal)
    (subst (λ (t : List ℕ). IsFair t c.args.progress.board.cuts new.journal) gone.page.text
    (subst (λ (k : Cutting). IsFair new.text k new.journal) gone.page.cuts c.kept.ensures.kept.fair))

pub returns-clause-by : goal.returns-clause-by
returns-clause-by c before =
    let gone : HasGoneOn c.args.kind c.args.progress.board c.in-Some.main c.finish_alone.new.board c.finish_alone.new.tally = on_ok c.finish_alone.result _ (sym c.if-is_err.ensures.value) c.finish_alone.ensures.on in
    subst (λ (es : List Entry). AreByKind c.args.kind es) (sym c.finish.ensures.journal) (gone.by before)

pub returns-clause-borne : goal.returns-clause-borne
returns-clause-borne c =
    let new = c.finish_alone.new.board in
    let gone : HasGoneOn c.args.kind c.args.progress.board c.in-Some.main c.finish_alone.new.board c.finish_alone.new.tally = on_ok c.finish_alone.result _ (sym c.if-is_err.ensures.value) c.finish_alone.ensures.on in
    let board = c.args.progress.board in
    let popped = popped_is c.args.progress.tallies.items c.pop.new.self.items c.pop.result c.in-Some.main c.pop.ensures.items c.in-Some.is in
    let counted = gone.stays c.pop.new.self.items board.text board.cuts (subst (λ (ts : List Tally). IsBoardOf board board.text board.cuts ts) popped c.requires.ready.of) in
    subst (λ (es : List Entry). AreBorneBy c.args.progress.board.workers es) (sym c.finish.ensures.journal)
    (subst (λ (n : ℕ). AreBorneBy n new.journal) gone.page.workers counted.borne)
