use Rattle.std.proofs.Common.{◌≡◌, ◌+◌, ◌<◌, ℕ, List, length, subst, sym}
use Rattle.std.proofs.lemmas.List.Elements.{All-nil}
use Rattle.hp_cut.specs.Places.{Cutting}
use Rattle.hp_board.specs.Fair.{IsFair}
use Rattle.hp_board.specs.declared.journal.Entry.{Entry}
use Rattle.hp_workers.specs.Joining.{StandsAt}
use Rattle.hp_workers.specs.Parsed.{AreBorneBy, EndsAllDone}
use Rattle.hp_workers.specs.Turns.{AreByKind, PostsByKind}
use Rattle.hp_workers.proofs.page.finish_by.Goals as goal

pub returns-then-are_by_kind-clause-at : goal.returns-then-are_by_kind-clause-at
returns-then-are_by_kind-clause-at c = subst (λ (t : List ℕ). StandsAt t (length t) c.in_ok-front.front) c.requires.same.text c.in_ok-front.ensures.at

pub returns-then-are_by_kind-clause-done : goal.returns-then-are_by_kind-clause-done
returns-then-are_by_kind-clause-done c = subst (λ (k : Cutting). EndsAllDone k c.in_ok-front.journal.items) c.requires.same.cuts c.in_ok-front.ensures.done

pub returns-then-are_by_kind-clause-fair : goal.returns-then-are_by_kind-clause-fair
returns-then-are_by_kind-clause-fair c =
    subst (λ (t : List ℕ). IsFair t c.args.cuts.now c.in_ok-front.journal.items) c.requires.same.text
    (subst (λ (k : Cutting). IsFair c.args.progress.board.text k c.in_ok-front.journal.items) c.requires.same.cuts c.in_ok-front.ensures.fair)

pub returns-then-are_by_kind-clause-borne : goal.returns-then-are_by_kind-clause-borne
returns-then-are_by_kind-clause-borne c = subst (λ (n : ℕ). AreBorneBy n c.in_ok-front.journal.items) c.requires.same.workers c.in_ok-front.ensures.borne

pub returns-clause-at : goal.returns-clause-at
returns-clause-at c = subst (λ (t : List ℕ). StandsAt t (length t) c.in_ok-parts.parts.0) c.in_ok-fresh.ensures.same.text c.in_ok-parts.ensures.at

pub returns-clause-done : goal.returns-clause-done
returns-clause-done c = subst (λ (k : Cutting). EndsAllDone k c.in_ok-parts.parts.1.items) c.in_ok-fresh.ensures.same.cuts c.in_ok-parts.ensures.done

pub returns-clause-fair : goal.returns-clause-fair
returns-clause-fair c =
    subst (λ (t : List ℕ). IsFair t c.args.cuts.now c.in_ok-parts.parts.1.items) c.in_ok-fresh.ensures.same.text
    (subst (λ (k : Cutting). IsFair c.in_ok-fresh.fresh.board.text k c.in_ok-parts.parts.1.items) c.in_ok-fresh.ensures.same.cuts c.in_ok-parts.ensures.fair)

pub returns-clause-by : goal.returns-clause-by
returns-clause-by c =
    c.in_ok-parts.ensures.by (subst (λ (es : List Entry). AreByKind c.args.kind es) (sym c.in_ok-fresh.ensures.fresh) (All-nil (λ (e : Entry). PostsByKind c.args.kind e.step)))

pub returns-clause-borne : goal.returns-clause-borne
returns-clause-borne c = subst (λ (n : ℕ). AreBorneBy n c.in_ok-parts.parts.1.items) c.in_ok-fresh.ensures.same.workers c.in_ok-parts.ensures.borne
