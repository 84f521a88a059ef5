-- The board after the front chunk's fragment was committed.
use Rattle.std.proofs.Common.{arith, ℕ, ◌≡◌, ◌<◌, ◌≤◌, ◌+◌, ◌-◌, ◌∙◌, ap, subst, sym, get_or, set, length, refl}
use Rattle.std.proofs.lemmas.List.{get_or_default, set-set}
use Rattle.std.proofs.lemmas.List.Sums.{sum_by-set}
use Rattle.hp_control.specs.States.{Fits}
use Rattle.hp_pieces.specs.Texts.{text_of, covered_of}
use Rattle.hp_pieces.specs.declared.fragment.Fragment.{Fragment}
use Rattle.hp_merge.specs.Checked.{MayJoin}
use Rattle.hp_merge.specs.Cost.{join_cost}
use Rattle.hp_board.specs.declared.slot.Slot.TheVariants as slot
use Rattle.hp_board.specs.declared.journal.BoardStep.TheVariants as step
use Rattle.hp_board.specs.Machine.{start_of}
use Rattle.hp_board.specs.Desk.{Desk, IsKept, owed_of, slot_at, entry}
use Rattle.hp_board.specs.Calls.{committed}
use Rattle.hp_board.specs.Cost.{commit_cost}
use Rattle.hp_board.proofs.Commits.{keeps_whole, keeps_part, put-back}
use Rattle.hp_board.proofs.board.Board.commit.Goals as goal

pub chunk-start-requires-clause-cuts_of_page : goal.chunk-start-requires-clause-cuts_of_page
chunk-start-requires-clause-cuts_of_page g c = c.self.invariant.0.of_text

pub chunk-start-requires-clause-number_below_chunks : goal.chunk-start-requires-clause-number_below_chunks
chunk-start-requires-clause-number_below_chunks g c =
    let within = subst (λ (d : Desk). d.done < length d.slots) (sym c.self.view_is) c.requires.within in
    omega (arith, within, c.self.invariant.0.count)

pub join-requires-clause-fits : goal.join-requires-clause-fits
join-requires-clause-fits g c = subst (λ (d : Desk). Fits d.control) (sym c.self.view_is) c.kept.ensures.fits

-- what may be joined is the fragment that is posted
may_join : (desk : Desk) (posted f : Fragment) → slot_at desk desk.done ≡ slot.Posted posted → slot_at desk desk.done ≡ slot.Posted f → MayJoin desk.control posted → MayJoin desk.control f
may_join desk posted f told there may =
    let both : slot.Posted posted ≡ slot.Posted f = sym told ∙ there in
    let same : posted ≡ f = cc in
    subst (λ (x : Fragment). MayJoin desk.control x) same may

pub join-requires-clause-holds : goal.join-requires-clause-holds
join-requires-clause-holds g c =
    let v = c.self.view_is in
    let slots = c.self.inside.slots.items in
    let n = c.self.inside.done in
    let f = c.in-Posted.fragment in
    let within : n < length slots = subst (λ (d : Desk). d.done < length d.slots) (sym v) c.requires.within in
    let here : get_or slots n slot.Done ≡ slot.Posted f =
    get_or_default slots n slot.Done c.index_mut.result.now within ∙ (sym c.index_mut.ensures.value ∙ (sym c.replace.ensures.value ∙ c.in-Posted.is)) in
    let w = c.args.tally.now.worker in
    let there : slot_at c.args.self.now c.args.self.now.done ≡ slot.Posted f = subst (λ (d : Desk). slot_at d d.done ≡ slot.Posted f) v here in
    let may = may_join c.args.self.now c.requires.posted.0 f c.requires.posted.1 there c.requires.posted.2 in
    subst (λ (d : Desk). MayJoin d.control f) (sym v) may

pub invariant_of-self : goal.invariant_of-self
invariant_of-self g c =
    let v = c.self.view_is in
    let slots = c.self.inside.slots.items in
    let n = c.self.inside.done in
    let f = c.in-Posted.fragment in
    let within : n < length slots = subst (λ (d : Desk). d.done < length d.slots) (sym v) c.requires.within in
    let here : get_or slots n slot.Done ≡ slot.Posted f =
    get_or_default slots n slot.Done c.index_mut.result.now within ∙ (sym c.index_mut.ensures.value ∙ (sym c.replace.ensures.value ∙ c.in-Posted.is)) in
    let back : set (set slots n c.replace.new.dest) n (slot.Posted c.in-Err.refusal.fragment) ≡ slots = put-back slots n c.replace.new.dest f c.in-Err.refusal.fragment here c.in-Err.ensures.back in
    (rw (back, c.in-Err.ensures.err) c.self.invariant.0, rw back c.self.invariant.1, c.self.invariant.2)

pub returns-in-Err-clause-err : goal.returns-in-Err-clause-err
returns-in-Err-clause-err g c =
    let v = c.self.view_is in
    let slots = c.self.inside.slots.items in
    let n = c.self.inside.done in
    let f = c.in-Posted.fragment in
    let within : n < length slots = subst (λ (d : Desk). d.done < length d.slots) (sym v) c.requires.within in
    let here : get_or slots n slot.Done ≡ slot.Posted f =
    get_or_default slots n slot.Done c.index_mut.result.now within ∙ (sym c.index_mut.ensures.value ∙ (sym c.replace.ensures.value ∙ c.in-Posted.is)) in
    let back : set (set slots n c.replace.new.dest) n (slot.Posted c.in-Err.refusal.fragment) ≡ slots = put-back slots n c.replace.new.dest f c.in-Err.refusal.fragment here c.in-Err.ensures.back in
    (rw (back, c.in-Err.ensures.err) v, refl)

pub invariant_of-self-then-is_whole : goal.invariant_of-self-then-is_whole
invariant_of-self-then-is_whole g c =
    let v = c.self.view_is in
    let slots = c.self.inside.slots.items in
    let n = c.self.inside.done in
    let f = c.in-Posted.fragment in
    let within : n < length slots = subst (λ (d : Desk). d.done < length d.slots) (sym v) c.requires.within in
    let here : get_or slots n slot.Done ≡ slot.Posted f =
    get_or_default slots n slot.Done c.index_mut.result.now within ∙ (sym c.index_mut.ensures.value ∙ (sym c.replace.ensures.value ∙ c.in-Posted.is)) in
    let w = c.args.tally.now.worker in
    let there : slot_at c.args.self.now c.args.self.now.done ≡ slot.Posted f = subst (λ (d : Desk). slot_at d d.done ≡ slot.Posted f) v here in
    let may = may_join c.args.self.now c.requires.posted.0 f c.requires.posted.1 there c.requires.posted.2 in
    let same : covered_of f ≡ length (text_of f) = sym c.covered-covered.ensures.covered ∙ (c.if-is_whole.true ∙ ap length c.text.ensures) in
    let one : owed_of (get_or slots n slot.Done) ≡ 1 = ap owed_of here in
    let kept = keeps_whole c.args.self.now f c.kept.ensures.kept c.requires.within there c.fronts_go_on.ensures.on c.fronts_go_on.ensures.behind c.kept.ensures.fits c.is_sound.ensures may w same
    (c.stays_fair.ensures.keeps c.args.self.now f w (record { kept = c.kept.ensures.kept; within = c.requires.within; here = there; told = c.told.ensures }) same) in
    let all = sum_by-set owed_of slots n slot.Done slot.Done within in (
      rw (set-set, c.push_reserved.ensures.items, c.worker-worker.ensures, c.covered-covered.ensures.covered, c.in_default-join.ensures.ok)
          (subst (λ (d : Desk). IsKept (committed d f (d.done + 1) slot.Done (entry w (step.Kept d.done)))) (sym v) kept),
      rw set-set (omega (arith, all, one, c.self.invariant.1)),
      omega (arith, all, one, c.self.invariant.1, c.self.invariant.2, c.push_reserved.ensures.len, c.push_reserved.ensures.capacity),
    )

pub invariant_of-self-else-is_whole : goal.invariant_of-self-else-is_whole
invariant_of-self-else-is_whole g c =
    let v = c.self.view_is in
    let slots = c.self.inside.slots.items in
    let n = c.self.inside.done in
    let f = c.in-Posted.fragment in
    let within : n < length slots = subst (λ (d : Desk). d.done < length d.slots) (sym v) c.requires.within in
    let here : get_or slots n slot.Done ≡ slot.Posted f =
    get_or_default slots n slot.Done c.index_mut.result.now within ∙ (sym c.index_mut.ensures.value ∙ (sym c.replace.ensures.value ∙ c.in-Posted.is)) in
    let w = c.args.tally.now.worker in
    let there : slot_at c.args.self.now c.args.self.now.done ≡ slot.Posted f = subst (λ (d : Desk). slot_at d d.done ≡ slot.Posted f) v here in
    let may = may_join c.args.self.now c.requires.posted.0 f c.requires.posted.1 there c.requires.posted.2 in
    let amount = (c.self.inside.place + covered_of f) - c.chunk-start.result.from in
    let begun : c.chunk-start.result.from ≡ start_of c.self.inside.cuts n = c.chunk-start.ensures.from in
    let place : start_of c.self.inside.cuts n + amount ≡ c.self.inside.place + covered_of f = omega (arith, begun, c.self.invariant.0.from) in
    let placed = subst (λ (d : Desk). start_of d.cuts d.done + amount ≡ d.place + covered_of f) v place in
    let one : owed_of (get_or slots n slot.Done) ≡ 1 = ap owed_of here in
    let less : covered_of f < length (text_of f) = omega (arith, c.covered-covered.ensures.covered, c.covered-covered.ensures.within, c.if-is_whole.false, ap length c.text.ensures) in
    let kept = keeps_part c.args.self.now f c.kept.ensures.kept c.requires.within there c.fronts_go_on.ensures.on c.fronts_go_on.ensures.behind c.kept.ensures.fits c.is_sound.ensures may w amount (omega (arith, less)) placed
    (c.stays_fair.ensures.repairs c.args.self.now f w amount (record { kept = c.kept.ensures.kept; within = c.requires.within; here = there; told = c.told.ensures }) less placed) in
    let all = sum_by-set owed_of slots n slot.Again slot.Done within in (
      rw (c.replace.ensures.after, c.push_reserved-else-is_whole.ensures.items, c.worker-worker.ensures, c.covered-covered.ensures.covered, c.in_default-join.ensures.ok)
          (subst (λ (d : Desk). IsKept (committed d f d.done slot.Again (entry w (step.Repaired d.done amount)))) (sym v) kept),
      rw c.replace.ensures.after (omega (arith, all, one, c.self.invariant.1)),
      omega (arith, all, one, c.self.invariant.1, c.self.invariant.2, c.push_reserved-else-is_whole.ensures.len, c.push_reserved-else-is_whole.ensures.capacity),
    )

pub returns-then-is_whole-clause-judged : goal.returns-then-is_whole-clause-judged
returns-then-is_whole-clause-judged g c =
    let v = c.self.view_is in
    let slots = c.self.inside.slots.items in
    let n = c.self.inside.done in
    let f = c.in-Posted.fragment in
    let within : n < length slots = subst (λ (d : Desk). d.done < length d.slots) (sym v) c.requires.within in
    let here : get_or slots n slot.Done ≡ slot.Posted f =
    get_or_default slots n slot.Done c.index_mut.result.now within ∙ (sym c.index_mut.ensures.value ∙ (sym c.replace.ensures.value ∙ c.in-Posted.is)) in
    let w = c.args.tally.now.worker in
    let there : slot_at c.args.self.now c.args.self.now.done ≡ slot.Posted f = subst (λ (d : Desk). slot_at d d.done ≡ slot.Posted f) v here in
    let may = may_join c.args.self.now c.requires.posted.0 f c.requires.posted.1 there c.requires.posted.2 in
    let same : covered_of f ≡ length (text_of f) = sym c.covered-covered.ensures.covered ∙ (c.if-is_whole.true ∙ ap length c.text.ensures) in (
      f,
      there,
      (
        may,
        same,
        rw (set-set, c.push_reserved.ensures.items, c.worker-worker.ensures, c.covered-covered.ensures.covered, c.in_default-join.ensures.ok)
            (ap (λ (d : Desk). committed d f (d.done + 1) slot.Done (entry w (step.Kept d.done))) v),
      ),
    )

pub returns-else-is_whole-clause-judged : goal.returns-else-is_whole-clause-judged
returns-else-is_whole-clause-judged g c =
    let v = c.self.view_is in
    let slots = c.self.inside.slots.items in
    let n = c.self.inside.done in
    let f = c.in-Posted.fragment in
    let within : n < length slots = subst (λ (d : Desk). d.done < length d.slots) (sym v) c.requires.within in
    let here : get_or slots n slot.Done ≡ slot.Posted f =
    get_or_default slots n slot.Done c.index_mut.result.now within ∙ (sym c.index_mut.ensures.value ∙ (sym c.replace.ensures.value ∙ c.in-Posted.is)) in
    let w = c.args.tally.now.worker in
    let there : slot_at c.args.self.now c.args.self.now.done ≡ slot.Posted f = subst (λ (d : Desk). slot_at d d.done ≡ slot.Posted f) v here in
    let may = may_join c.args.self.now c.requires.posted.0 f c.requires.posted.1 there c.requires.posted.2 in
    let amount = (c.self.inside.place + covered_of f) - c.chunk-start.result.from in
    let begun : c.chunk-start.result.from ≡ start_of c.self.inside.cuts n = c.chunk-start.ensures.from in
    let place : start_of c.self.inside.cuts n + amount ≡ c.self.inside.place + covered_of f = omega (arith, begun, c.self.invariant.0.from) in
    let placed = subst (λ (d : Desk). start_of d.cuts d.done + amount ≡ d.place + covered_of f) v place in
    let less : covered_of f < length (text_of f) = omega (arith, c.covered-covered.ensures.covered, c.covered-covered.ensures.within, c.if-is_whole.false, ap length c.text.ensures) in (
      f,
      there,
      (
        may,
        less,
        rw c.covered-covered.ensures.covered placed,
        rw (c.replace.ensures.after, c.push_reserved-else-is_whole.ensures.items, c.worker-worker.ensures, c.covered-covered.ensures.covered, c.in_default-join.ensures.ok)
            (ap (λ (d : Desk). committed d f d.done slot.Again (entry w (step.Repaired d.done amount))) v),
      ),
    )

-- the fragment that is joined is the one that is posted
costs : (desk : Desk) (f : Fragment) (before after : ℕ) → slot_at desk desk.done ≡ slot.Posted f → after ≤ before + join_cost f → after ≤ before + commit_cost (slot_at desk desk.done)
costs desk f before after there cost = rw there cost

pub returns-in-Err-clause-cost : goal.returns-in-Err-clause-cost
returns-in-Err-clause-cost g c =
    let v = c.self.view_is in
    let slots = c.self.inside.slots.items in
    let n = c.self.inside.done in
    let f = c.in-Posted.fragment in
    let within : n < length slots = subst (λ (d : Desk). d.done < length d.slots) (sym v) c.requires.within in
    let here : get_or slots n slot.Done ≡ slot.Posted f =
    get_or_default slots n slot.Done c.index_mut.result.now within ∙ (sym c.index_mut.ensures.value ∙ (sym c.replace.ensures.value ∙ c.in-Posted.is)) in
    costs c.args.self.now f c.args.steps.now c.join.new.steps (subst (λ (d : Desk). slot_at d d.done ≡ slot.Posted f) v here) c.join.ensures.cost

pub returns-then-is_whole-clause-cost : goal.returns-then-is_whole-clause-cost
returns-then-is_whole-clause-cost g c =
    let v = c.self.view_is in
    let slots = c.self.inside.slots.items in
    let n = c.self.inside.done in
    let f = c.in-Posted.fragment in
    let within : n < length slots = subst (λ (d : Desk). d.done < length d.slots) (sym v) c.requires.within in
    let here : get_or slots n slot.Done ≡ slot.Posted f =
    get_or_default slots n slot.Done c.index_mut.result.now within ∙ (sym c.index_mut.ensures.value ∙ (sym c.replace.ensures.value ∙ c.in-Posted.is)) in
    costs c.args.self.now f c.args.steps.now c.join.new.steps (subst (λ (d : Desk). slot_at d d.done ≡ slot.Posted f) v here) c.join.ensures.cost

pub returns-else-is_whole-clause-cost : goal.returns-else-is_whole-clause-cost
returns-else-is_whole-clause-cost g c =
    let v = c.self.view_is in
    let slots = c.self.inside.slots.items in
    let n = c.self.inside.done in
    let f = c.in-Posted.fragment in
    let within : n < length slots = subst (λ (d : Desk). d.done < length d.slots) (sym v) c.requires.within in
    let here : get_or slots n slot.Done ≡ slot.Posted f =
    get_or_default slots n slot.Done c.index_mut.result.now within ∙ (sym c.index_mut.ensures.value ∙ (sym c.replace.ensures.value ∙ c.in-Posted.is)) in
    costs c.args.self.now f c.args.steps.now c.join.new.steps (subst (λ (d : Desk). slot_at d d.done ≡ slot.Posted f) v here) c.join.ensures.cost
