use Rattle.std.proofs.Common.{◌≡◌, ◌∙◌, ap, sym, ℕ, List, [], ◌∷◌, map, None, Some, arith}
use Rattle.std.proofs.lemmas.List.{map-append}
use Rattle.std.proofs.lemmas.Iterator.Consumers.{YieldsList-at, YieldsList-turn, YieldsList-end}
use Rattle.std.proofs.lemmas.Iterator.Splits.{YieldsList-from_str_split}
use Rattle.hp_words.specs.Numbers.{all_present, number}
use Rattle.hp_words.proofs.NumberLemmas.{all_present-none, all_present-push}
use Rattle.hp_words.proofs.numbers.places.Goals as goal

pub returns-in-None-number : goal.returns-in-None-number
returns-in-None-number c =
    let turn = YieldsList-turn (YieldsList-at c.into_iter-piece-iterator.ensures.into_iter_gives (YieldsList-from_str_split 44 c.args.text.now (omega arith) c.split-piece-items.ensures.text c.split-piece-items.ensures.has_more c.split-piece-items.ensures.pattern))
    c.loop-piece.yielded _ c.loop-piece.yielded_by _ _ c.in-Some.piece c.in-Some.is c.next.ensures.steps in
    let refused : number 0 4294967295 c.in-Some.piece.now ≡ None = ap (λ (high : ℕ). number 0 high c.in-Some.piece.now) (sym c.from.ensures) ∙ sym c.number.ensures ∙ c.in-None-number.is in
    sym (all_present-none (number 0 4294967295) _ _ c.in-Some.piece.now turn.0 turn.1 refused)

pub loop-piece-preserved : goal.loop-piece-preserved
loop-piece-preserved c =
    let kept : Some c.in-Some-number.place ≡ number 0 4294967295 c.in-Some.piece.now = sym c.in-Some-number.is ∙ c.number.ensures ∙ ap (λ (high : ℕ). number 0 high c.in-Some.piece.now) c.from.ensures in
    let pushed = all_present-push (number 0 4294967295) (map (λ piece. piece.now) c.loop-piece.yielded) c.in-Some.piece.now _ _ c.loop-piece.invariant kept in
    ap (λ (pieces : List (List ℕ)). all_present (map (number 0 4294967295) pieces)) (map-append (λ piece. piece.now) c.loop-piece.yielded (c.in-Some.piece ∷ []))
    ∙ pushed ∙ ap Some (sym {A = List ℕ} c.in_ok-push-in-Some-number.ensures.items)

pub returns : goal.returns
returns c =
    let end = YieldsList-end (YieldsList-at c.into_iter-piece-iterator.ensures.into_iter_gives (YieldsList-from_str_split 44 c.args.text.now (omega arith) c.split-piece-items.ensures.text c.split-piece-items.ensures.has_more c.split-piece-items.ensures.pattern))
    c.loop-piece.yielded _ c.loop-piece.yielded_by _ _ c.in-None.is c.next.ensures.steps in
    ap Some c.new.ensures ∙ sym c.loop-piece.invariant ∙ ap (λ (pieces : List (List ℕ)). all_present (map (number 0 4294967295) pieces)) end.0
