use Rattle.std.proofs.Common.{◌≡◌, ◌≤◌, ◌+◌, ◌-◌, ◌*◌, ◌++◌, ℕ, List, [], length, take, drop, ap, sym, subst, ◌∙◌, arith, length-drop}
use Rattle.std.proofs.lemmas.List.{take_all}
use Rattle.hp_control.specs.States.{ControlState}
use Rattle.hp_predict.specs.Tags.{counted_tags}
use Rattle.hp_predict.specs.OpenNames.{Names}
use Rattle.hp_predict.specs.Guess.{with_ends, state_for, guessed}
use Rattle.hp_predict.specs.Laws.{IsGuess}
use Rattle.hp_predict.proofs.PartLemmas.{page}
use Rattle.hp_predict.proofs.LengthLemmas.{few_open, few_counted, few_unmatched, bytes_length}
use Rattle.hp_predict.proofs.StateLemmas.{guess_of, same_guess}
use Rattle.hp_predict.proofs.ValidLemmas.{is_guess}
use Rattle.hp_predict.proofs.prescan.Prescan.new.Goals as goal

part_is : (text : List ℕ) (from : ℕ) → from ≡ length text - 4096 → take (length text - from) (drop from text) ≡ drop (length text - 4096) text
part_is text from e = take_all (length text - from) (drop from text) (omega (arith, length-drop from text)) ∙ ap (λ (n : ℕ). drop n text) e

pub state_for-requires : goal.state_for-requires
state_for-requires c =
    let before = c.before-before.result.now in
    let from = c.saturating_sub.result in
    let part = take (length before - from) (drop from before) in
    let tags = counted_tags c.text.result.now in
    let a : length c.in_ok-open.open.names ≤ 3 * length (counted_tags part) + 0 = subst (λ (ns : Names). length ns ≤ 3 * length (counted_tags part) + 0) (sym c.in_ok-open.ensures.names) (few_open (counted_tags part) []) in
    let b = few_counted part in
    let d : length part ≤ 4096 = subst (λ (n : ℕ). n ≤ 4096) (sym (ap length (part_is before from c.saturating_sub.ensures))) (bytes_length before) in
    let e : length c.in_ok-closed.closed.unmatched ≤ length tags = subst (λ (ns : Names). length ns ≤ length tags) (sym c.in_ok-closed.ensures.unmatched) (few_unmatched tags []) in
    let f = few_counted c.text.result.now in
    let g = ap length c.as_slice.ensures in
    omega arith

pub returns : goal.returns
returns c =
    let before : List ℕ = c.before-before.result.now in
    let from : ℕ = c.saturating_sub.result in
    let text : List ℕ = c.text.result.now in
    let names : Names = c.in_ok-open.open.names in
    let P : Names → Type 0 = λ ends. c.in_ok-state.state ≡ state_for c.ends_in_cr.result (with_ends names ends ++ page) in
    let so : c.in_ok-state.state ≡ guessed before text =
    guess_of before text (take (length before - from) (drop from before)) names c.ends_in_cr.result c.in_ok-state.state (part_is before from c.saturating_sub.ensures) c.in_ok-open.ensures.names c.ends_in_cr.ensures
    (subst P (c.as_slice.ensures ∙ c.in_ok-closed.ensures.unmatched) c.in_ok-state.ensures) in
    let Q : ControlState → Type 0 = λ s. IsGuess c.args.chunk.now.from c.args.chunk.now.to s in
    record {
      state = same_guess before _ text _ c.in_ok-state.state so c.before-before.ensures.value c.text.ensures.value;
      law = subst Q (sym so) (is_guess before text c.args.chunk.now.from c.args.chunk.now.to c.text.ensures.len);
    }
