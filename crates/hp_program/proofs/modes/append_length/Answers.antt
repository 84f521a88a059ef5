use Rattle.std.proofs.Common.{◌++◌, ◌∙◌, List, ℕ, ap}
use Rattle.hp_program.proofs.Drilled.{grown, three}
use Rattle.hp_program.proofs.modes.append_length.Goals as goal

pub returns : goal.returns
returns c =
    grown c.extend_from_slice-3.result _ _ _ c.extend_from_slice-3.ensures.items (λ third.
    three _ _ _ _ _ _ _ (c.in_ok-extend_from_slice.ensures.items ∙ ap (λ (label : List ℕ). c.args.text.now.items ++ label) c.as_bytes.ensures.value) (c.in_ok-extend_from_slice-2.ensures.items ∙ ap (λ (digits : List ℕ). c.extend_from_slice.new.self.items ++ digits) (c.as_bytes-2.ensures.value ∙ c.format.ensures.text)) third)
