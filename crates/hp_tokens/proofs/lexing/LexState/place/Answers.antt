use Rattle.std.proofs.Common.{ℕ, ◌-◌, ap, ◌∙◌}
use Rattle.hp_tokens.proofs.lexing.LexState.place.Goals as goal

pub returns : goal.returns
returns c = ap (λ (n : ℕ). n - c.len_bytes.result) c.place.ensures.place ∙ ap (λ (n : ℕ). c.args.input.now.place - n) c.len_bytes.ensures
