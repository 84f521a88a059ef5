use Rattle.std.proofs.Common.{ℕ, List, [], ◌∷◌, ◌++◌, take, ap, ◌∙◌, append_assoc}
use Rattle.hp_print.proofs.filled.two_at.Goals as goal

pub returns-clause-bytes : goal.returns-clause-bytes
returns-clause-bytes c =
    c.byte_at.ensures.bytes
    ∙ (ap (λ (xs : List ℕ). xs ++ c.args.second ∷ []) c.byte_at-at.ensures.bytes ∙ append_assoc (take c.args.at c.args.into.now) (c.args.first ∷ []) (c.args.second ∷ []))
