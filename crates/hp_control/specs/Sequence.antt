-- Outcomes one after the other.
use Rattle.std.specs.Prelude.{◌≡◌, ◌++◌, ◌||◌}
use Rattle.std.proofs.Common.{sym, ◌∙◌, ap, append_assoc}
use Rattle.std.proofs.Math.Bool.{or_assoc}
use Rattle.hp_control.specs.Outcome.{Outcome, after}

pub after_after : (o p q : Outcome) → after o (after p q) ≡ after (after o p) q
after_after o p q =
    ap (λ es. record { control = q.control; edits = es; touched = o.touched ++ (p.touched ++ q.touched); spared = o.spared || (p.spared || q.spared) }) (sym (append_assoc o.edits p.edits q.edits))
    ∙ (ap (λ t. record { control = q.control; edits = (o.edits ++ p.edits) ++ q.edits; touched = t; spared = o.spared || (p.spared || q.spared) }) (sym (append_assoc o.touched p.touched q.touched))
    ∙ ap (λ b. record { control = q.control; edits = (o.edits ++ p.edits) ++ q.edits; touched = (o.touched ++ p.touched) ++ q.touched; spared = b }) (sym (or_assoc o.spared p.spared q.spared)))
