use denote.Text.{Utf8}
use denote.Shadow.{shadow}
use Rattle.hp_tests.proofs.selecting.told_at.Given as goal

-- says that each `&str` the loop changes is text
abbrev pub invariant-loop-attribute : goal.invariant-loop-attribute
invariant-loop-attribute l =
    (goal.iterator-loop-attribute).can_next l.attribute-iterator ×
    (goal.iterator-loop-attribute).is_finite l.attribute-iterator ×
    shadow (Utf8 l.left)
