-- The laws of edits that come one by one.
use Rattle.std.specs.Prelude.{◌≡◌, if◌then◌else◌, List, [], ◌∷◌, ◌++◌}
use Rattle.hp_control.specs.declared.edit.Edit.{Edit}
use Rattle.hp_groves.specs.Naming.{own_grove, own_outer}
use Rattle.hp_groves.specs.Split.{is_outer}
use Rattle.hp_arena.specs.Groves.{behind_document}
use Rattle.hp_growth.specs.Growing.{hand_of, hand_with, own_edit}

-- What is at hand after one edit more is told by the edit and what was at hand,
abbrev pub HandGrows : Type 0
HandGrows = (es : List Edit) (e : Edit) → hand_of (es ++ e ∷ []) ≡ hand_with (hand_of es) e

-- and so is whether it is one of the outer edits.
abbrev pub OuterGrows : Type 0
OuterGrows = (es : List Edit) (e : Edit) → own_outer (es ++ e ∷ []) ≡ own_outer es ++ (if is_outer 1 (hand_of es) (own_edit e) then e ∷ [] else [])

-- What the inner edits make is what is at hand in the end.
abbrev pub GroveIsAtHand : Type 0
GroveIsAtHand = (es : List Edit) → own_grove es ≡ behind_document (hand_of es).grove
