-- Edits that are the same but for how texts are joined: equal ones, and those that stand behind the same others.
use Rattle.std.proofs.Common.{◌≡◌, List, ◌++◌, subst}
use Rattle.hp_control.specs.declared.edit.Edit.{Edit}
use Rattle.hp_groves.specs.Joining.{JoinTexts, Same}
use Rattle.hp_groves.proofs.Joined.{one_by_one-join}

pub join-equal : (es fs : List Edit) → es ≡ fs → JoinTexts es fs
join-equal es fs e = subst (JoinTexts es) e (Same es)

pub join-behind : (es fs gs : List Edit) → JoinTexts fs gs → JoinTexts (es ++ fs) (es ++ gs)
join-behind es fs gs j = one_by_one-join es es fs gs (Same es) j
