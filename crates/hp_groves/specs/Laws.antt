-- The laws of inner and outer edits.
use Rattle.std.specs.Prelude.{◌≡◌, ℕ, ◌+◌, ◌<◌, true, List, ◌++◌, length, map}
use Rattle.hp_control.specs.declared.edit.Edit.{Edit}
use Rattle.hp_control.specs.Apply.{named_edit}
use Rattle.hp_control.specs.States.{ControlState}
use Rattle.hp_control.specs.Tree.{Tree, HasChild, applied_all}
use Rattle.hp_groves.specs.Grafts.{graft}
use Rattle.hp_groves.specs.Joining.{JoinTexts}
use Rattle.hp_groves.specs.Naming.{IsBelow, own_grove, own_outer}
use Rattle.hp_groves.specs.Split.{grove_of, made_by, name_what_is_there, outer_of}

-- only elements that are there stand in its lists of children
abbrev pub HasOnlyWhatIsThere : Tree → Type 0
HasOnlyWhatIsThere t = (parent place id : ℕ) → HasChild t parent place id → id < length t

-- Inner and outer edits commute: what the inner ones make by themselves may be made first and put behind the tree as a whole; the outer
-- edits then lead to the same tree as all edits do in their order.
abbrev pub SplitMakesSame : Type 0
SplitMakesSame = (t : Tree) (es : List Edit) → HasOnlyWhatIsThere t → name_what_is_there (length t) es ≡ true
    → applied_all t es ≡ applied_all (graft t (grove_of (length t) es)) (outer_of (length t) es)

-- Edits that name what is there leave a tree of that kind,
abbrev pub StaysThere : Type 0
StaysThere = (t : Tree) (es : List Edit) → HasOnlyWhatIsThere t → name_what_is_there (length t) es ≡ true → HasOnlyWhatIsThere (applied_all t es)

-- with so many elements more as they make.
abbrev pub CountsOn : Type 0
CountsOn = (t : Tree) (es : List Edit) → length (applied_all t es) ≡ length t + made_by es

-- The grove has all elements that the edits make,
abbrev pub GroveHasAll : Type 0
GroveHasAll = (next : ℕ) (es : List Edit) → length (grove_of next es) ≡ made_by es

-- and outer edits make none.
abbrev pub OuterMakesNone : Type 0
OuterMakesNone = (next : ℕ) (es : List Edit) → made_by (outer_of next es) ≡ 0

-- Edits that differ in how texts are joined lead to the same tree from every tree,
abbrev pub JoinedMakeSame : Type 0
JoinedMakeSame = (es fs : List Edit) → JoinTexts es fs → (t : Tree) → applied_all t es ≡ applied_all t fs

-- name what is there alike, and make as many elements,
abbrev pub JoinedNameSame : Type 0
JoinedNameSame = (next : ℕ) (es fs : List Edit) → JoinTexts es fs → name_what_is_there next es ≡ name_what_is_there next fs

abbrev pub JoinedCountSame : Type 0
JoinedCountSame = (es fs : List Edit) → JoinTexts es fs → made_by es ≡ made_by fs

-- have the same grove,
abbrev pub JoinedGrovesSame : Type 0
JoinedGrovesSame = (next : ℕ) (es fs : List Edit) → JoinTexts es fs → grove_of next es ≡ grove_of next fs

-- and outer edits that differ so at most.
abbrev pub JoinedOutersJoin : Type 0
JoinedOutersJoin = (next : ℕ) (es fs : List Edit) → JoinTexts es fs → JoinTexts (outer_of next es) (outer_of next fs)

-- A fragment has the same grove then, before a state names its elements,
abbrev pub JoinedOwnGroveSame : Type 0
JoinedOwnGroveSame = (es fs : List Edit) → JoinTexts es fs → own_grove es ≡ own_grove fs

-- and outer edits that differ so at most.
abbrev pub JoinedOwnOuterJoin : Type 0
JoinedOwnOuterJoin = (es fs : List Edit) → JoinTexts es fs → JoinTexts (own_outer es) (own_outer fs)

-- They differ so when a state names them,
abbrev pub NamedJoin : Type 0
NamedJoin = (s : ControlState) (es fs : List Edit) → JoinTexts es fs → JoinTexts (map (named_edit s) es) (map (named_edit s) fs)

-- and when others come behind them that differ so.
abbrev pub OneByOneJoin : Type 0
OneByOneJoin = (es fs gs hs : List Edit) → JoinTexts es fs → JoinTexts gs hs → JoinTexts (es ++ gs) (fs ++ hs)

-- A fragment's edits split alike over each state: what the inner ones make is told by the edits alone,
abbrev pub GroveIsOwn : Type 0
GroveIsOwn = (s : ControlState) (es : List Edit) → IsBelow s es → grove_of s.next (map (named_edit s) es) ≡ own_grove es

-- and so is which of them are outer.
abbrev pub OuterIsOwn : Type 0
OuterIsOwn = (s : ControlState) (es : List Edit) → IsBelow s es → outer_of s.next (map (named_edit s) es) ≡ map (named_edit s) (own_outer es)

-- So a fragment's elements may be made before it is known what stands below it: its edits over a state lead to the same tree as its grove,
-- put behind the tree, and then its outer edits over that state.
abbrev pub OwnMakesSame : Type 0
OwnMakesSame = (t : Tree) (s : ControlState) (es : List Edit) → HasOnlyWhatIsThere t → length t ≡ s.next → name_what_is_there s.next (map (named_edit s) es) ≡ true → IsBelow s es
    → applied_all t (map (named_edit s) es) ≡ applied_all (graft t (own_grove es)) (map (named_edit s) (own_outer es))
