-- Where a walk over a list ends, the top first.
use Rattle.std.specs.Prelude.{ℕ, ◌+◌, ◌<◌, ◌^◌, ◌==◌, Bool, true, false, if◌then◌else◌, List, [], ◌∷◌, length}
use Rattle.std.specs.Str.{bytes_eq}
use Rattle.hp_elements.specs.declared.kinds.Kinds.{Kinds}
use Rattle.hp_control.specs.declared.element.OpenElement.{OpenElement}
use Rattle.hp_control.specs.declared.element.FormattingEntry.{FormattingEntry}
use Rattle.hp_control.specs.declared.element.FormattingEntry.TheVariants.{Marker, Element}
use Rattle.hp_control.specs.KindTests.{within}
use Rattle.hp_control.specs.Walks.{scope_ends}
use Rattle.hp_views.specs.declared.walks.Walk.{Walk}
use Rattle.hp_views.specs.declared.walks.Walk.TheVariants.{Found, Stopped, PastAll}

-- the same place, seen from so many items higher up
abbrev pub deeper : ℕ → Walk → Walk
deeper n (Found k) = Found (n + k)
deeper n Stopped = Stopped
deeper n PastAll = PastAll

-- down to the first element that is a goal or a stop
abbrev pub walk_of : Kinds → Kinds → List OpenElement → Walk
walk_of goals stops [] = PastAll
walk_of goals stops (e ∷ es) = if within goals e then Found 0 else (if within stops e then Stopped else deeper 1 (walk_of goals stops es))

-- down to the first element that is not of these kinds
abbrev pub run_walk : Kinds → List OpenElement → Walk
run_walk names [] = PastAll
run_walk names (e ∷ es) = if within names e then deeper 1 (run_walk names es) else Found 0

-- down to the element of this id
abbrev pub id_walk : ℕ → List OpenElement → Walk
id_walk id [] = PastAll
id_walk id (e ∷ es) = if e.id == id then Found 0 else deeper 1 (id_walk id es)

-- down to the element of this id, or to the first stop
abbrev pub id_stop_walk : Kinds → ℕ → List OpenElement → Walk
id_stop_walk stops id [] = PastAll
id_stop_walk stops id (e ∷ es) = if e.id == id then Found 0 else (if within stops e then Stopped else deeper 1 (id_stop_walk stops id es))

-- the same to the first that ends a scope
abbrev pub id_scope_walk : ℕ → List OpenElement → Walk
id_scope_walk id es = id_stop_walk scope_ends id es

-- down to the entry of this id
abbrev pub id_entry_walk : ℕ → List FormattingEntry → Walk
id_entry_walk id [] = PastAll
id_entry_walk id (Marker ∷ es) = deeper 1 (id_entry_walk id es)
id_entry_walk id (Element other tag ∷ es) = if other == id then Found 0 else deeper 1 (id_entry_walk id es)

-- down to the last marker
abbrev pub marker_of : List FormattingEntry → Walk
marker_of [] = PastAll
marker_of (Marker ∷ es) = Found 0
marker_of (Element id tag ∷ es) = deeper 1 (marker_of es)

-- down to the last entry of that name, or to the last marker
abbrev pub entry_walk : List ℕ → List FormattingEntry → Walk
entry_walk name [] = PastAll
entry_walk name (Marker ∷ es) = Stopped
entry_walk name (Element id tag ∷ es) = if bytes_eq name tag.name then Found 0 else deeper 1 (entry_walk name es)

abbrev pub is_found : Walk → Bool
is_found (Found k) = true
is_found Stopped = false
is_found PastAll = false

-- what is found is there
abbrev pub IsWithin : {X : Type 0} → Walk → List X → Type 0
IsWithin (Found k) xs = (k < length xs) × (k + 1 < 2 ^ 64)
IsWithin Stopped xs = Unit {0}
IsWithin PastAll xs = Unit {0}

-- both end at a goal, both at a stop, or both past all
abbrev pub EndsAs : Walk → Walk → Type 0
EndsAs (Found k) (Found j) = Unit {0}
EndsAs Stopped Stopped = Unit {0}
EndsAs PastAll PastAll = Unit {0}
EndsAs _ _ = ⊥
