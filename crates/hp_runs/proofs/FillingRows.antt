-- Rows made by the combinators do the same where the last start tag's name is told, and keep it told.
use Rattle.std.proofs.Common.{◌≡◌, ℕ, List, [], ◌++◌, Bool, true, false, cond, refl, ap, subst, Option, Some}
use Rattle.std.specs.Option.{unwrap_or}
use Rattle.hp_tokens.specs.declared.building.Building.{Building}
use Rattle.hp_tokens.specs.declared.building.Building.TheVariants as building
use Rattle.hp_tokens.specs.declared.machine.Machine.{Machine}
use Rattle.hp_tokens.specs.declared.rows.Reads.TheVariants.{Consume}
use Rattle.hp_tokens.specs.declared.state.State.{State}
use Rattle.hp_tokens.specs.States.{enter, is_in_value}
use Rattle.hp_tokens.specs.Parts.{built, last_tag_after, put}
use Rattle.hp_tokens.specs.Rows.{Row, go, emitting_built, flushed}
use Rattle.hp_tokens.specs.declared.building.Part.TheVariants.{Value}
use Rattle.hp_runs.specs.Filled.{filled}

abbrev pub filled_row : List ℕ → Row → Row
filled_row name r = record r { to = filled name r.to }

pub record Fills (name : List ℕ) (r s : Row) : Type 0 where
  pub same : s ≡ filled_row name r

pub either-fills : (name : List ℕ) (b : Bool) {x y v w : Row} → Fills name x v → Fills name y w → Fills name (cond b x y) (cond b v w)
either-fills name true h k = h
either-fills name false h k = k

-- where it is decided by the name, too
pub turned-fills : (name : List ℕ) (a b : Bool) {x y v w : Row} → a ≡ b → Fills name x v → Fills name y w → Fills name (cond a x y) (cond b v w)
turned-fills name a b {x} {y} {v} {w} e h k = subst (λ (z : Bool). Fills name (cond a x y) (cond z v w)) e (either-fills name a h k)

-- most rows leave the name alone: go, again, stay, back, with or without what is emitted before
pub plain-fills : (name : List ℕ) (r : Row) → Fills name r (filled_row name r)
plain-fills name r = record { same = refl }

told_after : (name : List ℕ) (b : Building) (o : Option (List ℕ)) → last_tag_after b (Some (unwrap_or o name)) ≡ Some (unwrap_or (last_tag_after b o) name)
told_after name building.Nothing o = refl
told_after name _ o = refl

-- the name of a start tag that is emitted is the last one's, whatever was told
pub emitting-fills : (name : List ℕ) (n : State) (m : Machine) → Fills name (emitting_built (go n) m) (emitting_built (go n) (filled name m))
emitting-fills name n m =
    let with_last : Option (List ℕ) → Row = λ o. record { to = enter n (record m { building = building.Nothing; last_tag = o }); reads = Consume; emits = built m.building ++ [] } in
    record { same = ap with_last (told_after name m.building m.last_tag) }

pub ruleset fills = (either-fills, emitting-fills, plain-fills)

-- a flush doesn't read the name
pub flushed-filled : (name : List ℕ) (m : Machine) → flushed (filled name m) ≡ filled name (flushed m)
flushed-filled name m = by_cases (is_in_value m.return_to)
  where
    by_cases : (b : Bool) → cond b (record (filled name m) { building = put Value m.buffer m.building }) (filled name m) ≡ filled name (cond b (record m { building = put Value m.buffer m.building }) m)
    by_cases true = refl
    by_cases false = refl
