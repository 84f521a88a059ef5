-- Rows made by the combinators emit no start tags but HTML's.
use Rattle.std.proofs.Common.{ℕ, List, [], ◌∷◌, ◌++◌, Bool, true, false, cond, map, refl}
use Rattle.hp_elements.specs.declared.token.Token.{Token}
use Rattle.hp_tokens.specs.declared.state.State.{State}
use Rattle.hp_tokens.specs.declared.building.Building.{Building}
use Rattle.hp_tokens.specs.declared.building.Building.TheVariants as building
use Rattle.hp_tokens.specs.declared.building.Part.TheVariants.{Value}
use Rattle.hp_tokens.specs.declared.machine.Machine.{Machine}
use Rattle.hp_tokens.specs.States.{return_state, is_in_value}
use Rattle.hp_tokens.specs.Parts.{built, put}
use Rattle.hp_tokens.specs.Rows.{Row, character, go, again, stay, plus, ended, back, without_built, emitting_built, emitting_buffer, flushing, flushed_tokens}
use Rattle.hp_runs.specs.Tokens.{AllRead}

pub record IsHtml (r : Row) : Type 0 where
  pub read : AllRead r.emits

AllRead-join : (xs ys : List Token) → AllRead xs → AllRead ys → AllRead (xs ++ ys)
AllRead-join [] ys h k = k
AllRead-join (x ∷ xs) ys h k = (h.0, AllRead-join xs ys h.1 k)

built-read : (b : Building) → AllRead (built b)
built-read building.Nothing = tt
built-read (building.StartTag t) = (refl, tt)
built-read (building.EndTag name) = (tt, tt)
built-read (building.Comment text) = (tt, tt)
built-read (building.Doctype d) = (tt, tt)

pub characters-read : (xs : List ℕ) → AllRead (map character xs)
characters-read [] = tt
characters-read (x ∷ xs) = (tt, characters-read xs)

pub either-html : (b : Bool) {x y : Row} → IsHtml x → IsHtml y → IsHtml (cond b x y)
either-html true h k = h
either-html false h k = k

pub go-html : (n : State) (m : Machine) → IsHtml (go n m)
go-html n m = record { read = tt }

pub stay-html : (m : Machine) → IsHtml (stay m)
stay-html m = record { read = tt }

pub plus-html : (x : ℕ) (r : Row) → IsHtml r → IsHtml (plus x r)
plus-html x r h = record { read = (tt, h.read) }

pub again-html : (n : State) (m : Machine) → IsHtml (again n m)
again-html n m = record { read = tt }

pub ended-html : (m : Machine) → IsHtml (ended m)
ended-html m = record { read = (tt, tt) }

pub emitting-html : (row : Machine → Row) (m : Machine) → IsHtml (row (without_built m)) → IsHtml (emitting_built row m)
emitting-html row m h = record { read = AllRead-join (built m.building) (row (without_built m)).emits (built-read m.building) h.read }

pub buffer-html : (row : Machine → Row) (m : Machine) → IsHtml (row m) → IsHtml (emitting_buffer row m)
buffer-html row m h = record { read = AllRead-join (map character m.buffer) (row m).emits (characters-read m.buffer) h.read }

pub back-html : (m : Machine) → IsHtml (back m)
back-html m = again-html (return_state m.return_to) m

pub flushing-html : (m : Machine) → IsHtml (flushing back m)
flushing-html m = either-html (is_in_value m.return_to) (back-html (record m { building = put Value m.buffer m.building })) (buffer-html back m (back-html m))

pub ruleset html = (either-html, go-html, stay-html, plus-html, again-html, ended-html, emitting-html, buffer-html, back-html, flushing-html)

-- what a flush emits
pub flushed-read : (m : Machine) → AllRead (flushed_tokens m)
flushed-read m = by_cases (is_in_value m.return_to)
  where
    by_cases : (b : Bool) → AllRead (cond b [] (map character m.buffer))
    by_cases true = tt
    by_cases false = characters-read m.buffer
