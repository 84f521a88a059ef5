-- Rows made by the combinators read a code point for good or go to a state of a lower rank, and emit code points one by one.
use Rattle.std.proofs.Common.{◌≡◌, ℕ, ◌<◌, List, [], ◌∷◌, ◌++◌, Bool, true, false, cond, map, refl, subst, sym, arith, Option, None, Some}
use Rattle.hp_elements.specs.declared.token.Token.{Token}
use Rattle.hp_tokens.specs.declared.state.State.{State}
use Rattle.hp_tokens.specs.declared.state.Return.{Return}
use Rattle.hp_tokens.specs.declared.state.Return.TheVariants as returns
use Rattle.hp_tokens.specs.declared.building.Building.{Building}
use Rattle.hp_tokens.specs.declared.building.Building.TheVariants as building
use Rattle.hp_tokens.specs.declared.building.Part.TheVariants.{Value}
use Rattle.hp_tokens.specs.declared.machine.Machine.{Machine}
use Rattle.hp_tokens.specs.States.{return_state, is_in_value}
use Rattle.hp_tokens.specs.Parts.{built, put}
use Rattle.hp_tokens.specs.Rows.{Row, character, go, again, stay, plus, ended, back, without_built, emitting_built, emitting_buffer, flushing, flushed_tokens}
use Rattle.hp_tokens.specs.Ranks.{rank, AreSingle, IsFine}

AreSingle-join : (xs ys : List Token) → AreSingle xs → AreSingle ys → AreSingle (xs ++ ys)
AreSingle-join [] ys h k = k
AreSingle-join (x ∷ xs) ys h k = (h.0, AreSingle-join xs ys h.1 k)

built-single : (b : Building) → AreSingle (built b)
built-single building.Nothing = tt
built-single (building.StartTag t) = (tt, tt)
built-single (building.EndTag name) = (tt, tt)
built-single (building.Comment text) = (tt, tt)
built-single (building.Doctype d) = (tt, tt)

pub characters-single : (xs : List ℕ) → AreSingle (map character xs)
characters-single [] = tt
characters-single (x ∷ xs) = ((x, refl, refl), characters-single xs)

pub either-fine : {s : State} {symbol : Option ℕ} (b : Bool) {x y : Row} → IsFine s symbol x → IsFine s symbol y → IsFine s symbol (cond b x y)
either-fine true h k = h
either-fine false h k = k

pub go-fine : {s : State} {c : ℕ} (n : State) (m : Machine) → IsFine s (Some c) (go n m)
go-fine n m = record { falls = tt; single = tt }

pub stay-fine : {s : State} {c : ℕ} (m : Machine) → IsFine s (Some c) (stay m)
stay-fine m = record { falls = tt; single = tt }

pub plus-fine : {s : State} {symbol : Option ℕ} (x : ℕ) (r : Row) → IsFine s symbol r → IsFine s symbol (plus x r)
plus-fine x r h = record { falls = h.falls; single = ((x, refl, refl), h.single) }

pub again-fine : {s : State} {c : ℕ} (n : State) (m : Machine) → rank n (Some c) < rank s (Some c) → IsFine s (Some c) (again n m)
again-fine n m h = record { falls = h; single = tt }

pub again_end-fine : {s : State} (n : State) (m : Machine) → rank n None < rank s None → IsFine s None (again n m)
again_end-fine n m h = record { falls = h; single = tt }

pub ended-fine : {s : State} (m : Machine) → IsFine s None (ended m)
ended-fine m = record { falls = tt; single = (tt, tt) }

pub emitting-fine : {s : State} {symbol : Option ℕ} (row : Machine → Row) (m : Machine) → IsFine s symbol (row (without_built m))
    → IsFine s symbol (emitting_built row m)
emitting-fine row m h = record { falls = h.falls; single = AreSingle-join (built m.building) (row (without_built m)).emits (built-single m.building) h.single }

pub buffer-fine : {s : State} {symbol : Option ℕ} (row : Machine → Row) (m : Machine) → IsFine s symbol (row m)
    → IsFine s symbol (emitting_buffer row m)
buffer-fine row m h = record { falls = h.falls; single = AreSingle-join (map character m.buffer) (row m).emits (characters-single m.buffer) h.single }

pub returns-rest : (r : Return) (symbol : Option ℕ) → rank (return_state r) symbol ≡ 0
returns-rest returns.Data symbol = refl
returns-rest returns.Rcdata symbol = refl
returns-rest returns.DoubleQuoted symbol = refl
returns-rest returns.SingleQuoted symbol = refl
returns-rest returns.Unquoted symbol = refl

pub back-fine : {s : State} {c : ℕ} (m : Machine) → 0 < rank s (Some c) → IsFine s (Some c) (back m)
back-fine {s} {c} m h =
    let P : ℕ → Type 0 = λ n. n < rank s (Some c) in
    again-fine (return_state m.return_to) m (subst P (sym (returns-rest m.return_to (Some c))) h)

pub back_end-fine : {s : State} (m : Machine) → 0 < rank s None → IsFine s None (back m)
back_end-fine {s} m h =
    let P : ℕ → Type 0 = λ n. n < rank s None in
    again_end-fine (return_state m.return_to) m (subst P (sym (returns-rest m.return_to None)) h)

pub flushing-fine : {s : State} {c : ℕ} (m : Machine) → 0 < rank s (Some c) → IsFine s (Some c) (flushing back m)
flushing-fine m h = either-fine (is_in_value m.return_to) (back-fine (record m { building = put Value m.buffer m.building }) h) (buffer-fine back m (back-fine m h))

pub flushing_end-fine : {s : State} (m : Machine) → 0 < rank s None → IsFine s None (flushing back m)
flushing_end-fine m h = either-fine (is_in_value m.return_to) (back_end-fine (record m { building = put Value m.buffer m.building }) h) (buffer-fine back m (back_end-fine m h))

pub ruleset fine = (arith, either-fine, go-fine, stay-fine, plus-fine, again-fine, again_end-fine, ended-fine, emitting-fine, buffer-fine, back-fine, back_end-fine, flushing-fine, flushing_end-fine)

-- what a flush emits
pub flushed-single : (m : Machine) → AreSingle (flushed_tokens m)
flushed-single m = by_cases (is_in_value m.return_to)
  where
    by_cases : (b : Bool) → AreSingle (cond b [] (map character m.buffer))
    by_cases true = tt
    by_cases false = characters-single m.buffer
