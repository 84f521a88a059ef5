-- Rows made by the combinators emit characters alone, but where they consume `>`.
use Rattle.std.proofs.Common.{◌≡◌, ℕ, List, [], ◌∷◌, ◌++◌, Bool, true, false, cond, map, refl, subst, sym, ◌⊎◌, inl, inr}
use Rattle.std.specs.Prelude.{◌==◌}
use Rattle.hp_elements.specs.declared.token.Token.{Token}
use Rattle.hp_tokens.specs.declared.state.State.{State}
use Rattle.hp_tokens.specs.declared.building.Part.TheVariants.{Value}
use Rattle.hp_tokens.specs.declared.machine.Machine.{Machine}
use Rattle.hp_tokens.specs.declared.rows.Reads.TheVariants.{Consume}
use Rattle.hp_tokens.specs.States.{return_state, is_in_value}
use Rattle.hp_tokens.specs.Advancing.{tokens_of}
use Rattle.hp_tokens.specs.Moves.{all_began}
use Rattle.hp_tokens.specs.Parts.{put}
use Rattle.hp_tokens.specs.Rows.{Row, character, go, again, stay, plus, back, emitting_built, emitting_buffer, flushing, flushed_tokens}
use Rattle.hp_runs.specs.Closing.{AreCharacters}
use Rattle.hp_runs.proofs.Began.{tokens-began}

pub record Closes (c : ℕ) (r : Row) : Type 0 where
  pub how : AreCharacters r.emits ⊎ (((c == 62) ≡ true) × (r.reads ≡ Consume))

pub AreCharacters-join : (xs : List ℕ) (ts : List Token) → AreCharacters ts → AreCharacters (map character xs ++ ts)
AreCharacters-join [] ts h = h
AreCharacters-join (x ∷ xs) ts h = AreCharacters-join xs ts h

pub characters-alone : (xs : List ℕ) → AreCharacters (map character xs)
characters-alone [] = tt
characters-alone (x ∷ xs) = characters-alone xs

pub either-closes : (b : Bool) {c : ℕ} {x y : Row} → Closes c x → Closes c y → Closes c (cond b x y)
either-closes true h k = h
either-closes false h k = k

pub closing-closes : (c : ℕ) (n : State) (m : Machine) (y : Row) → Closes c y → Closes c (cond (c == 62) (emitting_built (go n) m) y)
closing-closes c n m y h = at (c == 62) refl
  where
    at : (b : Bool) → (c == 62) ≡ b → Closes c (cond b (emitting_built (go n) m) y)
    at true e = record { how = inr (e, refl) }
    at false e = h

pub go-closes : (c : ℕ) (n : State) (m : Machine) → Closes c (go n m)
go-closes c n m = record { how = inl tt }

pub stay-closes : (c : ℕ) (m : Machine) → Closes c (stay m)
stay-closes c m = record { how = inl tt }

pub again-closes : (c : ℕ) (n : State) (m : Machine) → Closes c (again n m)
again-closes c n m = record { how = inl tt }

pub plus-closes : (c x : ℕ) (r : Row) → Closes c r → Closes c (plus x r)
plus-closes c x r h = at h.how
  where
    at : AreCharacters r.emits ⊎ (((c == 62) ≡ true) × (r.reads ≡ Consume)) → Closes c (plus x r)
    at (inl a) = record { how = inl a }
    at (inr e) = record { how = inr e }

pub buffer-closes : (c : ℕ) (row : Machine → Row) (m : Machine) → Closes c (row m) → Closes c (emitting_buffer row m)
buffer-closes c row m h = at h.how
  where
    at : AreCharacters (row m).emits ⊎ (((c == 62) ≡ true) × ((row m).reads ≡ Consume)) → Closes c (emitting_buffer row m)
    at (inl a) = record { how = inl (AreCharacters-join m.buffer (row m).emits a) }
    at (inr e) = record { how = inr e }

pub back-closes : (c : ℕ) (m : Machine) → Closes c (back m)
back-closes c m = again-closes c (return_state m.return_to) m

pub flushing-closes : (c : ℕ) (m : Machine) → Closes c (flushing back m)
flushing-closes c m =
    either-closes (is_in_value m.return_to) (back-closes c (record m { building = put Value m.buffer m.building })) (buffer-closes c back m (back-closes c m))

pub ruleset closes = (either-closes, closing-closes, go-closes, stay-closes, plus-closes, again-closes, buffer-closes, back-closes, flushing-closes)

-- what a flush emits
pub flushed-alone : (m : Machine) → AreCharacters (flushed_tokens m)
flushed-alone m = by_cases (is_in_value m.return_to)
  where
    by_cases : (b : Bool) → AreCharacters (cond b [] (map character m.buffer))
    by_cases true = tt
    by_cases false = characters-alone m.buffer

pub began_alone : (place : ℕ) (ts : List Token) → AreCharacters ts → AreCharacters (tokens_of (all_began place ts))
began_alone place ts h = subst AreCharacters (sym (tokens-began place ts)) h
