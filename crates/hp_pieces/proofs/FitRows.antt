-- A machine with no parts but those that its state uses, which was told a last start tag: rows made by the combinators keep that.
use Rattle.std.proofs.Common.{◌≡◌, ℕ, List, [], Bool, true, false, cond, refl, ap, ◌∙◌, Option}
use Rattle.std.specs.Prelude.{IsSome}
use Rattle.hp_tokens.specs.declared.state.State.{State}
use Rattle.hp_tokens.specs.declared.state.Return.TheVariants as returns
use Rattle.hp_tokens.specs.declared.building.Building.{Building}
use Rattle.hp_tokens.specs.declared.building.Building.TheVariants as building
use Rattle.hp_tokens.specs.declared.building.Part.TheVariants.{Value}
use Rattle.hp_tokens.specs.declared.machine.Machine.{Machine}
use Rattle.hp_tokens.specs.States.{enter, is_in_value, return_state, uses_buffer, uses_return, uses_token, uses_value}
use Rattle.hp_tokens.specs.Parts.{last_tag_after, put}
use Rattle.hp_tokens.specs.Rows.{Row, go, again, stay, plus, back, flushed, without_built, emitting_built, emitting_buffer, flushing}

pub record Fits (m : Machine) : Type 0 where
  pub building : cond (uses_token m.state) m.building building.Nothing ≡ m.building
  pub buffer : cond (uses_buffer m.state) m.buffer [] ≡ m.buffer
  pub return_to : cond (uses_return m.state) m.return_to returns.Data ≡ m.return_to
  pub value : cond (uses_value m.state) m.value 0 ≡ m.value
  pub told : IsSome m.last_tag

pub record Keeps (r : Row) : Type 0 where
  pub fits : Fits r.to

twice : {A : Type 0} (b : Bool) (x y : A) → cond b (cond b x y) y ≡ cond b x y
twice true x y = refl
twice false x y = refl

-- a move into a state
pub entered : (n : State) (m : Machine) → IsSome m.last_tag → Fits (enter n m)
entered n m h = record {
  building = twice (uses_token n) m.building building.Nothing;
  buffer = twice (uses_buffer n) m.buffer [];
  return_to = twice (uses_return n) m.return_to returns.Data;
  value = twice (uses_value n) m.value 0;
  told = h;
}

-- the part that the state uses may be any
used : {A : Type 0} (b : Bool) (x y : A) → b ≡ true → cond b x y ≡ x
used b x y h = ap (λ c. cond c x y) h

pub built-fits : (s : State) (m : Machine) (x : Building) → m.state ≡ s → uses_token s ≡ true → Fits m → Fits (record m { building = x })
built-fits s m x e u h = record {
  building = used (uses_token m.state) x building.Nothing (ap uses_token e ∙ u);
  buffer = h.buffer;
  return_to = h.return_to;
  value = h.value;
  told = h.told;
}

pub buffer-fits : (s : State) (m : Machine) (x : List ℕ) → m.state ≡ s → uses_buffer s ≡ true → Fits m → Fits (record m { buffer = x })
buffer-fits s m x e u h = record {
  building = h.building;
  buffer = used (uses_buffer m.state) x [] (ap uses_buffer e ∙ u);
  return_to = h.return_to;
  value = h.value;
  told = h.told;
}

pub value-fits : (s : State) (m : Machine) (x : ℕ) → m.state ≡ s → uses_value s ≡ true → Fits m → Fits (record m { value = x })
value-fits s m x e u h = record {
  building = h.building;
  buffer = h.buffer;
  return_to = h.return_to;
  value = used (uses_value m.state) x 0 (ap uses_value e ∙ u);
  told = h.told;
}

-- whether the last code point was CR is no part
pub cr-fits : (m : Machine) (b : Bool) → Fits m → Fits (record m { after_cr = b })
cr-fits m b h = record { building = h.building; buffer = h.buffer; return_to = h.return_to; value = h.value; told = h.told }

pub told-after : (b : Building) (o : Option (List ℕ)) → IsSome o → IsSome (last_tag_after b o)
told-after building.Nothing o h = h
told-after (building.StartTag t) o h = refl
told-after (building.EndTag name) o h = h
told-after (building.Comment text) o h = h
told-after (building.Doctype d) o h = h

pub either-keeps : (b : Bool) {x y : Row} → Keeps x → Keeps y → Keeps (cond b x y)
either-keeps true h k = h
either-keeps false h k = k

pub go-keeps : (n : State) (m : Machine) → IsSome m.last_tag → Keeps (go n m)
go-keeps n m h = record { fits = entered n m h }

pub again-keeps : (n : State) (m : Machine) → IsSome m.last_tag → Keeps (again n m)
again-keeps n m h = record { fits = entered n m h }

pub stay-keeps : (m : Machine) → Fits m → Keeps (stay m)
stay-keeps m h = record { fits = h }

pub plus-keeps : (x : ℕ) (r : Row) → Keeps r → Keeps (plus x r)
plus-keeps x r h = record { fits = h.fits }

pub emitting-keeps : (row : Machine → Row) (m : Machine) → Keeps (row (without_built m)) → Keeps (emitting_built row m)
emitting-keeps row m h = record { fits = h.fits }

pub buffer-keeps : (row : Machine → Row) (m : Machine) → Keeps (row m) → Keeps (emitting_buffer row m)
buffer-keeps row m h = record { fits = h.fits }

pub back-keeps : (m : Machine) → IsSome m.last_tag → Keeps (back m)
back-keeps m h = again-keeps (return_state m.return_to) m h

pub flushing-keeps : (m : Machine) → IsSome m.last_tag → Keeps (flushing back m)
flushing-keeps m h = either-keeps (is_in_value m.return_to) (back-keeps (record m { building = put Value m.buffer m.building }) h) (buffer-keeps back m (back-keeps m h))

pub ruleset keeps = (told-after, either-keeps, go-keeps, again-keeps, stay-keeps, plus-keeps, emitting-keeps, buffer-keeps, back-keeps, flushing-keeps)

-- a flush changes what is built alone
pub flushed-told : (m : Machine) → IsSome m.last_tag → IsSome (flushed m).last_tag
flushed-told m h = by_cases (is_in_value m.return_to)
  where
    by_cases : (b : Bool) → IsSome (cond b (record m { building = put Value m.buffer m.building }) m).last_tag
    by_cases true = h
    by_cases false = h
