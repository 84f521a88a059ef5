-- Rows emit characters alone, but where they go to a rest.
use Rattle.std.proofs.Common.{◌≡◌, ℕ, Bool, true, false, cond, refl, ◌⊎◌, inl, inr, Some}
use Rattle.hp_tokens.specs.declared.state.State.{State}
use Rattle.hp_tokens.specs.declared.state.State.TheVariants.{BogusComment, Data}
use Rattle.hp_tokens.specs.declared.building.Part.TheVariants.{Value}
use Rattle.hp_tokens.specs.declared.machine.Machine.{Machine}
use Rattle.hp_tokens.specs.States.{is_in_value, is_resting, return_state}
use Rattle.hp_tokens.specs.Parts.{put}
use Rattle.hp_tokens.specs.Rows.{Row, go, again, stay, ended, plus, back, emitting_built, emitting_buffer, flushing}
use Rattle.hp_lex_tags.specs.Rows as tags
use Rattle.hp_lex_raw.specs.Rows as raw
use Rattle.hp_lex_markup.specs.Rows as markup
use Rattle.hp_runs.specs.Closing.{AreCharacters}
use Rattle.hp_runs.proofs.ClosingRows.{AreCharacters-join}

pub record Settles (r : Row) : Type 0 where
  pub how : AreCharacters r.emits ⊎ (is_resting r.to.state ≡ true)

either-settles : (b : Bool) {x y : Row} → Settles x → Settles y → Settles (cond b x y)
either-settles true h k = h
either-settles false h k = k

emitting-settles : (m : Machine) → Settles (emitting_built (go Data) m)
emitting-settles m = record { how = inr refl }

go-settles : (n : State) (m : Machine) → Settles (go n m)
go-settles n m = record { how = inl tt }

ended-settles : (m : Machine) → Settles (ended m)
ended-settles m = record { how = inr refl }

stay-settles : (m : Machine) → Settles (stay m)
stay-settles m = record { how = inl tt }

again-settles : (n : State) (m : Machine) → Settles (again n m)
again-settles n m = record { how = inl tt }

plus-settles : (x : ℕ) (r : Row) → Settles r → Settles (plus x r)
plus-settles x r h = at h.how
  where
    at : AreCharacters r.emits ⊎ (is_resting r.to.state ≡ true) → Settles (plus x r)
    at (inl a) = record { how = inl a }
    at (inr e) = record { how = inr e }

buffer-settles : (row : Machine → Row) (m : Machine) → Settles (row m) → Settles (emitting_buffer row m)
buffer-settles row m h = at h.how
  where
    at : AreCharacters (row m).emits ⊎ (is_resting (row m).to.state ≡ true) → Settles (emitting_buffer row m)
    at (inl a) = record { how = inl (AreCharacters-join m.buffer (row m).emits a) }
    at (inr e) = record { how = inr e }

back-settles : (m : Machine) → Settles (back m)
back-settles m = again-settles (return_state m.return_to) m

flushing-settles : (m : Machine) → Settles (flushing back m)
flushing-settles m =
    either-settles (is_in_value m.return_to) (back-settles (record m { building = put Value m.buffer m.building })) (buffer-settles back m (back-settles m))

ruleset settles = (either-settles, emitting-settles, ended-settles, go-settles, stay-settles, plus-settles, again-settles, buffer-settles, back-settles, flushing-settles)

each_tag_settles : (s : State) (m : Machine) (c : ℕ) → Settles (tags.row_of s m (Some c))
each_tag_settles Data m c = search settles depth 9
each_tag_settles _ m c = search settles depth 9

pub tags_settle : (m : Machine) (c : ℕ) → Settles (tags.row m (Some c))
tags_settle m c = each_tag_settles m.state m c

each_raw_settles : (s : State) (m : Machine) (c : ℕ) → Settles (raw.row_of s m (Some c))
each_raw_settles Data m c = search settles depth 9
each_raw_settles _ m c = search settles depth 9

pub raw_settle : (m : Machine) (c : ℕ) → Settles (raw.row m (Some c))
raw_settle m c = each_raw_settles m.state m c

each_markup_settles : (s : State) (m : Machine) (c : ℕ) → Settles (markup.row_of s m (Some c))
each_markup_settles BogusComment m c = search settles depth 9
each_markup_settles _ m c = search settles depth 9

pub markup_settles : (m : Machine) (c : ℕ) → Settles (markup.row m (Some c))
markup_settles m c = each_markup_settles m.state m c
