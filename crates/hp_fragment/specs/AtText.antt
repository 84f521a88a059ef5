-- Where a text begins that is emitted as it stands (13.2.5.1 to 13.2.5.4).
use Rattle.std.specs.Prelude.{ℕ, Bool, true, false, List, [], ◌∷◌, Option, None, Some}
use Rattle.hp_tokens.specs.Plain.{none_of}
use Rattle.hp_tokens.specs.declared.state.State.{State}
use Rattle.hp_tokens.specs.declared.state.State.TheVariants.{Data, Rawtext, Rcdata, ScriptData}

-- the states of text
abbrev pub is_of_text : State → Bool
is_of_text Data = true
is_of_text Rcdata = true
is_of_text Rawtext = true
is_of_text ScriptData = true
is_of_text _ = false

-- what none of them emits as it stands: U+0000, `&` and `<`
abbrev pub text_stops : List ℕ
text_stops = 0 ∷ 38 ∷ 60 ∷ []

-- the first byte of a text, where it has one, is none of these
abbrev pub begins_text : Option ℕ → Bool
begins_text None = false
begins_text (Some byte) = none_of text_stops byte
