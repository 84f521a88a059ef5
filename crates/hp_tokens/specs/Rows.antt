-- The combinators by which the lexer's rows read like the standard's table (13.2.5.1 to 13.2.5.80).
use Rattle.std.specs.Prelude.{◌≡◌, ℕ, List, [], ◌∷◌, ◌++◌, ◌==◌, ◌||◌, Bool, None, map, if◌then◌else◌}
use Rattle.std.specs.Char.{to_ascii_lowercase}
use Rattle.hp_elements.specs.Tokens.{class_of}
use Rattle.hp_elements.specs.declared.token.Token.{Token}
use Rattle.hp_elements.specs.declared.token.Token.TheVariants as token
use Rattle.hp_tokens.specs.declared.state.State.{State}
use Rattle.hp_tokens.specs.declared.state.State.TheVariants.{Data}
use Rattle.hp_tokens.specs.declared.state.Return.{Return}
use Rattle.hp_tokens.specs.declared.state.Return.TheVariants as returns
use Rattle.hp_elements.specs.declared.token.Rest.{Rest}
use Rattle.hp_tokens.specs.declared.building.Building.TheVariants as building
use Rattle.hp_tokens.specs.declared.building.Part.{Part}
use Rattle.hp_tokens.specs.declared.building.Part.TheVariants.{Value}
use Rattle.hp_tokens.specs.declared.machine.Machine.{Machine}
use Rattle.hp_tokens.specs.declared.rows.Reads.{Reads}
use Rattle.hp_tokens.specs.declared.rows.Reads.TheVariants.{Consume, Again, End}
use Rattle.hp_tokens.specs.States.{enter, return_state, is_in_value, state_of_rest}
use Rattle.hp_tokens.specs.Parts.{put, start_tag, doctype, quirks_forced, self_closed, attribute_begun, built, last_tag_after}

-- what the standard calls whitespace here: tab, line feed, form feed and space (CR is read as LF)
abbrev pub is_blank : ℕ → Bool
is_blank c = c == 9 || c == 10 || c == 12 || c == 32

abbrev pub replacement : ℕ
replacement = 0xFFFD

-- a machine in a resting state, without a last start tag's name
abbrev pub resting : Rest → Bool → Machine
resting rest after_cr = record {
  state = state_of_rest rest;
  building = building.Nothing;
  buffer = [];
  return_to = returns.Data;
  value = 0;
  last_tag = None;
  after_cr = after_cr;
}

-- the token of one code point
abbrev pub character : ℕ → Token
character c = token.Characters (class_of c) (c ∷ [])

-- What a row gives on a code point, or on the end of input, which is `None`: the machine after it, what becomes of the
-- code point, and what is emitted.
pub record Row : Type 0 where
  pub to : Machine
  pub reads : Reads
  pub emits : List Token

-- the code point is consumed and the lexer goes to n; it is read again in n; it is consumed and the state stays
abbrev pub go : State → Machine → Row
go n m = record { to = enter n m; reads = Consume; emits = [] }

abbrev pub again : State → Machine → Row
again n m = record { to = enter n m; reads = Again; emits = [] }

abbrev pub stay : Machine → Row
stay m = record { to = m; reads = Consume; emits = [] }

-- a code point is emitted, and then what the rest of the row emits
abbrev pub plus : ℕ → Row → Row
plus x r = record r { emits = character x ∷ r.emits }

-- the end of input is emitted, and an unfinished tag is dropped
abbrev pub ended : Machine → Row
ended m = record { to = enter Data m; reads = End; emits = token.EndOfInput ∷ [] }

-- a code point, or a text, is appended to a part of what is built
abbrev pub putting : Part → ℕ → Machine → Machine
putting part c m = record m { building = put part (c ∷ []) m.building }

abbrev pub putting_text : Part → List ℕ → Machine → Machine
putting_text part text m = record m { building = put part text m.building }

-- ASCII upper case lowered
abbrev pub lowered : ℕ → ℕ
lowered c = to_ascii_lowercase c

-- U+0000 is replaced
abbrev pub replaced : ℕ → ℕ
replaced c = if c == 0 then replacement else c

-- a new token, a new attribute, and their flags
abbrev pub new_start_tag : Machine → Machine
new_start_tag m = record m { building = start_tag }

abbrev pub new_end_tag : Machine → Machine
new_end_tag m = record m { building = building.EndTag [] }

abbrev pub new_comment : Machine → Machine
new_comment m = record m { building = building.Comment [] }

abbrev pub new_doctype : Machine → Machine
new_doctype m = record m { building = doctype }

abbrev pub new_attribute : Machine → Machine
new_attribute m = record m { building = attribute_begun m.building }

abbrev pub self_closing : Machine → Machine
self_closing m = record m { building = self_closed m.building }

abbrev pub quirky : Machine → Machine
quirky m = record m { building = quirks_forced m.building }

-- the buffer, the return state and the value
abbrev pub with_buffer : List ℕ → Machine → Machine
with_buffer text m = record m { buffer = text }

abbrev pub buffering : ℕ → Machine → Machine
buffering c m = record m { buffer = m.buffer ++ c ∷ [] }

abbrev pub returning_to : Return → Machine → Machine
returning_to r m = record m { return_to = r }

abbrev pub with_value : ℕ → Machine → Machine
with_value v m = record m { value = v }

-- what was built is emitted, and then what the rest of the row emits; the name of a start tag is kept
abbrev pub without_built : Machine → Machine
without_built m = record m { building = building.Nothing; last_tag = last_tag_after m.building m.last_tag }

abbrev pub emitting_built : (Machine → Row) → Machine → Row
emitting_built row m = let r = row (without_built m) in record r { emits = built m.building ++ r.emits }

-- the buffer is emitted as it stands, and then what the rest of the row emits
abbrev pub emitting_buffer : (Machine → Row) → Machine → Row
emitting_buffer row m = let r = row m in record r { emits = map character m.buffer ++ r.emits }

-- back to the state that the character reference came from
abbrev pub back : Machine → Row
back m = again (return_state m.return_to) m

-- the buffer goes into the attribute's value, where the reference stands in one, otherwise it is emitted
abbrev pub flushing : (Machine → Row) → Machine → Row
flushing row m =
    if is_in_value m.return_to then row (record m { building = put Value m.buffer m.building })
    else emitting_buffer row m

-- the row was carried out: from these tokens to those, with this answer
pub record Follows (row : Row) (old_tokens : List Token) (new : Machine) (new_tokens : List Token) (answer : Reads) : Type 0 where
  pub to : new ≡ row.to
  pub reads : answer ≡ row.reads
  pub emits : new_tokens ≡ old_tokens ++ row.emits

-- what was built was emitted
pub record EmitsBuilt (old : Machine) (old_tokens : List Token) (new : Machine) (new_tokens : List Token) : Type 0 where
  pub to : new ≡ without_built old
  pub emits : new_tokens ≡ old_tokens ++ built old.building

-- the buffer went where it goes
abbrev pub flushed : Machine → Machine
flushed m = if is_in_value m.return_to then record m { building = put Value m.buffer m.building } else m

abbrev pub flushed_tokens : Machine → List Token
flushed_tokens m = if is_in_value m.return_to then [] else map character m.buffer

pub record Flushes (old : Machine) (old_tokens : List Token) (new : Machine) (new_tokens : List Token) : Type 0 where
  pub to : new ≡ flushed old
  pub emits : new_tokens ≡ old_tokens ++ flushed_tokens old
