-- The usual tag read straight from the page: where the rows stand at what was read of it so far.
use Rattle.std.specs.Prelude.{◌≡◌, ℕ, ◌<◌, ◌≤◌, ◌&&◌, not, Bool, true, false, List, [], ◌∷◌, length, Option, Some, None, IsTrue, ◌==◌}
use Rattle.hp_names.specs.References.{Reference}
use Rattle.hp_elements.specs.Names.{lowered}
use Rattle.hp_elements.specs.declared.tag.Attribute.{Attribute}
use Rattle.hp_elements.specs.declared.token.Token.{Token}
use Rattle.hp_elements.specs.declared.token.Token.TheVariants as token
use Rattle.hp_tokens.specs.declared.state.State.{State}
use Rattle.hp_tokens.specs.declared.state.State.TheVariants.{Data, TagName, BeforeAttributeName, AttributeName, AfterAttributeName, AfterAttributeValueQuoted}
use Rattle.hp_tokens.specs.declared.state.Return.{Return}
use Rattle.hp_tokens.specs.declared.state.Return.TheVariants as returns
use Rattle.hp_tokens.specs.declared.building.Building.{Building}
use Rattle.hp_tokens.specs.declared.building.Building.TheVariants.{Nothing, StartTag}
use Rattle.hp_tokens.specs.declared.building.NewAttribute.{NewAttribute}
use Rattle.hp_tokens.specs.declared.building.NewTag.{NewTag}
use Rattle.hp_tokens.specs.declared.machine.Machine.{Machine}
use Rattle.hp_tokens.specs.declared.building.Part.TheVariants.{Value}
use Rattle.hp_tokens.specs.Reading.{Unread, ReadsRun}
use Rattle.hp_tokens.specs.Rows.{go}
use Rattle.hp_tokens.specs.Plain.{none_of, tag_name_stops, PutsPlain}
use Rattle.hp_lex_tags.specs.Rows.{has_row, row}
use Rattle.hp_tokens.specs.States.{uses_token, uses_buffer, uses_return, uses_value, is_resting, return_state, is_in_value}
use Rattle.hp_tokens.specs.Parts.{added, finished_tag}
use Rattle.hp_tokens.specs.Moves.{Lexing, makes, move}
use Rattle.hp_tokens.specs.Runs.{Leads}
use Rattle.hp_lex_tags.specs.Tags.{tag_rules, EmitsLast}
use Rattle.hp_lex_tags.specs.declared.straight.Way.{Way}
use Rattle.hp_lex_tags.specs.declared.straight.Way.TheVariants as way

-- the machine in a state of tags, which uses nothing but what is built
abbrev pub tagging : Option (List ℕ) → State → Building → Machine
tagging last s b = record {
  state = s;
  building = b;
  buffer = [];
  return_to = returns.Data;
  value = 0;
  last_tag = last;
  after_cr = false;
}

-- a lexer that stands there, and rested last at the start of the tag
abbrev pub tagging_at : Option (List ℕ) → State → Building → ℕ → ℕ → List ℕ → Lexing
tagging_at last s b place rested unread = record { machine = tagging last s b; place = place; rested = rested; unread = unread }

-- the same at a place of the page
abbrev pub within : Option (List ℕ) → ℕ → State → Building → Unread → Lexing
within last start s b input = record { machine = tagging last s b; place = input.place; rested = start; unread = input.text }

-- a lexer that rests behind the tag
abbrev pub behind_tag : Option (List ℕ) → Unread → Lexing
behind_tag last input = record { machine = tagging last Data Nothing; place = input.place; rested = input.place; unread = input.text }

-- a start tag of which so much was read: its name, its finished attributes, and the one read last
pub record Reading : Type 0 where
  pub name : List ℕ
  pub attributes : List Attribute
  pub last : Option NewAttribute

-- the start tag as the rows have it under construction
abbrev pub tag_of : Reading → NewTag
tag_of reading = record { name = reading.name; attributes = reading.attributes; attribute = reading.last; self_closing = false }

-- its attributes, the last one among them
abbrev pub gathered : Reading → List Attribute
gathered reading = added reading.attributes reading.last

-- a tag whose attributes are finished, and one with one more that was read last
abbrev pub bare : List ℕ → List Attribute → Reading
bare tag attributes = record { name = tag; attributes = attributes; last = None }

abbrev pub ending : List ℕ → List Attribute → List ℕ → List ℕ → Reading
ending tag attributes name value = record { name = tag; attributes = attributes; last = Some (record { name = name; value = value }) }

-- the same with this attribute under construction
abbrev pub naming : Reading → List ℕ → List ℕ → Building
naming reading name value =
    StartTag (record { name = reading.name; attributes = reading.attributes; attribute = Some (record { name = name; value = value }); self_closing = false })

-- the states between two attributes
abbrev pub is_between : State → Bool
is_between BeforeAttributeName = true
is_between AfterAttributeName = true
is_between _ = false

-- the states in which `/` and `>` end what was read before
abbrev pub ends_part : State → Bool
ends_part TagName = true
ends_part BeforeAttributeName = true
ends_part AttributeName = true
ends_part AfterAttributeName = true
ends_part AfterAttributeValueQuoted = true
ends_part _ = false

-- the state behind white space
abbrev pub behind_blanks : State → State
behind_blanks AttributeName = AfterAttributeName
behind_blanks AfterAttributeName = AfterAttributeName
behind_blanks _ = BeforeAttributeName

-- the states that use nothing but what is built
abbrev pub uses_token_alone : State → Bool
uses_token_alone s = uses_token s && not (uses_buffer s) && not (uses_return s) && not (uses_value s) && not (is_resting s)

-- moves that emit nothing led from one state to another
pub record Onto (names : List Reference) (s : State) (b : Building) (old : Unread) (n : State) (d : Building) (new : Unread) : Type 0 where
  pub leads : (last : Option (List ℕ)) (start : ℕ)
      → Leads (move (tag_rules names)) (within last start s b old) [] (within last start n d new)
  pub shorter : length new.text ≤ length old.text

-- moves led behind the tag, and the last of them emitted it
pub record Closes (names : List Reference) (s : State) (b : Building) (old : Unread) (tag : Token) (name : Option (List ℕ) → Option (List ℕ)) (new : Unread) : Type 0 where
  pub n : State
  pub d : Building
  pub mid : Unread
  pub onto : Onto names s b old n d mid
  pub last : (last : Option (List ℕ)) (start : ℕ)
      → move (tag_rules names) (within last start n d mid) ≡ makes (behind_tag (name last) new) (record { began = start; token = tag } ∷ [])

-- a start tag is whole
abbrev pub ClosesStart : List Reference → State → Building → Unread → Bool → Reading → Unread → Type 0
ClosesStart names s b old closing reading new =
    Closes names s b old (token.Start closing (finished_tag (tag_of reading))) (λ last. Some reading.name) new

-- how far a start tag was read; where that is not to its end, nothing is promised
abbrev pub Arrives : List Reference → State → Building → Unread → Reading → Unread → Way → Type 0
Arrives names s b old reading new (way.At n) =
    Onto names s b old n (StartTag (tag_of reading)) new × (is_between n ≡ true) × (length new.text < length old.text)
Arrives names s b old reading new (way.Whole closing) = ClosesStart names s b old closing reading new
Arrives names s b old reading new way.Left = Unit {0}

-- the same behind a value in quotes, where the next name may begin at once
abbrev pub Continues : List Reference → Unread → Reading → Unread → Way → Type 0
Continues names old reading new (way.At n) =
    Onto names AfterAttributeValueQuoted (StartTag (tag_of reading)) old n (StartTag (tag_of reading)) new × (is_between n ≡ true)
Continues names old reading new w = Arrives names AfterAttributeValueQuoted (StartTag (tag_of reading)) old reading new w

-- an attribute of this name was kept, whose value was read on from here
pub record ValueKept (names : List Reference) (s : State) (name value : List ℕ) (attributes : List Attribute) (old : Unread) (longer : List Attribute) (new : Unread) (w : Way) : Type 0 where
  pub whole : List ℕ
  pub kept : longer ≡ added attributes (Some (record { name = name; value = whole }))
  pub arrives : (tag : List ℕ) → Arrives names s (naming (bare tag attributes) name value) old (ending tag attributes name whole) new w

-- a start tag that stood so was read on, and these are its attributes
pub record Further (names : List Reference) (s : State) (front : Reading) (old : Unread) (longer : List Attribute) (new : Unread) (w : Way) : Type 0 where
  pub to : Reading
  pub named : to.name ≡ front.name
  pub gathers : longer ≡ gathered to
  pub arrives : Arrives names s (StartTag (tag_of front)) old to new w

-- the same of each start tag that had these attributes before
abbrev pub TagGrows : List Reference → State → List Attribute → Unread → List Attribute → Unread → Way → Type 0
TagGrows names s attributes old longer new w = (front : Reading) → attributes ≡ gathered front → Further names s front old longer new w

-- the same where the rows stand between two attributes
pub record Stands (names : List Reference) (s : State) (front : Reading) (old : Unread) (n : State) (longer : List Attribute) (new : Unread) : Type 0 where
  pub to : Reading
  pub named : to.name ≡ front.name
  pub gathers : longer ≡ gathered to
  pub onto : Onto names s (StartTag (tag_of front)) old n (StartTag (tag_of to)) new

-- the text begins with a code point that passes
pub record BeginsBy (passes : ℕ → Bool) (text : List ℕ) : Type 0 where
  pub c : ℕ
  pub rest : List ℕ
  pub begins : text ≡ c ∷ rest
  pub passed : passes c ≡ true

-- in this state a value in such quotes is read
pub record IsQuoted (passes : ℕ → Bool) (mark : ℕ) (s : State) : Type 0 where
  pub has : IsTrue (has_row s)
  pub alone : uses_token_alone s ≡ true
  pub plain : PutsPlain row passes Value s
  pub no_cr : passes 13 ≡ false
  pub ends : (m : Machine) → m.state ≡ s → row m (Some mark) ≡ go AfterAttributeValueQuoted m
  pub apart : (mark == 13) ≡ false
  pub back : Return
  pub returns : s ≡ return_state back
  pub in_value : is_in_value back ≡ true

-- a value grew, while moves led on in its state
abbrev pub ValueGrows : List Reference → State → List ℕ → Unread → List ℕ → Unread → Type 0
ValueGrows names s value old longer new = (reading : Reading) (name : List ℕ) → Onto names s (naming reading name value) old s (naming reading name longer) new

-- the name of a tag was taken, and lowered
pub record NameTaken (old : Unread) (name : List ℕ) (new : Unread) : Type 0 where
  pub run : List ℕ
  pub reads : ReadsRun (none_of tag_name_stops) old run new
  pub is : name ≡ lowered run

-- a lexer that rested last at the start of the tag
abbrev pub standing_at : Machine → Unread → ℕ → Lexing
standing_at m input start = record { machine = m; place = input.place; rested = start; unread = input.text }

abbrev pub is_tag : Token → Bool
is_tag (token.Start closing tag) = true
is_tag (token.EndTag name) = true
is_tag _ = false

-- a tag was read, from one rest to the next; or nothing was
abbrev pub TagRead : List Reference → Machine → Unread → Machine → Unread → Option Token → Type 0
TagRead names m old n new (Some tag) =
    EmitsLast (tag_rules names) (standing_at m old old.place) tag (standing_at n new new.place) old.place × (n.state ≡ Data) × (is_tag tag ≡ true)
TagRead names m old n new None =
    (n ≡ m) × (new ≡ old)
