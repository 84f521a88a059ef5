-- A machine whose token under construction is its state's: rows made by the combinators keep that.
use Rattle.std.proofs.Common.{◌≡◌, ℕ, List, [], ◌∷◌, Bool, true, false, ◌&&◌, ◌||◌, cond, refl, Option, None, Some}
use Rattle.std.specs.Prelude.{◌==◌}
use Rattle.hp_tokens.specs.declared.building.Building.{Building}
use Rattle.hp_tokens.specs.declared.building.Building.TheVariants as building
use Rattle.hp_tokens.specs.declared.building.NewAttribute.{NewAttribute}
use Rattle.hp_tokens.specs.declared.building.Part.{Part}
use Rattle.hp_tokens.specs.declared.building.Part.TheVariants as part
use Rattle.hp_tokens.specs.declared.machine.Machine.{Machine}
use Rattle.hp_tokens.specs.declared.rows.Reads.{Reads}
use Rattle.hp_tokens.specs.declared.rows.Reads.TheVariants.{Consume, Again, End}
use Rattle.hp_tokens.specs.declared.state.Return.{Return}
use Rattle.hp_tokens.specs.declared.state.Return.TheVariants as returns
use Rattle.hp_tokens.specs.declared.state.State.{State}
use Rattle.hp_tokens.specs.declared.state.State.TheVariants.{AfterAttributeName}
use Rattle.hp_tokens.specs.Parts.{attribute_begun, longer_name, longer_value, put, quirks_forced}
use Rattle.hp_tokens.specs.Rows.{Row, go, again, stay, plus, back, flushed, without_built, emitting_built, emitting_buffer, flushing}
use Rattle.hp_tokens.specs.States.{is_in_value, return_state, uses_return, uses_token}
use Rattle.hp_tokens.specs.Valid.{has_token, has_value, is_begun, is_comment, is_doctype, is_end_tag, is_nothing, is_tag, is_tag_with_attribute}
use Rattle.hp_lex_tags.specs.Letters.{greater_than, solidus}

abbrev pub ends_tag : ℕ → Bool
ends_tag c = c == solidus || c == greater_than

-- The token is the state's, where that text is unread. What ends a tag is read again behind the name of an attribute, also where the tag has none.
abbrev pub has_own : State → List ℕ → Return → Building → Bool
has_own AfterAttributeName (c ∷ cs) r b = is_tag_with_attribute b || (is_tag b && ends_tag c)
has_own s text r b = has_token s r b

abbrev pub owns : Machine → List ℕ → Bool
owns m text = has_own m.state text m.return_to m.building

-- what is unread behind a row on a code point
abbrev pub left_unread : Reads → ℕ → List ℕ → List ℕ
left_unread Consume c cs = cs
left_unread Again c cs = c ∷ cs
left_unread End c cs = []

pub record Owns (c : ℕ) (cs : List ℕ) (r : Row) : Type 0 where
  pub own : owns r.to (left_unread r.reads c cs) ≡ true

-- text that is appended changes no kind of token
put-nothing : (p : Part) (text : List ℕ) (b : Building) → is_nothing b ≡ true → is_nothing (put p text b) ≡ true
put-nothing p text building.Nothing h = refl
put-nothing p text _ h = h

pub put-tag : (p : Part) (text : List ℕ) (b : Building) → is_tag b ≡ true → is_tag (put p text b) ≡ true
put-tag p text building.Nothing h = h
put-tag p text _ h = h

pub put-end : (p : Part) (text : List ℕ) (b : Building) → is_end_tag b ≡ true → is_end_tag (put p text b) ≡ true
put-end p text building.Nothing h = h
put-end p text _ h = h

pub put-comment : (p : Part) (text : List ℕ) (b : Building) → is_comment b ≡ true → is_comment (put p text b) ≡ true
put-comment p text building.Nothing h = h
put-comment p text _ h = h

pub put-doctype : (p : Part) (text : List ℕ) (b : Building) → is_doctype b ≡ true → is_doctype (put p text b) ≡ true
put-doctype p text building.Nothing h = h
put-doctype p text _ h = h

longer-name : (text : List ℕ) (o : Option NewAttribute) → is_begun o ≡ true → is_begun (longer_name text o) ≡ true
longer-name text None h = h
longer-name text (Some a) h = refl

longer-value : (text : List ℕ) (o : Option NewAttribute) → is_begun o ≡ true → is_begun (longer_value text o) ≡ true
longer-value text None h = h
longer-value text (Some a) h = refl

pub put-attribute : (p : Part) (text : List ℕ) (b : Building) → is_tag_with_attribute b ≡ true → is_tag_with_attribute (put p text b) ≡ true
put-attribute part.AttributeName text (building.StartTag t) h = longer-name text t.attribute h
put-attribute part.Value text (building.StartTag t) h = longer-value text t.attribute h
put-attribute _ text (building.StartTag t) h = h
put-attribute p text _ h = h

pub put-value : (p : Part) (text : List ℕ) (r : Return) (b : Building) → has_value r b ≡ true → has_value r (put p text b) ≡ true
put-value p text returns.Data b h = put-nothing p text b h
put-value p text returns.Rcdata b h = put-nothing p text b h
put-value p text _ b h = put-attribute p text b h

pub quirky-doctype : (b : Building) → is_doctype b ≡ true → is_doctype (quirks_forced b) ≡ true
quirky-doctype (building.Doctype d) h = refl
quirky-doctype _ h = h

-- a tag with an attribute under construction is a tag, as an end tag is; a tag whose attribute begins has one
pub tag-of : (b : Building) → is_tag_with_attribute b ≡ true → is_tag b ≡ true
tag-of (building.StartTag t) h = refl
tag-of (building.EndTag name) h = refl
tag-of _ h = h

pub end-tag : (b : Building) → is_end_tag b ≡ true → is_tag b ≡ true
end-tag (building.EndTag name) h = refl
end-tag (building.StartTag t) h = refl
end-tag _ h = h

pub begun-attribute : (b : Building) → is_tag b ≡ true → is_tag_with_attribute (attribute_begun b) ≡ true
begun-attribute (building.StartTag t) h = refl
begun-attribute (building.EndTag name) h = refl
begun-attribute _ h = h

pub or-left : (a b : Bool) → a ≡ true → (a || b) ≡ true
or-left true b h = refl
or-left false b h = cc

-- an attribute is there, whatever is unread
pub still : (text : List ℕ) (r : Return) (b : Building) → is_tag_with_attribute b ≡ true → has_own AfterAttributeName text r b ≡ true
still [] r b h = h
still (c ∷ cs) r b h = or-left (is_tag_with_attribute b) (is_tag b && ends_tag c) h

-- the state that a reference goes back to
pub returned : (r other : Return) (b : Building) (text : List ℕ) → has_value r b ≡ true
    → has_own (return_state r) text (cond (uses_return (return_state r)) other returns.Data) (cond (uses_token (return_state r)) b building.Nothing) ≡ true
returned returns.Data other b text h = refl
returned returns.Rcdata other b text h = refl
returned _ other b text h = h

pub either-owns : {c : ℕ} {cs : List ℕ} (b : Bool) {x y : Row} → Owns c cs x → Owns c cs y → Owns c cs (cond b x y)
either-owns true h k = h
either-owns false h k = k

-- where it decides
pub chosen-owns : {c : ℕ} {cs : List ℕ} (b : Bool) {x y : Row} → (b ≡ true → Owns c cs x) → (b ≡ false → Owns c cs y) → Owns c cs (cond b x y)
chosen-owns true h k = h refl
chosen-owns false h k = k refl

pub state-owns : {c : ℕ} {cs : List ℕ} (b : Bool) (n k : State) (m : Machine) → Owns c cs (go n m) → Owns c cs (go k m) → Owns c cs (go (cond b n k) m)
state-owns true n k m h i = h
state-owns false n k m h i = i

pub go-owns : {c : ℕ} {cs : List ℕ} (n : State) (m : Machine) → has_own n cs (cond (uses_return n) m.return_to returns.Data) (cond (uses_token n) m.building building.Nothing) ≡ true → Owns c cs (go n m)
go-owns n m h = record { own = h }

pub again-owns : {c : ℕ} {cs : List ℕ} (n : State) (m : Machine) → has_own n (c ∷ cs) (cond (uses_return n) m.return_to returns.Data) (cond (uses_token n) m.building building.Nothing) ≡ true → Owns c cs (again n m)
again-owns n m h = record { own = h }

pub stay-owns : {c : ℕ} {cs : List ℕ} (m : Machine) → owns m cs ≡ true → Owns c cs (stay m)
stay-owns m h = record { own = h }

pub plus-owns : {c : ℕ} {cs : List ℕ} (x : ℕ) (r : Row) → Owns c cs r → Owns c cs (plus x r)
plus-owns x r h = record { own = h.own }

pub emitting-owns : {c : ℕ} {cs : List ℕ} (row : Machine → Row) (m : Machine) → Owns c cs (row (without_built m)) → Owns c cs (emitting_built row m)
emitting-owns row m h = record { own = h.own }

pub buffer-owns : {c : ℕ} {cs : List ℕ} (row : Machine → Row) (m : Machine) → Owns c cs (row m) → Owns c cs (emitting_buffer row m)
buffer-owns row m h = record { own = h.own }

pub back-owns : {c : ℕ} {cs : List ℕ} (m : Machine) → has_value m.return_to m.building ≡ true → Owns c cs (back m)
back-owns {c} {cs} m h = record { own = returned m.return_to m.return_to m.building (c ∷ cs) h }

pub flushing-owns : {c : ℕ} {cs : List ℕ} (m : Machine) → has_value m.return_to m.building ≡ true → Owns c cs (flushing back m)
flushing-owns m h =
    let filled : Machine = record m { building = put part.Value m.buffer m.building } in
    either-owns (is_in_value m.return_to) (back-owns filled (put-value part.Value m.buffer m.return_to m.building h)) (buffer-owns back m (back-owns m h))

pub ruleset owning = (either-owns, state-owns, go-owns, again-owns, stay-owns, plus-owns, emitting-owns, buffer-owns, back-owns, flushing-owns, put-tag, put-end, put-comment, put-doctype, put-attribute, put-value, tag-of, end-tag, begun-attribute, quirky-doctype)

-- a flush keeps the token
pub flushed-own : (m : Machine) → has_value m.return_to m.building ≡ true → has_value m.return_to (flushed m).building ≡ true
flushed-own m h = by_cases (is_in_value m.return_to)
  where
    by_cases : (b : Bool) → has_value m.return_to (cond b (record m { building = put part.Value m.buffer m.building }) m).building ≡ true
    by_cases true = put-value part.Value m.buffer m.return_to m.building h
    by_cases false = h

pub flushed-return : (m : Machine) → (flushed m).return_to ≡ m.return_to
flushed-return m = by_cases (is_in_value m.return_to)
  where
    by_cases : (b : Bool) → (cond b (record m { building = put part.Value m.buffer m.building }) m).return_to ≡ m.return_to
    by_cases true = refl
    by_cases false = refl
