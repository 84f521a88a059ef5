-- The parts of a usual tag: its name, the names and the values of its attributes.
use Rattle.std.proofs.Common.{◌≡◌, ℕ, ◌<◌, ◌≤◌, List, [], ◌∷◌, ◌++◌, length, Bool, true, false, ◌&&◌, not, refl, ap, ◌∙◌, sym, subst, arith, Option, None, Some, IsTrue, eqb-true, ◌⊎◌, inl, inr}
use Rattle.std.specs.Prelude.{◌==◌}
use Rattle.std.specs.Char.{is_ascii_alphabetic}
use Rattle.std.proofs.lemmas.Bool.{and_parts, not-true, cases_lt}
use Rattle.std.proofs.lemmas.List.{map-id}
use Rattle.hp_elements.specs.Names.{lowered as lowered_text}
use Rattle.hp_elements.specs.declared.tag.Attribute.{Attribute}
use Rattle.hp_tokens.specs.declared.state.State.{State}
use Rattle.hp_tokens.specs.declared.state.State.TheVariants.{Data, TagOpen, EndTagOpen, TagName, BeforeAttributeName, AttributeName, AfterAttributeName, BeforeAttributeValue, AttributeValueDoubleQuoted, AttributeValueSingleQuoted, AttributeValueUnquoted, AfterAttributeValueQuoted}
use Rattle.hp_tokens.specs.declared.state.Return.TheVariants.{DoubleQuoted, SingleQuoted}
use Rattle.hp_tokens.specs.declared.building.Building.{Building}
use Rattle.hp_tokens.specs.declared.building.Building.TheVariants.{Nothing, StartTag, EndTag}
use Rattle.hp_tokens.specs.declared.building.Part.TheVariants.{Name, AttributeName as NameOfAttribute}
use Rattle.hp_tokens.specs.declared.machine.Machine.{Machine}
use Rattle.hp_tokens.specs.Reading.{Unread, first, Reads, ReadsRun}
use Rattle.hp_tokens.specs.States.{uses_token, uses_buffer, uses_return, uses_value, is_resting}
use Rattle.hp_tokens.specs.Parts.{added}
use Rattle.hp_tokens.specs.Rows.{stay, again, new_attribute, putting, replaced, lowered}
use Rattle.hp_tokens.specs.Moves.{move}
use Rattle.hp_tokens.specs.Runs.{Leads, here, onward}
use Rattle.hp_tokens.proofs.Pieces.{Leads-join}
use Rattle.hp_names.specs.References.{Reference}
use Rattle.hp_lex_tags.specs.Tags.{tag_rules}
use Rattle.hp_tokens.specs.Reading.{opens_start_tag, opens_end_tag, FrontIs}
use Rattle.hp_tokens.specs.Plain.{none_of, tag_name_stops, attribute_name_stops, double_quoted_stops, single_quoted_stops, unquoted_stops}
use Rattle.hp_tokens.specs.PlainLaws.{unlike, apart}
use Rattle.hp_lex_tags.specs.Rows.{has_row, row, row_of, tag_open, end_tag_open, tag_name, attribute_name, before_attribute_value}
use Rattle.hp_lex_tags.specs.declared.straight.Way.{Way}
use Rattle.hp_lex_tags.specs.declared.straight.Way.TheVariants as way
use Rattle.hp_lex_tags.specs.Straight.{Reading, tagging, within, standing_at, tag_of, naming, bare, ending, gathered, is_between, uses_token_alone, Onto, Arrives, Continues, ValueKept, TagGrows, IsQuoted, BeginsBy, ValueGrows}
use Rattle.hp_lex_tags.specs.Usual.{ReferenceTaken}
use Rattle.hp_lex_tags.proofs.ValueReferences.{reference_onto}
use Rattle.hp_lex_tags.proofs.PlainRows.{double_quoted_plain, single_quoted_plain, unquoted_plain}
use Rattle.hp_lex_tags.proofs.StraightMoves.{reread, consumed_move, consumes, rereads, onto_join, arrives_join, continues_join, over_run, between_row}
use Rattle.hp_tokens.proofs.Told.{never}

-- a lowered code point is U+0000 only where it was before
lowered_zero : (c : ℕ) → (c == 0) ≡ false → (lowered c == 0) ≡ false
lowered_zero c h = grind arith

lowered_kept : (c : ℕ) → (c == 0) ≡ false → replaced (lowered c) ≡ lowered c
lowered_kept c h = rw (lowered_zero c h) refl

tag_name_row : (m : Machine) (c : ℕ) → none_of tag_name_stops c ≡ true → tag_name m (Some c) ≡ stay (putting Name (lowered c) m)
tag_name_row m c h =
    let a = apart tag_name_stops c h in
    rw (a.1.0, a.1.1.0, a.1.1.1.0, a.1.1.1.1.1.0, a.1.1.1.1.1.1.0, a.1.1.1.1.1.1.1.0)
    (ap (λ (y : ℕ). stay (putting Name y m)) (lowered_kept c a.0))

attribute_name_row : (m : Machine) (c : ℕ) → none_of attribute_name_stops c ≡ true → attribute_name m (Some c) ≡ stay (putting NameOfAttribute (lowered c) m)
attribute_name_row m c h =
    let a = apart attribute_name_stops c h in
    rw (a.1.0, a.1.1.0, a.1.1.1.0, a.1.1.1.1.1.0, a.1.1.1.1.1.1.0, a.1.1.1.1.1.1.1.0, a.1.1.1.1.1.1.1.1.0)
    (ap (λ (y : ℕ). stay (putting NameOfAttribute y m)) (lowered_kept c a.0))

-- a start tag of that name, without attributes
abbrev pub named_tag : List ℕ → Building
named_tag name = StartTag (record { name = name; attributes = []; attribute = None; self_closing = false })

pub over_tag_name : {names : List Reference} (run : List ℕ) (old new : Unread) → ReadsRun (none_of tag_name_stops) old run new
    → Onto names TagName (named_tag []) old TagName (named_tag (lowered_text run)) new
over_tag_name {names} run old new r =
    over_run TagName refl refl (none_of tag_name_stops) refl lowered named_tag (λ last xs c h. tag_name_row (tagging last TagName (named_tag xs)) c h) run [] old new r

pub over_end_name : {names : List Reference} (run : List ℕ) (old new : Unread) → ReadsRun (none_of tag_name_stops) old run new
    → Onto names TagName (EndTag []) old TagName (EndTag (lowered_text run)) new
over_end_name {names} run old new r =
    over_run TagName refl refl (none_of tag_name_stops) refl lowered (λ xs. EndTag xs) (λ last xs c h. tag_name_row (tagging last TagName (EndTag xs)) c h) run [] old new r

pub over_attribute_name : {names : List Reference} (reading : Reading) (run : List ℕ) (old new : Unread) → ReadsRun (none_of attribute_name_stops) old run new
    → Onto names AttributeName (naming reading [] []) old AttributeName (naming reading (lowered_text run) []) new
over_attribute_name {names} reading run old new r =
    over_run AttributeName refl refl (none_of attribute_name_stops) refl lowered (λ xs. naming reading xs [])
    (λ last xs c h. attribute_name_row (tagging last AttributeName (naming reading xs [])) c h) run [] old new r

-- such a state is no resting one
pub alone-rest : (s : State) → uses_token_alone s ≡ true → is_resting s ≡ false
alone-rest s h = not-true (is_resting s) (and_parts (uses_token s && not (uses_buffer s) && not (uses_return s) && not (uses_value s)) (not (is_resting s)) h).1

-- a value's run in a state whose row appends to it
module _ (reading : Reading) (name : List ℕ) (s : State) (is : IsTrue (has_row s)) (rest : uses_token_alone s ≡ true) where
  over_text : {names : List Reference} (passes : ℕ → Bool) → passes 13 ≡ false
      → ((last : Option (List ℕ)) (xs : List ℕ) (c : ℕ) → passes c ≡ true → row (tagging last s (naming reading name xs)) (Some c) ≡ stay (tagging last s (naming reading name (xs ++ c ∷ []))))
      → (value run : List ℕ) (old new : Unread) → ReadsRun passes old run new → Onto names s (naming reading name value) old s (naming reading name (value ++ run)) new
  over_text {names} passes no_cr stays value run old new r =
      let P : List ℕ → Type 0 = λ ys. Onto names s (naming reading name value) old s (naming reading name (value ++ ys)) new in
      subst P (map-id run) (over_run s is (alone-rest s rest) passes no_cr (λ c. c) (λ xs. naming reading name xs) stays run value old new r)

pub double_quoted : IsQuoted (none_of double_quoted_stops) 34 AttributeValueDoubleQuoted
double_quoted = record {
  has = refl;
  alone = refl;
  plain = double_quoted_plain;
  no_cr = refl;
  ends = λ m e. ap (λ (s : State). row_of s m (Some 34)) e;
  apart = refl;
  back = DoubleQuoted;
  returns = refl;
  in_value = refl;
}

pub single_quoted : IsQuoted (none_of single_quoted_stops) 39 AttributeValueSingleQuoted
single_quoted = record {
  has = refl;
  alone = refl;
  plain = single_quoted_plain;
  no_cr = refl;
  ends = λ m e. ap (λ (s : State). row_of s m (Some 39)) e;
  apart = refl;
  back = SingleQuoted;
  returns = refl;
  in_value = refl;
}

-- the attribute of that name and value was kept
abbrev pub IsKept : Reading → List ℕ → List ℕ → Reading → Type 0
IsKept reading name value new = new ≡ record reading { last = Some (record { name = name; value = value }) }

-- the attribute read last was folded
abbrev pub IsFolded : Reading → Reading → Type 0
IsFolded reading new = new ≡ bare reading.name (gathered reading)

kept_tag : (reading new : Reading) (name value : List ℕ) → IsKept reading name value new → naming reading name value ≡ StartTag (tag_of new)
kept_tag reading new name value e = ap (λ (r : Reading). StartTag (tag_of r)) (sym e)

-- a value in quotes, up to what ends its run
quoted_run : {names : List Reference} (passes : ℕ → Bool) (mark : ℕ) (s : State) → IsQuoted passes mark s → (reading : Reading) (name value more : List ℕ) (old mid : Unread)
    → ReadsRun passes old more mid → Onto names s (naming reading name value) old s (naming reading name (value ++ more)) mid
quoted_run {names} passes mark s q reading name value more old mid r =
    over_text reading name s q.has q.alone passes q.no_cr (λ last xs c h. q.plain.stays (tagging last s (naming reading name xs)) c refl h) value more old mid r

quoted_text : {names : List Reference} (passes : ℕ → Bool) (mark : ℕ) (s : State) → IsQuoted passes mark s → (reading new : Reading) (name value : List ℕ) (old mid : Unread)
    → ReadsRun passes old value mid → IsKept reading name value new → Onto names s (naming reading name []) old s (StartTag (tag_of new)) mid
quoted_text {names} passes mark s q reading new name value old mid r e =
    let P : Building → Type 0 = λ b. Onto names s (naming reading name []) old s b mid in
    subst P (kept_tag reading new name value e) (quoted_run passes mark s q reading name [] value old mid r)

-- a mark that ends a value in quotes, and one that is not there
pub quoted_end : (names : List Reference) (passes : ℕ → Bool) (mark : ℕ) (s : State) → IsQuoted passes mark s → (reading : Reading) (old behind last : Unread) (w : Way)
    → Reads old mark behind → Continues names behind reading last w → Arrives names s (StartTag (tag_of reading)) old reading last w
quoted_end names passes mark s q reading old behind last w taken h =
    let b : Building = StartTag (tag_of reading) in
    continues_join last reading w (consumes s AfterAttributeValueQuoted b b mark old behind (λ l. q.ends (tagging l s b) refl) q.has refl q.apart taken)
    (omega (arith, ap length taken.text)) h

-- where the next name stands at once
next_row : (last : Option (List ℕ)) (b : Building) (c : ℕ) → none_of attribute_name_stops c ≡ true
    → row (tagging last AfterAttributeValueQuoted b) (Some c) ≡ reread (tagging last BeforeAttributeName b)
next_row last b c h =
    let a = apart attribute_name_stops c h in
    rw (a.1.0, a.1.1.0, a.1.1.1.0, a.1.1.1.1.1.0, a.1.1.1.1.1.1.0, a.1.1.1.1.1.1.1.1.0) refl

pub next_at_once : (names : List Reference) (reading : Reading) (old mid new : Unread) → BeginsBy (none_of attribute_name_stops) mid.text → mid ≡ old → new ≡ mid
    → Continues names old reading new (way.At BeforeAttributeName)
next_at_once names reading old mid new b e f =
    let t : Building = StartTag (tag_of reading) in
    let P : Unread → Type 0 = λ u. Onto names AfterAttributeValueQuoted t u BeforeAttributeName t mid in
    let Q : Unread → Type 0 = λ u. Onto names AfterAttributeValueQuoted t old BeforeAttributeName t u in (
      subst Q (sym f) (subst P e (rereads AfterAttributeValueQuoted BeforeAttributeName t t b.c b.rest mid (λ l. next_row l t b.c b.passed) refl refl
          (unlike (none_of attribute_name_stops) 13 b.c refl b.passed) b.begins)),
      refl,
    )

-- behind a run, its value is there and references may follow
pub quoted_on : (names : List Reference) (passes : ℕ → Bool) (mark : ℕ) (s : State) → IsQuoted passes mark s → (reading new : Reading) (name run value : List ℕ) (old mid looked last : Unread) (w : Way)
    → ReadsRun passes old run mid → value ≡ run → looked ≡ mid
    → Arrives names s (naming reading name value) looked new last w → Arrives names s (naming reading name []) old new last w
quoted_on names passes mark s q reading new name run value old mid looked last w r is same h =
    let P : List ℕ → Type 0 = λ xs. Arrives names s (naming reading name xs) looked new last w in
    let Q : Unread → Type 0 = λ u. Arrives names s (naming reading name run) u new last w in
    arrives_join last new w (quoted_run passes mark s q reading name [] run old mid r) (subst Q same (subst P is h))

-- a reference and the run behind it
pub refers : {names : List Reference} (passes : ℕ → Bool) (mark : ℕ) (s : State) → IsQuoted passes mark s → (c : ℕ) (value run longer longest : List ℕ) (old mid new : Unread)
    → ReferenceTaken names old c mid → ReadsRun passes mid run new → longer ≡ value ++ c ∷ [] → longest ≡ longer ++ run → ValueGrows names s value old longest new
refers {names} passes mark s q c value run longer longest old mid new t r is is_longest reading name =
    let P : State → Type 0 = λ x. Onto names x (naming reading name value) old x (naming reading name (value ++ c ∷ [])) mid in
    let R : List ℕ → Type 0 = λ xs. Onto names s (naming reading name value) old s (naming reading name xs) mid in
    let Q : List ℕ → Type 0 = λ xs. Onto names s (naming reading name value) old s (naming reading name xs) new in
    subst Q (sym is_longest)
    (onto_join (subst R (sym is) (subst P (sym q.returns) (reference_onto names q.back q.in_value (naming reading name value) old c mid t)))
    (quoted_run passes mark s q reading name longer run mid new r))

pub quoted_closed : (names : List Reference) (passes : ℕ → Bool) (mark : ℕ) (s : State) → IsQuoted passes mark s → (reading new : Reading) (name value : List ℕ) (old mid behind last : Unread) (w : Way)
    → ReadsRun passes old value mid → IsKept reading name value new → Reads mid mark behind
    → Continues names behind new last w → Arrives names s (naming reading name []) old new last w
quoted_closed names passes mark s q reading new name value old mid behind last w r e taken h =
    let b : Building = StartTag (tag_of new) in
    let run : Onto names s (naming reading name []) old s b mid = quoted_text passes mark s q reading new name value old mid r e in
    continues_join last new w
    (onto_join run (consumes s AfterAttributeValueQuoted b b mark mid behind (λ l. q.ends (tagging l s b) refl) q.has refl q.apart taken))
    (omega (arith, run.shorter, ap length taken.text))
    h

pub unquoted_read : (names : List Reference) (reading new : Reading) (name value : List ℕ) (old mid last : Unread) (w : Way)
    → ReadsRun (none_of unquoted_stops) old value mid → IsKept reading name value new
    → Arrives names AttributeValueUnquoted (StartTag (tag_of new)) mid new last w → Arrives names AttributeValueUnquoted (naming reading name []) old new last w
unquoted_read names reading new name value old mid last w r e h =
    let P : Building → Type 0 = λ b. Onto names AttributeValueUnquoted (naming reading name []) old AttributeValueUnquoted b mid in
    arrives_join last new w
    (subst P (kept_tag reading new name value e)
    (over_text reading name AttributeValueUnquoted refl refl (none_of unquoted_stops) refl (λ l xs c h. unquoted_plain.stays (tagging l AttributeValueUnquoted (naming reading name xs)) c refl h) [] value old mid r))
    h

-- behind `=`
pub double_opened : (names : List Reference) (reading new : Reading) (name : List ℕ) (old mid last : Unread) (w : Way) → Reads old 34 mid
    → Arrives names AttributeValueDoubleQuoted (naming reading name []) mid new last w → Arrives names BeforeAttributeValue (naming reading name []) old new last w
double_opened names reading new name old mid last w taken h =
    arrives_join last new w
    (consumes BeforeAttributeValue AttributeValueDoubleQuoted (naming reading name []) (naming reading name []) 34 old mid (λ l. refl) refl refl refl taken) h

pub single_opened : (names : List Reference) (reading new : Reading) (name : List ℕ) (old mid last : Unread) (w : Way) → Reads old 39 mid
    → Arrives names AttributeValueSingleQuoted (naming reading name []) mid new last w → Arrives names BeforeAttributeValue (naming reading name []) old new last w
single_opened names reading new name old mid last w taken h =
    arrives_join last new w
    (consumes BeforeAttributeValue AttributeValueSingleQuoted (naming reading name []) (naming reading name []) 39 old mid (λ l. refl) refl refl refl taken) h

differs : (text : List ℕ) (c x : ℕ) (rest : List ℕ) → text ≡ c ∷ rest → (first text ≡ Some x → ⊥) → (c == x) ≡ false
differs text c x rest begins other = by_cases (c == x) refl
  where
    by_cases : (b : Bool) → (c == x) ≡ b → (c == x) ≡ false
    by_cases true e = absurd (other (ap (λ (u : List ℕ). first u) begins ∙ ap (λ (y : ℕ). Some y) (eqb-true c x e)))
    by_cases false e = e

unquoted_row : (m : Machine) (c : ℕ) → none_of unquoted_stops c ≡ true → (c == 34) ≡ false → (c == 39) ≡ false
    → before_attribute_value m (Some c) ≡ again AttributeValueUnquoted m
unquoted_row m c h double single =
    let a = apart unquoted_stops c h in
    rw (a.1.0, a.1.1.0, a.1.1.1.0, a.1.1.1.1.1.0, a.1.1.1.1.1.1.1.0, double, single) refl

pub unquoted_opened : (names : List Reference) (reading new : Reading) (name : List ℕ) (old last : Unread) (w : Way) → BeginsBy (none_of unquoted_stops) old.text
    → (first old.text ≡ Some 34 → ⊥) → (first old.text ≡ Some 39 → ⊥)
    → Arrives names AttributeValueUnquoted (naming reading name []) old new last w → Arrives names BeforeAttributeValue (naming reading name []) old new last w
unquoted_opened names reading new name old last w b double single h =
    let t : Building = naming reading name [] in
    arrives_join last new w
    (rereads BeforeAttributeValue AttributeValueUnquoted t t b.c b.rest old
    (λ l. unquoted_row (tagging l BeforeAttributeValue t) b.c b.passed (differs old.text b.c 34 b.rest b.begins double) (differs old.text b.c 39 b.rest b.begins single))
    refl refl (unlike (none_of unquoted_stops) 13 b.c refl b.passed) b.begins)
    h

-- where a name begins, and its value
begin_row : (s : State) (m : Machine) (c : ℕ) → is_between s ≡ true → none_of attribute_name_stops c ≡ true → row_of s m (Some c) ≡ again AttributeName (new_attribute m)
begin_row BeforeAttributeName m c h k = let a = apart attribute_name_stops c k in rw (a.1.0, a.1.1.0, a.1.1.1.0, a.1.1.1.1.1.0, a.1.1.1.1.1.1.0, a.1.1.1.1.1.1.1.0, a.1.1.1.1.1.1.1.1.0) refl
begin_row AfterAttributeName m c h k = let a = apart attribute_name_stops c k in rw (a.1.0, a.1.1.0, a.1.1.1.0, a.1.1.1.1.1.0, a.1.1.1.1.1.1.0, a.1.1.1.1.1.1.1.0, a.1.1.1.1.1.1.1.1.0) refl
begin_row _ m c h k = never h

name_read : {names : List Reference} (s : State) (reading folded : Reading) (run name : List ℕ) (old mid : Unread) → is_between s ≡ true → BeginsBy (none_of attribute_name_stops) old.text
    → IsFolded reading folded → ReadsRun (none_of attribute_name_stops) old run mid → name ≡ lowered_text run
    → Onto names s (StartTag (tag_of reading)) old AttributeName (naming folded name []) mid
name_read {names} s reading folded run name old mid h b e r is =
    let none : Reading = bare reading.name (gathered reading) in
    let begins : Onto names s (StartTag (tag_of reading)) old AttributeName (naming none [] []) old =
    rereads s AttributeName (StartTag (tag_of reading)) (naming none [] []) b.c b.rest old (λ l. begin_row s (tagging l s (StartTag (tag_of reading))) b.c h b.passed)
    (between_row s h) refl (unlike (none_of attribute_name_stops) 13 b.c refl b.passed) b.begins in
    let P : Reading → Type 0 = λ x. Onto names s (StartTag (tag_of reading)) old AttributeName (naming x [] []) old in
    let Q : List ℕ → Type 0 = λ x. Onto names s (StartTag (tag_of reading)) old AttributeName (naming folded x []) mid in
    subst Q (sym is) (onto_join (subst P (sym e) begins) (over_attribute_name folded run old mid r))

pub with_value : (names : List Reference) (s : State) (reading folded new : Reading) (run name : List ℕ) (old mid value last : Unread) (w : Way) → is_between s ≡ true
    → BeginsBy (none_of attribute_name_stops) old.text → IsFolded reading folded → ReadsRun (none_of attribute_name_stops) old run mid → name ≡ lowered_text run
    → Reads mid 61 value → Arrives names BeforeAttributeValue (naming folded name []) value new last w → Arrives names s (StartTag (tag_of reading)) old new last w
with_value names s reading folded new run name old mid value last w h b e r is taken k =
    let t : Building = naming folded name [] in
    arrives_join last new w
    (onto_join (name_read s reading folded run name old mid h b e r is) (consumes AttributeName BeforeAttributeValue t t 61 mid value (λ l. refl) refl refl refl taken)) k

pub without_value : (names : List Reference) (s : State) (reading folded new : Reading) (run name value : List ℕ) (old mid same last : Unread) (w : Way) → is_between s ≡ true
    → BeginsBy (none_of attribute_name_stops) old.text → IsFolded reading folded → ReadsRun (none_of attribute_name_stops) old run mid → name ≡ lowered_text run
    → value ≡ [] → IsKept folded name value new → same ≡ mid
    → Arrives names AttributeName (StartTag (tag_of new)) same new last w → Arrives names s (StartTag (tag_of reading)) old new last w
without_value names s reading folded new run name value old mid same last w h b e r is empty kept stayed k =
    let P : Building → Type 0 = λ x. Onto names s (StartTag (tag_of reading)) old AttributeName x mid in
    let Q : Unread → Type 0 = λ u. Arrives names AttributeName (StartTag (tag_of new)) u new last w in
    arrives_join last new w
    (subst P (ap (λ (v : List ℕ). naming folded name v) (sym empty) ∙ kept_tag folded new name value kept) (name_read s reading folded run name old mid h b e r is))
    (subst Q stayed k)

-- `<` and a letter, and `</` and a letter
letter_no_cr : (c : ℕ) → is_ascii_alphabetic c ≡ true → (c == 13) ≡ false
letter_no_cr c h = unlike is_ascii_alphabetic 13 c refl h

start_row : (last : Option (List ℕ)) (c : ℕ) → is_ascii_alphabetic c ≡ true
    → tag_open (tagging last TagOpen Nothing) (Some c) ≡ reread (tagging last TagName (named_tag []))
start_row last c h = rw (unlike is_ascii_alphabetic 33 c refl h, unlike is_ascii_alphabetic 47 c refl h, h) refl

end_row : (last : Option (List ℕ)) (c : ℕ) → is_ascii_alphabetic c ≡ true
    → end_tag_open (tagging last EndTagOpen Nothing) (Some c) ≡ reread (tagging last TagName (EndTag []))
end_row last c h = rw h refl

letter_behind : (text : List ℕ) → opens_start_tag (60 ∷ text) ≡ true → BeginsBy is_ascii_alphabetic text
letter_behind [] h = cc
letter_behind (c ∷ cs) h = record { c = c; rest = cs; begins = refl; passed = h }

letter_after : (text : List ℕ) → opens_end_tag (60 ∷ (47 ∷ text)) ≡ true → BeginsBy is_ascii_alphabetic text
letter_after [] h = cc
letter_after (c ∷ cs) h = record { c = c; rest = cs; begins = refl; passed = h }

opens_row : (m : Machine) → m.state ≡ Data → m.after_cr ≡ false → row m (Some 60) ≡ stay (tagging m.last_tag TagOpen Nothing)
opens_row m e clear = ap (λ (s : State). row_of s m (Some 60)) e ∙ ap (λ (b : Bool). stay (record (tagging m.last_tag TagOpen Nothing) { after_cr = b })) clear

data_has : (m : Machine) → m.state ≡ Data → IsTrue (has_row m.state)
data_has m e = let P : State → Type 0 = λ s. IsTrue (has_row s) in subst P (sym e) refl

module _ (m : Machine) (is : m.state ≡ Data) (clear : m.after_cr ≡ false) (old : Unread) (names : List Reference) where
  opens : (mid : Unread) → Reads old 60 mid → Leads (move (tag_rules names)) (standing_at m old old.place) [] (within m.last_tag old.place TagOpen Nothing mid)
  opens mid taken = onward (consumed_move names m (tagging m.last_tag TagOpen Nothing) old.place mid.place old.place 60 mid.text old.text clear refl (data_has m is) refl refl (opens_row m is clear) taken.text taken.place) here

  pub starts : (mid : Unread) → opens_start_tag old.text ≡ true → Reads old 60 mid
      → Leads (move (tag_rules names)) (standing_at m old old.place) [] (within m.last_tag old.place TagName (named_tag []) mid)
  starts mid h taken =
      let b = letter_behind mid.text (ap (λ (u : List ℕ). opens_start_tag u) (sym taken.text) ∙ h) in
      Leads-join (opens mid taken)
      ((rereads TagOpen TagName Nothing (named_tag []) b.c b.rest mid (λ l. start_row l b.c b.passed) refl refl (letter_no_cr b.c b.passed) b.begins).leads m.last_tag old.place)

  pub ends : (mid behind : Unread) → opens_end_tag old.text ≡ true → Reads old 60 mid → Reads mid 47 behind
      → Leads (move (tag_rules names)) (standing_at m old old.place) [] (within m.last_tag old.place TagName (EndTag []) behind)
  ends mid behind h taken slash =
      let b = letter_after behind.text (ap (λ (u : List ℕ). opens_end_tag (60 ∷ u)) (sym slash.text) ∙ (ap (λ (u : List ℕ). opens_end_tag u) (sym taken.text) ∙ h)) in
      Leads-join (opens mid taken)
      (Leads-join ((consumes TagOpen EndTagOpen Nothing Nothing 47 mid behind (λ l. refl) refl refl refl slash).leads m.last_tag old.place)
      ((rereads EndTagOpen TagName Nothing (EndTag []) b.c b.rest behind (λ l. end_row l b.c b.passed) refl refl (letter_no_cr b.c b.passed) b.begins).leads m.last_tag old.place))

-- the code point of a front byte that passes
pub begins_by : (passes : ℕ → Bool) → ((c : ℕ) → 128 ≤ c → passes c ≡ true) → (text : List ℕ) (byte : ℕ) (b : Bool) → b ≡ passes byte → FrontIs text byte
    → b ≡ true → BeginsBy passes text
begins_by passes high text byte b says f h = go text f.first
  where
    front : byte < 128 ⊎ (128 ≤ byte) → passes f.c ≡ true
    front (inl small) = let P : ℕ → Type 0 = λ x. passes x ≡ true in subst P (f.ascii small) (sym says ∙ h)
    front (inr large) = high f.c (f.other large)

    go : (text : List ℕ) → first text ≡ Some f.c → BeginsBy passes text
    go [] e = cc
    go (x ∷ xs) e = let same : x ≡ f.c = cc in record { c = x; rest = xs; begins = refl; passed = (let P : ℕ → Type 0 = λ y. passes y ≡ true in subst P (sym same) (front (cases_lt byte 128))) }

-- the same where other marks were looked for first
pub single_later : (names : List Reference) (reading new : Reading) (name : List ℕ) (old looked mid last : Unread) (w : Way) → looked ≡ old → Reads looked 39 mid
    → Arrives names AttributeValueSingleQuoted (naming reading name []) mid new last w → Arrives names BeforeAttributeValue (naming reading name []) old new last w
single_later names reading new name old looked mid last w e taken h =
    let P : Unread → Type 0 = λ u. Reads u 39 mid in single_opened names reading new name old mid last w (subst P e taken) h

pub other_later : (names : List Reference) (reading new : Reading) (name : List ℕ) (old looked last : Unread) (w : Way) → looked ≡ old
    → Arrives names BeforeAttributeValue (naming reading name []) looked new last w → Arrives names BeforeAttributeValue (naming reading name []) old new last w
other_later names reading new name old looked last w e h =
    let P : Unread → Type 0 = λ u. Arrives names BeforeAttributeValue (naming reading name []) u new last w in subst P e h

pub unquoted_later : (names : List Reference) (reading new : Reading) (name : List ℕ) (old looked again last : Unread) (w : Way) → looked ≡ old → again ≡ looked
    → (first old.text ≡ Some 34 → ⊥) → (first looked.text ≡ Some 39 → ⊥) → BeginsBy (none_of unquoted_stops) again.text
    → Arrives names AttributeValueUnquoted (naming reading name []) again new last w → Arrives names BeforeAttributeValue (naming reading name []) old new last w
unquoted_later names reading new name old looked again last w e f double single b h =
    let P : Unread → Type 0 = λ u. BeginsBy (none_of unquoted_stops) u.text in
    let Q : Unread → Type 0 = λ u. Arrives names AttributeValueUnquoted (naming reading name []) u new last w in
    let R : Unread → Type 0 = λ u. first u.text ≡ Some 39 → ⊥ in
    unquoted_opened names reading new name old last w (subst P (f ∙ e) b) double (subst R e single) (subst Q (f ∙ e) h)

-- an attribute is kept with a value that is whole, and one whose value is read on in another state
pub value_whole : (names : List Reference) (s : State) (name value whole : List ℕ) (attributes longer : List Attribute) (old new : Unread) (w : Way)
    → longer ≡ added attributes (Some (record { name = name; value = whole }))
    → ((reading to : Reading) → IsKept reading name whole to → Arrives names s (naming reading name value) old to new w)
    → ValueKept names s name value attributes old longer new w
value_whole names s name value whole attributes longer old new w kept f = record { whole = whole; kept = kept; arrives = λ tag. f (bare tag attributes) (ending tag attributes name whole) refl }

pub value_on : (names : List Reference) (s n : State) (name value more : List ℕ) (attributes longer : List Attribute) (old mid new : Unread) (w : Way)
    → ((reading to : Reading) → Arrives names n (naming reading name more) mid to new w → Arrives names s (naming reading name value) old to new w)
    → ValueKept names n name more attributes mid longer new w → ValueKept names s name value attributes old longer new w
value_on names s n name value more attributes longer old mid new w f k = record { whole = k.whole; kept = k.kept; arrives = λ tag. f (bare tag attributes) (ending tag attributes name k.whole) (k.arrives tag) }

-- an attribute was read, with a value and without one
pub grown_with : (names : List Reference) (s : State) (attributes longer : List Attribute) (run name : List ℕ) (old mid value last : Unread) (w : Way) → is_between s ≡ true
    → BeginsBy (none_of attribute_name_stops) old.text → ReadsRun (none_of attribute_name_stops) old run mid → name ≡ lowered_text run
    → Reads mid 61 value → ValueKept names BeforeAttributeValue name [] attributes value longer last w → TagGrows names s attributes old longer last w
grown_with names s attributes longer run name old mid value last w h b r is taken k = λ front e. record {
  to = ending front.name attributes name k.whole;
  named = refl;
  gathers = k.kept;
  arrives = with_value names s front (bare front.name attributes) (ending front.name attributes name k.whole) run name old mid value last w h b
      (ap (λ (xs : List Attribute). bare front.name xs) e) r is taken (k.arrives front.name);
}

pub grown_without : (names : List Reference) (s : State) (attributes longer : List Attribute) (run name value : List ℕ) (old mid same last : Unread) (w : Way) → is_between s ≡ true
    → BeginsBy (none_of attribute_name_stops) old.text → ReadsRun (none_of attribute_name_stops) old run mid → name ≡ lowered_text run
    → value ≡ [] → longer ≡ added attributes (Some (record { name = name; value = value })) → same ≡ mid
    → ((reading : Reading) → Arrives names AttributeName (StartTag (tag_of reading)) same reading last w) → TagGrows names s attributes old longer last w
grown_without names s attributes longer run name value old mid same last w h b r is empty kept stayed k = λ front e. record {
  to = ending front.name attributes name value;
  named = refl;
  gathers = kept;
  arrives = without_value names s front (bare front.name attributes) (ending front.name attributes name value) run name value old mid same last w h b
      (ap (λ (xs : List Attribute). bare front.name xs) e) r is empty refl stayed (k (ending front.name attributes name value));
}

-- what was told of a way that is known
pub grows_as : (names : List Reference) (s : State) (attributes longer : List Attribute) (old new : Unread) (w v : Way) → w ≡ v → TagGrows names s attributes old longer new w → TagGrows names s attributes old longer new v
grows_as names s attributes longer old new w v e h = let P : Way → Type 0 = λ x. TagGrows names s attributes old longer new x in subst P e h
