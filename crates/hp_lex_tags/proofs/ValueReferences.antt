-- A named reference is three moves, in the data state and in an attribute's value.
use Rattle.std.proofs.Common.{◌≡◌, ℕ, ◌+◌, ◌<◌, List, [], ◌∷◌, Bool, true, false, ◌&&◌, not, cond, length, take, drop, refl, ap, ◌∙◌, sym, subst, arith, Option, None, Some}
use Rattle.std.specs.Prelude.{sum_by}
use Rattle.std.specs.Char.{len_utf8, is_ascii_alphanumeric}
use Rattle.std.proofs.lemmas.List.{length-drop}
use Rattle.hp_names.specs.References.{Reference}
use Rattle.hp_names.specs.Longest.{longest, is_open}
use Rattle.hp_names.specs.declared.names.Found.{Found}
use Rattle.hp_tokens.specs.declared.state.State.{State}
use Rattle.hp_tokens.specs.declared.state.State.TheVariants.{CharacterReference, NamedCharacterReference}
use Rattle.hp_tokens.specs.declared.state.Return.{Return}
use Rattle.hp_tokens.specs.declared.state.Return.TheVariants.{DoubleQuoted, SingleQuoted, Unquoted}
use Rattle.hp_tokens.specs.declared.building.Building.{Building}
use Rattle.hp_tokens.specs.declared.building.Part.TheVariants.{Value}
use Rattle.hp_tokens.specs.declared.machine.Machine.{Machine}
use Rattle.hp_tokens.specs.Reading.{Unread, first}
use Rattle.hp_tokens.specs.States.{enter, return_state, is_in_value}
use Rattle.hp_tokens.specs.Parts.{put}
use Rattle.hp_tokens.specs.Rows.{with_buffer, returning_to}
use Rattle.hp_tokens.specs.Moves.{Lexing, Move, needs_more, makes, standing, move}
use Rattle.hp_tokens.specs.Runs.{Leads, here, onward}
use Rattle.hp_lex_tags.specs.Letters.{ampersand}
use Rattle.hp_lex_tags.specs.Named.{reference_move, read_buffer, second_value, goes_on}
use Rattle.hp_lex_tags.specs.Tags.{tag_rules}
use Rattle.hp_lex_tags.specs.Usual.{IsUsual, ReferenceTaken}
use Rattle.hp_lex_tags.specs.Decided.{at_data, behind_reference, EmitsOne, IsReference}
use Rattle.hp_lex_tags.specs.Straight.{tagging, tagging_at, within, Onto}
use Rattle.hp_lex_tags.proofs.NamedSteps.{named_at}
use Rattle.hp_lex_tags.proofs.StraightMoves.{consumed_move, reread_move}
use Rattle.hp_lex_tags.proofs.UsualReference.{ascii_width, begins-at, name_emits, no_cr}

-- behind the `&` of a value; in a name
abbrev pub referring : Return → Option (List ℕ) → Building → Machine
referring back last b = enter CharacterReference (returning_to back (tagging last (return_state back) b))

abbrev pub in_name : Return → Option (List ℕ) → Building → Machine
in_name back last b = enter NamedCharacterReference (with_buffer (ampersand ∷ []) (referring back last b))

-- the moves
module _ (names : List Reference) (last : Option (List ℕ)) (b : Building) where
  abbrev pub next : Lexing → Move
  next = move (tag_rules names)

  pub into_reference : (back : Return) → is_in_value back ≡ true → (p q r : ℕ) (u text : List ℕ) → text ≡ 38 ∷ u → q ≡ p + 1
      → next (record { machine = tagging last (return_state back) b; place = p; rested = r; unread = text }) ≡ makes (record { machine = referring back last b; place = q; rested = r; unread = u }) []
  into_reference DoubleQuoted h p q r u text e at = consumed_move names (tagging last (return_state DoubleQuoted) b) (referring DoubleQuoted last b) p q r 38 u text refl refl refl refl refl refl e at
  into_reference SingleQuoted h p q r u text e at = consumed_move names (tagging last (return_state SingleQuoted) b) (referring SingleQuoted last b) p q r 38 u text refl refl refl refl refl refl e at
  into_reference Unquoted h p q r u text e at = consumed_move names (tagging last (return_state Unquoted) b) (referring Unquoted last b) p q r 38 u text refl refl refl refl refl refl e at
  into_reference _ h p q r u text e at = cc

  letter_move : (back : Return) (p r c : ℕ) (u rest : List ℕ) → u ≡ c ∷ rest → is_ascii_alphanumeric c ≡ true
      → next (record { machine = referring back last b; place = p; rested = r; unread = u }) ≡ makes (record { machine = in_name back last b; place = p; rested = r; unread = u }) []
  letter_move back p r c u rest e letter =
      reread_move names (referring back last b) (in_name back last b) p r c rest u refl refl refl (no_cr c letter) (rw letter refl) e

  module _ (f : Found) (c : ℕ) (u rest : List ℕ) (e : u ≡ c ∷ rest) (letter : is_ascii_alphanumeric c ≡ true) (closed : is_open names u ≡ false)
      (found : longest names u ≡ Some f) (alone : f.second ≡ None) (semicolon : f.ends_with_semicolon ≡ true) where
    -- where the name's value goes
    abbrev pub valued : Return → List ℕ → ℕ → ℕ → Lexing
    valued back text p r =
        record { machine = tagging last (return_state back) (put Value text b); place = p + sum_by len_utf8 (take f.length u); rested = r; unread = drop f.length u }

    value_is : (g : Bool) → read_buffer f ((true && not f.ends_with_semicolon) && g) (take f.length u) ≡ f.first ∷ []
    value_is g =
        ap (λ (x : Bool). read_buffer f ((true && not x) && g) (take f.length u)) semicolon
        ∙ ap (λ (o : Option ℕ). f.first ∷ second_value o) alone

    decided : (back : Return) (p r : ℕ) → next (record { machine = in_name back last b; place = p; rested = r; unread = u })
        ≡ reference_move (Some f) (record { machine = in_name back last b; place = p; rested = r; unread = u })
    decided back p r =
        let l : Lexing = record { machine = in_name back last b; place = p; rested = r; unread = u } in
        named_at names l c rest refl e refl
        ∙ (ap (λ (x : Bool). cond x needs_more (reference_move (longest names u) l)) closed
        ∙ ap (λ (o : Option Found). reference_move o l) found)

    name_move : (back : Return) → is_in_value back ≡ true → (p r : ℕ)
        → next (record { machine = in_name back last b; place = p; rested = r; unread = u }) ≡ makes (valued back (f.first ∷ []) p r) []
    name_move DoubleQuoted h p r = decided DoubleQuoted p r ∙ ap (λ (xs : List ℕ). makes (valued DoubleQuoted xs p r) []) (value_is (goes_on (first (drop f.length u))))
    name_move SingleQuoted h p r = decided SingleQuoted p r ∙ ap (λ (xs : List ℕ). makes (valued SingleQuoted xs p r) []) (value_is (goes_on (first (drop f.length u))))
    name_move Unquoted h p r = decided Unquoted p r ∙ ap (λ (xs : List ℕ). makes (valued Unquoted xs p r) []) (value_is (goes_on (first (drop f.length u))))
    name_move _ h p r = cc

-- in a value, its code point goes behind what was read of it
named_in_value : (names : List Reference) (u : List ℕ) (f : Found) → IsUsual names u f → (back : Return) → is_in_value back ≡ true → (last : Option (List ℕ)) (b : Building) (p r : ℕ)
    → Leads (move (tag_rules names)) (tagging_at last (return_state back) b p r (38 ∷ u)) []
    (tagging_at last (return_state back) (put Value (f.first ∷ []) b) (p + 1 + f.length) r (drop f.length u))
named_in_value names u f usual back h last b p r =
    let rest = begins-at u usual.c usual.first in
    let width : sum_by len_utf8 (take f.length u) ≡ f.length = ascii_width f.length u usual.ascii.within usual.ascii.ascii in
    let P : ℕ → Type 0 = λ n. Leads (move (tag_rules names)) (tagging_at last (return_state back) b p r (38 ∷ u)) []
    (tagging_at last (return_state back) (put Value (f.first ∷ []) b) (p + 1 + n) r (drop f.length u)) in
    subst P width
    (onward (into_reference names last b back h p (p + 1) r u (38 ∷ u) refl refl)
    (onward (letter_move names last b back (p + 1) r usual.c u rest.0 rest.1 usual.letter)
    (onward (name_move names last b f usual.c u rest.0 rest.1 usual.letter usual.closed usual.longest usual.alone usual.semicolon back h (p + 1) r) here)))

pub named_reference : (names : List Reference) (u : List ℕ) (f : Found) → IsUsual names u f → IsReference names u f.first f.length
named_reference names u f usual =
    let rest = begins-at u usual.c usual.first in
    let width : sum_by len_utf8 (take f.length u) ≡ f.length = ascii_width f.length u usual.ascii.within usual.ascii.ascii in
    record {
      ascii = usual.ascii;
      some = usual.some;
      emits = λ m p r.
          let P : ℕ → Type 0 = λ n. EmitsOne names (standing (at_data m) p r (38 ∷ u)) (standing (behind_reference m) (p + 1 + n) p (drop f.length u)) f.first p in
          subst P width (name_emits names m f usual.c u rest.0 rest.1 usual.letter usual.closed usual.longest usual.alone p r);
      in_value = named_in_value names u f usual;
    }

-- a reference was taken in a value
pub taken_shorter : (names : List Reference) (old : Unread) (c : ℕ) (new : Unread) → ReferenceTaken names old c new → length new.text < length old.text
taken_shorter names old c new t =
    let whole = begins-at old.text 38 t.begins in
    omega (arith, ap length t.read.text, length-drop t.length t.mid.text, ap length t.skipped.text, length-drop 1 old.text, ap length whole.1)

pub reference_onto : (names : List Reference) (back : Return) → is_in_value back ≡ true → (b : Building) (old : Unread) (c : ℕ) (new : Unread) → ReferenceTaken names old c new
    → Onto names (return_state back) b old (return_state back) (put Value (c ∷ []) b) new
reference_onto names back h b old c new t = record {
  leads = λ last start.
      let u : List ℕ = drop 1 old.text in
      let whole = begins-at old.text 38 t.begins in
      let text : old.text ≡ 38 ∷ u = whole.1 ∙ ap (λ (xs : List ℕ). 38 ∷ drop 1 xs) (sym whole.1) in
      let gone : new.text ≡ drop t.length u = t.read.text ∙ ap (λ (xs : List ℕ). drop t.length xs) t.skipped.text in
      let there : new.place ≡ old.place + 1 + t.length = omega (arith, t.skipped.place, t.read.place) in
      let s : State = return_state back in
      let d : Building = put Value (c ∷ []) b in
      let end : within last start s (put Value (c ∷ []) b) new ≡ tagging_at last s d (old.place + 1 + t.length) start (drop t.length u) =
      ap (λ (p : ℕ). tagging_at last s d p start new.text) there ∙ ap (λ (xs : List ℕ). tagging_at last s d (old.place + 1 + t.length) start xs) gone in
      let P : List ℕ → Type 0 = λ xs. Leads (move (tag_rules names)) (tagging_at last s b old.place start xs) [] (within last start s (put Value (c ∷ []) b) new) in
      let Q : Lexing → Type 0 = λ l. Leads (move (tag_rules names)) (tagging_at last s b old.place start (38 ∷ u)) [] l in
      subst P (sym text) (subst Q (sym end) (t.decided.in_value back h last b old.place start));
  shorter = (let less = taken_shorter names old c new t in omega (arith, less));
}
