-- A named reference in the data state is three moves.
use Rattle.std.proofs.Common.{◌≡◌, ℕ, ◌+◌, ◌<◌, ◌≤◌, List, [], ◌∷◌, ◌++◌, Bool, true, false, cond, length, map, take, drop, suc, zero, refl, ap, ◌∙◌, sym, subst, arith, inl, Option, None, Some}
use Rattle.std.specs.Prelude.{◌==◌, nat_lt, sum_by, slice_get, IsUtf8}
use Rattle.std.specs.List.{list_all}
use Rattle.std.specs.Option.{is_some}
use Rattle.std.specs.Char.{len_utf8, is_ascii_alphanumeric}
use Rattle.std.specs.Str.{chars, IsAscii}
use lib.Utf8.{encodes}
use borrow.Author.Tests.{ltb-true}
use Rattle.std.proofs.lemmas.Bool.{and_parts, and_from, eqb-true}
use Rattle.std.proofs.lemmas.List.Sums.{sum_by-cons}
use Rattle.std.proofs.lemmas.Str.{encodes-chars}
use Rattle.hp_elements.specs.declared.token.Token.{Token}
use Rattle.hp_names.specs.References.{Reference}
use Rattle.hp_names.specs.Longest.{longest, is_open, OverChars}
use Rattle.hp_names.specs.declared.names.Found.{Found}
use Rattle.hp_tokens.specs.declared.state.State.{State}
use Rattle.hp_tokens.specs.declared.state.State.TheVariants.{Data, CharacterReference, NamedCharacterReference, NumericCharacterReference}
use Rattle.hp_tokens.specs.declared.state.Return.TheVariants as returns
use Rattle.hp_tokens.specs.declared.machine.Machine.{Machine}
use Rattle.hp_tokens.specs.declared.lexing.LexState.{LexState}
use Rattle.hp_tokens.specs.declared.rows.Turn.TheVariants as turns
use Rattle.hp_tokens.specs.Reading.{Unread, first, IsAsciiFront, FrontIs, ReadsAscii}
use Rattle.hp_tokens.specs.States.{enter, is_resting}
use Rattle.hp_tokens.specs.Rows.{Row, character, again, go, flushing, back, with_buffer, returning_to}
use Rattle.hp_tokens.specs.Moves.{Lexing, Emitted, Move, needs_more, makes, standing, move, read_as, after_row}
use Rattle.hp_tokens.specs.Runs.{here, onward}
use Rattle.hp_tokens.specs.Groups.{done}
use Rattle.hp_tokens.specs.Advancing.{lexing, Appends, IsGroup, Turned, at_rest}
use Rattle.hp_tokens.proofs.Pieces.{Leads-join}
use Rattle.hp_tokens.proofs.Stepping.{by_rows}
use Rattle.hp_tokens.proofs.Fronts.{low-chars, low-rest}
use Rattle.hp_tokens.proofs.PlainRuns.{cleared, lexing_clear}
use Rattle.hp_lex_tags.specs.Letters.{ampersand, number_sign}
use Rattle.hp_lex_tags.specs.Rows.{has_row, row}
use Rattle.hp_lex_tags.specs.Named.{reference_move, second_value}
use Rattle.hp_lex_tags.specs.Tags.{tag_rules, is_here}
use Rattle.hp_lex_tags.specs.Decided.{at_data, behind_reference, EmitsOne, IsReference}
use Rattle.hp_lex_tags.specs.Usual.{IsUsual}
use Rattle.hp_lex_tags.proofs.NamedSteps.{tags_rows, named_at}

-- a machine behind `&`; in a name
abbrev pub at_reference : Machine → Machine
at_reference m = enter CharacterReference (returning_to returns.Data (at_data m))

abbrev pub at_name : Machine → Machine
at_name m = enter NamedCharacterReference (with_buffer (ampersand ∷ []) (at_reference m))

pub no_cr : (c : ℕ) → is_ascii_alphanumeric c ≡ true → (c == 13) ≡ false
no_cr c h = grind arith

low : (c : ℕ) → is_ascii_alphanumeric c ≡ true → c < 128
low c h = grind arith

-- the moves
module _ (names : List Reference) (m : Machine) where
  abbrev pub next : Lexing → Move
  next = move (tag_rules names)

  pub ampersand_move : (p r : ℕ) (u : List ℕ) → next (standing (at_data m) p r (38 ∷ u)) ≡ makes (standing (at_reference m) (p + 1) p u) []
  ampersand_move p r u = refl

  letter_move : (q p c : ℕ) (u rest : List ℕ) → u ≡ c ∷ rest → is_ascii_alphanumeric c ≡ true
      → next (standing (at_reference m) q p u) ≡ makes (standing (at_name m) q p u) []
  letter_move q p c u rest e letter =
      let l : Lexing = standing (at_reference m) q p u in
      let x : Row = again NamedCharacterReference (with_buffer (ampersand ∷ []) (at_reference m)) in
      let y : Row = cond (c == number_sign) (go NumericCharacterReference (with_buffer (ampersand ∷ number_sign ∷ []) (at_reference m))) (flushing back (with_buffer (ampersand ∷ []) (at_reference m))) in
      let own : read_as c ≡ c = rw (no_cr c letter) refl in
      let F : Bool → Move = λ b. after_row (cond b x y) l c rest (cond b x y).reads in
      (by_rows (tag_rules names) has_row row (tags_rows names)).by_row l c rest e refl refl
      ∙ (ap (λ (k : ℕ). after_row (row (at_reference m) (Some k)) l c rest (row (at_reference m) (Some k)).reads) own
      ∙ (ap F letter ∙ ap (λ (xs : List ℕ). makes (standing (at_name m) q p xs) []) (sym e)))

  module _ (f : Found) (c : ℕ) (u rest : List ℕ) (e : u ≡ c ∷ rest) (letter : is_ascii_alphanumeric c ≡ true) (closed : is_open names u ≡ false)
      (found : longest names u ≡ Some f) (alone : f.second ≡ None) where
    name_move : (q p : ℕ) → next (standing (at_name m) q p u)
        ≡ makes (standing (behind_reference m) (q + sum_by len_utf8 (take f.length u)) p (drop f.length u)) (record { began = p; token = character f.first } ∷ [])
    name_move q p =
        let l : Lexing = standing (at_name m) q p u in
        let all : Lexing → List Token → Move = λ k ts. makes k (map (λ t. record { began = p; token = t }) ts) in
        named_at names l c rest refl e refl
        ∙ (ap (λ (b : Bool). cond b needs_more (reference_move (longest names u) l)) closed
        ∙ (ap (λ (o : Option Found). reference_move o l) found
        ∙ ap (λ (o : Option ℕ). makes (standing (behind_reference m) (q + sum_by len_utf8 (take f.length u)) p (drop f.length u))
        (map (λ t. record { began = p; token = t }) (character f.first ∷ map character (second_value o)))) alone))

    pub name_emits : (p r : ℕ) → EmitsOne names (standing (at_data m) p r (38 ∷ u)) (standing (behind_reference m) (p + 1 + sum_by len_utf8 (take f.length u)) p (drop f.length u)) f.first p
    name_emits p r = record {
      mid = standing (at_name m) (p + 1) p u;
      quiet = onward (ampersand_move p r u) (onward (letter_move (p + 1) p c u rest e letter) here);
      inside = refl;
      last = name_move (p + 1) p;
    }

-- ASCII code points take a byte each
pub ascii_width : (n : ℕ) (xs : List ℕ) → n ≤ length xs → list_all (λ c. nat_lt c 128) (take n xs) ≡ true → sum_by len_utf8 (take n xs) ≡ n
ascii_width zero xs h all = refl
ascii_width (suc n) [] h all = absurd (omega (arith, h))
ascii_width (suc n) (x ∷ xs) h all =
    let parts = and_parts (nat_lt x 128) _ all in
    let rest : sum_by len_utf8 (take n xs) ≡ n = ascii_width n xs (omega (arith, h)) parts.1 in
    let small : x < 128 = ltb-true x 128 parts.0 in
    let one : len_utf8 x ≡ 1 = grind arith in
    omega (arith, sum_by-cons len_utf8 x (take n xs), rest, one)

-- what is unread behind `&`
pub begins-at : (xs : List ℕ) (c : ℕ) → first xs ≡ Some c → (rest : List ℕ) × (xs ≡ c ∷ rest)
begins-at [] c h = cc
begins-at (x ∷ xs) c h = let same : x ≡ c = cc in (xs, ap (λ (y : ℕ). y ∷ xs) same)

-- a reference was read at once
pub reference_emits : (names : List Reference) (s : LexState) (old mid new : Unread) (c n : ℕ) (r place : ℕ) → s.machine.state ≡ Data
    → s.machine.after_cr ≡ false → s.ahead ≡ [] → place ≡ old.place → first old.text ≡ Some 38 → IsReference names (drop 1 old.text) c n
    → ReadsAscii 1 old mid → ReadsAscii n mid new
    → EmitsOne names (lexing s old r) (lexing (record s { machine = enter Data s.machine }) new place) c place
reference_emits names s old mid new c n r place is cr none at amp usual skipped reads =
    let m : Machine = s.machine in
    let t : LexState = record s { machine = enter Data s.machine } in
    let u : List ℕ = drop 1 old.text in
    let whole = begins-at old.text 38 amp in
    let text : old.text ≡ 38 ∷ u = whole.1 ∙ ap (λ (xs : List ℕ). 38 ∷ drop 1 xs) (sym whole.1) in
    let same : cleared m ≡ at_data m = ap (λ (x : State). record m { state = x; after_cr = false }) is in
    let start : lexing s old r ≡ standing (at_data m) place r (38 ∷ u) =
    lexing_clear s old r cr none ∙ (ap (λ (x : Machine). standing x old.place r old.text) same
    ∙ (ap (λ (p : ℕ). standing (at_data m) p r old.text) (sym at) ∙ ap (λ (xs : List ℕ). standing (at_data m) place r xs) text)) in
    let gone : new.text ≡ drop n u = reads.text ∙ ap (λ (xs : List ℕ). drop n xs) skipped.text in
    let there : new.place ≡ place + 1 + n = omega (arith, skipped.place, reads.place, at) in
    let end : lexing t new place ≡ standing (behind_reference m) (place + 1 + n) place (drop n u) =
    lexing_clear t new place cr none
    ∙ (ap (λ (p : ℕ). standing (behind_reference m) p place new.text) there
    ∙ ap (λ (xs : List ℕ). standing (behind_reference m) (place + 1 + n) place xs) gone) in
    let P : Lexing → Type 0 = λ k. EmitsOne names k (lexing t new place) c place in
    let Q : Lexing → Type 0 = λ k. EmitsOne names (standing (at_data m) place r (38 ∷ u)) k c place in
    subst P (sym start) (subst Q (sym end) (usual.emits m place r))

-- what one move emitted is appended
module _ (names : List Reference) (old new : Lexing) (c place : ℕ) (tokens : List Token) (e : EmitsOne names old new c place) where
  abbrev emitted : Emitted
  emitted = record { began = place; token = character c }

  appends : Appends tokens (emitted ∷ []) (tokens ++ character c ∷ [])
  appends = record { more = character c ∷ []; appended = refl; spelled = refl; runs = ((λ h. refl), tt) }

  pub emits_turn : is_resting new.machine.state ≡ true → Turned (tag_rules names) is_here old tokens new (tokens ++ character c ∷ []) place turns.Emitted
  emits_turn rests = (
    record { es = emitted ∷ []; leads = Leads-join e.quiet (onward e.last here); appends = appends; began = refl; says = refl },
    at_rest rests,
  )

  pub emits_group : IsGroup (move (tag_rules names)) is_here old tokens new (tokens ++ character c ∷ []) place
  emits_group = inl (record {
    from = e.mid;
    mid = new;
    first = emitted ∷ [];
    rest = [];
    quiet = e.quiet;
    inside = e.inside;
    made = e.last;
    onward = done;
    appends = appends;
    one_place = (refl, tt);
  })

-- what is found in the bytes of a text is found in its code points
module _ (names : List Reference) (over : (cs : List ℕ) → OverChars names cs) (bytes : List ℕ) (u : IsUtf8 bytes) where
  spelled : encodes (chars bytes) ≡ bytes
  spelled = encodes-chars bytes u

  open_same : is_open names bytes ≡ is_open names (chars bytes)
  open_same = ap (λ (bs : List ℕ). is_open names bs) (sym spelled) ∙ (over (chars bytes)).open_same

  longest_same : longest names bytes ≡ longest names (chars bytes)
  longest_same = ap (λ (bs : List ℕ). longest names bs) (sym spelled) ∙ (over (chars bytes)).longest_same

ascii_prefix : (n : ℕ) (xs : List ℕ) → IsUtf8 xs → n ≤ length xs → IsAscii (take n xs) → IsAsciiFront n (chars xs)
ascii_prefix zero xs u h all = record { within = omega arith; ascii = refl }
ascii_prefix (suc n) [] u h all = absurd (omega (arith, h))
ascii_prefix (suc n) (x ∷ xs) u h all =
    let small : x < 128 = all 0 in
    let rest = ascii_prefix n xs (low-rest x xs u small) (omega (arith, h)) (λ i. all (suc i)) in
    let P : List ℕ → Type 0 = λ cs. IsAsciiFront (suc n) cs in
    subst P (sym (low-chars x xs u small)) record {
      within = omega (arith, rest.within);
      ascii = and_from (nat_lt x 128) _ (grind arith) rest.ascii;
    }

first_letter : (bytes : List ℕ) (x : ℕ) → IsUtf8 bytes → slice_get bytes 0 ≡ Some x → is_ascii_alphanumeric x ≡ true → first (chars bytes) ≡ Some x
first_letter [] x u e letter = cc
first_letter (y ∷ ys) x u e letter =
    let same : y ≡ x = cc in
    let small : y < 128 = low y (ap (λ (k : ℕ). is_ascii_alphanumeric k) same ∙ letter) in
    ap first (low-chars y ys u small) ∙ ap (λ (k : ℕ). Some k) same

pub usual-is : (names : List Reference) (over : (cs : List ℕ) → OverChars names cs) (bytes : List ℕ) → IsUtf8 bytes → (f : Found) (x : ℕ) → slice_get bytes 0 ≡ Some x
    → is_ascii_alphanumeric x ≡ true → is_open names bytes ≡ false → longest names bytes ≡ Some f → f.second ≡ None → f.ends_with_semicolon ≡ true → (f.first == 0) ≡ false
    → f.length ≤ length bytes → IsAscii (take f.length bytes) → IsUsual names (chars bytes) f
usual-is names over bytes u f x begins letter closed found alone semicolon some within ascii = record {
  c = x;
  first = first_letter bytes x u begins letter;
  letter = letter;
  closed = sym (open_same names over bytes u) ∙ closed;
  longest = sym (longest_same names over bytes u) ∙ found;
  alone = alone;
  semicolon = semicolon;
  some = some;
  ascii = ascii_prefix f.length bytes u within ascii;
}

pub no-second : (o : Option ℕ) → false ≡ is_some o → o ≡ None
no-second None h = refl
no-second (Some x) h = cc

pub unequal : (x : ℕ) → (x ≡ 0 → ⊥) → (x == 0) ≡ false
unequal x h = by_cases (x == 0) refl
  where
    by_cases : (b : Bool) → (x == 0) ≡ b → (x == 0) ≡ false
    by_cases true e = absurd (h (eqb-true x 0 e))
    by_cases false e = e

-- `&` comes next
pub ampersand-front : (text : List ℕ) → FrontIs text 38 → first text ≡ Some 38
ampersand-front text front = front.first ∙ ap (λ (c : ℕ). Some c) (sym (front.ascii (omega arith)))
