-- A decimal reference, in the data state and in an attribute's value: a move for its `&`, its `#` and each digit, and those that read again.
use Rattle.std.proofs.Common.{◌≡◌, ℕ, ◌+◌, ◌*◌, ◌-◌, ◌<◌, ◌≤◌, List, [], ◌∷◌, ◌++◌, true, false, length, take, drop, suc, zero, refl, ap, ◌∙◌, sym, subst, arith, Some, Option, length-append, length-take-le}
use Rattle.std.specs.Prelude.{◌==◌, nat_lt, slice_index, slice_get, IsUtf8}
use Rattle.std.specs.List.{list_all}
use Rattle.std.specs.Str.{chars}
use Rattle.std.specs.Char.{len_utf8, digit_value, is_ascii_digit}
use Rattle.std.proofs.lemmas.Bool.{and_parts, and_from}
use Rattle.std.proofs.Math.Seq.{take-suc, drop-cons}
use Rattle.std.proofs.lemmas.List.{take-append-drop, take_rest}
use borrow.Author.Tests.{lt-ltb}
use Rattle.hp_names.specs.References.{Reference}
use Rattle.hp_names.specs.Numeric.{numeric}
use Rattle.hp_tokens.specs.declared.state.State.TheVariants.{NumericCharacterReference, DecimalCharacterReferenceStart, DecimalCharacterReference, NumericCharacterReferenceEnd}
use Rattle.hp_tokens.specs.declared.state.Return.{Return}
use Rattle.hp_tokens.specs.declared.state.Return.TheVariants.{DoubleQuoted, SingleQuoted, Unquoted}
use Rattle.hp_tokens.specs.declared.building.Building.{Building}
use Rattle.hp_tokens.specs.declared.building.Part.TheVariants.{Value}
use Rattle.hp_tokens.specs.declared.machine.Machine.{Machine}
use Rattle.hp_tokens.specs.States.{enter, return_state, is_in_value}
use Rattle.hp_tokens.specs.Parts.{put}
use Rattle.hp_tokens.specs.Rows.{character, with_buffer, with_value}
use Rattle.hp_tokens.specs.Moves.{Lexing, Move, makes, standing, move}
use Rattle.hp_tokens.specs.Runs.{Leads, here, onward}
use Rattle.hp_tokens.specs.PlainLaws.{unlike}
use Rattle.hp_tokens.proofs.Pieces.{Leads-join}
use Rattle.hp_tokens.proofs.Stepping.{by_rows}
use Rattle.hp_tokens.proofs.Fronts.{low-chars, low-rest, begins}
use Rattle.hp_lex_tags.specs.Letters.{ampersand, number_sign}
use Rattle.hp_lex_tags.specs.Rows.{has_row, row, capped}
use Rattle.hp_lex_tags.specs.Tags.{tag_rules}
use Rattle.hp_lex_tags.specs.Decided.{at_data, behind_reference, EmitsOne, IsReference, number_of, is_decimal, IsDecimal}
use Rattle.hp_lex_tags.specs.Straight.{tagging_at}
use Rattle.hp_lex_tags.proofs.NamedSteps.{tags_rows}
use Rattle.hp_lex_tags.proofs.StraightMoves.{consumed_move, reread_move}
use Rattle.hp_lex_tags.specs.Letters.{is_x}
use Rattle.hp_lex_tags.proofs.UsualReference.{at_reference, ampersand_move}
use Rattle.hp_lex_tags.proofs.ValueReferences.{into_reference, referring}

-- a digit is no other letter
digit_no_cr : (c : ℕ) → is_decimal c ≡ true → (c == 13) ≡ false
digit_no_cr c h = unlike is_decimal 13 c refl h

digit_no_x : (c : ℕ) → is_decimal c ≡ true → is_x c ≡ false
digit_no_x c h = rw (unlike is_decimal 0x78 c refl h, unlike is_decimal 0x58 c refl h) refl

digit_width : (c : ℕ) → is_decimal c ≡ true → len_utf8 c ≡ 1
digit_width c h = grind arith

-- of a machine behind `&`: behind `&#`; where digits may begin; behind digits of a value; behind the semicolon
abbrev pub at_number : Machine → Machine
at_number k = enter NumericCharacterReference (with_buffer (ampersand ∷ (number_sign ∷ [])) k)

abbrev pub at_start : Machine → Machine
at_start k = enter DecimalCharacterReferenceStart (at_number k)

abbrev pub at_digits : ℕ → Machine → Machine
at_digits v k = enter DecimalCharacterReference (with_value v (at_start k))

abbrev pub at_end : ℕ → Machine → Machine
at_end v k = enter NumericCharacterReferenceEnd (at_digits v k)

-- the moves from `#` to the semicolon, whatever the reference stands in
module _ (names : List Reference) (k : Machine) (clear : k.after_cr ≡ false) where
  abbrev pub next : Lexing → Move
  next = move (tag_rules names)

  start_move : (p r c : ℕ) (u : List ℕ) → is_decimal c ≡ true → next (standing (at_number k) p r (c ∷ u)) ≡ makes (standing (at_start k) p r (c ∷ u)) []
  start_move p r c u h = reread_move names (at_number k) (at_start k) p r c u (c ∷ u) clear refl refl (digit_no_cr c h) (rw (digit_no_x c h) refl) refl

  digits_move : (p r c : ℕ) (u : List ℕ) → is_decimal c ≡ true → next (standing (at_start k) p r (c ∷ u)) ≡ makes (standing (at_digits 0 k) p r (c ∷ u)) []
  digits_move p r c u h = reread_move names (at_start k) (at_digits 0 k) p r c u (c ∷ u) clear refl refl (digit_no_cr c h) (rw h refl) refl

  digit_move : (v p r c : ℕ) (u : List ℕ) → is_decimal c ≡ true
      → next (standing (at_digits v k) p r (c ∷ u)) ≡ makes (standing (at_digits (capped (v * 10 + digit_value c)) k) (p + 1) r u) []
  digit_move v p r c u h =
      consumed_move names (at_digits v k) (at_digits (capped (v * 10 + digit_value c)) k) p (p + 1) r c u (c ∷ u) clear clear refl refl (digit_no_cr c h) (rw h refl) refl (omega (arith, digit_width c h))

  over_digits : (ds : List ℕ) (v p r : ℕ) (u : List ℕ) → list_all is_decimal ds ≡ true
      → Leads next (standing (at_digits v k) p r (ds ++ u)) [] (standing (at_digits (number_of v ds) k) (p + length ds) r u)
  over_digits [] v p r u h = let P : ℕ → Type 0 = λ q. Leads next (standing (at_digits v k) p r u) [] (standing (at_digits v k) q r u) in let same : p ≡ p + 0 = omega arith in subst P same here
  over_digits (d ∷ ds) v p r u h =
      let parts = and_parts (is_decimal d) _ h in
      let P : ℕ → Type 0 = λ q. Leads next (standing (at_digits v k) p r (d ∷ (ds ++ u))) [] (standing (at_digits (number_of v (d ∷ ds)) k) q r u) in
      let same : (p + 1) + length ds ≡ p + length (d ∷ ds) = omega arith in
      subst P same (onward (digit_move v p r d (ds ++ u) parts.0) (over_digits ds (capped (v * 10 + digit_value d)) (p + 1) r u parts.1))

  semicolon_move : (v p r : ℕ) (u : List ℕ) → next (standing (at_digits v k) p r (59 ∷ u)) ≡ makes (standing (at_end v k) (p + 1) r u) []
  semicolon_move v p r u = consumed_move names (at_digits v k) (at_end v k) p (p + 1) r 59 u (59 ∷ u) clear clear refl refl refl refl refl refl

  pub over_decimal : (d : ℕ) (ds u : List ℕ) (p r : ℕ) → list_all is_decimal (d ∷ ds) ≡ true
      → Leads next (standing (at_number k) p r ((d ∷ ds) ++ (59 ∷ u))) [] (standing (at_end (number_of 0 (d ∷ ds)) k) ((p + length (d ∷ ds)) + 1) r u)
  over_decimal d ds u p r h =
      let parts = and_parts (is_decimal d) _ h in
      onward (start_move p r d (ds ++ (59 ∷ u)) parts.0)
      (onward (digits_move p r d (ds ++ (59 ∷ u)) parts.0)
      (Leads-join (over_digits (d ∷ ds) 0 p r (59 ∷ u) h)
      (onward (semicolon_move (number_of 0 (d ∷ ds)) (p + length (d ∷ ds)) r u) here)))

-- in the data state it is emitted
module _ (names : List Reference) (m : Machine) where
  sign_move : (p r : ℕ) (u : List ℕ) → move (tag_rules names) (standing (at_reference m) p r (35 ∷ u)) ≡ makes (standing (at_number (at_reference m)) (p + 1) r u) []
  sign_move p r u = refl

  end_move : (v p r c : ℕ) (u : List ℕ)
      → move (tag_rules names) (standing (at_end v (at_reference m)) p r (c ∷ u)) ≡ makes (standing (behind_reference m) p r (c ∷ u)) (record { began = r; token = character (numeric v) } ∷ [])
  end_move v p r c u =
      (by_rows (tag_rules names) has_row row (tags_rows names)).by_row (standing (at_end v (at_reference m)) p r (c ∷ u)) c u refl refl refl

  decimal_emits : (d : ℕ) (ds : List ℕ) (c : ℕ) (u : List ℕ) (p r : ℕ) → list_all is_decimal (d ∷ ds) ≡ true
      → EmitsOne names (standing (at_data m) p r (38 ∷ (35 ∷ ((d ∷ ds) ++ (59 ∷ (c ∷ u)))))) (standing (behind_reference m) ((((p + 1) + 1) + length (d ∷ ds)) + 1) p (c ∷ u)) (numeric (number_of 0 (d ∷ ds))) p
  decimal_emits d ds c u p r h = record {
    mid = standing (at_end (number_of 0 (d ∷ ds)) (at_reference m)) ((((p + 1) + 1) + length (d ∷ ds)) + 1) p (c ∷ u);
    quiet =
        onward (ampersand_move names m p r (35 ∷ ((d ∷ ds) ++ (59 ∷ (c ∷ u)))))
        (onward (sign_move (p + 1) p ((d ∷ ds) ++ (59 ∷ (c ∷ u)))) (over_decimal names (at_reference m) refl d ds (c ∷ u) ((p + 1) + 1) p h));
    inside = refl;
    last = end_move (number_of 0 (d ∷ ds)) ((((p + 1) + 1) + length (d ∷ ds)) + 1) p c u;
  }

-- in a value it goes behind what was read of it
module _ (names : List Reference) (last : Option (List ℕ)) (b : Building) where
  value_sign : (back : Return) (p r : ℕ) (u : List ℕ)
      → move (tag_rules names) (standing (referring back last b) p r (35 ∷ u)) ≡ makes (standing (at_number (referring back last b)) (p + 1) r u) []
  value_sign back p r u = consumed_move names (referring back last b) (at_number (referring back last b)) p (p + 1) r 35 u (35 ∷ u) refl refl refl refl refl refl refl refl

  value_end : (back : Return) → is_in_value back ≡ true → (v p r c : ℕ) (u : List ℕ)
      → move (tag_rules names) (standing (at_end v (referring back last b)) p r (c ∷ u)) ≡ makes (tagging_at last (return_state back) (put Value (numeric v ∷ []) b) p r (c ∷ u)) []
  value_end DoubleQuoted h v p r c u =
      (by_rows (tag_rules names) has_row row (tags_rows names)).by_row (standing (at_end v (referring DoubleQuoted last b)) p r (c ∷ u)) c u refl refl refl
  value_end SingleQuoted h v p r c u =
      (by_rows (tag_rules names) has_row row (tags_rows names)).by_row (standing (at_end v (referring SingleQuoted last b)) p r (c ∷ u)) c u refl refl refl
  value_end Unquoted h v p r c u =
      (by_rows (tag_rules names) has_row row (tags_rows names)).by_row (standing (at_end v (referring Unquoted last b)) p r (c ∷ u)) c u refl refl refl
  value_end _ h v p r c u = cc

  decimal_in_value : (d : ℕ) (ds : List ℕ) (c : ℕ) (u : List ℕ) → list_all is_decimal (d ∷ ds) ≡ true → (back : Return) → is_in_value back ≡ true → (p r : ℕ)
      → Leads (move (tag_rules names)) (tagging_at last (return_state back) b p r (38 ∷ (35 ∷ ((d ∷ ds) ++ (59 ∷ (c ∷ u)))))) []
      (tagging_at last (return_state back) (put Value (numeric (number_of 0 (d ∷ ds)) ∷ []) b) ((((p + 1) + 1) + length (d ∷ ds)) + 1) r (c ∷ u))
  decimal_in_value d ds c u h back in_value p r =
      let text : List ℕ = 35 ∷ ((d ∷ ds) ++ (59 ∷ (c ∷ u))) in
      onward (into_reference names last b back in_value p (p + 1) r text (38 ∷ text) refl refl)
      (onward (value_sign back (p + 1) r ((d ∷ ds) ++ (59 ∷ (c ∷ u))))
      (Leads-join (over_decimal names (referring back last b) refl d ds (c ∷ u) ((p + 1) + 1) r h)
      (onward (value_end back in_value (number_of 0 (d ∷ ds)) ((((p + 1) + 1) + length (d ∷ ds)) + 1) r c u) here)))

-- digits are ASCII
digit_ascii : (c : ℕ) → is_decimal c ≡ true → c < 128
digit_ascii c h = grind arith

digits_ascii : (ds more : List ℕ) → list_all is_decimal ds ≡ true → list_all (λ c. nat_lt c 128) (take (suc (length ds)) (ds ++ (59 ∷ more))) ≡ true
digits_ascii [] more h = refl
digits_ascii (d ∷ ds) more h =
    let parts = and_parts (is_decimal d) _ h in
    and_from (nat_lt d 128) _ (lt-ltb d 128 (digit_ascii d parts.0)) (digits_ascii ds more parts.1)

behind_digits : (ds more : List ℕ) → drop (suc (length ds)) (ds ++ (59 ∷ more)) ≡ more
behind_digits [] more = refl
behind_digits (d ∷ ds) more = behind_digits ds more

ends_at : (p n : ℕ) → (((p + 1) + 1) + n) + 1 ≡ p + 1 + suc (suc n)
ends_at p n = omega arith

-- a decimal reference, its `#` first
pub decimal_reference : (names : List Reference) (u : List ℕ) (value count : ℕ) → IsDecimal u value count → (numeric value == 0) ≡ false
    → IsReference names (35 ∷ u) (numeric value) (count + 2)
decimal_reference names u value count x some =
    let ds : List ℕ = x.d ∷ x.ds in
    let R : ℕ → ℕ → List ℕ → Type 0 = λ v n text. IsReference names (35 ∷ text) (numeric v) n in
    let size : suc (suc (length ds)) ≡ count + 2 = omega (arith, x.many) in
    let S : ℕ → Type 0 = λ v. (numeric v == 0) ≡ false in
    let here_is : IsReference names (35 ∷ (ds ++ (59 ∷ (x.next ∷ x.rest)))) (numeric (number_of 0 ds)) (suc (suc (length ds))) = record {
      ascii = record {
        within = omega (arith, length-append ds (59 ∷ (x.next ∷ x.rest)));
        ascii = digits_ascii ds (x.next ∷ x.rest) x.digits;
      };
      some = subst S x.is some;
      emits = λ m p r.
          let P : List ℕ → ℕ → Type 0 = λ xs q. EmitsOne names (standing (at_data m) p r (38 ∷ (35 ∷ (ds ++ (59 ∷ (x.next ∷ x.rest)))))) (standing (behind_reference m) q p xs) (numeric (number_of 0 ds)) p in
          let Q : ℕ → Type 0 = λ q. P (x.next ∷ x.rest) q in
          let O : List ℕ → Type 0 = λ xs. P xs (p + 1 + (suc (suc (length ds)))) in
          subst O (sym (behind_digits ds (x.next ∷ x.rest))) (subst Q (ends_at p (length ds)) (decimal_emits names m x.d x.ds x.next x.rest p r x.digits));
      in_value = λ back h last b p r.
          let P : List ℕ → ℕ → Type 0 = λ xs q. Leads (move (tag_rules names)) (tagging_at last (return_state back) b p r (38 ∷ (35 ∷ (ds ++ (59 ∷ (x.next ∷ x.rest)))))) []
          (tagging_at last (return_state back) (put Value (numeric (number_of 0 ds) ∷ []) b) q r xs) in
          let Q : ℕ → Type 0 = λ q. P (x.next ∷ x.rest) q in
          let O : List ℕ → Type 0 = λ xs. P xs (p + 1 + (suc (suc (length ds)))) in
          subst O (sym (behind_digits ds (x.next ∷ x.rest))) (subst Q (ends_at p (length ds)) (decimal_in_value names last b x.d x.ds x.next x.rest x.digits back h p r));
    } in
    let A : List ℕ → Type 0 = λ text. R (number_of 0 ds) (suc (suc (length ds))) text in
    let B : ℕ → Type 0 = λ v. R v (suc (suc (length ds))) u in
    let C : ℕ → Type 0 = λ n. R value n u in
    subst C size (subst B (sym x.is) (subst A (sym x.spelled) here_is))

-- what is found in the bytes of a text is found in its code points
chars_behind : (ds more : List ℕ) → list_all is_decimal ds ≡ true → IsUtf8 (ds ++ more) → (chars (ds ++ more) ≡ ds ++ chars more) × IsUtf8 more
chars_behind [] more h u = (refl, u)
chars_behind (d ∷ ds) more h u =
    let parts = and_parts (is_decimal d) _ h in
    let low = digit_ascii d parts.0 in
    let rest = chars_behind ds more parts.1 (low-rest d (ds ++ more) u low) in
    (low-chars d (ds ++ more) u low ∙ ap (λ (xs : List ℕ). d ∷ xs) rest.0, rest.1)

pub decimal_chars : (bytes : List ℕ) (value count : ℕ) → IsUtf8 bytes → IsDecimal bytes value count → IsDecimal (chars bytes) value count
decimal_chars bytes value count u x =
    let ds : List ℕ = x.d ∷ x.ds in
    let U : List ℕ → Type 0 = λ xs. IsUtf8 xs in
    let split = chars_behind ds (59 ∷ (x.next ∷ x.rest)) x.digits (subst U x.spelled u) in
    let rest : IsUtf8 (x.next ∷ x.rest) = low-rest 59 (x.next ∷ x.rest) split.1 (omega arith) in
    let b = begins x.next x.rest rest in
    record {
      d = x.d;
      ds = x.ds;
      next = b.c;
      rest = b.cs;
      spelled = ap (λ (xs : List ℕ). chars xs) x.spelled ∙ (split.0 ∙ ap (λ (xs : List ℕ). ds ++ xs) (low-chars 59 (x.next ∷ x.rest) split.1 (omega arith) ∙ ap (λ (xs : List ℕ). 59 ∷ xs) b.spelled));
      digits = x.digits;
      is = x.is;
      many = x.many;
    }

-- the loop over digits
pub number_on : (ds : List ℕ) (v d : ℕ) → number_of v (ds ++ (d ∷ [])) ≡ capped (number_of v ds * 10 + digit_value d)
number_on [] v d = refl
number_on (x ∷ xs) v d = number_on xs (capped (v * 10 + digit_value x)) d

all_on : (ds : List ℕ) (d : ℕ) → list_all is_decimal ds ≡ true → is_decimal d ≡ true → list_all is_decimal (ds ++ (d ∷ [])) ≡ true
all_on [] d h k = rw k refl
all_on (x ∷ xs) d h k = let parts = and_parts (is_decimal x) _ h in and_from (is_decimal x) _ parts.0 (all_on xs d parts.1 k)

-- so many digits were read
pub record ReadsDigits (text : List ℕ) (count value : ℕ) : Type 0 where
  pub within : count ≤ length text
  pub digits : list_all is_decimal (take count text) ≡ true
  pub is : value ≡ number_of 0 (take count text)

pub no_digits : (text : List ℕ) → ReadsDigits text 0 0
no_digits text = record { within = omega arith; digits = refl; is = refl }

digit_is : (c : ℕ) → is_ascii_digit c ≡ true → is_decimal c ≡ true
digit_is c h = grind arith

digit_value_is : (c : ℕ) → is_ascii_digit c ≡ true → digit_value c ≡ c - 48
digit_value_is c h = grind arith

pub digit_on : (text : List ℕ) (count value more : ℕ) → ReadsDigits text count value → count < length text → is_ascii_digit (slice_index text count) ≡ true
    → more ≡ capped (value * 10 + (slice_index text count - 48)) → ReadsDigits text (count + 1) more
digit_on text count value more r l digit says =
    let c : ℕ = slice_index text count in
    let step : take (count + 1) text ≡ take count text ++ (c ∷ []) = ap (λ (n : ℕ). take n text) (let e : count + 1 ≡ suc count = omega arith in e) ∙ take-suc text count 0 l in
    let A : List ℕ → Type 0 = λ xs. list_all is_decimal xs ≡ true in
    let V : List ℕ → Type 0 = λ xs. more ≡ number_of 0 xs in
    record {
      within = omega (arith, l);
      digits = subst A (sym step) (all_on (take count text) c r.digits (digit_is c digit));
      is = subst V (sym step) (says ∙ (ap (λ (v : ℕ). capped (v * 10 + (c - 48))) r.is ∙ (ap (λ (d : ℕ). capped (number_of 0 (take count text) * 10 + d)) (sym (digit_value_is c digit)) ∙ sym (number_on (take count text) 0 c))));
    }

pub digits_end : (text : List ℕ) (count value : ℕ) → ReadsDigits text count value → 0 < count → count + 1 < length text → slice_index text count ≡ 59 → IsDecimal text value count
digits_end text count value r some l semicolon = go (take count text) (drop (count + 2) text) refl spelled
  where
    rest_is : drop count text ≡ 59 ∷ (slice_index text (count + 1) ∷ drop (count + 2) text)
    rest_is =
        drop-cons text count 0 (let k : count < length text = omega (arith, l) in k)
        ∙ (ap (λ (x : ℕ). x ∷ drop (suc count) text) semicolon
        ∙ (ap (λ (n : ℕ). 59 ∷ drop n text) (let e : suc count ≡ count + 1 = omega arith in e)
        ∙ (ap (λ (xs : List ℕ). 59 ∷ xs) (drop-cons text (count + 1) 0 l)
        ∙ ap (λ (n : ℕ). 59 ∷ (slice_index text (count + 1) ∷ drop n text)) (let e : suc (count + 1) ≡ count + 2 = omega arith in e))))

    spelled : text ≡ take count text ++ (59 ∷ (slice_index text (count + 1) ∷ drop (count + 2) text))
    spelled = sym (take-append-drop count text) ∙ ap (λ (xs : List ℕ). take count text ++ xs) rest_is

    go : (ds rest : List ℕ) → take count text ≡ ds → text ≡ take count text ++ (59 ∷ (slice_index text (count + 1) ∷ rest)) → IsDecimal text value count
    go [] rest e whole =
        let none : length (take count text) ≡ 0 = ap length e in
        absurd (omega (arith, some, r.within, length-take-le count text r.within, none))
    go (d ∷ ds) rest e whole =
        let A : List ℕ → Type 0 = λ xs. list_all is_decimal xs ≡ true in
        record {
          d = d;
          ds = ds;
          next = slice_index text (count + 1);
          rest = rest;
          spelled = whole ∙ ap (λ (xs : List ℕ). xs ++ (59 ∷ (slice_index text (count + 1) ∷ rest))) e;
          digits = subst A e r.digits;
          is = r.is ∙ ap (λ (xs : List ℕ). number_of 0 xs) e;
          many = sym (length-take-le count text r.within) ∙ ap length e;
        }

pub some_count : (n : ℕ) → (n ≡ 0 → ⊥) → 0 < n
some_count zero h = absurd (h refl)
some_count (suc n) h = omega arith

-- behind `#`
abbrev pub behind_first : List ℕ → List ℕ
behind_first bytes = take (length bytes - 1) (drop 1 bytes)

pub behind_sign : (bytes : List ℕ) (x : ℕ) → IsUtf8 bytes → slice_get bytes 0 ≡ Some x → x ≡ 35 → (chars bytes ≡ 35 ∷ chars (behind_first bytes)) × IsUtf8 (behind_first bytes)
behind_sign [] x u e is = cc
behind_sign (y ∷ ys) x u e is =
    let same : y ≡ 35 = cc in
    let low : y < 128 = omega (arith, same) in
    let whole : behind_first (y ∷ ys) ≡ ys = take_rest (y ∷ ys) 1 in
    let P : List ℕ → Type 0 = λ xs. (chars (y ∷ ys) ≡ 35 ∷ chars xs) × IsUtf8 xs in
    subst P (sym whole) (low-chars y ys u low ∙ ap (λ (k : ℕ). k ∷ chars ys) same, low-rest y ys u low)
