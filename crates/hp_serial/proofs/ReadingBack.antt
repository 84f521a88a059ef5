-- The lexer reads an escaped text back.
use Rattle.std.proofs.Common.{◌≡◌, ℕ, ◌+◌, List, [], ◌∷◌, ◌++◌, Bool, true, false, not, refl, ap, sym, subst, ◌∙◌, append_assoc, eqb-true, Some, None}
use Rattle.std.specs.Prelude.{◌==◌}
use Rattle.std.specs.List.{list_all}
use Rattle.std.proofs.lemmas.Bool.{and_parts, not-true}
use Rattle.hp_elements.specs.declared.token.Rest.TheVariants as rest
use Rattle.hp_elements.specs.declared.token.Token.{Token}
use Rattle.hp_names.specs.BuiltIn.{built_in}
use Rattle.hp_names.specs.Longest.{is_open, longest}
use Rattle.hp_names.specs.declared.names.Found.{Found}
use Rattle.hp_tokens.specs.declared.state.State.TheVariants.{NamedCharacterReference}
use Rattle.hp_tokens.specs.Advancing.{tokens_of}
use Rattle.hp_tokens.specs.Moves.{Lexing, Emitted, Move, makes, move, standing}
use Rattle.hp_tokens.specs.Plain.{none_of}
use Rattle.hp_tokens.specs.Rows.{character, resting, with_buffer}
use Rattle.hp_tokens.specs.Runs.{Leads, here, onward}
use Rattle.hp_tokens.specs.States.{enter}
use Rattle.hp_tokens.proofs.Pieces.{Leads-join}
use Rattle.hp_lexer.specs.Table.{table}
use Rattle.hp_serial.specs.declared.escape.Place.TheVariants.{Text}
use Rattle.hp_serial.specs.Escaping.{escaped, text_escape}
use Rattle.hp_serial.specs.ReadBack.{in_data, IsReadBack}
use Rattle.std.specs.Char.{len_utf8}

abbrev next : Lexing → Move
next l = move (table built_in) l

-- a code point is read back
record IsCharBack (place c : ℕ) (more : List ℕ) : Type 0 where
  emitted : List Emitted
  there : ℕ
  leads : Leads next (in_data place (text_escape c ++ more)) emitted (in_data there more)
  tokens : tokens_of emitted ≡ character c ∷ []

-- the names of the references, and what they stand for
abbrev found : ℕ → ℕ → Found
found length code = record { length = length; first = code; second = None; ends_with_semicolon = true }

amp_closed : (more : List ℕ) → is_open built_in (97 ∷ 109 ∷ 112 ∷ 59 ∷ more) ≡ false
unfolding built_in
amp_closed [] = refl
amp_closed (c ∷ more) = refl

amp_longest : (more : List ℕ) → longest built_in (97 ∷ 109 ∷ 112 ∷ 59 ∷ more) ≡ Some (found 4 38)
unfolding built_in
amp_longest [] = refl
amp_longest (c ∷ more) = refl

lt_closed : (more : List ℕ) → is_open built_in (108 ∷ 116 ∷ 59 ∷ more) ≡ false
unfolding built_in
lt_closed [] = refl
lt_closed (c ∷ more) = refl

lt_longest : (more : List ℕ) → longest built_in (108 ∷ 116 ∷ 59 ∷ more) ≡ Some (found 3 60)
unfolding built_in
lt_longest [] = refl
lt_longest (c ∷ more) = refl

gt_closed : (more : List ℕ) → is_open built_in (103 ∷ 116 ∷ 59 ∷ more) ≡ false
unfolding built_in
gt_closed [] = refl
gt_closed (c ∷ more) = refl

gt_longest : (more : List ℕ) → longest built_in (103 ∷ 116 ∷ 59 ∷ more) ≡ Some (found 3 62)
unfolding built_in
gt_longest [] = refl
gt_longest (c ∷ more) = refl

nbsp_closed : (more : List ℕ) → is_open built_in (110 ∷ 98 ∷ 115 ∷ 112 ∷ 59 ∷ more) ≡ false
unfolding built_in
nbsp_closed [] = refl
nbsp_closed (c ∷ more) = refl

nbsp_longest : (more : List ℕ) → longest built_in (110 ∷ 98 ∷ 115 ∷ 112 ∷ 59 ∷ more) ≡ Some (found 5 160)
unfolding built_in
nbsp_longest [] = refl
nbsp_longest (c ∷ more) = refl

-- the lexer behind an ampersand, before a name
abbrev before_name : ℕ → ℕ → List ℕ → Lexing
before_name place rested text = standing (enter NamedCharacterReference (with_buffer (38 ∷ []) (resting rest.Data false))) place rested text

abbrev one : ℕ → ℕ → List Emitted
one place c = record { began = place; token = character c } ∷ []

amp_move : (place rested : ℕ) (more : List ℕ) → next (before_name place rested (97 ∷ 109 ∷ 112 ∷ 59 ∷ more)) ≡ makes (in_data (place + 4) more) (one rested 38)
amp_move place rested more = rw (amp_closed more, amp_longest more) refl

lt_move : (place rested : ℕ) (more : List ℕ) → next (before_name place rested (108 ∷ 116 ∷ 59 ∷ more)) ≡ makes (in_data (place + 3) more) (one rested 60)
lt_move place rested more = rw (lt_closed more, lt_longest more) refl

gt_move : (place rested : ℕ) (more : List ℕ) → next (before_name place rested (103 ∷ 116 ∷ 59 ∷ more)) ≡ makes (in_data (place + 3) more) (one rested 62)
gt_move place rested more = rw (gt_closed more, gt_longest more) refl

nbsp_move : (place rested : ℕ) (more : List ℕ) → next (before_name place rested (110 ∷ 98 ∷ 115 ∷ 112 ∷ 59 ∷ more)) ≡ makes (in_data (place + 5) more) (one rested 160)
nbsp_move place rested more = rw (nbsp_closed more, nbsp_longest more) refl

amp_back : (place : ℕ) (more : List ℕ) → IsCharBack place 38 more
amp_back place more = record { emitted = one place 38; there = place + 1 + 4; leads = onward refl (onward refl (onward (amp_move (place + 1) place more) here)); tokens = refl }

lt_back : (place : ℕ) (more : List ℕ) → IsCharBack place 60 more
lt_back place more = record { emitted = one place 60; there = place + 1 + 3; leads = onward refl (onward refl (onward (lt_move (place + 1) place more) here)); tokens = refl }

gt_back : (place : ℕ) (more : List ℕ) → IsCharBack place 62 more
gt_back place more = record { emitted = one place 62; there = place + 1 + 3; leads = onward refl (onward refl (onward (gt_move (place + 1) place more) here)); tokens = refl }

nbsp_back : (place : ℕ) (more : List ℕ) → IsCharBack place 160 more
nbsp_back place more = record { emitted = one place 160; there = place + 1 + 5; leads = onward refl (onward refl (onward (nbsp_move (place + 1) place more) here)); tokens = refl }

-- another code point is emitted as it is read
plain_move : (place c : ℕ) (more : List ℕ) → (c == 13) ≡ false → (c == 38) ≡ false → (c == 60) ≡ false → next (in_data place (c ∷ more)) ≡ makes (in_data (place + len_utf8 c) more) (one place c)
plain_move place c more cr amp lt = rw (cr, amp, lt) (rw cr refl)

plain_escape : (c : ℕ) → (c == 38) ≡ false → (c == 160) ≡ false → (c == 60) ≡ false → (c == 62) ≡ false → text_escape c ≡ c ∷ []
plain_escape c a b d e = rw (a, b, d, e) refl

plain_back : (place c : ℕ) (more : List ℕ) → (c == 13) ≡ false → (c == 38) ≡ false → (c == 160) ≡ false → (c == 60) ≡ false → (c == 62) ≡ false → IsCharBack place c more
plain_back place c more cr amp space lt gt =
    let same : text_escape c ≡ c ∷ [] = plain_escape c amp space lt gt in
    let P : List ℕ → Type 0 = λ xs. Leads next (in_data place (xs ++ more)) (one place c) (in_data (place + len_utf8 c) more) in
    record { emitted = one place c; there = place + len_utf8 c; leads = subst P (sym same) (onward (plain_move place c more cr amp lt) here); tokens = refl }

char_back : (place c : ℕ) (more : List ℕ) → (c == 13) ≡ false → IsCharBack place c more
char_back place c more cr = by_amp (c == 38) refl where
  by_gt : (b : Bool) → (c == 62) ≡ b → (c == 38) ≡ false → (c == 160) ≡ false → (c == 60) ≡ false → IsCharBack place c more
  by_gt true e amp space lt = subst (λ x. IsCharBack place x more) (sym (eqb-true c 62 e)) (gt_back place more)
  by_gt false e amp space lt = plain_back place c more cr amp space lt e

  by_lt : (b : Bool) → (c == 60) ≡ b → (c == 38) ≡ false → (c == 160) ≡ false → IsCharBack place c more
  by_lt true e amp space = subst (λ x. IsCharBack place x more) (sym (eqb-true c 60 e)) (lt_back place more)
  by_lt false e amp space = by_gt (c == 62) refl amp space e

  by_space : (b : Bool) → (c == 160) ≡ b → (c == 38) ≡ false → IsCharBack place c more
  by_space true e amp = subst (λ x. IsCharBack place x more) (sym (eqb-true c 160 e)) (nbsp_back place more)
  by_space false e amp = by_lt (c == 60) refl amp e

  by_amp : (b : Bool) → (c == 38) ≡ b → IsCharBack place c more
  by_amp true e = subst (λ x. IsCharBack place x more) (sym (eqb-true c 38 e)) (amp_back place more)
  by_amp false e = by_space (c == 160) refl e

tokens-append : (es fs : List Emitted) → tokens_of (es ++ fs) ≡ tokens_of es ++ tokens_of fs
tokens-append [] fs = refl
tokens-append (e ∷ es) fs = ap (λ (xs : List Token). e.token ∷ xs) (tokens-append es fs)

pub read_back : (place : ℕ) (text more : List ℕ) → list_all (none_of (13 ∷ [])) text ≡ true → IsReadBack place text more
read_back place [] more h = record { emitted = []; there = place; leads = here; tokens = refl }
read_back place (c ∷ text) more h =
    let parts = and_parts (none_of (13 ∷ []) c) (list_all (none_of (13 ∷ [])) text) h in
    let cr : (c == 13) ≡ false = not-true (c == 13) (and_parts (not (c == 13)) true parts.0).0 in
    let first : IsCharBack place c (escaped Text text ++ more) = char_back place c (escaped Text text ++ more) cr in
    let others : IsReadBack first.there text more = read_back first.there text more parts.1 in
    let P : List ℕ → Type 0 = λ xs. Leads next (in_data place xs) (first.emitted ++ others.emitted) (in_data others.there more) in
    record {
      emitted = first.emitted ++ others.emitted;
      there = others.there;
      leads = subst P (sym (append_assoc (text_escape c) (escaped Text text) more)) (Leads-join first.leads others.leads);
      tokens = tokens-append first.emitted others.emitted ∙ ap (λ xs. xs ++ tokens_of others.emitted) first.tokens ∙ ap (λ (xs : List Token). character c ∷ xs) others.tokens;
    }
