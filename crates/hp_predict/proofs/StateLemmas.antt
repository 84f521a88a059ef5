-- A state of its parts.
use Rattle.std.proofs.Common.{◌≡◌, ℕ, suc, ◌+◌, ◌-◌, Bool, true, false, List, [], ◌∷◌, ◌++◌, length, drop, sym, ap, subst, ◌∙◌, arith}
use Rattle.std.specs.Prelude.{Option, None, Some, Result, Ok, Err, OnOk, if◌then◌else◌}
use Rattle.hp_elements.specs.KnownNames as known
use Rattle.hp_elements.specs.declared.token.Mode.{Mode}
use Rattle.hp_elements.specs.declared.token.Mode.TheVariants as mode
use Rattle.hp_tokens.specs.declared.lexing.LexState.{LexState}
use Rattle.hp_control.specs.States.{ControlState, IsValid}
use Rattle.hp_control.specs.Viewing.{state_of}
use Rattle.hp_control.specs.Walks.{reset_mode}
use Rattle.hp_predict.specs.Tags.{SeenTag, counted_tags}
use Rattle.hp_predict.specs.OpenNames.{Names, is_name, after, unmatched}
use Rattle.hp_predict.specs.Guess.{element, entry, first_of, elements, entries, template_modes, first_form, is_text, lex_for, top, rest_of_names, state_for, last_part, with_ends, ends_in_cr, guessed}
use Rattle.hp_predict.specs.Piling.{IsOf}
use Rattle.hp_predict.specs.declared.pile.Pile.{Pile}
use Rattle.hp_predict.proofs.PartLemmas.{page, elements_length, without_top}
use Rattle.hp_predict.proofs.ValidLemmas.{state_valid}
use Rattle.hp_predict.proofs.EndsLemmas.{start_counted}

-- nothing was made
pub none_made : (pile : Pile) → pile.stack ≡ [] → pile.formatting ≡ [] → pile.templates ≡ [] → pile.form ≡ None → IsOf [] pile
unfolding elements entries template_modes first_form
none_made pile s f t o = record { stack = s; formatting = f; templates = t; form = o }

-- one more element was made
one_made : (base : Names) (old new : Pile) (id : ℕ) (name : List ℕ) → IsOf base old → id ≡ length old.stack + 1 → new.stack ≡ element id name ∷ old.stack → new.formatting ≡ entry id name ++ old.formatting → new.templates ≡ (if is_name known.Template name then mode.InTemplate ∷ old.templates else old.templates) → new.form ≡ first_of old.form (if is_name known.Form name then Some id else None) → IsOf (name ∷ base) new
unfolding elements entries template_modes first_form
one_made base old new id name of i s f t o =
    let n : id ≡ suc (length base) = omega (arith, ap length of.stack, elements_length base) in
    record {
      stack = s ∙ rw (n, of.stack);
      formatting = f ∙ rw (n, of.formatting);
      templates = t ∙ rw of.templates;
      form = o ∙ rw (n, of.form);
    }

-- one more element was put on top
pub one_put : {E : Type 0} (result : Result (Unit {0}) E) (base : Names) (old new : Pile) (id : ℕ) (name made : List ℕ) → IsOf base old → id ≡ length old.stack + 1 → made ≡ name → OnOk result (new.stack ≡ element id made ∷ old.stack) → new.formatting ≡ entry id name ++ old.formatting → new.templates ≡ (if is_name known.Template name then mode.InTemplate ∷ old.templates else old.templates) → new.form ≡ first_of old.form (if is_name known.Form name then Some id else None) → OnOk result (IsOf (name ∷ base) new)
one_put (Ok u) base old new id name made of i n s f t o = one_made base old new id name of i (s ∙ ap (λ (x : List ℕ). element id x ∷ old.stack) n) f t o
one_put (Err e) base old new id name made of i n s f t o = tt

-- the state of the parts that were made
pub built : (after_cr : Bool) (names : Names) (name : List ℕ) (lex : LexState) (m : Mode) (original : Option Mode) (pile : Pile) (pending : List ℕ) (count : ℕ) → IsOf names pile → name ≡ top names → lex ≡ lex_for after_cr name → m ≡ (if is_text name then mode.Text else reset_mode true pile.templates pile.stack) → original ≡ (if is_text name then Some (reset_mode true pile.templates (drop 1 pile.stack)) else None) → pending ≡ [] → count ≡ length pile.stack → state_of lex m original pile.templates pile.stack pile.formatting (Some (count + 1)) pile.form false false pending false (count + 2) ≡ state_for after_cr names
built after_cr names name lex m original pile pending count of n l e o p k =
    let long = elements_length names in
    let all = ap length of.stack in
    let head : count + 1 ≡ suc (length names) = omega arith in
    let next : count + 2 ≡ suc (suc (length names)) = omega arith in
    let mode_is : m ≡ (if is_text (top names) then mode.Text else reset_mode true (template_modes names) (elements names)) =
    e ∙ rw (n, of.templates, of.stack) in
    let original_is : original ≡ (if is_text (top names) then Some (reset_mode true (template_modes names) (elements (rest_of_names names))) else None) =
    o ∙ rw (n, of.templates, of.stack, without_top names) in
    let lex_is : lex ≡ lex_for after_cr (top names) = l ∙ rw n in
    rw (lex_is, mode_is, original_is, of.templates, of.stack, of.formatting, of.form, p, head, next)

pub built_valid : (after_cr : Bool) (names : Names) (s : ControlState) → s ≡ state_for after_cr (names ++ page) → IsValid s
built_valid after_cr names s e = subst IsValid (sym e) (state_valid after_cr names)

-- the guessed state, from the tags that were read
pub guess_of : (before text part : List ℕ) (names : Names) (cr : Bool) (s : ControlState) → part ≡ drop (length before - 4096) before → names ≡ after (counted_tags part) [] → cr ≡ ends_in_cr before → s ≡ state_for cr (with_ends names (unmatched (counted_tags text) []) ++ page) → s ≡ guessed before text
guess_of before text part names cr s p n c is =
    let n' : names ≡ after (counted_tags (last_part before)) [] =
    n ∙ (ap (λ (xs : List ℕ). after (counted_tags xs) []) p ∙ ap (λ (ts : List SeenTag). after ts []) (sym (start_counted (drop (length before - 4096) before)))) in
    is ∙ rw (c, n')

pub same_guess : (before before' text text' : List ℕ) (s : ControlState) → s ≡ guessed before text → before ≡ before' → text ≡ text' → s ≡ guessed before' text'
same_guess before before' text text' s is b t = is ∙ (ap (λ (xs : List ℕ). guessed xs text) b ∙ ap (guessed before') t)
