-- A guessed state is valid.
use Rattle.std.proofs.Common.{◌≡◌, ℕ, suc, ◌+◌, Bool, List, [], ◌++◌, length, refl, ap, arith}
use Rattle.std.specs.Prelude.{Some}
use Rattle.std.specs.Option.{is_some, unwrap_or}
use Rattle.hp_elements.specs.RawText.{raw_text_of}
use Rattle.hp_elements.specs.declared.token.Rest.{Rest}
use Rattle.hp_elements.specs.declared.token.Rest.TheVariants as rest
use Rattle.hp_tokens.specs.Rows.{resting}
use Rattle.hp_tokens.specs.States.{state_of_rest}
use Rattle.hp_control.specs.States.{IsValid, LexFits}
use Rattle.hp_control.proofs.RestLemmas.{some_rest}
use Rattle.hp_predict.specs.Tags.{counted_tags}
use Rattle.hp_predict.specs.OpenNames.{Names, after, unmatched}
use Rattle.hp_predict.specs.Guess.{state_for, is_text, mode_for, top, rest_of_names, elements, template_modes, names_for, last_part, with_ends, guessed, ends_in_cr}
use Rattle.hp_predict.specs.Laws.{IsGuess}
use Rattle.hp_predict.proofs.ModeLemmas.{reset_settled, each_template_mode, stack_fits, original_fits, pending_fits}
use Rattle.hp_predict.proofs.PartLemmas.{page, page_length, rooted, tall, stack_ids, list_ids, formatting, form_is, templates, elements_length, entries_length}
use Rattle.hp_predict.proofs.LengthLemmas.{names_length}

rest_fits : (r : Rest) (after_cr : Bool) (name : List ℕ) → LexFits (record { machine = record (resting r after_cr) { last_tag = Some name }; ahead = [] })
rest_fits rest.Data after_cr name = record { parts = refl; token = refl; ahead = refl; last_tag = refl }
rest_fits rest.Rcdata after_cr name = record { parts = refl; token = refl; ahead = refl; last_tag = refl }
rest_fits rest.Rawtext after_cr name = record { parts = refl; token = refl; ahead = refl; last_tag = refl }
rest_fits rest.Script after_cr name = record { parts = refl; token = refl; ahead = refl; last_tag = refl }
rest_fits rest.Plaintext after_cr name = record { parts = refl; token = refl; ahead = refl; last_tag = refl }
rest_fits rest.Escaped after_cr name = record { parts = refl; token = refl; ahead = refl; last_tag = refl }
rest_fits rest.EscapedDash after_cr name = record { parts = refl; token = refl; ahead = refl; last_tag = refl }
rest_fits rest.EscapedDashDash after_cr name = record { parts = refl; token = refl; ahead = refl; last_tag = refl }
rest_fits rest.Double after_cr name = record { parts = refl; token = refl; ahead = refl; last_tag = refl }
rest_fits rest.DoubleDash after_cr name = record { parts = refl; token = refl; ahead = refl; last_tag = refl }
rest_fits rest.DoubleDashDash after_cr name = record { parts = refl; token = refl; ahead = refl; last_tag = refl }
rest_fits rest.Cdata after_cr name = record { parts = refl; token = refl; ahead = refl; last_tag = refl }

pub state_valid : (after_cr : Bool) (names : Names) → IsValid (state_for after_cr (names ++ page))
state_valid after_cr names =
    let all = names ++ page in
    let s = state_for after_cr all in
    let m = mode_for (template_modes all) (elements all) in
    let original = mode_for (template_modes all) (elements (rest_of_names all)) in
    let settled = reset_settled all (elements all) in
    let e = page_length names in
    record {
      stack_ids = stack_ids all (suc (suc (length all))) (omega arith);
      list_ids = list_ids names (suc (suc (length all))) (omega arith);
      head = (omega arith, omega arith);
      form = form_is names (suc (suc (length all))) (omega arith);
      formatting = formatting all;
      stack = stack_fits (is_text (top all)) m s settled (rooted names) (tall names);
      original = original_fits (is_text (top all)) m original settled (reset_settled all (elements (rest_of_names all)));
      pending = pending_fits (is_text (top all)) m;
      template_modes = each_template_mode all;
      templates = templates all;
      lex = rest_fits (unwrap_or (raw_text_of (top all)) rest.Data) after_cr (top all);
    }

pub is_guess : (before text : List ℕ) (from to : ℕ) → length text + from ≡ to → IsGuess from to (guessed before text)
is_guess before text from to e =
    let all = names_for before text in
    let n = names_length before text in
    let l = elements_length all in
    let k = entries_length all in
    let r = unwrap_or (raw_text_of (top all)) rest.Data in
    record {
      valid = state_valid (ends_in_cr before) (with_ends (after (counted_tags (last_part before)) []) (unmatched (counted_tags text) []));
      rests = ap is_some (some_rest (state_of_rest r) r refl);
      head = ap Some (omega arith);
      next = omega arith;
      fits = λ h. record { ids = omega arith; entries = omega arith };
    }
