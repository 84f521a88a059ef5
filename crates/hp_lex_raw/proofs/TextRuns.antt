-- In a state of text the row emits each code point of a run, and the state stays.
use Rattle.std.proofs.Common.{◌≡◌, ℕ, [], ◌∷◌, Bool, true, false, refl, ap, ◌∙◌, Some, IsTrue, ◌⊎◌, inl, inr}
use Rattle.std.specs.Prelude.{◌==◌, ◌&&◌}
use Rattle.hp_tokens.specs.declared.state.State.{State}
use Rattle.hp_tokens.specs.declared.state.State.TheVariants.{Rcdata, Rawtext, ScriptData, Plaintext, ScriptDataEscaped, ScriptDataDoubleEscaped}
use Rattle.hp_tokens.specs.declared.machine.Machine.{Machine}
use Rattle.hp_tokens.specs.Rows.{is_blank, replaced, stay, plus}
use Rattle.hp_tokens.specs.Moves.{read_as}
use Rattle.hp_tokens.specs.Advancing.{HasRows}
use Rattle.hp_tokens.specs.Plain.{none_of, data_stops, raw_stops, whole_data_stops, whole_raw_stops, plaintext_stops, escaped_stops, EmitsPlain}
use Rattle.hp_tokens.specs.PlainLaws.{apart, blank-apart}
use Rattle.hp_tokens.proofs.Stepping.{chosen, passed}
use Rattle.hp_lex_raw.specs.Rows.{has_row, row, row_of, ends_name, rcdata, raw_text, plaintext, escaped, double_escaped}
use Rattle.hp_lex_raw.specs.Fine.{text_here}
use Rattle.hp_lex_raw.specs.Raw.{raw_rules, asks, names_end_tag, is_untold, reads_text}

-- the row of the state that the machine is in
row_there : (m : Machine) (c : ℕ) (s t : State) → m.state ≡ s → s ≡ t → row m (Some c) ≡ row_of t m (Some c)
row_there m c s t is e = ap (λ (x : State). row_of x m (Some c)) (is ∙ e)

-- what is not U+0000 is not replaced
kept : (m : Machine) (c : ℕ) → (c == 0) ≡ false → plus (replaced c) (stay m) ≡ plus c (stay m)
kept m c z =
    let same : replaced c ≡ c = rw z refl in
    ap (λ (x : ℕ). plus x (stay m)) same

rcdata_emits : (m : Machine) (c : ℕ) → (c == 38) ≡ false → (c == 60) ≡ false → (c == 0) ≡ false → rcdata m (Some c) ≡ plus c (stay m)
rcdata_emits m c a b z = rw (a, b) (kept m c z)

raw_emits : (n : State) (m : Machine) (c : ℕ) → (c == 60) ≡ false → (c == 0) ≡ false → raw_text n m (Some c) ≡ plus c (stay m)
raw_emits n m c a z = rw a (kept m c z)

plaintext_emits : (m : Machine) (c : ℕ) → (c == 0) ≡ false → plaintext m (Some c) ≡ plus c (stay m)
plaintext_emits m c z = kept m c z

escaped_emits : (m : Machine) (c : ℕ) → (c == 45) ≡ false → (c == 60) ≡ false → (c == 0) ≡ false → escaped m (Some c) ≡ plus c (stay m)
escaped_emits m c a b z = rw (a, b) (kept m c z)

double_escaped_emits : (m : Machine) (c : ℕ) → (c == 45) ≡ false → (c == 60) ≡ false → (c == 0) ≡ false → double_escaped m (Some c) ≡ plus c (stay m)
double_escaped_emits m c a b z = rw (a, b) (kept m c z)

module _ (s : State) where
  pub rcdata_blanks : s ≡ Rcdata → EmitsPlain row is_blank s
  rcdata_blanks e = record {
    stays = λ m c is h.
        let a = blank-apart (38 ∷ 60 ∷ 0 ∷ []) refl c h in
        row_there m c s Rcdata is e ∙ rcdata_emits m c a.0 a.1.0 a.1.1.0;
  }

  pub rcdata_others : s ≡ Rcdata → EmitsPlain row (none_of data_stops) s
  rcdata_others e = record {
    stays = λ m c is h.
        let a = apart data_stops c h in
        row_there m c s Rcdata is e ∙ rcdata_emits m c a.1.1.1.1.1.1.0 a.1.1.1.1.1.1.1.0 a.0;
  }

  pub rawtext_blanks : s ≡ Rawtext → EmitsPlain row is_blank s
  rawtext_blanks e = record {
    stays = λ m c is h.
        let a = blank-apart (60 ∷ 0 ∷ []) refl c h in
        row_there m c s Rawtext is e ∙ raw_emits _ m c a.0 a.1.0;
  }

  pub rawtext_others : s ≡ Rawtext → EmitsPlain row (none_of raw_stops) s
  rawtext_others e = record {
    stays = λ m c is h.
        let a = apart raw_stops c h in
        row_there m c s Rawtext is e ∙ raw_emits _ m c a.1.1.1.1.1.1.0 a.0;
  }

  pub script_blanks : s ≡ ScriptData → EmitsPlain row is_blank s
  script_blanks e = record {
    stays = λ m c is h.
        let a = blank-apart (60 ∷ 0 ∷ []) refl c h in
        row_there m c s ScriptData is e ∙ raw_emits _ m c a.0 a.1.0;
  }

  pub script_others : s ≡ ScriptData → EmitsPlain row (none_of raw_stops) s
  script_others e = record {
    stays = λ m c is h.
        let a = apart raw_stops c h in
        row_there m c s ScriptData is e ∙ raw_emits _ m c a.1.1.1.1.1.1.0 a.0;
  }

  -- up to the next markup, in any class
  pub rcdata_whole : s ≡ Rcdata → EmitsPlain row (none_of whole_data_stops) s
  rcdata_whole e = record {
    stays = λ m c is h.
        let a = apart whole_data_stops c h in
        row_there m c s Rcdata is e ∙ rcdata_emits m c a.1.1.0 a.1.1.1.0 a.0;
  }

  pub rawtext_whole : s ≡ Rawtext → EmitsPlain row (none_of whole_raw_stops) s
  rawtext_whole e = record {
    stays = λ m c is h.
        let a = apart whole_raw_stops c h in
        row_there m c s Rawtext is e ∙ raw_emits _ m c a.1.1.0 a.0;
  }

  pub script_whole : s ≡ ScriptData → EmitsPlain row (none_of whole_raw_stops) s
  script_whole e = record {
    stays = λ m c is h.
        let a = apart whole_raw_stops c h in
        row_there m c s ScriptData is e ∙ raw_emits _ m c a.1.1.0 a.0;
  }

  -- in RAWTEXT and in script data
  pub raw_blanks : (s ≡ Rawtext) ⊎ (s ≡ ScriptData) → EmitsPlain row is_blank s
  raw_blanks (inl raw) = rawtext_blanks raw
  raw_blanks (inr script) = script_blanks script

  pub raw_others : (s ≡ Rawtext) ⊎ (s ≡ ScriptData) → EmitsPlain row (none_of raw_stops) s
  raw_others (inl raw) = rawtext_others raw
  raw_others (inr script) = script_others script

  pub raw_whole : (s ≡ Rawtext) ⊎ (s ≡ ScriptData) → EmitsPlain row (none_of whole_raw_stops) s
  raw_whole (inl raw) = rawtext_whole raw
  raw_whole (inr script) = script_whole script

  pub raw_here : (s ≡ Rawtext) ⊎ (s ≡ ScriptData) → has_row s ≡ true
  raw_here (inl raw) = ap has_row raw
  raw_here (inr script) = ap has_row script

  pub plaintext_blanks : s ≡ Plaintext → EmitsPlain row is_blank s
  plaintext_blanks e = record {
    stays = λ m c is h. row_there m c s Plaintext is e ∙ plaintext_emits m c (blank-apart (0 ∷ []) refl c h).0;
  }

  pub plaintext_others : s ≡ Plaintext → EmitsPlain row (none_of plaintext_stops) s
  plaintext_others e = record {
    stays = λ m c is h. row_there m c s Plaintext is e ∙ plaintext_emits m c (apart plaintext_stops c h).0;
  }

  pub escaped_blanks : s ≡ ScriptDataEscaped → EmitsPlain row is_blank s
  escaped_blanks e = record {
    stays = λ m c is h.
        let a = blank-apart (45 ∷ 60 ∷ 0 ∷ []) refl c h in
        row_there m c s ScriptDataEscaped is e ∙ escaped_emits m c a.0 a.1.0 a.1.1.0;
  }

  pub escaped_others : s ≡ ScriptDataEscaped → EmitsPlain row (none_of escaped_stops) s
  escaped_others e = record {
    stays = λ m c is h.
        let a = apart escaped_stops c h in
        row_there m c s ScriptDataEscaped is e ∙ escaped_emits m c a.1.1.1.1.1.1.0 a.1.1.1.1.1.1.1.0 a.0;
  }

  pub double_escaped_blanks : s ≡ ScriptDataDoubleEscaped → EmitsPlain row is_blank s
  double_escaped_blanks e = record {
    stays = λ m c is h.
        let a = blank-apart (45 ∷ 60 ∷ 0 ∷ []) refl c h in
        row_there m c s ScriptDataDoubleEscaped is e ∙ double_escaped_emits m c a.0 a.1.0 a.1.1.0;
  }

  pub double_escaped_others : s ≡ ScriptDataDoubleEscaped → EmitsPlain row (none_of escaped_stops) s
  double_escaped_others e = record {
    stays = λ m c is h.
        let a = apart escaped_stops c h in
        row_there m c s ScriptDataDoubleEscaped is e ∙ double_escaped_emits m c a.1.1.1.1.1.1.0 a.1.1.1.1.1.1.1.0 a.0;
  }

  -- in both kinds of escaped script data
  pub any_escaped_blanks : (s ≡ ScriptDataEscaped) ⊎ (s ≡ ScriptDataDoubleEscaped) → EmitsPlain row is_blank s
  any_escaped_blanks (inl once) = escaped_blanks once
  any_escaped_blanks (inr twice) = double_escaped_blanks twice

  pub any_escaped_others : (s ≡ ScriptDataEscaped) ⊎ (s ≡ ScriptDataDoubleEscaped) → EmitsPlain row (none_of escaped_stops) s
  any_escaped_others (inl once) = escaped_others once
  any_escaped_others (inr twice) = double_escaped_others twice

-- nothing is asked in a state of text
pub text_rows : HasRows raw_rules reads_text row
text_rows = record {
  on = λ l c cs is.
      chosen (has_row l.machine.state) _ _ (text_here l.machine.state is)
      ∙ passed (asks l.machine c) _ _ (not_asked l.machine.state (is_untold l.machine.last_tag) (ends_name (read_as c)) is);
  last = λ l text is. chosen (has_row l.machine.state) _ _ (text_here l.machine.state is);
}
  where
    not_asked : (s : State) (untold ends : Bool) → IsTrue (reads_text s) → ((names_end_tag s && untold) && ends) ≡ false
    not_asked Rcdata untold ends h = refl
    not_asked Rawtext untold ends h = refl
    not_asked ScriptData untold ends h = refl
    not_asked Plaintext untold ends h = refl
    not_asked ScriptDataEscaped untold ends h = refl
    not_asked ScriptDataDoubleEscaped untold ends h = refl
    not_asked _ untold ends h = cc
