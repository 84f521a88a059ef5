-- What a view edited so far changes nothing of what the run asks.
use Rattle.std.proofs.Common.{◌≡◌, List, [], ◌++◌, refl, ap, ◌∙◌, sym, subst}
use Rattle.std.specs.Prelude.{Result, Ok, Err, if◌then◌else◌}
use Rattle.hp_elements.specs.declared.token.Token.{Token}
use Rattle.hp_names.specs.References.{Reference}
use Rattle.hp_tokens.specs.Moves.{Emitted, Lexing, move}
use Rattle.hp_control.specs.declared.question.Answer.{Answer}
use Rattle.hp_control.specs.declared.question.Crossing.{Crossing}
use Rattle.hp_control.specs.declared.question.Question.{Question}
use Rattle.hp_control.specs.Plan.{asked_by, end_by, gives}
use Rattle.hp_control.specs.Running.{end_then}
use Rattle.hp_control.specs.States.{ControlState}
use Rattle.hp_control.specs.Truth.{answer_of}
use Rattle.hp_lexer.specs.Table.{table}
use Rattle.hp_runs.specs.Closing.{LeadsOn}
use Rattle.hp_views.specs.SecondPlans.{foreign_now_plan}
use Rattle.hp_asked.proofs.Following.{seek-same}
use Rattle.hp_asked.proofs.TextRuns.{IsSame, bare_seeker, told-asks, told-ends}
use Rattle.hp_asked.specs.Right.{RightFrom}
use Rattle.hp_asked.specs.Seeking.{Asks, Seeker, Spells, at, name, name_before, named_last, nothing, onward, section, seek, tokens}
use Rattle.hp_fragment.specs.Reading.{unedited}

-- an end but for the edits is one
pub ended-in : (end : Result Seeker Crossing) (m : Seeker) → unedited end ≡ unedited (Ok m) → (n : Seeker) × (end ≡ Ok n) × IsSame n m
ended-in (Ok n) m e = (n, refl, by e)
  where
    by : Path (Result Seeker Crossing) (Ok (bare_seeker n)) (Ok (bare_seeker m)) → bare_seeker n ≡ bare_seeker m
    by e = cc
ended-in (Err crossing) m e = absurd (by e)
  where
    by : Path (Result Seeker Crossing) (Err crossing) (Ok (bare_seeker m)) → ⊥
    by e = cc

pub ended-crossed : (end : Result Seeker Crossing) (crossing : Crossing) → unedited end ≡ unedited (Err crossing) → end ≡ Err crossing
ended-crossed (Ok n) crossing e = absurd (by e)
  where
    by : Path (Result Seeker Crossing) (Ok (bare_seeker n)) (Err crossing) → ⊥
    by e = cc
ended-crossed (Err x) crossing e = e

module _ (says : Question → Answer) (ts : List Token) (k m : Seeker) (same : IsSame k m) where
  pub asked-same : asked_by says (seek ts k) ≡ asked_by says (seek ts m)
  asked-same = told-asks says bare_seeker (seek ts k) (seek ts m) (seek-same ts k m same)

  pub end-same : unedited (end_by says (seek ts k)) ≡ unedited (end_by says (seek ts m))
  end-same =
      sym (end_then says (seek ts k) (λ x. gives (bare_seeker x)))
      ∙ (ap (end_by says) (seek-same ts k m same) ∙ end_then says (seek ts m) (λ x. gives (bare_seeker x)))

module _ (names : List Reference) (s : ControlState) where
  at-same : (l : Lexing) (k m : Seeker) → IsSame k m → IsSame (at l k) (at l m)
  at-same l k m same = λ i. record { lexing = l; split = (same i).split }

  leads-same : (k m : Seeker) (es : List Emitted) (l : Lexing) → IsSame k m → LeadsOn (move (table names)) k.lexing es l → LeadsOn (move (table names)) m.lexing es l
  leads-same k m es l same leads = subst (λ (x : Lexing). LeadsOn (move (table names)) x es l) (ap (λ (x : Seeker). x.lexing) same) leads

  spells-same : (k m : Seeker) (ts : List Token) (es : List Emitted) → IsSame k m → Spells s k.split ts es → Spells s m.split ts es
  spells-same k m ts es same spells = subst (λ (x : Seeker). Spells s x.split ts es) same spells

  asks-same : {k : Seeker} {qs : List Question} → Asks names s k qs → (j : Seeker) → IsSame k j → Asks names s j qs
  asks-same nothing j same = nothing
  asks-same {k} (tokens {l = l} {es = es} {ts = ts} leads spells) j same =
      subst (Asks names s j) (sym (asked-same (answer_of s) ts (at l k) (at l j) (at-same l k j same))) (tokens {l = l} {es = es} {ts = ts} (leads-same k j es l same leads) (spells-same k j ts es same spells))
  asks-same {k} (onward {m = m} {l = l} {es = es} {ts = ts} {qs = qs} leads spells ends more) j same =
      let there : IsSame (at l k) (at l j) = at-same l k j same in
      let n = told-ends (answer_of s) bare_seeker (seek ts (at l k)) (seek ts (at l j)) m (seek-same ts (at l k) (at l j) there) ends in
      subst (λ (first : List Question). Asks names s j (first ++ qs)) (sym (asked-same (answer_of s) ts (at l k) (at l j) there))
      (onward {m = n.0} {l = l} {es = es} {ts = ts} (leads-same k j es l same leads) (spells-same k j ts es same spells) n.1 (asks-same more n.0 (sym n.2)))
  asks-same {k} (section {l = l} {foreign = foreign} {html = html} {is_foreign = is_foreign} {qs = qs} leads asks_it ends more) j same =
      let alike : foreign_now_plan k.split ≡ foreign_now_plan j.split = ap (λ (x : Seeker). foreign_now_plan x.split) same in
      subst (λ p. Asks names s j (asked_by (answer_of s) p ++ qs)) (sym alike)
      (section {l = l} {foreign = foreign} {html = html} {is_foreign = is_foreign} (leads-same k j [] l same leads) asks_it (sym (ap (end_by (answer_of s)) alike) ∙ ends) (asks-same more (at (if is_foreign then foreign else html) j) (at-same (if is_foreign then foreign else html) k j same)))
  asks-same {k} (name {l = l} {qs = qs} leads asks_it more) j same =
      name {l = l} (leads-same k j [] l same leads) asks_it (asks-same more (at (named_last (name_before s) l) j) (at-same (named_last (name_before s) l) k j same))

-- So answers that are right are so whatever was edited.
pub right-same : (names : List Reference) (says : Question → Answer) (s : ControlState) (k m : Seeker) → IsSame k m → RightFrom names says s k → RightFrom names says s m
right-same names says s k m same right = λ qs asks. right qs (asks-same names s asks k (sym same))
