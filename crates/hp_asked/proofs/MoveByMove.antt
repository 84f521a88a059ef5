-- Moves of which only the last emits others than characters, one by one: characters call for no switch of the lexer, so that they may be
-- handled behind all of the moves.
use Rattle.std.proofs.Common.{◌≡◌, ℕ, List, [], ◌∷◌, ◌++◌, Ok, refl, ap, ◌∙◌, sym, subst, append-nil}
use Rattle.std.proofs.lemmas.List.{map-append}
use Rattle.hp_elements.specs.declared.token.CharClass.{CharClass}
use Rattle.hp_elements.specs.declared.token.Token.{Token}
use Rattle.hp_elements.specs.declared.token.Token.TheVariants as token
use Rattle.hp_names.specs.References.{Reference}
use Rattle.hp_tokens.specs.Advancing.{tokens_of}
use Rattle.hp_tokens.specs.Moves.{Emitted, Lexing, Move, makes, move}
use Rattle.hp_tokens.specs.Runs.{Leads, here, onward as leads_onward}
use Rattle.hp_control.specs.declared.question.Answer.{Answer}
use Rattle.hp_control.specs.declared.question.Question.{Question}
use Rattle.hp_control.specs.Agree.{AllTrue}
use Rattle.hp_control.specs.Faithful.{Split}
use Rattle.hp_control.specs.Plan.{Plan, asked_by, asks, crosses, end_by, followed_by, gives}
use Rattle.hp_control.specs.States.{ControlState}
use Rattle.hp_control.specs.Truth.{answer_of}
use Rattle.hp_lexer.specs.Table.{table}
use Rattle.hp_model.specs.Runs.{switched}
use Rattle.hp_acts.specs.declared.turns.Handled.{Handled}
use Rattle.hp_acts.specs.HandlePlans.{handle_plan}
use Rattle.hp_acts.specs.RowPlans.{Reached}
use Rattle.hp_runs.specs.Closing.{AreCharacters, LeadsOn, last, onward as leads_on, stays}
use Rattle.hp_asked.specs.Seeking.{Seeker, led_to, seek}
use Rattle.hp_asked.specs.Singly.{AsksSingly, onward, tokens}
use Rattle.hp_asked.proofs.Agreed.{true-back}
use Rattle.hp_asked.proofs.Following.{IsChunkOf, chunk-formats, chunk-next, seek-joined, true-then}
use Rattle.hp_asked.proofs.Reopened.{ended_both}
use Rattle.hp_asked.proofs.TextRows.{ends-then}
use Rattle.hp_asked.proofs.TextRuns.{characters-quiet}

abbrev pub standing_at : Lexing → Split → Seeker
standing_at l v = record { lexing = l; split = v }

-- the moves, however they close
pub led-plainly : {next : Lexing → Move} {l k : Lexing} {es : List Emitted} → LeadsOn next l es k → Leads next l es k
led-plainly stays = here
led-plainly {next} {l} {k} (last {es = es} made) = subst (λ (xs : List Emitted). Leads next l xs k) (append-nil es) (leads_onward made here)
led-plainly (leads_on made characters rest) = leads_onward made (led-plainly rest)

-- plans behind one that ends alike ask alike
asked-under : {X Y : Type 0} (says : Question → Answer) (p : Plan X) (q r : X → Plan Y) → ((x : X) → end_by says p ≡ Ok x → asked_by says (q x) ≡ asked_by says (r x)) → asked_by says (followed_by p q) ≡ asked_by says (followed_by p r)
asked-under says (gives x) q r h = h x refl
asked-under says (crosses crossing) q r h = refl
asked-under says (asks question go) q r h = ap (λ (qs : List Question). question ∷ qs) (asked-under says (go (says question)) q r h)

module _ (s : ControlState) where
  -- characters are handled alike wherever the lexer stands
  record Carried (ts : List Token) (v : Split) (l m : Lexing) : Type 0 where
    asks : asked_by (answer_of s) (seek ts (standing_at l v)) ≡ asked_by (answer_of s) (seek ts (standing_at m v))
    ends : (n : Seeker) → end_by (answer_of s) (seek ts (standing_at l v)) ≡ Ok n → (w : Split) × (n ≡ standing_at l w) × (end_by (answer_of s) (seek ts (standing_at m v)) ≡ Ok (standing_at m w)) × IsChunkOf s w

  text-carried : (class : CharClass) (text : List ℕ) (ts : List Token) (v : Split) (l m : Lexing) → IsChunkOf s v → ((w : Split) → IsChunkOf s w → Carried ts w l m) → Carried (token.Characters class text ∷ ts) v l m
  text-carried class text ts v l m c next = record {
    asks = asked-under (answer_of s) (handle_plan t v) (λ r. seek ts (led_to r (standing_at l v))) (λ r. seek ts (led_to r (standing_at m v)))
        (λ r e. ap (asked_by (answer_of s)) (here r e l) ∙ ((more r e).asks ∙ sym (ap (asked_by (answer_of s)) (here r e m))));
    ends = λ n e.
        let both = ended_both (answer_of s) (handle_plan t v) (λ r. seek ts (led_to r (standing_at l v))) n e in
        let rest = (more both.0 both.1).ends n (sym (ap (end_by (answer_of s)) (here both.0 both.1 l)) ∙ both.2) in
        (rest.0, rest.1, ends-then (answer_of s) (handle_plan t v) (λ r. seek ts (led_to r (standing_at m v))) both.0 both.1 ∙ (ap (end_by (answer_of s)) (here both.0 both.1 m) ∙ rest.2), rest.3);
  }
    where
      t : Token
      t = token.Characters class text

      here : (r : Reached) → end_by (answer_of s) (handle_plan t v) ≡ Ok r → (k : Lexing) → seek ts (led_to r (standing_at k v)) ≡ seek ts (standing_at k r.split)
      here r e k = ap (λ (h : Handled). seek ts (standing_at (switched h.switch k) r.split)) (characters-quiet (answer_of s) class text v r c.page (chunk-formats s v c) e)

      more : (r : Reached) → end_by (answer_of s) (handle_plan t v) ≡ Ok r → Carried ts r.split l m
      more r e = next r.split (chunk-next s t v r tt tt c e)

  carried : (ts : List Token) → AreCharacters ts → (v : Split) (l m : Lexing) → IsChunkOf s v → Carried ts v l m
  carried [] characters v l m c = record { asks = refl; ends = λ n e. let same : n ≡ standing_at l v = cc in (v, same, refl, c) }
  carried (token.Characters class text ∷ ts) characters v l m c = text-carried class text ts v l m c (λ w d. carried ts characters w l m d)
  carried (t ∷ ts) characters v l m c = absurd characters

module _ (names : List Reference) (s : ControlState) (told : Question → Answer) where
  -- what is said is true of s, for all that the run asks from there, one by one
  abbrev pub RightSingly : Seeker → Type 0
  RightSingly k = (qs : List Question) → AsksSingly names s k qs → AllTrue s told qs

  -- these tokens are asked for rightly, and where they end, it is so from there on
  pub record GoesRightly (ts : List Token) (k : Seeker) : Type 0 where
    pub asks : AllTrue s told (asked_by (answer_of s) (seek ts k))
    pub ends : (n : Seeker) → end_by (answer_of s) (seek ts k) ≡ Ok n → RightSingly n

  one-rightly : (l m : Lexing) (v : Split) (es : List Emitted) → move (table names) l ≡ makes m es → RightSingly (standing_at l v) → GoesRightly (tokens_of es) (standing_at m v)
  one-rightly l m v es made right = record {
    asks = right (asked_by (answer_of s) (seek (tokens_of es) (standing_at m v))) (tokens made);
    ends = λ n e qs more. true-back s told (asked_by (answer_of s) (seek (tokens_of es) (standing_at m v))) qs (right _ (onward made e more));
  }

  -- behind characters, which are handled alike before the last move and behind it
  both-rightly : (xs ys : List Token) (v : Split) (m k : Lexing) → Carried s xs v k m → GoesRightly xs (standing_at m v) → ((w : Split) → IsChunkOf s w → RightSingly (standing_at m w) → GoesRightly ys (standing_at k w)) → GoesRightly (xs ++ ys) (standing_at k v)
  both-rightly xs ys v m k at-end first next = record {
    asks =
        subst (λ p. AllTrue s told (asked_by (answer_of s) p)) (sym (seek-joined xs ys (standing_at k v)))
        (true-then (answer_of s) s told (seek xs (standing_at k v)) (seek ys) (subst (AllTrue s told) (sym at-end.asks) first.asks) (λ n e. (behind n e).asks));
    ends = λ n e.
        let both = ended_both (answer_of s) (seek xs (standing_at k v)) (seek ys) n (sym (ap (end_by (answer_of s)) (seek-joined xs ys (standing_at k v))) ∙ e) in
        (behind both.0 both.1).ends n both.2;
  }
    where
      behind : (n : Seeker) → end_by (answer_of s) (seek xs (standing_at k v)) ≡ Ok n → GoesRightly ys n
      behind n e =
          let w = at-end.ends n e in
          subst (GoesRightly ys) (sym w.1) (next w.0 w.3 (first.ends (standing_at m w.0) w.2))

  pub led-rightly : {l k : Lexing} {es : List Emitted} → LeadsOn (move (table names)) l es k → (v : Split) → IsChunkOf s v → RightSingly (standing_at l v) → GoesRightly (tokens_of es) (standing_at k v)
  led-rightly {l} stays v c right = record { asks = tt; ends = λ n e. let same : standing_at l v ≡ n = cc in subst RightSingly same right }
  led-rightly {l} {k} (last {es = es} made) v c right = one-rightly l k v es made right
  led-rightly {l} {k} (leads_on {m = m} {es = es} {fs = fs} made characters rest) v c right =
      subst (λ (ts : List Token). GoesRightly ts (standing_at k v)) (sym (map-append (λ (e : Emitted). e.token) es fs))
      (both-rightly (tokens_of es) (tokens_of fs) v m k (carried s (tokens_of es) characters v k m c) (one-rightly l m v es made right) (λ w d next. led-rightly rest w d next))
