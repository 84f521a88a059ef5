-- Tokens in runs ask what the same tokens ask one by one, or less, and lead to where they lead.
use Rattle.std.proofs.Common.{◌≡◌, ℕ, List, [], ◌∷◌, ◌++◌, map, Option, None, Ok, refl, ap, ◌∙◌, sym, subst, append-nil, inl, inr}
use Rattle.std.specs.Prelude.{All, Result, true}
use Rattle.std.specs.List.{list_all}
use Rattle.std.proofs.lemmas.List.Elements.{All-cons, All-head, All-nil, All-tail}
use Rattle.hp_elements.specs.declared.token.Token.{Token}
use Rattle.hp_elements.specs.declared.token.Token.TheVariants as token
use Rattle.hp_tokens.specs.Advancing.{singles, tokens_of}
use Rattle.hp_tokens.specs.Moves.{Emitted}
use Rattle.hp_tokens.specs.Plain.{none_of}
use Rattle.hp_tokens.specs.Rows.{character}
use Rattle.hp_control.specs.declared.element.FormattingEntry.{FormattingEntry}
use Rattle.hp_control.specs.declared.element.FormattingEntry.TheVariants.{Marker, Element}
use Rattle.hp_control.specs.declared.question.Answer.{Answer}
use Rattle.hp_control.specs.declared.question.Crossing.{Crossing}
use Rattle.hp_control.specs.declared.question.Question.{Question}
use Rattle.hp_control.specs.Agree.{AllTrue}
use Rattle.hp_control.specs.Apply.{applied, shifted_entry}
use Rattle.hp_control.specs.Faithful.{Page, Split, state_over, with_page}
use Rattle.hp_control.specs.Plan.{Plan, asked_by, asks, crosses, end_by, followed_by, gives}
use Rattle.hp_control.specs.States.{ControlState, IsFormatting}
use Rattle.hp_control.specs.Truth.{answer_of}
use Rattle.hp_control.specs.Walks.{cleared_by}
use Rattle.hp_model.specs.AtOnce.{handle_at_once}
use Rattle.hp_model.specs.Growth.{IsInside}
use Rattle.hp_model.specs.Texts.{as_run}
use Rattle.hp_model.specs.Whole.{IsRead}
use Rattle.hp_acts.specs.HandlePlans.{handle_plan}
use Rattle.hp_acts.specs.RowPlans.{Reached}
use Rattle.hp_acts.proofs.PlainRuns.{follow_assoc}
use Rattle.hp_runs.specs.Tokens.{AllInside, AllRead}
use Rattle.hp_older.specs.Laws.{ComesOver, IsDoneOver}
use Rattle.hp_older.specs.Over.{IsOver}
use Rattle.hp_older.proofs.Began.{are-valid, stay-unedited}
use Rattle.hp_older.proofs.Tokens.{over_comes}
use Rattle.hp_asked.specs.Seeking.{AreFilled, GoesWhole, Seeker, Spells, led_to, seek}
use Rattle.hp_asked.proofs.Bare.{bare, blind-then, told_as}
use Rattle.hp_asked.proofs.BareActs.{bare_reached, handled-alike}
use Rattle.hp_asked.proofs.Reopened.{ended_both}
use Rattle.hp_asked.proofs.TextRows.{ends-then}
use Rattle.hp_asked.proofs.TextRuns.{IsSame, IsSpelled, bare_seeker, run-spelled, spelled, told-asks, told-ends, true-first}
use Rattle.hp_asked.proofs.WholeTexts.{whole-spelled}

-- tokens in two parts
pub seek-joined : (xs ys : List Token) (k : Seeker) → seek (xs ++ ys) k ≡ followed_by (seek xs k) (seek ys)
seek-joined [] ys k = refl
seek-joined (x ∷ xs) ys k =
    ap (followed_by (handle_plan x k.split)) (λ i. λ r. seek-joined xs ys (led_to r k) i) ∙ sym (follow_assoc (handle_plan x k.split) (λ r. seek xs (led_to r k)) (seek ys))

-- the edits so far aren't read
seek-bare : (ts : List Token) (k : Seeker) → told_as bare_seeker (seek ts k) ≡ told_as bare_seeker (seek ts (bare_seeker k))
seek-bare [] k = refl
seek-bare (t ∷ ts) k = blind-then bare_reached bare_seeker (handle_plan t k.split) (handle_plan t (bare k.split)) (λ r. seek ts (led_to r k)) (handled-alike t k.split) (λ r. seek-bare ts (led_to r k))

pub seek-same : (ts : List Token) (k m : Seeker) → IsSame k m → told_as bare_seeker (seek ts k) ≡ told_as bare_seeker (seek ts m)
seek-same ts k m same = seek-bare ts k ∙ (ap (λ (n : Seeker). told_as bare_seeker (seek ts n)) same ∙ sym (seek-bare ts m))

module _ (says : Question → Answer) (s : ControlState) (told : Question → Answer) where
  -- what is asked by two plans is answered truly if what each asks is
  pub true-then : {X Y : Type 0} (p : Plan X) (q : X → Plan Y) → AllTrue s told (asked_by says p) → ((x : X) → end_by says p ≡ Ok x → AllTrue s told (asked_by says (q x))) → AllTrue s told (asked_by says (followed_by p q))
  true-then (gives x) q h k = k x refl
  true-then (crosses crossing) q h k = tt
  true-then (asks question go) q h k = (h.0, true-then (go (says question)) q h.1 k)

  pub true-second : {X Y : Type 0} (p : Plan X) (q : X → Plan Y) (x : X) → end_by says p ≡ Ok x → AllTrue s told (asked_by says (followed_by p q)) → AllTrue s told (asked_by says (q x))
  true-second (gives y) q x e h = let same : y ≡ x = cc in subst (λ z. AllTrue s told (asked_by says (q z))) same h
  true-second (crosses crossing) q x e h = absurd (cc)
  true-second (asks question go) q x e h = true-second (go (says question)) q x e h.1

-- a chunk's view over s
pub record IsChunkOf (s : ControlState) (v : Split) : Type 0 where
  pub over : IsOver s v
  pub page : v.page ≡ None

own-formats : (xs ys : List FormattingEntry) (from : ℕ) → All IsFormatting (map (shifted_entry from) xs ++ ys) → All IsFormatting xs
own-formats [] ys from h = All-nil IsFormatting
own-formats (x ∷ xs) ys from h =
    All-cons IsFormatting x xs (entry x (All-head IsFormatting (shifted_entry from x) (map (shifted_entry from) xs ++ ys) h)) (own-formats xs ys from (All-tail IsFormatting (shifted_entry from x) (map (shifted_entry from) xs ++ ys) h))
  where
    entry : (e : FormattingEntry) → IsFormatting (shifted_entry from e) → IsFormatting e
    entry Marker h = tt
    entry (Element id tag) h = h

module _ (s : ControlState) where
  pub chunk-formats : (v : Split) → IsChunkOf s v → All IsFormatting v.change.formatting
  chunk-formats v c =
      own-formats v.change.formatting (cleared_by v.change.cuts s.formatting) s.next
      (subst (λ (p : Option Page). All IsFormatting (with_page p (applied v.change s)).formatting) c.page (are-valid s v c.over).formatting)

  pub chunk-same : (v u : Split) → bare v ≡ bare u → IsChunkOf s v → IsChunkOf s u
  chunk-same v u same c = record {
    over = stay-unedited s (bare u) u.edits (subst (IsOver s) same (stay-unedited s v [] c.over));
    page = sym (ap (λ (w : Split). w.page) same) ∙ c.page;
  }

  pub chunk-next : (t : Token) (v : Split) (r : Reached) → IsRead t → IsInside t → IsChunkOf s v → end_by (answer_of s) (handle_plan t v) ≡ Ok r → IsChunkOf s r.split
  chunk-next t v r read inside c ends =
      let d : IsDoneOver s v r.split r.handled (handle_at_once (state_over v s) t) = subst (λ (e : Result Reached Crossing). ComesOver s v e (handle_at_once (state_over v s) t)) ends (over_comes t s v c.over (record { read = read; inside = inl inside })) in
      record { over = d.over; page = d.unpaged c.page }

  -- what these ask from the first place is answered truly where what the others ask from the second is, and both lead to the same
  pub record Follow (ts us : List Token) (k j : Seeker) : Type 0 where
    pub asks : (told : Question → Answer) → AllTrue s told (asked_by (answer_of s) (seek us j)) → AllTrue s told (asked_by (answer_of s) (seek ts k))
    pub ends : (m : Seeker) → end_by (answer_of s) (seek ts k) ≡ Ok m → (n : Seeker) × (end_by (answer_of s) (seek us j) ≡ Ok n) × IsSame m n × IsChunkOf s m.split

  none-follow : (k j : Seeker) → IsSame k j → IsChunkOf s k.split → Follow [] [] k j
  none-follow k j same c = record {
    asks = λ told h. h;
    ends = λ m e. let here : k ≡ m = cc in (j, refl, subst (λ (n : Seeker). IsSame n j) here same, subst (λ (n : Seeker). IsChunkOf s n.split) here c);
  }

  first-follows : (t : Token) (us ts vs : List Token) (k j : Seeker) → IsSpelled (answer_of s) us t k → IsRead t → IsInside t → IsChunkOf s k.split → IsSame k j
      → ((m n : Seeker) → IsSame m n → IsChunkOf s m.split → Follow ts vs m n) → Follow (t ∷ ts) (us ++ vs) k j
  first-follows t us ts vs k j spelt read inside c same next = record { asks = asks-so; ends = ends-so }
    where
      -- where the first token ends, and the same spelled out
      led : (r : Reached) → end_by (answer_of s) (handle_plan t k.split) ≡ Ok r → (n : Seeker) × (end_by (answer_of s) (seek us j) ≡ Ok n) × Follow ts vs (led_to r k) n
      led r e =
          let there = spelt.ends r e in
          let here = told-ends (answer_of s) bare_seeker (seek us k) (seek us j) there.0 (seek-same us k j same) there.1 in
          (here.0, here.1, next (led_to r k) here.0 (sym there.2 ∙ sym here.2) (chunk-next t k.split r read inside c e))

      asks-so : (told : Question → Answer) → AllTrue s told (asked_by (answer_of s) (seek (us ++ vs) j)) → AllTrue s told (asked_by (answer_of s) (seek (t ∷ ts) k))
      asks-so told h =
          let parts : AllTrue s told (asked_by (answer_of s) (followed_by (seek us j) (seek vs))) = subst (λ p. AllTrue s told (asked_by (answer_of s) p)) (seek-joined us vs j) h in
          let front : AllTrue s told (asked_by (answer_of s) (seek us k)) = subst (AllTrue s told) (sym (told-asks (answer_of s) bare_seeker (seek us k) (seek us j) (seek-same us k j same))) (true-first (answer_of s) s told (seek us j) (seek vs) parts) in
          true-then (answer_of s) s told (handle_plan t k.split) (λ r. seek ts (led_to r k)) (spelt.asks s told front)
          (λ r e. let l = led r e in l.2.asks told (true-second (answer_of s) s told (seek us j) (seek vs) l.0 l.1 parts))

      ends-so : (m : Seeker) → end_by (answer_of s) (seek (t ∷ ts) k) ≡ Ok m → (n : Seeker) × (end_by (answer_of s) (seek (us ++ vs) j) ≡ Ok n) × IsSame m n × IsChunkOf s m.split
      ends-so m e =
          let both = ended_both (answer_of s) (handle_plan t k.split) (λ r. seek ts (led_to r k)) m e in
          let l = led both.0 both.1 in
          let last = l.2.ends m both.2 in
          (last.0, ap (end_by (answer_of s)) (seek-joined us vs j) ∙ (ends-then (answer_of s) (seek us j) (seek vs) l.0 l.1 ∙ last.1), last.2, last.3)

  -- a token that is no run
  itself : (t : Token) (k : Seeker) → IsSpelled (answer_of s) (t ∷ []) t k
  itself t k = record {
    asks = λ z told h. true-first (answer_of s) z told (handle_plan t k.split) (λ r. gives (led_to r k)) h;
    ends = λ r e. (led_to r k, ends-then (answer_of s) (handle_plan t k.split) (λ q. gives (led_to q k)) r e, refl);
  }

  tokens-follow : (ts : List Token) (k j : Seeker) → AreFilled ts → AllRead ts → AllInside ts → IsSame k j → IsChunkOf s k.split → Follow ts (singles ts) k j
  tokens-follow [] k j filled read inside same c = none-follow k j same c
  tokens-follow (token.Characters class [] ∷ ts) k j filled read inside same c = absurd filled
  tokens-follow (token.Characters class (x ∷ xs) ∷ ts) k j filled read inside same c =
      first-follows (token.Characters class (x ∷ xs)) (spelled class (x ∷ xs)) ts (singles ts) k j (run-spelled (answer_of s) class x xs k c.page (chunk-formats k.split c)) tt tt c same
      (λ m n alike d. tokens-follow ts m n filled read.1 inside.1 alike d)
  tokens-follow (t ∷ ts) k j filled read inside same c = first-follows t (t ∷ []) ts (singles ts) k j (itself t k) read.0 inside.0 c same (λ m n alike d. tokens-follow ts m n filled read.1 inside.1 alike d)

  text-follows : (x : ℕ) (xs : List ℕ) (k j : Seeker) → IsSpelled (answer_of s) (map character (x ∷ xs)) (as_run (x ∷ xs)) k → IsSame k j → IsChunkOf s k.split → Follow (as_run (x ∷ xs) ∷ []) (map character (x ∷ xs)) k j
  text-follows x xs k j spelt same c =
      subst (λ (us : List Token). Follow (as_run (x ∷ xs) ∷ []) us k j) (append-nil (map character (x ∷ xs)))
      (first-follows (as_run (x ∷ xs)) (map character (x ∷ xs)) [] [] k j spelt tt tt c same (λ m n alike d. none-follow m n alike d))

  -- tokens that spell what was emitted
  pub spells-follow : (ts : List Token) (es : List Emitted) (k j : Seeker) → Spells s k.split ts es → (singles ts ≡ tokens_of es → AllRead ts × AllInside ts) → IsSame k j → IsChunkOf s k.split → Follow ts (tokens_of es) k j
  spells-follow ts es k j (inl (filled, same)) come alike c =
      let may = come same in
      subst (λ (us : List Token). Follow ts us k j) same (tokens-follow ts k j filled may.0 may.1 alike c)
  spells-follow ts es k j (inr (text, goes, plain, is, filled, same)) come alike c = go text goes plain is filled same
    where
      go : (text : List ℕ) → GoesWhole s k.split → list_all (none_of (0 ∷ [])) text ≡ true → ts ≡ as_run text ∷ [] → AreFilled ts → tokens_of es ≡ map character text → Follow ts (tokens_of es) k j
      go [] goes plain is filled same = absurd (subst AreFilled is filled)
      go (x ∷ xs) goes plain is filled same =
          subst (λ (us : List Token). Follow us (tokens_of es) k j) (sym is)
          (subst (λ (us : List Token). Follow (as_run (x ∷ xs) ∷ []) us k j) (sym same) (text-follows x xs k j (whole-spelled s x xs k goes c.page (chunk-formats k.split c) plain) alike c))
