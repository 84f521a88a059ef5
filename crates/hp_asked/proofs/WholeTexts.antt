-- A text that goes into the current node as it comes asks what its code points ask, one by one, or less, and leads to where they lead.
use Rattle.std.proofs.Common.{◌≡◌, ℕ, suc, ◌+◌, ◌*◌, ◌^◌, ◌==◌, ◌||◌, ◌&&◌, not, Bool, true, false, List, [], ◌∷◌, ◌++◌, map, None, Result, Ok, Err, refl, ap, ◌∙◌, sym, subst, append-nil, arith, inl, inr, length}
use Rattle.std.specs.Prelude.{All, if◌then◌else◌}
use Rattle.std.specs.List.{list_all}
use Rattle.std.proofs.lemmas.Bool.{and_parts}
use Rattle.hp_elements.specs.Tokens.{class_of}
use Rattle.hp_elements.specs.declared.kinds.Kinds.TheVariants as kinds
use Rattle.hp_elements.specs.declared.token.CharClass.{CharClass}
use Rattle.hp_elements.specs.declared.token.CharClass.TheVariants.{White, Nul, Other}
use Rattle.hp_elements.specs.declared.token.Kind.TheVariants as kind
use Rattle.hp_elements.specs.declared.token.Mode.{Mode}
use Rattle.hp_elements.specs.declared.token.Mode.TheVariants as mode
use Rattle.hp_elements.specs.declared.token.Token.{Token}
use Rattle.hp_elements.specs.declared.token.Token.TheVariants.{Characters}
use Rattle.hp_tokens.specs.Plain.{none_of}
use Rattle.hp_tokens.specs.Rows.{character}
use Rattle.hp_control.specs.declared.edit.Child.TheVariants as child
use Rattle.hp_control.specs.declared.edit.Place.TheVariants.{Into}
use Rattle.hp_control.specs.declared.element.OpenElement.{OpenElement}
use Rattle.hp_control.specs.declared.question.Answer.{Answer}
use Rattle.hp_control.specs.declared.question.Crossing.{Crossing}
use Rattle.hp_control.specs.declared.question.Question.{Question}
use Rattle.hp_control.specs.declared.question.Question.TheVariants as ask
use Rattle.hp_control.specs.Faithful.{Split}
use Rattle.hp_control.specs.Foreign.{enters, is_annotation, is_svg_start}
use Rattle.hp_control.specs.Plan.{asked_by, end_by, followed_by, gives}
use Rattle.hp_control.specs.Agree.{AllTrue}
use Rattle.hp_control.specs.Running.{on_asked, on_end}
use Rattle.hp_control.specs.States.{ControlState, IsFormatting}
use Rattle.hp_control.specs.Truth.{answer_of}
use Rattle.hp_foreign.specs.Plans.{goes_on, goes_plan, unless_html}
use Rattle.hp_rules_rest.specs.Whole.{every_mode_rows}
use Rattle.hp_views.specs.Asking.{is_yes}
use Rattle.hp_views.specs.PlacePlans.{current_ref, put_at, put_plan}
use Rattle.hp_views.specs.StackPlans.{current_on}
use Rattle.hp_model.specs.Rows.{is_head_mode}
use Rattle.hp_model.specs.Runs.{switched}
use Rattle.hp_model.specs.Texts.{as_run, has_html_top, is_text_mode, is_white, run_of}
use Rattle.hp_acts.specs.declared.turns.Handled.{Handled}
use Rattle.hp_acts.specs.HandlePlans.{all_turns_plan, handle_plan, most_turns, turns_plan, where_again}
use Rattle.hp_acts.specs.Handling.{nothing_asked}
use Rattle.hp_acts.specs.Plain.{is_nothing_open, is_raw}
use Rattle.hp_acts.specs.RowPlans.{Reached, left, rules_plan, turn_plan}
use Rattle.hp_asked.specs.Seeking.{GoesWhole, Seeker, led_to, seek}
use Rattle.hp_asked.proofs.Bare.{bare, told_as}
use Rattle.hp_asked.proofs.BareActs.{bare_reached, turned-alike}
use Rattle.hp_asked.proofs.Reopened.{IsFresh, Reopens, fresh-ends, reopened}
use Rattle.hp_asked.proofs.TextRows.{asked-both, at_first, crosses-then, ends-then, goes-like, inline-goes, marked, put-asks, put-ends, put_row, reopened_if, rules_at, through}
use Rattle.hp_asked.proofs.TextRuns.{IsSame, IsSpelled, plainly, run-spelled, same-seekers, spelled, told-ends, true-first}
use Rattle.hp_asked.proofs.TextTurns.{asked-at, asks-on, at-mode, none-on, turned-once}

-- white space or another character
abbrev class_if : Bool → CharClass
class_if true = Other
class_if false = White

no-nul : (c : ℕ) → none_of (0 ∷ []) c ≡ true → class_of c ≡ class_if (not (is_white c))
no-nul c h = go (is_white c) (c == 0) h
  where
    go : (white nul : Bool) → (not nul && true) ≡ true → (if white then White else if nul then Nul else Other) ≡ class_if (not white)
    go true nul h = refl
    go false true h = absurd (cc)
    go false false h = refl

all-white : (text : List ℕ) → list_all is_white text ≡ true → map character text ≡ spelled White text
all-white [] h = refl
all-white (c ∷ cs) h =
    let both = and_parts (is_white c) (list_all is_white cs) h in
    ap (λ (b : Bool). Characters (if b then White else if c == 0 then Nul else Other) (c ∷ []) ∷ map character cs) both.0 ∙ ap (λ (ts : List Token). Characters White (c ∷ []) ∷ ts) (all-white cs both.1)

text_row : (m : Mode) (other : Bool) (text : List ℕ) (u : Split) → is_text_mode m ≡ true → rules_at 4 false m (class_if other) text u ≡ put_row false (not (is_raw m)) false (other && not (is_raw m)) text u
unfolding rules_plan every_mode_rows
text_row mode.Text true text u h = refl
text_row mode.Text false text u h = refl
text_row mode.InBody true text u h = refl
text_row mode.InBody false text u h = refl
text_row mode.InCell true text u h = through (rules_at 3 false mode.InBody Other text u)
text_row mode.InCell false text u h = through (rules_at 3 false mode.InBody White text u)
text_row mode.InCaption true text u h = through (rules_at 3 false mode.InBody Other text u)
text_row mode.InCaption false text u h = through (rules_at 3 false mode.InBody White text u)
text_row _ other text u h = absurd (cc)

text_mode_late : (m : Mode) → is_text_mode m ≡ true → is_head_mode m ≡ false
text_mode_late mode.Text h = refl
text_mode_late mode.InBody h = refl
text_mode_late mode.InCell h = refl
text_mode_late mode.InCaption h = refl
text_mode_late _ h = absurd (cc)

-- of two facts that don't both hold one doesn't
one-fails : (a b : Bool) → (a && b) ≡ false → (not a || not b) ≡ true
one-fails true true h = absurd (cc)
one-fails true false h = refl
one-fails false b h = refl

one-more : (j a b : Bool) → ((j || not a) || not b) ≡ (j || not (a && b))
one-more true a b = refl
one-more false true b = refl
one-more false false b = refl

or-none : (j : Bool) → j ≡ (j || false)
or-none true = refl
or-none false = refl

-- a text put into the current node
abbrev put_of : Bool → List ℕ → Split → Split
put_of marks text w = marked marks (put_at (child.Text text) w (Into (current_ref w)))

marked-twice : (j other r : Bool) (text : List ℕ) (w : Split) → bare (put_of (other && r) text (marked (j && r) w)) ≡ bare (marked ((j || other) && r) w)
marked-twice true true true text w = refl
marked-twice true false true text w = refl
marked-twice false true true text w = refl
marked-twice false false true text w = refl
marked-twice true true false text w = refl
marked-twice true false false text w = refl
marked-twice false true false text w = refl
marked-twice false false false text w = refl

put-marked : (marks : Bool) (text : List ℕ) (w : Split) → bare (put_of marks text w) ≡ bare (marked marks w)
put-marked true text w = refl
put-marked false text w = refl

module _ (says : Question → Answer) (m : Mode) (text_mode : is_text_mode m ≡ true) where
  abbrev reopens : Bool
  reopens = not (is_raw m)

  -- a text goes into the current node by the rules of this mode
  pub record Takes (u : Split) : Type 0 where
    pub page : u.page ≡ None
    pub mode : u.change.mode ≡ m
    pub skip_lf : u.change.skip_lf ≡ false
    pub goes : (class : CharClass) → end_by says (goes_plan (kind.Characters class) u) ≡ Ok false

  abbrev FreshIf : Bool → Split → Type 0
  FreshIf true u = IsFresh says u
  FreshIf false u = Unit {0}

  fresh-reopened : (r : Bool) (u : Split) → FreshIf r u → end_by says (reopened_if r false u) ≡ Ok u
  fresh-reopened true u h = fresh-ends says false u h
  fresh-reopened false u h = refl

  fresh-marked : (r marks : Bool) (u : Split) → FreshIf r u → FreshIf r (marked marks u)
  fresh-marked true true u h = h
  fresh-marked true false u h = h
  fresh-marked false marks u h = tt

  takes-marked : (marks : Bool) (u : Split) → Takes u → Takes (marked marks u)
  takes-marked true u t = record {
    page = t.page;
    mode = t.mode;
    skip_lf = t.skip_lf;
    goes = λ class. sym (ap (end_by says) (goes-like (kind.Characters class) u (marked true u) u.change.stack refl)) ∙ t.goes class;
  }
  takes-marked false u t = t

  one-turn : (other : Bool) (text : List ℕ) (v w : Split) → Takes v → end_by says (reopened_if reopens false v) ≡ Ok w → end_by says (all_turns_plan (Characters (class_if other) text) v) ≡ Ok (at_first (put_of (other && reopens) text w))
  one-turn other text v w t e =
      turned-once says (class_if other) v (put_of (other && reopens) text w) text
      (at-mode says (class_if other) m false v text t.page t.mode (text_mode_late m text_mode) (t.goes (class_if other))
      ∙ (ap (end_by says) (text_row m other text v text_mode)
      ∙ (ends-then says (reopened_if reopens false v) (λ u. followed_by (put_plan false (child.Text text) u) (λ z. gives (left (at_first (marked (other && reopens) z))))) w e
      ∙ put-ends says (class_if other) false (other && reopens) w text (Into (current_ref w)) refl)))

  -- one of its code points, behind others
  one-put : (w : Split) → Takes w → FreshIf reopens w → (c : ℕ) → none_of (0 ∷ []) c ≡ true → (j : Bool) (k : Seeker) → bare k.split ≡ bare (marked (j && reopens) w)
      → (q : Reached) × (end_by says (handle_plan (character c) k.split) ≡ Ok q) × (q.handled ≡ nothing_asked) × (bare q.split ≡ bare (marked ((j || not (is_white c)) && reopens) w))
  one-put w t fresh c plain j k same =
      let other : Bool = not (is_white c) in
      let one : Token = Characters (class_if other) (c ∷ []) in
      let u : Split = marked (j && reopens) w in
      let spelt : character c ≡ one = ap (λ class. Characters class (c ∷ [])) (no-nul c plain) in
      let here : end_by says (all_turns_plan one u) ≡ Ok (at_first (put_of (other && reopens) (c ∷ []) u)) = one-turn other (c ∷ []) u u (takes-marked (j && reopens) w t) (fresh-reopened reopens u (fresh-marked reopens (j && reopens) w fresh)) in
      let alike : told_as bare_reached (all_turns_plan one u) ≡ told_as bare_reached (all_turns_plan one k.split) = turned-alike one u ∙ (ap (λ (v : Split). told_as bare_reached (all_turns_plan one v)) (sym same) ∙ sym (turned-alike one k.split)) in
      let q = told-ends says bare_reached (all_turns_plan one u) (all_turns_plan one k.split) (at_first (put_of (other && reopens) (c ∷ []) u)) alike here in
      let none : k.split.change.skip_lf ≡ false = ap (λ (v : Split). v.change.skip_lf) same ∙ (takes-marked (j && reopens) w t).skip_lf in
      let there : end_by says (handle_plan (character c) k.split) ≡ end_by says (all_turns_plan one k.split) = ap (λ (x : Token). end_by says (handle_plan x k.split)) spelt ∙ ap (end_by says) (plainly says one k.split none) in
      (q.0, there ∙ q.1, ap (λ (r : Reached). r.handled) q.2, ap (λ (r : Reached). r.split) q.2 ∙ marked-twice j other reopens (c ∷ []) w)

  -- where its code points lead, behind the first
  abbrev Puts : Split → List ℕ → Bool → Seeker → Type 0
  Puts w cs j k = (n : Seeker) × (end_by says (seek (map character cs) k) ≡ Ok n) × (n.lexing ≡ k.lexing) × (bare n.split ≡ bare (marked ((j || not (list_all is_white cs)) && reopens) w))

  more-put : (w : Split) (c : ℕ) (cs : List ℕ) (j : Bool) (k : Seeker) (q : Reached) → end_by says (handle_plan (character c) k.split) ≡ Ok q → q.handled ≡ nothing_asked → Puts w cs (j || not (is_white c)) (led_to q k) → Puts w (c ∷ cs) j k
  more-put w c cs j k q ends unasked (n, there, place, split) = (
    n,
    ends-then says (handle_plan (character c) k.split) (λ r. seek (map character cs) (led_to r k)) q ends ∙ there,
    place ∙ ap (λ (h : Handled). switched h.switch k.lexing) unasked,
    split ∙ ap (λ b. bare (marked (b && reopens) w)) (one-more j (is_white c) (list_all is_white cs)),
  )

  rest-put : (w : Split) → Takes w → FreshIf reopens w → (cs : List ℕ) → list_all (none_of (0 ∷ [])) cs ≡ true → (j : Bool) (k : Seeker) → bare k.split ≡ bare (marked (j && reopens) w) → Puts w cs j k
  rest-put w t fresh [] plain j k same = (k, refl, refl, same ∙ ap (λ b. bare (marked (b && reopens) w)) (or-none j))
  rest-put w t fresh (c ∷ cs) plain j k same =
      let both = and_parts (none_of (0 ∷ []) c) (list_all (none_of (0 ∷ [])) cs) plain in
      let one = one-put w t fresh c both.0 j k same in
      more-put w c cs j k one.0 one.1 one.2 (rest-put w t fresh cs both.1 (j || not (is_white c)) (led_to one.0 k) one.3)

  -- dispatch asks the same of each class
  goes-asks : (v : Split) (a b : CharClass) → asked_by says (goes_plan (kind.Characters a) v) ≡ asked_by says (goes_plan (kind.Characters b) v)
  goes-asks v a b = go v.change.stack
    where
      below : (c : Bool) → asked_by says (unless_html (kind.Characters a) v.change.popped c) ≡ asked_by says (unless_html (kind.Characters b) v.change.popped c)
      below true = refl
      below false = refl

      go : (es : List OpenElement) → asked_by says (goes_on (kind.Characters a) v es) ≡ asked_by says (goes_on (kind.Characters b) v es)
      go [] = ap (λ (qs : List Question). ask.Seen v.change.popped kinds.AnyHtml kinds.All ∷ qs) (below (is_yes (says (ask.Seen v.change.popped kinds.AnyHtml kinds.All))))
      go (e ∷ es) = refl

  -- the first turn is the last
  turn-ends : (other : Bool) (text : List ℕ) (v : Split) → Takes v → (r : Result Split Crossing) → end_by says (reopened_if reopens false v) ≡ r
      → end_by says (turn_plan (Characters (class_if other) text) (at_first v)) ≡ on_end r (λ w. Ok (left (at_first (put_of (other && reopens) text w))))
  turn-ends other text v t r e =
      at-mode says (class_if other) m false v text t.page t.mode (text_mode_late m text_mode) (t.goes (class_if other))
      ∙ (ap (end_by says) (text_row m other text v text_mode) ∙ go r e)
    where
      go : (r : Result Split Crossing) → end_by says (reopened_if reopens false v) ≡ r → end_by says (put_row false reopens false (other && reopens) text v) ≡ on_end r (λ w. Ok (left (at_first (put_of (other && reopens) text w))))
      go (Err crossing) e = crosses-then says (reopened_if reopens false v) (λ u. followed_by (put_plan false (child.Text text) u) (λ z. gives (left (at_first (marked (other && reopens) z))))) crossing e
      go (Ok w) e =
          ends-then says (reopened_if reopens false v) (λ u. followed_by (put_plan false (child.Text text) u) (λ z. gives (left (at_first (marked (other && reopens) z))))) w e
          ∙ put-ends says (class_if other) false (other && reopens) w text (Into (current_ref w)) refl

  all-asks : (other : Bool) (text : List ℕ) (v : Split) → Takes v → asked_by says (all_turns_plan (Characters (class_if other) text) v) ≡ asked_by says (turn_plan (Characters (class_if other) text) (at_first v))
  all-asks other text v t =
      let most : ℕ = 31 + 16 * (2 ^ 60 + length v.change.stack) in
      let more : most_turns v ≡ suc most = omega arith in
      ap (λ n. asked_by says (turns_plan n (Characters (class_if other) text) (at_first v))) more
      ∙ (asks-on says (class_if other) most v text _ (turn-ends other text v t (end_by says (reopened_if reopens false v)) refl)
      ∙ (ap (λ (qs : List Question). asked_by says (turn_plan (Characters (class_if other) text) (at_first v)) ++ qs) (nothing most (end_by says (reopened_if reopens false v)))
      ∙ append-nil (asked_by says (turn_plan (Characters (class_if other) text) (at_first v)))))
    where
      nothing : (n : ℕ) (r : Result Split Crossing) → on_asked (on_end r (λ w. Ok (left (at_first (put_of (other && reopens) text w))))) (λ c. asked_by says (where_again (turns_plan n) c)) ≡ []
      nothing n (Ok w) = refl
      nothing n (Err crossing) = refl

  turn-asks : (other : Bool) (text : List ℕ) (v : Split) → Takes v
      → asked_by says (turn_plan (Characters (class_if other) text) (at_first v)) ≡ asked_by says (goes_plan (kind.Characters (class_if other)) v) ++ asked_by says (put_row false reopens false (other && reopens) text v)
  turn-asks other text v t =
      asked-at says (class_if other) false v text t.page (ap is_head_mode t.mode ∙ text_mode_late m text_mode) (t.goes (class_if other))
      ∙ ap (λ (qs : List Question). asked_by says (goes_plan (kind.Characters (class_if other)) v) ++ qs) (ap (λ n. asked_by says (rules_at 4 false n (class_if other) text v)) t.mode ∙ ap (asked_by says) (text_row m other text v text_mode))

  put-alike : (a b : Bool) (x y : List ℕ) (v : Split) → asked_by says (put_row false reopens false a x v) ≡ asked_by says (put_row false reopens false b y v)
  put-alike a b x y v =
      asked-both says (reopened_if reopens false v)
      (λ u. followed_by (put_plan false (child.Text x) u) (λ z. gives (left (at_first (marked a z)))))
      (λ u. followed_by (put_plan false (child.Text y) u) (λ z. gives (left (at_first (marked b z)))))
      (λ u. put-asks says White false a u x ∙ sym (put-asks says White false b u y))

  asks-alike : (a b : Bool) (x y : List ℕ) (v : Split) → Takes v → asked_by says (all_turns_plan (Characters (class_if a) x) v) ≡ asked_by says (all_turns_plan (Characters (class_if b) y) v)
  asks-alike a b x y v t =
      all-asks a x v t
      ∙ (turn-asks a x v t
      ∙ (ap (λ (qs : List Question). qs ++ asked_by says (put_row false reopens false (a && reopens) x v)) (goes-asks v (class_if a) (class_if b))
      ∙ (ap (λ (qs : List Question). asked_by says (goes_plan (kind.Characters (class_if b)) v) ++ qs) (put-alike (a && reopens) (b && reopens) x y v)
      ∙ (sym (turn-asks b y v t) ∙ sym (all-asks b y v t)))))

  -- nothing was to be reconstructed, or something was: there is nothing more
  takes-reopened : (v w : Split) → Reopens says v w → Takes v → Takes w
  takes-reopened v w (inl (same, fresh)) t = subst Takes (sym same) t
  takes-reopened v w (inr r) t = record {
    page = r.page ∙ t.page;
    mode = r.mode ∙ t.mode;
    skip_lf = r.skip_lf ∙ t.skip_lf;
    goes = λ class. ap (λ es. end_by says (goes_on (kind.Characters class) w es)) r.stack ∙ inline-goes says class r.top r.rest w r.inline;
  }

  is-fresh : (v w : Split) → Reopens says v w → IsFresh says w
  is-fresh v w (inl (same, fresh)) = subst (IsFresh says) (sym same) fresh
  is-fresh v w (inr r) = r.fresh

  settled : (r : Bool) (v w : Split) → Takes v → All IsFormatting v.change.formatting → end_by says (reopened_if r false v) ≡ Ok w → Takes w × FreshIf r w
  settled true v w t all e = let o : Reopens says v w = reopened says false v w all e in (takes-reopened v w o t, is-fresh v w o)
  settled false v w t all e = let same : v ≡ w = cc in (subst Takes same t, tt)

  pub mixed-spelled : (c : ℕ) (cs : List ℕ) (k : Seeker) → Takes k.split → All IsFormatting k.split.change.formatting → list_all (none_of (0 ∷ [])) (c ∷ cs) ≡ true → list_all is_white (c ∷ cs) ≡ false
      → IsSpelled says (map character (c ∷ cs)) (Characters Other (c ∷ cs)) k
  mixed-spelled c cs k t all plain mixed = record {
    asks = λ s told h.
        subst (AllTrue s told) (ap (asked_by says) first ∙ (asks-alike other true (c ∷ []) (c ∷ cs) v t ∙ sym (ap (asked_by says) whole)))
        (true-first says s told (handle_plan (character c) v) (λ r. seek (map character cs) (led_to r k)) h);
    ends = λ r ends. go (end_by says (reopened_if reopens false v)) refl r (sym (ap (end_by says) whole) ∙ ends);
  }
    where
      v : Split
      v = k.split

      other : Bool
      other = not (is_white c)

      both : (none_of (0 ∷ []) c ≡ true) × (list_all (none_of (0 ∷ [])) cs ≡ true)
      both = and_parts (none_of (0 ∷ []) c) (list_all (none_of (0 ∷ [])) cs) plain

      first : handle_plan (character c) v ≡ all_turns_plan (Characters (class_if other) (c ∷ [])) v
      first = ap (λ class. handle_plan (Characters class (c ∷ [])) v) (no-nul c both.0) ∙ plainly says (Characters (class_if other) (c ∷ [])) v t.skip_lf

      whole : handle_plan (Characters Other (c ∷ cs)) v ≡ all_turns_plan (Characters Other (c ∷ cs)) v
      whole = plainly says (Characters Other (c ∷ cs)) v t.skip_lf

      crossed-so : (text : List ℕ) (x : Crossing) → end_by says (reopened_if reopens false v) ≡ Err x → end_by says (all_turns_plan (Characters Other text) v) ≡ Err x
      crossed-so text x e =
          let more : most_turns v ≡ suc (31 + 16 * (2 ^ 60 + length v.change.stack)) = omega arith in
          ap (λ n. end_by says (turns_plan n (Characters Other text) (at_first v))) more ∙ none-on says Other (31 + 16 * (2 ^ 60 + length v.change.stack)) v text x (turn-ends true text v t (Err x) e)

      go : (e : Result Split Crossing) → end_by says (reopened_if reopens false v) ≡ e → (r : Reached) → end_by says (all_turns_plan (Characters Other (c ∷ cs)) v) ≡ Ok r
          → (m : Seeker) × (end_by says (seek (map character (c ∷ cs)) k) ≡ Ok m) × IsSame m (led_to r k)
      go (Err x) e r ends = absurd (apart x r (sym (crossed-so (c ∷ cs) x e) ∙ ends))
        where
          apart : (x : Crossing) (r : Reached) → Err x ≡ Ok r → ⊥
          apart x r e = cc
      go (Ok w) e r ends =
          let there : Ok (at_first (put_of (true && reopens) (c ∷ cs) w)) ≡ Ok r = sym (one-turn true (c ∷ cs) v w t e) ∙ ends in
          let same : at_first (put_of (true && reopens) (c ∷ cs) w) ≡ r = cc in
          let place = settled reopens v w t all e in
          let now : Reached = at_first (put_of (other && reopens) (c ∷ []) w) in
          let rest = rest-put w place.0 place.1 cs both.1 other (led_to now k) (put-marked (other && reopens) (c ∷ []) w) in (
            rest.0,
            ends-then says (handle_plan (character c) v) (λ q. seek (map character cs) (led_to q k)) now (ap (end_by says) first ∙ one-turn other (c ∷ []) v w t e) ∙ rest.1,
            same-seekers rest.0 (led_to r k) (rest.2 ∙ ap (λ (q : Reached). switched q.handled.switch k.lexing) same)
                (rest.3 ∙ (ap (λ b. bare (marked (b && reopens) w)) (one-fails (is_white c) (list_all is_white cs) mixed) ∙ (sym (put-marked (true && reopens) (c ∷ cs) w) ∙ ap (λ (q : Reached). bare q.split) same))),
          )

-- a text that goes into the current node as it comes
record IsTaken (says : Question → Answer) (v : Split) : Type 0 where
  skip_lf : v.change.skip_lf ≡ false
  text_mode : is_text_mode v.change.mode ≡ true
  goes : (class : CharClass) → end_by says (goes_plan (kind.Characters class) v) ≡ Ok false

three-parts : (skip text top : Bool) → (not skip && text && top) ≡ true → (skip ≡ false) × (text ≡ true) × (top ≡ true)
three-parts false true true h = (refl, refl, refl)
three-parts false true false h = absurd (cc)
three-parts false false top h = absurd (cc)
three-parts true text top h = absurd (cc)

is-taken : (s : ControlState) (v : Split) → GoesWhole s v → IsTaken (answer_of s) v
is-taken s v (inl takes) =
    let parts = three-parts v.change.skip_lf (is_text_mode v.change.mode) (has_html_top v.change.stack) takes in
    record { skip_lf = parts.0; text_mode = parts.1; goes = λ class. own class v.change.stack parts.2 }
  where
    own : (class : CharClass) (es : List OpenElement) → has_html_top es ≡ true → end_by (answer_of s) (goes_on (kind.Characters class) v es) ≡ Ok false
    own class [] h = absurd (cc)
    own class (e ∷ es) h = ap Ok (ap not (ap (λ b. false || b || enters e.point (kind.Characters class) || (is_annotation e && is_svg_start (kind.Characters class))) h))
is-taken s v (inr (may, html)) =
    let parts = three-parts v.change.skip_lf (is_text_mode v.change.mode) (is_nothing_open v.change.stack) may in
    record { skip_lf = parts.0; text_mode = parts.1; goes = λ class. older class v.change.stack parts.2 html }
  where
    older : (class : CharClass) (es : List OpenElement) → is_nothing_open es ≡ true → end_by (answer_of s) (current_on v.change.popped kinds.AnyHtml es) ≡ Ok true → end_by (answer_of s) (goes_on (kind.Characters class) v es) ≡ Ok false
    older class [] h told = ap (λ b. end_by (answer_of s) (unless_html (kind.Characters class) v.change.popped b)) yes
      where
        yes : is_yes (answer_of s (ask.Seen v.change.popped kinds.AnyHtml kinds.All)) ≡ true
        yes = let both : Ok (is_yes (answer_of s (ask.Seen v.change.popped kinds.AnyHtml kinds.All))) ≡ Ok true = told in cc
    older class (e ∷ es) h told = absurd (cc)

pub whole-spelled : (s : ControlState) (c : ℕ) (cs : List ℕ) (k : Seeker) → GoesWhole s k.split → k.split.page ≡ None → All IsFormatting k.split.change.formatting → list_all (none_of (0 ∷ [])) (c ∷ cs) ≡ true
    → IsSpelled (answer_of s) (map character (c ∷ cs)) (as_run (c ∷ cs)) k
whole-spelled s c cs k goes page all plain = by-white (list_all is_white (c ∷ cs)) refl
  where
    taken : IsTaken (answer_of s) k.split
    taken = is-taken s k.split goes

    by-white : (white : Bool) → list_all is_white (c ∷ cs) ≡ white → IsSpelled (answer_of s) (map character (c ∷ cs)) (run_of white (c ∷ cs)) k
    by-white true h = subst (λ (ts : List Token). IsSpelled (answer_of s) ts (Characters White (c ∷ cs)) k) (sym (all-white (c ∷ cs) h)) (run-spelled (answer_of s) White c cs k page all)
    by-white false h = mixed-spelled (answer_of s) k.split.change.mode taken.text_mode c cs k (record { page = page; mode = refl; skip_lf = taken.skip_lf; goes = taken.goes }) all plain h
