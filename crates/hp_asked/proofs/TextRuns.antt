-- A run of characters asks what its code points ask, one by one, or less, and leads to where they lead.
use Rattle.std.proofs.Common.{◌≡◌, ℕ, ◌==◌, Bool, true, false, List, [], ◌∷◌, ◌++◌, map, Option, None, Some, Ok, Err, refl, ap, ◌∙◌, sym, subst, append-nil, append_assoc}
use Rattle.std.specs.Prelude.{All, if◌then◌else◌}
use Rattle.hp_elements.specs.declared.token.CharClass.{CharClass}
use Rattle.hp_elements.specs.declared.token.Token.{Token}
use Rattle.hp_elements.specs.declared.token.Token.TheVariants.{Characters}
use Rattle.hp_control.specs.declared.question.Answer.{Answer}
use Rattle.hp_control.specs.declared.question.Crossing.{Crossing}
use Rattle.hp_control.specs.declared.question.Question.{Question}
use Rattle.hp_control.specs.Faithful.{Split}
use Rattle.hp_control.specs.Plan.{Plan, asked_by, end_by, followed_by, gives, crosses, asks}
use Rattle.hp_control.specs.Agree.{AllTrue}
use Rattle.hp_control.specs.States.{ControlState, IsFormatting}
use Rattle.hp_model.specs.Runs.{switched}
use Rattle.hp_acts.specs.declared.turns.Handled.{Handled}
use Rattle.hp_acts.specs.HandlePlans.{all_turns_plan, handle_plan, handle_rest, rest_of_text, without_line_feed}
use Rattle.hp_acts.specs.Handling.{nothing_asked, unskipped}
use Rattle.hp_acts.specs.RowPlans.{Reached}
use Rattle.hp_asked.specs.Seeking.{Seeker, led_to, seek}
use Rattle.hp_asked.proofs.Bare.{bare, told_as}
use Rattle.hp_asked.proofs.BareActs.{bare_reached, turned-alike}
use Rattle.hp_asked.proofs.Reopened.{ended_both}
use Rattle.hp_asked.proofs.TextRows.{asked-last, at_first, ends-then}
use Rattle.hp_asked.proofs.TextTurns.{AllTurned, Comes, all-turned, ending, refused}

-- characters of one class, one by one
abbrev pub spelled : CharClass → List ℕ → List Token
spelled class text = map (λ c. Characters class (c ∷ [])) text

-- without what was edited
abbrev pub bare_seeker : Seeker → Seeker
bare_seeker k = record k { split = bare k.split }

-- the same but for what was edited
abbrev pub IsSame : Seeker → Seeker → Type 0
IsSame k m = bare_seeker k ≡ bare_seeker m

pub same-seekers : (k m : Seeker) → k.lexing ≡ m.lexing → bare k.split ≡ bare m.split → IsSame k m
same-seekers k m e f = λ i. record { lexing = e i; split = f i }

module _ (says : Question → Answer) where
  -- of plans one behind the other what the first asks is asked
  pub true-first : {X Y : Type 0} (s : ControlState) (told : Question → Answer) (p : Plan X) (q : X → Plan Y) → AllTrue s told (asked_by says (followed_by p q)) → AllTrue s told (asked_by says p)
  true-first s told (gives x) q h = tt
  true-first s told (crosses crossing) q h = tt
  true-first s told (asks question go) q h = (h.0, true-first s told (go (says question)) q h.1)

  -- plans of which the ends are told alike
  pub told-asks : {X : Type 0} (f : X → X) (p q : Plan X) → told_as f p ≡ told_as f q → asked_by says p ≡ asked_by says q
  told-asks f p q e = sym (asked-last says p f) ∙ (ap (asked_by says) e ∙ asked-last says q f)

  pub told-ends : {X : Type 0} (f : X → X) (p q : Plan X) (x : X) → told_as f p ≡ told_as f q → end_by says p ≡ Ok x → (y : X) × (end_by says q ≡ Ok y) × (f y ≡ f x)
  told-ends f p q x e ends =
      let there : end_by says (told_as f q) ≡ Ok (f x) = sym (ap (end_by says) e) ∙ ends-then says p (λ z. gives (f z)) x ends in
      let both = ended_both says q (λ z. gives (f z)) (f x) there in
      let last : Ok (f both.0) ≡ Ok (f x) = both.2 in
      let same : f both.0 ≡ f x = cc in
      (both.0, both.1, same)

  -- no line feed is skipped
  pub plainly : (t : Token) (v : Split) → v.change.skip_lf ≡ false → handle_plan t v ≡ all_turns_plan t v
  plainly t v e = ap (λ b. if b then handle_rest (without_line_feed t) (unskipped v) else all_turns_plan t v) e

  -- where the last code points of a run lead, one by one, from where its first ones led
  abbrev Leads : CharClass → (List ℕ → Split) → List ℕ → List ℕ → Seeker → Type 0
  Leads class f a b k = (m : Seeker) × (end_by says (seek (spelled class b) k) ≡ Ok m) × (m.lexing ≡ k.lexing) × (bare m.split ≡ bare (f (a ++ b)))

  -- a text behind another
  abbrev Second : CharClass → (List ℕ → Split) → Type 0
  Second class f = (a b : List ℕ) → (w : Split) × (end_by says (all_turns_plan (Characters class b) (f a)) ≡ Ok (at_first w)) × (bare w ≡ bare (f (a ++ b)))

  one-spelled : (class : CharClass) (f : List ℕ → Split) (a : List ℕ) (c : ℕ) (k : Seeker) → k.split.change.skip_lf ≡ false → Second class f → bare k.split ≡ bare (f a)
      → (q : Reached) × (end_by says (handle_plan (Characters class (c ∷ [])) k.split) ≡ Ok q) × (q.handled ≡ nothing_asked) × (bare q.split ≡ bare (f (a ++ c ∷ [])))
  one-spelled class f a c k none second same =
      let t : Token = Characters class (c ∷ []) in
      let next = second a (c ∷ []) in
      let alike : told_as bare_reached (all_turns_plan t (f a)) ≡ told_as bare_reached (all_turns_plan t k.split) = turned-alike t (f a) ∙ (ap (λ (u : Split). told_as bare_reached (all_turns_plan t u)) (sym same) ∙ sym (turned-alike t k.split)) in
      let one = told-ends bare_reached (all_turns_plan t (f a)) (all_turns_plan t k.split) (at_first next.0) alike next.1 in
      (one.0, ap (end_by says) (plainly t k.split none) ∙ one.1, ap (λ (r : Reached). r.handled) one.2, ap (λ (r : Reached). r.split) one.2 ∙ next.2)

  more-spelled : (class : CharClass) (f : List ℕ → Split) (a : List ℕ) (c : ℕ) (cs : List ℕ) (k : Seeker) (q : Reached) → end_by says (handle_plan (Characters class (c ∷ [])) k.split) ≡ Ok q → q.handled ≡ nothing_asked
      → Leads class f (a ++ c ∷ []) cs (led_to q k) → Leads class f a (c ∷ cs) k
  more-spelled class f a c cs k q ends unasked (m, there, place, split) = (
    m,
    ends-then says (handle_plan (Characters class (c ∷ [])) k.split) (λ r. seek (spelled class cs) (led_to r k)) q ends ∙ there,
    place ∙ ap (λ (h : Handled). switched h.switch k.lexing) unasked,
    split ∙ ap (λ (text : List ℕ). bare (f text)) (append_assoc a (c ∷ []) cs),
  )

  rest-spelled : (class : CharClass) (v : Split) (f : List ℕ → Split) → v.change.skip_lf ≡ false → ((a : List ℕ) → (f a).change.skip_lf ≡ v.change.skip_lf) → Second class f
      → (a b : List ℕ) (k : Seeker) → bare k.split ≡ bare (f a) → Leads class f a b k
  rest-spelled class v f keeps skip second a [] k same = (k, refl, refl, same ∙ ap (λ (text : List ℕ). bare (f text)) (sym (append-nil a)))
  rest-spelled class v f keeps skip second a (c ∷ cs) k same =
      let one = one-spelled class f a c k (ap (λ (u : Split). u.change.skip_lf) same ∙ (skip a ∙ keeps)) second same in
      more-spelled class f a c cs k one.0 one.1 one.2 (rest-spelled class v f keeps skip second (a ++ c ∷ []) cs (led_to one.0 k) one.3)

  -- what a run asks is asked by its code points first, and they lead to where it leads
  pub record IsSpelled (ts : List Token) (t : Token) (k : Seeker) : Type 0 where
    pub asks : (s : ControlState) (told : Question → Answer) → AllTrue s told (asked_by says (seek ts k)) → AllTrue s told (asked_by says (handle_plan t k.split))
    pub ends : (r : Reached) → end_by says (handle_plan t k.split) ≡ Ok r → (m : Seeker) × (end_by says (seek ts k) ≡ Ok m) × IsSame m (led_to r k)

  -- the first code point and the run, from one split, in which no line feed is skipped
  spelled-from : (class : CharClass) (c : ℕ) (cs : List ℕ) (k : Seeker) (v : Split) → AllTurned says class v → v.change.skip_lf ≡ false → handle_plan (Characters class (c ∷ [])) k.split ≡ all_turns_plan (Characters class (c ∷ [])) v
      → handle_plan (Characters class (c ∷ cs)) k.split ≡ all_turns_plan (Characters class (c ∷ cs)) v → IsSpelled (spelled class (c ∷ cs)) (Characters class (c ∷ cs)) k
  spelled-from class c cs k v turned none one whole = record {
    asks = λ s told h. subst (AllTrue s told) (ap (asked_by says) one ∙ (turned.asks (c ∷ []) (c ∷ cs) ∙ sym (ap (asked_by says) whole))) (true-first s told (handle_plan first k.split) (λ r. seek (spelled class cs) (led_to r k)) h);
    ends = λ r ends. by-comes r turned.comes (sym (ap (end_by says) whole) ∙ ends);
  }
    where
      first : Token
      first = Characters class (c ∷ [])

      by-comes : (r : Reached) → Comes says class v → end_by says (all_turns_plan (Characters class (c ∷ cs)) v) ≡ Ok r → (m : Seeker) × (end_by says (seek (spelled class (c ∷ cs)) k) ≡ Ok m) × IsSame m (led_to r k)
      by-comes r (refused x e) ends = absurd (apart x r (sym (e (c ∷ cs)) ∙ ends))
        where
          apart : (x : Crossing) (r : Reached) → Err x ≡ Ok r → ⊥
          apart x r e = cc
      by-comes r (ending f e skip second) ends =
          let there : Ok (at_first (f (c ∷ cs))) ≡ Ok r = sym (e (c ∷ cs)) ∙ ends in
          let same : at_first (f (c ∷ cs)) ≡ r = cc in
          let rest = rest-spelled class v f none skip second (c ∷ []) cs (led_to (at_first (f (c ∷ []))) k) refl in (
            rest.0,
            ends-then says (handle_plan first k.split) (λ q. seek (spelled class cs) (led_to q k)) (at_first (f (c ∷ []))) (ap (end_by says) one ∙ e (c ∷ [])) ∙ rest.1,
            same-seekers rest.0 (led_to r k) (rest.2 ∙ ap (λ (q : Reached). switched q.handled.switch k.lexing) same) (rest.3 ∙ ap (λ (q : Reached). bare q.split) same),
          )

  -- behind a line feed that is skipped
  skipped-spelled : (class : CharClass) (c : ℕ) (cs : List ℕ) (k : Seeker) → k.split.change.skip_lf ≡ true → (c == 0xA) ≡ true → AllTurned says class (unskipped k.split) → IsSpelled (spelled class (c ∷ cs)) (Characters class (c ∷ cs)) k
  skipped-spelled class c cs k skips feed turned = go cs
    where
      dropped : (text : List ℕ) → handle_plan (Characters class (c ∷ text)) k.split ≡ handle_rest (rest_of_text class text) (unskipped k.split)
      dropped text =
          ap (λ b. if b then handle_rest (without_line_feed (Characters class (c ∷ text))) (unskipped k.split) else all_turns_plan (Characters class (c ∷ text)) k.split) skips
          ∙ ap (λ b. handle_rest (if b then rest_of_text class text else Some (Characters class (c ∷ text))) (unskipped k.split)) feed

      now : Seeker
      now = led_to (at_first (unskipped k.split)) k

      then-so : (text : List ℕ) → seek (spelled class (c ∷ text)) k ≡ seek (spelled class text) now
      then-so text = ap (λ p. followed_by p (λ r. seek (spelled class text) (led_to r k))) (dropped [])

      go : (text : List ℕ) → IsSpelled (spelled class (c ∷ text)) (Characters class (c ∷ text)) k
      go [] = record {
        asks = λ s told h. subst (AllTrue s told) (sym (ap (asked_by says) (dropped []))) tt;
        ends = λ r ends.
            let there : Ok (at_first (unskipped k.split)) ≡ Ok r = sym (ap (end_by says) (dropped [])) ∙ ends in
            let same : at_first (unskipped k.split) ≡ r = cc in
            (now, ap (end_by says) (then-so []), ap (λ (q : Reached). bare_seeker (led_to q k)) same);
      }
      go (d ∷ ds) = record {
        asks = λ s told h.
            subst (λ p. AllTrue s told (asked_by says p)) (plainly (Characters class (d ∷ ds)) (unskipped k.split) refl ∙ sym (dropped (d ∷ ds)))
            (more.asks s told (subst (λ p. AllTrue s told (asked_by says p)) (then-so (d ∷ ds)) h));
        ends = λ r ends.
            let led = more.ends r (ap (end_by says) (plainly (Characters class (d ∷ ds)) (unskipped k.split) refl ∙ sym (dropped (d ∷ ds))) ∙ ends) in
            (led.0, ap (end_by says) (then-so (d ∷ ds)) ∙ led.1, led.2);
      }
        where
          more : IsSpelled (spelled class (d ∷ ds)) (Characters class (d ∷ ds)) now
          more = spelled-from class d ds now (unskipped k.split) turned refl (plainly (Characters class (d ∷ [])) (unskipped k.split) refl) (plainly (Characters class (d ∷ ds)) (unskipped k.split) refl)

  pub run-spelled : (class : CharClass) (c : ℕ) (cs : List ℕ) (k : Seeker) → k.split.page ≡ None → All IsFormatting k.split.change.formatting → IsSpelled (spelled class (c ∷ cs)) (Characters class (c ∷ cs)) k
  run-spelled class c cs k page all = by-skip k.split.change.skip_lf refl
    where
      kept : (text : List ℕ) → k.split.change.skip_lf ≡ true → (c == 0xA) ≡ false → handle_plan (Characters class (c ∷ text)) k.split ≡ all_turns_plan (Characters class (c ∷ text)) (unskipped k.split)
      kept text skips other =
          ap (λ b. if b then handle_rest (without_line_feed (Characters class (c ∷ text))) (unskipped k.split) else all_turns_plan (Characters class (c ∷ text)) k.split) skips
          ∙ ap (λ b. handle_rest (if b then rest_of_text class text else Some (Characters class (c ∷ text))) (unskipped k.split)) other

      by-feed : (b : Bool) → k.split.change.skip_lf ≡ true → (c == 0xA) ≡ b → IsSpelled (spelled class (c ∷ cs)) (Characters class (c ∷ cs)) k
      by-feed true skips feed = skipped-spelled class c cs k skips feed (all-turned says class (unskipped k.split) page all)
      by-feed false skips other = spelled-from class c cs k (unskipped k.split) (all-turned says class (unskipped k.split) page all) refl (kept [] skips other) (kept cs skips other)

      by-skip : (b : Bool) → k.split.change.skip_lf ≡ b → IsSpelled (spelled class (c ∷ cs)) (Characters class (c ∷ cs)) k
      by-skip true skips = by-feed (c == 0xA) skips refl
      by-skip false none = spelled-from class c cs k k.split (all-turned says class k.split page all) none (plainly (Characters class (c ∷ [])) k.split none) (plainly (Characters class (c ∷ cs)) k.split none)

  -- characters call for no switch of the lexer
  quiet-turned : (class : CharClass) (text : List ℕ) (v : Split) (r : Reached) → v.page ≡ None → All IsFormatting v.change.formatting → end_by says (all_turns_plan (Characters class text) v) ≡ Ok r → r.handled ≡ nothing_asked
  quiet-turned class text v r page all ends = go (all-turned says class v page all).comes
    where
      go : Comes says class v → r.handled ≡ nothing_asked
      go (refused x e) = absurd (apart x (sym (e text) ∙ ends))
        where
          apart : (x : Crossing) → Err x ≡ Ok r → ⊥
          apart x e = cc
      go (ending f e skip second) =
          let there : Ok (at_first (f text)) ≡ Ok r = sym (e text) ∙ ends in
          let same : at_first (f text) ≡ r = cc in
          sym (ap (λ (q : Reached). q.handled) same)

  quiet-rest : (o : Option Token) (class : CharClass) (v : Split) (r : Reached) → ((t : Token) → o ≡ Some t → (text : List ℕ) × (t ≡ Characters class text)) → v.page ≡ None → All IsFormatting v.change.formatting
      → end_by says (handle_rest o v) ≡ Ok r → r.handled ≡ nothing_asked
  quiet-rest None class v r is page all ends = let same : at_first v ≡ r = cc in sym (ap (λ (q : Reached). q.handled) same)
  quiet-rest (Some t) class v r is page all ends =
      let one = is t refl in
      quiet-turned class one.0 v r page all (ap (λ (x : Token). end_by says (all_turns_plan x v)) (sym one.1) ∙ ends)

  pub characters-quiet : (class : CharClass) (text : List ℕ) (v : Split) (r : Reached) → v.page ≡ None → All IsFormatting v.change.formatting → end_by says (handle_plan (Characters class text) v) ≡ Ok r → r.handled ≡ nothing_asked
  characters-quiet class text v r page all ends = by-skip v.change.skip_lf ends
    where
      some-of : (t : Token) (text : List ℕ) → Some (Characters class text) ≡ Some t → (a : List ℕ) × (t ≡ Characters class a)
      some-of t text e = let same : t ≡ Characters class text = cc in (text, same)

      rest-of : (t : Token) (text : List ℕ) → rest_of_text class text ≡ Some t → (a : List ℕ) × (t ≡ Characters class a)
      rest-of t [] e = absurd (cc)
      rest-of t (c ∷ cs) e = some-of t (c ∷ cs) e

      by-feed : (b : Bool) (c : ℕ) (cs : List ℕ) (t : Token) → (if b then rest_of_text class cs else Some (Characters class (c ∷ cs))) ≡ Some t → (a : List ℕ) × (t ≡ Characters class a)
      by-feed true c cs t e = rest-of t cs e
      by-feed false c cs t e = some-of t (c ∷ cs) e

      left-of : (text : List ℕ) (t : Token) → without_line_feed (Characters class text) ≡ Some t → (a : List ℕ) × (t ≡ Characters class a)
      left-of [] t e = some-of t [] e
      left-of (c ∷ cs) t e = by-feed (c == 0xA) c cs t e

      by-skip : (b : Bool) → end_by says (if b then handle_rest (without_line_feed (Characters class text)) (unskipped v) else all_turns_plan (Characters class text) v) ≡ Ok r → r.handled ≡ nothing_asked
      by-skip true e = quiet-rest (without_line_feed (Characters class text)) class (unskipped v) r (left-of text) page all e
      by-skip false e = quiet-turned class text v r page all e
