-- What the rules do with a text, by the answers to what they ask: it asks the same whatever its characters are, and where it is put, the
-- next text is put behind it.
use Rattle.std.proofs.Common.{◌≡◌, ℕ, suc, Bool, true, false, not, ◌||◌, ◌&&◌, List, [], ◌∷◌, ◌++◌, Option, None, Some, Result, Ok, Err, refl, ap, ◌∙◌, sym, subst, append_assoc, inl, inr}
use Rattle.std.specs.Prelude.{◌⊎◌, All, if◌then◌else◌}
use Rattle.hp_elements.specs.Names.{text_of}
use Rattle.hp_elements.specs.KnownNames.{Colgroup}
use Rattle.hp_elements.specs.declared.kinds.Kinds.{Kinds}
use Rattle.hp_elements.specs.declared.kinds.Kinds.TheVariants as kinds
use Rattle.hp_elements.specs.declared.sets.SetName.TheVariants.{TableTextParents}
use Rattle.hp_elements.specs.declared.token.CharClass.{CharClass}
use Rattle.hp_elements.specs.declared.token.CharClass.TheVariants.{White, Nul, Other}
use Rattle.hp_elements.specs.declared.token.Kind.{Kind}
use Rattle.hp_elements.specs.declared.token.Kind.TheVariants as kind
use Rattle.hp_elements.specs.declared.token.Mode.{Mode}
use Rattle.hp_elements.specs.declared.token.Mode.TheVariants as mode
use Rattle.hp_elements.specs.declared.token.Token.TheVariants.{Characters}
use Rattle.hp_control.specs.declared.edit.Child.TheVariants as child
use Rattle.hp_control.specs.declared.edit.Place.{Place}
use Rattle.hp_control.specs.declared.element.OpenElement.{OpenElement}
use Rattle.hp_control.specs.declared.question.Answer.{Answer}
use Rattle.hp_control.specs.declared.question.Crossing.{Crossing}
use Rattle.hp_control.specs.declared.question.Crossing.TheVariants.{X7}
use Rattle.hp_control.specs.declared.question.Question.{Question}
use Rattle.hp_control.specs.declared.question.Question.TheVariants as ask
use Rattle.hp_control.specs.Faithful.{Page, Split}
use Rattle.hp_control.specs.Foreign.{enters, is_annotation, is_end_of_input, is_svg_start}
use Rattle.hp_control.specs.KindTests.{within}
use Rattle.hp_control.specs.Plan.{Plan, gives, crosses, asks, asked_by, end_by, followed_by}
use Rattle.hp_control.specs.Running.{end_then, on_end}
use Rattle.hp_control.specs.States.{IsFormatting}
use Rattle.hp_adoption.specs.ReconPlans.{reconstruct_plan}
use Rattle.hp_foreign.specs.Plans.{goes_on, goes_plan, unless_html}
use Rattle.hp_rules_rest.specs.Whole.{every_mode_rows}
use Rattle.hp_views.specs.Asking.{ask_seen, is_yes}
use Rattle.hp_views.specs.FieldPlans.{empty_pending_plan, frameset_off, in_mode as moded, original_kept, with_change, with_pending}
use Rattle.hp_views.specs.PlacePlans.{place_plan, put_at, put_plan}
use Rattle.hp_views.specs.StackPlans.{all_popped, current_is_plan, current_on, own_popped, past_own, pop_on, pop_plan}
use Rattle.hp_model.specs.Rows.{is_head_mode}
use Rattle.hp_model.proofs.Manners.{replaced_if}
use Rattle.hp_model.proofs.Reconstructed.{IsInline}
use Rattle.hp_acts.specs.Handling.{nothing_asked}
use Rattle.hp_acts.specs.RowPlans.{Came, Reached, again, foreign_plan, left, rules_plan, where_left}
use Rattle.hp_asked.proofs.Bare.{bare}
use Rattle.hp_asked.proofs.BareViews.{place-seen}
use Rattle.hp_asked.proofs.Reopened.{IsFresh, Reopens, fresh-ends, reopened}

abbrev pub at_first : Split → Reached
at_first v = record { split = v; handled = nothing_asked }

-- where a text is handed on, and what is handed on stays
pub record Keeps (v w : Split) : Type 0 where
  pub formatting : w.change.formatting ≡ v.change.formatting
  pub page : w.page ≡ v.page
  pub skip_lf : w.change.skip_lf ≡ v.change.skip_lf

-- how a text is handled by some rules
abbrev Rules : Type 0
Rules = List ℕ → Split → Plan Came

abbrev pub marked : Bool → Split → Split
marked true v = with_change (frameset_off v.change) v
marked false v = v

abbrev pub reopened_if : Bool → Bool → Split → Plan Split
reopened_if true fostering v = reconstruct_plan fostering v
reopened_if false fostering v = gives v

-- a text is put: with fostering, behind a reconstruction, as replacements, and a frameset isn't ok any more
abbrev pub put_row : (fostering reopens replaces marks : Bool) → Rules
put_row fostering reopens replaces marks text v =
    followed_by (reopened_if reopens fostering v) (λ w. followed_by (put_plan fostering (child.Text (replaced_if replaces text)) w) (λ z. gives (left (at_first (marked marks z)))))

-- a row that only uses the rules of another mode
pub through : (p : Plan Came) → followed_by p (where_left (λ r. gives (left r))) ≡ p
through (gives (left r)) = refl
through (gives (again t r)) = refl
through (crosses crossing) = refl
through (asks question go) = ap (asks question) (λ i. λ a. through (go a) i)

-- dispatch hangs on the stack alone
pub goes-like : (token : Kind) (v u : Split) (stack : List OpenElement) → v.change.popped ≡ u.change.popped → goes_on token v stack ≡ goes_on token u stack
goes-like token v u [] e = ap (λ (n : ℕ). if is_end_of_input token then gives false else followed_by (ask_seen n kinds.AnyHtml kinds.All) (unless_html token n)) e
goes-like token v u (x ∷ xs) e = refl

module _ (says : Question → Answer) where
  pub asked-last : {X Y : Type 0} (p : Plan X) (g : X → Y) → asked_by says (followed_by p (λ x. gives (g x))) ≡ asked_by says p
  asked-last (gives x) g = refl
  asked-last (crosses crossing) g = refl
  asked-last (asks question go) g = ap (λ (qs : List Question). question ∷ qs) (asked-last (go (says question)) g)

  pub asked-both : {X Y : Type 0} (p : Plan X) (q r : X → Plan Y) → ((x : X) → asked_by says (q x) ≡ asked_by says (r x)) → asked_by says (followed_by p q) ≡ asked_by says (followed_by p r)
  asked-both (gives x) q r h = h x
  asked-both (crosses crossing) q r h = refl
  asked-both (asks question go) q r h = ap (λ (qs : List Question). question ∷ qs) (asked-both (go (says question)) q r h)

  -- the end of two plans by that of the first
  pub ends-then : {X Y : Type 0} (p : Plan X) (q : X → Plan Y) (x : X) → end_by says p ≡ Ok x → end_by says (followed_by p q) ≡ end_by says (q x)
  ends-then p q x e = end_then says p q ∙ ap (λ r. on_end r (λ y. end_by says (q y))) e

  pub crosses-then : {X Y : Type 0} (p : Plan X) (q : X → Plan Y) (crossing : Crossing) → end_by says p ≡ Err crossing → end_by says (followed_by p q) ≡ Err crossing
  crosses-then p q crossing e = end_then says p q ∙ ap (λ r. on_end r (λ y. end_by says (q y))) e

  module _ (class : CharClass) where
    -- what the next text of that class meets as the first met it
    pub record Stays (tested : Kinds) (foreign : Bool) (v u : Split) : Type 0 where
      pub mode : u.change.mode ≡ v.change.mode
      pub page : u.page ≡ v.page
      pub skip_lf : u.change.skip_lf ≡ v.change.skip_lf
      pub goes : end_by says (goes_plan (kind.Characters class) v) ≡ Ok foreign → end_by says (goes_plan (kind.Characters class) u) ≡ Ok foreign
      pub test : end_by says (current_is_plan tested v) ≡ Ok false → end_by says (current_is_plan tested u) ≡ Ok false

    -- the rules cross; the text is handed on; or it is dealt with, and the next one behind it as both at once
    pub data Deal (tested : Kinds) (foreign : Bool) (v : Split) (by : List ℕ → Split → Plan Came) : Type 0 where
      crossed : (crossing : Crossing) → ((text : List ℕ) → end_by says (by text v) ≡ Err crossing) → Deal tested foreign v by
      handed : (w : Split) → ((text : List ℕ) → end_by says (by text v) ≡ Ok (again (Characters class text) (at_first w))) → Keeps v w → Deal tested foreign v by
      dealt : (f : List ℕ → Split) → ((text : List ℕ) → end_by says (by text v) ≡ Ok (left (at_first (f text)))) → ((a : List ℕ) → Stays tested foreign v (f a))
          → ((a b : List ℕ) → (w : Split) × (end_by says (by b (f a)) ≡ Ok (left (at_first w))) × (bare w ≡ bare (f (a ++ b)))) → Deal tested foreign v by

    pub record Row (tested : Kinds) (foreign : Bool) (v : Split) (by : List ℕ → Split → Plan Came) : Type 0 where
      pub asks : (a b : List ℕ) → asked_by says (by a v) ≡ asked_by says (by b v)
      pub deal : Deal tested foreign v by

    stays-same : (tested : Kinds) (foreign : Bool) (v : Split) → Stays tested foreign v v
    stays-same tested foreign v = record { mode = refl; page = refl; skip_lf = refl; goes = λ h. h; test = λ h. h }

    dropped-row : (tested : Kinds) (foreign : Bool) (v : Split) → Row tested foreign v (λ text u. gives (left (at_first u)))
    dropped-row tested foreign v = record { asks = λ a b. refl; deal = dealt (λ text. v) (λ text. refl) (λ a. stays-same tested foreign v) (λ a b. (v, refl, refl)) }

    pended-row : (tested : Kinds) (foreign : Bool) (v : Split) → Row tested foreign v (λ text u. gives (left (at_first (with_change (with_pending (u.change.pending ++ text) u.change) u))))
    pended-row tested foreign v = record {
      asks = λ a b. refl;
      deal = dealt (λ text. with_change (with_pending (v.change.pending ++ text) v.change) v) (λ text. refl)
          (λ a. record { mode = refl; page = refl; skip_lf = refl; goes = λ h. sym (ap (end_by says) (goes-like (kind.Characters class) v (with_change (with_pending (v.change.pending ++ a) v.change) v) v.change.stack refl)) ∙ h; test = λ h. h })
          (λ a b. (with_change (with_pending ((v.change.pending ++ a) ++ b) v.change) v, refl, ap (λ (text : List ℕ). bare (with_change (with_pending text v.change) v)) (append_assoc v.change.pending a b)));
    }

    -- a text that is put
    stays-put : (tested : Kinds) (foreign marks : Bool) (v w : Split) (text : List ℕ) (place : Place) → Stays tested foreign v w → Stays tested foreign v (marked marks (put_at (child.Text text) w place))
    stays-put tested foreign true v w text place s = record {
      mode = s.mode;
      page = s.page;
      skip_lf = s.skip_lf;
      goes = λ h. sym (ap (end_by says) (goes-like (kind.Characters class) w (marked true (put_at (child.Text text) w place)) w.change.stack refl)) ∙ s.goes h;
      test = s.test;
    }
    stays-put tested foreign false v w text place s = record {
      mode = s.mode;
      page = s.page;
      skip_lf = s.skip_lf;
      goes = λ h. sym (ap (end_by says) (goes-like (kind.Characters class) w (put_at (child.Text text) w place) w.change.stack refl)) ∙ s.goes h;
      test = s.test;
    }

    pub place-put : (fostering marks : Bool) (w : Split) (text : List ℕ) (place : Place) → end_by says (place_plan fostering w) ≡ Ok place → end_by says (place_plan fostering (marked marks (put_at (child.Text text) w place))) ≡ Ok place
    place-put fostering true w text place e = ap (end_by says) (place-seen fostering (marked true (put_at (child.Text text) w place)) ∙ sym (place-seen fostering w)) ∙ e
    place-put fostering false w text place e = ap (end_by says) (place-seen fostering (put_at (child.Text text) w place) ∙ sym (place-seen fostering w)) ∙ e

    pub fresh-put : (marks : Bool) (w : Split) (text : List ℕ) (place : Place) → IsFresh says w → IsFresh says (marked marks (put_at (child.Text text) w place))
    fresh-put true w text place h = h
    fresh-put false w text place h = h

    put-twice : (marks : Bool) (w : Split) (a b c : List ℕ) (p q : Place) → bare (marked marks (put_at (child.Text b) (marked marks (put_at (child.Text a) w p)) q)) ≡ bare (marked marks (put_at (child.Text c) w p))
    put-twice true w a b c p q = refl
    put-twice false w a b c p q = refl

    pub put-ends : (fostering marks : Bool) (w : Split) (text : List ℕ) (place : Place) → end_by says (place_plan fostering w) ≡ Ok place
        → end_by says (followed_by (put_plan fostering (child.Text text) w) (λ z. gives (left (at_first (marked marks z))))) ≡ Ok (left (at_first (marked marks (put_at (child.Text text) w place))))
    put-ends fostering marks w text place e =
        ends-then (put_plan fostering (child.Text text) w) (λ z. gives (left (at_first (marked marks z)))) (put_at (child.Text text) w place)
        (ends-then (place_plan fostering w) (λ p. gives (put_at (child.Text text) w p)) place e)

    pub put-crosses : (fostering marks : Bool) (w : Split) (text : List ℕ) (crossing : Crossing) → end_by says (place_plan fostering w) ≡ Err crossing
        → end_by says (followed_by (put_plan fostering (child.Text text) w) (λ z. gives (left (at_first (marked marks z))))) ≡ Err crossing
    put-crosses fostering marks w text crossing e =
        crosses-then (put_plan fostering (child.Text text) w) (λ z. gives (left (at_first (marked marks z)))) crossing
        (crosses-then (place_plan fostering w) (λ p. gives (put_at (child.Text text) w p)) crossing e)

    pub put-asks : (fostering marks : Bool) (w : Split) (text : List ℕ) → asked_by says (followed_by (put_plan fostering (child.Text text) w) (λ z. gives (left (at_first (marked marks z))))) ≡ asked_by says (place_plan fostering w)
    put-asks fostering marks w text =
        asked-last (put_plan fostering (child.Text text) w) (λ z. left (at_first (marked marks z))) ∙ asked-last (place_plan fostering w) (λ p. put_at (child.Text text) w p)

    -- behind what is reconstructed there is nothing to reconstruct
    abbrev StaysFresh : Bool → Bool → Split → Type 0
    StaysFresh reopens fostering w = (marks : Bool) (text : List ℕ) (p : Place) → end_by says (reopened_if reopens fostering (marked marks (put_at (child.Text text) w p))) ≡ Ok (marked marks (put_at (child.Text text) w p))

    put-deal : (tested : Kinds) (foreign fostering reopens replaces marks : Bool) (v w : Split) → end_by says (reopened_if reopens fostering v) ≡ Ok w → StaysFresh reopens fostering w → Stays tested foreign v w
        → Deal tested foreign v (put_row fostering reopens replaces marks)
    put-deal tested foreign fostering reopens replaces marks v w e fresh s = go (end_by says (place_plan fostering w)) refl
      where
        rest : List ℕ → Split → Plan Came
        rest text u = followed_by (put_plan fostering (child.Text (replaced_if replaces text)) u) (λ z. gives (left (at_first (marked marks z))))

        go : (r : Result Place Crossing) → end_by says (place_plan fostering w) ≡ r → Deal tested foreign v (put_row fostering reopens replaces marks)
        go (Err crossing) k = crossed crossing (λ text. ends-then (reopened_if reopens fostering v) (rest text) w e ∙ put-crosses fostering marks w (replaced_if replaces text) crossing k)
        go (Ok place) k = dealt put
            (λ text. ends-then (reopened_if reopens fostering v) (rest text) w e ∙ put-ends fostering marks w (replaced_if replaces text) place k)
            (λ a. stays-put tested foreign marks v w (replaced_if replaces a) place s)
            (λ a b. (
              marked marks (put_at (child.Text (replaced_if replaces b)) (put a) place),
              ends-then (reopened_if reopens fostering (put a)) (rest b) (put a) (fresh marks (replaced_if replaces a) place)
                  ∙ put-ends fostering marks (put a) (replaced_if replaces b) place (place-put fostering marks w (replaced_if replaces a) place k),
              put-twice marks w (replaced_if replaces a) (replaced_if replaces b) (replaced_if replaces (a ++ b)) place place,
            ))
          where
            put : List ℕ → Split
            put text = marked marks (put_at (child.Text (replaced_if replaces text)) w place)

    put_row-asks : (fostering reopens replaces marks : Bool) (v : Split) (a b : List ℕ) → asked_by says (put_row fostering reopens replaces marks a v) ≡ asked_by says (put_row fostering reopens replaces marks b v)
    put_row-asks fostering reopens replaces marks v a b =
        asked-both (reopened_if reopens fostering v)
        (λ w. followed_by (put_plan fostering (child.Text (replaced_if replaces a)) w) (λ z. gives (left (at_first (marked marks z)))))
        (λ w. followed_by (put_plan fostering (child.Text (replaced_if replaces b)) w) (λ z. gives (left (at_first (marked marks z)))))
        (λ w. put-asks fostering marks w (replaced_if replaces a) ∙ sym (put-asks fostering marks w (replaced_if replaces b)))

    plain-row : (tested : Kinds) (foreign fostering replaces marks : Bool) (v : Split) → Row tested foreign v (put_row fostering false replaces marks)
    plain-row tested foreign fostering replaces marks v = record {
      asks = put_row-asks fostering false replaces marks v;
      deal = put-deal tested foreign fostering false replaces marks v v refl (λ k text p. refl) (stays-same tested foreign v);
    }

    -- an element of formatting on top takes no text to the foreign rules, and is no table's
    pub inline-goes : (e : OpenElement) (es : List OpenElement) (u : Split) → IsInline e → end_by says (goes_on (kind.Characters class) u (e ∷ es)) ≡ Ok false
    inline-goes e es u inline = ap Ok (ap not (ap (λ b. false || b || enters e.point (kind.Characters class) || (is_annotation e && is_svg_start (kind.Characters class))) inline.html))

    stays-reopened : (v w : Split) → Reopens says v w → Stays (kinds.Set TableTextParents) false v w
    stays-reopened v w (inl (same, fresh)) = subst (Stays (kinds.Set TableTextParents) false v) (sym same) (stays-same (kinds.Set TableTextParents) false v)
    stays-reopened v w (inr r) = record {
      mode = r.mode;
      page = r.page;
      skip_lf = r.skip_lf;
      goes = λ h. ap (λ es. end_by says (goes_on (kind.Characters class) w es)) r.stack ∙ inline-goes r.top r.rest w r.inline;
      test = λ h. ap (λ es. end_by says (current_on w.change.popped (kinds.Set TableTextParents) es)) r.stack ∙ ap Ok r.inline.no_parent;
    }

    is-fresh : (v w : Split) → Reopens says v w → IsFresh says w
    is-fresh v w (inl (same, fresh)) = subst (IsFresh says) (sym same) fresh
    is-fresh v w (inr r) = r.fresh

    reopening-row : (fostering replaces marks : Bool) (v : Split) → All IsFormatting v.change.formatting → Row (kinds.Set TableTextParents) false v (put_row fostering true replaces marks)
    reopening-row fostering replaces marks v all = record { asks = put_row-asks fostering true replaces marks v; deal = go (end_by says (reconstruct_plan fostering v)) refl }
      where
        rest : List ℕ → Split → Plan Came
        rest text u = followed_by (put_plan fostering (child.Text (replaced_if replaces text)) u) (λ z. gives (left (at_first (marked marks z))))

        go : (r : Result Split Crossing) → end_by says (reconstruct_plan fostering v) ≡ r → Deal (kinds.Set TableTextParents) false v (put_row fostering true replaces marks)
        go (Err crossing) k = crossed crossing (λ text. crosses-then (reconstruct_plan fostering v) (rest text) crossing k)
        go (Ok w) k =
            let r : Reopens says v w = reopened says fostering v w all k in
            put-deal (kinds.Set TableTextParents) false fostering true replaces marks v w k (λ b text p. fresh-ends says fostering (marked b (put_at (child.Text text) w p)) (fresh-put b w text p (is-fresh v w r))) (stays-reopened v w r)

    -- rules that hand a text on
    pub record Hands (v : Split) (by : List ℕ → Split → Plan Came) : Type 0 where
      pub asks : (a b : List ℕ) → asked_by says (by a v) ≡ asked_by says (by b v)
      pub hands : ((crossing : Crossing) × ((text : List ℕ) → end_by says (by text v) ≡ Err crossing)) ⊎ ((w : Split) × ((text : List ℕ) → end_by says (by text v) ≡ Ok (again (Characters class text) (at_first w))) × Keeps v w)

    handing : (v : Split) (p : Split → Plan Split) (g : Split → Split) → ((w : Split) → end_by says (p v) ≡ Ok w → Keeps v (g w)) → Hands v (λ text u. followed_by (p u) (λ z. gives (again (Characters class text) (at_first (g z)))))
    handing v p g keeps = record {
      asks = λ a b. asked-last (p v) (λ z. again (Characters class a) (at_first (g z))) ∙ sym (asked-last (p v) (λ z. again (Characters class b) (at_first (g z))));
      hands = go (end_by says (p v)) refl;
    }
      where
        go : (r : Result Split Crossing) → end_by says (p v) ≡ r
            → ((crossing : Crossing) × ((text : List ℕ) → end_by says (followed_by (p v) (λ z. gives (again (Characters class text) (at_first (g z))))) ≡ Err crossing))
            ⊎ ((w : Split) × ((text : List ℕ) → end_by says (followed_by (p v) (λ z. gives (again (Characters class text) (at_first (g z))))) ≡ Ok (again (Characters class text) (at_first w))) × Keeps v w)
        go (Err crossing) k = inl (crossing, λ text. crosses-then (p v) (λ z. gives (again (Characters class text) (at_first (g z)))) crossing k)
        go (Ok w) k = inr (g w, λ text. ends-then (p v) (λ z. gives (again (Characters class text) (at_first (g z)))) w k, keeps w k)

    handing-row : (tested : Kinds) (foreign : Bool) (v : Split) (by : List ℕ → Split → Plan Came) → Hands v by → Row tested foreign v by
    handing-row tested foreign v by h = record { asks = h.asks; deal = go h.hands }
      where
        go : ((crossing : Crossing) × ((text : List ℕ) → end_by says (by text v) ≡ Err crossing)) ⊎ ((w : Split) × ((text : List ℕ) → end_by says (by text v) ≡ Ok (again (Characters class text) (at_first w))) × Keeps v w) → Deal tested foreign v by
        go (inl (crossing, k)) = crossed crossing k
        go (inr (w, k, keeps)) = handed w k keeps

    -- whether the current node is of these kinds is told in any case
    test-told : (tested : Kinds) (v : Split) → (b : Bool) × (end_by says (current_is_plan tested v) ≡ Ok b)
    test-told tested v = go v.change.stack
      where
        go : (es : List OpenElement) → (b : Bool) × (end_by says (current_on v.change.popped tested es) ≡ Ok b)
        go [] = (is_yes (says (ask.Seen v.change.popped tested kinds.All)), refl)
        go (e ∷ es) = (within tested e, refl)

    -- a test, where the text is handed on if it holds
    tested-row : (tested : Kinds) (foreign : Bool) (v : Split) (rows : Bool → List ℕ → Split → Plan Came) → Hands v (rows true) → Row tested foreign v (rows false) → Row tested foreign v (λ text u. followed_by (current_is_plan tested u) (λ b. rows b text u))
    tested-row tested foreign v rows h r = record { asks = λ a b. asked-both (current_is_plan tested v) (λ c. rows c a v) (λ c. rows c b v) (same a b); deal = go (test-told tested v) }
      where
        same : (a b : List ℕ) (c : Bool) → asked_by says (rows c a v) ≡ asked_by says (rows c b v)
        same a b true = h.asks a b
        same a b false = r.asks a b

        by-so : (b : Bool) (text : List ℕ) (u : Split) → end_by says (current_is_plan tested u) ≡ Ok b → end_by says (followed_by (current_is_plan tested u) (λ c. rows c text u)) ≡ end_by says (rows b text u)
        by-so b text u e = ends-then (current_is_plan tested u) (λ c. rows c text u) b e

        handed-so : end_by says (current_is_plan tested v) ≡ Ok true
            → ((crossing : Crossing) × ((text : List ℕ) → end_by says (rows true text v) ≡ Err crossing)) ⊎ ((w : Split) × ((text : List ℕ) → end_by says (rows true text v) ≡ Ok (again (Characters class text) (at_first w))) × Keeps v w)
            → Deal tested foreign v (λ text u. followed_by (current_is_plan tested u) (λ b. rows b text u))
        handed-so e (inl (crossing, k)) = crossed crossing (λ text. by-so true text v e ∙ k text)
        handed-so e (inr (w, k, keeps)) = handed w (λ text. by-so true text v e ∙ k text) keeps

        dealt-so : end_by says (current_is_plan tested v) ≡ Ok false → Deal tested foreign v (rows false) → Deal tested foreign v (λ text u. followed_by (current_is_plan tested u) (λ b. rows b text u))
        dealt-so e (crossed crossing k) = crossed crossing (λ text. by-so false text v e ∙ k text)
        dealt-so e (handed w k keeps) = handed w (λ text. by-so false text v e ∙ k text) keeps
        dealt-so e (dealt f k stays second) = dealt f (λ text. by-so false text v e ∙ k text) stays (λ a b. let s = second a b in (s.0, by-so false b (f a) ((stays a).test e) ∙ s.1, s.2))

        go : (b : Bool) × (end_by says (current_is_plan tested v) ≡ Ok b) → Deal tested foreign v (λ text u. followed_by (current_is_plan tested u) (λ b. rows b text u))
        go (true, e) = handed-so e h.hands
        go (false, e) = dealt-so e r.deal

    row-as : (tested : Kinds) (foreign : Bool) (v : Split) (by other : List ℕ → Split → Plan Came) → ((text : List ℕ) (u : Split) → other text u ≡ by text u) → Row tested foreign v by → Row tested foreign v other
    row-as tested foreign v by other e row = subst (Row tested foreign v) (λ i. λ text. λ u. sym (e text u) i) row

    -- a row that only uses the rules of another mode
    part-row : (tested : Kinds) (foreign : Bool) (v : Split) (by : List ℕ → Split → Plan Came) → Row tested foreign v by → Row tested foreign v (λ text u. followed_by (by text u) (where_left (λ r. gives (left r))))
    part-row tested foreign v by row = row-as tested foreign v by (λ text u. followed_by (by text u) (where_left (λ r. gives (left r)))) (λ text u. through (by text u)) row

-- the kinds for which a mode tests the current node
abbrev pub tested_in : Mode → Kinds
tested_in mode.InColumnGroup = kinds.Html (text_of Colgroup)
tested_in _ = kinds.Set TableTextParents

abbrev table_parents : Kinds
table_parents = kinds.Set TableTextParents

-- how a text is handled by the rules of a mode, used so deep
abbrev pub rules_at : ℕ → Bool → Mode → CharClass → List ℕ → Split → Plan Came
rules_at depth fostering m class text u = rules_plan depth (Characters class text) fostering m (at_first u)

module _ (says : Question → Answer) where
  body-row : (depth : ℕ) (fostering : Bool) (class : CharClass) (v : Split) → All IsFormatting v.change.formatting → Row says class table_parents false v (rules_at (suc depth) fostering mode.InBody class)
  unfolding rules_plan every_mode_rows
  body-row depth fostering White v all = reopening-row says White fostering false false v all
  body-row depth fostering Nul v all = dropped-row says Nul table_parents false v
  body-row depth fostering Other v all = reopening-row says Other fostering false true v all

  body-part : (depth : ℕ) (fostering : Bool) (class : CharClass) (v : Split) → All IsFormatting v.change.formatting → Row says class table_parents false v (λ text u. followed_by (rules_at (suc depth) fostering mode.InBody class text u) (where_left (λ r. gives (left r))))
  body-part depth fostering class v all = part-row says class table_parents false v (rules_at (suc depth) fostering mode.InBody class) (body-row depth fostering class v all)

  select-row : (depth : ℕ) (class : CharClass) (v : Split) → Row says class table_parents false v (rules_at (suc depth) false mode.InSelect class)
  unfolding rules_plan every_mode_rows
  select-row depth White v = plain-row says White table_parents false false false false v
  select-row depth Nul v = dropped-row says Nul table_parents false v
  select-row depth Other v = plain-row says Other table_parents false false false false v

  select-part : (depth : ℕ) (class : CharClass) (v : Split) → Row says class table_parents false v (λ text u. followed_by (rules_at (suc depth) false mode.InSelect class text u) (where_left (λ r. gives (left r))))
  select-part depth class v = part-row says class table_parents false v (rules_at (suc depth) false mode.InSelect class) (select-row depth class v)

  -- a text in a table is kept until its end
  emptied-keeps : (v w : Split) → end_by says (empty_pending_plan v) ≡ Ok w → Keeps v (with_change (moded mode.InTableText (original_kept w.change)) w)
  emptied-keeps v w e = go v.older_text e
    where
      go : (b : Bool) → end_by says (if b then crosses X7 else gives (with_change (with_pending [] v.change) v)) ≡ Ok w → Keeps v (with_change (moded mode.InTableText (original_kept w.change)) w)
      go true k = absurd (cc)
      go false k =
          let same : with_change (with_pending [] v.change) v ≡ w = cc in
          subst (λ (z : Split). Keeps v (with_change (moded mode.InTableText (original_kept z.change)) z)) same (record { formatting = refl; page = refl; skip_lf = refl })

  keeping : (class : CharClass) (v : Split) → Hands says class v (λ text u. followed_by (empty_pending_plan u) (λ z. gives (again (Characters class text) (at_first (with_change (moded mode.InTableText (original_kept z.change)) z)))))
  keeping class v = handing says class v empty_pending_plan (λ z. with_change (moded mode.InTableText (original_kept z.change)) z) (emptied-keeps v)

  table-row : (depth : ℕ) (class : CharClass) (v : Split) → All IsFormatting v.change.formatting → Row says class table_parents false v (rules_at (suc (suc depth)) false mode.InTable class)
  unfolding rules_plan every_mode_rows
  table-row depth White v all = tested-row says White table_parents false v _ (keeping White v) (body-part depth true White v all)
  table-row depth Nul v all = tested-row says Nul table_parents false v _ (keeping Nul v) (body-part depth true Nul v all)
  table-row depth Other v all = tested-row says Other table_parents false v _ (keeping Other v) (body-part depth true Other v all)

  table-part : (depth : ℕ) (class : CharClass) (v : Split) → All IsFormatting v.change.formatting → Row says class table_parents false v (λ text u. followed_by (rules_at (suc (suc depth)) false mode.InTable class text u) (where_left (λ r. gives (left r))))
  table-part depth class v all = part-row says class table_parents false v (rules_at (suc (suc depth)) false mode.InTable class) (table-row depth class v all)

  -- a colgroup is left
  popped-keeps : (v w : Split) → end_by says (pop_plan v) ≡ Ok w → Keeps v (with_change (moded mode.InTable w.change) w)
  popped-keeps v w e = go v.page v.change.stack refl e
    where
      own : (e : OpenElement) (es : List OpenElement) → end_by says (pop_on v (e ∷ es)) ≡ Ok w → Keeps v (with_change (moded mode.InTable w.change) w)
      own e es k =
          let same : own_popped 1 v ≡ w = cc in
          subst (λ (z : Split). Keeps v (with_change (moded mode.InTable z.change) z)) same (record { formatting = refl; page = refl; skip_lf = refl })

      older : (page : Option Page) → v.page ≡ page → Keeps v (with_change (moded mode.InTable (past_own page 1 v.change)) v)
      older None same = record { formatting = refl; page = refl; skip_lf = refl }
      older (Some p) same = record { formatting = refl; page = refl; skip_lf = refl }

      go : (page : Option Page) (es : List OpenElement) → v.page ≡ page → end_by says (pop_on v es) ≡ Ok w → Keeps v (with_change (moded mode.InTable w.change) w)
      go page [] at k =
          let same : all_popped 1 v ≡ w = cc in
          let kept : Keeps v (with_change (moded mode.InTable (past_own v.page 1 v.change)) v) = older v.page refl in
          subst (λ (z : Split). Keeps v (with_change (moded mode.InTable z.change) z)) same (record { formatting = kept.formatting; page = kept.page; skip_lf = kept.skip_lf })
      go page (e ∷ es) at k = own e es k

  leaving : (class : CharClass) (v : Split) → Hands says class v (λ text u. followed_by (pop_plan u) (λ z. gives (again (Characters class text) (at_first (with_change (moded mode.InTable z.change) z)))))
  leaving class v = handing says class v pop_plan (λ z. with_change (moded mode.InTable z.change) z) (popped-keeps v)

  -- the body is gone back to
  back : (class : CharClass) (v : Split) → Row says class table_parents false v (λ text u. gives (again (Characters class text) (at_first (with_change (moded mode.InBody u.change) u))))
  back class v = record { asks = λ a b. refl; deal = handed (with_change (moded mode.InBody v.change) v) (λ text. refl) (record { formatting = refl; page = refl; skip_lf = refl }) }

  pub mode-row : (m : Mode) (class : CharClass) (v : Split) → is_head_mode m ≡ false → All IsFormatting v.change.formatting → Row says class (tested_in m) false v (rules_at 4 false m class)
  unfolding rules_plan every_mode_rows
  mode-row mode.InBody class v h all = body-row 3 false class v all
  mode-row mode.Text White v h all = plain-row says White table_parents false false false false v
  mode-row mode.Text Nul v h all = plain-row says Nul table_parents false false false false v
  mode-row mode.Text Other v h all = plain-row says Other table_parents false false false false v
  mode-row mode.InTable class v h all = table-row 2 class v all
  mode-row mode.InTableText White v h all = pended-row says White table_parents false v
  mode-row mode.InTableText Nul v h all = dropped-row says Nul table_parents false v
  mode-row mode.InTableText Other v h all = pended-row says Other table_parents false v
  mode-row mode.InCaption White v h all = body-part 2 false White v all
  mode-row mode.InCaption Nul v h all = body-part 2 false Nul v all
  mode-row mode.InCaption Other v h all = body-part 2 false Other v all
  mode-row mode.InColumnGroup White v h all = plain-row says White _ false false false false v
  mode-row mode.InColumnGroup Nul v h all = tested-row says Nul _ false v _ (leaving Nul v) (dropped-row says Nul _ false v)
  mode-row mode.InColumnGroup Other v h all = tested-row says Other _ false v _ (leaving Other v) (dropped-row says Other _ false v)
  mode-row mode.InTableBody White v h all = table-part 1 White v all
  mode-row mode.InTableBody Nul v h all = table-part 1 Nul v all
  mode-row mode.InTableBody Other v h all = table-part 1 Other v all
  mode-row mode.InRow White v h all = table-part 1 White v all
  mode-row mode.InRow Nul v h all = table-part 1 Nul v all
  mode-row mode.InRow Other v h all = table-part 1 Other v all
  mode-row mode.InCell White v h all = body-part 2 false White v all
  mode-row mode.InCell Nul v h all = body-part 2 false Nul v all
  mode-row mode.InCell Other v h all = body-part 2 false Other v all
  mode-row mode.InSelect class v h all = select-row 3 class v
  mode-row mode.InSelectInTable White v h all = select-part 2 White v
  mode-row mode.InSelectInTable Nul v h all = select-part 2 Nul v
  mode-row mode.InSelectInTable Other v h all = select-part 2 Other v
  mode-row mode.InTemplate White v h all = body-part 2 false White v all
  mode-row mode.InTemplate Nul v h all = body-part 2 false Nul v all
  mode-row mode.InTemplate Other v h all = body-part 2 false Other v all
  mode-row mode.AfterBody White v h all = body-part 2 false White v all
  mode-row mode.AfterBody Nul v h all = back Nul v
  mode-row mode.AfterBody Other v h all = back Other v
  mode-row mode.InFrameset White v h all = plain-row says White table_parents false false false false v
  mode-row mode.InFrameset Nul v h all = dropped-row says Nul table_parents false v
  mode-row mode.InFrameset Other v h all = dropped-row says Other table_parents false v
  mode-row mode.AfterFrameset White v h all = plain-row says White table_parents false false false false v
  mode-row mode.AfterFrameset Nul v h all = dropped-row says Nul table_parents false v
  mode-row mode.AfterFrameset Other v h all = dropped-row says Other table_parents false v
  mode-row mode.AfterAfterBody White v h all = body-part 2 false White v all
  mode-row mode.AfterAfterBody Nul v h all = back Nul v
  mode-row mode.AfterAfterBody Other v h all = back Other v
  mode-row mode.AfterAfterFrameset White v h all = body-part 2 false White v all
  mode-row mode.AfterAfterFrameset Nul v h all = dropped-row says Nul table_parents false v
  mode-row mode.AfterAfterFrameset Other v h all = dropped-row says Other table_parents false v
  mode-row mode.Initial class v h all = absurd (cc)
  mode-row mode.BeforeHtml class v h all = absurd (cc)
  mode-row mode.BeforeHead class v h all = absurd (cc)
  mode-row mode.InHead class v h all = absurd (cc)
  mode-row mode.InHeadNoscript class v h all = absurd (cc)
  mode-row mode.AfterHead class v h all = absurd (cc)

  pub foreign-row : (m : Mode) (class : CharClass) (v : Split) → Row says class table_parents true v (λ text u. foreign_plan (Characters class text) m (at_first u))
  foreign-row m White v = plain-row says White table_parents true false false false v
  foreign-row m Nul v = plain-row says Nul table_parents true false true false v
  foreign-row m Other v = plain-row says Other table_parents true false false true v
