-- What the reconstruction of formatting elements leaves of a view, by the answers to what it asks: nothing to reconstruct, and at most
-- an element of formatting on top (13.2.4.3).
use Rattle.std.proofs.Common.{◌≡◌, ℕ, zero, suc, List, [], ◌∷◌, Bool, true, false, Option, None, Some, length, refl, sym, ap, ◌∙◌, subst, inl, inr, slice_get}
use Rattle.std.specs.Prelude.{◌⊎◌, All, Ok, if◌then◌else◌}
use Rattle.std.proofs.lemmas.Bool.{eq-eqb}
use Rattle.std.proofs.lemmas.List.Elements.{All-head}
use Rattle.hp_elements.specs.Sets.{in_set, members}
use Rattle.hp_elements.specs.declared.sets.Namespace.TheVariants.{Html}
use Rattle.hp_elements.specs.declared.sets.SetName.TheVariants.{Formatting, TableTextParents}
use Rattle.hp_elements.specs.declared.tag.Tag.{Tag}
use Rattle.hp_control.specs.declared.element.FormattingEntry.{FormattingEntry}
use Rattle.hp_control.specs.declared.element.FormattingEntry.TheVariants.{Marker, Element}
use Rattle.hp_control.specs.declared.element.OpenElement.{OpenElement}
use Rattle.hp_control.specs.declared.question.Answer.{Answer}
use Rattle.hp_control.specs.declared.question.Question.{Question}
use Rattle.hp_control.specs.declared.question.Question.TheVariants as ask
use Rattle.hp_control.specs.Acts.{element_for}
use Rattle.hp_control.specs.Faithful.{Split}
use Rattle.hp_control.specs.Plan.{Plan, gives, crosses, asks, end_by, followed_by}
use Rattle.hp_control.specs.States.{IsFormatting, is_html}
use Rattle.hp_views.specs.declared.walks.Walk.{Walk}
use Rattle.hp_views.specs.declared.walks.Walk.TheVariants.{Found, Stopped, PastAll}
use Rattle.hp_views.specs.Asking.{is_yes}
use Rattle.hp_views.specs.FieldPlans.{with_change}
use Rattle.hp_views.specs.ListPlans.{with_entries}
use Rattle.hp_views.specs.PlacePlans.{insert_at, place_plan}
use Rattle.hp_views.specs.Walks.{deeper, id_walk, is_found}
use Rattle.hp_adoption.specs.ReconPlans.{recon_older, recon_on, reconstruct_plan, relisted, renew_down_plan, renew_on, renew_plan, stale_walk}
use Rattle.hp_model.proofs.Reconstructed.{IsInline}
use Rattle.hp_model.proofs.Stacks.{refused}

-- where both come to an end, the first does and the second behind it
pub ended_both : {X Y : Type 0} (says : Question → Answer) (p : Plan X) (q : X → Plan Y) (y : Y) → end_by says (followed_by p q) ≡ Ok y → (x : X) × (end_by says p ≡ Ok x) × (end_by says (q x) ≡ Ok y)
ended_both says (gives x) q y e = (x, refl, e)
ended_both says (crosses crossing) q y e = absurd (cc)
ended_both says (asks question go) q y e = ended_both says (go (says question)) q y e

-- an element made for the tag of a formatting element
made-inline : (id : ℕ) (tag : Tag) → IsFormatting (Element id tag) → (n : ℕ) → IsInline (element_for n tag)
made-inline id tag h n = record {
  html = subst (λ space. is_html (element_for n (record tag { namespace = space })) ≡ true) (sym h.0) refl;
  no_parent =
      subst (λ space. in_set TableTextParents space tag.name ≡ false) (sym h.0)
      (refused (λ name. in_set TableTextParents Html name) (members Formatting) tag.namespace tag.name refl h.1);
}

-- the last entry is that of a formatting element
abbrev FirstFormats : List FormattingEntry → Type 0
FirstFormats [] = ⊥
FirstFormats (Marker ∷ es) = ⊥
FirstFormats (Element id tag ∷ es) = IsFormatting (Element id tag)

first-formats : (stack : List OpenElement) (list : List FormattingEntry) → All IsFormatting list → (stale_walk stack list ≡ Found 0 → ⊥) → (list ≡ [] → ⊥) → FirstFormats list
first-formats stack [] all walks filled = absurd (filled refl)
first-formats stack (Marker ∷ es) all walks filled = absurd (walks refl)
first-formats stack (Element id tag ∷ es) all walks filled = All-head IsFormatting (Element id tag) es all

abbrev listed : List FormattingEntry → Split → Split
listed es v = with_change (with_entries es v.change) v

-- what the making of one element anew keeps
record Keeps (v w : Split) : Type 0 where
  formats : FirstFormats w.change.formatting
  mode : w.change.mode ≡ v.change.mode
  page : w.page ≡ v.page
  skip_lf : w.change.skip_lf ≡ v.change.skip_lf

fresh-top : (n : ℕ) (tag : Tag) (stack : List OpenElement) (list : List FormattingEntry) → stale_walk (element_for n tag ∷ stack) (Element n tag ∷ list) ≡ Found 0
fresh-top n tag stack list =
    ap (λ b. if is_found (if b then Found 0 else deeper 1 (id_walk n stack)) then Found 0 else deeper 1 (stale_walk (element_for n tag ∷ stack) list)) (eq-eqb n n refl)

module _ (says : Question → Answer) where
  -- nothing is to be reconstructed
  abbrev pub IsFresh : Split → Type 0
  IsFresh v = (stale_walk v.change.stack v.change.formatting ≡ Found 0) ⊎ ((v.change.formatting ≡ []) × (is_yes (says (ask.Quiet v.change.popped v.change.cuts)) ≡ true))

  pub fresh-ends : (fostering : Bool) (v : Split) → IsFresh v → end_by says (reconstruct_plan fostering v) ≡ Ok v
  fresh-ends fostering v (inl h) = ap (λ walk. end_by says (recon_on fostering v walk)) h
  fresh-ends fostering v (inr (none, quiet)) =
      ap (λ es. end_by says (recon_on fostering v (stale_walk v.change.stack es))) none
      ∙ (ap (λ b. end_by says (recon_older fostering v b)) quiet
      ∙ ap (λ (es : List FormattingEntry). end_by says (renew_down_plan fostering (length es) v)) none)

  -- an element of formatting is on top now
  pub record IsReopened (v w : Split) : Type 0 where
    pub mode : w.change.mode ≡ v.change.mode
    pub page : w.page ≡ v.page
    pub skip_lf : w.change.skip_lf ≡ v.change.skip_lf
    pub top : OpenElement
    pub rest : List OpenElement
    pub stack : w.change.stack ≡ top ∷ rest
    pub inline : IsInline top
    pub fresh : IsFresh w

  last-renewed : (fostering : Bool) (list : List FormattingEntry) (v w : Split) → FirstFormats list → end_by says (renew_down_plan fostering 1 (listed list v)) ≡ Ok w → IsReopened (listed list v) w
  last-renewed fostering [] v w h e = absurd h
  last-renewed fostering (Marker ∷ es) v w h e = absurd h
  last-renewed fostering (Element id tag ∷ es) v w h e =
      let u : Split = listed (Element id tag ∷ es) v in
      let a = ended_both says (renew_plan fostering 0 u) (renew_down_plan fostering 0) w e in
      let b = ended_both says (place_plan fostering (relisted 0 tag u)) (λ p. gives (insert_at tag (relisted 0 tag u) p)) a.0 a.1 in
      let last : Ok a.0 ≡ Ok w = a.2 in
      let first : Ok (insert_at tag (relisted 0 tag u) b.0) ≡ Ok a.0 = b.2 in
      let same : insert_at tag (relisted 0 tag u) b.0 ≡ w = cc in
      subst (IsReopened u) same (record {
        mode = refl;
        page = refl;
        skip_lf = refl;
        top = element_for v.change.made tag;
        rest = v.change.stack;
        stack = refl;
        inline = made-inline id tag h v.change.made;
        fresh = inl (fresh-top v.change.made tag v.change.stack es);
      })

  entry-renewed : (fostering : Bool) (depth : ℕ) (o : Option FormattingEntry) (id : ℕ) (tag : Tag) (es : List FormattingEntry) (v w : Split) → IsFormatting (Element id tag)
      → end_by says (renew_on fostering (suc depth) (listed (Element id tag ∷ es) v) o) ≡ Ok w → Keeps v w
  entry-renewed fostering depth None id tag es v w h e = let same : listed (Element id tag ∷ es) v ≡ w = cc in subst (Keeps v) same (record { formats = h; mode = refl; page = refl; skip_lf = refl })
  entry-renewed fostering depth (Some Marker) id tag es v w h e = let same : listed (Element id tag ∷ es) v ≡ w = cc in subst (Keeps v) same (record { formats = h; mode = refl; page = refl; skip_lf = refl })
  entry-renewed fostering depth (Some (Element other name)) id tag es v w h e =
      let u : Split = relisted (suc depth) name (listed (Element id tag ∷ es) v) in
      let b = ended_both says (place_plan fostering u) (λ p. gives (insert_at name u p)) w e in
      let first : Ok (insert_at name u b.0) ≡ Ok w = b.2 in
      let same : insert_at name u b.0 ≡ w = cc in
      subst (Keeps v) same (record { formats = h; mode = refl; page = refl; skip_lf = refl })

  one-renewed : (fostering : Bool) (depth : ℕ) (list : List FormattingEntry) (v w : Split) → FirstFormats list → end_by says (renew_plan fostering (suc depth) (listed list v)) ≡ Ok w → Keeps v w
  one-renewed fostering depth [] v w h e = absurd h
  one-renewed fostering depth (Marker ∷ es) v w h e = absurd h
  one-renewed fostering depth (Element id tag ∷ es) v w h e = entry-renewed fostering depth (slice_get es depth) id tag es v w h e

  down-renewed : (fostering : Bool) (depth : ℕ) (v w : Split) → FirstFormats v.change.formatting → end_by says (renew_down_plan fostering (suc depth) v) ≡ Ok w → IsReopened v w
  down-renewed fostering zero v w h e = last-renewed fostering v.change.formatting v w h e
  down-renewed fostering (suc depth) v w h e =
      let a = ended_both says (renew_plan fostering (suc depth) v) (renew_down_plan fostering (suc depth)) w e in
      let k : Keeps v a.0 = one-renewed fostering depth v.change.formatting v a.0 h a.1 in
      let r : IsReopened a.0 w = down-renewed fostering depth a.0 w k.formats a.2 in
      record { mode = r.mode ∙ k.mode; page = r.page ∙ k.page; skip_lf = r.skip_lf ∙ k.skip_lf; top = r.top; rest = r.rest; stack = r.stack; inline = r.inline; fresh = r.fresh }

  -- nothing was to be reconstructed, or something was
  abbrev pub Reopens : Split → Split → Type 0
  Reopens v w = ((w ≡ v) × IsFresh v) ⊎ IsReopened v w

  pub reopened : (fostering : Bool) (v w : Split) → All IsFormatting v.change.formatting → end_by says (reconstruct_plan fostering v) ≡ Ok w → Reopens v w
  reopened fostering v w all e = go (stale_walk v.change.stack v.change.formatting) refl e
    where
      formats : (stale_walk v.change.stack v.change.formatting ≡ Found 0 → ⊥) → (v.change.formatting ≡ [] → ⊥) → FirstFormats v.change.formatting
      formats = first-formats v.change.stack v.change.formatting all

      all-below : (walk : Walk) (list : List FormattingEntry) → v.change.formatting ≡ list → stale_walk v.change.stack v.change.formatting ≡ walk → (walk ≡ Found 0 → ⊥) → is_yes (says (ask.Quiet v.change.popped v.change.cuts)) ≡ true
          → end_by says (renew_down_plan fostering (length list) v) ≡ Ok w → Reopens v w
      all-below walk [] same walks other quiet k = let stays : w ≡ v = cc in inl (stays, inr (same, quiet))
      all-below walk (x ∷ xs) same walks other quiet k =
          inr (down-renewed fostering (length xs) v w (formats (λ n. other (sym walks ∙ n)) (λ n. filled (sym same ∙ n))) k)
        where
          filled : x ∷ xs ≡ [] → ⊥
          filled n = cc

      below : (walk : Walk) (b : Bool) → stale_walk v.change.stack v.change.formatting ≡ walk → (walk ≡ Found 0 → ⊥) → is_yes (says (ask.Quiet v.change.popped v.change.cuts)) ≡ b
          → end_by says (recon_older fostering v b) ≡ Ok w → Reopens v w
      below walk true walks other quiet k = all-below walk v.change.formatting refl walks other quiet k
      below walk false walks other quiet k = absurd (cc)

      go : (walk : Walk) → stale_walk v.change.stack v.change.formatting ≡ walk → end_by says (recon_on fostering v walk) ≡ Ok w → Reopens v w
      go (Found zero) walks k = let stays : w ≡ v = cc in inl (stays, inl walks)
      go (Found (suc depth)) walks k =
          inr (down-renewed fostering depth v w (formats (λ n. no_first depth (sym walks ∙ n)) (λ n. none_found depth (sym walks ∙ ap (stale_walk v.change.stack) n))) k)
        where
          no_first : (depth : ℕ) → Found (suc depth) ≡ Found 0 → ⊥
          no_first depth n = cc

          none_found : (depth : ℕ) → Found (suc depth) ≡ PastAll → ⊥
          none_found depth n = cc
      go Stopped walks k = below Stopped (is_yes (says (ask.Quiet v.change.popped v.change.cuts))) walks (λ n. stopped n) refl k
        where
          stopped : Stopped ≡ Found 0 → ⊥
          stopped n = cc
      go PastAll walks k = below PastAll (is_yes (says (ask.Quiet v.change.popped v.change.cuts))) walks (λ n. past n) refl k
        where
          past : PastAll ≡ Found 0 → ⊥
          past n = cc
