-- What an act that leaves so much of the new elements does to a track.
use Rattle.std.proofs.Common.{◌≡◌, ℕ, ◌+◌, ◌≤◌, ◌<◌, List, [], ◌∷◌, drop, length, Bool, true, false, ◌&&◌, refl, sym, ap, ◌∙◌, subst, arith, Option, None, Some}
use Rattle.std.specs.Prelude.{if◌then◌else◌, All, IfSome}
use Rattle.std.proofs.lemmas.Bool.{true≢false}
use Rattle.std.proofs.lemmas.List.Elements.{All-nil, All-cons, All-head, All-tail, All-drop}
use Rattle.hp_elements.specs.Names.{words}
use Rattle.hp_elements.specs.declared.token.Mode.{Mode}
use Rattle.hp_elements.specs.declared.token.Mode.TheVariants as mode
use Rattle.hp_control.specs.declared.element.OpenElement.{OpenElement}
use Rattle.hp_control.specs.States.{ControlState, AreIds, IsNew, entry_ids}
use Rattle.hp_model.specs.Finding.{is_empty}
use Rattle.hp_model.proofs.Ids.{between, between-below, is_id, new-none, none-new}
use Rattle.hp_model.proofs.Tally.{tally}
use Rattle.hp_model.proofs.Thins.{Thins, entry_is, ids_of, tally-entries}
use Rattle.hp_older.specs.GoesOn.{IsFree, comes, fits_mode, is_a, is_new, kept, no_new, own}
use Rattle.hp_older.proofs.Levels.{Strong, Thin, Weak, core_names, fewer, key_names, own_of, template_names}
use Rattle.hp_older.proofs.Track.{BackIs, BalanceIs, On, PlaceIs, Track, Where, at, fitted, lost, loose, strongly, thinly, weakly, Balance, even, over, under, is_even}

-- on an even track there are as many new modes as new templates
pub even_modes : (b : Balance) (templates modes older : ℕ) → is_even b ≡ true → BalanceIs b templates modes older → modes ≡ older + templates
even_modes even templates modes older h k = k
even_modes over templates modes older h k = absurd (true≢false (sym h))
even_modes under templates modes older h k = absurd (true≢false (sym h))

-- the ids of a stack's elements are used
pub below-kept : (p : OpenElement → Bool) (low next : ℕ) (st : List OpenElement) → AreIds low next (ids_of st) → All (λ e. e.id < next) (kept p st)
below-kept p low next [] h = All-nil (λ (e : OpenElement). e.id < next)
below-kept p low next (e ∷ es) h = go (p e) (below-kept p low next es h.3)
  where
    go : (b : Bool) → All (λ x. x.id < next) (kept p es) → All (λ x. x.id < next) (if b then e ∷ kept p es else kept p es)
    go true r = All-cons (λ (x : OpenElement). x.id < next) e (kept p es) h.1 r
    go false r = r

-- what is free stays so where of the old ids none comes
unlisted_later : (c d : ControlState) (id : ℕ) → Thins c d → id < c.next → IsNew id (entry_ids c.formatting) → IsNew id (entry_ids d.formatting)
unlisted_later c d id t l h =
    let a : tally (is_id id) (entry_ids c.formatting) ≡ 0 = new-none id (entry_ids c.formatting) h in
    let b : tally (is_id id) (entry_ids c.formatting) ≡ tally (entry_is id) c.formatting = tally-entries id c.formatting in
    let e : tally (is_id id) (entry_ids d.formatting) ≡ tally (entry_is id) d.formatting = tally-entries id d.formatting in
    let f : tally (entry_is id) d.formatting ≤ tally (entry_is id) c.formatting + between c.next d.next id = t.list id in
    let g : between c.next d.next id ≡ 0 = between-below c.next d.next id l in
    none-new id (entry_ids d.formatting) (omega arith)

form_later : (o p : Option ℕ) (id : ℕ) → IfSome p (λ i. o ≡ Some i) → IfSome o (λ i. i ≡ id → ⊥) → IfSome p (λ i. i ≡ id → ⊥)
form_later o None id h k = tt
form_later o (Some i) id h k = subst (λ x. IfSome x (λ j. j ≡ id → ⊥)) h k

pub free-later : (c d : ControlState) → Thins c d → (es : List OpenElement) → All (λ e. e.id < c.next) es → All (IsFree c.formatting c.form) es → All (IsFree d.formatting d.form) es
free-later c d t [] l h = All-nil (IsFree d.formatting d.form)
free-later c d t (e ∷ es) l h =
    let f = All-head (IsFree c.formatting c.form) e es h in
    All-cons (IsFree d.formatting d.form) e es
    (record { unlisted = unlisted_later c d e.id t (All-head (λ (x : OpenElement). x.id < c.next) e es l) f.unlisted; no_form = form_later c.form d.form e.id t.form f.no_form })
    (free-later c d t es (All-tail (λ (x : OpenElement). x.id < c.next) e es l) (All-tail (IsFree c.formatting c.form) e es h))

-- a mode fits by the new elements alone
pub fits-alike : (s : ControlState) (m : Mode) (old new : List OpenElement) → own s (is_a "template td th") new ≡ own s (is_a "template td th") old → own s (is_a "template select") new ≡ own s (is_a "template select") old
    → own s (is_a "template") new ≡ own s (is_a "template") old → own s (is_a "frameset") new ≡ own s (is_a "frameset") old → fits_mode s m new ≡ fits_mode s m old
fits-alike s mode.InCell old new c h t f = ap (λ l. comes (is_a "td th") l && no_new s (is_a "frameset") new) c ∙ ap (λ l. comes (is_a "td th") (own s (is_a "template td th") old) && is_empty l) f
fits-alike s mode.InSelect old new c h t f = ap (λ l. comes (is_a "select") l && no_new s (is_a "frameset") new) h ∙ ap (λ l. comes (is_a "select") (own s (is_a "template select") old) && is_empty l) f
fits-alike s mode.InSelectInTable old new c h t f = ap (λ l. comes (is_a "select") l && no_new s (is_a "frameset") new) h ∙ ap (λ l. comes (is_a "select") (own s (is_a "template select") old) && is_empty l) f
fits-alike s mode.InFrameset old new c h t f = ap is_empty t
fits-alike s mode.AfterFrameset old new c h t f = ap is_empty t
fits-alike s mode.AfterAfterFrameset old new c h t f = ap is_empty t
fits-alike s _ old new c h t f = ap is_empty f

pub fits-strong : (s : ControlState) (m : Mode) (old new : List OpenElement) → Strong s old new → fits_mode s m new ≡ fits_mode s m old
fits-strong s m old new k =
    fits-alike s m old new (fewer s core_names key_names old new refl k) (fewer s (words "template select") key_names old new refl k) (fewer s template_names key_names old new refl k) (fewer s (words "frameset") key_names old new refl k)

pub back-strong : (b : Bool) (s : ControlState) (o : Option Mode) (old new : List OpenElement) → Strong s old new → BackIs b s o old → BackIs b s o new
back-strong true s None old new k h = h
back-strong true s (Some m) old new k h = fits-strong s m old new k ∙ h
back-strong false s o old new k h = tt

pub place-loose : (w : Where) (s : ControlState) (m : Mode) (old new : List OpenElement) → PlaceIs w s m old → PlaceIs (loose w) s m new
place-loose (at m) s present old new h = h
place-loose fitted s present old new h = tt
place-loose lost s present old new h = tt

pub on_strong : (w : Track) (s c d : ControlState) → On w s c → AreIds 0 c.next (ids_of c.stack) → Thins c d → Strong s c.stack d.stack → On (strongly w) s d
on_strong w s c d g ids t k =
    let template = fewer s template_names key_names c.stack d.stack refl k in
    let core = fewer s core_names key_names c.stack d.stack refl k in
    record {
      html = fewer s (words "html") key_names c.stack d.stack refl k ∙ g.html;
      balance = subst (λ ts. BalanceIs w.balance (length (own s (is_a "template") d.stack)) (length ts) (length s.templates)) (sym t.alike.templates)
          (subst (λ es. BalanceIs w.balance (length es) (length c.templates) (length s.templates)) (sym template) g.balance);
      free = subst (λ es. All (IsFree d.formatting d.form) es) (sym core) (free-later c d t (own s (is_a "template td th") c.stack) (below-kept (λ e. is_new s e && is_a "template td th" e) 0 c.next c.stack ids) g.free);
      top = tt;
      there = tt;
      cell = λ h. ap (comes (is_a "td th")) core ∙ g.cell h;
      select = λ h. ap (comes (is_a "select")) (fewer s (words "template select") key_names c.stack d.stack refl k) ∙ g.select h;
      bare = λ h. template ∙ g.bare h;
      still = λ h. fewer s (words "frameset") key_names c.stack d.stack refl k ∙ g.still h;
      back = subst (λ o. BackIs w.back s o d.stack) (sym t.alike.original) (back-strong w.back s c.original c.stack d.stack k g.back);
      place = subst (λ m. PlaceIs (loose w.place) s m d.stack) (sym t.alike.mode) (place-loose w.place s c.mode c.stack d.stack g.place);
    }

pub on_weak : (w : Track) (s c d : ControlState) → On w s c → AreIds 0 c.next (ids_of c.stack) → Thins c d → Weak s c.stack d.stack → On (weakly w) s d
on_weak w s c d g ids t k =
    let template = fewer s template_names core_names c.stack d.stack refl k.core in
    record {
      html = k.html g.html;
      balance = subst (λ ts. BalanceIs w.balance (length (own s (is_a "template") d.stack)) (length ts) (length s.templates)) (sym t.alike.templates)
          (subst (λ es. BalanceIs w.balance (length es) (length c.templates) (length s.templates)) (sym template) g.balance);
      free = subst (λ es. All (IsFree d.formatting d.form) es) (sym k.core) (free-later c d t (own s (is_a "template td th") c.stack) (below-kept (λ e. is_new s e && is_a "template td th" e) 0 c.next c.stack ids) g.free);
      top = tt;
      there = tt;
      cell = λ h. ap (comes (is_a "td th")) k.core ∙ g.cell h;
      select = λ h. absurd (true≢false (sym h));
      bare = λ h. template ∙ g.bare h;
      still = λ h. k.frameset (g.still h);
      back = tt;
      place = subst (λ m. PlaceIs (loose w.place) s m d.stack) (sym t.alike.mode) (place-loose w.place s c.mode c.stack d.stack g.place);
    }

-- the parts of what is left where cells may go
thin_free : (s c d : ControlState) → All (IsFree c.formatting c.form) (own s (is_a "template td th") c.stack) → AreIds 0 c.next (ids_of c.stack) → Thins c d → (m : ℕ) → own_of s core_names d.stack ≡ drop m (own_of s core_names c.stack) → All (IsFree d.formatting d.form) (own s (is_a "template td th") d.stack)
thin_free s c d g ids t m e =
    subst (λ es. All (IsFree d.formatting d.form) es) (sym e)
    (free-later c d t (drop m (own s (is_a "template td th") c.stack)) (All-drop (λ (x : OpenElement). x.id < c.next) m (own s (is_a "template td th") c.stack) (below-kept (λ x. is_new s x && is_a "template td th" x) 0 c.next c.stack ids))
    (All-drop (IsFree c.formatting c.form) m (own s (is_a "template td th") c.stack) g))

pub on_thin : (w : Track) (s c d : ControlState) → On w s c → AreIds 0 c.next (ids_of c.stack) → Thins c d → Thin s c.stack d.stack → On (thinly w) s d
on_thin w s c d g ids t k = record {
  html = k.html g.html;
  balance = subst (λ ts. BalanceIs w.balance (length (own s (is_a "template") d.stack)) (length ts) (length s.templates)) (sym t.alike.templates)
      (subst (λ es. BalanceIs w.balance (length es) (length c.templates) (length s.templates)) (sym k.template) g.balance);
  free = thin_free s c d g.free ids t k.gone k.core;
  top = tt;
  there = tt;
  cell = λ h. absurd (true≢false (sym h));
  select = λ h. absurd (true≢false (sym h));
  bare = λ h. k.template ∙ g.bare h;
  still = λ h. k.frameset (g.still h);
  back = tt;
  place = subst (λ m. PlaceIs (loose w.place) s m d.stack) (sym t.alike.mode) (place-loose w.place s c.mode c.stack d.stack g.place);
}
