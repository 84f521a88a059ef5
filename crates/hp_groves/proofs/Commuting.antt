-- Outer edits, and an inner one that touches nothing that they touch: they lead to the same tree in either order.
use Rattle.std.proofs.Common.{◌≡◌, ℕ, ◌<◌, ◌≤◌, Bool, true, false, not, List, [], ◌∷◌, length, refl, sym, ap, ◌∙◌, inl, inr, arith, Option, subst}
use Rattle.std.proofs.lemmas.Bool.{cases_Bool, lt-ltb, not_from_true, not_from_false, true≢false, false≢true, false_from_ne_true}
use Rattle.std.proofs.lemmas.List.{ext_get_or}
use Rattle.hp_elements.specs.declared.tag.Tag.{Tag}
use Rattle.hp_control.specs.declared.edit.Edit.{Edit}
use Rattle.hp_control.specs.declared.edit.Edit.TheVariants.{NewElement, Put, Detach, MoveChildren, AddMissing}
use Rattle.hp_control.specs.declared.edit.Ref.{Ref}
use Rattle.hp_control.specs.declared.edit.Ref.TheVariants.{Fixed, Older, Own}
use Rattle.hp_control.specs.Tree.{Branch, Item, Tree, applied, applied_all, branch, id_of, is_there, no_branch}
use Rattle.hp_groves.specs.Split.{ids, is_among, made, moved, parents_named}
use Rattle.hp_groves.proofs.Avoiding.{MovesWithin, avoids-applied}
use Rattle.hp_groves.proofs.Branches.{tag, there-same}
use Rattle.hp_groves.proofs.Fitting.{FitsTag, among-first, fits-by}
use Rattle.hp_groves.proofs.Items.{stands}
use Rattle.hp_groves.proofs.Lengths.{length-applied}
use Rattle.hp_groves.proofs.Sides.{Avoids, Fits, SameLists, SameTags, lists-same, lists-stay, others}
use Rattle.hp_groves.proofs.Tags.{tags-same, tags-stay}

-- an outer edit makes no element, and gives attributes to those of M alone
abbrev pub OuterTag : (ℕ → Bool) → Edit → Type 0
OuterTag M (NewElement tag) = ⊥
OuterTag M (Put c place) = Unit {0}
OuterTag M (Detach node) = Unit {0}
OuterTag M (MoveChildren from to) = Unit {0}
OuterTag M (AddMissing node more) = M (id_of node) ≡ true

-- an inner edit gives attributes to others, and what it makes is another
abbrev pub InnerTag : (ℕ → Bool) → ℕ → Edit → Type 0
InnerTag M next (NewElement tag) = M next ≡ false
InnerTag M next (Put c place) = Unit {0}
InnerTag M next (Detach node) = Unit {0}
InnerTag M next (MoveChildren from to) = Unit {0}
InnerTag M next (AddMissing node more) = M (id_of node) ≡ false

-- An outer edit names what is there; whose children it touches is in K, and whose parent in P.
pub record IsLocal (K P M : ℕ → Bool) (len : ℕ) (o : Edit) : Type 0 where
  pub lists : (q : ℕ) → is_among (parents_named o) q ≡ true → K q ≡ true
  pub nodes : (c : ℕ) → is_among (moved o) c ≡ true → P c ≡ true
  pub below : (c : ℕ) → is_among (ids o) c ≡ true → c < len
  pub tags : OuterTag M o

abbrev pub AreLocal : (ℕ → Bool) → (ℕ → Bool) → (ℕ → Bool) → ℕ → List Edit → Type 0
AreLocal K P M len [] = Unit {0}
AreLocal K P M len (o ∷ os) = IsLocal K P M len o × AreLocal K P M len os

-- the elements of P stand in lists of K alone
pub record Apart (K P : ℕ → Bool) (t : Tree) : Type 0 where
  pub at : (c : ℕ) → P c ≡ true → Avoids (others K) t c

-- An inner edit touches nothing of K or P, and what it moves stands in no list of K.
pub record IsInner (K P M : ℕ → Bool) (t : Tree) (e : Edit) : Type 0 where
  pub lists : (q : ℕ) → is_among (parents_named e) q ≡ true → K q ≡ false
  pub nodes : (c : ℕ) → is_among (moved e) c ≡ true → P c ≡ false
  pub avoids : (c : ℕ) → is_among (moved e) c ≡ true → Avoids K t c
  pub tags : InnerTag M (length t) e

there-below : (t u : Tree) (r : Ref) → id_of r < length t → id_of r < length u → is_there t r ≡ is_there u r
there-below t u (Fixed id) h k = lt-ltb id (length t) h ∙ sym (lt-ltb id (length u) k)
there-below t u (Older depth) h k = refl
there-below t u (Own number) h k = refl

outer-tag : (M : ℕ → Bool) (t u : Tree) (o : Edit) → OuterTag M o → FitsTag M t u o
outer-tag M t u (NewElement tag) f = absurd f
outer-tag M t u (Put c place) f = tt
outer-tag M t u (Detach node) f = tt
outer-tag M t u (MoveChildren from to) f = tt
outer-tag M t u (AddMissing node more) f = f

inner-tag : (M : ℕ → Bool) (t u : Tree) (e : Edit) → length t ≡ length u → InnerTag M (length t) e → FitsTag (others M) t u e
inner-tag M t u (NewElement tag) e f = (e, not_from_false _ f)
inner-tag M t u (Put c place) e f = tt
inner-tag M t u (Detach node) e f = tt
inner-tag M t u (MoveChildren from to) e f = tt
inner-tag M t u (AddMissing node more) e f = not_from_false _ f

pub made-outer : (M : ℕ → Bool) (o : Edit) → OuterTag M o → made o ≡ 0
made-outer M (NewElement tag) f = absurd f
made-outer M (Put c place) f = refl
made-outer M (Detach node) f = refl
made-outer M (MoveChildren from to) f = refl
made-outer M (AddMissing node more) f = refl

pub within : (K : ℕ → Bool) (e : Edit) → ((q : ℕ) → is_among (parents_named e) q ≡ true → K q ≡ true) → MovesWithin K e
within K (NewElement tag) h = tt
within K (Put c place) h = tt
within K (Detach node) h = tt
within K (MoveChildren from to) h = λ _. h (id_of from) (among-first (id_of from) (id_of to ∷ []))
within K (AddMissing node more) h = tt

differ : (b : Bool) → b ≡ not b → ⊥
differ true e = true≢false e
differ false e = false≢true e

pub not-among : (P : ℕ → Bool) (b : Bool) (xs : List ℕ) (c : ℕ) → ((x : ℕ) → is_among xs x ≡ true → P x ≡ not b) → P c ≡ b → is_among xs c ≡ false
not-among P b xs c h k = false_from_ne_true (is_among xs c) (λ m. differ b (sym k ∙ h c m))

pub twice : (K : ℕ → Bool) (i : ℕ) → K i ≡ true → others (others K) i ≡ true
twice K i k = not_from_false (not (K i)) (not_from_true (K i) k)

pub once : (b : Bool) → not (not b) ≡ true → b ≡ true
once true h = refl
once false h = h

avoids-twice : (K : ℕ → Bool) (t : Tree) (c : ℕ) → Avoids K t c → Avoids (others (others K)) t c
avoids-twice K t c a = record { at = λ i k. a.at i (once (K i) k) }

-- Elements of P still stand in lists of K alone after an inner edit.
pub apart-inner : (K P M : ℕ → Bool) (t : Tree) (e : Edit) → IsInner K P M t e → Apart K P t → Apart K P (applied t e)
apart-inner K P M t e f a = record {
  at = λ c p. avoids-applied (others K) c t e (within (others K) e (λ q m. not_from_false (K q) (f.lists q m))) (not-among P true (moved e) c f.nodes p) (a.at c p);
}

-- an inner edit fits all others
pub fits-inner : (K P M : ℕ → Bool) (t u : Tree) (e : Edit) → length t ≡ length u → IsInner K P M t e → ((c : ℕ) → is_among (moved e) c ≡ true → Avoids K u c) → Fits (others K) (others M) t u e
fits-inner K P M t u e long f a =
    fits-by (others K) (others M) t u e (λ q m. not_from_false (K q) (f.lists q m)) (λ c m. (avoids-twice K t c (f.avoids c m), avoids-twice K u c (a c m)))
    (λ r _. there-same t u r long) (inner-tag M t u e long f.tags)

same-branch : (a b : Branch) → a.tag ≡ b.tag → a.inside ≡ b.inside → a ≡ b
same-branch a b e f = ap (λ (x : Option Tag). record { tag = x; inside = a.inside }) e ∙ ap (λ (xs : List Item). record { tag = b.tag; inside = xs }) f

-- two trees that have all in common
pub same-trees : (K M : ℕ → Bool) (t u : Tree) → length t ≡ length u → SameLists K t u → SameLists (others K) t u → SameTags M t u → SameTags (others M) t u → t ≡ u
same-trees K M t u long a b c d =
    ext_get_or no_branch t u long
    (λ i _. same-branch (branch t i) (branch u i)
    (elim (cases_Bool (M i)) [ inl m ↦ c.at i m | inr m ↦ d.at i (not_from_false (M i) m) ])
    (elim (cases_Bool (K i)) [ inl k ↦ a.at i k | inr k ↦ b.at i (not_from_false (K i) k) ]))

module _ (K P M : ℕ → Bool) (len : ℕ) where
  fits-outer : (t u : Tree) (o : Edit) → IsLocal K P M len o → len ≤ length t → len ≤ length u → Apart K P t → Apart K P u → Fits K M t u o
  fits-outer t u o l ht hu a b =
      fits-by K M t u o l.lists (λ c m. (a.at c (l.nodes c m), b.at c (l.nodes c m)))
      (λ r m. there-below t u r (omega (arith, l.below (id_of r) m)) (omega (arith, l.below (id_of r) m))) (outer-tag M t u o l.tags)

  length-outer : (t : Tree) (o : Edit) → IsLocal K P M len o → length (applied t o) ≡ length t
  length-outer t o l = omega (arith, length-applied t o, made-outer M o l.tags)

  apart-outer : (t : Tree) (o : Edit) → IsLocal K P M len o → len ≤ length t → Apart K P t → Apart K P (applied t o)
  apart-outer t o l h a = record {
    at = λ c p. record { at = λ i k. ap (stands c) ((lists-stay K M t t o (fits-outer t t o l h h a a)).at i k) ∙ (a.at c p).at i k };
  }

  pub length-outers : (t : Tree) (os : List Edit) → AreLocal K P M len os → length (applied_all t os) ≡ length t
  length-outers t [] l = refl
  length-outers t (o ∷ os) l = length-outers (applied t o) os l.1 ∙ length-outer t o l.0

  -- outer edits keep what two trees have in common in K and M,
  pub outers-same : (t u : Tree) (os : List Edit) → AreLocal K P M len os → len ≤ length t → len ≤ length u → Apart K P t → Apart K P u → SameLists K t u → SameTags M t u
      → SameLists K (applied_all t os) (applied_all u os) × SameTags M (applied_all t os) (applied_all u os)
  outers-same t u [] l ht hu a b s z = (s, z)
  outers-same t u (o ∷ os) l ht hu a b s z =
      let f = fits-outer t u o l.0 ht hu a b in
      outers-same (applied t o) (applied u o) os l.1 (omega (arith, length-outer t o l.0)) (omega (arith, length-outer u o l.0))
      (apart-outer t o l.0 ht a) (apart-outer u o l.0 hu b) (lists-same K M t u o f s) (tags-same K M t u o f z)

  -- and leave all others
  pub outers-stay : (t : Tree) (os : List Edit) → AreLocal K P M len os → len ≤ length t → Apart K P t
      → SameLists (others K) (applied_all t os) t × SameTags (others M) (applied_all t os) t
  outers-stay t [] l h a = (record { at = λ i k. refl }, record { at = λ i k. refl })
  outers-stay t (o ∷ os) l h a =
      let f = fits-outer t t o l.0 h h a a in
      let more = outers-stay (applied t o) os l.1 (omega (arith, length-outer t o l.0)) (apart-outer t o l.0 h a) in
      (record { at = λ i k. more.0.at i k ∙ (lists-stay K M t t o f).at i k }, record { at = λ i k. more.1.at i k ∙ (tags-stay K M t t o f).at i k })

  -- They put no other element into a list of K.
  pub outers-avoid : (t : Tree) (os : List Edit) → AreLocal K P M len os → (c : ℕ) → P c ≡ false → Avoids K t c → Avoids K (applied_all t os) c
  outers-avoid t [] l c p a = a
  outers-avoid t (o ∷ os) l c p a =
      outers-avoid (applied t o) os l.1 c p (avoids-applied K c t o (within K o l.0.lists) (not-among P false (moved o) c l.0.nodes p) a)

  -- the inner edit may go first
  pub commute : (t : Tree) (os : List Edit) (e : Edit) → AreLocal K P M len os → len ≤ length t → Apart K P t → IsInner K P M t e
      → applied (applied_all t os) e ≡ applied_all (applied t e) os
  commute t os e l h a f =
      let u = applied t e in
      let b = applied_all t os in
      let stay = outers-stay t os l h a in
      let long : length b ≡ length t = length-outers t os l in
      let avoids : (c : ℕ) → is_among (moved e) c ≡ true → Avoids K b c = λ c m. outers-avoid t os l c (f.nodes c m) (f.avoids c m) in
      let there : IsInner K P M b e = record { lists = f.lists; nodes = f.nodes; avoids = avoids; tags = subst (λ n. InnerTag M n e) (sym long) f.tags } in
      let fit : Fits (others K) (others M) b t e = fits-inner K P M b t e long there f.avoids in
      let fit' : Fits (others K) (others M) t t e = fits-inner K P M t t e refl f f.avoids in
      let apart : Apart K P u = apart-inner K P M t e f a in
      let before : SameLists K u t = record { at = λ i k. (lists-stay (others K) (others M) t t e fit').at i (twice K i k) } in
      let before' : SameTags M u t = record { at = λ i k. (tags-stay (others K) (others M) t t e fit').at i (twice M i k) } in
      let longer : len ≤ length u = omega (arith, length-applied t e) in
      let after = outers-same u t os l longer h apart a before before' in
      let after' = outers-stay u os l longer apart in
      let in-step : SameLists (others K) (applied b e) u = lists-same (others K) (others M) b t e fit stay.0 in
      let in-step' : SameTags (others M) (applied b e) u = tags-same (others K) (others M) b t e fit stay.1 in
      same-trees K M (applied b e) (applied_all u os)
      (omega (arith, length-applied b e, length-applied t e, length-outers u os l))
      (record { at = λ i k. (lists-stay (others K) (others M) b t e fit).at i (twice K i k) ∙ sym (after.0.at i k) })
      (record { at = λ i k. in-step.at i k ∙ sym (after'.0.at i k) })
      (record { at = λ i k. (tags-stay (others K) (others M) b t e fit).at i (twice M i k) ∙ sym (after.1.at i k) })
      (record { at = λ i k. in-step'.at i k ∙ sym (after'.1.at i k) })
