-- Inner edits go first, one by one.
use Rattle.std.proofs.Common.{◌≡◌, ℕ, zero, suc, ◌+◌, ◌-◌, drop, ◌≤◌, Bool, true, false, List, [], ◌∷◌, ◌++◌, length, replicate, refl, sym, ap, ◌∙◌, subst, inl, inr, arith}
use Rattle.std.specs.Prelude.{◌||◌, nat_lt, slice_get, Some}
use Rattle.std.specs.List.{list_any, list_all}
use Rattle.std.proofs.lemmas.Bool.{and_parts, cases_Bool, cases_lt, eq-eqb, cond-true, cond-false, eqb-true, false_from_ne_true, false≢true, true≢false, lt-ltb, ltb-true, ltb-false, not-true, not_from_false, or_cases, or_from, or_left, or_parts, or_right}
use Rattle.std.proofs.lemmas.List.{append-nil, append_assoc, length-drop, length-map, length-replicate}
use Rattle.hp_control.specs.declared.edit.Edit.{Edit}
use Rattle.hp_control.specs.declared.edit.Edit.TheVariants.{NewElement, Put, Detach, MoveChildren, AddMissing}
use Rattle.hp_control.specs.Tree.{Branch, Item, Element, Text, Comment, Doctype, Tree, applied, applied_all, branch, id_of, is_element, no_branch, stands_in}
use Rattle.hp_groves.specs.Grafts.{graft, renumbered}
use Rattle.hp_groves.specs.Laws.{CountsOn, GroveHasAll, HasOnlyWhatIsThere, OuterMakesNone, SplitMakesSame, StaysThere}
use Rattle.hp_groves.specs.Split.{Hand, Parts, after_inner, after_outer, empty_hand, grove_of, ids, is_among, is_outer, made, made_by, moved, name_what_is_there, outer_of, parents_touched, split, split_from}
use Rattle.hp_groves.proofs.Among.{among-all, among-none, moved-named, parents-named, touched-named, touched-parent}
use Rattle.hp_groves.proofs.Avoiding.{avoids-applied}
use Rattle.hp_groves.proofs.Commuting.{within, Apart, AreLocal, IsInner, IsLocal, OuterTag, apart-inner, commute, made-outer}
use Rattle.hp_groves.proofs.Grafting.{blank-inside, graft-back, grown-over, length-over, older, over, over-blank, over-older, over-own}
use Rattle.hp_groves.proofs.Groves.{IsGrove, blank-avoids, grove-after, inner-tag, no-grove}
use Rattle.hp_groves.proofs.Items.{stands}
use Rattle.hp_groves.proofs.Lengths.{length-applied}
use Rattle.hp_groves.proofs.Sides.{Avoids, others}

-- an edit is inner: what that says of each id
record IsTold (next : ℕ) (h : Hand) (e : Edit) : Type 0 where
  own : (c : ℕ) → is_among (ids e) c ≡ true → nat_lt c next ≡ false
  lists : (q : ℕ) → is_among (parents_touched h.grove e) q ≡ true → h.children q ≡ false
  nodes : (c : ℕ) → is_among (moved e) c ≡ true → h.parent c ≡ false

told-inner : (next : ℕ) (h : Hand) (e : Edit) → is_outer next h e ≡ false → IsTold next h e
told-inner next h e f =
    let one = or_parts (list_any (λ id. nat_lt id next) (ids e) || list_any h.children (parents_touched h.grove e)) (list_any h.parent (moved e)) f in
    let two = or_parts (list_any (λ id. nat_lt id next) (ids e)) (list_any h.children (parents_touched h.grove e)) one.0 in
    record {
      own = among-none (λ id. nat_lt id next) (ids e) two.0;
      lists = among-none h.children (parents_touched h.grove e) two.1;
      nodes = among-none h.parent (moved e) one.1;
    }

first-of : (b : Bool) → ((b || false) || false || false) ≡ true → b ≡ true
first-of true h = refl
first-of false h = h

outer-tag : (next : ℕ) (h : Hand) (e : Edit) → is_outer next h e ≡ true → OuterTag (older next) e
outer-tag next h (NewElement tag) o = absurd (false≢true o)
outer-tag next h (Put c place) o = tt
outer-tag next h (Detach node) o = tt
outer-tag next h (MoveChildren from to) o = tt
outer-tag next h (AddMissing node more) o = first-of (nat_lt (id_of node) next) o

-- whose children, and whose parent, outer edits touch: older elements are among them
abbrev children_of : ℕ → Hand → ℕ → Bool
children_of next h id = older next id || h.children id

abbrev parent_of : ℕ → Hand → ℕ → Bool
parent_of next h id = older next id || h.parent id

local-more : (K P K' P' M : ℕ → Bool) (len len' : ℕ) → ((q : ℕ) → K q ≡ true → K' q ≡ true) → ((c : ℕ) → P c ≡ true → P' c ≡ true) → len ≤ len' → (os : List Edit) → AreLocal K P M len os → AreLocal K' P' M len' os
local-more K P K' P' M len len' f g h [] l = tt
local-more K P K' P' M len len' f g h (o ∷ os) l = (
  record {
    lists = λ q m. f q (l.0.lists q m);
    nodes = λ c m. g c (l.0.nodes c m);
    below = λ c m. omega (arith, l.0.below c m);
    tags = l.0.tags;
  },
  local-more K P K' P' M len len' f g h os l.1,
)

local-last : (K P M : ℕ → Bool) (len : ℕ) (os : List Edit) (o : Edit) → AreLocal K P M len os → IsLocal K P M len o → AreLocal K P M len (os ++ o ∷ [])
local-last K P M len [] o l k = (k, tt)
local-last K P M len (x ∷ xs) o l k = (l.0, local-last K P M len xs o l.1 k)

applied-last : (t : Tree) (os : List Edit) (o : Edit) → applied_all t (os ++ o ∷ []) ≡ applied (applied_all t os) o
applied-last t [] o = refl
applied-last t (x ∷ xs) o = applied-last (applied t x) xs o

-- what holds on the way: of the tree before all edits, of what is at hand, and of the outer edits so far
record Holds (t : Tree) (h : Hand) (os : List Edit) : Type 0 where
  grove : IsGrove (length t) h.grove
  apart : Apart (children_of (length t) h) (parent_of (length t) h) (over t h.grove)
  local : AreLocal (children_of (length t) h) (parent_of (length t) h) (older (length t)) (length h.grove) os

module _ (t : Tree) (there : (c : ℕ) → older (length t) c ≡ false → Avoids (λ _. true) t c) where
  abbrev n : ℕ
  n = length t

  stands-older : (g : Tree) (c i : ℕ) → older n i ≡ true → stands_in (over t g) i c ≡ stands_in t i c
  stands-older g c i h = ap (λ (b : Branch). stands c b.inside) (over-older t g i h)

  stands-own : (g : Tree) (c i : ℕ) → older n i ≡ false → stands_in (over t g) i c ≡ stands_in g i c
  stands-own g c i h = ap (λ (b : Branch). stands c b.inside) (over-own t g i h)

  module _ (h : Hand) (os : List Edit) (e : Edit) (x : Holds t h os) where
    -- An inner edit is one by the lemmas on trees.
    by-told : IsTold n h e → IsInner (children_of n h) (parent_of n h) (older n) (over t h.grove) e
    by-told f = record {
      lists = λ q m. or_from _ _ (f.own q (parents-named e q m)) (f.lists q (touched-named h.grove e q m));
      nodes = λ c m. or_from _ _ (f.own c (moved-named e c m)) (f.nodes c m);
      avoids = λ c m. record {
        at = λ i k.
            elim (cases_Bool (older n i)) [
              | inl o ↦ stands-older h.grove c i o ∙ (there c (f.own c (moved-named e c m))).at i refl
              | inr o ↦
                  stands-own h.grove c i o
                  ∙ false_from_ne_true (stands_in h.grove i c) (λ s.
                  elim (or_cases (older n i) (h.children i) k) [
                    | inl o' ↦ true≢false (sym o' ∙ o)
                    | inr o' ↦ true≢false (sym o' ∙ f.lists i (touched-parent h.grove e c i m s))
                  ])
            ];
      };
      tags = inner-tag n (length (over t h.grove)) e (omega (arith, length-over t h.grove x.grove.long, x.grove.long)) f.own;
    }

    -- It acts on own elements alone.
    by-own : IsTold n h e → IsInner (older n) (older n) (older n) (over t h.grove) e
    by-own f = record {
      lists = λ q m. f.own q (parents-named e q m);
      nodes = λ c m. f.own c (moved-named e c m);
      avoids = λ c m. record { at = λ i o. stands-older h.grove c i o ∙ (there c (f.own c (moved-named e c m))).at i refl };
      tags = inner-tag n (length (over t h.grove)) e (omega (arith, length-over t h.grove x.grove.long, x.grove.long)) f.own;
    }

    grown : IsTold n h e → applied (over t h.grove) e ≡ over t (applied h.grove e)
    grown f = grown-over t h.grove e x.grove.long (by-own f) (λ c _. blank-avoids n h.grove e x.grove c)

    inner-first : IsTold n h e → applied (applied_all (over t h.grove) os) e ≡ applied_all (over t (applied h.grove e)) os
    inner-first f =
        commute (children_of n h) (parent_of n h) (older n) (length h.grove) (over t h.grove) os e x.local (omega (arith, length-over t h.grove x.grove.long)) x.apart (by-told f)
        ∙ ap (λ u. applied_all u os) (grown f)

    holds-inner : IsTold n h e → Holds t (after_inner h e) os
    holds-inner f = record {
      grove = grove-after n h.grove e x.grove f.own;
      apart = subst (Apart (children_of n h) (parent_of n h)) (grown f) (apart-inner (children_of n h) (parent_of n h) (older n) (over t h.grove) e (by-told f) x.apart);
      local = local-more (children_of n h) (parent_of n h) (children_of n h) (parent_of n h) (older n) (length h.grove) (length (applied h.grove e)) (λ _ k. k) (λ _ k. k) (omega (arith, length-applied h.grove e)) os x.local;
    }

    -- An outer edit touches more.
    children-more : (q : ℕ) → children_of n h q ≡ true → children_of n (after_outer h e) q ≡ true
    children-more q k =
        elim (or_cases (older n q) (h.children q) k) [
          | inl o ↦ or_left (older n q) _ o
          | inr o ↦ or_right (older n q) _ (or_left (h.children q) (is_among (parents_touched h.grove e) q) o)
        ]

    parent-more : (c : ℕ) → parent_of n h c ≡ true → parent_of n (after_outer h e) c ≡ true
    parent-more c k =
        elim (or_cases (older n c) (h.parent c) k) [
          | inl o ↦ or_left (older n c) _ o
          | inr o ↦ or_right (older n c) _ (or_left (h.parent c) (is_among (moved e) c) o)
        ]

    new-apart : (c : ℕ) → is_among (moved e) c ≡ true → Avoids (others (children_of n (after_outer h e))) (over t h.grove) c
    new-apart c m = record {
      at = λ i k.
          let one = or_parts (older n i) (h.children i || is_among (parents_touched h.grove e) i) (not-true _ k) in
          let two = or_parts (h.children i) (is_among (parents_touched h.grove e) i) one.1 in
          stands-own h.grove c i one.0 ∙ false_from_ne_true (stands_in h.grove i c) (λ s. true≢false (sym (touched-parent h.grove e c i m s) ∙ two.1));
    }

    old-apart : (c : ℕ) → parent_of n h c ≡ true → Avoids (others (children_of n (after_outer h e))) (over t h.grove) c
    old-apart c p = record {
      at = λ i k. (x.apart.at c p).at i (not_from_false (children_of n h i) (false_from_ne_true (children_of n h i) (λ y. true≢false (sym (children-more i y) ∙ not-true _ k))));
    }

    holds-outer : is_outer n h e ≡ true → list_all (λ id. nat_lt id (length h.grove)) (ids e) ≡ true → Holds t (after_outer h e) (os ++ e ∷ [])
    holds-outer o names = record {
      grove = x.grove;
      apart = record {
        at = λ c p.
            elim (or_cases (older n c) (h.parent c || is_among (moved e) c) p) [
              | inl k ↦ old-apart c (or_left (older n c) (h.parent c) k)
              | inr k ↦
                  elim (or_cases (h.parent c) (is_among (moved e) c) k) [
                    | inl y ↦ old-apart c (or_right (older n c) (h.parent c) y)
                    | inr y ↦ new-apart c y
                  ]
            ];
      };
      local =
          local-last (children_of n (after_outer h e)) (parent_of n (after_outer h e)) (older n) (length h.grove) os e
          (local-more (children_of n h) (parent_of n h) (children_of n (after_outer h e)) (parent_of n (after_outer h e)) (older n) (length h.grove) (length h.grove) children-more parent-more (omega arith) os x.local)
          (record {
            lists = λ q m. or_right (older n q) _ (or_right (h.children q) (is_among (parents_touched h.grove e) q) (touched-named h.grove e q m));
            nodes = λ c m. or_right (older n c) _ (or_right (h.parent c) (is_among (moved e) c) m);
            below = λ c m. ltb-true c (length h.grove) (among-all (λ id. nat_lt id (length h.grove)) (ids e) names c m);
            tags = outer-tag n h e o;
          });
    }

  -- what the rest of the edits comes to: outer edits so far, the tree where all edits so far were made in order, and the parts of the rest
  record Comes (os es : List Edit) (now : Tree) (p : Parts) : Type 0 where
    same : applied_all now es ≡ applied_all (over t p.grove) (os ++ p.outer)
    own : (c : ℕ) → older n c ≡ true → Avoids (λ _. true) p.grove c

  comes : (es : List Edit) (h : Hand) (os : List Edit) → Holds t h os → name_what_is_there (length h.grove) es ≡ true → Comes os es (applied_all (over t h.grove) os) (split_from n h es)
  comes [] h os x names = record { same = ap (applied_all (over t h.grove)) (sym (append-nil os)); own = x.grove.own }
  comes (e ∷ es) h os x names =
      let parts = and_parts (list_all (λ id. nat_lt id (length h.grove)) (ids e)) (name_what_is_there (length h.grove + made e) es) names in
      let now : Tree = applied_all (over t h.grove) os in
      elim (cases_Bool (is_outer n h e)) [
        | inl o ↦
            let none : length h.grove + made e ≡ length h.grove = omega (arith, made-outer (older n) e (outer-tag n h e o)) in
            let rest = comes es (after_outer h e) (os ++ e ∷ []) (holds-outer h os e x o parts.0) (subst (λ k. name_what_is_there k es ≡ true) none parts.1) in
            let p : Parts = split_from n (after_outer h e) es in
            subst (Comes os (e ∷ es) now) (sym (cond-true (is_outer n h e) _ _ o))
            (record {
              same = ap (λ u. applied_all u es) (sym (applied-last (over t h.grove) os e)) ∙ rest.same ∙ ap (applied_all (over t p.grove)) (append_assoc os (e ∷ []) p.outer);
              own = rest.own;
            })
        | inr o ↦
            let f : IsTold n h e = told-inner n h e o in
            let rest = comes es (after_inner h e) os (holds-inner h os e x f) (subst (λ k. name_what_is_there k es ≡ true) (sym (length-applied h.grove e)) parts.1) in
            subst (Comes os (e ∷ es) now) (sym (cond-false (is_outer n h e) _ _ o))
            (record { same = ap (λ u. applied_all u es) (inner-first h os e x f) ∙ rest.same; own = rest.own })
      ]

  holds-first : Holds t (empty_hand n) []
  holds-first = record {
    grove = no-grove n;
    apart = record {
      at = λ c _. record {
        at = λ i k. stands-own (replicate n no_branch) c i (or_parts (older n i) false (not-true _ k)).0 ∙ ap (stands c) (blank-inside n i);
      };
    };
    local = tt;
  }

  pub split-same : (es : List Edit) → name_what_is_there n es ≡ true → applied_all t es ≡ applied_all (graft t (grove_of n es)) (outer_of n es)
  split-same es names =
      let long : length (replicate n no_branch) ≡ n = length-replicate n no_branch in
      let all = comes es (empty_hand n) [] holds-first (subst (λ k. name_what_is_there k es ≡ true) (sym long) names) in
      ap (λ u. applied_all u es) (sym (over-blank t)) ∙ all.same
      ∙ ap (λ u. applied_all u (outer_of n es))
      (sym (graft-back t (split n es).grove (λ c below i. (all.own c (lt-ltb c n below)).at i refl)))

the-element : (id : ℕ) (x : Item) → is_element id x ≡ true → x ≡ Element id
the-element id (Element other) h = ap Element (eqb-true other id h)
the-element id (Text text) h = absurd (false≢true h)
the-element id (Comment text) h = absurd (false≢true h)
the-element id (Doctype name public system) h = absurd (false≢true h)

-- an element among items stands at a place
place-of : (id : ℕ) (xs : List Item) → stands id xs ≡ true → (k : ℕ) × (slice_get xs k ≡ Some (Element id))
place-of id [] h = absurd (false≢true h)
place-of id (x ∷ xs) h =
    elim (or_cases (is_element id x) (stands id xs) h) [
      | inl here ↦ (0, ap Some (the-element id x here))
      | inr later ↦ let more = place-of id xs later in (suc more.0, more.1)
    ]

-- in such a tree an element that isn't there stands nowhere, and the other way round
nowhere : (t : Tree) → HasOnlyWhatIsThere t → (c : ℕ) → length t ≤ c → Avoids (λ _. true) t c
nowhere t only c h = record {
  at = λ i _. false_from_ne_true (stands_in t i c) (λ s.
      let at = place-of c (branch t i).inside s in
      absurd (omega (arith, only i at.0 c at.1, h)));
}

the-same : (x y : Item) → Some x ≡ Some y → x ≡ y
the-same x y h = cc

stands-at : (id k : ℕ) (xs : List Item) → slice_get xs k ≡ Some (Element id) → stands id xs ≡ true
stands-at id k [] h = absurd cc
stands-at id zero (x ∷ xs) h = or_left (is_element id x) (stands id xs) (ap (is_element id) (the-same x (Element id) h) ∙ eq-eqb id id refl)
stands-at id (suc k) (x ∷ xs) h = or_right (is_element id x) (stands id xs) (stands-at id k xs h)

all-there : (t : Tree) → ((c : ℕ) → length t ≤ c → Avoids (λ _. true) t c) → HasOnlyWhatIsThere t
all-there t a parent place id h =
    elim (cases_lt id (length t)) [
      | inl below ↦ below
      | inr above ↦ absurd (true≢false (sym (stands-at id place (branch t parent).inside h) ∙ (a id above).at parent refl))
    ]

stays : (es : List Edit) (t : Tree) → ((c : ℕ) → length t ≤ c → Avoids (λ _. true) t c) → name_what_is_there (length t) es ≡ true → (c : ℕ) → length (applied_all t es) ≤ c → Avoids (λ _. true) (applied_all t es) c
stays [] t a names = a
stays (e ∷ es) t a names =
    let parts = and_parts (list_all (λ id. nat_lt id (length t)) (ids e)) (name_what_is_there (length t + made e) es) names in
    let not-moved : (c : ℕ) → length t ≤ c → is_among (moved e) c ≡ false = λ c h. false_from_ne_true (is_among (moved e) c) (λ m.
    absurd (omega (arith, h, ltb-true c (length t) (among-all (λ id. nat_lt id (length t)) (ids e) parts.0 c (moved-named e c m))))) in
    stays es (applied t e)
    (λ c h.
    let within-old : length t ≤ c = omega (arith, length-applied t e, h) in
    avoids-applied (λ _. true) c t e (within (λ _. true) e (λ _ _. refl)) (not-moved c within-old) (a c within-old))
    (subst (λ k. name_what_is_there k es ≡ true) (sym (length-applied t e)) parts.1)

pub stays-there : StaysThere
stays-there t es only names = all-there (applied_all t es) (stays es t (nowhere t only) names)

pub counts-on : CountsOn
counts-on t [] = omega arith
counts-on t (e ∷ es) = omega (arith, counts-on (applied t e) es, length-applied t e)

pub split-makes_same : SplitMakesSame
split-makes_same t es only names = split-same t (λ c h. nowhere t only c (ltb-false c (length t) h)) es names

-- an outer edit makes no element
outer-makes : (next : ℕ) (h : Hand) (e : Edit) → is_outer next h e ≡ true → made e ≡ 0
outer-makes next h e o = made-outer (older next) e (outer-tag next h e o)

-- how many elements are there in the end, and how many outer edits make
record Counts (h : Hand) (es : List Edit) (p : Parts) : Type 0 where
  all : length p.grove ≡ length h.grove + made_by es
  none : made_by p.outer ≡ 0

counts : (next : ℕ) (es : List Edit) (h : Hand) → Counts h es (split_from next h es)
counts next [] h = record { all = omega arith; none = refl }
counts next (e ∷ es) h =
    elim (cases_Bool (is_outer next h e)) [
      | inl o ↦
          let none = outer-makes next h e o in
          let rest = counts next es (after_outer h e) in
          subst (Counts h (e ∷ es)) (sym (cond-true (is_outer next h e) _ _ o)) (record { all = omega (arith, rest.all, none); none = omega (arith, rest.none, none) })
      | inr o ↦
          let rest = counts next es (after_inner h e) in
          subst (Counts h (e ∷ es)) (sym (cond-false (is_outer next h e) _ _ o)) (record { all = omega (arith, rest.all, length-applied h.grove e); none = rest.none })
    ]

pub grove-has_all : GroveHasAll
grove-has_all next es =
    let g = (split next es).grove in
    omega (arith, length-map (drop next g) (renumbered (λ id. id - next)), length-drop next g, (counts next es (empty_hand next)).all, length-replicate next no_branch)

pub outer-makes_none : OuterMakesNone
outer-makes_none next es = (counts next es (empty_hand next)).none
