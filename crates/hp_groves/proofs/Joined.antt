-- Edits that differ in how texts are joined.
use Rattle.std.proofs.Common.{◌≡◌, ℕ, zero, suc, ◌+◌, ◌-◌, arith, Bool, true, false, List, [], ◌∷◌, ◌++◌, length, drop, map, refl, sym, ap, ◌∙◌, subst, inl, inr}
use Rattle.std.specs.Prelude.{◌||◌, ◌&&◌, if◌then◌else◌, nat_lt}
use Rattle.std.specs.List.{flat_map, list_all, list_any}
use Rattle.std.proofs.lemmas.Bool.{cases_Bool, cond-true, cond-false, or_left, or_right}
use Rattle.hp_control.specs.declared.edit.Child.TheVariants as child
use Rattle.hp_control.specs.declared.edit.Edit.{Edit}
use Rattle.hp_control.specs.declared.edit.Edit.TheVariants.{Put}
use Rattle.hp_control.specs.declared.edit.Place.{Place}
use Rattle.hp_control.specs.Tree.{Tree, applied, applied_all, is_element, stands_in}
use Rattle.hp_groves.specs.Joining.{JoinTexts, Same, Join, Behind, Back, Through}
use Rattle.hp_groves.specs.Laws.{JoinedCountSame, JoinedGrovesSame, JoinedMakeSame, JoinedNameSame, JoinedOutersJoin, JoinedOwnGroveSame, JoinedOwnOuterJoin, NamedJoin, OneByOneJoin}
use Rattle.hp_groves.specs.Naming.{edit_by, outer_before, own_at, place_by}
use Rattle.hp_control.specs.declared.edit.Ref.{Ref}
use Rattle.hp_control.specs.Apply.{named_edit, named_place}
use Rattle.hp_groves.specs.Grafts.{renumbered}
use Rattle.hp_groves.specs.Split.{Hand, Parts, after_inner, after_outer, empty_hand, ids, is_among, is_outer, made, moved, name_what_is_there, outer_first, parent_id, parents_from, parents_named, parents_touched, split_from}
use Rattle.hp_groves.proofs.Fitting.{among-first}
use Rattle.hp_groves.proofs.Lengths.{length-applied}
use Rattle.hp_groves.proofs.Texts.{text-stands, texts-joined}

pub joined-make_same : JoinedMakeSame
joined-make_same _ _ (Same es) t = refl
joined-make_same _ _ (Join place a b es) t = ap (λ u. applied_all u es) (texts-joined t place a b)
joined-make_same _ _ (Behind e es fs j) t = joined-make_same es fs j (applied t e)
joined-make_same _ _ (Back es fs j) t = sym (joined-make_same es fs j t)
joined-make_same _ _ (Through es fs gs j k) t = joined-make_same es fs j t ∙ joined-make_same fs gs k t

parents-same : (first id : ℕ) (t u : Tree) → length t ≡ length u → ((i : ℕ) → stands_in t i id ≡ stands_in u i id) → parents_from first t id ≡ parents_from first u id
parents-same first id [] [] e s = refl
parents-same first id [] (b ∷ bs) e s = absurd (omega (arith, e))
parents-same first id (b ∷ bs) [] e s = absurd (omega (arith, e))
parents-same first id (a ∷ as') (b ∷ bs) e s =
    ap (λ x. (if x then first ∷ [] else []) ++ parents_from (first + 1) as' id) (s zero)
    ∙ ap (λ xs. (if list_any (is_element id) b.inside then first ∷ [] else []) ++ xs) (parents-same (first + 1) id as' bs (omega (arith, e)) (λ i. s (suc i)))

again : (a b : Bool) → ((a || b) || b) ≡ (a || b)
again true b = refl
again false true = refl
again false false = refl

-- a second text behind an outer one touches nothing more
touched-again : (h : Hand) (e : Edit) → after_outer (after_outer h e) e ≡ after_outer h e
touched-again h e =
    ap (λ (f : ℕ → Bool). record { grove = h.grove; children = f; parent = λ id. (h.parent id || is_among (moved e) id) || is_among (moved e) id })
    (λ i. λ id. again (h.children id) (is_among (parents_touched h.grove e) id) i)
    ∙ ap (λ (f : ℕ → Bool). record { grove = h.grove; children = λ id. h.children id || is_among (parents_touched h.grove e) id; parent = f })
    (λ i. λ id. again (h.parent id) (is_among (moved e) id) i)

module _ (next : ℕ) (place : Place) (a b : List ℕ) where
  abbrev one : Edit
  one = Put (child.Text a) place

  abbrev two : Edit
  two = Put (child.Text b) place

  abbrev whole : Edit
  whole = Put (child.Text (a ++ b)) place

  -- behind an outer text a second one is outer: its place is touched
  outer-again : (h : Hand) → is_outer next (after_outer h one) two ≡ true
  outer-again h =
      let p = parent_id place in
      let touched = parents_touched h.grove one in
      let here : (h.children p || is_among touched p) ≡ true = or_right (h.children p) (is_among touched p) (among-first p _) in
      or_left _ _ (or_right (list_any (λ id. nat_lt id next) (ids two)) _ (or_left (h.children p || is_among touched p) _ here))

  -- behind an inner text it is inner: all stands where it stood
  inner-again : (h : Hand) → is_outer next (after_inner h one) two ≡ is_outer next h two
  inner-again h =
      let same : (id : ℕ) → parents_from 0 (applied h.grove one) id ≡ parents_from 0 h.grove id =
      λ id. parents-same 0 id (applied h.grove one) h.grove (omega (arith, length-applied h.grove one)) (λ i. text-stands a h.grove place i id) in
      ap (λ (f : ℕ → List ℕ). (list_any (λ id. nat_lt id next) (ids two) || list_any h.children (parents_named two ++ flat_map f (moved two))) || list_any h.parent (moved two))
      (λ i. λ id. same id i)

  inner-joined : (h : Hand) → after_inner (after_inner h one) two ≡ after_inner h whole
  inner-joined h = ap (λ g. record { grove = g; children = h.children; parent = h.parent }) (texts-joined h.grove place a b)

-- the same grove, and outer edits that differ in how texts are joined
record Alike (p q : Parts) : Type 0 where
  grove : p.grove ≡ q.grove
  outer : JoinTexts p.outer q.outer

alike-by : (p q p' q' : Parts) → p ≡ p' → q ≡ q' → Alike p' q' → Alike p q
alike-by p q p' q' e f x = subst (λ r. Alike r q) (sym e) (subst (Alike p') (sym f) x)

itself : (p : Parts) → Alike p p
itself p = record { grove = refl; outer = Same p.outer }

split-join : (next : ℕ) (place : Place) (a b : List ℕ) (es : List Edit) (h : Hand)
    → Alike (split_from next h (Put (child.Text a) place ∷ Put (child.Text b) place ∷ es)) (split_from next h (Put (child.Text (a ++ b)) place ∷ es))
split-join next place a b es h =
    let e = one next place a b in
    let f = two next place a b in
    let w = whole next place a b in
    elim (cases_Bool (is_outer next h e)) [
      | inl o ↦
          let rest : Parts = split_from next (after_outer h w) es in
          alike-by _ _ (outer_first e (outer_first f rest)) (outer_first w rest)
          (cond-true (is_outer next h e) _ _ o ∙ ap (outer_first e) (cond-true (is_outer next (after_outer h e) f) _ _ (outer-again next place a b h) ∙ ap (λ k. outer_first f (split_from next k es)) (touched-again h e)))
          (cond-true (is_outer next h w) _ _ o)
          (record { grove = refl; outer = Join place a b rest.outer })
      | inr o ↦
          alike-by _ _ (split_from next (after_inner h w) es) (split_from next (after_inner h w) es)
          (cond-false (is_outer next h e) _ _ o ∙ cond-false (is_outer next (after_inner h e) f) _ _ (inner-again next place a b h ∙ o) ∙ ap (λ k. split_from next k es) (inner-joined next place a b h))
          (cond-false (is_outer next h w) _ _ o)
          (itself (split_from next (after_inner h w) es))
    ]

split-alike : (next : ℕ) (es fs : List Edit) → JoinTexts es fs → (h : Hand) → Alike (split_from next h es) (split_from next h fs)
split-alike next _ _ (Same es) h = itself (split_from next h es)
split-alike next _ _ (Join place a b es) h = split-join next place a b es h
split-alike next _ _ (Behind e es fs j) h =
    elim (cases_Bool (is_outer next h e)) [
      | inl o ↦
          let rest = split-alike next es fs j (after_outer h e) in
          alike-by _ _ (outer_first e (split_from next (after_outer h e) es)) (outer_first e (split_from next (after_outer h e) fs))
          (cond-true (is_outer next h e) _ _ o) (cond-true (is_outer next h e) _ _ o) (record { grove = rest.grove; outer = Behind e _ _ rest.outer })
      | inr o ↦
          alike-by _ _ (split_from next (after_inner h e) es) (split_from next (after_inner h e) fs)
          (cond-false (is_outer next h e) _ _ o) (cond-false (is_outer next h e) _ _ o) (split-alike next es fs j (after_inner h e))
    ]
split-alike next _ _ (Back es fs j) h = let x = split-alike next es fs j h in record { grove = sym x.grove; outer = Back _ _ x.outer }
split-alike next _ _ (Through es fs gs j k) h =
    let x = split-alike next es fs j h in
    let y = split-alike next fs gs k h in
    record { grove = x.grove ∙ y.grove; outer = Through _ _ _ x.outer y.outer }

pub joined-groves_same : JoinedGrovesSame
joined-groves_same next es fs j = ap (λ g. map (renumbered (λ id. id - next)) (drop next g)) (split-alike next es fs j (empty_hand next)).grove

pub joined-outers_join : JoinedOutersJoin
joined-outers_join next es fs j = (split-alike next es fs j (empty_hand next)).outer

pub named-join : NamedJoin
named-join s _ _ (Same es) = Same (map (named_edit s) es)
named-join s _ _ (Join place a b es) = Join (named_place s place) a b (map (named_edit s) es)
named-join s _ _ (Behind e es fs j) = Behind (named_edit s e) _ _ (named-join s es fs j)
named-join s _ _ (Back es fs j) = Back _ _ (named-join s es fs j)
named-join s _ _ (Through es fs gs j k) = Through _ _ _ (named-join s es fs j) (named-join s fs gs k)

before-join : (es gs hs : List Edit) → JoinTexts gs hs → JoinTexts (es ++ gs) (es ++ hs)
before-join [] gs hs j = j
before-join (e ∷ es) gs hs j = Behind e _ _ (before-join es gs hs j)

join-before : (es fs gs : List Edit) → JoinTexts es fs → JoinTexts (es ++ gs) (fs ++ gs)
join-before _ _ gs (Same es) = Same (es ++ gs)
join-before _ _ gs (Join place a b es) = Join place a b (es ++ gs)
join-before _ _ gs (Behind e es fs j) = Behind e _ _ (join-before es fs gs j)
join-before _ _ gs (Back es fs j) = Back _ _ (join-before es fs gs j)
join-before _ _ gs (Through es fs hs j k) = Through _ _ _ (join-before es fs gs j) (join-before fs hs gs k)

pub one_by_one-join : OneByOneJoin
one_by_one-join es fs gs hs j k = Through _ _ _ (join-before es fs gs j) (before-join fs gs hs k)

-- the same of edits before they are named
join-by : (p q p' q' : List Edit) → p ≡ p' → q ≡ q' → JoinTexts p' q' → JoinTexts p q
join-by p q p' q' e f x = subst (λ r. JoinTexts r q) (sym e) (subst (JoinTexts p') (sym f) x)

module _ (name : Ref → Ref) (next : ℕ) where
  before-texts : (place : Place) (a b : List ℕ) (es : List Edit) (h : Hand)
      → JoinTexts (outer_before name next h (Put (child.Text a) place ∷ Put (child.Text b) place ∷ es)) (outer_before name next h (Put (child.Text (a ++ b)) place ∷ es))
  before-texts place a b es h =
      let there = place_by name place in
      let e = one next there a b in
      let f = two next there a b in
      let w = whole next there a b in
      let e' = one next place a b in
      let f' = two next place a b in
      let w' = whole next place a b in
      elim (cases_Bool (is_outer next h e)) [
        | inl o ↦
            let rest : List Edit = outer_before name next (after_outer h w) es in
            join-by _ _ (e' ∷ f' ∷ rest) (w' ∷ rest)
            (cond-true (is_outer next h e) _ _ o ∙ ap (λ xs. e' ∷ xs) (cond-true (is_outer next (after_outer h e) f) _ _ (outer-again next there a b h) ∙ ap (λ k. f' ∷ outer_before name next k es) (touched-again h e)))
            (cond-true (is_outer next h w) _ _ o)
            (Join place a b rest)
        | inr o ↦
            join-by _ _ (outer_before name next (after_inner h w) es) (outer_before name next (after_inner h w) es)
            (cond-false (is_outer next h e) _ _ o ∙ cond-false (is_outer next (after_inner h e) f) _ _ (inner-again next there a b h ∙ o) ∙ ap (λ k. outer_before name next k es) (inner-joined next there a b h))
            (cond-false (is_outer next h w) _ _ o)
            (Same (outer_before name next (after_inner h w) es))
      ]

  before-alike : (es fs : List Edit) → JoinTexts es fs → (h : Hand) → JoinTexts (outer_before name next h es) (outer_before name next h fs)
  before-alike _ _ (Same es) h = Same (outer_before name next h es)
  before-alike _ _ (Join place a b es) h = before-texts place a b es h
  before-alike _ _ (Behind e es fs j) h =
      let a = edit_by name e in
      elim (cases_Bool (is_outer next h a)) [
        | inl o ↦
            join-by _ _ (e ∷ outer_before name next (after_outer h a) es) (e ∷ outer_before name next (after_outer h a) fs)
            (cond-true (is_outer next h a) _ _ o) (cond-true (is_outer next h a) _ _ o) (Behind e _ _ (before-alike es fs j (after_outer h a)))
        | inr o ↦
            join-by _ _ (outer_before name next (after_inner h a) es) (outer_before name next (after_inner h a) fs)
            (cond-false (is_outer next h a) _ _ o) (cond-false (is_outer next h a) _ _ o) (before-alike es fs j (after_inner h a))
      ]
  before-alike _ _ (Back es fs j) h = Back _ _ (before-alike es fs j h)
  before-alike _ _ (Through es fs gs j k) h = Through _ _ _ (before-alike es fs j h) (before-alike fs gs k h)

by-join : (name : Ref → Ref) (es fs : List Edit) → JoinTexts es fs → JoinTexts (map (edit_by name) es) (map (edit_by name) fs)
by-join name _ _ (Same es) = Same (map (edit_by name) es)
by-join name _ _ (Join place a b es) = Join (place_by name place) a b (map (edit_by name) es)
by-join name _ _ (Behind e es fs j) = Behind (edit_by name e) _ _ (by-join name es fs j)
by-join name _ _ (Back es fs j) = Back _ _ (by-join name es fs j)
by-join name _ _ (Through es fs gs j k) = Through _ _ _ (by-join name es fs j) (by-join name fs gs k)

pub joined-own_grove_same : JoinedOwnGroveSame
joined-own_grove_same es fs j = joined-groves_same 1 _ _ (by-join (own_at 1) es fs j)

pub joined-own_outer_join : JoinedOwnOuterJoin
joined-own_outer_join es fs j = before-alike (own_at 1) 1 es fs j (empty_hand 1)

and-again : (a b : Bool) → (a && (a && b)) ≡ (a && b)
and-again true b = refl
and-again false b = refl

names-join : (place : Place) (a b : List ℕ) (es : List Edit) (next : ℕ)
    → name_what_is_there next (Put (child.Text a) place ∷ Put (child.Text b) place ∷ es) ≡ name_what_is_there next (Put (child.Text (a ++ b)) place ∷ es)
names-join place a b es next =
    let same : next + 0 ≡ next = omega arith in
    let fits = list_all (λ id. nat_lt id next) (ids (Put (child.Text a) place)) in
    ap (λ k. fits && (list_all (λ id. nat_lt id k) (ids (Put (child.Text b) place)) && name_what_is_there (k + 0) es)) same
    ∙ and-again fits (name_what_is_there (next + 0) es)

pub joined-name_same : JoinedNameSame
joined-name_same next _ _ (Same es) = refl
joined-name_same next _ _ (Join place a b es) = names-join place a b es next
joined-name_same next _ _ (Behind e es fs j) = ap (λ x. list_all (λ id. nat_lt id next) (ids e) && x) (joined-name_same (next + made e) es fs j)
joined-name_same next _ _ (Back es fs j) = sym (joined-name_same next es fs j)
joined-name_same next _ _ (Through es fs gs j k) = joined-name_same next es fs j ∙ joined-name_same next fs gs k

pub joined-count_same : JoinedCountSame
joined-count_same _ _ (Same es) = refl
joined-count_same _ _ (Join place a b es) = omega arith
joined-count_same _ _ (Behind e es fs j) = ap (λ x. made e + x) (joined-count_same es fs j)
joined-count_same _ _ (Back es fs j) = sym (joined-count_same es fs j)
joined-count_same _ _ (Through es fs gs j k) = joined-count_same es fs j ∙ joined-count_same fs gs k
