-- Edits that come one by one: the split of a list with one more at its end.
use Rattle.std.proofs.Common.{◌≡◌, true, false, List, [], ◌∷◌, ◌++◌, map, refl, sym, ap, ◌∙◌, inl, inr}
use Rattle.std.specs.Prelude.{if◌then◌else◌}
use Rattle.std.proofs.lemmas.Bool.{cases_Bool, cond-false, cond-true}
use Rattle.hp_control.specs.declared.edit.Edit.{Edit}
use Rattle.hp_groves.specs.Naming.{edit_by, outer_before, own_at}
use Rattle.hp_groves.specs.Split.{Hand, after_inner, after_outer, empty_hand, is_outer, outer_first, split_from}
use Rattle.hp_arena.specs.Groves.{behind_document}
use Rattle.hp_growth.specs.Growing.{hand_after, hand_with, own_edit}
use Rattle.hp_growth.specs.Laws.{GroveIsAtHand, HandGrows, OuterGrows}

hand-snoc : (h : Hand) (es : List Edit) (e : Edit) → hand_after h (es ++ e ∷ []) ≡ hand_with (hand_after h es) e
hand-snoc h [] e = refl
hand-snoc h (x ∷ es) e = hand-snoc (hand_with h x) es e

-- the outer edits from here on, where it is known what the first one is
outer-first : (h : Hand) (e : Edit) (es : List Edit) → is_outer 1 h (own_edit e) ≡ true → outer_before (own_at 1) 1 h (e ∷ es) ≡ e ∷ outer_before (own_at 1) 1 (hand_with h e) es
outer-first h e es o = cond-true (is_outer 1 h (own_edit e)) _ _ o ∙ ap (λ k. e ∷ outer_before (own_at 1) 1 k es) (sym (cond-true (is_outer 1 h (own_edit e)) _ _ o))

inner-first : (h : Hand) (e : Edit) (es : List Edit) → is_outer 1 h (own_edit e) ≡ false → outer_before (own_at 1) 1 h (e ∷ es) ≡ outer_before (own_at 1) 1 (hand_with h e) es
inner-first h e es o = cond-false (is_outer 1 h (own_edit e)) _ _ o ∙ ap (λ k. outer_before (own_at 1) 1 k es) (sym (cond-false (is_outer 1 h (own_edit e)) _ _ o))

outer-snoc : (h : Hand) (es : List Edit) (e : Edit) → outer_before (own_at 1) 1 h (es ++ e ∷ []) ≡ outer_before (own_at 1) 1 h es ++ (if is_outer 1 (hand_after h es) (own_edit e) then e ∷ [] else [])
outer-snoc h [] e = refl
outer-snoc h (x ∷ es) e =
    elim (cases_Bool (is_outer 1 h (own_edit x))) [
      | inl o ↦ outer-first h x (es ++ e ∷ []) o ∙ ap (λ os. x ∷ os) (outer-snoc (hand_with h x) es e) ∙ ap (λ os. os ++ (if is_outer 1 (hand_after (hand_with h x) es) (own_edit e) then e ∷ [] else [])) (sym (outer-first h x es o))
      | inr o ↦ inner-first h x (es ++ e ∷ []) o ∙ outer-snoc (hand_with h x) es e ∙ ap (λ os. os ++ (if is_outer 1 (hand_after (hand_with h x) es) (own_edit e) then e ∷ [] else [])) (sym (inner-first h x es o))
    ]

-- what is made in the end
grove-at_hand : (h : Hand) (es : List Edit) → (split_from 1 h (map (edit_by (own_at 1)) es)).grove ≡ (hand_after h es).grove
grove-at_hand h [] = refl
grove-at_hand h (e ∷ es) =
    elim (cases_Bool (is_outer 1 h (own_edit e))) [
      | inl o ↦
          ap (λ p. p.grove) (cond-true (is_outer 1 h (own_edit e)) (outer_first (own_edit e) (split_from 1 (after_outer h (own_edit e)) (map (edit_by (own_at 1)) es))) (split_from 1 (after_inner h (own_edit e)) (map (edit_by (own_at 1)) es)) o)
          ∙ grove-at_hand (after_outer h (own_edit e)) es
          ∙ ap (λ k. (hand_after k es).grove) (sym (cond-true (is_outer 1 h (own_edit e)) (after_outer h (own_edit e)) (after_inner h (own_edit e)) o))
      | inr o ↦
          ap (λ p. p.grove) (cond-false (is_outer 1 h (own_edit e)) (outer_first (own_edit e) (split_from 1 (after_outer h (own_edit e)) (map (edit_by (own_at 1)) es))) (split_from 1 (after_inner h (own_edit e)) (map (edit_by (own_at 1)) es)) o)
          ∙ grove-at_hand (after_inner h (own_edit e)) es
          ∙ ap (λ k. (hand_after k es).grove) (sym (cond-false (is_outer 1 h (own_edit e)) (after_outer h (own_edit e)) (after_inner h (own_edit e)) o))
    ]

pub hand-grows : HandGrows
hand-grows es e = hand-snoc (empty_hand 1) es e

pub outer-grows : OuterGrows
outer-grows es e = outer-snoc (empty_hand 1) es e

pub grove-is_at_hand : GroveIsAtHand
grove-is_at_hand es = ap behind_document (grove-at_hand (empty_hand 1) es)
