-- What edits come to, with one edit more.
use Rattle.std.proofs.Common.{◌≡◌, ℕ, zero, suc, ◌+◌, ◌<◌, true, false, List, [], ◌∷◌, ◌++◌, get_or, set, length, drop, map, refl, sym, ap, ◌∙◌, subst, arith, append_assoc, add-one, length-append}
use Rattle.std.specs.Prelude.{◌||◌}
use Rattle.std.specs.List.{list_all}
use Rattle.std.proofs.Math.Seq.{drop-cons}
use Rattle.std.proofs.lemmas.Bool.{and_from, cond-false, cond-true}
use Rattle.std.proofs.lemmas.List.{append-nil, drop-set-lt}
use Rattle.hp_control.specs.declared.edit.Edit.{Edit}
use Rattle.hp_control.specs.declared.edit.Edit.TheVariants.{NewElement, Put, Detach, MoveChildren, AddMissing}
use Rattle.hp_control.specs.Tree.{Tree, applied}
use Rattle.hp_groves.specs.Laws.{CountsOn}
use Rattle.hp_groves.specs.Naming.{own_outer, refs}
use Rattle.hp_groves.specs.Split.{Hand, after_inner, after_outer, is_among, is_outer, made, moved, parents_touched}
use Rattle.hp_growth.specs.Growing.{Grown, Grows, IsGrown, IsRooted, hand_of, own_edit}
use Rattle.hp_growth.specs.Marking.{is_first, mark, marks_made, name_first, untouched}
use Rattle.hp_growth.specs.Reaching.{IsInnerPut, IsOuterPut, reaches}
use Rattle.hp_growth.specs.declared.marks.Mark.{Mark}
use Rattle.hp_growth.proofs.Outers.{inner-own, reaches-outer}
use Rattle.hp_growth.proofs.Rooted.{rooted-applied}
use Rattle.hp_growth.proofs.Snoc.{hand-grows, outer-grows}

-- a mark of nothing is as good as none
mark-last : (marks : List Mark) (k : ℕ) → mark (marks ++ untouched ∷ []) k ≡ mark marks k
mark-last [] zero = refl
mark-last [] (suc k) = refl
mark-last (m ∷ ms) zero = refl
mark-last (m ∷ ms) (suc k) = mark-last ms k

mark-made : (marks : List Mark) (e : Edit) (k : ℕ) → mark (marks ++ marks_made e) k ≡ mark marks k
mark-made marks (NewElement tag) k = mark-last marks k
mark-made marks (Put c place) k = ap (λ ms. mark ms k) (append-nil marks)
mark-made marks (Detach node) k = ap (λ ms. mark ms k) (append-nil marks)
mark-made marks (MoveChildren from to) k = ap (λ ms. mark ms k) (append-nil marks)
mark-made marks (AddMissing node more) k = ap (λ ms. mark ms k) (append-nil marks)

-- there are as many marks as elements
pub length-made : (e : Edit) → length (marks_made e) ≡ made (own_edit e)
length-made (NewElement tag) = refl
length-made (Put c place) = refl
length-made (Detach node) = refl
length-made (MoveChildren from to) = refl
length-made (AddMissing node more) = refl

module _ (e : Edit) (old new : Grown) (count : ℕ) (r : IsRooted old.grove count) where
  reaches-at_hand : (es : List Edit) → IsGrown es old → reaches old.grove old.marks (own_edit e) ≡ is_outer 1 (hand_of es) (own_edit e)
  reaches-at_hand es g =
      ap (λ t. reaches t old.marks (own_edit e)) g.grove
      ∙ reaches-outer (hand_of es) old.marks (record { children = g.children; parent = g.parent }) count (subst (λ t. IsRooted t count) g.grove r) (own_edit e)

  -- an inner edit
  pub inner-grows : reaches old.grove old.marks (own_edit e) ≡ false → IsInnerPut e old new → Grows old (e ∷ []) new
  inner-grows inner p = λ es g.
      let o : is_outer 1 (hand_of es) (own_edit e) ≡ false = sym (reaches-at_hand es g) ∙ inner in
      let hand : hand_of (es ++ e ∷ []) ≡ after_inner (hand_of es) (own_edit e) = hand-grows es e ∙ cond-false (is_outer 1 (hand_of es) (own_edit e)) (after_outer (hand_of es) (own_edit e)) (after_inner (hand_of es) (own_edit e)) o in
      let none : own_outer (es ++ e ∷ []) ≡ own_outer es = outer-grows es e ∙ ap (λ os. own_outer es ++ os) (cond-false (is_outer 1 (hand_of es) (own_edit e)) (e ∷ []) [] o) ∙ append-nil (own_outer es) in
      record {
        grove = p.grove ∙ ap (λ t. applied t (own_edit e)) g.grove ∙ ap (λ (h : Hand). h.grove) (sym hand);
        outer = p.outer ∙ g.outer ∙ sym none;
        children = λ k. ap (λ (h : Hand). h.children (suc k)) hand ∙ g.children k ∙ ap (λ (m : Mark). m.children) (sym (ap (λ ms. mark ms k) p.marks ∙ mark-made old.marks e k));
        parent = λ k. ap (λ (h : Hand). h.parent (suc k)) hand ∙ g.parent k ∙ ap (λ (m : Mark). m.parent) (sym (ap (λ ms. mark ms k) p.marks ∙ mark-made old.marks e k));
      }

  -- an outer edit
  pub outer-keeps : reaches old.grove old.marks (own_edit e) ≡ true → IsOuterPut e old new → Grows old (e ∷ []) new
  outer-keeps outer p = λ es g.
      let o : is_outer 1 (hand_of es) (own_edit e) ≡ true = sym (reaches-at_hand es g) ∙ outer in
      let hand : hand_of (es ++ e ∷ []) ≡ after_outer (hand_of es) (own_edit e) = hand-grows es e ∙ cond-true (is_outer 1 (hand_of es) (own_edit e)) (after_outer (hand_of es) (own_edit e)) (after_inner (hand_of es) (own_edit e)) o in
      let more : own_outer (es ++ e ∷ []) ≡ own_outer es ++ e ∷ [] = outer-grows es e ∙ ap (λ os. own_outer es ++ os) (cond-true (is_outer 1 (hand_of es) (own_edit e)) (e ∷ []) [] o) in
      record {
        grove = p.grove ∙ g.grove ∙ ap (λ (h : Hand). h.grove) (sym hand);
        outer = p.outer ∙ ap (λ os. os ++ e ∷ []) g.outer ∙ sym more;
        children = λ k.
            ap (λ (h : Hand). h.children (suc k)) hand
            ∙ ap (λ b. b || is_among (parents_touched (hand_of es).grove (own_edit e)) (suc k)) (g.children k)
            ∙ ap (λ t. (mark old.marks k).children || is_among (parents_touched t (own_edit e)) (suc k)) (sym g.grove)
            ∙ sym (p.marks.children k);
        parent = λ k.
            ap (λ (h : Hand). h.parent (suc k)) hand
            ∙ ap (λ b. b || is_among (moved (own_edit e)) (suc k)) (g.parent k)
            ∙ sym (p.marks.parent k);
      }

-- behind an inner edit there are as many marks as own elements
pub rooted-put : (t new : Tree) (marks more : List Mark) (e : Edit) → CountsOn → IsRooted t (length marks) → reaches t marks (own_edit e) ≡ false → new ≡ applied t (own_edit e) → more ≡ marks ++ marks_made e
    → IsRooted new (length more)
rooted-put t new marks more e counts r inner made added =
    let count : length (applied t (own_edit e)) ≡ suc (length more) =
    omega (arith, counts t (own_edit e ∷ []), r.long, length-append marks (marks_made e), length-made e, ap length added) in
    subst (λ u. IsRooted u (length more)) (sym made) (rooted-applied t (length marks) (length more) (own_edit e) r (inner-own t marks (length marks) r (own_edit e) inner) count)

-- what is left of some edits leads where all of them do
pub record Leads (start : Grown) (edits rest : List Edit) (now : Grown) : Type 0 where
  pub leads : (new : Grown) → Grows now rest new → Grows start edits new

pub leads-first : (start : Grown) (edits : List Edit) → Leads start edits edits start
leads-first start edits = record { leads = λ new g. g }

grows-then : (old now new : Grown) (e : Edit) (rest : List Edit) → Grows old (e ∷ []) now → Grows now rest new → Grows old (e ∷ rest) new
grows-then old now new e rest f g = λ es h. subst (λ xs. IsGrown xs new) (append_assoc es (e ∷ []) rest) (g (es ++ e ∷ []) (f es h))

leads-on : (start : Grown) (edits rest more : List Edit) (e : Edit) (old now : Grown) → Leads start edits rest old → rest ≡ e ∷ more → Grows old (e ∷ []) now → Leads start edits more now
leads-on start edits rest more e old now x next f = record { leads = λ new g. x.leads new (subst (λ xs. Grows old xs new) (sym next) (grows-then old now new e more f g)) }

pub leads-last : (start : Grown) (edits rest : List Edit) (now : Grown) → Leads start edits rest now → rest ≡ [] → Grows start edits now
leads-last start edits rest now x none = x.leads now (λ es h. subst (λ xs. IsGrown xs now) (sym (ap (λ xs. es ++ xs) none ∙ append-nil es)) h)

-- the next item is taken, and something is left in its place
taken-next : (items : List Edit) (i : ℕ) (d left : Edit) → i < length items → drop i items ≡ get_or items i d ∷ drop (i + 1) (set items i left)
taken-next items i d left h =
    let next : drop i items ≡ get_or items i d ∷ drop (i + 1) items = rw add-one (drop-cons items i d h) in
    let rest : drop (i + 1) (set items i left) ≡ drop (i + 1) items = drop-set-lt (i + 1) items i left (omega arith) in
    next ∙ ap (λ xs. get_or items i d ∷ xs) (sym rest)

-- so it is where each edit is told in another way
pub leads-told : (tell : Edit → Edit) (start : Grown) (edits items : List Edit) (i : ℕ) (d left told : Edit) (old now : Grown) → Leads start edits (map tell (drop i items)) old → i < length items
    → told ≡ tell (get_or items i d) → Grows old (told ∷ []) now → Leads start edits (map tell (drop (i + 1) (set items i left))) now
leads-told tell start edits items i d left told old now x h t f =
    leads-on start edits (map tell (drop i items)) (map tell (drop (i + 1) (set items i left))) (tell (get_or items i d)) old now x (ap (map tell) (taken-next items i d left h)) (subst (λ e. Grows old (e ∷ []) now) t f)

-- of what is left it is known that only the document and the first element are told by ids where it is known of all
pub record LeadsFirst (start : Grown) (edits rest : List Edit) (now : Grown) : Type 0 where
  pub leads : Leads start edits rest now
  pub first : name_first rest ≡ true → name_first edits ≡ true

pub leads-named : (start : Grown) (edits items : List Edit) (i : ℕ) (d left : Edit) (old now : Grown) → LeadsFirst start edits (drop i items) old → i < length items
    → list_all is_first (refs (get_or items i d)) ≡ true → Grows old (get_or items i d ∷ []) now → LeadsFirst start edits (drop (i + 1) (set items i left)) now
leads-named start edits items i d left old now x h named f =
    let next = taken-next items i d left h in
    record {
      leads = leads-on start edits (drop i items) (drop (i + 1) (set items i left)) (get_or items i d) old now x.leads next f;
      first = λ rest. x.first (ap name_first next ∙ and_from (list_all is_first (refs (get_or items i d))) (name_first (drop (i + 1) (set items i left))) named rest);
    }
