-- Marks that were set one after the other.
use Rattle.std.proofs.Common.{◌≡◌, ℕ, suc, ◌==◌, Bool, true, false, List, [], ◌∷◌, ◌++◌, refl, sym, ap, ◌∙◌, subst, append_assoc}
use Rattle.std.specs.Prelude.{◌||◌}
use Rattle.std.specs.List.{flat_map}
use Rattle.std.proofs.lemmas.List.Folds.{list_any-append}
use Rattle.hp_groves.specs.Split.{is_among}
use Rattle.hp_growth.specs.Marking.{IsMarked, mark}
use Rattle.hp_growth.specs.declared.marks.Mark.{Mark}

or-nil : (x : Bool) → x ≡ (x || false)
or-nil true = refl
or-nil false = refl

or-all : (a b c : Bool) → ((a || b) || c) ≡ (a || (b || c))
or-all true b c = refl
or-all false b c = refl

-- nothing is marked
pub marked-none : (marks : List Mark) → IsMarked marks marks [] []
marked-none marks = record { count = refl; children = λ k. or-nil (mark marks k).children; parent = λ k. or-nil (mark marks k).parent }

-- some are marked, and then others
pub marked-then : (a b c : List Mark) (cs ds ps qs : List ℕ) → IsMarked a b cs ps → IsMarked b c ds qs → IsMarked a c (cs ++ ds) (ps ++ qs)
marked-then a b c cs ds ps qs x y = record {
  count = y.count ∙ x.count;
  children = λ k.
      y.children k ∙ ap (λ v. v || is_among ds (suc k)) (x.children k)
      ∙ or-all (mark a k).children (is_among cs (suc k)) (is_among ds (suc k))
      ∙ ap (λ v. (mark a k).children || v) (sym (list_any-append (λ z. z == suc k) cs ds));
  parent = λ k.
      y.parent k ∙ ap (λ v. v || is_among qs (suc k)) (x.parent k)
      ∙ or-all (mark a k).parent (is_among ps (suc k)) (is_among qs (suc k))
      ∙ ap (λ v. (mark a k).parent || v) (sym (list_any-append (λ z. z == suc k) ps qs));
}

flat-append : (f : ℕ → List ℕ) (xs ys : List ℕ) → flat_map f (xs ++ ys) ≡ flat_map f xs ++ flat_map f ys
flat-append f [] ys = refl
flat-append f (x ∷ xs) ys = ap (λ zs. f x ++ zs) (flat-append f xs ys) ∙ sym (append_assoc (f x) (flat_map f xs) (flat_map f ys))

-- all that an edit touches, one after the other
pub marked-all : (f : ℕ → List ℕ) (a b c d e : List Mark) (parent other child table : List ℕ) → IsMarked a b parent [] → IsMarked b c other [] → IsMarked c d (flat_map f child) child → IsMarked d e (flat_map f table) table
    → IsMarked a e ((parent ++ other) ++ flat_map f (child ++ table)) (child ++ table)
marked-all f a b c d e parent other child table w x y z =
    let all : IsMarked a e (((parent ++ other) ++ flat_map f child) ++ flat_map f table) (child ++ table) =
    marked-then a d e ((parent ++ other) ++ flat_map f child) (flat_map f table) child table (marked-then a c d (parent ++ other) (flat_map f child) [] child (marked-then a b c parent other [] [] w x) y) z in
    subst (λ xs. IsMarked a e xs (child ++ table)) (append_assoc (parent ++ other) (flat_map f child) (flat_map f table) ∙ ap (λ xs. (parent ++ other) ++ xs) (sym (flat-append f child table))) all
