-- What is known of outer edits, and of an inner one among them.
use Rattle.std.proofs.Common.{◌≡◌, ℕ, Bool, true, ◌==◌, List, [], ◌∷◌, ◌++◌, length, refl, ap, ◌∙◌}
use Rattle.std.proofs.lemmas.Bool.{eq-eqb, or_left, or_right}
use Rattle.hp_control.specs.declared.edit.Child.{Child}
use Rattle.hp_control.specs.declared.edit.Child.TheVariants as child
use Rattle.hp_control.specs.declared.edit.Edit.{Edit}
use Rattle.hp_control.specs.declared.edit.Edit.TheVariants.{NewElement, Put, Detach, MoveChildren, AddMissing}
use Rattle.hp_control.specs.declared.edit.Place.{Place}
use Rattle.hp_control.specs.declared.edit.Place.TheVariants.{Into, Foster}
use Rattle.hp_control.specs.declared.edit.Ref.{Ref}
use Rattle.hp_control.specs.Tree.{Tree, id_of, is_there}
use Rattle.hp_groves.specs.Split.{child_ids, ids, is_among, moved, parent_id, parents_named, table_ids}
use Rattle.hp_groves.proofs.Sides.{Avoids, Fits, FitsList, FitsNode, FitsPlace, others}

pub among-first : (x : ℕ) (xs : List ℕ) → is_among (x ∷ xs) x ≡ true
among-first x xs = or_left (x == x) (is_among xs x) (eq-eqb x x refl)

pub among-later : (x y : ℕ) (xs : List ℕ) → is_among xs y ≡ true → is_among (x ∷ xs) y ≡ true
among-later x y xs h = or_right (x == y) (is_among xs y) h

-- a new element is one of those with tags of M, and so is one that gets attributes
abbrev pub FitsTag : (ℕ → Bool) → Tree → Tree → Edit → Type 0
FitsTag M t u (NewElement tag) = (length t ≡ length u) × (M (length t) ≡ true)
FitsTag M t u (Put c place) = Unit {0}
FitsTag M t u (Detach node) = Unit {0}
FitsTag M t u (MoveChildren from to) = Unit {0}
FitsTag M t u (AddMissing node more) = M (id_of node) ≡ true

module _ (K M : ℕ → Bool) (t u : Tree) where
  fits-list : (e : Edit) (r : Ref) → ((q : ℕ) → is_among (parents_named e) q ≡ true → K q ≡ true) → ((s : Ref) → is_among (ids e) (id_of s) ≡ true → is_there t s ≡ is_there u s)
      → is_among (parents_named e) (id_of r) ≡ true → is_among (ids e) (id_of r) ≡ true → FitsList K t u r
  fits-list e r lists there p i = record { there = there r i; among = lists (id_of r) p }

  fits-node : (e : Edit) (r : Ref) → ((c : ℕ) → is_among (moved e) c ≡ true → Avoids (others K) t c × Avoids (others K) u c) → ((s : Ref) → is_among (ids e) (id_of s) ≡ true → is_there t s ≡ is_there u s)
      → is_among (moved e) (id_of r) ≡ true → is_among (ids e) (id_of r) ≡ true → FitsNode K t u r
  fits-node e r nodes there m i = let a = nodes (id_of r) m in record { there = there r i; left = a.0; right = a.1 }

  -- at a place of what is no element
  fits-place : (c : Child) (place : Place) → child_ids c ≡ [] → ((q : ℕ) → is_among (parents_named (Put c place)) q ≡ true → K q ≡ true)
      → ((x : ℕ) → is_among (child_ids c ++ table_ids place) x ≡ true → Avoids (others K) t x × Avoids (others K) u x)
      → ((s : Ref) → is_among (child_ids c ++ table_ids place ++ parent_id place ∷ []) (id_of s) ≡ true → is_there t s ≡ is_there u s) → FitsPlace K t u place
  fits-place c (Into parent) e lists nodes there =
      record { there = there parent (ap (λ xs. is_among (xs ++ [] ++ id_of parent ∷ []) (id_of parent)) e ∙ among-first (id_of parent) []); among = lists (id_of parent) (among-first (id_of parent) []) }
  fits-place c (Foster table above) e lists nodes there =
      let at = nodes (id_of table) (ap (λ xs. is_among (xs ++ id_of table ∷ []) (id_of table)) e ∙ among-first (id_of table) []) in (
        record { there = there table (ap (λ xs. is_among (xs ++ id_of table ∷ [] ++ id_of above ∷ []) (id_of table)) e ∙ among-first (id_of table) (id_of above ∷ [])); left = at.0; right = at.1 },
        record {
          there = there above (ap (λ xs. is_among (xs ++ id_of table ∷ [] ++ id_of above ∷ []) (id_of above)) e ∙ among-later (id_of table) (id_of above) (id_of above ∷ []) (among-first (id_of above) []));
          among = lists (id_of above) (among-first (id_of above) []);
        },
      )

  -- by what is known of the elements that it names
  pub fits-by : (e : Edit) → ((q : ℕ) → is_among (parents_named e) q ≡ true → K q ≡ true) → ((c : ℕ) → is_among (moved e) c ≡ true → Avoids (others K) t c × Avoids (others K) u c)
      → ((s : Ref) → is_among (ids e) (id_of s) ≡ true → is_there t s ≡ is_there u s) → FitsTag M t u e → Fits K M t u e
  fits-by (NewElement tag) lists nodes there f = f
  fits-by (Put (child.Element node) (Into parent)) lists nodes there f =
      let e = Put (child.Element node) (Into parent) in
      let n = id_of node in
      let p = id_of parent in
      (fits-node e node nodes there (among-first n []) (among-first n (p ∷ [])), fits-list e parent lists there (among-first p []) (among-later n p (p ∷ []) (among-first p [])))
  fits-by (Put (child.Element node) (Foster table above)) lists nodes there f =
      let e = Put (child.Element node) (Foster table above) in
      let n = id_of node in
      let x = id_of table in
      let p = id_of above in (
        fits-node e node nodes there (among-first n (x ∷ [])) (among-first n (x ∷ p ∷ [])),
        (
          fits-node e table nodes there (among-later n x (x ∷ []) (among-first x [])) (among-later n x (x ∷ p ∷ []) (among-first x (p ∷ []))),
          fits-list e above lists there (among-first p []) (among-later n p (x ∷ p ∷ []) (among-later x p (p ∷ []) (among-first p []))),
        ),
      )
  fits-by (Put (child.Text text) place) lists nodes there f = (tt, fits-place (child.Text text) place refl lists nodes there)
  fits-by (Put (child.Comment text) place) lists nodes there f = (tt, fits-place (child.Comment text) place refl lists nodes there)
  fits-by (Put (child.Doctype parts) place) lists nodes there f = (tt, fits-place (child.Doctype parts) place refl lists nodes there)
  fits-by (Detach node) lists nodes there f = fits-node (Detach node) node nodes there (among-first (id_of node) []) (among-first (id_of node) [])
  fits-by (MoveChildren from to) lists nodes there f =
      let e = MoveChildren from to in
      let a = id_of from in
      let b = id_of to in (
        fits-list e from lists there (among-first a (b ∷ [])) (among-first a (b ∷ [])),
        fits-list e to lists there (among-later a b (b ∷ []) (among-first b [])) (among-later a b (b ∷ []) (among-first b [])),
      )
  fits-by (AddMissing node more) lists nodes there f = (there node (among-first (id_of node) []), f)
