-- Own elements counted from another id: what is done to lists of children is done alike.
use Rattle.std.proofs.Common.{◌≡◌, ℕ, ◌+◌, ◌-◌, ◌<◌, Bool, true, false, not, ◌==◌, List, [], ◌∷◌, ◌++◌, map, refl, sym, ap, ◌∙◌, inl, inr, arith}
use Rattle.std.specs.Prelude.{if◌then◌else◌, ◌||◌}
use Rattle.std.proofs.lemmas.Bool.{cases_eq, cases_lt, eq-eqb, ne_eqb, or_parts, true≢false}
use Rattle.std.proofs.lemmas.List.{map-append}
use Rattle.hp_control.specs.Tree.{Item, Element, Text, Comment, Doctype, beside, is_element, put_before, put_last}
use Rattle.hp_groves.specs.Grafts.{renumbered_item}
use Rattle.hp_groves.proofs.Items.{stands, without}

-- no element below n stands among the items
pub record AreOwn (n : ℕ) (xs : List Item) : Type 0 where
  pub none : (c : ℕ) → c < n → stands c xs ≡ false

pub own-rest : (n : ℕ) (x : Item) (xs : List Item) → AreOwn n (x ∷ xs) → AreOwn n xs
own-rest n x xs h = record { none = λ c b. (or_parts (is_element c x) (stands c xs) (h.none c b)).1 }

pub own-first : (n : ℕ) (x : Item) (xs : List Item) → AreOwn n (x ∷ xs) → (c : ℕ) → c < n → is_element c x ≡ false
own-first n x xs h c b = (or_parts (is_element c x) (stands c xs) (h.none c b)).0

pub same-number : (n m j k : ℕ) → (n + j == n + k) ≡ (m + j == m + k)
same-number n m j k =
    elim (cases_eq j k) [
      | inl e ↦ eq-eqb (n + j) (n + k) (ap (λ x. n + x) e) ∙ sym (eq-eqb (m + j) (m + k) (ap (λ x. m + x) e))
      | inr d ↦ ne_eqb (n + j) (n + k) (λ e. d (omega (arith, e))) ∙ sym (ne_eqb (m + j) (m + k) (λ e. d (omega (arith, e))))
    ]

module _ (n m : ℕ) where
  -- counted from m in place of n
  abbrev pub recount : Item → Item
  recount x = renumbered_item (λ id. m + (id - n)) x

  is-recounted : (k : ℕ) (x : Item) → ((c : ℕ) → c < n → is_element c x ≡ false) → is_element (m + k) (recount x) ≡ is_element (n + k) x
  is-recounted k (Element id) h =
      elim (cases_lt id n) [
        | inl below ↦ absurd (true≢false (sym (eq-eqb id id refl) ∙ h id below))
        | inr above ↦
            elim (cases_eq id (n + k)) [
              | inl e ↦ eq-eqb (m + (id - n)) (m + k) (omega (arith, e)) ∙ sym (eq-eqb id (n + k) e)
              | inr d ↦ ne_eqb (m + (id - n)) (m + k) (λ e. d (omega (arith, e, above))) ∙ sym (ne_eqb id (n + k) d)
            ]
      ]
  is-recounted k (Text a) h = refl
  is-recounted k (Comment a) h = refl
  is-recounted k (Doctype a b c) h = refl

  pub stands-recounted : (k : ℕ) (xs : List Item) → AreOwn n xs → stands (m + k) (map recount xs) ≡ stands (n + k) xs
  stands-recounted k [] h = refl
  stands-recounted k (x ∷ xs) h =
      ap (λ b. b || stands (m + k) (map recount xs)) (is-recounted k x (own-first n x xs h)) ∙ ap (λ b. is_element (n + k) x || b) (stands-recounted k xs (own-rest n x xs h))

  pub either-recounted : (b : Bool) (xs ys : List Item) → (if b then map recount xs else map recount ys) ≡ map recount (if b then xs else ys)
  either-recounted true xs ys = refl
  either-recounted false xs ys = refl

  beside-recounted : (x y : Item) → beside (recount x) (recount y) ≡ map recount (beside x y)
  beside-recounted (Element a) y = refl
  beside-recounted (Text a) (Element b) = refl
  beside-recounted (Text a) (Text b) = refl
  beside-recounted (Text a) (Comment b) = refl
  beside-recounted (Text a) (Doctype b p q) = refl
  beside-recounted (Comment a) y = refl
  beside-recounted (Doctype a p q) y = refl

  pub last-recounted : (x : Item) (xs : List Item) → put_last (map recount xs) (recount x) ≡ map recount (put_last xs x)
  last-recounted x [] = refl
  last-recounted x (y ∷ []) = beside-recounted y x
  last-recounted x (y ∷ z ∷ rest) = ap (λ ys. recount y ∷ ys) (last-recounted x (z ∷ rest))

  pub before-recounted : (k : ℕ) (x : Item) (xs : List Item) → AreOwn n xs → put_before (m + k) (map recount xs) (recount x) ≡ map recount (put_before (n + k) xs x)
  before-recounted k x [] h = refl
  before-recounted k x (y ∷ []) h =
      ap (λ b. if b then recount x ∷ recount y ∷ [] else recount y ∷ []) (is-recounted k y (own-first n y [] h)) ∙ either-recounted (is_element (n + k) y) (x ∷ y ∷ []) (y ∷ [])
  before-recounted k x (y ∷ z ∷ rest) h =
      let more = own-rest n y (z ∷ rest) h in
      let one = is-recounted k y (own-first n y (z ∷ rest) h) in
      let two = is-recounted k z (own-first n z rest more) in
      let near = beside-recounted y x in
      let here : beside (recount y) (recount x) ++ map recount (z ∷ rest) ≡ map recount (beside y x ++ z ∷ rest) = ap (λ ys. ys ++ map recount (z ∷ rest)) near ∙ sym (map-append recount (beside y x) (z ∷ rest)) in
      ap (λ b. if b then recount x ∷ recount y ∷ map recount (z ∷ rest) else (if is_element (m + k) (recount z) then beside (recount y) (recount x) ++ map recount (z ∷ rest) else recount y ∷ put_before (m + k) (map recount (z ∷ rest)) (recount x))) one
      ∙ ap (λ b. if is_element (n + k) y then recount x ∷ recount y ∷ map recount (z ∷ rest) else (if b then beside (recount y) (recount x) ++ map recount (z ∷ rest) else recount y ∷ put_before (m + k) (map recount (z ∷ rest)) (recount x))) two
      ∙ ap (λ ys. if is_element (n + k) y then recount x ∷ recount y ∷ map recount (z ∷ rest) else (if is_element (n + k) z then ys else recount y ∷ put_before (m + k) (map recount (z ∷ rest)) (recount x))) here
      ∙ ap (λ ys. if is_element (n + k) y then recount x ∷ recount y ∷ map recount (z ∷ rest) else (if is_element (n + k) z then map recount (beside y x ++ z ∷ rest) else recount y ∷ ys)) (before-recounted k x (z ∷ rest) more)
      ∙ ap (λ ys. if is_element (n + k) y then recount x ∷ recount y ∷ map recount (z ∷ rest) else ys) (either-recounted (is_element (n + k) z) (beside y x ++ z ∷ rest) (y ∷ put_before (n + k) (z ∷ rest) x))
      ∙ either-recounted (is_element (n + k) y) (x ∷ y ∷ z ∷ rest) (if is_element (n + k) z then beside y x ++ z ∷ rest else y ∷ put_before (n + k) (z ∷ rest) x)

  pub without-recounted : (k : ℕ) (xs : List Item) → AreOwn n xs → without (m + k) (map recount xs) ≡ map recount (without (n + k) xs)
  without-recounted k [] h = refl
  without-recounted k (x ∷ xs) h =
      ap (λ b. if not b then recount x ∷ without (m + k) (map recount xs) else without (m + k) (map recount xs)) (is-recounted k x (own-first n x xs h))
      ∙ ap (λ ys. if not (is_element (n + k) x) then recount x ∷ ys else ys) (without-recounted k xs (own-rest n x xs h))
      ∙ either-recounted (not (is_element (n + k) x)) (x ∷ without (n + k) xs) (without (n + k) xs)
