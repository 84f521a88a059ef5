-- What a stable sort makes of a list is what comes of putting its items into order one by one.
use Rattle.std.proofs.Common.{◌≡◌, ℕ, zero, suc, ◌+◌, ◌<◌, ◌≤◌, ◌⊎◌, Bool, true, false, not, ◌&&◌, List, [], ◌∷◌, ◌++◌, length, get_or, map, refl, ap, sym, ◌∙◌, append_assoc, append-nil, add-one, arith, inl, inr}
use Rattle.std.specs.List.{filter, fold}
use Rattle.std.specs.List.Sorted.{IsSortedBy, IsStableBy, ties}
use Rattle.std.specs.Cmp.{IsStrictWeakOrder}
use Rattle.std.proofs.lemmas.List.Sorted.{sorted_far}
use Rattle.std.proofs.lemmas.Bool.{cond-true, cond-false, true≢false}
use Rattle.hp_print.specs.Order.{placed}

bool_cases : (b : Bool) → (b ≡ true) ⊎ (b ≡ false)
bool_cases true = inl refl
bool_cases false = inr refl

tie_parts : (p q : Bool) → (not p && not q) ≡ true → (p ≡ false) × (q ≡ false)
tie_parts true q e = absurd (true≢false (sym e))
tie_parts false true e = absurd (true≢false (sym e))
tie_parts false false e = (refl, refl)

tie_made : (p q : Bool) → p ≡ false → q ≡ false → (not p && not q) ≡ true
tie_made p q e f = rw (e, f) refl

pub placed_none : {X : Type 0} (lt : X → X → Bool) (a : X) → placed lt [] a ≡ a ∷ []
unfolding placed
placed_none lt a = refl

pub placed_here : {X : Type 0} (lt : X → X → Bool) (a b : X) (bs : List X) → lt a b ≡ true → placed lt (b ∷ bs) a ≡ a ∷ b ∷ bs
unfolding placed
placed_here lt a b bs e = rw (e, placed) refl

pub placed_later : {X : Type 0} (lt : X → X → Bool) (a b : X) (bs : List X) → lt a b ≡ false → placed lt (b ∷ bs) a ≡ b ∷ placed lt bs a
unfolding placed
placed_later lt a b bs e = rw (e, placed) refl

filter_in : {X : Type 0} (p : X → Bool) (a : X) (xs : List X) → p a ≡ true → filter p (a ∷ xs) ≡ a ∷ filter p xs
filter_in p a xs e = cond-true (p a) _ _ e

filter_out : {X : Type 0} (p : X → Bool) (a : X) (xs : List X) → p a ≡ false → filter p (a ∷ xs) ≡ filter p xs
filter_out p a xs e = cond-false (p a) _ _ e

module _ {X : Type 0} (lt : X → X → Bool) (o : IsStrictWeakOrder lt) where
  -- no item comes before this one
  abbrev Above : X → List X → Type 0
  Above x [] = Unit {0}
  Above x (y ∷ ys) = (lt y x ≡ false) × Above x ys

  abbrev Up : List X → Type 0
  Up [] = Unit {0}
  Up (x ∷ xs) = Above x xs × Up xs

  above_of : (x : X) (xs : List X) → ((k : ℕ) → k < length xs → lt (get_or xs k x) x ≡ false) → Above x xs
  above_of x [] h = tt
  above_of x (y ∷ ys) h = (h 0 (omega arith), above_of x ys (λ k p. h (suc k) (omega arith)))

  up_of : (xs : List X) → ((i j : ℕ) (d : X) → i ≤ j → j < length xs → lt (get_or xs j d) (get_or xs i d) ≡ false) → Up xs
  up_of [] h = tt
  up_of (x ∷ xs) h = (above_of x xs (λ k p. h 0 (suc k) x (omega arith) (omega arith)), up_of xs (λ i j d a b. h (suc i) (suc j) d (omega arith) (omega arith)))

  up_from_sorted : (xs : List X) → IsSortedBy lt xs → Up xs
  up_from_sorted xs up = up_of xs (λ i j d a b. sorted_far lt o xs up i j d a b)

  irreflexive : (x : X) → lt x x ≡ false
  irreflexive x = elim (bool_cases (lt x x)) [ inl t ↦ o.one_way x x t | inr f ↦ f ]

  above_below : (a b : X) (bs : List X) → lt b a ≡ false → Above b bs → Above a bs
  above_below a b [] e h = tt
  above_below a b (c ∷ cs) e h = (o.chain c b a h.0 e, above_below a b cs e h.1)

  above_placed : (z a : X) (bs : List X) → Above z bs → lt a z ≡ false → Above z (placed lt bs a)
  above_placed z a [] h e = rw (placed_none lt a) (e, tt)
  above_placed z a (b ∷ bs) h e =
      elim (bool_cases (lt a b)) [
        | inl t ↦ rw (placed_here lt a b bs t) (e, (h.0, h.1))
        | inr f ↦ rw (placed_later lt a b bs f) (h.0, above_placed z a bs h.1 e)
      ]

  up_placed : (a : X) (bs : List X) → Up bs → Up (placed lt bs a)
  up_placed a [] up = rw (placed_none lt a) (tt, tt)
  up_placed a (b ∷ bs) up =
      elim (bool_cases (lt a b)) [
        | inl t ↦ let after : lt b a ≡ false = o.one_way a b t in rw (placed_here lt a b bs t) ((after, above_below a b bs after up.0), (up.0, up.1))
        | inr f ↦ rw (placed_later lt a b bs f) (above_placed b a bs up.0 f, up_placed a bs up.1)
      ]

  -- what comes after an item that comes after a tie of x is no tie of x
  no_tie : (x a b c : X) → ties lt x a ≡ true → lt a b ≡ true → lt c b ≡ false → ties lt x c ≡ false
  no_tie x a b c tie before above =
      elim (bool_cases (ties lt x c)) [
        | inl t ↦
            let first = tie_parts (lt x a) (lt a x) tie in
            let second = tie_parts (lt x c) (lt c x) t in
            absurd (true≢false (sym before ∙ o.chain a c b (o.chain a x c first.1 second.0) above))
        | inr f ↦ f
      ]

  filter_dropped : (x a b : X) (cs : List X) → ties lt x a ≡ true → lt a b ≡ true → Above b cs → filter (ties lt x) cs ≡ []
  filter_dropped x a b [] tie before h = refl
  filter_dropped x a b (c ∷ cs) tie before h = filter_out (ties lt x) c cs (no_tie x a b c tie before h.0) ∙ filter_dropped x a b cs tie before h.1

  filter_placed : (x a : X) (bs : List X) → Up bs → filter (ties lt x) (placed lt bs a) ≡ filter (ties lt x) bs ++ filter (ties lt x) (a ∷ [])
  filter_placed x a [] up = ap (filter (ties lt x)) (placed_none lt a)
  filter_placed x a (b ∷ bs) up =
      elim (bool_cases (lt a b)) [
        | inl t ↦ ap (filter (ties lt x)) (placed_here lt a b bs t) ∙ in_front t
        | inr f ↦ ap (filter (ties lt x)) (placed_later lt a b bs f) ∙ behind (filter_placed x a bs up.1)
      ] where
        in_front : lt a b ≡ true → filter (ties lt x) (a ∷ b ∷ bs) ≡ filter (ties lt x) (b ∷ bs) ++ filter (ties lt x) (a ∷ [])
        in_front t =
            elim (bool_cases (ties lt x a)) [
              | inl tie ↦
                  let none : filter (ties lt x) (b ∷ bs) ≡ [] = filter_dropped x a b (b ∷ bs) tie t (irreflexive b, up.0) in
                  filter_in (ties lt x) a (b ∷ bs) tie ∙ ap (λ ys. a ∷ ys) none ∙ sym (filter_in (ties lt x) a [] tie) ∙ ap (λ ys. ys ++ filter (ties lt x) (a ∷ [])) (sym none)
              | inr apart ↦ filter_out (ties lt x) a (b ∷ bs) apart ∙ sym (append-nil (filter (ties lt x) (b ∷ bs))) ∙ ap (λ ys. filter (ties lt x) (b ∷ bs) ++ ys) (sym (filter_out (ties lt x) a [] apart))
            ]

        behind : filter (ties lt x) (placed lt bs a) ≡ filter (ties lt x) bs ++ filter (ties lt x) (a ∷ []) → filter (ties lt x) (b ∷ placed lt bs a) ≡ filter (ties lt x) (b ∷ bs) ++ filter (ties lt x) (a ∷ [])
        behind e =
            elim (bool_cases (ties lt x b)) [
              | inl tie ↦ filter_in (ties lt x) b (placed lt bs a) tie ∙ ap (λ ys. b ∷ ys) e ∙ ap (λ ys. ys ++ filter (ties lt x) (a ∷ [])) (sym (filter_in (ties lt x) b bs tie))
              | inr apart ↦ filter_out (ties lt x) b (placed lt bs a) apart ∙ e ∙ ap (λ ys. ys ++ filter (ties lt x) (a ∷ [])) (sym (filter_out (ties lt x) b bs apart))
            ]

  up_fold : (xs done : List X) → Up done → Up (fold (placed lt) done xs)
  up_fold [] done up = up
  up_fold (x ∷ xs) done up = up_fold xs (placed lt done x) (up_placed x done up)

  filter_fold : (z : X) (xs done : List X) → Up done → filter (ties lt z) (fold (placed lt) done xs) ≡ filter (ties lt z) done ++ filter (ties lt z) xs
  filter_fold z [] done up = sym (append-nil (filter (ties lt z) done))
  filter_fold z (x ∷ xs) done up =
      filter_fold z xs (placed lt done x) (up_placed x done up)
      ∙ ap (λ ys. ys ++ filter (ties lt z) xs) (filter_placed z x done up)
      ∙ append_assoc (filter (ties lt z) done) (filter (ties lt z) (x ∷ [])) (filter (ties lt z) xs)
      ∙ ap (λ ys. filter (ties lt z) done ++ ys) (both (bool_cases (ties lt z x))) where
        both : (ties lt z x ≡ true) ⊎ (ties lt z x ≡ false) → filter (ties lt z) (x ∷ []) ++ filter (ties lt z) xs ≡ filter (ties lt z) (x ∷ xs)
        both (inl tie) = ap (λ ys. ys ++ filter (ties lt z) xs) (filter_in (ties lt z) x [] tie) ∙ sym (filter_in (ties lt z) x xs tie)
        both (inr apart) = ap (λ ys. ys ++ filter (ties lt z) xs) (filter_out (ties lt z) x [] apart) ∙ sym (filter_out (ties lt z) x xs apart)

  -- an item that passes a test comes before none but the first
  first_above : (p : X → Bool) (x y : X) (ys rest : List X) → Above y ys → filter p ys ≡ x ∷ rest → lt x y ≡ false
  first_above p x y [] rest h e = absurd (cc e)
  first_above p x y (c ∷ cs) rest h e =
      elim (bool_cases (p c)) [
        | inl t ↦ let same : c ∷ filter p cs ≡ x ∷ rest = sym (filter_in p c cs t) ∙ e in let is : c ≡ x = cc in subst_first is h.0
        | inr f ↦ first_above p x y cs rest h.1 (sym (filter_out p c cs f) ∙ e)
      ] where
        subst_first : c ≡ x → lt c y ≡ false → lt x y ≡ false
        subst_first is not_before = ap (λ z. lt z y) (sym is) ∙ not_before

  head_above : (p : X → Bool) (x y : X) (ys rest : List X) → Above y ys → filter p (y ∷ ys) ≡ x ∷ rest → lt x y ≡ false
  head_above p x y ys rest h e = first_above p x y (y ∷ ys) rest (irreflexive y, h) e

  ties_itself : (x : X) → ties lt x x ≡ true
  ties_itself x = tie_made (lt x x) (lt x x) (irreflexive x) (irreflexive x)

  -- two lists in order with the same ties are one
  one_order : (xs ys : List X) → Up xs → Up ys → ((z : X) → filter (ties lt z) xs ≡ filter (ties lt z) ys) → xs ≡ ys
  one_order [] [] ux uy h = refl
  one_order [] (y ∷ ys) ux uy h = let e = h y ∙ filter_in (ties lt y) y ys (ties_itself y) in absurd (cc e)
  one_order (x ∷ xs) [] ux uy h = let e = sym (h x) ∙ filter_in (ties lt x) x xs (ties_itself x) in absurd (cc e)
  one_order (x ∷ xs) (y ∷ ys) ux uy h =
      let ours : filter (ties lt x) (y ∷ ys) ≡ x ∷ filter (ties lt x) xs = sym (h x) ∙ filter_in (ties lt x) x xs (ties_itself x) in
      let theirs : filter (ties lt y) (x ∷ xs) ≡ y ∷ filter (ties lt y) ys = h y ∙ filter_in (ties lt y) y ys (ties_itself y) in
      let tie : ties lt x y ≡ true = tie_made (lt x y) (lt y x) (head_above (ties lt x) x y ys _ uy.0 ours) (head_above (ties lt y) y x xs _ ux.0 theirs) in
      let heads : x ∷ filter (ties lt x) xs ≡ y ∷ filter (ties lt x) ys = sym ours ∙ filter_in (ties lt x) y ys tie in
      let is : x ≡ y = cc in
      let more : xs ≡ ys = one_order xs ys ux.1 uy.1 (λ z. tails z is (bool_cases (ties lt z x)) (h z)) in
      cc where
        tails : (z : X) → x ≡ y → (ties lt z x ≡ true) ⊎ (ties lt z x ≡ false) → filter (ties lt z) (x ∷ xs) ≡ filter (ties lt z) (y ∷ ys) → filter (ties lt z) xs ≡ filter (ties lt z) ys
        tails z is (inl t) e =
            let other : ties lt z y ≡ true = ap (ties lt z) (sym is) ∙ t in
            let same : x ∷ filter (ties lt z) xs ≡ y ∷ filter (ties lt z) ys = sym (filter_in (ties lt z) x xs t) ∙ e ∙ filter_in (ties lt z) y ys other in
            cc
        tails z is (inr f) e =
            let other : ties lt z y ≡ false = ap (ties lt z) (sym is) ∙ f in
            sym (filter_out (ties lt z) x xs f) ∙ e ∙ filter_out (ties lt z) y ys other

  -- what a stable sort ensures says what it made
  pub sort_places : (xs ys : List X) → IsSortedBy lt ys → IsStableBy lt xs ys → ys ≡ fold (placed lt) [] xs
  sort_places xs ys up stable =
      one_order ys (fold (placed lt) [] xs) (up_from_sorted ys up) (up_fold xs [] tt) (λ z. stable z ∙ sym (filter_fold z xs [] tt))

  sorted_from_up : (xs : List X) → Up xs → IsSortedBy lt xs
  sorted_from_up [] up k d low high = absurd (omega arith)
  sorted_from_up (x ∷ []) up k d low high = absurd (omega arith)
  sorted_from_up (x ∷ y ∷ ys) up zero d low high = up.0.0
  sorted_from_up (x ∷ y ∷ ys) up (suc k) d low high =
      let more : lt (get_or (y ∷ ys) (k + 1) d) (get_or (y ∷ ys) k d) ≡ false = sorted_from_up (y ∷ ys) up.1 k d (omega arith) (omega arith) in
      let next : lt (get_or (y ∷ ys) (suc k) d) (get_or (y ∷ ys) k d) ≡ false = rw add-one at more in rw (add-one (suc k)) next

  pub sorted_placed : (xs : List X) → IsSortedBy lt (fold (placed lt) [] xs)
  sorted_placed xs = sorted_from_up (fold (placed lt) [] xs) (up_fold xs [] tt)

  pub stable_placed : (xs : List X) → IsStableBy lt xs (fold (placed lt) [] xs)
  stable_placed xs z = filter_fold z xs [] tt

-- items that are placed by what they show
map_placed : {X Y : Type 0} (f : X → Y) (lt : Y → Y → Bool) (a : X) (bs : List X) → map f (placed (λ x y. lt (f x) (f y)) bs a) ≡ placed lt (map f bs) (f a)
map_placed f lt a [] = ap (map f) (placed_none (λ x y. lt (f x) (f y)) a) ∙ sym (placed_none lt (f a))
map_placed f lt a (b ∷ bs) =
    elim (bool_cases (lt (f a) (f b))) [
      | inl t ↦ ap (map f) (placed_here (λ x y. lt (f x) (f y)) a b bs t) ∙ sym (placed_here lt (f a) (f b) (map f bs) t)
      | inr e ↦ ap (map f) (placed_later (λ x y. lt (f x) (f y)) a b bs e) ∙ ap (λ ys. f b ∷ ys) (map_placed f lt a bs) ∙ sym (placed_later lt (f a) (f b) (map f bs) e)
    ]

pub map-fold_placed : {X Y : Type 0} (f : X → Y) (lt : Y → Y → Bool) (xs done : List X) → map f (fold (placed (λ x y. lt (f x) (f y))) done xs) ≡ fold (placed lt) (map f done) (map f xs)
map-fold_placed f lt [] done = refl
map-fold_placed f lt (x ∷ xs) done = map-fold_placed f lt xs (placed (λ a b. lt (f a) (f b)) done x) ∙ ap (λ ys. fold (placed lt) ys (map f xs)) (map_placed f lt x done)
