-- The elements of a stack that pass a test.
use Rattle.std.proofs.Common.{◌≡◌, ℕ, zero, suc, List, [], ◌∷◌, ◌++◌, drop, length, Bool, true, false, ◌||◌, ◌&&◌, refl, sym, ap, ◌∙◌, arith, nat_lt}
use Rattle.std.specs.Prelude.{if◌then◌else◌}
use Rattle.std.specs.List.{list_any}
use Rattle.std.proofs.lemmas.Bool.{true≢false, lt-leb, lt-ltb}
use Rattle.hp_control.specs.declared.element.OpenElement.{OpenElement}
use Rattle.hp_control.specs.States.{ControlState, AreIds}
use Rattle.hp_model.specs.Finding.{is_empty}
use Rattle.hp_model.proofs.Thins.{ids_of}
use Rattle.hp_older.specs.GoesOn.{is_new, kept, own}

pub kept-no : (p : OpenElement → Bool) (e : OpenElement) (es : List OpenElement) → p e ≡ false → kept p (e ∷ es) ≡ kept p es
kept-no p e es h = ap (λ b. if b then e ∷ kept p es else kept p es) h

pub kept-yes : (p : OpenElement → Bool) (e : OpenElement) (es : List OpenElement) → p e ≡ true → kept p (e ∷ es) ≡ e ∷ kept p es
kept-yes p e es h = ap (λ b. if b then e ∷ kept p es else kept p es) h

pub kept-append : (p : OpenElement → Bool) (xs ys : List OpenElement) → kept p (xs ++ ys) ≡ kept p xs ++ kept p ys
kept-append p [] ys = refl
kept-append p (x ∷ xs) ys = go (p x) (kept-append p xs ys)
  where
    go : (b : Bool) → kept p (xs ++ ys) ≡ kept p xs ++ kept p ys → (if b then x ∷ kept p (xs ++ ys) else kept p (xs ++ ys)) ≡ (if b then x ∷ kept p xs else kept p xs) ++ kept p ys
    go true e = ap (λ l. x ∷ l) e
    go false e = e

cons_nil : (e : OpenElement) (es : List OpenElement) → e ∷ es ≡ [] → ⊥
cons_nil e es h = cc

pub kept-tail : (p : OpenElement → Bool) (e : OpenElement) (es : List OpenElement) → kept p (e ∷ es) ≡ [] → (p e ≡ false) × (kept p es ≡ [])
kept-tail p e es h = go (p e) refl h
  where
    go : (b : Bool) → p e ≡ b → (if b then e ∷ kept p es else kept p es) ≡ [] → (p e ≡ false) × (kept p es ≡ [])
    go true f k = absurd (cons_nil e (kept p es) k)
    go false f k = (f, k)

pub kept-drop : (p : OpenElement → Bool) (n : ℕ) (es : List OpenElement) → kept p es ≡ [] → kept p (drop n es) ≡ []
kept-drop p zero es h = h
kept-drop p (suc n) [] h = h
kept-drop p (suc n) (e ∷ es) h = kept-drop p n es (kept-tail p e es h).1

-- what is left of a list of those that pass is a part of them
pub kept-part : (p : OpenElement → Bool) (n : ℕ) (es : List OpenElement) → (m : ℕ) × (kept p (drop n es) ≡ drop m (kept p es))
kept-part p zero es = (0, refl)
kept-part p (suc n) [] = (0, refl)
kept-part p (suc n) (e ∷ es) = go (p e) (kept-part p n es)
  where
    go : (b : Bool) → (m : ℕ) × (kept p (drop n es) ≡ drop m (kept p es)) → (m : ℕ) × (kept p (drop n es) ≡ drop m (if b then e ∷ kept p es else kept p es))
    go true (m, h) = (suc m, h)
    go false (m, h) = (m, h)

pub kept-alike : (p q : OpenElement → Bool) → ((e : OpenElement) → p e ≡ q e) → (es : List OpenElement) → kept p es ≡ kept q es
kept-alike p q h [] = refl
kept-alike p q h (e ∷ es) = ap (λ b. if b then e ∷ kept p es else kept p es) (h e) ∙ ap (λ l. if q e then e ∷ l else l) (kept-alike p q h es)

pub any-kept : (p : OpenElement → Bool) (es : List OpenElement) → list_any p es ≡ nat_lt 0 (length (kept p es))
any-kept p [] = refl
any-kept p (e ∷ es) = go (p e) (any-kept p es)
  where
    go : (b : Bool) → list_any p es ≡ nat_lt 0 (length (kept p es)) → (b || list_any p es) ≡ nat_lt 0 (length (if b then e ∷ kept p es else kept p es))
    go true r = sym (lt-ltb 0 (suc (length (kept p es))) (omega arith))
    go false r = r

pub empty-nil : (es : List OpenElement) → is_empty es ≡ true → es ≡ []
empty-nil [] h = refl
empty-nil (e ∷ es) h = absurd (true≢false (sym h))

-- of the older elements none is new
pub own-older : (s : ControlState) (p : OpenElement → Bool) (es : List OpenElement) → AreIds 0 s.next (ids_of es) → own s p es ≡ []
own-older s p [] h = refl
own-older s p (e ∷ es) h = kept-no (λ x. is_new s x && p x) e es (ap (λ b. b && p e) (lt-leb s.next e.id h.1)) ∙ own-older s p es h.3
