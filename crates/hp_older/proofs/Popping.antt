-- What pops leave of the new elements of some test.
use Rattle.std.proofs.Common.{◌≡◌, ℕ, suc, ◌+◌, ◌-◌, ◌<◌, List, [], ◌∷◌, drop, length, min, Bool, true, false, refl, sym, ap, ◌∙◌, subst, arith, Option, None, Some}
use Rattle.std.specs.Prelude.{if◌then◌else◌}
use Rattle.std.specs.Option.{is_some, option_map}
use Rattle.std.proofs.lemmas.Bool.{true≢false}
use Rattle.std.proofs.lemmas.Option.{none-some, same_Some}
use Rattle.hp_elements.specs.declared.kinds.Kinds.{Kinds}
use Rattle.hp_elements.specs.declared.kinds.Kinds.TheVariants as kinds
use Rattle.hp_control.specs.declared.element.OpenElement.{OpenElement}
use Rattle.hp_control.specs.Acts.{above, popped_by}
use Rattle.hp_control.specs.KindTests.{within}
use Rattle.hp_control.specs.States.{is_rooted}
use Rattle.hp_control.specs.Walks.{reach, run_of, seen}
use Rattle.hp_model.proofs.Stacks.{deeper}
use Rattle.hp_older.specs.GoesOn.{kept}
use Rattle.hp_older.proofs.Kept.{kept-no}

-- as many are popped as asked, where more elements are there
pub all-popped : (k : ℕ) (es : List OpenElement) → k < length es → popped_by k es ≡ drop k es
all-popped k es h = let e : min k (length es - 1) ≡ k = omega arith in ap (λ n. drop n es) e

-- a root that these kinds don't have ends a run of them
pub run-short : (names : Kinds) (es : List OpenElement) → is_rooted es ≡ true → ((e : OpenElement) → is_rooted (e ∷ []) ≡ true → within names e ≡ false) → run_of names es < length es
run-short names [] r h = absurd (true≢false (sym r))
run-short names (e ∷ []) r h = let z : (if within names e then suc 0 else 0) ≡ 0 = ap (λ b. if b then suc 0 else 0) (h e r) in omega arith
run-short names (e ∷ f ∷ es) r h = go (within names e) (run-short names (f ∷ es) r h)
  where
    go : (b : Bool) → run_of names (f ∷ es) < length (f ∷ es) → (if b then suc (run_of names (f ∷ es)) else 0) < length (e ∷ f ∷ es)
    go true k = omega arith
    go false k = omega arith

-- what is found isn't the root, where the goals don't have it; and in any case it is in the stack
pub reach-short : (goals stops : Kinds) (es : List OpenElement) (k : ℕ) → reach goals stops es ≡ Some k → is_rooted es ≡ true → ((e : OpenElement) → is_rooted (e ∷ []) ≡ true → within goals e ≡ false) → k + 1 < length es
reach-short goals stops [] k e r h = absurd (none-some k e)
reach-short goals stops (x ∷ []) k e r h = go (within stops x) (sym (ap (λ b. if b then Some 0 else (if within stops x then None else None)) (h x r)) ∙ e)
  where
    go : (b : Bool) → (if b then None else None) ≡ Some k → k + 1 < 1
    go true m = absurd (none-some k m)
    go false m = absurd (none-some k m)
reach-short goals stops (x ∷ y ∷ ys) k e r h = go (within goals x) (within stops x) e (λ j f. reach-short goals stops (y ∷ ys) j f r h)
  where
    go : (a b : Bool) → (if a then Some 0 else (if b then None else option_map suc (reach goals stops (y ∷ ys)))) ≡ Some k → ((j : ℕ) → reach goals stops (y ∷ ys) ≡ Some j → j + 1 < length (y ∷ ys)) → k + 1 < length (x ∷ y ∷ ys)
    go true b m later = let z : 0 ≡ k = same_Some 0 k m in omega arith
    go false true m later = absurd (none-some k m)
    go false false m later =
        let (j, there) = deeper (reach goals stops (y ∷ ys)) k m in
        let s : j + 1 < length (y ∷ ys) = later j there.0 in
        let f : k ≡ suc j = there.1 in
        omega arith

-- the root is found where the goals have it
pub reach-root : (goals : Kinds) (es : List OpenElement) → is_rooted es ≡ true → ((e : OpenElement) → is_rooted (e ∷ []) ≡ true → within goals e ≡ true) → above (reach goals kinds.Nothing es) es < length es
reach-root goals [] r h = absurd (true≢false (sym r))
reach-root goals (x ∷ []) r h = let z : above (if within goals x then Some 0 else None) (x ∷ []) ≡ 0 = ap (λ b. above (if b then Some 0 else None) (x ∷ [])) (h x r) in omega arith
reach-root goals (x ∷ y ∷ ys) r h = go (within goals x) (reach goals kinds.Nothing (y ∷ ys)) (reach-root goals (y ∷ ys) r h)
  where
    go : (a : Bool) (o : Option ℕ) → above o (y ∷ ys) < length (y ∷ ys) → above (if a then Some 0 else option_map suc o) (x ∷ y ∷ ys) < length (x ∷ y ∷ ys)
    go true o k = omega arith
    go false None k = absurd (omega arith)
    go false (Some j) k = omega arith

module _ (p : OpenElement → Bool) where
  -- a run of kinds without such elements
  pub kept-run : (names : Kinds) (es : List OpenElement) → ((e : OpenElement) → within names e ≡ true → p e ≡ false) → kept p (drop (run_of names es) es) ≡ kept p es
  kept-run names [] h = refl
  kept-run names (e ∷ es) h = go (within names e) refl (kept-run names es h)
    where
      go : (b : Bool) → within names e ≡ b → kept p (drop (run_of names es) es) ≡ kept p es → kept p (drop (if b then suc (run_of names es) else 0) (e ∷ es)) ≡ kept p (e ∷ es)
      go true f k = k ∙ sym (kept-no p e es (h e f))
      go false f k = refl

  -- through a goal that none of the stops hides, where such elements are stops and no goals
  pub kept-through : (goals stops : Kinds) (es : List OpenElement) → ((e : OpenElement) → within goals e ≡ true → p e ≡ false) → ((e : OpenElement) → within stops e ≡ false → p e ≡ false)
      → (k : ℕ) → reach goals stops es ≡ Some k → kept p (drop (k + 1) es) ≡ kept p es
  kept-through goals stops [] h g k e = absurd (none-some k e)
  kept-through goals stops (x ∷ xs) h g k e = go (within goals x) refl (within stops x) refl e (kept-through goals stops xs h g)
    where
      go : (a : Bool) → within goals x ≡ a → (b : Bool) → within stops x ≡ b → (if a then Some 0 else (if b then None else option_map suc (reach goals stops xs))) ≡ Some k
          → ((j : ℕ) → reach goals stops xs ≡ Some j → kept p (drop (j + 1) xs) ≡ kept p xs) → kept p (drop (k + 1) (x ∷ xs)) ≡ kept p (x ∷ xs)
      go true f b q m later = subst (λ j. kept p (drop (j + 1) (x ∷ xs)) ≡ kept p (x ∷ xs)) (same_Some 0 k m) (sym (kept-no p x xs (h x f)))
      go false f true q m later = absurd (none-some k m)
      go false f false q m later =
          let (j, there) = deeper (reach goals stops xs) k m in
          let more : suc (j + 1) ≡ k + 1 = omega (arith, there.1) in
          subst (λ i. kept p (drop i (x ∷ xs)) ≡ kept p (x ∷ xs)) more (later j there.0 ∙ sym (kept-no p x xs (g x q)))

  -- down to a goal, where such elements are goals
  pub kept-to : (goals : Kinds) (es : List OpenElement) → ((e : OpenElement) → within goals e ≡ false → p e ≡ false)
      → (k : ℕ) → reach goals kinds.Nothing es ≡ Some k → kept p (drop k es) ≡ kept p es
  kept-to goals [] g k e = absurd (none-some k e)
  kept-to goals (x ∷ xs) g k e = go (within goals x) refl e (kept-to goals xs g)
    where
      go : (a : Bool) → within goals x ≡ a → (if a then Some 0 else option_map suc (reach goals kinds.Nothing xs)) ≡ Some k
          → ((j : ℕ) → reach goals kinds.Nothing xs ≡ Some j → kept p (drop j xs) ≡ kept p xs) → kept p (drop k (x ∷ xs)) ≡ kept p (x ∷ xs)
      go true f m later = subst (λ j. kept p (drop j (x ∷ xs)) ≡ kept p (x ∷ xs)) (same_Some 0 k m) refl
      go false f m later =
          let (j, there) = deeper (reach goals kinds.Nothing xs) k m in
          subst (λ i. kept p (drop i (x ∷ xs)) ≡ kept p (x ∷ xs)) (sym there.1) (later j there.0 ∙ sym (kept-no p x xs (g x f)))

-- what a scope shows is found without its ends too, at the same depth
pub shown-reach : (goals stops : Kinds) (es : List OpenElement) → seen goals stops es ≡ true → reach goals kinds.Nothing es ≡ reach goals stops es
shown-reach goals stops [] h = refl
shown-reach goals stops (x ∷ xs) h = go (within goals x) (within stops x) h (shown-reach goals stops xs)
  where
    mapped : (o : Option ℕ) → is_some (option_map suc o) ≡ is_some o
    mapped None = refl
    mapped (Some k) = refl

    go : (a b : Bool) → is_some (if a then Some 0 else (if b then None else option_map suc (reach goals stops xs))) ≡ true → (seen goals stops xs ≡ true → reach goals kinds.Nothing xs ≡ reach goals stops xs)
        → (if a then Some 0 else option_map suc (reach goals kinds.Nothing xs)) ≡ (if a then Some 0 else (if b then None else option_map suc (reach goals stops xs)))
    go true b k later = refl
    go false true k later = absurd (true≢false (sym k))
    go false false k later = ap (option_map suc) (later (sym (mapped (reach goals stops xs)) ∙ k))

-- what a scope shows it shows below a run of other kinds
pub shown-run : (goals stops names : Kinds) (es : List OpenElement) → ((e : OpenElement) → within names e ≡ true → within goals e ≡ false) → seen goals stops es ≡ true → seen goals stops (drop (run_of names es) es) ≡ true
shown-run goals stops names [] h k = k
shown-run goals stops names (x ∷ xs) h k = go (within names x) refl (shown-run goals stops names xs h)
  where
    mapped : (o : Option ℕ) → is_some (option_map suc o) ≡ is_some o
    mapped None = refl
    mapped (Some j) = refl

    below : (a b : Bool) → a ≡ false → is_some (if a then Some 0 else (if b then None else option_map suc (reach goals stops xs))) ≡ true → seen goals stops xs ≡ true
    below true b f m = absurd (true≢false f)
    below false true f m = absurd (true≢false (sym m))
    below false false f m = sym (mapped (reach goals stops xs)) ∙ m

    go : (b : Bool) → within names x ≡ b → (seen goals stops xs ≡ true → seen goals stops (drop (run_of names xs) xs) ≡ true) → seen goals stops (drop (if b then suc (run_of names xs) else 0) (x ∷ xs)) ≡ true
    go true f later = later (below (within goals x) (within stops x) (h x f) k)
    go false f later = k
