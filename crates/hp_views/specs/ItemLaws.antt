-- The list item, term or description that a new one ends (13.2.6.4.7): closing what the search finds with what its end implies
-- is popping up to and with it, since no item is among the elements of implied end tags that are popped first.
use Rattle.std.specs.Prelude.{◌≡◌, ℕ, suc, zero, ◌+◌, ◌-◌, ◌<◌, ◌≤◌, min, Bool, true, false, ◌||◌, if◌then◌else◌, nat_le, List, [], ◌∷◌, Option, Some, None, drop, length, refl}
use Rattle.std.specs.Option.{is_some, option_map}
use Rattle.std.specs.Str.{bytes_eq}
use Rattle.std.proofs.Common.{sym, subst, ap, ◌∙◌, arith}
use Rattle.std.proofs.lemmas.Bool.{lt-leb, le-leb, leb-true, leb-false}
use Rattle.std.proofs.lemmas.List.{drop-drop, length-drop}
use Rattle.std.proofs.lemmas.Slice.Eq.{bytes_eq-Decides}
use Rattle.hp_elements.specs.Kinds.{is_of}
use Rattle.hp_elements.specs.Names.{text_of}
use Rattle.hp_elements.specs.declared.kinds.Kinds.{Kinds}
use Rattle.hp_elements.specs.declared.kinds.Kinds.TheVariants as kinds
use Rattle.hp_elements.specs.declared.kinds.Point.{Point}
use Rattle.hp_elements.specs.KnownNames as known
use Rattle.hp_elements.specs.declared.sets.Namespace.{Namespace}
use Rattle.hp_elements.specs.declared.sets.Namespace.TheVariants.{Html, MathMl, Svg}
use Rattle.hp_elements.specs.declared.sets.SetName.TheVariants as sets
use Rattle.hp_control.specs.declared.element.OpenElement.{OpenElement}
use Rattle.hp_control.specs.Acts.{popped_by, pop_by, pop_run, through}
use Rattle.hp_control.specs.Composed.{implied_but, close, close_item, close_description}
use Rattle.hp_control.specs.KindTests.{within}
use Rattle.hp_control.specs.Outcome.{Outcome, and_then, becomes}
use Rattle.hp_control.specs.States.{ControlState}
use Rattle.hp_control.specs.Walks.{reach, run_of}
use Rattle.hp_views.specs.PopLaws.{popped_few, popped_through}
use Rattle.hp_views.specs.Reading.{reach_within}

-- no element is of both kinds
abbrev pub Apart : Kinds → Kinds → Type 0
Apart goals names = (e : OpenElement) → within goals e ≡ true → within names e ≡ false

-- the elements that are popped first stand above the goal
run_step : (a b n : Bool) (o : Option ℕ) (r d : ℕ) → (a ≡ true → n ≡ false) → ((k : ℕ) → o ≡ Some k → r ≤ k) → (if a then Some 0 else (if b then None else option_map suc o)) ≡ Some d → (if n then suc r else 0) ≤ d
run_step a b false o r d h k e = omega arith
run_step true b true o r d h k e = let z : true ≡ false = h refl in cc
run_step false true true o r d h k e = cc
run_step false false true None r d h k e = cc
run_step false false true (Some j) r d h k e = let z : suc j ≡ d = cc in let l : r ≤ j = k j refl in omega arith

run_above : (goals stops names : Kinds) → Apart goals names → (es : List OpenElement) (d : ℕ) → reach goals stops es ≡ Some d → run_of names es ≤ d
run_above goals stops names h [] d e = cc
run_above goals stops names h (x ∷ xs) d e = run_step (within goals x) (within stops x) (within names x) (reach goals stops xs) (run_of names xs) d (h x) (λ k. run_above goals stops names h xs k) e

-- below them the goal is found again, where no stop is looked for
unstopped_step : (a b : Bool) (o p : Option ℕ) (d : ℕ) → ((k : ℕ) → o ≡ Some k → p ≡ Some k) → (if a then Some 0 else (if b then None else option_map suc o)) ≡ Some d → (if a then Some 0 else option_map suc p) ≡ Some d
unstopped_step true b o p d h e = e
unstopped_step false true o p d h e = cc
unstopped_step false false None p d h e = cc
unstopped_step false false (Some k) p d h e = ap (option_map suc) (h k refl) ∙ e

unstopped : (goals stops : Kinds) (es : List OpenElement) (d : ℕ) → reach goals stops es ≡ Some d → reach goals kinds.Nothing es ≡ Some d
unstopped goals stops [] d e = cc
unstopped goals stops (x ∷ xs) d e = unstopped_step (within goals x) (within stops x) (reach goals stops xs) (reach goals kinds.Nothing xs) d (λ k. unstopped goals stops xs k) e

behind : (a b : Bool) (o : Option ℕ) (d : ℕ) → (if a then Some 0 else (if b then None else option_map suc o)) ≡ Some (suc d) → o ≡ Some d
behind true b o d e = cc
behind false true o d e = cc
behind false false None d e = cc
behind false false (Some k) d e = cc

found_below : (goals stops : Kinds) (n k : ℕ) (es : List OpenElement) → reach goals stops es ≡ Some (n + k) → reach goals kinds.Nothing (drop n es) ≡ Some k
found_below goals stops zero k es e = unstopped goals stops es k (e ∙ ap Some (let z : 0 + k ≡ k = omega arith in z))
found_below goals stops (suc n) k [] e = cc
found_below goals stops (suc n) k (x ∷ xs) e = found_below goals stops n k xs (behind (within goals x) (within stops x) (reach goals stops xs) (n + k) (e ∙ ap Some (let z : suc n + k ≡ suc (n + k) = omega arith in z)))

-- so many and then the goal are popped at once
popped_twice : (n k : ℕ) (es : List OpenElement) → n + k < length es → popped_by (n + k + 1) es ≡ popped_by (k + 1) (popped_by n es)
popped_twice n k es l =
    let few : popped_by n es ≡ drop n es = popped_few n es (omega (arith, l)) in
    ap (λ m. drop m es) (let e : min (n + k + 1) (length es - 1) ≡ n + min (k + 1) (length es - n - 1) = omega (arith, l) in e)
    ∙ (sym (drop-drop (min (k + 1) (length es - n - 1)) n es)
    ∙ (ap (λ m. drop (min (k + 1) (m - 1)) (drop n es)) (sym (length-drop n es))
    ∙ ap (popped_by (k + 1)) (sym few)))

spared_by : (n k m : ℕ) (b : Bool) → nat_le m (n + k + 1) ≡ b → nat_le (m - n) (k + 1) ≡ b
spared_by n k m true e = le-leb (m - n) (k + 1) (let l : m ≤ n + k + 1 = leb-true m (n + k + 1) e in omega (arith, l))
spared_by n k m false e = lt-leb (m - n) (k + 1) (let l : n + k + 1 < m = leb-false m (n + k + 1) e in omega (arith, l))

spared_once : (n k : ℕ) (es : List OpenElement) → n + k < length es → nat_le (length es) (n + k + 1) ≡ (nat_le (length es) n || nat_le (length (popped_by n es)) (k + 1))
spared_once n k es l =
    let few : popped_by n es ≡ drop n es = popped_few n es (omega (arith, l)) in
    sym (ap (λ b. b || nat_le (length (popped_by n es)) (k + 1)) (lt-leb (length es) n (omega (arith, l)))
    ∙ (ap (λ xs. nat_le (length xs) (k + 1)) few
    ∙ (ap (λ m. nat_le m (k + 1)) (length-drop n es) ∙ spared_by n k (length es) (nat_le (length es) (n + k + 1)) refl)))

-- an outcome by its stack and by whether the only element was to be popped
abbrev popping : ControlState → List OpenElement → Bool → Outcome
popping c stack spared = record { control = record c { stack = stack }; edits = []; touched = []; spared = spared }

closed_at : (goals stops names : Kinds) (c : ControlState) (n k : ℕ) → n ≡ run_of names c.stack → reach goals stops c.stack ≡ Some (n + k) → pop_by (n + k + 1) c ≡ and_then (pop_run names) (through goals kinds.Nothing) c
closed_at goals stops names c n k is e =
    let es = c.stack in
    let l : n + k < length es = reach_within goals stops es (n + k) e in
    let here : reach goals kinds.Nothing (popped_by n es) ≡ Some k = ap (reach goals kinds.Nothing) (popped_few n es (omega (arith, l))) ∙ found_below goals stops n k es e in
    let P : ℕ → Type 0 = λ m. pop_by (n + k + 1) c ≡ and_then (pop_by m) (through goals kinds.Nothing) c in
    subst P is
    (ap (λ xs. popping c xs (nat_le (length es) (n + k + 1))) (popped_twice n k es l)
    ∙ (ap (popping c (popped_by (k + 1) (popped_by n es))) (spared_once n k es l)
    ∙ ap (λ o. and_then (pop_by n) (popped_through o) c) (sym here)))

closed : (goals stops names : Kinds) → Apart goals names → (c : ControlState) (d : ℕ) → reach goals stops c.stack ≡ Some d → pop_by (d + 1) c ≡ and_then (pop_run names) (through goals kinds.Nothing) c
closed goals stops names h c d e =
    let n = run_of names c.stack in
    let l : n ≤ d = run_above goals stops names h c.stack d e in
    let z : d ≡ n + (d - n) = omega (arith, l) in
    let P : ℕ → Type 0 = λ m. pop_by (m + 1) c ≡ and_then (pop_run names) (through goals kinds.Nothing) c in
    subst P (sym z) (closed_at goals stops names c n (d - n) refl (e ∙ ap Some z))

-- of the elements whose end tags are implied none but the own name is taken out
bytes_turned : (xs ys : List ℕ) → bytes_eq xs ys ≡ bytes_eq ys xs
bytes_turned xs ys = go (bytes_eq xs ys) (bytes_eq ys xs) refl refl
  where
    go : (a b : Bool) → bytes_eq xs ys ≡ a → bytes_eq ys xs ≡ b → a ≡ b
    go true true e f = refl
    go false false e f = refl
    go true false e f = sym ((bytes_eq-Decides ys xs).1 (sym ((bytes_eq-Decides xs ys).0 e))) ∙ f
    go false true e f = sym e ∙ (bytes_eq-Decides xs ys).1 (sym ((bytes_eq-Decides ys xs).0 f))

-- a test of an HTML element by its name, where the name passes it
by_name : (goal other : Kinds) (name : List ℕ) (b : Bool) → ((space : Namespace) (text : List ℕ) (at : Point) → is_of goal space text at ≡ true → (space ≡ Html) × (text ≡ name))
    → ((at : Point) → is_of other Html name at ≡ b) → (e : OpenElement) → within goal e ≡ true → within other e ≡ b
by_name goal other name b named passes e h =
    let is = named e.namespace e.name e.point h in
    ap (λ space. is_of other space e.name e.point) is.0 ∙ (ap (λ text. is_of other Html text e.point) is.1 ∙ passes e.point)

html_named : (name : List ℕ) (space : Namespace) (text : List ℕ) (at : Point) → is_of (kinds.Html name) space text at ≡ true → (space ≡ Html) × (text ≡ name)
html_named name Html text at h = (refl, sym ((bytes_eq-Decides name text).0 h))
html_named name MathMl text at h = absurd (cc)
html_named name Svg text at h = absurd (cc)

item_apart : Apart (kinds.Html (text_of known.Li)) (kinds.Set (implied_but known.Li))
item_apart = by_name (kinds.Html (text_of known.Li)) (kinds.Set (implied_but known.Li)) (text_of known.Li) false (html_named (text_of known.Li)) (λ at. refl)

description_apart : Apart (kinds.Html (text_of known.Dd)) (kinds.Set (implied_but known.Dd))
description_apart = by_name (kinds.Html (text_of known.Dd)) (kinds.Set (implied_but known.Dd)) (text_of known.Dd) false (html_named (text_of known.Dd)) (λ at. refl)

term_apart : Apart (kinds.Html (text_of known.Dt)) (kinds.Set (implied_but known.Dt))
term_apart = by_name (kinds.Html (text_of known.Dt)) (kinds.Set (implied_but known.Dt)) (text_of known.Dt) false (html_named (text_of known.Dt)) (λ at. refl)

-- a term ends the search for a description
term_stops : (e : OpenElement) → within (kinds.Html (text_of known.Dt)) e ≡ true → within (kinds.Set sets.ItemBarriers) e ≡ true
term_stops = by_name (kinds.Html (text_of known.Dt)) (kinds.Set sets.ItemBarriers) (text_of known.Dt) true (html_named (text_of known.Dt)) (λ at. refl)

-- the search for either is that for a description, and then that for a term
either_kind : (space : Namespace) (name : List ℕ) (at : Point) → is_of (kinds.Set sets.DescriptionItems) space name at ≡ (is_of (kinds.Html (text_of known.Dd)) space name at || is_of (kinds.Html (text_of known.Dt)) space name at)
either_kind Html name at =
    ap (λ b. b || (bytes_eq name (text_of known.Dt) || false)) (bytes_turned name (text_of known.Dd))
    ∙ ap (λ b. bytes_eq (text_of known.Dd) name || b) (last (bytes_eq name (text_of known.Dt)) ∙ bytes_turned name (text_of known.Dt))
  where
    last : (b : Bool) → (b || false) ≡ b
    last true = refl
    last false = refl
either_kind MathMl name at = refl
either_kind Svg name at = refl

abbrev found_first : Option ℕ → Option ℕ → Option ℕ
found_first None o = o
found_first (Some k) o = Some k

deeper_first : (o p : Option ℕ) → option_map suc (found_first o p) ≡ found_first (option_map suc o) (option_map suc p)
deeper_first None p = refl
deeper_first (Some k) p = refl

first_step : (a b stop : Bool) (o p q : Option ℕ) → (b ≡ true → stop ≡ true) → q ≡ found_first o p
    → (if a || b then Some 0 else (if stop then None else option_map suc q)) ≡ found_first (if a then Some 0 else (if stop then None else option_map suc o)) (if b then Some 0 else (if stop then None else option_map suc p))
first_step true b stop o p q h e = refl
first_step false true true o p q h e = refl
first_step false true false o p q h e = let z : false ≡ true = h refl in cc
first_step false false true o p q h e = refl
first_step false false false o p q h e = ap (option_map suc) e ∙ deeper_first o p

first_of_both : (es : List OpenElement) → reach (kinds.Set sets.DescriptionItems) (kinds.Set sets.ItemBarriers) es ≡ found_first (reach (kinds.Html (text_of known.Dd)) (kinds.Set sets.ItemBarriers) es) (reach (kinds.Html (text_of known.Dt)) (kinds.Set sets.ItemBarriers) es)
first_of_both [] = refl
first_of_both (e ∷ es) =
    let rest = reach (kinds.Set sets.DescriptionItems) (kinds.Set sets.ItemBarriers) es in
    let stop = within (kinds.Set sets.ItemBarriers) e in
    ap (λ b. if b then Some 0 else (if stop then None else option_map suc rest)) (either_kind e.namespace e.name e.point)
    ∙ first_step (within (kinds.Html (text_of known.Dd)) e) (within (kinds.Html (text_of known.Dt)) e) stop (reach (kinds.Html (text_of known.Dd)) (kinds.Set sets.ItemBarriers) es) (reach (kinds.Html (text_of known.Dt)) (kinds.Set sets.ItemBarriers) es) rest (term_stops e) (first_of_both es)

-- what each act does, by where the search ends
item_by : (c : ControlState) (o : Option ℕ) → reach (kinds.Html (text_of known.Li)) (kinds.Set sets.ItemBarriers) c.stack ≡ o → popped_through o c ≡ (if is_some o then close known.Li c else becomes c)
item_by c None e = refl
item_by c (Some d) e = closed (kinds.Html (text_of known.Li)) (kinds.Set sets.ItemBarriers) (kinds.Set (implied_but known.Li)) item_apart c d e

pub item_walk : (c : ControlState) → through (kinds.Html (text_of known.Li)) (kinds.Set sets.ItemBarriers) c ≡ close_item c
item_walk c = item_by c (reach (kinds.Html (text_of known.Li)) (kinds.Set sets.ItemBarriers) c.stack) refl

description_by : (c : ControlState) (o p : Option ℕ) → reach (kinds.Html (text_of known.Dd)) (kinds.Set sets.ItemBarriers) c.stack ≡ o → reach (kinds.Html (text_of known.Dt)) (kinds.Set sets.ItemBarriers) c.stack ≡ p
    → popped_through (found_first o p) c ≡ (if is_some o then close known.Dd c else (if is_some p then close known.Dt c else becomes c))
description_by c None None e f = refl
description_by c None (Some d) e f = closed (kinds.Html (text_of known.Dt)) (kinds.Set sets.ItemBarriers) (kinds.Set (implied_but known.Dt)) term_apart c d f
description_by c (Some d) p e f = closed (kinds.Html (text_of known.Dd)) (kinds.Set sets.ItemBarriers) (kinds.Set (implied_but known.Dd)) description_apart c d e

pub description_walk : (c : ControlState) → through (kinds.Set sets.DescriptionItems) (kinds.Set sets.ItemBarriers) c ≡ close_description c
description_walk c =
    ap (λ o. popped_through o c) (first_of_both c.stack)
    ∙ description_by c (reach (kinds.Html (text_of known.Dd)) (kinds.Set sets.ItemBarriers) c.stack) (reach (kinds.Html (text_of known.Dt)) (kinds.Set sets.ItemBarriers) c.stack) refl refl
