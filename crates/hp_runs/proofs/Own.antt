-- Steps along which nothing older is touched, and what of some tokens touches something older first.
use Rattle.std.proofs.Common.{◌≡◌, ℕ, List, [], ◌∷◌, ◌++◌, Bool, true, false, not, ◌⊎◌, inl, inr, refl, ap, ◌∙◌, sym, subst, append_assoc}
use Rattle.std.specs.Prelude.{◌&&◌}
use Rattle.hp_elements.specs.declared.token.Token.{Token}
use Rattle.hp_tokens.specs.Advancing.{tokens_of}
use Rattle.hp_tokens.specs.Groups.{AllBegan}
use Rattle.hp_tokens.specs.Moves.{Emitted, Lexing, Rules, makes, move}
use Rattle.hp_control.specs.declared.edit.Edit.{Edit}
use Rattle.hp_control.specs.Outcome.{touches_any}
use Rattle.hp_control.specs.States.{ControlState}
use Rattle.hp_model.specs.Handling.{handle}
use Rattle.hp_model.specs.Runs.{Goes, here as stays, onward as steps_on, Parser, step}
use Rattle.hp_model.specs.Turns.{left_by}
use Rattle.hp_runs.specs.Handling.{left_after}
use Rattle.hp_runs.specs.Touching.{GoesOwn, here, onward, TouchesAt, TouchesFrom, touching_here, untouched}

module _ (rules : Rules) (s : ControlState) where
  -- steps along which nothing older is touched are steps
  pub own-goes : {p q : Parser} {es : List Edit} → GoesOwn rules s p es q → Goes (step rules) p es q
  own-goes here = stays
  own-goes (onward e u g) = steps_on e (own-goes g)

  pub own-join : {p q r : Parser} {es fs : List Edit} → GoesOwn rules s p es q → GoesOwn rules s q fs r → GoesOwn rules s p (es ++ fs) r
  own-join here g = g
  own-join {p} {r = r} {fs = fs} (onward {es = first} {fs = later} e u g) h =
      let P : List Edit → Type 0 = λ xs. GoesOwn rules s p xs r in
      subst P (sym (append_assoc first later fs)) (onward e u (own-join g h))

  -- what is made next touches something older
  pub record Touching (p : Parser) (place : ℕ) : Type 0 where
    pub next : Lexing
    pub emitted : List Emitted
    pub makes_them : move rules p.lexing ≡ makes next emitted
    pub touches : TouchesAt s p.control emitted place

  pub touching-from : {from : Parser} {place : ℕ} (t : TouchesFrom rules s from place) → Touching t.there place
  touching-from t = record { next = t.next; emitted = t.emitted; makes_them = t.makes_them; touches = t.touches }

  pub from-touching : {p q : Parser} {es : List Edit} {place : ℕ} → GoesOwn rules s p es q → Touching q place → TouchesFrom rules s p place
  from-touching {q = q} {es = es} g t = record { there = q; edits = es; goes = g; next = t.next; emitted = t.emitted; makes_them = t.makes_them; touches = t.touches }

both_assoc : (a b c : Bool) → (a && (b && c)) ≡ ((a && b) && c)
both_assoc true b c = refl
both_assoc false b c = refl

pub untouched-append : (s c : ControlState) (xs ys : List Token) → untouched s c (xs ++ ys) ≡ (untouched s c xs && untouched s (left_after handle c xs) ys)
untouched-append s c [] ys = refl
untouched-append s c (x ∷ xs) ys =
    ap (λ b. not (touches_any s (handle c x).outcome) && b) (untouched-append s (left_by (handle c x)) xs ys)
    ∙ both_assoc (not (touches_any s (handle c x).outcome)) (untouched s (left_by (handle c x)) xs) (untouched s (left_after handle (left_by (handle c x)) xs) ys)

found_cases : (b u : Bool) (began : ℕ) (Y : ℕ → Type 0) → (u ≡ false → (place : ℕ) × Y place) → (not b && u) ≡ false → (place : ℕ) × touching_here b (place ≡ began) (Y place)
found_cases true u began Y k h = (began, refl)
found_cases false u began Y k h = k h

pub touch_found : (s c : ControlState) (es : List Emitted) → untouched s c (tokens_of es) ≡ false → (place : ℕ) × TouchesAt s c es place
touch_found s c [] h = let no : true ≡ false = h in cc
touch_found s c (e ∷ es) h =
    found_cases (touches_any s (handle c e.token).outcome) (untouched s (left_by (handle c e.token)) (tokens_of es)) e.began
    (TouchesAt s (left_by (handle c e.token)) es) (touch_found s (left_by (handle c e.token)) es) h

began_cases : (b : Bool) (place began rested : ℕ) (Y : Type 0) → began ≡ rested → (Y → place ≡ rested) → touching_here b (place ≡ began) Y → place ≡ rested
began_cases true place began rested Y e k t = t ∙ e
began_cases false place began rested Y e k t = k t

pub touches-began : (s c : ControlState) (es : List Emitted) (place rested : ℕ) → AllBegan es rested → TouchesAt s c es place → place ≡ rested
touches-began s c [] place rested a t = absurd t
touches-began s c (e ∷ es) place rested a t =
    began_cases (touches_any s (handle c e.token).outcome) place e.began rested (TouchesAt s (left_by (handle c e.token)) es place) a.0
    (touches-began s (left_by (handle c e.token)) es place rested a.1) t

-- what touches first is in front, or behind what doesn't touch
split_cases : (b u : Bool) (A X Y Z : Type 0) → (X → Y ⊎ ((u ≡ true) × Z)) → touching_here b A X → touching_here b A Y ⊎ (((not b && u) ≡ true) × Z)
split_cases true u A X Y Z k t = inl t
split_cases false u A X Y Z k t = k t

pub touches-split : (s c : ControlState) (xs ys : List Emitted) (place : ℕ) → TouchesAt s c (xs ++ ys) place
    → TouchesAt s c xs place ⊎ ((untouched s c (tokens_of xs) ≡ true) × TouchesAt s (left_after handle c (tokens_of xs)) ys place)
touches-split s c [] ys place t = inr (refl, t)
touches-split s c (x ∷ xs) ys place t =
    let d : ControlState = left_by (handle c x.token) in
    split_cases (touches_any s (handle c x.token).outcome) (untouched s d (tokens_of xs)) (place ≡ x.began) (TouchesAt s d (xs ++ ys) place) (TouchesAt s d xs place)
    (TouchesAt s (left_after handle d (tokens_of xs)) ys place) (touches-split s d xs ys place) t
