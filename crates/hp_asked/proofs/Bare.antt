-- What a view edited so far is read by no plan.
use Rattle.std.proofs.Common.{◌≡◌, Bool, true, false, ap, ◌∙◌, sym}
use Rattle.std.specs.Prelude.{[]}
use Rattle.hp_control.specs.Faithful.{Split}
use Rattle.hp_control.specs.Plan.{Plan, gives, followed_by}
use Rattle.hp_views.specs.ClosingPlans.{by_test, either, first_then}
use Rattle.hp_acts.proofs.PlainRuns.{follow_assoc}

-- the view without its edits
abbrev pub bare : Split → Split
bare v = record v { edits = [] }

-- a plan of which the end is told so
abbrev pub told_as : {X : Type 0} → (X → X) → Plan X → Plan X
told_as f p = followed_by p (λ x. gives (f x))

-- the same with and without the view's edits
abbrev pub IsBlind : (Split → Plan Split) → Type 0
IsBlind p = (v : Split) → told_as bare (p v) ≡ told_as bare (p (bare v))

-- behind a plan that ends alike
pub same-then : {X Y : Type 0} (g : Y → Y) (p : Plan X) (q r : X → Plan Y) → ((x : X) → told_as g (q x) ≡ told_as g (r x)) → told_as g (followed_by p q) ≡ told_as g (followed_by p r)
same-then g p q r h = follow_assoc p q (λ y. gives (g y)) ∙ (ap (followed_by p) (λ i. λ x. h x i) ∙ sym (follow_assoc p r (λ y. gives (g y))))

told-first : {X Y : Type 0} (f : X → X) (g : Y → Y) (p : Plan X) (q : X → Plan Y) → ((x : X) → told_as g (q x) ≡ told_as g (q (f x))) → told_as g (followed_by p q) ≡ followed_by (told_as f p) (λ x. told_as g (q x))
told-first f g p q h =
    follow_assoc p q (λ y. gives (g y))
    ∙ (ap (followed_by p) (λ i. λ x. h x i)
    ∙ sym (follow_assoc p (λ x. gives (f x)) (λ x. told_as g (q x))))

pub blind-then : {X Y : Type 0} (f : X → X) (g : Y → Y) (p r : Plan X) (q : X → Plan Y) → told_as f p ≡ told_as f r → ((x : X) → told_as g (q x) ≡ told_as g (q (f x))) → told_as g (followed_by p q) ≡ told_as g (followed_by r q)
blind-then f g p r q e h = told-first f g p q h ∙ (ap (λ s. followed_by s (λ x. told_as g (q x))) e ∙ sym (told-first f g r q h))

-- the first, then the second
pub first-blind : (p q : Split → Plan Split) → IsBlind p → IsBlind q → IsBlind (first_then p q)
first-blind p q h k v = blind-then bare bare (p v) (p (bare v)) q (h v) k

either-blind : (p q : Split → Plan Split) → IsBlind p → IsBlind q → (b : Bool) (v : Split) → told_as bare (either p q b v) ≡ told_as bare (either p q b (bare v))
either-blind p q h k true v = h v
either-blind p q h k false v = k v

-- the first or the second by a test
pub test-blind : (t : Split → Plan Bool) (p q : Split → Plan Split) → ((v : Split) → t v ≡ t (bare v)) → IsBlind p → IsBlind q → IsBlind (by_test t p q)
test-blind t p q e h k v =
    ap (λ s. told_as bare (followed_by s (λ b. either p q b v))) (e v)
    ∙ same-then bare (t (bare v)) (λ b. either p q b v) (λ b. either p q b (bare v)) (λ b. either-blind p q h k b v)
