-- Entries that are made anew one after the other.
use Rattle.std.proofs.Common.{◌≡◌, ℕ, zero, suc, ◌<◌, ◌≤◌, Bool, List, [], ◌∷◌, Option, Some, None, Ok, length, slice_get, slice_set, slice_index_or, ap, sym, subst, refl, ◌∙◌, arith}
use Rattle.hp_control.specs.declared.element.FormattingEntry.{FormattingEntry}
use Rattle.hp_control.specs.declared.element.FormattingEntry.TheVariants.{Marker}
use Rattle.hp_control.specs.Faithful.{Split}
use Rattle.hp_control.specs.Plan.{Plan, Heard, Runs}
use Rattle.hp_control.specs.Running.{Partway, runs_gives, runs_then}
use Rattle.hp_views.specs.FieldPlans.{with_change}
use Rattle.hp_views.specs.ListPlans.{with_entries}
use Rattle.hp_adoption.specs.ReconPlans.{renew_on, renew_plan, renew_down_plan}

pub got : {X : Type 0} (xs : List X) (k : ℕ) (x : X) → k < length xs → x ≡ slice_index_or xs k x → slice_get xs k ≡ Some x
got [] k x h e = absurd (omega (arith, h))
got (y ∷ ys) zero x h e = ap Some (sym e)
got (y ∷ ys) (suc k) x h e = got ys k x (omega (arith, h)) e

-- an item put back in its place
pub put_back : {X : Type 0} (xs : List X) (k : ℕ) (x : X) → k < length xs → x ≡ slice_index_or xs k x → slice_set xs k x ≡ xs
put_back [] k x h e = absurd (omega (arith, h))
put_back (z ∷ zs) zero x h e = ap (λ v. v ∷ zs) e
put_back (z ∷ zs) (suc k) x h e = ap (λ l. z ∷ l) (put_back zs k x (omega (arith, h)) e)

pub past_end : {X : Type 0} (xs : List X) (k : ℕ) → length xs ≤ k → slice_get xs k ≡ None
past_end [] zero h = refl
past_end [] (suc k) h = refl
past_end (x ∷ xs) zero h = absurd (omega (arith, h))
past_end (x ∷ xs) (suc k) h = past_end xs k (omega (arith, h))

pub set_twice : {X : Type 0} (xs : List X) (k : ℕ) (x y : X) → slice_set (slice_set xs k x) k y ≡ slice_set xs k y
set_twice [] zero x y = refl
set_twice [] (suc k) x y = refl
set_twice (z ∷ zs) zero x y = refl
set_twice (z ∷ zs) (suc k) x y = ap (λ l. z ∷ l) (set_twice zs k x y)

-- past the list's end there is nothing to renew
pub past_renews : (h : Heard) (fostering : Bool) (k : ℕ) (v : Split) → length v.change.formatting ≤ k → Runs h h (renew_plan fostering k v) (Ok v)
past_renews h fostering k v l =
    let P : Option FormattingEntry → Type 0 = λ o. Runs h h (renew_on fostering k v o) (Ok v) in
    subst P (sym (past_end v.change.formatting k l)) (runs_gives h v)

-- a marker stays
pub marker_renews : (h : Heard) (fostering : Bool) (k : ℕ) (v : Split) (x : FormattingEntry) (list : List FormattingEntry) → k < length v.change.formatting → x ≡ Marker → x ≡ slice_index_or v.change.formatting k x → list ≡ slice_set v.change.formatting k Marker → Runs h h (renew_plan fostering k v) (Ok (with_change (with_entries list v.change) v))
marker_renews h fostering k v x list l e m n =
    let xs = v.change.formatting in
    let Is : FormattingEntry → Type 0 = λ y. y ≡ slice_index_or xs k y in
    let there : Marker ≡ slice_index_or xs k Marker = subst Is e m in
    let P : Option FormattingEntry → Type 0 = λ o. Runs h h (renew_on fostering k v o) (Ok v) in
    let Q : List FormattingEntry → Type 0 = λ es. Runs h h (renew_plan fostering k v) (Ok (with_change (with_entries es v.change) v)) in
    subst Q (sym (n ∙ put_back xs k Marker l there)) (subst P (sym (got xs k Marker l there)) (runs_gives h v))

-- one more entry
pub down_step : (start now next : Heard) (whole : Plan Split) (fostering : Bool) (n m k : ℕ) (v w : Split) → n ≡ suc m → k ≡ m → Partway start now whole (renew_down_plan fostering n v) → Runs now next (renew_plan fostering k v) (Ok w) → Partway start next whole (renew_down_plan fostering m w)
down_step start now next whole fostering n m k v w e f part run =
    let P : ℕ → Type 0 = λ x. Partway start now whole (renew_down_plan fostering x v) in
    let Q : ℕ → Type 0 = λ x. Runs now next (renew_plan fostering x v) (Ok w) in
    λ new end r. (subst P e part) new end (runs_then (renew_down_plan fostering m) (subst Q f run) r)
