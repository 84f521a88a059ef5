-- A reconstruction that makes nothing anew.
use Rattle.std.proofs.Common.{◌≡◌, ℕ, suc, ◌==◌, Bool, true, false, List, [], ◌∷◌, Ok, length, slice_index_or, ap, refl, sym, subst, arith}
use Rattle.std.specs.Prelude.{if◌then◌else◌}
use Rattle.std.proofs.lemmas.Bool.Decides.{nat_tests}
use Rattle.hp_control.specs.declared.element.OpenElement.{OpenElement}
use Rattle.hp_control.specs.declared.element.FormattingEntry.{FormattingEntry}
use Rattle.hp_control.specs.declared.element.FormattingEntry.TheVariants.{Marker, Element}
use Rattle.hp_control.specs.Faithful.{Split}
use Rattle.hp_control.specs.Plan.{Heard, Runs}
use Rattle.hp_control.specs.Running.{runs_gives}
use Rattle.hp_views.specs.Walks.{deeper, id_walk, is_found}
use Rattle.hp_views.specs.declared.walks.Walk.{Walk}
use Rattle.hp_views.specs.declared.walks.Walk.TheVariants.{Found, PastAll}
use Rattle.hp_adoption.specs.ReconPlans.{is_settled, recon_below, recon_on, reconstruct_plan, stale_walk}
use Rattle.hp_adoption.specs.Still.{is_still, is_still_at, is_top}

not_none : (n : ℕ) → (suc n == 0) ≡ false
not_none n = grind (arith, nat_tests)

none_walked : (stack : List OpenElement) (fs : List FormattingEntry) → (length fs == 0) ≡ true → stale_walk stack fs ≡ PastAll
none_walked stack [] h = refl
none_walked stack (f ∷ fs) h = absurd (cc (not_none (length fs)))

-- without own entries it is up to the older ones
pub none_stale : (fostering : Bool) (v : Split) → (length v.change.formatting == 0) ≡ true → recon_below fostering v ≡ reconstruct_plan fostering v
none_stale fostering v h = sym (ap (recon_on fostering v) (none_walked v.change.stack v.change.formatting h))

top_found : (id : ℕ) (es : List OpenElement) → is_top id es ≡ true → is_found (id_walk id es) ≡ true
top_found id [] h = absurd (cc)
top_found id (e ∷ es) h = ap (λ (b : Bool). is_found (if b then Found 0 else deeper 1 (id_walk id es))) h

still_settled : (stack : List OpenElement) (f : FormattingEntry) → is_still_at stack f ≡ true → is_settled stack f ≡ true
still_settled stack Marker h = refl
still_settled stack (Element id tag) h = top_found id stack h

still_walked : (stack : List OpenElement) (fs : List FormattingEntry) → is_still stack fs ≡ true → stale_walk stack fs ≡ Found 0
still_walked stack [] h = absurd (cc)
still_walked stack (f ∷ fs) h = ap (λ (b : Bool). if b then Found 0 else deeper 1 (stale_walk stack fs)) (still_settled stack f h)

-- the last entry is the first of the list
pub still_first : (stack : List OpenElement) (fs : List FormattingEntry) (f : FormattingEntry) → (length fs == 0) ≡ false → f ≡ slice_index_or fs 0 f → is_still stack fs ≡ is_still_at stack f
still_first stack [] f some is = absurd (cc)
still_first stack (x ∷ fs) f some is = ap (is_still_at stack) (sym is)

pub still_runs : (h : Heard) (fostering : Bool) (v : Split) → is_still v.change.stack v.change.formatting ≡ true → Runs h h (reconstruct_plan fostering v) (Ok v)
still_runs h fostering v s =
    let P : Walk → Type 0 = λ w. Runs h h (recon_on fostering v w) (Ok v) in
    subst P (sym (still_walked v.change.stack v.change.formatting s)) (runs_gives h v)
