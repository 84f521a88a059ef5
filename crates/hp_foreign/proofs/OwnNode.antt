-- Where a token goes, by whether the current node is the view's own.
use Rattle.std.proofs.Common.{◌≡◌, ℕ, suc, Bool, true, false, List, [], ◌∷◌, length, get_or, Ok, refl, ap, sym, subst, ◌∙◌, arith}
use Rattle.std.specs.Prelude.{◌==◌, if◌then◌else◌}
use Rattle.std.proofs.lemmas.Bool.Decides.{nat_tests}
use Rattle.hp_elements.specs.declared.token.Kind.{Kind}
use Rattle.hp_control.specs.declared.element.OpenElement.{OpenElement}
use Rattle.hp_control.specs.Faithful.{Split}
use Rattle.hp_control.specs.Foreign.{is_end_of_input, is_foreign_at}
use Rattle.hp_control.specs.Plan.{Heard, Plan, Runs, gives}
use Rattle.hp_control.specs.Running.{runs_gives}
use Rattle.hp_views.specs.View.{Finds}
use Rattle.hp_foreign.specs.Plans.{goes_on, goes_plan, older_goes}

own_one : (token : Kind) (v : Split) (es : List OpenElement) (e : OpenElement) → (length es == 0) ≡ false → e ≡ get_or es 0 e → goes_on token v es ≡ gives (is_foreign_at token e)
own_one token v [] e some is = absurd (cc)
own_one token v (x ∷ xs) e some is = ap (λ (o : OpenElement). gives (is_foreign_at token o)) (sym is)

not_none : (n : ℕ) → (suc n == 0) ≡ false
not_none n = grind (arith, nat_tests)

no_own : (token : Kind) (v : Split) (es : List OpenElement) (ended : Bool) → (length es == 0) ≡ true → is_end_of_input token ≡ ended → goes_on token v es ≡ (if ended then gives false else older_goes token v)
no_own token v [] ended none is = ap (λ (b : Bool). if b then gives false else older_goes token v) is
no_own token v (x ∷ xs) ended none is = absurd (cc (not_none (length xs)))

given : (heard : Heard) (v : Split) (plan : Split → Plan Bool) (goes : Bool) → plan v ≡ gives goes → Finds (record { heard = heard; split = v }) (record { heard = heard; split = v }) plan goes
given heard v plan goes is =
    let P : Plan Bool → Type 0 = λ p. Runs heard heard p (Ok goes) in
    record { runs = subst P (sym is) (runs_gives heard goes); same = refl }

-- its own
pub own_goes : (heard : Heard) (v : Split) (token kind : Kind) (e : OpenElement) (goes : Bool) → (length v.change.stack == 0) ≡ false → e ≡ get_or v.change.stack 0 e → kind ≡ token → goes ≡ is_foreign_at kind e
    → Finds (record { heard = heard; split = v }) (record { heard = heard; split = v }) (goes_plan token) goes
own_goes heard v token kind e goes some is same told = given heard v (goes_plan token) goes (own_one token v v.change.stack e some is ∙ ap gives (sym (told ∙ ap (λ (k : Kind). is_foreign_at k e) same)))

-- none, at the end of input
pub ended_goes : (heard : Heard) (v : Split) (token kind : Kind) → (length v.change.stack == 0) ≡ true → kind ≡ token → is_end_of_input kind ≡ true → Finds (record { heard = heard; split = v }) (record { heard = heard; split = v }) (goes_plan token) false
ended_goes heard v token kind none same ended = given heard v (goes_plan token) false (no_own token v v.change.stack true none (ap is_end_of_input (sym same) ∙ ended))

-- an older one
pub older_plan : (v : Split) (token kind : Kind) → (length v.change.stack == 0) ≡ true → kind ≡ token → is_end_of_input kind ≡ false → older_goes kind v ≡ goes_plan token v
older_plan v token kind none same goes_on = ap (λ (k : Kind). older_goes k v) same ∙ sym (no_own token v v.change.stack false none (ap is_end_of_input (sym same) ∙ goes_on))
