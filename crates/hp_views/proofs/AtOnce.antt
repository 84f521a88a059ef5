-- What is given without a question, and what one question gives.
use Rattle.std.specs.Prelude.{◌≡◌, ◌+◌, ◌==◌, ℕ, true, if◌then◌else◌, List, [], ◌∷◌, length, Ok, refl}
use Rattle.std.proofs.Common.{subst, sym, ap, ◌∙◌, arith}
use Rattle.std.proofs.lemmas.Bool.{eqb-true, eq-eqb, le-ltb}
use Rattle.hp_elements.specs.declared.kinds.Kinds.{Kinds}
use Rattle.hp_control.specs.declared.element.FormattingEntry.{FormattingEntry}
use Rattle.hp_control.specs.declared.element.OpenElement.{OpenElement}
use Rattle.hp_control.specs.declared.question.Crossing.TheVariants.{X3}
use Rattle.hp_control.specs.Faithful.{Split}
use Rattle.hp_control.specs.Plan.{Heard, Runs, gives, crosses}
use Rattle.hp_control.specs.Running.{runs_gives}
use Rattle.hp_views.specs.declared.walks.Walk.{Walk}
use Rattle.hp_views.specs.declared.walks.Walk.TheVariants.{Found, Stopped}
use Rattle.hp_views.specs.FieldPlans.{with_change}
use Rattle.hp_views.specs.FormPlans.{older_off_at, older_off_plan}
use Rattle.hp_views.specs.ListPlans.{cut}
use Rattle.hp_views.specs.StackPlans.{own_popped, pop_plan, through_on, through_plan}
use Rattle.hp_views.specs.Walks.{walk_of}

pub gives_at_once : {X : Type 0} (h : Heard) (x : X) → Runs h h (gives x) (Ok x)
gives_at_once h x = runs_gives h x

pub gives_same : {X : Type 0} (h : Heard) (x y : X) → x ≡ y → Runs h h (gives x) (Ok y)
gives_same {X} h x y e = let P : X → Type 0 = λ z. Runs h h (gives x) (Ok z) in subst P e (gives_at_once h x)

-- a list cut down to its last marker
pub cut_down : (v : Split) (es : List FormattingEntry) (n : ℕ) → es ≡ [] → n ≡ v.change.cuts + 1 → with_change (cut v.change) v ≡ with_change (record v.change { formatting = es; cuts = n }) v
cut_down v es n e f =
    ap (λ xs. with_change (record v.change { formatting = xs; cuts = v.change.cuts + 1 }) v) (sym e)
    ∙ ap (λ (k : ℕ). with_change (record v.change { formatting = es; cuts = k }) v) (sym f)

-- popped up to and with an own element
pub through_found : (goals stops : Kinds) (v w : Split) (k : ℕ) (h i : Heard) → walk_of goals stops v.change.stack ≡ Found k → w ≡ own_popped (k + 1) v → i ≡ h → Runs h i (through_plan goals stops v) (Ok w)
through_found goals stops v w k h i found popped same =
    let P : Walk → Type 0 = λ walk. Runs h h (through_on goals stops v walk) (Ok w) in
    let Q : Heard → Type 0 = λ x. Runs h x (through_plan goals stops v) (Ok w) in
    subst Q (sym same) (subst P (sym found) (gives_same h (own_popped (k + 1) v) w (sym popped)))

-- nothing is popped where a stop stands above
pub through_stopped : (goals stops : Kinds) (v w : Split) (h i : Heard) → walk_of goals stops v.change.stack ≡ Stopped → w ≡ v → i ≡ h → Runs h i (through_plan goals stops v) (Ok w)
through_stopped goals stops v w h i stopped left same =
    let P : Walk → Type 0 = λ walk. Runs h h (through_on goals stops v walk) (Ok w) in
    let Q : Heard → Type 0 = λ x. Runs h x (through_plan goals stops v) (Ok w) in
    subst Q (sym same) (subst P (sym stopped) (gives_same h v w (sym left)))

none_there : (es : List OpenElement) → (length es == 0) ≡ true → es ≡ []
none_there [] h = refl
none_there (e ∷ es) h = let z : length (e ∷ es) ≡ 0 = eqb-true (length (e ∷ es)) 0 h in absurd (omega arith)

-- the older current node leaves the stack
pub older_popped : (depth : ℕ) (v : Split) → (length v.change.stack == 0) ≡ true → depth ≡ v.change.popped → pop_plan v ≡ older_off_plan depth v
older_popped depth v none same =
    sym (ap (λ b. if b then gives v else older_off_at depth v v.change.stack) (le-ltb depth v.change.popped (omega (arith, same)))
    ∙ (ap (older_off_at depth v) (none_there v.change.stack none)
    ∙ ap (λ b. if b then pop_plan v else crosses X3) (eq-eqb depth v.change.popped same)))
