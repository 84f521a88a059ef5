-- A turn, and turns, carried out.
use Rattle.std.proofs.Common.{◌≡◌, ℕ, zero, suc, ◌+◌, ◌-◌, ◌<◌, ◌≤◌, Bool, true, false, List, Some, None, Result, Ok, Err, refl, ap, sym, subst, ◌∙◌, arith}
use Rattle.std.specs.Prelude.{if◌then◌else◌}
use Rattle.hp_elements.specs.Rules.{acts_for}
use Rattle.hp_elements.specs.Tokens.{kind_of}
use Rattle.hp_elements.specs.declared.act.Act.{Act}
use Rattle.hp_elements.specs.declared.token.Mode.{Mode}
use Rattle.hp_elements.specs.declared.token.Token.{Token}
use Rattle.hp_control.specs.declared.change.Refusal.{Refusal}
use Rattle.hp_control.specs.declared.change.Refusal.TheVariants.{Crossed, NoMemory}
use Rattle.hp_control.specs.declared.question.Crossing.{Crossing}
use Rattle.hp_control.specs.declared.question.Crossing.TheVariants.{X3, X4}
use Rattle.hp_control.specs.Faithful.{Split}
use Rattle.hp_control.specs.Plan.{Plan, crosses, followed_by, Heard, Runs}
use Rattle.hp_control.specs.Running.{Partway, runs_crosses, runs_gives, runs_then}
use Rattle.hp_foreign.specs.Plans.{goes_plan}
use Rattle.hp_views.specs.View.{Sight, Finds}
use Rattle.hp_rules_rest.specs.Foreign.{foreign}
use Rattle.hp_rules_rest.specs.Whole.{every_mode_rows}
use Rattle.hp_acts.specs.Carrying.{Comes, row_plan}
use Rattle.hp_acts.specs.HandlePlans.{turns_plan, where_again}
use Rattle.hp_acts.specs.Handling.{Handles}
use Rattle.hp_acts.specs.declared.turns.Handled.{Handled}
use Rattle.hp_acts.specs.RowPlans.{Reached, Came, left, again, dispatched, foreign_plan, is_early, mode_plan, rules_plan, turn_plan}

pub runs_crossed : {X : Type 0} (h : Heard) (crossing : Crossing) → Runs {X = X} h h (crosses crossing) (Err crossing)
runs_crossed {X} h crossing = record { ends = refl; noted = (runs_gives {X = Unit {0}} h tt).noted }

comes_then : {X : Type 0} (result : Result Bool Refusal) (a b c : Heard) (p : Plan X) (x : X) (next : X → Plan Came) (t : Token) (r : Reached) → Runs a b p (Ok x) → Comes result b c (next x) t r → Comes result a c (followed_by p next) t r
comes_then (Ok true) a b c p x next t r h k = runs_then next h k
comes_then (Ok false) a b c p x next t r h k = runs_then next h k
comes_then (Err (Crossed crossing)) a b c p x next t r h k = runs_then next h k
comes_then (Err NoMemory) a b c p x next t r h k = tt

pub comes_as : (result : Result Bool Refusal) (a b : Heard) (p q : Plan Came) (t : Token) (r : Reached) → p ≡ q → Comes result a b p t r → Comes result a b q t r
comes_as result a b p q t r e h = let P : Plan Came → Type 0 = λ plan. Comes result a b plan t r in subst P e h

-- the rules of a mode are those of its row
rules_are_row : (depth : ℕ) (t : Token) (fostering : Bool) (m : Mode) (r : Reached) → row_plan depth None fostering t 0 0 (acts_for (every_mode_rows m) (kind_of t)) r ≡ rules_plan (suc depth) t fostering m r
unfolding rules_plan
rules_are_row depth t fostering m r = refl

pub nested_row : (result : Result Bool Refusal) (a b : Heard) (depth below : ℕ) (t left_over : Token) (fostering : Bool) (m : Mode) (acts : List Act) (r s : Reached) → depth ≡ suc below → acts ≡ acts_for (every_mode_rows m) (kind_of t) → Comes result a b (row_plan below None fostering t 0 0 acts r) left_over s → Comes result a b (rules_plan depth t fostering m r) left_over s
nested_row result a b depth below t left_over fostering m acts r s e same h =
    comes_as result a b (row_plan below None fostering t 0 0 acts r) (rules_plan depth t fostering m r) left_over s
    (ap (λ xs. row_plan below None fostering t 0 0 xs r) same ∙ (rules_are_row below t fostering m r ∙ ap (λ n. rules_plan n t fostering m r) (sym e))) h

-- for the whole token
pub nested_comes : (result : Result Bool Refusal) (a b : Heard) (depth below : ℕ) (t token out : Token) (fostering : Bool) (m : Mode) (acts : List Act) (r s : Reached) → depth ≡ suc below → token ≡ t → acts ≡ acts_for (every_mode_rows m) (kind_of token) → Comes result a b (row_plan below None fostering token 0 0 acts r) out s → Comes result a b (rules_plan depth t fostering m r) out s
nested_comes result a b depth below t token out fostering m acts r s e same row h =
    comes_as result a b (rules_plan depth token fostering m r) (rules_plan depth t fostering m r) out s (ap (λ x. rules_plan depth x fostering m r) same)
    (nested_row result a b depth below token out fostering m acts r s e row h)

none_there : (h : Heard) (t : Token) (fostering : Bool) (m : Mode) (r : Reached) → Runs h h (rules_plan 0 t fostering m r) (Ok (left r))
unfolding rules_plan
none_there h t fostering m r = runs_gives h (left r)

-- none are used where they are used too deep
pub nested_none : (h : Heard) (depth : ℕ) (t : Token) (fostering : Bool) (m : Mode) (r : Reached) → depth ≡ 0 → Runs h h (rules_plan depth t fostering m r) (Ok (left r))
nested_none h depth t fostering m r e = let P : ℕ → Type 0 = λ n. Runs h h (rules_plan n t fostering m r) (Ok (left r)) in subst P (sym e) (none_there h t fostering m r)

turn_is : (t : Token) (r : Reached) → turn_plan t r ≡ (if is_early r.split.page r.split.change.mode then crosses X4 else followed_by (goes_plan (kind_of t) r.split) (dispatched t r.split.change.mode r))
unfolding turn_plan
turn_is t r = refl

pub turn_early : (h : Heard) (t : Token) (r : Reached) → is_early r.split.page r.split.change.mode ≡ true → Runs h h (turn_plan t r) (Err X4)
turn_early h t r early =
    let P : Plan Came → Type 0 = λ plan. Runs h h plan (Err X4) in
    subst P (sym (turn_is t r ∙ ap (λ b. if b then crosses X4 else followed_by (goes_plan (kind_of t) r.split) (dispatched t r.split.change.mode r)) early)) (runs_crossed h X4)

pub turn_on : (t : Token) (r : Reached) → is_early r.split.page r.split.change.mode ≡ false → turn_plan t r ≡ followed_by (goes_plan (kind_of t) r.split) (dispatched t r.split.change.mode r)
turn_on t r early = turn_is t r ∙ ap (λ b. if b then crosses X4 else followed_by (goes_plan (kind_of t) r.split) (dispatched t r.split.change.mode r)) early

-- dispatch, and then what it leads to
pub turn_by : (result : Result Bool Refusal) (a b c : Heard) (t left_over : Token) (r s : Reached) (is_foreign : Bool) → is_early r.split.page r.split.change.mode ≡ false → Runs a b (goes_plan (kind_of t) r.split) (Ok is_foreign) → Comes result b c (dispatched t r.split.change.mode r is_foreign) left_over s → Comes result a c (turn_plan t r) left_over s
turn_by result a b c t left_over r s is_foreign early run h =
    comes_as result a c (followed_by (goes_plan (kind_of t) r.split) (dispatched t r.split.change.mode r)) (turn_plan t r) left_over s (sym (turn_on t r early))
    (comes_then result a b c (goes_plan (kind_of t) r.split) is_foreign (dispatched t r.split.change.mode r) left_over s run h)

pub turn_foreign : (result : Result Bool Refusal) (a b c : Heard) (t left_over : Token) (v w : Split) (r s : Reached) (acts : List Act) → is_early v.page v.change.mode ≡ false → Finds (record { heard = a; split = v }) (record { heard = b; split = w }) (goes_plan (kind_of t)) true → acts ≡ acts_for foreign (kind_of t) → Comes result b c (row_plan 4 (Some v.change.mode) false t 0 0 acts (record r { split = w })) left_over s → Comes result a c (turn_plan t (record r { split = v })) left_over s
turn_foreign result a b c t left_over v w r s acts early f same h =
    turn_by result a b c t left_over (record r { split = v }) s true early f.runs
    (comes_as result b c (row_plan 4 (Some v.change.mode) false t 0 0 acts (record r { split = w })) (foreign_plan t v.change.mode (record r { split = v })) left_over s
    (ap (λ xs. row_plan 4 (Some v.change.mode) false t 0 0 xs (record r { split = w })) same
    ∙ ap (λ (u : Split). foreign_plan t v.change.mode (record r { split = u })) f.same) h)

pub turn_in_mode : (result : Result Bool Refusal) (a b c : Heard) (t left_over : Token) (v w : Split) (r s : Reached) (acts : List Act) → is_early v.page v.change.mode ≡ false → Finds (record { heard = a; split = v }) (record { heard = b; split = w }) (goes_plan (kind_of t)) false → acts ≡ acts_for (every_mode_rows v.change.mode) (kind_of t) → Comes result b c (row_plan 3 None false t 0 0 acts (record r { split = w })) left_over s → Comes result a c (turn_plan t (record r { split = v })) left_over s
turn_in_mode result a b c t left_over v w r s acts early f same h =
    turn_by result a b c t left_over (record r { split = v }) s false early f.runs
    (comes_as result b c (row_plan 3 None false t 0 0 acts (record r { split = w })) (mode_plan t v.change.mode (record r { split = v })) left_over s
    (ap (λ xs. row_plan 3 None false t 0 0 xs (record r { split = w })) same
    ∙ (rules_are_row 3 t false v.change.mode (record r { split = w })
    ∙ ap (λ (u : Split). mode_plan t v.change.mode (record r { split = u })) f.same)) h)

-- so many turns are left
turns_more : (n : ℕ) (t : Token) (r : Reached) → turns_plan (suc n) t r ≡ followed_by (turn_plan t r) (where_again (turns_plan n))
unfolding turns_plan
turns_more n t r = refl

turns_none : (t : Token) (r : Reached) → turns_plan zero t r ≡ crosses X3
unfolding turns_plan
turns_none t r = refl

pub turns_next : (n i : ℕ) (t : Token) (r : Reached) → i < n → turns_plan (n - i) t r ≡ followed_by (turn_plan t r) (where_again (turns_plan (n - (i + 1))))
turns_next n i t r h =
    let same : n - i ≡ suc (n - (i + 1)) = omega arith in
    ap (λ k. turns_plan k t r) same ∙ turns_more (n - (i + 1)) t r

-- the token is handled again
pub turn_again : (start now new : Heard) (whole : Plan Reached) (n i : ℕ) (t other : Token) (r s : Reached) → Partway start now whole (turns_plan (n - i) t r) → i < n → Runs now new (turn_plan t r) (Ok (again other s)) → Partway start new whole (turns_plan (n - (i + 1)) other s)
turn_again start now new whole n i t other r s p h run =
    let P : Plan Reached → Type 0 = λ plan. Partway start now whole plan in
    let q = subst P (turns_next n i t r h) p in
    λ last end more. q last end (runs_then (where_again (turns_plan (n - (i + 1)))) run more)

-- or it is done
pub turn_done : (start now new : Heard) (whole : Plan Reached) (n i : ℕ) (t : Token) (r s : Reached) → Partway start now whole (turns_plan (n - i) t r) → i < n → Runs now new (turn_plan t r) (Ok (left s)) → Runs start new whole (Ok s)
turn_done start now new whole n i t r s p h run =
    let P : Plan Reached → Type 0 = λ plan. Partway start now whole plan in
    let q = subst P (turns_next n i t r h) p in
    q new (Ok s) (runs_then (where_again (turns_plan (n - (i + 1)))) run (runs_gives new s))

pub turn_crosses : (start now new : Heard) (whole : Plan Reached) (n i : ℕ) (t : Token) (r : Reached) (crossing : Crossing) → Partway start now whole (turns_plan (n - i) t r) → i < n → Runs now new (turn_plan t r) (Err crossing) → Runs start new whole (Err crossing)
turn_crosses start now new whole n i t r crossing p h run =
    let P : Plan Reached → Type 0 = λ plan. Partway start now whole plan in
    let q = subst P (turns_next n i t r h) p in
    q new (Err crossing) (runs_crosses (where_again (turns_plan (n - (i + 1)))) run)

pub turns_run_out : (start now : Heard) (whole : Plan Reached) (n i : ℕ) (t : Token) (r : Reached) → Partway start now whole (turns_plan (n - i) t r) → n ≤ i → Runs start now whole (Err X3)
turns_run_out start now whole n i t r p h =
    let same : n - i ≡ 0 = omega arith in
    let P : Plan Reached → Type 0 = λ plan. Runs now now plan (Err X3) in
    p now (Err X3) (subst P (sym (ap (λ k. turns_plan k t r) same ∙ turns_none t r)) (runs_crossed now X3))

pub turn_refused : (result : Result Handled Refusal) (refused : Refusal) (old new : Sight) (plan : Split → Plan Reached) (now : Heard) (n i : ℕ) (t out : Token) (r s : Reached) → result ≡ Err refused → Partway old.heard now (plan old.split) (turns_plan (n - i) t r) → i < n → Comes (Err refused) now new.heard (turn_plan t r) out s → Handles result old new plan
turn_refused result refused old new plan now n i t out r s e p h g =
    let P : Result Handled Refusal → Type 0 = λ x. Handles x old new plan in
    subst P (sym e) (by_refusal refused g)
  where
    by_refusal : (refused : Refusal) → Comes (Err refused) now new.heard (turn_plan t r) out s → Handles (Err refused) old new plan
    by_refusal NoMemory g = tt
    by_refusal (Crossed crossing) g = turn_crosses old.heard now new.heard (plan old.split) n i t r crossing p h g
