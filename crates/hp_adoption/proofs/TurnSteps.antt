-- The turns of an adoption, carried out one after the other.
use Rattle.std.proofs.Common.{◌≡◌, ◌⊎◌, ◌∙◌, ℕ, suc, Bool, true, false, List, [], Option, Some, Result, Ok, Err, ap, refl, inl, inr, slice_get, sym, subst}
use Rattle.hp_elements.specs.declared.tag.Tag.{Tag}
use Rattle.hp_control.specs.declared.change.Refusal.{Refusal}
use Rattle.hp_control.specs.declared.change.Refusal.TheVariants.{Crossed, NoMemory}
use Rattle.hp_control.specs.declared.element.FormattingEntry.{FormattingEntry}
use Rattle.hp_control.specs.declared.element.FormattingEntry.TheVariants.{Marker, Element}
use Rattle.hp_control.specs.declared.question.Crossing.TheVariants.{X1}
use Rattle.hp_control.specs.Adoption.{edit_at}
use Rattle.hp_control.specs.Faithful.{Split}
use Rattle.hp_control.specs.Plan.{Plan, Heard, Runs, crosses}
use Rattle.hp_control.specs.Running.{Partway, runs_gives, runs_then, runs_crosses}
use Rattle.hp_views.specs.Asking.{ask_listed}
use Rattle.hp_views.specs.FieldPlans.{with_change}
use Rattle.hp_views.specs.ListPlans.{with_entries}
use Rattle.hp_views.specs.View.{Sight, Carries}
use Rattle.hp_views.specs.Walks.{id_walk}
use Rattle.hp_views.specs.declared.asking.Standing.{Standing}
use Rattle.hp_views.specs.declared.walks.Walk.{Walk}
use Rattle.hp_views.specs.declared.walks.Walk.TheVariants.{Stopped, PastAll}
use Rattle.hp_adoption.specs.AdoptPlans.{Turned, entry_turn, kind_turn, older_turn, own_turn, stays, struck, turn_plan, turns_on, turns_plan}
use Rattle.hp_adoption.specs.Entries.{is_element, tag_in}
use Rattle.hp_adoption.specs.Turning.{Turns}

pub turn_marker : (now : Heard) (fostering : Bool) (v : Split) (o : Option FormattingEntry) → o ≡ Some Marker → Runs now now (entry_turn fostering v o) (Ok (record { split = v; goes_on = false }))
turn_marker now fostering v o e =
    let P : Option FormattingEntry → Type 0 = λ x. Runs now now (entry_turn fostering v x) (Ok (record { split = v; goes_on = false })) in
    subst P (sym e) (runs_gives now (record { split = v; goes_on = false }))

-- the tag of an entry is in the list
pub entry_known : (fostering : Bool) (id : ℕ) (tag : Tag) (v : Split) (o : Option FormattingEntry) → o ≡ Some (Element id tag) → own_turn fostering id (tag_in o) v (id_walk id v.change.stack) ≡ entry_turn fostering v o
entry_known fostering id tag v o e =
    let P : Option FormattingEntry → Type 0 = λ x. own_turn fostering id (tag_in x) v (id_walk id v.change.stack) ≡ entry_turn fostering v x in
    subst P (sym e) refl

-- no entry of an element
pub turn_of_none : (now : Heard) (fostering : Bool) (v : Split) (o : Option FormattingEntry) (e : FormattingEntry) → o ≡ Some e → ((id : ℕ) (tag : Tag) → e ≡ Element id tag → ⊥)
    → Runs now now (entry_turn fostering v o) (Ok (record { split = v; goes_on = false }))
turn_of_none now fostering v o Marker is not_element = turn_marker now fostering v o is
turn_of_none now fostering v o (Element id tag) is not_element = absurd (not_element id tag refl)

pub element_there : (o : Option FormattingEntry) (e : FormattingEntry) → o ≡ Some e → is_element o ≡ true → ((id : ℕ) (tag : Tag) → e ≡ Element id tag → ⊥) → ⊥
element_there o Marker is there not_element = let wrong : false ≡ true = sym (ap is_element is) ∙ there in cc
element_there o (Element id tag) is there not_element = not_element id tag refl

-- the turn of an entry by where its element was found
pub entry_walked : (fostering : Bool) (id : ℕ) (tag : Tag) (v : Split) (o : Option FormattingEntry) (w : Walk) → w ≡ id_walk id v.change.stack → o ≡ Some (Element id tag) → own_turn fostering id (tag_in o) v w ≡ entry_turn fostering v o
entry_walked fostering id tag v o w walked e = ap (own_turn fostering id (tag_in o) v) walked ∙ entry_known fostering id tag v o e

-- the entry of an element that isn't open is taken off
pub turn_struck : (now : Heard) (fostering : Bool) (id : ℕ) (tag : Tag) (v : Split) (o : Option FormattingEntry) (w : Walk) (list : List FormattingEntry) → (w ≡ Stopped) ⊎ (w ≡ PastAll) → w ≡ id_walk id v.change.stack → o ≡ Some (Element id tag)
    → list ≡ edit_at id 1 [] v.change.formatting → Runs now now (entry_turn fostering v o) (Ok (record { split = with_change (with_entries list v.change) v; goes_on = false }))
turn_struck now fostering id tag v o w list ended walked e gone =
    let own : Walk → Plan Turned = own_turn fostering id (tag_in o) v in
    let left : own w ≡ stays (struck id v) = elim ended [ inl s ↦ ap own s | inr p ↦ ap own p ] in
    let plan : stays (struck id v) ≡ entry_turn fostering v o = sym left ∙ entry_walked fostering id tag v o w walked e in
    let P : Plan Turned → Type 0 = λ p. Runs now now p (Ok (record { split = struck id v; goes_on = false })) in
    let Q : List FormattingEntry → Type 0 = λ l. Runs now now (entry_turn fostering v o) (Ok (record { split = with_change (with_entries l v.change) v; goes_on = false })) in
    subst Q (sym gone) (subst P plan (runs_gives now (record { split = struck id v; goes_on = false })))

-- the same plan, told otherwise
pub turns_as : (result : Result Bool Refusal) (old new : Sight) (p q : Split → Plan Turned) → p old.split ≡ q old.split → Turns result old new p → Turns result old new q
turns_as (Ok goes_on) old new p q e run =
    let P : Plan Turned → Type 0 = λ x. Runs old.heard new.heard x (Ok (record { split = new.split; goes_on = goes_on })) in subst P e run
turns_as (Err (Crossed crossing)) old new p q e run =
    let P : Plan Turned → Type 0 = λ x. Runs old.heard new.heard x (Err crossing) in subst P e run
turns_as (Err NoMemory) old new p q e run = tt

-- the same turn, the tag told by the list
pub turns_of : (fostering : Bool) (id : ℕ) (tag : Tag) (result : Result Bool Refusal) (old new : Sight) (w : Walk) (at : ℕ) → tag ≡ tag_in (slice_get old.split.change.formatting at) → Turns result old new (λ v. own_turn fostering id tag v w) → Turns result old new (λ v. own_turn fostering id (tag_in (slice_get v.change.formatting at)) v w)
turns_of fostering id tag result old new w at e run =
    turns_as result old new (λ v. own_turn fostering id tag v w) (λ v. own_turn fostering id (tag_in (slice_get v.change.formatting at)) v w) (ap (λ (t : Tag). own_turn fostering id t old.split w) e) run

-- after the question how the older entry stands, by its name or an equal one
pub turns_after : (result : Result Bool Refusal) (old : Heard) (mid new : Sight) (name asked : List ℕ) (standing : Standing) (next : Split → Plan Turned) → asked ≡ name
    → Runs old mid.heard (ask_listed mid.split.change.popped mid.split.change.cuts asked) (Ok standing) → next mid.split ≡ kind_turn name mid.split standing.kind → Turns result mid new next
    → Turns result (record { heard = old; split = mid.split }) new (older_turn name)
turns_after result old mid new name asked standing next same ask plan run =
    let P : List ℕ → Type 0 = λ n. Runs old mid.heard (ask_listed mid.split.change.popped mid.split.change.cuts n) (Ok standing) in
    turns_on_from result old mid new name standing (subst P same ask) (turns_as result mid new next (λ v. kind_turn name v standing.kind) plan run)
  where
    turns_on_from : (r : Result Bool Refusal) (a : Heard) (m b : Sight) (n : List ℕ) (s : Standing) → Runs a m.heard (ask_listed m.split.change.popped m.split.change.cuts n) (Ok s) → Turns r m b (λ v. kind_turn n v s.kind)
        → Turns r (record { heard = a; split = m.split }) b (older_turn n)
    turns_on_from (Ok goes_on) a m b n s ask run = runs_then (λ t. kind_turn n m.split t.kind) ask run
    turns_on_from (Err (Crossed crossing)) a m b n s ask run = runs_then (λ t. kind_turn n m.split t.kind) ask run
    turns_on_from (Err NoMemory) a m b n s ask run = tt

-- a turn that changes nothing, and one that crosses
pub turn_stays : (now : Heard) (v : Split) → Runs now now (stays v) (Ok (record { split = v; goes_on = false }))
turn_stays now v = runs_gives now (record { split = v; goes_on = false })

pub turn_crosses : (now : Heard) (v : Split) → Runs {X = Turned} now now (crosses X1) (Err X1)
turn_crosses now v = record { ends = refl; noted = (runs_gives now v).noted }

-- one more turn
pub turn_step : (start now next : Heard) (whole : Plan Split) (fostering : Bool) (name : List ℕ) (n m : ℕ) (v w : Split) (goes_on : Bool) → n ≡ suc m → goes_on ≡ true → Partway start now whole (turns_plan n fostering name v) → Runs now next (turn_plan fostering name v) (Ok (record { split = w; goes_on = goes_on })) → Partway start next whole (turns_plan m fostering name w)
unfolding turns_plan
turn_step start now next whole fostering name n m v w goes_on e t part run =
    let P : ℕ → Type 0 = λ x. Partway start now whole (turns_plan x fostering name v) in
    let Q : Bool → Type 0 = λ b. Runs now next (turn_plan fostering name v) (Ok (record { split = w; goes_on = b })) in
    λ new end r. (subst P e part) new end (runs_then (λ t. turns_on (turns_plan m fostering name) t.split t.goes_on) (subst Q t run) r)

-- the last one
pub turn_ends : (start now next : Heard) (whole : Plan Split) (fostering : Bool) (name : List ℕ) (n m : ℕ) (v w : Split) (goes_on : Bool) → n ≡ suc m → goes_on ≡ false → Partway start now whole (turns_plan n fostering name v) → Runs now next (turn_plan fostering name v) (Ok (record { split = w; goes_on = goes_on })) → Runs start next whole (Ok w)
unfolding turns_plan
turn_ends start now next whole fostering name n m v w goes_on e t part run =
    let P : ℕ → Type 0 = λ x. Partway start now whole (turns_plan x fostering name v) in
    let Q : Bool → Type 0 = λ b. Runs now next (turn_plan fostering name v) (Ok (record { split = w; goes_on = b })) in
    (subst P e part) next (Ok w) (runs_then (λ t. turns_on (turns_plan m fostering name) t.split t.goes_on) (subst Q t run) (runs_gives next w))

pub turn_refused : (result : Refusal) (old mid new : Sight) (plan : Split → Plan Split) (fostering : Bool) (name : List ℕ) (n m : ℕ) → n ≡ suc m → Partway old.heard mid.heard (plan old.split) (turns_plan n fostering name mid.split) → Turns (Err result) mid new (turn_plan fostering name) → Carries (Err result) old new plan
unfolding turns_plan
turn_refused NoMemory old mid new plan fostering name n m e part run = tt
turn_refused (Crossed crossing) old mid new plan fostering name n m e part run =
    let P : ℕ → Type 0 = λ x. Partway old.heard mid.heard (plan old.split) (turns_plan x fostering name mid.split) in
    (subst P e part) new.heard (Err crossing) (runs_crosses (λ t. turns_on (turns_plan m fostering name) t.split t.goes_on) run)

pub turns_done : (start now : Heard) (whole : Plan Split) (fostering : Bool) (name : List ℕ) (n : ℕ) (v : Split) → n ≡ 0 → Partway start now whole (turns_plan n fostering name v) → Runs start now whole (Ok v)
unfolding turns_plan
turns_done start now whole fostering name n v e part =
    let P : ℕ → Type 0 = λ x. Partway start now whole (turns_plan x fostering name v) in
    (subst P e part) now (Ok v) (runs_gives now v)
