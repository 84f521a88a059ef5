-- Own elements and entries out of mid-list: each plan does to a view what its act does to the whole state. The act names an
-- own element by its id in the whole state, which its number in the view follows from.
use Rattle.std.specs.Prelude.{◌≡◌, ℕ, zero, suc, ◌+◌, ◌<◌, false, ◌++◌, Option, None, map, take, drop, length, refl, nat_lt}
use Rattle.std.proofs.Common.{sym, subst, ap, ◌∙◌, arith}
use Rattle.std.proofs.lemmas.Bool.{le-ltb}
use Rattle.hp_control.specs.declared.change.Change.{Change}
use Rattle.hp_control.specs.declared.question.Crossing.TheVariants.{X1, X3}
use Rattle.hp_control.specs.States.{ControlState}
use Rattle.hp_control.specs.Walks.{open_at, cleared_by}
use Rattle.hp_control.specs.Truth.{answer_of}
use Rattle.hp_control.specs.Apply.{applied, shifted, shifted_entry}
use Rattle.hp_control.specs.Outcome.{Outcome, becomes}
use Rattle.hp_control.specs.Acts.{without, taken_off, take_off, without_entry, remove_entry}
use Rattle.hp_control.specs.Faithful.{Split, state_over, StandsOn, IsDone, IsSaid, Matches}
use Rattle.hp_control.specs.Plan.{Plan, end_by}
use Rattle.hp_views.specs.declared.walks.Walk.{Walk}
use Rattle.hp_views.specs.declared.walks.Walk.TheVariants.{Found, Stopped, PastAll}
use Rattle.hp_views.specs.FieldPlans.{with_change}
use Rattle.hp_views.specs.ListPlans.{with_entries}
use Rattle.hp_views.specs.OwnIds.{ids_drop, open_older, open_own, found_at, without_own, id_within, entries_cleared_by, no_older_entry, without_found, entry_own}
use Rattle.hp_views.specs.PopLaws.{own_pops, nothing_popped}
use Rattle.hp_views.specs.Quiet.{quiet, own_touch}
use Rattle.hp_views.specs.RemovePlans.{without_at, take_off_on, take_off_plan, remove_on, remove_entry_plan}
use Rattle.hp_views.specs.StackLaws.{full_stack}
use Rattle.hp_views.specs.Walks.{id_walk, id_entry_walk}

-- an act on the own element of that number, by its id in the whole state
abbrev pub FaithfulToOwn : (Split → Plan Split) → (ℕ → ControlState → Outcome) → ℕ → Type 0
FaithfulToOwn plan act number =
    (s : ControlState) (v : Split) → StandsOn s v → IsSaid v.page (act (s.next + number) (state_over v s)) → Matches s v (end_by (answer_of s) (plan v)) (act (s.next + number) (state_over v s))

-- what is left of the older stack has no own id
pub none_older : (s : ControlState) (v : Split) (id : ℕ) → StandsOn s v → open_at (s.next + id) (drop v.change.popped s.stack) ≡ None
none_older s v id st = open_older 0 s.next (s.next + id) (drop v.change.popped s.stack) (ids_drop 0 s.next v.change.popped s.stack st.older.stack_ids) (omega arith)

pub full_open : (s : ControlState) (v : Split) (id : ℕ) → StandsOn s v → open_at (s.next + id) (state_over v s).stack ≡ found_at (id_walk id v.change.stack)
full_open s v id st = ap (open_at (s.next + id)) (full_stack s v) ∙ open_own s.next id v.change.stack (drop v.change.popped s.stack) (none_older s v id st)

pub own_id_new : (s : ControlState) (id : ℕ) → nat_lt (s.next + id) s.next ≡ false
own_id_new s id = le-ltb (s.next + id) s.next (omega arith)

taken_stack : (s : ControlState) (v : Split) (k : ℕ) → k < length v.change.stack → map (shifted s.next) (without k v.change.stack) ++ drop v.change.popped s.stack ≡ without k (applied v.change s).stack
taken_stack s v k h = sym (without_own s.next k v.change.stack (drop v.change.popped s.stack) h)

taken_way : (s : ControlState) (v : Split) (id : ℕ) (w : Walk) → StandsOn s v → id_walk id v.change.stack ≡ w → IsSaid v.page (taken_off (s.next + id) (found_at w) (state_over v s)) → Matches s v (end_by (answer_of s) (take_off_on v w)) (taken_off (s.next + id) (found_at w) (state_over v s))
taken_way s v id (Found zero) st e u = own_pops s v 1 st (let l : 0 < length v.change.stack = id_within id v.change.stack 0 e in omega arith) u
taken_way s v id (Found (suc k)) st e u =
    let l : suc k < length v.change.stack = id_within id v.change.stack (suc k) e in
    own_touch s v (with_change (without_at (suc k) v.change) v) (record { crossing = X3; what = s.next + id }) (becomes (record (state_over v s) { stack = without (suc k) (state_over v s).stack })) (own_id_new s id)
    (quiet s v (without_at (suc k) v.change) (λ c. record c { stack = without (suc k) c.stack }) st refl (λ p c. refl) (ap (λ es. record (applied v.change s) { stack = es }) (taken_stack s v (suc k) l)))
taken_way s v id Stopped st e u = nothing_popped s v st
taken_way s v id PastAll st e u = nothing_popped s v st

pub take_off_faithful : (id : ℕ) → FaithfulToOwn (take_off_plan id) take_off id
take_off_faithful id = λ s v st u.
    let P : Option ℕ → Type 0 = λ o. IsSaid v.page (taken_off (s.next + id) o (state_over v s)) → Matches s v (end_by (answer_of s) (take_off_plan id v)) (taken_off (s.next + id) o (state_over v s)) in
    subst P (sym (full_open s v id st)) (taken_way s v id (id_walk id v.change.stack) st refl) u

-- entries
no_entry_older : (s : ControlState) (v : Split) (id : ℕ) → StandsOn s v → without_entry (s.next + id) (cleared_by v.change.cuts s.formatting) ≡ cleared_by v.change.cuts s.formatting
no_entry_older s v id st = no_older_entry 1 s.next (s.next + id) (cleared_by v.change.cuts s.formatting) (entries_cleared_by 1 s.next v.change.cuts s.formatting st.older.list_ids) (omega arith)

full_removed : (s : ControlState) (v : Split) (id : ℕ) → StandsOn s v → map (shifted_entry s.next) (without_found (id_entry_walk id v.change.formatting) v.change.formatting) ++ cleared_by v.change.cuts s.formatting ≡ without_entry (s.next + id) (applied v.change s).formatting
full_removed s v id st = sym (entry_own s.next id v.change.formatting (cleared_by v.change.cuts s.formatting) (no_entry_older s v id st))

removed_as : (s : ControlState) (v : Split) (d : Change) (id : ℕ) → StandsOn s v → d.popped ≡ v.change.popped → applied d s ≡ record (applied v.change s) { formatting = without_entry (s.next + id) (applied v.change s).formatting } → IsDone s v (with_change d v) (remove_entry (s.next + id) (state_over v s))
removed_as s v d id st p e =
    own_touch s v (with_change d v) (record { crossing = X1; what = s.next + id }) (becomes (record (state_over v s) { formatting = without_entry (s.next + id) (state_over v s).formatting })) (own_id_new s id)
    (quiet s v d (λ c. record c { formatting = without_entry (s.next + id) c.formatting }) st p (λ q c. refl) e)

removed_way : (s : ControlState) (v : Split) (id : ℕ) (w : Walk) → StandsOn s v → id_entry_walk id v.change.formatting ≡ w → map (shifted_entry s.next) (without_found w v.change.formatting) ++ cleared_by v.change.cuts s.formatting ≡ without_entry (s.next + id) (applied v.change s).formatting → Matches s v (end_by (answer_of s) (remove_on v w)) (remove_entry (s.next + id) (state_over v s))
removed_way s v id (Found k) st e h = removed_as s v (with_entries (take k v.change.formatting ++ drop (k + 1) v.change.formatting) v.change) id st refl (ap (λ l. record (applied v.change s) { formatting = l }) h)
removed_way s v id Stopped st e h = removed_as s v v.change id st refl (ap (λ l. record (applied v.change s) { formatting = l }) h)
removed_way s v id PastAll st e h = removed_as s v v.change id st refl (ap (λ l. record (applied v.change s) { formatting = l }) h)

pub remove_entry_faithful : (id : ℕ) → FaithfulToOwn (remove_entry_plan id) remove_entry id
remove_entry_faithful id = λ s v st u. removed_way s v id (id_entry_walk id v.change.formatting) st refl (full_removed s v id st)
