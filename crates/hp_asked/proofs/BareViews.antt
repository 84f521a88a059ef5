-- No act on fields, on the stack or on the tree reads what a view edited so far.
use Rattle.std.proofs.Common.{◌≡◌, ℕ, zero, suc, ◌+◌, ◌==◌, nat_lt, Bool, true, false, List, [], ◌∷◌, Option, None, Some, refl, ap, ◌∙◌, sym}
use Rattle.std.specs.Prelude.{if◌then◌else◌}
use Rattle.hp_elements.specs.Names.{text_of}
use Rattle.hp_elements.specs.declared.act.Scope.TheVariants as scope
use Rattle.hp_elements.specs.declared.kinds.Kinds.{Kinds}
use Rattle.hp_elements.specs.declared.kinds.Kinds.TheVariants as kinds
use Rattle.hp_elements.specs.declared.known.Known.{Known}
use Rattle.hp_elements.specs.KnownNames as known
use Rattle.hp_elements.specs.declared.sets.SetName.TheVariants as sets
use Rattle.hp_elements.specs.declared.tag.Attribute.{Attribute}
use Rattle.hp_elements.specs.declared.tag.Tag.{Tag}
use Rattle.hp_elements.specs.declared.token.Mode.{Mode}
use Rattle.hp_control.specs.declared.change.FormChange.{FormChange}
use Rattle.hp_control.specs.declared.change.FormChange.TheVariants as form
use Rattle.hp_control.specs.declared.edit.Child.{Child}
use Rattle.hp_control.specs.declared.edit.Place.{Place}
use Rattle.hp_control.specs.declared.element.OpenElement.{OpenElement}
use Rattle.hp_control.specs.declared.question.Crossing.TheVariants.{X3, X7}
use Rattle.hp_control.specs.Acts.{first_id, second_id}
use Rattle.hp_control.specs.Composed.{implied_but}
use Rattle.hp_control.specs.Faithful.{Page, Split}
use Rattle.hp_control.specs.Plan.{Plan, gives, crosses, followed_by}
use Rattle.hp_control.specs.Walks.{scope_ends, select_mode}
use Rattle.hp_views.specs.declared.asking.Pointed.{Pointed}
use Rattle.hp_views.specs.declared.asking.Pointed.TheVariants.{Nowhere, Away, Here}
use Rattle.hp_views.specs.declared.reset.Decides.{Decides}
use Rattle.hp_views.specs.declared.reset.Decides.TheVariants.{Nothing, Select, To}
use Rattle.hp_views.specs.declared.walks.Walk.{Walk}
use Rattle.hp_views.specs.declared.walks.Walk.TheVariants.{Found, Stopped, PastAll}
use Rattle.hp_views.specs.Asking.{ask_pointer, ask_reach}
use Rattle.hp_views.specs.ClosingPlans.{close_paragraph_plan, close_plan, end_form_in_template_plan, implied_except_plan, implied_plan, leaves_it, through_form_plan, through_named_plan}
use Rattle.hp_views.specs.FieldPlans.{empty_pending_plan, head_on, last_mode_on, point_head_plan, pop_mode_on, pop_mode_plan, quirks_on, quirks_plan, replace_mode_on, replace_mode_plan, with_change, with_pending}
use Rattle.hp_views.specs.FormPlans.{end_form_plan, form_emptied, older_form_on, older_off_at, older_off_plan, outside_on, outside_plan, own_form_on, pointed_plan}
use Rattle.hp_views.specs.HeadPlans.{push_head_of, push_head_on, push_head_plan, push_on, take_head_of, take_head_on, take_head_plan}
use Rattle.hp_views.specs.ListPlans.{clear_on, clear_plan, listed_on, listed_plan}
use Rattle.hp_views.specs.PlacePlans.{a_table, a_template, add_body_plan, add_first_plan, add_to_on, detach_on, detach_plan, foster_older, foster_on, fostered, insert_at, insert_plan, older_table, own_table, place_plan, put_at, put_plan}
use Rattle.hp_views.specs.RemovePlans.{remove_entry_plan, remove_on, take_off_on, take_off_plan}
use Rattle.hp_views.specs.ResetPlans.{decides, reset_by, reset_on, reset_plan, table_plan, to_mode}
use Rattle.hp_views.specs.SecondPlans.{second_on, second_plan}
use Rattle.hp_views.specs.StackPlans.{current_is_plan, in_scope_plan, pop_on, pop_plan, pop_run_on, pop_run_plan, pop_to_first_on, pop_to_first_plan, pop_to_older, pop_to_on, pop_to_plan, template_plan, through_older, through_on, through_plan}
use Rattle.hp_views.specs.Walks.{entry_walk, id_entry_walk, id_scope_walk, id_walk, marker_of, run_walk, walk_of}
use Rattle.hp_asked.proofs.Bare.{IsBlind, bare, first-blind, same-then, test-blind, told_as}

-- a plan and the same of the view without its edits
abbrev pub Alike : (Split → Plan Split) → Split → Type 0
Alike p v = told_as bare (p v) ≡ told_as bare (p (bare v))

-- the fields
last-mode : (page : Option Page) (v : Split) → Alike (last_mode_on page) v
last-mode None v = refl
last-mode (Some p) v = refl

pop-mode : (ms : List Mode) (v : Split) → Alike (pop_mode_on ms) v
pop-mode [] v = last-mode v.page v
pop-mode (m ∷ ms) v = refl

pub pop_mode-blind : IsBlind pop_mode_plan
pop_mode-blind v = pop-mode v.change.templates v

replace-mode : (new : Mode) (ms : List Mode) (v : Split) → Alike (replace_mode_on new ms) v
replace-mode new [] v = last-mode v.page v
replace-mode new (m ∷ ms) v = refl

pub replace_mode-blind : (new : Mode) → IsBlind (replace_mode_plan new)
replace_mode-blind new v = replace-mode new v.change.templates v

quirks-on : (page : Option Page) (v : Split) → Alike (quirks_on page) v
quirks-on None v = refl
quirks-on (Some p) v = refl

pub quirks-blind : IsBlind quirks_plan
quirks-blind v = quirks-on v.page v

head-on : (page : Option Page) (v : Split) → Alike (head_on page) v
head-on None v = refl
head-on (Some p) v = refl

pub head-blind : IsBlind point_head_plan
head-blind v = head-on v.page v

emptied : (b : Bool) (v : Split) → Alike (λ w. if b then crosses X7 else gives (with_change (with_pending [] w.change) w)) v
emptied true v = refl
emptied false v = refl

pub empty_pending-blind : IsBlind empty_pending_plan
empty_pending-blind v = emptied v.older_text v

-- the stack
pop-on : (stack : List OpenElement) (v : Split) → Alike (λ w. pop_on w stack) v
pop-on [] v = refl
pop-on (e ∷ es) v = refl

pub pop-blind : IsBlind pop_plan
pop-blind v = pop-on v.change.stack v

run-on : (names : Kinds) (walk : Walk) (v : Split) → Alike (λ w. pop_run_on names w walk) v
run-on names (Found k) v = refl
run-on names Stopped v = refl
run-on names PastAll v = refl

pub run-blind : (names : Kinds) → IsBlind (pop_run_plan names)
run-blind names v = run-on names (run_walk names v.change.stack) v

to-older : (o : Option ℕ) (v : Split) → bare (pop_to_older v o) ≡ bare (pop_to_older (bare v) o)
to-older None v = refl
to-older (Some k) v = refl

to-below : (goals : Kinds) (v : Split) → Alike (λ w. pop_to_on goals w PastAll) v
to-below goals v = same-then bare (ask_reach v.change.popped goals kinds.Nothing) (λ o. gives (pop_to_older v o)) (λ o. gives (pop_to_older (bare v) o)) (λ o. λ i. gives (to-older o v i))

to-on : (goals : Kinds) (walk : Walk) (v : Split) → Alike (λ w. pop_to_on goals w walk) v
to-on goals (Found k) v = refl
to-on goals Stopped v = to-below goals v
to-on goals PastAll v = to-below goals v

pub pop_to-blind : (goals : Kinds) → IsBlind (pop_to_plan goals)
pop_to-blind goals v = to-on goals (walk_of goals kinds.Nothing v.change.stack) v

past-older : (o : Option ℕ) (v : Split) → bare (through_older v o) ≡ bare (through_older (bare v) o)
past-older None v = refl
past-older (Some k) v = refl

past-on : (goals stops : Kinds) (walk : Walk) (v : Split) → Alike (λ w. through_on goals stops w walk) v
past-on goals stops (Found k) v = refl
past-on goals stops Stopped v = refl
past-on goals stops PastAll v = same-then bare (ask_reach v.change.popped goals stops) (λ o. gives (through_older v o)) (λ o. gives (through_older (bare v) o)) (λ o. λ i. gives (past-older o v i))

pub through-blind : (goals stops : Kinds) → IsBlind (through_plan goals stops)
through-blind goals stops v = past-on goals stops (walk_of goals stops v.change.stack) v

first-on : (page : Option Page) (v : Split) → Alike (pop_to_first_on page) v
first-on None v = refl
first-on (Some p) v = refl

pub pop_to_first-blind : IsBlind pop_to_first_plan
pop_to_first-blind v = first-on v.page v

taken-off : (walk : Walk) (v : Split) → Alike (λ w. take_off_on w walk) v
taken-off (Found zero) v = refl
taken-off (Found (suc k)) v = refl
taken-off Stopped v = refl
taken-off PastAll v = refl

pub take_off-blind : (id : ℕ) → IsBlind (take_off_plan id)
take_off-blind id v = taken-off (id_walk id v.change.stack) v

-- the list
cleared : (walk : Walk) (v : Split) → Alike (λ w. clear_on w walk) v
cleared (Found k) v = refl
cleared Stopped v = refl
cleared PastAll v = refl

pub clear-blind : IsBlind clear_plan
clear-blind v = cleared (marker_of v.change.formatting) v

removed : (walk : Walk) (v : Split) → Alike (λ w. remove_on w walk) v
removed (Found k) v = refl
removed Stopped v = refl
removed PastAll v = refl

pub remove_entry-blind : (id : ℕ) → IsBlind (remove_entry_plan id)
remove_entry-blind id v = removed (id_entry_walk id v.change.formatting) v

-- places: they hang on the stack alone
abbrev pub seen : Split → Split
seen v = record v { change = record v.change { frameset_off = false }; edits = [] }

own-table : (walk : Walk) (v : Split) → own_table v walk ≡ own_table (seen v) walk
own-table (Found k) v = refl
own-table Stopped v = refl
own-table PastAll v = refl

older-table : (o : Option ℕ) (v : Split) → older_table v o ≡ older_table (seen v) o
older-table None v = refl
older-table (Some k) v = refl

foster-older : (o : Option ℕ) (v : Split) → foster_older v o ≡ foster_older (seen v) o
foster-older (Some k) v = refl
foster-older None v = ap (followed_by (ask_reach v.change.popped a_table kinds.Nothing)) (λ i. λ o. gives (older-table o v i))

foster-on : (walk : Walk) (v : Split) → foster_on v walk ≡ foster_on (seen v) walk
foster-on (Found k) v = refl
foster-on Stopped v = ap gives (own-table (walk_of a_table kinds.Nothing v.change.stack) v)
foster-on PastAll v = ap (followed_by (ask_reach v.change.popped a_template a_table)) (λ i. λ o. foster-older o v i)

fostered-seen : (b : Bool) (v : Split) → fostered v b ≡ fostered (seen v) b
fostered-seen true v = foster-on (walk_of a_template a_table v.change.stack) v
fostered-seen false v = refl

pub place-seen : (fostering : Bool) (v : Split) → place_plan fostering v ≡ place_plan fostering (seen v)
place-seen true v = ap (followed_by (current_is_plan (kinds.Set sets.FosterParents) v)) (λ i. λ b. fostered-seen b v i)
place-seen false v = refl

pub place-bare : (fostering : Bool) (v : Split) → place_plan fostering v ≡ place_plan fostering (bare v)
place-bare fostering v = place-seen fostering v ∙ sym (place-seen fostering (bare v))

-- what is done at a place
pub placed-blind : (fostering : Bool) (v : Split) (f g : Place → Split) → ((w : Place) → bare (f w) ≡ bare (g w)) → told_as bare (followed_by (place_plan fostering v) (λ w. gives (f w))) ≡ told_as bare (followed_by (place_plan fostering (bare v)) (λ w. gives (g w)))
placed-blind fostering v f g h =
    same-then bare (place_plan fostering v) (λ w. gives (f w)) (λ w. gives (g w)) (λ w. λ i. gives (h w i))
    ∙ ap (λ p. told_as bare (followed_by p (λ w. gives (g w)))) (place-bare fostering v)

pub put-blind : (fostering : Bool) (what : Child) → IsBlind (put_plan fostering what)
put-blind fostering what v = placed-blind fostering v (put_at what v) (put_at what (bare v)) (λ w. refl)

pub insert-blind : (fostering : Bool) (tag : Tag) → IsBlind (insert_plan fostering tag)
insert-blind fostering tag v = placed-blind fostering v (insert_at tag v) (insert_at tag (bare v)) (λ w. refl)

added-on : (page : Option Page) (id : ℕ) (attributes : List Attribute) (v : Split) → Alike (add_to_on page id attributes) v
added-on None id attributes v = refl
added-on (Some p) id attributes v = refl

pub add_first-blind : (attributes : List Attribute) → IsBlind (add_first_plan attributes)
add_first-blind attributes v = added-on v.page (first_id v.change.stack) attributes v

pub add_body-blind : (attributes : List Attribute) → IsBlind (add_body_plan attributes)
add_body-blind attributes v = added-on v.page (second_id v.change.stack) attributes v

detached-on : (page : Option Page) (id : ℕ) (v : Split) → Alike (detach_on page id) v
detached-on None id v = refl
detached-on (Some p) id v = refl

pub detach-blind : IsBlind detach_plan
detach-blind v = detached-on v.page (second_id v.change.stack) v

-- the insertion mode
reset-by : (d : Decides) (v : Split) (below : List OpenElement) (rest other : Plan Split) → told_as bare rest ≡ told_as bare other → told_as bare (reset_by v below d rest) ≡ told_as bare (reset_by (bare v) below d other)
reset-by Nothing v below rest other h = h
reset-by Select v below rest other h = same-then bare (table_plan v below) (λ b. gives (to_mode v (select_mode b))) (λ b. gives (to_mode (bare v) (select_mode b))) (λ b. refl)
reset-by (To m) v below rest other h = refl

reset-on : (stack : List OpenElement) (v : Split) → Alike (λ w. reset_on w stack) v
reset-on [] v = refl
reset-on (e ∷ es) v = reset-by (decides v.page v.change.templates e es) v es (reset_on v es) (reset_on (bare v) es) (reset-on es v)

pub reset-blind : IsBlind reset_plan
reset-blind v = reset-on v.change.stack v

-- the head
pushed-on : (id : ℕ) (walk : Walk) (v : Split) → Alike (λ w. push_on id w walk) v
pushed-on id (Found k) v = refl
pushed-on id Stopped v = refl
pushed-on id PastAll v = refl

pushed-of : (o : Option ℕ) (v : Split) → Alike (push_head_of o) v
pushed-of None v = refl
pushed-of (Some id) v = pushed-on id (id_walk id v.change.stack) v

pushed-page : (page : Option Page) (v : Split) → Alike (push_head_on page) v
pushed-page None v = refl
pushed-page (Some p) v = pushed-of p.head v

pub push_head-blind : IsBlind push_head_plan
push_head-blind v = pushed-page v.page v

off-of : (o : Option ℕ) (v : Split) → Alike (take_head_of o) v
off-of None v = refl
off-of (Some id) v = take_off-blind id v

off-page : (page : Option Page) (v : Split) → Alike (take_head_on page) v
off-page None v = refl
off-page (Some p) v = off-of p.head v

pub take_head-blind : IsBlind take_head_plan
take_head-blind v = off-page v.page v

-- what closes elements
pub leaves-blind : IsBlind leaves_it
leaves-blind v = refl

implied-blind : IsBlind implied_plan
implied-blind = run-blind (kinds.Set sets.Implied)

close-blind : (name : Known) → IsBlind (close_plan name)
close-blind name = first-blind (implied_except_plan name) (through_named_plan (text_of name)) (run-blind (kinds.Set (implied_but name))) (through-blind (kinds.Html (text_of name)) kinds.Nothing)

pub close_paragraph-blind : IsBlind close_paragraph_plan
close_paragraph-blind = test-blind (in_scope_plan scope.Button (kinds.Html (text_of known.P))) (close_plan known.P) leaves_it (λ v. refl) (close-blind known.P) leaves-blind

through_form-blind : IsBlind through_form_plan
through_form-blind = first-blind implied_plan (through_named_plan (text_of known.Form)) implied-blind (through-blind (kinds.Html (text_of known.Form)) kinds.Nothing)

in_template-blind : IsBlind end_form_in_template_plan
in_template-blind = test-blind (in_scope_plan scope.Default (kinds.Html (text_of known.Form))) through_form_plan leaves_it (λ v. refl) through_form-blind leaves-blind

own-form : (id : ℕ) (walk : Walk) (v : Split) → Alike (λ w. own_form_on id w walk) v
own-form id (Found k) v = first-blind implied_plan (take_off_plan id) implied-blind (take_off-blind id) v
own-form id Stopped v = refl
own-form id PastAll v = refl

off-here : (b : Bool) (v : Split) → Alike (λ w. if b then pop_plan w else crosses X3) v
off-here true v = pop-blind v
off-here false v = refl

off-at : (depth : ℕ) (stack : List OpenElement) (v : Split) → Alike (λ w. older_off_at depth w stack) v
off-at depth [] v = off-here (depth == v.change.popped) v
off-at depth (e ∷ es) v = refl

off-past : (b : Bool) (depth : ℕ) (v : Split) → Alike (λ w. if b then gives w else older_off_at depth w w.change.stack) v
off-past true depth v = refl
off-past false depth v = off-at depth v.change.stack v

older_off-blind : (depth : ℕ) → IsBlind (older_off_plan depth)
older_off-blind depth v = off-past (nat_lt depth v.change.popped) depth v

pointed-blind : (p : Pointed) → IsBlind (λ v. pointed_plan v p)
pointed-blind Nowhere v = refl
pointed-blind Away v = refl
pointed-blind (Here k) v = first-blind implied_plan (older_off_plan (v.change.popped + k)) implied-blind (older_off-blind (v.change.popped + k)) v

older-form : (walk : Walk) (v : Split) → Alike (λ w. older_form_on w walk) v
older-form PastAll v = same-then bare (ask_pointer v.change.popped) (pointed_plan (form_emptied v)) (pointed_plan (form_emptied (bare v))) (λ p. pointed-blind p (form_emptied v))
older-form Stopped v = refl
older-form (Found k) v = refl

outside-on : (f : FormChange) (v : Split) → Alike (outside_on f) v
outside-on form.Cleared v = refl
outside-on (form.Own id) v = own-form id (id_scope_walk id v.change.stack) (form_emptied v)
outside-on form.Kept v = older-form (walk_of kinds.Nothing scope_ends v.change.stack) v

outside-blind : IsBlind outside_plan
outside-blind v = outside-on v.change.form v

pub end_form-blind : IsBlind end_form_plan
end_form-blind = test-blind template_plan end_form_in_template_plan outside_plan (λ v. refl) in_template-blind outside-blind

-- tests
second-on : (page : Option Page) (v : Split) → second_on page v ≡ second_on page (bare v)
second-on None v = refl
second-on (Some p) v = refl

pub second-bare : (v : Split) → second_plan v ≡ second_plan (bare v)
second-bare v = second-on v.page v

listed-on : (name : List ℕ) (walk : Walk) (v : Split) → listed_on name v walk ≡ listed_on name (bare v) walk
listed-on name (Found k) v = refl
listed-on name Stopped v = refl
listed-on name PastAll v = refl

pub listed-bare : (name : List ℕ) (v : Split) → listed_plan name v ≡ listed_plan name (bare v)
listed-bare name v = listed-on name (entry_walk name v.change.formatting) v
