-- What an end tag does by which the current node ends: it is popped.
use Rattle.std.proofs.Common.{◌≡◌, ℕ, ◌-◌, ◌≤◌, Bool, true, false, ◌&&◌, List, [], ◌∷◌, Option, Some, None, Result, Ok, Err, length, ap, refl, sym, subst, ◌∙◌, arith, inl, inr}
use Rattle.std.specs.Prelude.{not, min, drop, if◌then◌else◌}
use Rattle.hp_elements.specs.Names.{known_of, text_of}
use Rattle.hp_elements.specs.declared.kinds.Kinds.{Kinds}
use Rattle.hp_elements.specs.declared.kinds.Kinds.TheVariants as kinds
use Rattle.hp_elements.specs.declared.known.Known.{Known}
use Rattle.hp_elements.specs.KnownNames as known
use Rattle.hp_elements.specs.declared.sets.SetName.{SetName}
use Rattle.hp_elements.specs.declared.sets.SetName.TheVariants as set
use Rattle.hp_control.specs.declared.change.Refusal.{Refusal}
use Rattle.hp_control.specs.declared.change.Refusal.TheVariants.{Crossed, NoMemory}
use Rattle.hp_control.specs.declared.element.OpenElement.{OpenElement}
use Rattle.hp_control.specs.Faithful.{Page, Split}
use Rattle.hp_control.specs.KindTests.{within}
use Rattle.hp_control.specs.Plan.{Plan, Heard, gives, followed_by, Runs}
use Rattle.hp_control.specs.Running.{runs_gives}
use Rattle.hp_views.specs.ClosingPlans.{close_paragraph_plan, close_plan, either, leaves_it}
use Rattle.hp_views.specs.StackPlans.{own_popped, own_popped_on, pop_run_on, pop_run_plan, seen_on, seen_plan, through_on, through_plan}
use Rattle.hp_views.specs.View.{Sight, Carries}
use Rattle.hp_views.specs.Walks.{deeper, run_walk, walk_of}
use Rattle.hp_views.specs.declared.walks.Walk.TheVariants.{Found, Stopped}
use Rattle.hp_acts.specs.Plans.{implied_but_plan}
use Rattle.hp_acts.specs.TopEnds.{EndsDescription, ends_top}
use Rattle.hp_acts.specs.Usual.{block_end_by, block_end_plan, cell_closed_plan, cell_end_by, cell_end_plan, cell_left_plan, description_end_by, description_end_plan, item_end_by, item_end_plan, paragraph_end_by, paragraph_end_plan}

first_of : (a b : Bool) → (a && b) ≡ true → a ≡ true
first_of true b h = refl
first_of false b h = absurd (cc)

second_of : (a b : Bool) → (a && not b) ≡ true → b ≡ false
second_of true true h = absurd (cc)
second_of true false h = refl
second_of false b h = absurd (cc)

-- there is a current node
pub top_there : (passed : SetName) (name : List ℕ) (es : List OpenElement) → ends_top passed name es ≡ true → 1 ≤ length es
top_there passed name [] h = absurd (cc)
top_there passed name (e ∷ es) h = omega arith

-- it is found at once, and it is passed over by nothing
record Tops (passed : SetName) (name : List ℕ) (v : Split) : Type 0 where
  found : (stops : Kinds) → walk_of (kinds.Html name) stops v.change.stack ≡ Found 0
  stays : run_walk (kinds.Set passed) v.change.stack ≡ Found 0

found_first : (name : List ℕ) (stops : Kinds) (e : OpenElement) (es : List OpenElement) → within (kinds.Html name) e ≡ true → walk_of (kinds.Html name) stops (e ∷ es) ≡ Found 0
found_first name stops e es h = ap (λ (b : Bool). if b then Found 0 else (if within stops e then Stopped else deeper 1 (walk_of (kinds.Html name) stops es))) h

stays_first : (passed : SetName) (e : OpenElement) (es : List OpenElement) → within (kinds.Set passed) e ≡ false → run_walk (kinds.Set passed) (e ∷ es) ≡ Found 0
stays_first passed e es h = ap (λ (b : Bool). if b then deeper 1 (run_walk (kinds.Set passed) es) else Found 0) h

tops_by : (passed : SetName) (name : List ℕ) (v : Split) (es : List OpenElement) → es ≡ v.change.stack → ends_top passed name es ≡ true → Tops passed name v
tops_by passed name v [] p h = absurd (cc)
tops_by passed name v (e ∷ es) p h = record {
  found = λ stops. ap (walk_of (kinds.Html name) stops) (sym p) ∙ found_first name stops e es (first_of (within (kinds.Html name) e) (not (within (kinds.Set passed) e)) h);
  stays = ap (run_walk (kinds.Set passed)) (sym p) ∙ stays_first passed e es (second_of (within (kinds.Html name) e) (within (kinds.Set passed) e) h);
}

tops : (passed : SetName) (name : List ℕ) (v : Split) → ends_top passed name v.change.stack ≡ true → Tops passed name v
tops passed name v h = tops_by passed name v v.change.stack refl h

none_least : (n : ℕ) → min 0 n ≡ 0
none_least n = omega arith

popped_none : (page : Option Page) (es : List OpenElement) → own_popped_on page 0 es ≡ es
popped_none None es = refl
popped_none (Some p) es = ap (λ (n : ℕ). drop n es) (none_least (length es - 1))

none_popped : (v : Split) → own_popped 0 v ≡ v
none_popped v = ap (λ (es : List OpenElement). record v { change = record v.change { stack = es } }) (popped_none v.page v.change.stack)

seen : (passed : SetName) (name : List ℕ) (v : Split) (stops : Kinds) → Tops passed name v → seen_plan (kinds.Html name) stops v ≡ gives true
seen passed name v stops t = ap (seen_on v.change.popped (kinds.Html name) stops) (t.found stops)

stays_there : (passed : SetName) (name : List ℕ) (v : Split) → Tops passed name v → pop_run_plan (kinds.Set passed) v ≡ gives v
stays_there passed name v t = ap (pop_run_on (kinds.Set passed) v) t.stays ∙ ap gives (none_popped v)

gone : (passed : SetName) (name : List ℕ) (v : Split) → Tops passed name v → through_plan (kinds.Html name) kinds.Nothing v ≡ gives (own_popped 1 v)
gone passed name v t = ap (through_on (kinds.Html name) kinds.Nothing v) (t.found kinds.Nothing)

-- nothing is popped above it, and then it is
closed : (passed : SetName) (name : List ℕ) (v : Split) → Tops passed name v → followed_by (pop_run_plan (kinds.Set passed) v) (through_plan (kinds.Html name) kinds.Nothing) ≡ gives (own_popped 1 v)
closed passed name v t = ap (λ (p : Plan Split). followed_by p (through_plan (kinds.Html name) kinds.Nothing)) (stays_there passed name v t) ∙ gone passed name v t

block_ends : (name : List ℕ) (v : Split) → Tops set.Implied name v → block_end_plan name v ≡ gives (own_popped 1 v)
block_ends name v t = ap (λ (p : Plan Bool). followed_by p (block_end_by name v)) (seen set.Implied name v (kinds.Set set.DefaultScopeEnds) t) ∙ closed set.Implied name v t

item_ends : (v : Split) → Tops set.ImpliedButLi (text_of known.Li) v → item_end_plan v ≡ gives (own_popped 1 v)
item_ends v t = ap (λ (p : Plan Bool). followed_by p (item_end_by v)) (seen set.ImpliedButLi (text_of known.Li) v (kinds.Set set.ListItemScopeEnds) t) ∙ closed set.ImpliedButLi (text_of known.Li) v t

paragraph_closes : (v : Split) → Tops set.ImpliedButP (text_of known.P) v → close_paragraph_plan v ≡ gives (own_popped 1 v)
paragraph_closes v t =
    ap (λ (p : Plan Bool). followed_by p (λ b. either (close_plan known.P) leaves_it b v)) (seen set.ImpliedButP (text_of known.P) v (kinds.Set set.ButtonScopeEnds) t)
    ∙ closed set.ImpliedButP (text_of known.P) v t

paragraph_ends : (v : Split) → Tops set.ImpliedButP (text_of known.P) v → paragraph_end_plan v ≡ gives (own_popped 1 v)
paragraph_ends v t = ap (λ (p : Plan Bool). followed_by p (paragraph_end_by v)) (seen set.ImpliedButP (text_of known.P) v (kinds.Set set.ButtonScopeEnds) t) ∙ paragraph_closes v t

term_ends : (name : List ℕ) (v : Split) → known_of name ≡ Some known.Dt → Tops set.ImpliedButDt name v → description_end_plan name v ≡ gives (own_popped 1 v)
term_ends name v k t =
    ap (λ (p : Plan Bool). followed_by p (description_end_by name v)) (seen set.ImpliedButDt name v (kinds.Set set.DefaultScopeEnds) t)
    ∙ (ap (λ (o : Option Known). followed_by (implied_but_plan o v) (through_plan (kinds.Html name) kinds.Nothing)) k ∙ closed set.ImpliedButDt name v t)

details_end : (name : List ℕ) (v : Split) → known_of name ≡ Some known.Dd → Tops set.ImpliedButDd name v → description_end_plan name v ≡ gives (own_popped 1 v)
details_end name v k t =
    ap (λ (p : Plan Bool). followed_by p (description_end_by name v)) (seen set.ImpliedButDd name v (kinds.Set set.DefaultScopeEnds) t)
    ∙ (ap (λ (o : Option Known). followed_by (implied_but_plan o v) (through_plan (kinds.Html name) kinds.Nothing)) k ∙ closed set.ImpliedButDd name v t)

cell_ends : (name : List ℕ) (v : Split) → Tops set.Implied name v → cell_end_plan name v ≡ cell_left_plan (own_popped 1 v)
cell_ends name v t =
    ap (λ (p : Plan Bool). followed_by p (cell_end_by name v)) (seen set.Implied name v (kinds.Set set.TableScopeEnds) t)
    ∙ (ap (λ (p : Plan Split). followed_by p (cell_closed_plan name)) (stays_there set.Implied name v t)
    ∙ ap (λ (p : Plan Split). followed_by p cell_left_plan) (gone set.Implied name v t))

-- it was popped, and nothing was asked
runs_popped : (old new : Sight) (plan : Plan Split) → plan ≡ gives (own_popped 1 old.split) → new.split ≡ own_popped 1 old.split → new.heard ≡ old.heard → Runs old.heard new.heard plan (Ok new.split)
runs_popped old new plan e s b =
    let P : Plan Split → Type 0 = λ p. Runs old.heard old.heard p (Ok (own_popped 1 old.split)) in
    let Q : Heard → Type 0 = λ k. Runs old.heard k plan (Ok (own_popped 1 old.split)) in
    let R : Split → Type 0 = λ w. Runs old.heard new.heard plan (Ok w) in
    subst R (sym s) (subst Q (sym b) (subst P (sym e) (runs_gives old.heard (own_popped 1 old.split))))

pub block_ended : (old new : Sight) (name : List ℕ) → ends_top set.Implied name old.split.change.stack ≡ true → new.split ≡ own_popped 1 old.split → new.heard ≡ old.heard → Runs old.heard new.heard (block_end_plan name old.split) (Ok new.split)
block_ended old new name h s b = runs_popped old new (block_end_plan name old.split) (block_ends name old.split (tops set.Implied name old.split h)) s b

pub item_ended : (old new : Sight) → ends_top set.ImpliedButLi (text_of known.Li) old.split.change.stack ≡ true → new.split ≡ own_popped 1 old.split → new.heard ≡ old.heard → Runs old.heard new.heard (item_end_plan old.split) (Ok new.split)
item_ended old new h s b = runs_popped old new (item_end_plan old.split) (item_ends old.split (tops set.ImpliedButLi (text_of known.Li) old.split h)) s b

pub paragraph_ended : (old new : Sight) → ends_top set.ImpliedButP (text_of known.P) old.split.change.stack ≡ true → new.split ≡ own_popped 1 old.split → new.heard ≡ old.heard → Runs old.heard new.heard (paragraph_end_plan old.split) (Ok new.split)
paragraph_ended old new h s b = runs_popped old new (paragraph_end_plan old.split) (paragraph_ends old.split (tops set.ImpliedButP (text_of known.P) old.split h)) s b

-- a term, or its description
pub description_ended : (old new : Sight) (name : List ℕ) → EndsDescription name old.split.change.stack → new.split ≡ own_popped 1 old.split → new.heard ≡ old.heard → Runs old.heard new.heard (description_end_plan name old.split) (Ok new.split)
description_ended old new name (inl h) s b = runs_popped old new (description_end_plan name old.split) (term_ends name old.split h.0 (tops set.ImpliedButDt name old.split h.1)) s b
description_ended old new name (inr h) s b = runs_popped old new (description_end_plan name old.split) (details_end name old.split h.0 (tops set.ImpliedButDd name old.split h.1)) s b

pub description_there : (name : List ℕ) (es : List OpenElement) → EndsDescription name es → 1 ≤ length es
description_there name es (inl h) = top_there set.ImpliedButDt name es h.1
description_there name es (inr h) = top_there set.ImpliedButDd name es h.1

pub cell_ended : (result : Result (Unit {0}) Refusal) (old mid new : Sight) (name : List ℕ) → ends_top set.Implied name old.split.change.stack ≡ true → mid.split ≡ own_popped 1 old.split → mid.heard ≡ old.heard → Carries result mid new cell_left_plan → Carries result old new (cell_end_plan name)
cell_ended (Ok u) old mid new name h s b k =
    let P : Plan Split → Type 0 = λ p. Runs old.heard new.heard p (Ok new.split) in
    let Q : Split → Type 0 = λ w. Runs old.heard new.heard (cell_left_plan w) (Ok new.split) in
    let R : Heard → Type 0 = λ x. Runs x new.heard (cell_left_plan mid.split) (Ok new.split) in
    subst P (sym (cell_ends name old.split (tops set.Implied name old.split h))) (subst Q s (subst R b k))
cell_ended (Err (Crossed crossing)) old mid new name h s b k =
    let P : Plan Split → Type 0 = λ p. Runs old.heard new.heard p (Err crossing) in
    let Q : Split → Type 0 = λ w. Runs old.heard new.heard (cell_left_plan w) (Err crossing) in
    let R : Heard → Type 0 = λ x. Runs x new.heard (cell_left_plan mid.split) (Err crossing) in
    subst P (sym (cell_ends name old.split (tops set.Implied name old.split h))) (subst Q s (subst R b k))
cell_ended (Err NoMemory) old mid new name h s b k = tt
