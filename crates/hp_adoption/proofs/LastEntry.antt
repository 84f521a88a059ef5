-- An adoption whose formatting element is the current node, and its entry the last one.
use Rattle.std.proofs.Common.{◌≡◌, ℕ, suc, ◌<◌, ◌==◌, Bool, true, false, ◌&&◌, ◌||◌, List, [], ◌∷◌, Some, Ok, ap, refl, sym, subst, ◌∙◌, length, drop, slice_get, slice_index_or, arith}
use Rattle.std.specs.Prelude.{not, if◌then◌else◌}
use Rattle.std.specs.Str.{bytes_eq}
use Rattle.std.proofs.lemmas.Bool.Decides.{nat_tests}
use Rattle.hp_elements.specs.declared.tag.Tag.{Tag}
use Rattle.hp_control.specs.declared.element.OpenElement.{OpenElement}
use Rattle.hp_control.specs.declared.element.FormattingEntry.{FormattingEntry}
use Rattle.hp_control.specs.declared.element.FormattingEntry.TheVariants.{Marker, Element}
use Rattle.hp_control.specs.Adoption.{edit_at, find_id, lower, spliced_at}
use Rattle.hp_control.specs.Faithful.{Split}
use Rattle.hp_control.specs.Plan.{Plan, Heard, gives, followed_by, Runs}
use Rattle.hp_control.specs.Running.{runs_gives}
use Rattle.hp_control.specs.States.{is_html}
use Rattle.hp_control.specs.Walks.{has_entry}
use Rattle.hp_views.specs.FieldPlans.{with_change}
use Rattle.hp_views.specs.ListPlans.{with_entries}
use Rattle.hp_views.specs.StackPlans.{own_popped}
use Rattle.hp_views.specs.View.{Sight}
use Rattle.hp_views.specs.Walks.{deeper, entry_walk, id_walk}
use Rattle.hp_views.specs.declared.walks.Walk.TheVariants.{Found}
use Rattle.std.specs.Option.{option_map}
use Rattle.hp_adoption.specs.AdoptPlans.{Turned, adopt_by, adopt_plan, entry_turn, is_plain_plan, own_turn, plain_on, turn_on, turn_plan, turns_on, turns_plan}
use Rattle.hp_adoption.specs.LastEntry.{is_last, is_own, without_last}

not_none : (n : ℕ) → (suc n == 0) ≡ false
not_none n = grind (arith, nat_tests)

pub no_stack : (name : List ℕ) (es : List OpenElement) (fs : List FormattingEntry) → (length es == 0) ≡ true → false ≡ is_last name es fs
no_stack name [] fs h = refl
no_stack name (e ∷ es) fs h = absurd (cc (not_none (length es)))

pub no_list : (name : List ℕ) (es : List OpenElement) (fs : List FormattingEntry) → (length fs == 0) ≡ true → false ≡ is_last name es fs
no_list name [] fs h = refl
no_list name (e ∷ es) [] h = refl
no_list name (e ∷ es) (f ∷ fs) h = absurd (cc (not_none (length fs)))

pub both_there : (name : List ℕ) (es : List OpenElement) (fs : List FormattingEntry) (e : OpenElement) (f : FormattingEntry) → (length es == 0) ≡ false → (length fs == 0) ≡ false
    → e ≡ slice_index_or es 0 e → f ≡ slice_index_or fs 0 f → is_own name e f ≡ is_last name es fs
both_there name [] fs e f h k p q = absurd (cc)
both_there name (x ∷ xs) [] e f h k p q = absurd (cc)
both_there name (x ∷ xs) (y ∷ ys) e f h k p q = ap (λ (a : OpenElement). is_own name a f) p ∙ ap (λ (b : FormattingEntry). is_own name x b) q

-- such a list has an entry, and such a stack an element
pub has_stack : (name : List ℕ) (es : List OpenElement) (fs : List FormattingEntry) → is_last name es fs ≡ true → 0 < length es
has_stack name [] fs h = absurd (cc)
has_stack name (e ∷ es) fs h = omega arith

pub has_list : (name : List ℕ) (es : List OpenElement) (fs : List FormattingEntry) → is_last name es fs ≡ true → 0 < length fs
has_list name [] fs h = absurd (cc)
has_list name (e ∷ es) [] h = absurd (cc)
has_list name (e ∷ es) (f ∷ fs) h = omega arith

first_of : (a b : Bool) → (a && b) ≡ true → a ≡ true
first_of true b h = refl
first_of false b h = absurd (cc)

second_of : (a b : Bool) → (a && b) ≡ true → b ≡ true
second_of true b h = h
second_of false b h = absurd (cc)

none_of : (a b x : Bool) → x ≡ true → (a && b && not x) ≡ false
none_of false b x h = refl
none_of true false x h = refl
none_of true true true h = refl
none_of true true false h = absurd (cc)

eqs_same : (m n : ℕ) → (m == n) ≡ true → (n == m) ≡ true
eqs_same m n h = grind (arith, nat_tests)

eqs_self : (n : ℕ) → (n == n) ≡ true
eqs_self n = grind (arith, nat_tests)

-- what is known of the stack and of the list
record AreLast (name : List ℕ) (v : Split) (e : OpenElement) (es : List OpenElement) (id : ℕ) (tag : Tag) (fs : List FormattingEntry) : Type 0 where
  stack : e ∷ es ≡ v.change.stack
  list : Element id tag ∷ fs ≡ v.change.formatting
  own : (id == e.id) ≡ true
  named : bytes_eq name tag.name ≡ true

plain_not : (name : List ℕ) (v : Split) (e : OpenElement) (es : List OpenElement) (id : ℕ) (tag : Tag) (fs : List FormattingEntry) → AreLast name v e es id tag fs → is_plain_plan name v ≡ gives false
plain_not name v e es id tag fs h =
    let has : has_entry e.id v.change.formatting ≡ true = ap (has_entry e.id) (sym h.list) ∙ ap (λ (b : Bool). b || has_entry e.id fs) h.own in
    ap (plain_on name v) (sym h.stack) ∙ ap gives (none_of (is_html e) (bytes_eq name e.name) (has_entry e.id v.change.formatting) has)

struck_last : (id : ℕ) (tag : Tag) (fs : List FormattingEntry) → edit_at id 1 [] (Element id tag ∷ fs) ≡ drop 1 (Element id tag ∷ fs)
struck_last id tag fs =
    ap (λ (b : Bool). spliced_at (if b then Some (record { depth = 0; id = id; tag = tag }) else option_map lower (find_id id fs)) 1 [] (Element id tag ∷ fs)) (eqs_self id)

own_last : (fostering : Bool) (name : List ℕ) (v : Split) (e : OpenElement) (es : List OpenElement) (id : ℕ) (tag : Tag) (fs : List FormattingEntry) → AreLast name v e es id tag fs
    → own_turn fostering id tag v (Found 0) ≡ gives (record { split = without_last (own_popped 1 v); goes_on = false })
own_last fostering name v e es id tag fs h =
    let P : List FormattingEntry → Type 0 = λ l. edit_at id 1 [] l ≡ drop 1 l in
    let gone : edit_at id 1 [] v.change.formatting ≡ drop 1 v.change.formatting = subst P h.list (struck_last id tag fs) in
    ap (λ (l : List FormattingEntry). gives (record { split = with_change (with_entries l (own_popped 1 v).change) (own_popped 1 v); goes_on = false })) gone

turn_last : (fostering : Bool) (name : List ℕ) (v : Split) (e : OpenElement) (es : List OpenElement) (id : ℕ) (tag : Tag) (fs : List FormattingEntry) → AreLast name v e es id tag fs
    → turn_plan fostering name v ≡ gives (record { split = without_last (own_popped 1 v); goes_on = false })
turn_last fostering name v e es id tag fs h =
    let walked : entry_walk name v.change.formatting ≡ Found 0 = ap (entry_walk name) (sym h.list) ∙ ap (λ (b : Bool). if b then Found 0 else deeper 1 (entry_walk name fs)) h.named in
    let entry : slice_get v.change.formatting 0 ≡ Some (Element id tag) = ap (λ (l : List FormattingEntry). slice_get l 0) (sym h.list) in
    let there : id_walk id v.change.stack ≡ Found 0 = ap (id_walk id) (sym h.stack) ∙ ap (λ (b : Bool). if b then Found 0 else deeper 1 (id_walk id es)) (eqs_same id e.id h.own) in
    ap (turn_on fostering name v) walked
    ∙ (ap (entry_turn fostering v) entry
    ∙ (ap (own_turn fostering id tag v) there ∙ own_last fostering name v e es id tag fs h))

turns_once : (fostering : Bool) (name : List ℕ) (v w : Split) (n m : ℕ) → n ≡ suc m → turn_plan fostering name v ≡ gives (record { split = w; goes_on = false }) → turns_plan n fostering name v ≡ gives w
unfolding turns_plan
turns_once fostering name v w n m e t =
    let P : ℕ → Type 0 = λ k. turns_plan k fostering name v ≡ gives w in
    subst P (sym e) (ap (λ (p : Plan Turned). followed_by p (λ t. turns_on (turns_plan m fostering name) t.split t.goes_on)) t)

adopts : (fostering : Bool) (name : List ℕ) (v : Split) (e : OpenElement) (es : List OpenElement) (id : ℕ) (tag : Tag) (fs : List FormattingEntry) → AreLast name v e es id tag fs
    → adopt_plan fostering name v ≡ gives (without_last (own_popped 1 v))
adopts fostering name v e es id tag fs h =
    ap (λ (p : Plan Bool). followed_by p (adopt_by fostering name v)) (plain_not name v e es id tag fs h)
    ∙ turns_once fostering name v (without_last (own_popped 1 v)) 8 7 (let e : 8 ≡ suc 7 = omega arith in e) (turn_last fostering name v e es id tag fs h)

adopts_by : (fostering : Bool) (name : List ℕ) (v : Split) (es : List OpenElement) (fs : List FormattingEntry) → es ≡ v.change.stack → fs ≡ v.change.formatting → is_last name es fs ≡ true
    → adopt_plan fostering name v ≡ gives (without_last (own_popped 1 v))
adopts_by fostering name v [] fs p q h = absurd (cc)
adopts_by fostering name v (e ∷ es) [] p q h = absurd (cc)
adopts_by fostering name v (e ∷ es) (Marker ∷ fs) p q h = absurd (cc)
adopts_by fostering name v (e ∷ es) (Element id tag ∷ fs) p q h =
    adopts fostering name v e es id tag fs (record { stack = p; list = q; own = first_of (id == e.id) (bytes_eq name tag.name) h; named = second_of (id == e.id) (bytes_eq name tag.name) h })

-- the element and its entry are taken off, and nothing is asked
pub last_adopted : (old new : Sight) (fostering : Bool) (name : List ℕ) → is_last name old.split.change.stack old.split.change.formatting ≡ true
    → new.split ≡ without_last (own_popped 1 old.split) → new.heard ≡ old.heard → Runs old.heard new.heard (adopt_plan fostering name old.split) (Ok new.split)
last_adopted old new fostering name h s b =
    let plan = adopts_by fostering name old.split old.split.change.stack old.split.change.formatting refl refl h in
    let P : Plan Split → Type 0 = λ p. Runs old.heard old.heard p (Ok (without_last (own_popped 1 old.split))) in
    let run : Runs old.heard old.heard (adopt_plan fostering name old.split) (Ok (without_last (own_popped 1 old.split))) = subst P (sym plan) (runs_gives old.heard (without_last (own_popped 1 old.split))) in
    let Q : Heard → Type 0 = λ k. Runs old.heard k (adopt_plan fostering name old.split) (Ok (without_last (own_popped 1 old.split))) in
    let R : Split → Type 0 = λ w. Runs old.heard new.heard (adopt_plan fostering name old.split) (Ok w) in
    subst R (sym s) (subst Q (sym b) run)
