-- Acts that pop, on their tracks.
use Rattle.std.proofs.Common.{◌≡◌, ℕ, suc, ◌+◌, ◌<◌, List, [], ◌∷◌, drop, length, Bool, true, false, ◌||◌, ◌&&◌, not, refl, sym, ap, ◌∙◌, subst, arith, inl, inr, Some}
use Rattle.std.specs.Prelude.{if◌then◌else◌, ◌⊎◌}
use Rattle.std.specs.Option.{option_map}
use Rattle.std.proofs.lemmas.Bool.{and_parts, true≢false, false_from_ne_true, not-true, and_right}
use Rattle.std.proofs.lemmas.Option.{none-some, same_Some}
use Rattle.hp_elements.specs.Names.{is_among, words}
use Rattle.hp_elements.specs.declared.act.Scope.{Scope}
use Rattle.hp_elements.specs.declared.act.Scope.TheVariants as scope
use Rattle.hp_elements.specs.declared.kinds.Kinds.{Kinds}
use Rattle.hp_elements.specs.declared.kinds.Kinds.TheVariants as kinds
use Rattle.hp_elements.specs.declared.sets.SetName.TheVariants as sets
use Rattle.hp_elements.proofs.FindLemmas.{equal_bytes}
use Rattle.hp_control.specs.declared.element.OpenElement.{OpenElement}
use Rattle.hp_control.specs.Acts.{pop, through, through_named}
use Rattle.hp_control.specs.Composed.{ends_of}
use Rattle.hp_control.specs.KindTests.{within}
use Rattle.hp_control.specs.Outcome.{Act, touches_any}
use Rattle.hp_control.specs.States.{ControlState, is_rooted}
use Rattle.hp_control.specs.Walks.{reach, seen}
use Rattle.hp_model.proofs.Course.{Course, Along, is_standing}
use Rattle.hp_model.proofs.Courses.{ready, standing-rooted}
use Rattle.hp_model.proofs.Stacks.{deeper}
use Rattle.hp_model.proofs.Thinning.{thinning_pop, thinning_through, thinning_through_named}
use Rattle.hp_model.proofs.Thins.{Thins}
use Rattle.hp_older.specs.GoesOn.{comes, is_a, is_key, is_new}
use Rattle.hp_older.proofs.Kept.{kept-drop, kept-no}
use Rattle.hp_older.proofs.Keys.{apart-name, named-within, named_in, either_of}
use Rattle.hp_older.proofs.Effects.{Leaves, pops-by, shown-thin, shown-weak, through-leaves}
use Rattle.hp_older.proofs.Levels.{Strong, Thin, Weak, core_names, key_names, own_of, strong_pop, template_names, thin_pop, weak-thin, weak_all}
use Rattle.hp_older.proofs.Track.{On, There, nowhere, named, among, ThereIs, Top, unknown, high, plain, made, TopIs, Track, ends_at_cells, is_high, is_plain_one, is_there_named, passed_named, scope_weak, strongly, thinly, weakly}
use Rattle.hp_older.proofs.Tracking.{on_strong, on_thin, on_weak}

-- what an act did: nothing was spared, and a track is met or something older was touched
abbrev pub Did : ControlState → Act → Track → ControlState → Type 0
Did s f w c = ((f c).spared ≡ false) × ((touches_any s (f c) ≡ true) ⊎ On w s (f c).control)

pub did_strong : (s : ControlState) (f : Act) (w : Track) (v : Course) (n : ℕ) (c : ControlState) → Along v n c → On w s c → Thins c (f c).control → Leaves (Strong s c.stack) f c → Did s f (strongly w) c
did_strong s f w v n c g on t l = (l.1, inr (on_strong w s c (f c).control on g.stack_ids t l.0))

pub did_weak : (s : ControlState) (f : Act) (w : Track) (v : Course) (n : ℕ) (c : ControlState) → Along v n c → On w s c → Thins c (f c).control → Leaves (Weak s c.stack) f c → Did s f (weakly w) c
did_weak s f w v n c g on t l = (l.1, inr (on_weak w s c (f c).control on g.stack_ids t l.0))

pub did_thin : (s : ControlState) (f : Act) (w : Track) (v : Course) (n : ℕ) (c : ControlState) → Along v n c → On w s c → Thins c (f c).control → Leaves (Thin s c.stack) f c → Did s f (thinly w) c
did_thin s f w v n c g on t l = (l.1, inr (on_thin w s c (f c).control on g.stack_ids t l.0))

pub rooted_on : (v : Course) (n : ℕ) (c : ControlState) → Along v n c → is_standing v.base ≡ true → is_rooted c.stack ≡ true
rooted_on v n c g h = standing-rooted v.base c.stack c.next h g.base

-- what is on top
pub plain-top : (s : ControlState) (tp : Top) (st : List OpenElement) → is_plain_one tp ≡ true → TopIs tp s st → (1 < length st) × (own_of s key_names (drop 1 st) ≡ own_of s key_names st)
plain-top s unknown st h k = absurd (true≢false (sym h))
plain-top s high st h k = absurd (true≢false (sym h))
plain-top s plain [] h k = absurd k
plain-top s plain (e ∷ st) h k = let l : 0 < length st = k.0 in (omega arith, sym (kept-no (λ x. is_new s x && named_in key_names x) e st (not-true (is_new s e && is_key e) k.1)))
plain-top s made [] h k = absurd k
plain-top s made (e ∷ st) h k = let l : 0 < length st = k.0 in (omega arith, sym (kept-no (λ x. is_new s x && named_in key_names x) e st (not-true (is_new s e && is_key e) k.1)))

pub high-top : (s : ControlState) (tp : Top) (st : List OpenElement) → is_high tp ≡ true → TopIs tp s st → 1 < length st
high-top s unknown st h k = absurd (true≢false (sym h))
high-top s high st h k = k
high-top s plain [] h k = absurd k
high-top s plain (e ∷ st) h k = let l : 0 < length st = k.0 in omega arith
high-top s made [] h k = absurd k
high-top s made (e ∷ st) h k = let l : 0 < length st = k.0 in omega arith

pub pop_did : (s : ControlState) (w : Track) (v : Course) (n : ℕ) (c : ControlState) → Along v n c → On w s c → is_standing v.base ≡ true → (is_plain_one w.top || (is_high w.top && w.bare)) ≡ true → Did s pop (if is_plain_one w.top then strongly w else thinly w) c
pop_did s w v n c g on h k = go (is_plain_one w.top) refl
  where
    t : Thins c (pop c).control
    t = thinning_pop c (ready v n c h g)

    go : (b : Bool) → is_plain_one w.top ≡ b → Did s pop (if b then strongly w else thinly w) c
    go true e = let p = plain-top s w.top c.stack e on.top in did_strong s pop w v n c g on t (pops-by (Strong s c.stack) 1 c p.0 (strong_pop s 1 c.stack p.0 p.1))
    go false e =
        let parts = and_parts (is_high w.top) w.bare (either_of (is_plain_one w.top) (is_high w.top && w.bare) k e) in
        let short = high-top s w.top c.stack parts.0 on.top in
        let none = on.bare parts.1 in
        did_thin s pop w v n c g on t (pops-by (Thin s c.stack) 1 c short (thin_pop s 1 c.stack short (kept-drop (λ x. is_new s x && named_in template_names x) 1 c.stack none ∙ sym none)))

-- an on-track state with other knowledge of what stands there
pub with_there : (there : There) (w : Track) (s c : ControlState) → On w s c → ThereIs there c.stack → On (record w { there = there }) s c
with_there there w s c on h = record { html = on.html; balance = on.balance; free = on.free; top = on.top; there = h; cell = on.cell; select = on.select; bare = on.bare; still = on.still; back = on.back; place = on.place }

pub with_top : (tp : Top) (w : Track) (s c : ControlState) → On w s c → TopIs tp s c.stack → On (record w { top = tp }) s c
with_top tp w s c on h = record { html = on.html; balance = on.balance; free = on.free; top = h; there = on.there; cell = on.cell; select = on.select; bare = on.bare; still = on.still; back = on.back; place = on.place }

-- the ends of each scope have templates, and those of most cells too
scope_templates : (where_ : Scope) (e : OpenElement) → named_in template_names e ≡ true → within (kinds.Set (ends_of where_)) e ≡ true
scope_templates scope.Default = named-within template_names sets.DefaultScopeEnds refl
scope_templates scope.ListItem = named-within template_names sets.ListItemScopeEnds refl
scope_templates scope.Button = named-within template_names sets.ButtonScopeEnds refl
scope_templates scope.Table = named-within template_names sets.TableScopeEnds refl
scope_templates scope.Select = named-within template_names sets.SelectScopeEnds refl

scope_core : (where_ : Scope) → ends_at_cells where_ ≡ true → (e : OpenElement) → named_in core_names e ≡ true → within (kinds.Set (ends_of where_)) e ≡ true
scope_core scope.Default h = named-within core_names sets.DefaultScopeEnds refl
scope_core scope.ListItem h = named-within core_names sets.ListItemScopeEnds refl
scope_core scope.Button h = named-within core_names sets.ButtonScopeEnds refl
scope_core scope.Table h = absurd (true≢false (sym h))
scope_core scope.Select h = absurd (true≢false (sym h))

-- through an element of a name that a scope shows
pub through_shown : (s : ControlState) (name : List ℕ) (w : Track) (v : Course) (n : ℕ) (c : ControlState) → Along v n c → On w s c → is_standing v.base ≡ true → is_among template_names name ≡ false → is_among (words "html") name ≡ false → is_there_named w.there name ≡ true
    → Did s (through_named name) (passed_named name w) c
through_shown s name w v n c g on h nt nh k = go w.there k on.there
  where
    r : is_rooted c.stack ≡ true
    r = rooted_on v n c g h

    t : Thins c (through_named name c).control
    t = thinning_through_named name c (ready v n c h g)

    by_scope : (where_ : Scope) → seen (kinds.Html name) (kinds.Set (ends_of where_)) c.stack ≡ true → (b d : Bool) → ends_at_cells where_ ≡ b → is_among (words "template td th") name ≡ d → Did s (through_named name) (if b && not d then weakly w else thinly w) c
    by_scope where_ shown true false e f = did_weak s (through_named name) w v n c g on t (shown-weak s (kinds.Html name) (kinds.Set (ends_of where_)) c r (apart-name (words "html") name nh) (apart-name core_names name f) (scope_core where_ e) shown)
    by_scope where_ shown true true e f = did_thin s (through_named name) w v n c g on t (shown-thin s (kinds.Html name) (kinds.Set (ends_of where_)) c r (apart-name (words "html") name nh) (apart-name template_names name nt) (scope_templates where_) shown)
    by_scope where_ shown false d e f = did_thin s (through_named name) w v n c g on t (shown-thin s (kinds.Html name) (kinds.Set (ends_of where_)) c r (apart-name (words "html") name nh) (apart-name template_names name nt) (scope_templates where_) shown)

    go : (there : There) → is_there_named there name ≡ true → ThereIs there c.stack → Did s (through_named name) (if scope_weak there name then weakly w else thinly w) c
    go nowhere m shown = absurd (true≢false (sym m))
    go (among where_ names) m shown = absurd (true≢false (sym m))
    go (named where_ other) m shown =
        let same = equal_bytes true other name (sym m) refl in
        by_scope where_ (subst (λ x. seen (kinds.Html x) (kinds.Set (ends_of where_)) c.stack ≡ true) same shown) (ends_at_cells where_) (is_among (words "template td th") name) refl refl

-- what comes before any new template is reached past none of them
pub comes-through : (s : ControlState) (names all : List (List ℕ)) (goals : Kinds) (st : List OpenElement) → ((e : OpenElement) → named_in names e ≡ true → within goals e ≡ true) → ((e : OpenElement) → within goals e ≡ true → named_in template_names e ≡ false)
    → ((e : OpenElement) → named_in template_names e ≡ true → named_in all e ≡ true) → ((e : OpenElement) → named_in names e ≡ true → named_in all e ≡ true) → comes (named_in names) (own_of s all st) ≡ true
    → (k : ℕ) → reach goals kinds.Nothing st ≡ Some k → own_of s template_names (drop (k + 1) st) ≡ own_of s template_names st
comes-through s names all goals [] h g m o x k e = absurd (none-some k e)
comes-through s names all goals (y ∷ ys) h g m o x k e = go (within goals y) refl (is_new s y) refl (named_in all y) refl e x (λ z j q. comes-through s names all goals ys h g m o z j q)
  where
    stays : (named_in template_names y ≡ false) ⊎ (is_new s y ≡ false) → own_of s template_names (y ∷ ys) ≡ own_of s template_names ys
    stays (inl q) = kept-no (λ z. is_new s z && named_in template_names z) y ys (and_right (is_new s y) (named_in template_names y) q)
    stays (inr q) = kept-no (λ z. is_new s z && named_in template_names z) y ys (ap (λ b. b && named_in template_names y) q)

    deep : (named_in template_names y ≡ false) ⊎ (is_new s y ≡ false) → option_map suc (reach goals kinds.Nothing ys) ≡ Some k → ((j : ℕ) → reach goals kinds.Nothing ys ≡ Some j → own_of s template_names (drop (j + 1) ys) ≡ own_of s template_names ys) → own_of s template_names (drop (k + 1) (y ∷ ys)) ≡ own_of s template_names (y ∷ ys)
    deep q p later =
        let (j, there) = deeper (reach goals kinds.Nothing ys) k p in
        let more : suc (j + 1) ≡ k + 1 = omega (arith, there.1) in
        subst (λ i. own_of s template_names (drop i (y ∷ ys)) ≡ own_of s template_names (y ∷ ys)) more (later j there.0 ∙ sym (stays q))

    go : (a : Bool) → within goals y ≡ a → (b : Bool) → is_new s y ≡ b → (d : Bool) → named_in all y ≡ d → (if a then Some 0 else option_map suc (reach goals kinds.Nothing ys)) ≡ Some k → comes (named_in names) (if b && d then y ∷ own_of s all ys else own_of s all ys) ≡ true
        → (comes (named_in names) (own_of s all ys) ≡ true → (j : ℕ) → reach goals kinds.Nothing ys ≡ Some j → own_of s template_names (drop (j + 1) ys) ≡ own_of s template_names ys)
        → own_of s template_names (drop (k + 1) (y ∷ ys)) ≡ own_of s template_names (y ∷ ys)
    go true f b i d j p z later = subst (λ i. own_of s template_names (drop (i + 1) (y ∷ ys)) ≡ own_of s template_names (y ∷ ys)) (same_Some 0 k p) (sym (stays (inl (g y f))))
    go false f true i true j p z later =
        let not_one : named_in names y ≡ false = false_from_ne_true (named_in names y) (λ q. true≢false (sym (h y q) ∙ f)) in
        let parts = and_parts (not (is_a "template" y)) (comes (named_in names) (own_of s all ys)) (either_of (named_in names y) (not (is_a "template" y) && comes (named_in names) (own_of s all ys)) z not_one) in
        deep (inl (not-true (is_a "template" y) parts.0)) p (later parts.1)
    go false f true i false j p z later = deep (inl (false_from_ne_true (named_in template_names y) (λ q. true≢false (sym (m y q) ∙ j)))) p (later z)
    go false f false i d j p z later = deep (inr i) p (later z)

-- through what comes before any new template
pub through_coming : (s : ControlState) (names all : List (List ℕ)) (goals : Kinds) (w : Track) (v : Course) (n : ℕ) (c : ControlState) → Along v n c → On w s c → is_standing v.base ≡ true → ((e : OpenElement) → within goals e ≡ true → named_in (words "html") e ≡ false)
    → ((e : OpenElement) → named_in names e ≡ true → within goals e ≡ true) → ((e : OpenElement) → within goals e ≡ true → named_in template_names e ≡ false)
    → ((e : OpenElement) → named_in template_names e ≡ true → named_in all e ≡ true) → ((e : OpenElement) → named_in names e ≡ true → named_in all e ≡ true) → comes (named_in names) (own_of s all c.stack) ≡ true
    → Did s (through goals kinds.Nothing) (thinly w) c
through_coming s names all goals w v n c g on h nh m nt o q x =
    did_thin s (through goals kinds.Nothing) w v n c g on (thinning_through goals kinds.Nothing c (ready v n c h g))
    (through-leaves (Thin s c.stack) goals kinds.Nothing c (rooted_on v n c g h) nh (weak-thin s c.stack c.stack (weak_all s c.stack))
    (λ k e l. thin_pop s (k + 1) c.stack l (comes-through s names all goals c.stack m nt o q x k e)))
