-- Whole adoptions, links and forms, and what is made anew.
use Rattle.std.proofs.Common.{◌≡◌, ℕ, zero, suc, ◌<◌, List, [], ◌∷◌, drop, length, Bool, true, false, ◌||◌, ◌&&◌, refl, sym, ap, ◌∙◌, subst, arith, Option, None, Some}
use Rattle.std.specs.Prelude.{if◌then◌else◌, IfSome, slice_get}
use Rattle.std.specs.List.{list_all}
use Rattle.std.specs.Str.{bytes_eq}
use Rattle.std.proofs.lemmas.Bool.{and_parts, true≢false, lt-leb}
use Rattle.hp_elements.specs.Kinds.{is_html as is_html_space}
use Rattle.hp_elements.specs.Names.{is_among, text_of, words}
use Rattle.hp_elements.specs.Sets.{members}
use Rattle.hp_elements.specs.declared.act.Scope.TheVariants as scope
use Rattle.hp_elements.specs.declared.kinds.Kinds.TheVariants as kinds
use Rattle.hp_elements.specs.KnownNames as known
use Rattle.hp_elements.specs.declared.sets.Namespace.{Namespace}
use Rattle.hp_elements.specs.declared.sets.SetName.TheVariants as sets
use Rattle.hp_elements.specs.declared.tag.Tag.{Tag}
use Rattle.hp_control.specs.declared.edit.Child.TheVariants as child
use Rattle.hp_control.specs.declared.element.OpenElement.{OpenElement}
use Rattle.hp_control.specs.declared.element.FormattingEntry.{FormattingEntry}
use Rattle.hp_control.specs.declared.element.FormattingEntry.TheVariants.{Marker, Element}
use Rattle.hp_control.specs.Acts.{element_for, empty_form, insert, pop, pop_run, put_here, frameset_not_ok, remove_entry, take_off, through_named}
use Rattle.hp_control.specs.Adoption.{Spot, adopt, find_name, goes_on, is_plain, plain_top, reconstruct, renew, renew_down, renew_entry, stale, turn, turns}
use Rattle.hp_control.specs.Composed.{close_link, close_link_of, drop_entry, end_form, end_form_in_template, end_form_of, foster_character, foster_characters, implied, is_open_form, is_white, named_in_scope, put_characters, template_in_stack}
use Rattle.hp_control.specs.Foreign.{insert_in, tag_in}
use Rattle.hp_control.specs.KindTests.{within}
use Rattle.hp_control.specs.Outcome.{Act, and_then, choose, nothing_done}
use Rattle.hp_control.specs.States.{ControlState, is_html, is_rooted}
use Rattle.hp_control.specs.Walks.{has_entry, run_of, seen}
use Rattle.hp_model.proofs.Adopting.{entry-id, name-found, thinning_adopt, thinning_turn}
use Rattle.hp_model.proofs.Stacks.{rooted-some}
use Rattle.hp_model.proofs.Thinning.{got-formatting, thinning_drop_entry, thinning_empty_form, thinning_implied, thinning_reconstruct, thinning_renew}
use Rattle.hp_model.proofs.Thins.{Ready, ready_after}
use Rattle.hp_older.proofs.Keys.{apart-foreign, apart-name, apart-set, named-within, named_in}
use Rattle.hp_older.proofs.Popping.{all-popped, run-short, shown-run}
use Rattle.hp_older.proofs.Effects.{Leaves, choose_leaves, implied-strong, leaves_then, nothing_leaves, other_name, pops-by, root-apart, root-html, run_rooted, shown-weak, strong_leaves}
use Rattle.hp_older.proofs.Levels.{Strong, Weak, core_names, fewer, key_names, own_of, weak_all, weak_pop}
use Rattle.hp_older.proofs.Adopts.{Apart, Careful, careful_after, formatting_plain, listed-apart, off-weak, pointed-apart, turn-weak}
use Rattle.hp_older.proofs.Pushing.{own-same}

pub turns-weak : (n : ℕ) (s : ControlState) (fostering : Bool) (name : List ℕ) (c : ControlState) → is_among (words "html") name ≡ false → is_among core_names name ≡ false → Careful s c → Leaves (Weak s c.stack) (turns n fostering name) c
unfolding turns
turns-weak zero s fostering name c nh nc h = nothing_leaves s c
turns-weak (suc n) s fostering name c nh nc h =
    let t = turn-weak s fostering name c nh nc h in
    let d = (turn fostering name c).control in
    choose_leaves s (goes_on name) (and_then (turn fostering name) (turns n fostering name)) (turn fostering name) c
    (λ e. leaves_then s (turn fostering name) (turns n fostering name) c t (turns-weak n s fostering name d nh nc (careful_after s c d h (thinning_turn fostering name c h.ready) t.0)))
    (λ e. t)

-- a current node that isn't html has another element below it
pub top-short : (e : OpenElement) (es : List OpenElement) → is_rooted (e ∷ es) ≡ true → named_in (words "html") e ≡ false → 1 < length (e ∷ es)
top-short e [] r h = absurd (true≢false (sym (root-html e r) ∙ h))
top-short e (f ∷ es) r h = omega arith

plain-pop : (s : ControlState) (name : List ℕ) (c : ControlState) (st : List OpenElement) → c.stack ≡ st → is_rooted c.stack ≡ true → is_among (words "html") name ≡ false → is_among core_names name ≡ false → plain_top name st c.formatting ≡ true → Leaves (Weak s c.stack) pop c
plain-pop s name c [] q r nh nc h = absurd (true≢false (sym h))
plain-pop s name c (e ∷ es) q r nh nc h =
    let one : within (kinds.Html name) e ≡ true = (and_parts (is_html e && bytes_eq name e.name) _ h).0 in
    let short : 1 < length c.stack = subst (λ x. 1 < length x) (sym q) (top-short e es (subst (λ x. is_rooted x ≡ true) q r) (apart-name (words "html") name nh e one)) in
    let same : own_of s core_names (drop 1 c.stack) ≡ own_of s core_names c.stack = subst (λ x. own_of s core_names (drop 1 x) ≡ own_of s core_names x) (sym q) (sym (own-same s core_names e es (apart-name core_names name nc e one))) in
    pops-by (Weak s c.stack) 1 c short (weak_pop s 1 c.stack short same)

pub adopt-weak : (s : ControlState) (fostering : Bool) (name : List ℕ) (c : ControlState) → is_among (words "html") name ≡ false → is_among core_names name ≡ false → Careful s c → Leaves (Weak s c.stack) (adopt fostering name) c
adopt-weak s fostering name c nh nc h = choose_leaves s (is_plain name) pop (turns 8 fostering name) c
    (λ e. plain-pop s name c c.stack refl h.ready.rooted nh nc e)
    (λ e. turns-weak 8 s fostering name c nh nc h)

drop-weak : (s : ControlState) (id : ℕ) (c : ControlState) → Leaves (Weak s c.stack) (drop_entry id) c
drop-weak s id c = choose_leaves s (λ d. has_entry id d.formatting) (remove_entry id) nothing_done c (λ e. (weak_all s c.stack, refl)) (λ e. nothing_leaves s c)

pub link-weak : (s : ControlState) (fostering : Bool) (c : ControlState) → Careful s c → Leaves (Weak s c.stack) (close_link fostering) c
link-weak s fostering c h = go (find_name (text_of known.A) c.formatting) refl
  where
    go : (o : Option Spot) → find_name (text_of known.A) c.formatting ≡ o → Leaves (Weak s c.stack) (close_link_of fostering o) c
    go None e = nothing_leaves s c
    go (Some entry) e =
        let found = name-found (text_of known.A) c.formatting entry e h.ready.formatting in
        let first = adopt-weak s fostering (text_of known.A) c refl refl h in
        let d = (adopt fostering (text_of known.A) c).control in
        let hd = careful_after s c d h (thinning_adopt fostering (text_of known.A) c h.ready) first.0 in
        let next = drop-weak s entry.id d in
        let f = (drop_entry entry.id d).control in
        let hf = careful_after s d f hd (thinning_drop_entry entry.id d hd.ready) next.0 in
        let apart = subst (λ es. Apart entry.id es) (sym (next.0.core ∙ first.0.core)) (listed-apart c entry.id found.listed (own_of s core_names c.stack) h.free) in
        leaves_then s (adopt fostering (text_of known.A)) (and_then (drop_entry entry.id) (take_off entry.id)) c first
        (leaves_then s (drop_entry entry.id) (take_off entry.id) d next (off-weak s entry.id f hf.ready.rooted (entry-id c.next entry c.formatting h.ready.list_ids found) apart))

-- the end of a form
default_core : (e : OpenElement) → named_in core_names e ≡ true → within (kinds.Set sets.DefaultScopeEnds) e ≡ true
default_core = named-within core_names sets.DefaultScopeEnds refl

in_template : (s : ControlState) (c : ControlState) → is_rooted c.stack ≡ true → Leaves (Weak s c.stack) end_form_in_template c
in_template s c r = choose_leaves s (named_in_scope scope.Default (text_of known.Form)) (and_then implied (through_named (text_of known.Form))) nothing_done c shown_one (λ e. nothing_leaves s c)
  where
    shown_one : seen (kinds.Html (text_of known.Form)) (kinds.Set sets.DefaultScopeEnds) c.stack ≡ true → Leaves (Weak s c.stack) (and_then implied (through_named (text_of known.Form))) c
    shown_one shown =
        let names = kinds.Set sets.Implied in
        let l = run-short names c.stack r (root-apart names (apart-set (words "html") (members sets.Implied) refl)) in
        let there : seen (kinds.Html (text_of known.Form)) (kinds.Set sets.DefaultScopeEnds) (pop_run names c).control.stack ≡ true =
        subst (λ es. seen (kinds.Html (text_of known.Form)) (kinds.Set sets.DefaultScopeEnds) es ≡ true) (sym (all-popped (run_of names c.stack) c.stack l))
        (shown-run (kinds.Html (text_of known.Form)) (kinds.Set sets.DefaultScopeEnds) names c.stack (λ e m. other_name (text_of known.Form) e (apart-set (text_of known.Form ∷ []) (members sets.Implied) refl e m)) shown) in
        leaves_then s implied (through_named (text_of known.Form)) c (strong_leaves s implied c (implied-strong s c r))
        (shown-weak s (kinds.Html (text_of known.Form)) (kinds.Set sets.DefaultScopeEnds) (pop_run names c).control (run_rooted names c r l) (apart-name (words "html") (text_of known.Form) refl) (apart-name core_names (text_of known.Form) refl) default_core there)

outside : (s : ControlState) (c : ControlState) → Careful s c → (o : Option ℕ) → c.form ≡ o → Leaves (Weak s c.stack) (end_form_of o) c
outside s c h None e = nothing_leaves s c
outside s c h (Some id) e =
    let d = (empty_form c).control in
    let one : 1 < id = (subst (λ o. IfSome o (λ i. (1 < i) × (i < c.next))) e h.ready.form).0 in
    let apart = pointed-apart c id e (own_of s core_names c.stack) h.free in
    let strong = implied-strong s d h.ready.rooted in
    let f = (implied d).control in
    let rf = ready_after d f (ready_after c d h.ready (thinning_empty_form c h.ready)) (thinning_implied d (ready_after c d h.ready (thinning_empty_form c h.ready))) in
    let core : own_of s core_names f.stack ≡ own_of s core_names c.stack = fewer s core_names key_names c.stack f.stack refl strong.0 in
    leaves_then s empty_form (choose (is_open_form id) (and_then implied (take_off id)) nothing_done) c (weak_all s c.stack, refl)
    (choose_leaves s (is_open_form id) (and_then implied (take_off id)) nothing_done d
    (λ m. leaves_then s implied (take_off id) d (strong_leaves s implied d strong) (off-weak s id f rf.rooted one (subst (λ es. Apart id es) (sym core) apart)))
    (λ m. nothing_leaves s d))

pub form-weak : (s : ControlState) (c : ControlState) → Careful s c → Leaves (Weak s c.stack) end_form c
form-weak s c h = choose_leaves s template_in_stack end_form_in_template (λ d. end_form_of d.form d) c (λ e. in_template s c h.ready.rooted) (λ e. outside s c h c.form refl)

-- what is made anew is of formatting elements
pub strong_then : (s : ControlState) (f g : Act) (c : ControlState) → Leaves (Strong s c.stack) f c → Leaves (Strong s (f c).control.stack) g (f c).control → Leaves (Strong s c.stack) (and_then f g) c
strong_then s f g c h k = (k.0 ∙ h.0, or_off (f c).spared (g (f c).control).spared h.1 k.1)
  where
    or_off : (a b : Bool) → a ≡ false → b ≡ false → (a || b) ≡ false
    or_off true b x y = x
    or_off false b x y = y

renew-strong : (s : ControlState) (fostering : Bool) (depth : ℕ) (c : ControlState) → Ready c → Leaves (Strong s c.stack) (renew fostering depth) c
renew-strong s fostering depth c r = go (slice_get c.formatting depth) refl
  where
    go : (o : Option FormattingEntry) → slice_get c.formatting depth ≡ o → Leaves (Strong s c.stack) (renew_entry fostering o depth) c
    go None e = (refl, refl)
    go (Some Marker) e = (refl, refl)
    go (Some (Element id tag)) e = (own-same s key_names (element_for c.next tag) c.stack (formatting_plain key_names refl c.next tag (got-formatting c.formatting depth (Element id tag) e r.formatting).1), refl)

renew_down-strong : (s : ControlState) (fostering : Bool) (depth : ℕ) (c : ControlState) → Ready c → Leaves (Strong s c.stack) (renew_down fostering depth) c
renew_down-strong s fostering zero c r = (refl, refl)
renew_down-strong s fostering (suc depth) c r =
    let d = (renew fostering depth c).control in
    strong_then s (renew fostering depth) (renew_down fostering depth) c (renew-strong s fostering depth c r) (renew_down-strong s fostering depth d (ready_after c d r (thinning_renew fostering depth c r)))

pub reconstruct-strong : (s : ControlState) (fostering : Bool) (c : ControlState) → Ready c → Leaves (Strong s c.stack) (reconstruct fostering) c
reconstruct-strong s fostering c r = renew_down-strong s fostering (stale c.stack c.formatting) c r

put-strong : (s : ControlState) (text : List ℕ) (c : ControlState) → Leaves (Strong s c.stack) (put_characters text) c
put-strong s [] c = (refl, refl)
put-strong s (letter ∷ text) c = strong_then s (put_here false (child.Text (letter ∷ []))) (put_characters text) c (refl, refl) (put-strong s text c)

tail-strong : (s : ControlState) (b : Bool) (c : ControlState) → Leaves (Strong s c.stack) (if b then nothing_done else frameset_not_ok) c
tail-strong s true c = (refl, refl)
tail-strong s false c = (refl, refl)

tail_ready : (b : Bool) (c : ControlState) → Ready c → Ready ((if b then nothing_done else frameset_not_ok) c).control
tail_ready true c r = r
tail_ready false c r = record { rooted = r.rooted; stack_ids = r.stack_ids; list_ids = r.list_ids; head = r.head; form = r.form; formatting = r.formatting }

one-strong : (s : ControlState) (letter : ℕ) (c : ControlState) → Ready c → Leaves (Strong s c.stack) (foster_character letter) c
one-strong s letter c r =
    let d = (reconstruct true c).control in
    strong_then s (reconstruct true) (and_then (put_here true (child.Text (letter ∷ []))) (if is_white letter then nothing_done else frameset_not_ok)) c (reconstruct-strong s true c r)
    (strong_then s (put_here true (child.Text (letter ∷ []))) (if is_white letter then nothing_done else frameset_not_ok) d (refl, refl) (tail-strong s (is_white letter) d))

foster-strong : (s : ControlState) (text : List ℕ) (c : ControlState) → Ready c → Leaves (Strong s c.stack) (foster_characters text) c
foster-strong s [] c r = (refl, refl)
foster-strong s (letter ∷ text) c r =
    let d = (foster_character letter c).control in
    let rd : Ready d = tail_ready (is_white letter) (reconstruct true c).control (ready_after c (reconstruct true c).control r (thinning_reconstruct true c r)) in
    strong_then s (foster_character letter) (foster_characters text) c (one-strong s letter c r) (foster-strong s text d rd)

pub flushed-strong : (s : ControlState) (text : List ℕ) (c : ControlState) → Ready c → Leaves (Strong s c.stack) (if list_all is_white text then put_characters text else foster_characters text) c
flushed-strong s text c r = go (list_all is_white text)
  where
    go : (b : Bool) → Leaves (Strong s c.stack) (if b then put_characters text else foster_characters text) c
    go true = put-strong s text c
    go false = foster-strong s text c r

-- a foreign element, which may be popped again
pub foreign_made-strong : (s : ControlState) (space : Namespace) (fostering self_closing : Bool) (tag : Tag) (c : ControlState) → is_html_space space ≡ false → is_rooted c.stack ≡ true → Leaves (Strong s c.stack) (insert_in space fostering self_closing tag) c
foreign_made-strong s space fostering self_closing tag c h r = strong_then s (insert fostering (tag_in space tag)) (if self_closing then pop else nothing_done) c (pushed, refl) (go self_closing)
  where
    e : OpenElement
    e = element_for c.next (tag_in space tag)

    pushed : Strong s c.stack (e ∷ c.stack)
    pushed = own-same s key_names e c.stack (apart-foreign key_names e h)

    short : 1 < length (e ∷ c.stack)
    short = let l : 0 < length c.stack = rooted-some c.stack r in omega arith

    go : (b : Bool) → Leaves (Strong s (e ∷ c.stack)) (if b then pop else nothing_done) (insert fostering (tag_in space tag) c).control
    go true = (ap (own_of s key_names) (all-popped 1 (e ∷ c.stack) short) ∙ sym pushed, lt-leb (length (e ∷ c.stack)) 1 short)
    go false = (refl, refl)
