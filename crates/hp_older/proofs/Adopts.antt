-- Adoption, links and forms leave templates and cells as they are.
use Rattle.std.proofs.Common.{◌≡◌, ℕ, zero, suc, ◌+◌, ◌<◌, ◌==◌, List, [], ◌∷◌, ◌++◌, take, drop, length, Bool, true, false, ◌&&◌, not, refl, sym, ap, ◌∙◌, subst, arith, append-nil, Option, None, Some, nat_lt}
use Rattle.std.specs.Prelude.{if◌then◌else◌, All, IfSome}
use Rattle.std.specs.List.{list_all}
use Rattle.std.specs.Option.{option_map}
use Rattle.std.proofs.lemmas.Bool.{true≢false, eqb-true, false_from_ne_true, and_right}
use Rattle.std.proofs.lemmas.Option.{none-some, same_Some}
use Rattle.std.proofs.lemmas.List.{length-drop}
use Rattle.std.proofs.lemmas.List.Elements.{All-nil, All-cons, All-head, All-tail}
use Rattle.hp_elements.specs.Names.{is_among, words}
use Rattle.hp_elements.specs.Sets.{in_set, members}
use Rattle.hp_elements.specs.declared.kinds.Kinds.TheVariants as kinds
use Rattle.hp_elements.specs.declared.sets.SetName.TheVariants as sets
use Rattle.hp_elements.specs.declared.tag.Tag.{Tag}
use Rattle.hp_control.specs.declared.edit.Ref.TheVariants.{Fixed}
use Rattle.hp_control.specs.declared.element.OpenElement.{OpenElement}
use Rattle.hp_control.specs.declared.element.FormattingEntry.TheVariants.{Element}
use Rattle.hp_control.specs.Acts.{element_for, pop_by, popped_by, take_off, taken_off, without}
use Rattle.hp_control.specs.Adoption.{Climbed, Seat, Spot, adopt_once, at_block, between, block_case, edit_at, entry_case, find_id, find_name, furthest, Hidden, hides, nearer, open_case, pass, pass_all, pass_listed, renewed, strike, turn, turn_in}
use Rattle.hp_control.specs.KindTests.{within}
use Rattle.hp_control.specs.Outcome.{and_then}
use Rattle.hp_control.specs.States.{ControlState, IsFormatting, entry_ids, is_html, is_rooted}
use Rattle.hp_control.specs.Walks.{open_at}
use Rattle.hp_model.proofs.Adopting.{IsEntry, entry-id, id-found, name-found}
use Rattle.hp_model.proofs.Ids.{is_id, new-none}
use Rattle.hp_model.proofs.Stacks.{deeper, refused, rooted-some, rooted-under}
use Rattle.hp_model.proofs.Tally.{tally}
use Rattle.hp_model.proofs.Thinning.{edited-formatting, not_root, one_entry}
use Rattle.hp_model.proofs.Thins.{Ready, Thins, entry_is, ready_after, tally-entries}
use Rattle.hp_older.specs.GoesOn.{IsFree, is_new}
use Rattle.hp_older.proofs.Kept.{kept-append, kept-no}
use Rattle.hp_older.proofs.Keys.{named-within, named_in}
use Rattle.hp_older.proofs.Effects.{Leaves, leaves_then, nothing_leaves, pops-by, walk-weak}
use Rattle.hp_older.proofs.Levels.{Weak, core_names, own_of, weak_all, weak_pop}
use Rattle.hp_older.proofs.Tracking.{below-kept, free-later}

-- none of them has this id
abbrev pub Apart : ℕ → List OpenElement → Type 0
Apart id es = All (λ (e : OpenElement). e.id ≡ id → ⊥) es

-- what is found by its id isn't the root
pub open-short : (id k : ℕ) (es : List OpenElement) → open_at id es ≡ Some k → (id ≡ 1 → ⊥) → is_rooted es ≡ true → k + 1 < length es
open-short id k es h d r =
    let some : 0 < length (drop (k + 1) es) = rooted-some (drop (k + 1) es) (rooted-under id k es h d r) in
    omega (arith, some, length-drop (k + 1) es)

abbrev first_seat : OpenElement → Seat
first_seat e = record { depth = 0; element = e }

module _ (s : ControlState) (names : List (List ℕ)) where
  abbrev p : OpenElement → Bool
  p = λ e. is_new s e && named_in names e

  -- around an element that isn't one of them
  pub around : (id : ℕ) (es : List OpenElement) → Apart id (own_of s names es) → (k : ℕ) → open_at id es ≡ Some k → own_of s names es ≡ own_of s names (take k es) ++ own_of s names (drop (k + 1) es)
  around id [] a k h = absurd (none-some k h)
  around id (e ∷ es) a k h = go (p e) refl (e.id == id) refl a h (λ b j f. around id es b j f)
    where
      go : (b : Bool) → p e ≡ b → (i : Bool) → (e.id == id) ≡ i → Apart id (if b then e ∷ own_of s names es else own_of s names es) → (if i then Some 0 else option_map suc (open_at id es)) ≡ Some k
          → (Apart id (own_of s names es) → (j : ℕ) → open_at id es ≡ Some j → own_of s names es ≡ own_of s names (take j es) ++ own_of s names (drop (j + 1) es))
          → own_of s names (e ∷ es) ≡ own_of s names (take k (e ∷ es)) ++ own_of s names (drop (k + 1) (e ∷ es))
      go true f true g x m later = absurd (All-head (λ (y : OpenElement). y.id ≡ id → ⊥) e (own_of s names es) x (eqb-true e.id id g))
      go false f true g x m later =
          subst (λ j. own_of s names (e ∷ es) ≡ own_of s names (take j (e ∷ es)) ++ own_of s names (drop (j + 1) (e ∷ es))) (same_Some 0 k m) (kept-no p e es f)
      go b f false g x m later =
          let (j, there) = deeper (open_at id es) k m in
          let more : suc (j + 1) ≡ suc j + 1 = omega arith in
          subst (λ i. own_of s names (e ∷ es) ≡ own_of s names (take i (e ∷ es)) ++ own_of s names (drop (i + 1) (e ∷ es))) (sym there.1)
          (subst (λ i. own_of s names (e ∷ es) ≡ own_of s names (take (suc j) (e ∷ es)) ++ own_of s names (drop i (e ∷ es))) more
          (joined (p e) (own_of s names (take j es)) (own_of s names (drop (j + 1) es)) (later (rest b x) j there.0)))
        where
          rest : (b : Bool) → Apart id (if b then e ∷ own_of s names es else own_of s names es) → Apart id (own_of s names es)
          rest true y = All-tail (λ (z : OpenElement). z.id ≡ id → ⊥) e (own_of s names es) y
          rest false y = y

          joined : (b : Bool) (xs ys : List OpenElement) → own_of s names es ≡ xs ++ ys → (if b then e ∷ own_of s names es else own_of s names es) ≡ (if b then e ∷ xs else xs) ++ ys
          joined true xs ys q = ap (λ l. e ∷ l) q
          joined false xs ys q = q

  pub kept-without : (id : ℕ) (es : List OpenElement) → Apart id (own_of s names es) → (k : ℕ) → open_at id es ≡ Some k → own_of s names (without k es) ≡ own_of s names es
  kept-without id es a k h = kept-append p (take k es) (drop (k + 1) es) ∙ sym (around id es a k h)

  module _ (special : (e : OpenElement) → named_in names e ≡ true → within (kinds.Set sets.Special) e ≡ true) (plain : (id : ℕ) (tag : Tag) → in_set sets.Formatting tag.namespace tag.name ≡ true → named_in names (element_for id tag) ≡ false) where
    not_special : (e : OpenElement) → within (kinds.Set sets.Special) e ≡ false → p e ≡ false
    not_special e h = go (is_new s e) (false_from_ne_true (named_in names e) (λ k. true≢false (sym (special e k) ∙ h)))
      where
        go : (b : Bool) → named_in names e ≡ false → (b && named_in names e) ≡ false
        go true k = k
        go false k = refl

    some_seat : (a b : Seat) → Some a ≡ Some b → a ≡ b
    some_seat a b h = cc

    some_none : (a : Seat) → Some a ≡ None → ⊥
    some_none a h = cc

    -- without a special element there is none of them
    pub none-special : (es : List OpenElement) → furthest es ≡ None → own_of s names es ≡ []
    none-special [] h = refl
    none-special (e ∷ es) h = go (furthest es) refl h (none-special es)
      where
        here : (b : Bool) → within (kinds.Set sets.Special) e ≡ b → (if b then Some (first_seat e) else None) ≡ None → own_of s names es ≡ [] → own_of s names (e ∷ es) ≡ []
        here true f k r = absurd (some_none (first_seat e) k)
        here false f k r = kept-no p e es (not_special e f) ∙ r

        go : (o : Option Seat) → furthest es ≡ o → nearer e o ≡ None → (furthest es ≡ None → own_of s names es ≡ []) → own_of s names (e ∷ es) ≡ []
        go None f k later = here (within (kinds.Set sets.Special) e) refl k (later f)
        go (Some seat) f k later = absurd (some_none (record { depth = suc seat.depth; element = seat.element }) k)

    -- behind the furthest special element there is none of them
    pub to-furthest : (es : List OpenElement) (seat : Seat) → furthest es ≡ Some seat → own_of s names es ≡ own_of s names (take seat.depth es) ++ own_of s names (seat.element ∷ [])
    to-furthest [] seat h = absurd (none-some seat h)
    to-furthest (e ∷ es) seat h = go (furthest es) refl h (λ x f. to-furthest es x f)
      where
        joined : (b : Bool) (xs ys : List OpenElement) → own_of s names es ≡ xs ++ ys → (if b then e ∷ own_of s names es else own_of s names es) ≡ (if b then e ∷ xs else xs) ++ ys
        joined true xs ys q = ap (λ l. e ∷ l) q
        joined false xs ys q = q

        here : (b : Bool) → (if b then Some (first_seat e) else None) ≡ Some seat → own_of s names es ≡ [] → own_of s names (e ∷ es) ≡ own_of s names (take seat.depth (e ∷ es)) ++ own_of s names (seat.element ∷ [])
        here true k r = subst (λ x. own_of s names (e ∷ es) ≡ own_of s names (take x.depth (e ∷ es)) ++ own_of s names (x.element ∷ [])) (some_seat (first_seat e) seat k) (ap (λ l. if p e then e ∷ l else l) r)
        here false k r = absurd (none-some seat k)

        go : (o : Option Seat) → furthest es ≡ o → nearer e o ≡ Some seat → ((x : Seat) → furthest es ≡ Some x → own_of s names es ≡ own_of s names (take x.depth es) ++ own_of s names (x.element ∷ []))
            → own_of s names (e ∷ es) ≡ own_of s names (take seat.depth (e ∷ es)) ++ own_of s names (seat.element ∷ [])
        go None f k later = here (within (kinds.Set sets.Special) e) k (none-special es f)
        go (Some x) f k later =
            subst (λ y. own_of s names (e ∷ es) ≡ own_of s names (take y.depth (e ∷ es)) ++ own_of s names (y.element ∷ [])) (some_seat (record { depth = suc x.depth; element = x.element }) seat k)
            (joined (p e) (own_of s names (take x.depth es)) (own_of s names (x.element ∷ [])) (later x f))

    made_plain : (id : ℕ) (tag : Tag) → in_set sets.Formatting tag.namespace tag.name ≡ true → own_of s names (element_for id tag ∷ []) ≡ []
    made_plain id tag h = kept-no p (element_for id tag) [] (go (is_new s (element_for id tag)))
      where
        go : (b : Bool) → (b && named_in names (element_for id tag)) ≡ false
        go true = plain id tag h
        go false = refl

    -- the climb makes formatting elements alone
    record Climbs (k l : Climbed) : Type 0 where
      pub kept : own_of s names l.kept ≡ own_of s names k.kept
      pub formatting : All IsFormatting l.formatting

    climb_one : (block count : ℕ) (node : OpenElement) (k : Climbed) → All IsFormatting k.formatting → Climbs k (pass Fixed block count node k)
    climb_one block count node k a = go (find_id node.id k.formatting) refl
      where
        over : (spot : Spot) (b : Bool) → IsEntry spot k.formatting → Climbs k (if b then record k { formatting = edit_at node.id 1 [] k.formatting } else renewed Fixed block node.id spot.tag k)
        over spot true h = record { kept = refl; formatting = edited-formatting node.id 1 [] k.formatting (All-nil IsFormatting) a }
        over spot false h = record {
          kept = kept-append p k.kept (element_for k.next spot.tag ∷ []) ∙ (ap (λ l. own_of s names k.kept ++ l) (made_plain k.next spot.tag h.formatting.1) ∙ append-nil (own_of s names k.kept));
          formatting = edited-formatting node.id 1 (Element k.next spot.tag ∷ []) k.formatting (one_entry k.next spot.tag h.formatting) a;
        }

        go : (o : Option Spot) → find_id node.id k.formatting ≡ o → Climbs k (pass_listed Fixed block count node.id o k)
        go None e = record { kept = refl; formatting = a }
        go (Some spot) e = over spot (nat_lt 3 count) (id-found node.id k.formatting spot e a)

    climb_all : (block count : ℕ) (nodes : List OpenElement) (k : Climbed) → All IsFormatting k.formatting → own_of s names (pass_all Fixed block count nodes k).kept ≡ own_of s names k.kept
    climb_all block count [] k a = refl
    climb_all block count (node ∷ nodes) k a =
        let first = climb_one block (count + 1) node k a in
        climb_all block (count + 1) nodes (pass Fixed block (count + 1) node k) first.formatting ∙ first.kept

    -- one turn
    pub once-kept : (fostering : Bool) (entry : Spot) (depth : ℕ) (block : Seat) (c : ControlState) → All IsFormatting c.formatting → IsEntry entry c.formatting → open_at entry.id c.stack ≡ Some depth → furthest (take depth c.stack) ≡ Some block
        → Apart entry.id (own_of s names c.stack) → own_of s names (adopt_once fostering entry depth block c).control.stack ≡ own_of s names c.stack
    once-kept fostering entry depth block c a found opened seat apart =
        let over = take depth c.stack in
        let under = drop (depth + 1) c.stack in
        let k = pass_all Fixed block.element.id 0 (between block over) (at_block block c.formatting c.next) in
        let front = take block.depth over in
        let top = element_for k.next entry.tag in
        let kept_block : own_of s names (top ∷ k.kept) ≡ own_of s names (block.element ∷ []) =
        kept-append p (top ∷ []) k.kept ∙ (ap (λ l. l ++ own_of s names k.kept) (made_plain k.next entry.tag found.formatting.1) ∙ climb_all block.element.id 0 (between block over) (at_block block c.formatting c.next) a) in
        kept-append p (front ++ top ∷ k.kept) under
        ∙ (ap (λ l. l ++ own_of s names under) (kept-append p front (top ∷ k.kept) ∙ (ap (λ l. own_of s names front ++ l) kept_block ∙ sym (to-furthest over block seat)))
        ∙ sym (around entry.id c.stack apart depth opened))

abbrev pub core_special : (e : OpenElement) → named_in core_names e ≡ true → within (kinds.Set sets.Special) e ≡ true
core_special = named-within core_names sets.Special refl

-- no formatting element has a name outside of the set
pub formatting_plain : (names : List (List ℕ)) → list_all (λ x. not (is_among names x.1)) (members sets.Formatting) ≡ true → (id : ℕ) (tag : Tag) → in_set sets.Formatting tag.namespace tag.name ≡ true → named_in names (element_for id tag) ≡ false
formatting_plain names h id tag k = and_right (is_html (element_for id tag)) (is_among names tag.name) (refused (is_among names) (members sets.Formatting) tag.namespace tag.name h k)

nil_apart : (id : ℕ) (es : List OpenElement) → es ≡ [] → Apart id es
nil_apart id es h = subst (λ xs. Apart id xs) (sym h) (All-nil (λ (e : OpenElement). e.id ≡ id → ⊥))

-- a free element isn't that of an entry
pub listed-apart : (c : ControlState) (id : ℕ) → 0 < tally (entry_is id) c.formatting → (es : List OpenElement) → All (IsFree c.formatting c.form) es → Apart id es
listed-apart c id l [] h = All-nil (λ (e : OpenElement). e.id ≡ id → ⊥)
listed-apart c id l (e ∷ es) h =
    let f = All-head (IsFree c.formatting c.form) e es h in
    All-cons (λ (x : OpenElement). x.id ≡ id → ⊥) e es
    (λ k.
    let a : tally (is_id e.id) (entry_ids c.formatting) ≡ 0 = new-none e.id (entry_ids c.formatting) f.unlisted in
    let b : tally (is_id e.id) (entry_ids c.formatting) ≡ tally (entry_is e.id) c.formatting = tally-entries e.id c.formatting in
    let g : 0 < tally (entry_is e.id) c.formatting = subst (λ i. 0 < tally (entry_is i) c.formatting) (sym k) l in
    absurd (omega arith))
    (listed-apart c id l es (All-tail (IsFree c.formatting c.form) e es h))

-- nor the form
form_apart : (o : Option ℕ) (id : ℕ) (e : OpenElement) → o ≡ Some id → IfSome o (λ i. i ≡ e.id → ⊥) → e.id ≡ id → ⊥
form_apart None id e h f k = none-some id h
form_apart (Some i) id e h f k = f (same_Some i id h ∙ sym k)

pub pointed-apart : (c : ControlState) (id : ℕ) → c.form ≡ Some id → (es : List OpenElement) → All (IsFree c.formatting c.form) es → Apart id es
pointed-apart c id l [] h = All-nil (λ (e : OpenElement). e.id ≡ id → ⊥)
pointed-apart c id l (e ∷ es) h =
    All-cons (λ (x : OpenElement). x.id ≡ id → ⊥) e es (form_apart c.form id e l (All-head (IsFree c.formatting c.form) e es h).no_form)
    (pointed-apart c id l es (All-tail (IsFree c.formatting c.form) e es h))

-- an element is taken off that is none of templates and cells
pub off-weak : (s : ControlState) (id : ℕ) (c : ControlState) → is_rooted c.stack ≡ true → 1 < id → Apart id (own_of s core_names c.stack) → Leaves (Weak s c.stack) (take_off id) c
off-weak s id c r l a = go (open_at id c.stack) refl
  where
    off : (names : List (List ℕ)) (k : ℕ) → open_at id c.stack ≡ Some k → Apart id (own_of s names c.stack) → own_of s names (without k c.stack) ≡ own_of s names c.stack
    off names k e x = kept-without s names id c.stack x k e

    not_one : id ≡ 1 → ⊥
    not_one k = absurd (omega arith)

    go : (o : Option ℕ) → open_at id c.stack ≡ o → Leaves (Weak s c.stack) (taken_off id o) c
    go None e = (weak_all s c.stack, refl)
    go (Some zero) e =
        let short = open-short id 0 c.stack e not_one r in
        pops-by (Weak s c.stack) 1 c (omega arith) (weak_pop s 1 c.stack (omega arith) (off core_names 0 e a))
    go (Some (suc k)) e = (
      record {
        core = off core_names (suc k) e a;
        html = λ z. off (words "html") (suc k) e (nil_apart id (own_of s (words "html") c.stack) z) ∙ z;
        frameset = λ z. off (words "frameset") (suc k) e (nil_apart id (own_of s (words "frameset") c.stack) z) ∙ z;
      },
      refl,
    )

-- one turn of the adoption agency
pub once-weak : (s : ControlState) (fostering : Bool) (entry : Spot) (depth : ℕ) (block : Seat) (c : ControlState) → All IsFormatting c.formatting → IsEntry entry c.formatting → open_at entry.id c.stack ≡ Some depth → furthest (take depth c.stack) ≡ Some block
    → Apart entry.id (own_of s core_names c.stack) → Leaves (Weak s c.stack) (adopt_once fostering entry depth block) c
once-weak s fostering entry depth block c a found opened seat apart = (
  record {
    core = once-kept s core_names core_special (formatting_plain core_names refl) fostering entry depth block c a found opened seat apart;
    html = λ z. once-kept s (words "html") (named-within (words "html") sets.Special refl) (formatting_plain (words "html") refl) fostering entry depth block c a found opened seat (nil_apart entry.id (own_of s (words "html") c.stack) z) ∙ z;
    frameset = λ z. once-kept s (words "frameset") (named-within (words "frameset") sets.Special refl) (formatting_plain (words "frameset") refl) fostering entry depth block c a found opened seat (nil_apart entry.id (own_of s (words "frameset") c.stack) z) ∙ z;
  },
  refl,
)

-- what these acts need
pub record Careful (s c : ControlState) : Type 0 where
  pub ready : Ready c
  pub free : All (IsFree c.formatting c.form) (own_of s core_names c.stack)

pub careful_after : (s c d : ControlState) → Careful s c → Thins c d → Weak s c.stack d.stack → Careful s d
careful_after s c d h t k = record {
  ready = ready_after c d h.ready t;
  free = subst (λ es. All (IsFree d.formatting d.form) es) (sym k.core) (free-later c d t (own_of s core_names c.stack) (below-kept (λ e. is_new s e && named_in core_names e) 0 c.next c.stack h.ready.stack_ids) h.free);
}

alone-weak : (s : ControlState) (entry : Spot) (depth : ℕ) (c : ControlState) → Careful s c → IsEntry entry c.formatting → open_at entry.id c.stack ≡ Some depth → furthest (take depth c.stack) ≡ None → Leaves (Weak s c.stack) (and_then (pop_by (depth + 1)) (strike entry)) c
alone-weak s entry depth c h found opened seat =
    let not_one : entry.id ≡ 1 → ⊥ = not_root entry.id (entry-id c.next entry c.formatting h.ready.list_ids found) in
    let short = open-short entry.id depth c.stack opened not_one h.ready.rooted in
    let apart = listed-apart c entry.id found.listed (own_of s core_names c.stack) h.free in
    let kept : own_of s core_names (drop (depth + 1) c.stack) ≡ own_of s core_names c.stack =
    sym (around s core_names entry.id c.stack apart depth opened ∙ ap (λ l. l ++ own_of s core_names (drop (depth + 1) c.stack)) (none-special s core_names core_special (formatting_plain core_names refl) (take depth c.stack) seat)) in
    leaves_then s (pop_by (depth + 1)) (strike entry) c (pops-by (Weak s c.stack) (depth + 1) c short (weak_pop s (depth + 1) c.stack short kept))
    (weak_all s (popped_by (depth + 1) c.stack), refl)

pub turn-weak : (s : ControlState) (fostering : Bool) (name : List ℕ) (c : ControlState) → is_among (words "html") name ≡ false → is_among core_names name ≡ false → Careful s c → Leaves (Weak s c.stack) (turn fostering name) c
turn-weak s fostering name c nh nc h = go (find_name name c.formatting) refl
  where
    with_block : (entry : Spot) (depth : ℕ) (o : Option Seat) → IsEntry entry c.formatting → open_at entry.id c.stack ≡ Some depth → furthest (take depth c.stack) ≡ o
        → Leaves (Weak s c.stack) (turn_in fostering name (block_case entry depth o)) c
    with_block entry depth None found opened e = alone-weak s entry depth c h found opened e
    with_block entry depth (Some block) found opened e = once-weak s fostering entry depth block c h.ready.formatting found opened e (listed-apart c entry.id found.listed (own_of s core_names c.stack) h.free)

    with_hidden : (entry : Spot) (depth : ℕ) (b : Bool) → IsEntry entry c.formatting → open_at entry.id c.stack ≡ Some depth
        → Leaves (Weak s c.stack) (turn_in fostering name (if b then Hidden else block_case entry depth (furthest (take depth c.stack)))) c
    with_hidden entry depth true found opened = nothing_leaves s c
    with_hidden entry depth false found opened = with_block entry depth (furthest (take depth c.stack)) found opened refl

    with_open : (entry : Spot) (o : Option ℕ) → IsEntry entry c.formatting → open_at entry.id c.stack ≡ o → Leaves (Weak s c.stack) (turn_in fostering name (open_case entry o c.stack)) c
    with_open entry None found e = (weak_all s c.stack, refl)
    with_open entry (Some depth) found e = with_hidden entry depth (hides (take depth c.stack)) found e

    go : (o : Option Spot) → find_name name c.formatting ≡ o → Leaves (Weak s c.stack) (turn_in fostering name (entry_case o c.stack)) c
    go None e = walk-weak s name c h.ready.rooted nh nc
    go (Some entry) e = with_open entry (open_at entry.id c.stack) (name-found name c.formatting entry e h.ready.formatting) refl
