-- Adoption, a link's start and the flush of table text name what is there.
use Rattle.std.proofs.Common.{◌≡◌, ℕ, zero, suc, ◌+◌, ◌<◌, ◌≤◌, List, [], ◌∷◌, ◌++◌, take, drop, Bool, true, false, refl, subst, arith, Option, None, Some, nat_lt}
use Rattle.std.specs.Prelude.{if◌then◌else◌}
use Rattle.std.specs.List.{list_all}
use Rattle.std.proofs.lemmas.List.Elements.{All-nil, All-cons, All-head, All-tail, All-drop, All-take, All-append}
use Rattle.hp_elements.specs.Names.{text_of}
use Rattle.hp_elements.specs.declared.kinds.Kinds.TheVariants as kinds
use Rattle.hp_elements.specs.KnownNames as known
use Rattle.hp_elements.specs.declared.sets.SetName.TheVariants as sets
use Rattle.hp_elements.specs.declared.tag.Tag.{Tag}
use Rattle.hp_control.specs.declared.edit.Child.TheVariants as child
use Rattle.hp_control.specs.declared.edit.Edit.TheVariants.{NewElement, Put, MoveChildren}
use Rattle.hp_control.specs.declared.edit.Place.{Place}
use Rattle.hp_control.specs.declared.edit.Place.TheVariants.{Into}
use Rattle.hp_control.specs.declared.edit.Ref.TheVariants.{Fixed}
use Rattle.hp_control.specs.declared.element.OpenElement.{OpenElement}
use Rattle.hp_control.specs.declared.element.FormattingEntry.{FormattingEntry}
use Rattle.hp_control.specs.Acts.{element_for, empty_pending, frameset_not_ok, place, pop, pop_by, put_here, take_off}
use Rattle.hp_control.specs.Adoption.{Spot, Seat, Case, Unlisted, Closed, Hidden, Alone, Tangled, Climbed, adopt, adopt_once, at_block, between, block_case, case_of, entry_case, find_id, find_name, furthest, goes_on, hides, is_plain, nearer, open_case, pass, pass_all, pass_listed, reconstruct, renewed, strike, turn, turn_in, turns}
use Rattle.hp_control.specs.Composed.{close_link, close_link_of, drop_entry, flush, foster_character, foster_characters, is_white, put_characters}
use Rattle.hp_control.specs.KindTests.{within}
use Rattle.hp_control.specs.Outcome.{and_then, nothing_done}
use Rattle.hp_control.specs.States.{ControlState}
use Rattle.hp_control.specs.Walks.{open_at}
use Rattle.hp_growing.specs.Naming.{NamesThere}
use Rattle.hp_growing.proofs.There.{AreThere, IsThere, PlaceThere, head-later, named-cons, named-put, names-later, names_none, names_then, place-later, place-there, there-later, two-there}
use Rattle.hp_growing.proofs.Making.{Has, Makes, Making, makes_none, making_choose, making_drop_entry, making_nothing, making_pop, making_pop_by, making_put_here, making_reconstruct, making_strike, making_take_off, making_then, making_walk}

-- what the climb has made, from the next id before it
record Climbs (first : ℕ) (k : Climbed) : Type 0 where
  names : NamesThere first k.edits k.next
  kept : AreThere k.next k.kept
  last : k.last < k.next

climbs-renewed : (first block node : ℕ) (tag : Tag) (k : Climbed) → Climbs first k → Climbs first (renewed Fixed block node tag k)
climbs-renewed first block node tag k h =
    let l : k.last < k.next = h.last in
    record {
      names = names_then first k.next (k.next + 1) k.edits (NewElement tag ∷ Put (child.Element (Fixed k.last)) (Into (Fixed k.next)) ∷ []) h.names
          (record {
            named = named-cons k.next (NewElement tag) (Put (child.Element (Fixed k.last)) (Into (Fixed k.next)) ∷ []) refl
                (named-put (k.next + 1) (child.Element (Fixed k.last)) (Into (Fixed k.next)) [] (omega arith) (omega arith) refl);
            counted = omega arith;
          });
      kept = All-append (IsThere (k.next + 1)) k.kept (element_for k.next tag ∷ []) (there-later k.next (k.next + 1) k.kept (omega arith) h.kept)
          (All-cons (IsThere (k.next + 1)) (element_for k.next tag) [] (omega arith) (All-nil (IsThere (k.next + 1))));
      last = omega arith;
    }

climbs-pass : (first block count : ℕ) (node : OpenElement) (k : Climbed) → Climbs first k → Climbs first (pass Fixed block count node k)
climbs-pass first block count node k h = go (find_id node.id k.formatting)
  where
    over : (spot : Spot) (b : Bool) (list : List FormattingEntry) → Climbs first (if b then record k { formatting = list } else renewed Fixed block node.id spot.tag k)
    over spot true list = record { names = h.names; kept = h.kept; last = h.last }
    over spot false list = climbs-renewed first block node.id spot.tag k h

    go : (o : Option Spot) → Climbs first (pass_listed Fixed block count node.id o k)
    go None = h
    go (Some spot) = over spot (nat_lt 3 count) _

climbs-all : (first block count : ℕ) (nodes : List OpenElement) (k : Climbed) → Climbs first k → Climbs first (pass_all Fixed block count nodes k)
climbs-all first block count [] k h = h
climbs-all first block count (node ∷ nodes) k h = climbs-all first block (count + 1) nodes (pass Fixed block (count + 1) node k) (climbs-pass first block (count + 1) node k h)

-- the block's children go into a new element
closing : (tag : Tag) (p : Place) (block : ℕ) (k : Climbed) (first : ℕ) → Climbs first k → PlaceThere first p → block < first
    → NamesThere k.next (Put (child.Element (Fixed k.last)) p ∷ NewElement tag ∷ MoveChildren (Fixed block) (Fixed k.next) ∷ Put (child.Element (Fixed k.next)) (Into (Fixed block)) ∷ []) (k.next + 1)
closing tag p block k first h there b =
    let l : k.last < k.next = h.last in
    let n : first ≤ k.next = names-later first k.next k.edits h.names in
    let move = MoveChildren (Fixed block) (Fixed k.next) in
    let back = Put (child.Element (Fixed k.next)) (Into (Fixed block)) in
    record {
      named =
          named-put k.next (child.Element (Fixed k.last)) p (NewElement tag ∷ move ∷ back ∷ []) l (place-later first k.next p n there)
          (named-cons (k.next + 0) (NewElement tag) (move ∷ back ∷ []) refl
          (named-cons (k.next + 0 + 1) move (back ∷ []) (two-there (k.next + 0 + 1) block k.next (omega arith) (omega arith))
          (named-put (k.next + 0 + 1 + 0) (child.Element (Fixed k.next)) (Into (Fixed block)) [] (omega arith) (omega arith) refl)));
      counted = omega arith;
    }

making_adopt_once : (fostering : Bool) (entry : Spot) (depth : ℕ) (block : Seat) (c : ControlState) → Has c → block.element.id < c.next → Makes c (adopt_once fostering entry depth block c)
making_adopt_once fostering entry depth block c h b =
    let over : List OpenElement = take depth c.stack in
    let under : List OpenElement = drop (depth + 1) c.stack in
    let k : Climbed = pass_all Fixed block.element.id 0 (between block over) (at_block block c.formatting c.next) in
    let first : Climbs c.next (at_block block c.formatting c.next) = record { names = names_none c.next; kept = All-cons (IsThere c.next) block.element [] b (All-nil (IsThere c.next)); last = b } in
    let climb : Climbs c.next k = climbs-all c.next block.element.id 0 (between block over) (at_block block c.formatting c.next) first in
    let n : c.next ≤ k.next = names-later c.next k.next k.edits climb.names in
    let d : 0 < c.next = h.document in
    let m : ℕ = k.next + 1 in
    let below : AreThere c.next under = All-drop (IsThere c.next) (depth + 1) c.stack h.stack in
    let front : AreThere c.next (take block.depth over) = All-take (IsThere c.next) block.depth over (All-take (IsThere c.next) depth c.stack h.stack) in
    let new : OpenElement = element_for k.next entry.tag in
    let p : Place = place fostering under in (
      names_then c.next k.next (k.next + 1) k.edits
          (Put (child.Element (Fixed k.last)) p ∷ NewElement entry.tag ∷ MoveChildren (Fixed block.element.id) (Fixed k.next) ∷ Put (child.Element (Fixed k.next)) (Into (Fixed block.element.id)) ∷ [])
          climb.names (closing entry.tag p block.element.id k c.next climb (place-there c.next fostering under d below) b),
      record {
        document = omega arith;
        stack =
            All-append (IsThere (k.next + 1)) (take block.depth over ++ new ∷ k.kept) under
            (All-append (IsThere (k.next + 1)) (take block.depth over) (new ∷ k.kept) (there-later c.next (k.next + 1) (take block.depth over) (omega arith) front)
            (All-cons (IsThere (k.next + 1)) new k.kept (omega arith) (there-later k.next (k.next + 1) k.kept (omega arith) climb.kept)))
            (there-later c.next (k.next + 1) under (omega arith) below);
        head = head-later c.next (k.next + 1) c.head (omega arith) h.head;
      },
    )

-- the furthest block is an open element
furthest-there : (next : ℕ) (es : List OpenElement) (block : Seat) → furthest es ≡ Some block → AreThere next es → block.element.id < next
furthest-there next [] block e h = absurd (none e)
  where
    none : None ≡ Some block → ⊥
    none k = cc
furthest-there next (e ∷ es) block f h = go (furthest es) refl f (λ seat k. furthest-there next es seat k (All-tail (IsThere next) e es h))
  where
    none : None ≡ Some block → ⊥
    none k = cc

    same : (a b : Seat) → Some a ≡ Some b → a ≡ b
    same a b k = cc

    here : (b : Bool) → (if b then Some (record { depth = 0; element = e }) else None) ≡ Some block → block.element.id < next
    here true k = subst (λ (s : Seat). s.element.id < next) (same (record { depth = 0; element = e }) block k) (All-head (IsThere next) e es h)
    here false k = absurd (none k)

    go : (o : Option Seat) → furthest es ≡ o → nearer e o ≡ Some block → ((seat : Seat) → furthest es ≡ Some seat → seat.element.id < next) → block.element.id < next
    go None g k later = here (within (kinds.Set sets.Special) e) k
    go (Some seat) g k later = subst (λ (s : Seat). s.element.id < next) (same (record { depth = suc seat.depth; element = seat.element }) block k) (later seat g)

-- one turn
abbrev CaseThere : ℕ → Case → Type 0
CaseThere next Unlisted = Unit {0}
CaseThere next (Closed entry) = Unit {0}
CaseThere next Hidden = Unit {0}
CaseThere next (Alone entry depth) = Unit {0}
CaseThere next (Tangled entry depth block) = block.element.id < next

case-there : (name : List ℕ) (c : ControlState) → Has c → CaseThere c.next (case_of name c)
case-there name c h = go (find_name name c.formatting)
  where
    with_block : (entry : Spot) (depth : ℕ) (o : Option Seat) → furthest (take depth c.stack) ≡ o → CaseThere c.next (block_case entry depth o)
    with_block entry depth None e = tt
    with_block entry depth (Some block) e = furthest-there c.next (take depth c.stack) block e (All-take (IsThere c.next) depth c.stack h.stack)

    with_hidden : (entry : Spot) (depth : ℕ) (b : Bool) → CaseThere c.next (if b then Hidden else block_case entry depth (furthest (take depth c.stack)))
    with_hidden entry depth true = tt
    with_hidden entry depth false = with_block entry depth (furthest (take depth c.stack)) refl

    with_open : (entry : Spot) (o : Option ℕ) → CaseThere c.next (open_case entry o c.stack)
    with_open entry None = tt
    with_open entry (Some depth) = with_hidden entry depth (hides (take depth c.stack))

    go : (o : Option Spot) → CaseThere c.next (entry_case o c.stack)
    go None = tt
    go (Some entry) = with_open entry (open_at entry.id c.stack)

makes_turn : (fostering : Bool) (name : List ℕ) (k : Case) (c : ControlState) → Has c → CaseThere c.next k → Makes c (turn_in fostering name k c)
makes_turn fostering name Unlisted c h there = making_walk name c h
makes_turn fostering name (Closed entry) c h there = making_strike entry c h
makes_turn fostering name Hidden c h there = makes_none c h
makes_turn fostering name (Alone entry depth) c h there = making_then (pop_by (depth + 1)) (strike entry) (making_pop_by (depth + 1)) (making_strike entry) c h
makes_turn fostering name (Tangled entry depth block) c h there = making_adopt_once fostering entry depth block c h there

making_turn : (fostering : Bool) (name : List ℕ) → Making (turn fostering name)
making_turn fostering name c h = makes_turn fostering name (case_of name c) c h (case-there name c h)

making_turns : (n : ℕ) (fostering : Bool) (name : List ℕ) → Making (turns n fostering name)
unfolding turns
making_turns zero fostering name = making_nothing
making_turns (suc n) fostering name =
    making_choose (goes_on name) (and_then (turn fostering name) (turns n fostering name)) (turn fostering name)
    (making_then (turn fostering name) (turns n fostering name) (making_turn fostering name) (making_turns n fostering name)) (making_turn fostering name)

pub making_adopt : (fostering : Bool) (name : List ℕ) → Making (adopt fostering name)
making_adopt fostering name = making_choose (is_plain name) pop (turns 8 fostering name) making_pop (making_turns 8 fostering name)

-- the start of a link
making_close_link_of : (fostering : Bool) (o : Option Spot) → Making (close_link_of fostering o)
making_close_link_of fostering None = making_nothing
making_close_link_of fostering (Some entry) =
    making_then (adopt fostering (text_of known.A)) (and_then (drop_entry entry.id) (take_off entry.id)) (making_adopt fostering (text_of known.A))
    (making_then (drop_entry entry.id) (take_off entry.id) (making_drop_entry entry.id) (making_take_off entry.id))

pub making_close_link : (fostering : Bool) → Making (close_link fostering)
making_close_link fostering c h = making_close_link_of fostering (find_name (text_of known.A) c.formatting) c h

-- the flush of table text
making_mark : (b : Bool) → Making (if b then nothing_done else frameset_not_ok)
making_mark true c h = makes_none c h
making_mark false c h = makes_none c h

making_foster_character : (x : ℕ) → Making (foster_character x)
making_foster_character x =
    making_then (reconstruct true) (and_then (put_here true (child.Text (x ∷ []))) (if is_white x then nothing_done else frameset_not_ok)) (making_reconstruct true)
    (making_then (put_here true (child.Text (x ∷ []))) (if is_white x then nothing_done else frameset_not_ok) (making_put_here true (child.Text (x ∷ [])) (λ next. tt)) (making_mark (is_white x)))

making_foster_characters : (text : List ℕ) → Making (foster_characters text)
making_foster_characters [] = making_nothing
making_foster_characters (x ∷ xs) = making_then (foster_character x) (foster_characters xs) (making_foster_character x) (making_foster_characters xs)

making_put_characters : (text : List ℕ) → Making (put_characters text)
making_put_characters [] = making_nothing
making_put_characters (x ∷ xs) = making_then (put_here false (child.Text (x ∷ []))) (put_characters xs) (making_put_here false (child.Text (x ∷ [])) (λ next. tt)) (making_put_characters xs)

making_flushed : (b : Bool) (text : List ℕ) → Making (if b then put_characters text else foster_characters text)
making_flushed true text = making_put_characters text
making_flushed false text = making_foster_characters text

pub making_flush : Making flush
making_flush c h =
    making_then empty_pending (if list_all is_white c.pending then put_characters c.pending else foster_characters c.pending) (λ d k. makes_none d k)
    (making_flushed (list_all is_white c.pending) c.pending) c h
