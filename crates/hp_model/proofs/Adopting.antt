-- Adoption, the second half of a link's start, and the flush of table text thin the stack.
use Rattle.std.proofs.Common.{◌≡◌, ℕ, zero, suc, ◌+◌, ◌≤◌, ◌<◌, ◌==◌, List, [], ◌∷◌, ◌++◌, take, drop, Bool, true, false, Option, Some, None, refl, ap, subst, arith, nat_lt}
use Rattle.std.specs.Prelude.{if◌then◌else◌, IfSome, All}
use Rattle.std.specs.List.{list_all}
use Rattle.std.specs.Option.{option_map}
use Rattle.std.specs.Str.{bytes_eq}
use Rattle.std.proofs.lemmas.List.Elements.{All-nil, All-head, All-tail}
use Rattle.hp_elements.specs.Names.{text_of}
use Rattle.hp_elements.specs.Sets.{in_set}
use Rattle.hp_elements.specs.declared.kinds.Kinds.TheVariants as kinds
use Rattle.hp_elements.specs.KnownNames as known
use Rattle.hp_elements.specs.declared.sets.SetName.TheVariants as sets
use Rattle.hp_elements.specs.declared.tag.Tag.{Tag}
use Rattle.hp_control.specs.declared.edit.Child.{Child}
use Rattle.hp_control.specs.declared.edit.Child.TheVariants as child
use Rattle.hp_control.specs.declared.edit.Ref.TheVariants.{Fixed}
use Rattle.hp_control.specs.declared.element.OpenElement.{OpenElement}
use Rattle.hp_control.specs.declared.element.FormattingEntry.{FormattingEntry}
use Rattle.hp_control.specs.declared.element.FormattingEntry.TheVariants.{Marker, Element}
use Rattle.hp_control.specs.Acts.{element_for, pop, pop_by, put_here, frameset_not_ok, take_off}
use Rattle.hp_control.specs.Adoption.{Spot, Seat, Hidden, lower, find_name, find_id, edit_at, hides, Climbed, at_block, renewed, pass_listed, pass, pass_all, settled, between as nodes_between, adopt_once, nearer, furthest, block_case, open_case, entry_case, strike, turn_in, turn, turns, goes_on, is_plain, adopt, reconstruct}
use Rattle.hp_control.specs.Composed.{drop_entry, close_link, close_link_of, is_white, foster_character, foster_characters, put_characters}
use Rattle.hp_control.specs.KindTests.{within as is_within}
use Rattle.hp_control.specs.Outcome.{and_then, nothing_done}
use Rattle.hp_control.specs.States.{ControlState, AreIds, IsFormatting, entry_ids, is_template}
use Rattle.hp_control.specs.Walks.{open_at}
use Rattle.hp_model.proofs.Tally.{one, tally, tally-nil, tally-cons, tally-yes, tally-tail, tally-append, tally-split, tally-drop_more}
use Rattle.hp_model.proofs.Ids.{between, between-then, eqb-same, within}
use Rattle.hp_model.proofs.Stacks.{keeps_all, has_id, is_counted, formatting-uncounted, formatting-no_template, rooted-append, rooted-under}
use Rattle.hp_model.proofs.Thins.{Ready, Thins, Thinning, thins_all, thinning_nothing, thinning_then, thinning_choose, entry_is, tally-entries}
use Rattle.hp_model.proofs.Thinning.{thinning_pop, thinning_pop_by, thinning_walk, thinning_strike, thinning_drop_entry, thinning_take_off, thinning_reconstruct, edited-few, edited-formatting, entry_new, one_entry, one_new, not_root}

mapped : {X Y : Type 0} (f : X → Y) (o : Option X) (y : Y) → option_map f o ≡ Some y → (x : X) × ((o ≡ Some x) × (f x ≡ y))
mapped f None y h = absurd (none h)
  where
    none : None ≡ Some y → ⊥
    none k = cc
mapped f (Some x) y h = (x, (refl, same h))
  where
    same : Some (f x) ≡ Some y → f x ≡ y
    same k = cc

none_found : (spot : Spot) → None ≡ Some spot → ⊥
none_found spot h = cc

same_spot : (a b : Spot) → Some a ≡ Some b → a ≡ b
same_spot a b h = cc

-- what is known of an entry that was found
pub record IsEntry (spot : Spot) (es : List FormattingEntry) : Type 0 where
  pub formatting : IsFormatting (Element spot.id spot.tag)
  pub listed : 0 < tally (entry_is spot.id) es

entry_here : (id : ℕ) (tag : Tag) (es : List FormattingEntry) → 0 < tally (entry_is id) (Element id tag ∷ es)
entry_here id tag es = let e : tally (entry_is id) (Element id tag ∷ es) ≡ tally (entry_is id) es + 1 = tally-yes (entry_is id) (Element id tag) es (eqb-same id) in omega arith

is_entry_later : (spot : Spot) (e : FormattingEntry) (es : List FormattingEntry) → IsEntry spot es → IsEntry (lower spot) (e ∷ es)
is_entry_later spot e es h = record {
  formatting = h.formatting;
  listed = let a : 0 < tally (entry_is spot.id) es = h.listed in let b : tally (entry_is spot.id) es ≤ tally (entry_is spot.id) (e ∷ es) = tally-tail (entry_is spot.id) e es in omega arith;
}

pub id-found : (wanted : ℕ) (es : List FormattingEntry) (spot : Spot) → find_id wanted es ≡ Some spot → All IsFormatting es → IsEntry spot es
id-found wanted [] spot h a = absurd (none_found spot h)
id-found wanted (Marker ∷ es) spot h a =
    let (x, found) = mapped lower (find_id wanted es) spot h in
    subst (λ s. IsEntry s (Marker ∷ es)) found.1 (is_entry_later x Marker es (id-found wanted es x found.0 (All-tail IsFormatting Marker es a)))
id-found wanted (Element id tag ∷ es) spot h a = go (id == wanted) h (λ x found. id-found wanted es x found (All-tail IsFormatting (Element id tag) es a))
  where
    go : (b : Bool) → (if b then Some (record { depth = 0; id = id; tag = tag }) else option_map lower (find_id wanted es)) ≡ Some spot → ((x : Spot) → find_id wanted es ≡ Some x → IsEntry x es) → IsEntry spot (Element id tag ∷ es)
    go true k later = subst (λ s. IsEntry s (Element id tag ∷ es)) (same_spot (record { depth = 0; id = id; tag = tag }) spot k)
        (record { formatting = All-head IsFormatting (Element id tag) es a; listed = entry_here id tag es })
    go false k later =
        let (x, found) = mapped lower (find_id wanted es) spot k in
        subst (λ s. IsEntry s (Element id tag ∷ es)) found.1 (is_entry_later x (Element id tag) es (later x found.0))

pub name-found : (name : List ℕ) (es : List FormattingEntry) (spot : Spot) → find_name name es ≡ Some spot → All IsFormatting es → IsEntry spot es
name-found name [] spot h a = absurd (none_found spot h)
name-found name (Marker ∷ es) spot h a = absurd (none_found spot h)
name-found name (Element id tag ∷ es) spot h a = go (bytes_eq name tag.name) h (λ x found. name-found name es x found (All-tail IsFormatting (Element id tag) es a))
  where
    go : (b : Bool) → (if b then Some (record { depth = 0; id = id; tag = tag }) else option_map lower (find_name name es)) ≡ Some spot → ((x : Spot) → find_name name es ≡ Some x → IsEntry x es) → IsEntry spot (Element id tag ∷ es)
    go true k later = subst (λ s. IsEntry s (Element id tag ∷ es)) (same_spot (record { depth = 0; id = id; tag = tag }) spot k)
        (record { formatting = All-head IsFormatting (Element id tag) es a; listed = entry_here id tag es })
    go false k later =
        let (x, found) = mapped lower (find_name name es) spot k in
        subst (λ s. IsEntry s (Element id tag ∷ es)) found.1 (is_entry_later x (Element id tag) es (later x found.0))

-- its id isn't the root's
pub entry-id : (next : ℕ) (spot : Spot) (es : List FormattingEntry) → AreIds 1 next (entry_ids es) → IsEntry spot es → 1 < spot.id
entry-id next spot es a h =
    let e : tally (λ x. x == spot.id) (entry_ids es) ≡ tally (entry_is spot.id) es = tally-entries spot.id es in
    let l : 0 < tally (entry_is spot.id) es = h.listed in
    (within 1 next (entry_ids es) spot.id a (omega arith)).0

-- from one picture of the climb to a later one, over some nodes
record Climbs (nodes : List OpenElement) (k l : Climbed) : Type 0 where
  pub next : k.next ≤ l.next
  pub counted : tally is_counted l.kept ≤ tally is_counted k.kept + tally is_counted nodes
  pub templates : tally is_template l.kept ≤ tally is_template k.kept + tally is_template nodes
  pub ids : (i : ℕ) → tally (has_id i) l.kept ≤ tally (has_id i) k.kept + tally (has_id i) nodes + between k.next l.next i
  pub list : (i : ℕ) → tally (entry_is i) l.formatting ≤ tally (entry_is i) k.formatting + between k.next l.next i
  pub formatting : All IsFormatting l.formatting

climbs_none : (nodes : List OpenElement) (k : Climbed) → All IsFormatting k.formatting → Climbs nodes k k
climbs_none nodes k a = record { next = omega arith; counted = omega arith; templates = omega arith; ids = λ i. omega arith; list = λ i. omega arith; formatting = a }

nodes_more : (p : OpenElement → Bool) (node : OpenElement) (nodes : List OpenElement) → tally p (node ∷ nodes) ≡ tally p (node ∷ []) + tally p nodes
nodes_more p node nodes =
    let a : tally p (node ∷ nodes) ≡ one (p node) + tally p nodes = tally-cons p node nodes in
    let b : tally p (node ∷ []) ≡ one (p node) + tally p [] = tally-cons p node [] in
    let z : tally p [] ≡ 0 = tally-nil p in
    omega arith

climbs_then : (node : OpenElement) (nodes : List OpenElement) (j k l : Climbed) → Climbs (node ∷ []) j k → Climbs nodes k l → Climbs (node ∷ nodes) j l
climbs_then node nodes j k l f g =
    let m : j.next ≤ k.next = f.next in
    let n : k.next ≤ l.next = g.next in
    record {
      next = omega arith;
      counted =
          let a : tally is_counted k.kept ≤ tally is_counted j.kept + tally is_counted (node ∷ []) = f.counted in
          let b : tally is_counted l.kept ≤ tally is_counted k.kept + tally is_counted nodes = g.counted in
          let e : tally is_counted (node ∷ nodes) ≡ tally is_counted (node ∷ []) + tally is_counted nodes = nodes_more is_counted node nodes in
          omega arith;
      templates =
          let a : tally is_template k.kept ≤ tally is_template j.kept + tally is_template (node ∷ []) = f.templates in
          let b : tally is_template l.kept ≤ tally is_template k.kept + tally is_template nodes = g.templates in
          let e : tally is_template (node ∷ nodes) ≡ tally is_template (node ∷ []) + tally is_template nodes = nodes_more is_template node nodes in
          omega arith;
      ids = λ i.
          let a : tally (has_id i) k.kept ≤ tally (has_id i) j.kept + tally (has_id i) (node ∷ []) + between j.next k.next i = f.ids i in
          let b : tally (has_id i) l.kept ≤ tally (has_id i) k.kept + tally (has_id i) nodes + between k.next l.next i = g.ids i in
          let e : tally (has_id i) (node ∷ nodes) ≡ tally (has_id i) (node ∷ []) + tally (has_id i) nodes = nodes_more (has_id i) node nodes in
          let w : between j.next k.next i + between k.next l.next i ≤ between j.next l.next i = between-then j.next k.next l.next i m n in
          omega arith;
      list = λ i.
          let a : tally (entry_is i) k.formatting ≤ tally (entry_is i) j.formatting + between j.next k.next i = f.list i in
          let b : tally (entry_is i) l.formatting ≤ tally (entry_is i) k.formatting + between k.next l.next i = g.list i in
          let w : between j.next k.next i + between k.next l.next i ≤ between j.next l.next i = between-then j.next k.next l.next i m n in
          omega arith;
      formatting = g.formatting;
    }

kept_more : (p : OpenElement → Bool) (kept : List OpenElement) (e : OpenElement) → tally p (kept ++ e ∷ []) ≡ tally p kept + one (p e)
kept_more p kept e =
    let a : tally p (kept ++ e ∷ []) ≡ tally p kept + tally p (e ∷ []) = tally-append p kept (e ∷ []) in
    let b : tally p (e ∷ []) ≡ one (p e) + tally p [] = tally-cons p e [] in
    let z : tally p [] ≡ 0 = tally-nil p in
    omega arith

climbs_renewed : (block : ℕ) (node : OpenElement) (tag : Tag) (k : Climbed) → All IsFormatting k.formatting → in_set sets.Formatting tag.namespace tag.name ≡ true → IsFormatting (Element k.next tag)
    → Climbs (node ∷ []) k (renewed Fixed block node.id tag k)
climbs_renewed block node tag k a h f = record {
  next = omega arith;
  counted =
      let e : tally is_counted (k.kept ++ element_for k.next tag ∷ []) ≡ tally is_counted k.kept + one (is_counted (element_for k.next tag)) = kept_more is_counted k.kept (element_for k.next tag) in
      let g : one (is_counted (element_for k.next tag)) ≡ 0 = ap one (formatting-uncounted k.next tag h) in
      omega arith;
  templates =
      let e : tally is_template (k.kept ++ element_for k.next tag ∷ []) ≡ tally is_template k.kept + one (is_template (element_for k.next tag)) = kept_more is_template k.kept (element_for k.next tag) in
      let g : one (is_template (element_for k.next tag)) ≡ 0 = ap one (formatting-no_template k.next tag h) in
      omega arith;
  ids = λ i.
      let e : tally (has_id i) (k.kept ++ element_for k.next tag ∷ []) ≡ tally (has_id i) k.kept + one (k.next == i) = kept_more (has_id i) k.kept (element_for k.next tag) in
      let g : one (k.next == i) ≤ between k.next (k.next + 1) i = one_new k.next k.next refl i in
      omega arith;
  list = λ i.
      let e : tally (entry_is i) (edit_at node.id 1 (Element k.next tag ∷ []) k.formatting) ≤ tally (entry_is i) k.formatting + tally (entry_is i) (Element k.next tag ∷ []) = edited-few (entry_is i) node.id 1 (Element k.next tag ∷ []) k.formatting in
      let g : tally (entry_is i) (Element k.next tag ∷ []) ≤ between k.next (k.next + 1) i = entry_new k.next tag i in
      omega arith;
  formatting = edited-formatting node.id 1 (Element k.next tag ∷ []) k.formatting (one_entry k.next tag f) a;
}

climbs_struck : (node : OpenElement) (k : Climbed) → All IsFormatting k.formatting → Climbs (node ∷ []) k (record k { formatting = edit_at node.id 1 [] k.formatting })
climbs_struck node k a = record {
  next = omega arith;
  counted = omega arith;
  templates = omega arith;
  ids = λ i. omega arith;
  list = λ i.
      let e : tally (entry_is i) (edit_at node.id 1 [] k.formatting) ≤ tally (entry_is i) k.formatting + tally (entry_is i) [] = edited-few (entry_is i) node.id 1 [] k.formatting in
      let z : tally (entry_is i) [] ≡ 0 = tally-nil (entry_is i) in
      omega arith;
  formatting = edited-formatting node.id 1 [] k.formatting (All-nil IsFormatting) a;
}

climbs_pass : (block count : ℕ) (node : OpenElement) (k : Climbed) → All IsFormatting k.formatting → Climbs (node ∷ []) k (pass Fixed block count node k)
climbs_pass block count node k a = go (find_id node.id k.formatting) refl
  where
    over : (spot : Spot) (b : Bool) → IsEntry spot k.formatting → Climbs (node ∷ []) k (if b then record k { formatting = edit_at node.id 1 [] k.formatting } else renewed Fixed block node.id spot.tag k)
    over spot true h = climbs_struck node k a
    over spot false h = climbs_renewed block node spot.tag k a h.formatting.1 h.formatting

    go : (o : Option Spot) → find_id node.id k.formatting ≡ o → Climbs (node ∷ []) k (pass_listed Fixed block count node.id o k)
    go None e = climbs_none (node ∷ []) k a
    go (Some spot) e = over spot (nat_lt 3 count) (id-found node.id k.formatting spot e a)

climbs_all : (block count : ℕ) (nodes : List OpenElement) (k : Climbed) → All IsFormatting k.formatting → Climbs nodes k (pass_all Fixed block count nodes k)
climbs_all block count [] k a = climbs_none [] k a
climbs_all block count (node ∷ nodes) k a =
    let first = climbs_pass block (count + 1) node k a in
    climbs_then node nodes k (pass Fixed block (count + 1) node k) (pass_all Fixed block (count + 1) nodes (pass Fixed block (count + 1) node k)) first
    (climbs_all block (count + 1) nodes (pass Fixed block (count + 1) node k) first.formatting)

settled-few : (p : FormattingEntry → Bool) (bookmark : Option ℕ) (gone : ℕ) (e : FormattingEntry) (es : List FormattingEntry) → tally p (settled bookmark gone e es) ≤ tally p es + tally p (e ∷ [])
settled-few p None gone e es = edited-few p gone 1 (e ∷ []) es
settled-few p (Some id) gone e es =
    let a : tally p (edit_at id 0 (e ∷ []) (edit_at gone 1 [] es)) ≤ tally p (edit_at gone 1 [] es) + tally p (e ∷ []) = edited-few p id 0 (e ∷ []) (edit_at gone 1 [] es) in
    let b : tally p (edit_at gone 1 [] es) ≤ tally p es + tally p [] = edited-few p gone 1 [] es in
    let z : tally p [] ≡ 0 = tally-nil p in
    omega arith

settled-formatting : (bookmark : Option ℕ) (gone : ℕ) (e : FormattingEntry) (es : List FormattingEntry) → All IsFormatting (e ∷ []) → All IsFormatting es → All IsFormatting (settled bookmark gone e es)
settled-formatting None gone e es h a = edited-formatting gone 1 (e ∷ []) es h a
settled-formatting (Some id) gone e es h a = edited-formatting id 0 (e ∷ []) (edit_at gone 1 [] es) h (edited-formatting gone 1 [] es (All-nil IsFormatting) a)

-- the block stands at its depth
block-parts : (p : OpenElement → Bool) (es : List OpenElement) (block : Seat) → furthest es ≡ Some block
    → tally p (take block.depth es) + one (p block.element) + tally p (drop (block.depth + 1) es) ≤ tally p es
block-parts p [] block h = absurd (none h)
  where
    none : None ≡ Some block → ⊥
    none k = cc
block-parts p (e ∷ es) block h = go (furthest es) refl h (block-parts p es)
  where
    same : (a b : Seat) → Some a ≡ Some b → a ≡ b
    same a b k = cc

    none : None ≡ Some block → ⊥
    none k = cc

    here : (b : Bool) → (if b then Some (record { depth = 0; element = e }) else None) ≡ Some block → tally p (take block.depth (e ∷ es)) + one (p block.element) + tally p (drop (block.depth + 1) (e ∷ es)) ≤ tally p (e ∷ es)
    here true k = subst (λ (s : Seat). tally p (take s.depth (e ∷ es)) + one (p s.element) + tally p (drop (s.depth + 1) (e ∷ es)) ≤ tally p (e ∷ es)) (same (record { depth = 0; element = e }) block k)
        (let z : tally p [] ≡ 0 = tally-nil p in let f : tally p (e ∷ es) ≡ one (p e) + tally p es = tally-cons p e es in omega arith)
    here false k = absurd (none k)

    go : (o : Option Seat) → furthest es ≡ o → nearer e o ≡ Some block → ((seat : Seat) → furthest es ≡ Some seat → tally p (take seat.depth es) + one (p seat.element) + tally p (drop (seat.depth + 1) es) ≤ tally p es) → tally p (take block.depth (e ∷ es)) + one (p block.element) + tally p (drop (block.depth + 1) (e ∷ es)) ≤ tally p (e ∷ es)
    go None g k later = here (is_within (kinds.Set sets.Special) e) k
    go (Some seat) g k later = subst (λ (s : Seat). tally p (take s.depth (e ∷ es)) + one (p s.element) + tally p (drop (s.depth + 1) (e ∷ es)) ≤ tally p (e ∷ es)) (same (record { depth = suc seat.depth; element = seat.element }) block k)
        (let rest : tally p (take seat.depth es) + one (p seat.element) + tally p (drop (seat.depth + 1) es) ≤ tally p es = later seat g in
        let f : tally p (e ∷ es) ≡ one (p e) + tally p es = tally-cons p e es in
        let t : tally p (e ∷ take seat.depth es) ≡ one (p e) + tally p (take seat.depth es) = tally-cons p e (take seat.depth es) in
        let j : suc seat.depth + 1 ≡ suc (seat.depth + 1) = omega arith in
        let d : tally p (drop (suc seat.depth + 1) (e ∷ es)) ≡ tally p (drop (seat.depth + 1) es) = ap (λ i. tally p (drop i (e ∷ es))) j in
        omega arith)

-- the stack above and below an element
around : (p : OpenElement → Bool) (depth : ℕ) (es : List OpenElement) → tally p (take depth es) + tally p (drop (depth + 1) es) ≤ tally p es
around p depth es =
    let a : tally p (take depth es) + tally p (drop depth es) ≡ tally p es = tally-split p depth es in
    let b : tally p (drop (suc depth) es) ≤ tally p (drop depth es) = tally-drop_more p depth es in
    let j : suc depth ≡ depth + 1 = omega arith in
    let d : tally p (drop (depth + 1) es) ≤ tally p (drop depth es) = subst (λ i. tally p (drop i es) ≤ tally p (drop depth es)) j b in
    omega arith

new_stack : (p : OpenElement → Bool) (front kept under : List OpenElement) (e : OpenElement) → tally p ((front ++ e ∷ kept) ++ under) ≡ tally p front + (one (p e) + tally p kept) + tally p under
new_stack p front kept under e =
    let a : tally p ((front ++ e ∷ kept) ++ under) ≡ tally p (front ++ e ∷ kept) + tally p under = tally-append p (front ++ e ∷ kept) under in
    let b : tally p (front ++ e ∷ kept) ≡ tally p front + tally p (e ∷ kept) = tally-append p front (e ∷ kept) in
    let d : tally p (e ∷ kept) ≡ one (p e) + tally p kept = tally-cons p e kept in
    omega arith

-- one turn of the adoption agency
module _ (fostering : Bool) (entry : Spot) (depth : ℕ) (block : Seat) (c : ControlState) (r : Ready c) (found : IsEntry entry c.formatting) (opened : open_at entry.id c.stack ≡ Some depth) (seat : furthest (take depth c.stack) ≡ Some block) where
  abbrev climbed : Climbed
  climbed = pass_all Fixed block.element.id 0 (nodes_between block (take depth c.stack)) (at_block block c.formatting c.next)

  climb : Climbs (nodes_between block (take depth c.stack)) (at_block block c.formatting c.next) climbed
  climb = climbs_all block.element.id 0 (nodes_between block (take depth c.stack)) (at_block block c.formatting c.next) r.formatting

  -- so many of the new stack, where so many of the kept come from the block and the nodes
  fewer : (p : OpenElement → Bool) (kept extra : ℕ) → kept ≤ tally p (block.element ∷ []) + tally p (drop (block.depth + 1) (take depth c.stack)) + extra
      → tally p (take block.depth (take depth c.stack)) + kept + tally p (drop (depth + 1) c.stack) ≤ tally p c.stack + extra
  fewer p kept extra h =
      let a : tally p (take block.depth (take depth c.stack)) + one (p block.element) + tally p (drop (block.depth + 1) (take depth c.stack)) ≤ tally p (take depth c.stack) = block-parts p (take depth c.stack) block seat in
      let b : tally p (take depth c.stack) + tally p (drop (depth + 1) c.stack) ≤ tally p c.stack = around p depth c.stack in
      let d : tally p (block.element ∷ []) ≡ one (p block.element) + tally p [] = tally-cons p block.element [] in
      let z : tally p [] ≡ 0 = tally-nil p in
      omega arith

  turned : Thins c (adopt_once fostering entry depth block c).control
  turned = record {
    next = let n : c.next ≤ climbed.next = climb.next in omega arith;
    stack = record {
      counted =
          let k : tally is_counted climbed.kept ≤ tally is_counted (block.element ∷ []) + tally is_counted (drop (block.depth + 1) (take depth c.stack)) = climb.counted in
          let f : tally is_counted (take block.depth (take depth c.stack)) + tally is_counted climbed.kept + tally is_counted (drop (depth + 1) c.stack) ≤ tally is_counted c.stack + 0 = fewer is_counted (tally is_counted climbed.kept) 0 (omega arith) in
          let s : tally is_counted ((take block.depth (take depth c.stack) ++ element_for climbed.next entry.tag ∷ climbed.kept) ++ drop (depth + 1) c.stack) ≡ tally is_counted (take block.depth (take depth c.stack)) + (one (is_counted (element_for climbed.next entry.tag)) + tally is_counted climbed.kept) + tally is_counted (drop (depth + 1) c.stack) = new_stack is_counted (take block.depth (take depth c.stack)) climbed.kept (drop (depth + 1) c.stack) (element_for climbed.next entry.tag) in
          let g : one (is_counted (element_for climbed.next entry.tag)) ≡ 0 = ap one (formatting-uncounted climbed.next entry.tag found.formatting.1) in
          omega arith;
      templates =
          let k : tally is_template climbed.kept ≤ tally is_template (block.element ∷ []) + tally is_template (drop (block.depth + 1) (take depth c.stack)) = climb.templates in
          let f : tally is_template (take block.depth (take depth c.stack)) + tally is_template climbed.kept + tally is_template (drop (depth + 1) c.stack) ≤ tally is_template c.stack + 0 = fewer is_template (tally is_template climbed.kept) 0 (omega arith) in
          let s : tally is_template ((take block.depth (take depth c.stack) ++ element_for climbed.next entry.tag ∷ climbed.kept) ++ drop (depth + 1) c.stack) ≡ tally is_template (take block.depth (take depth c.stack)) + (one (is_template (element_for climbed.next entry.tag)) + tally is_template climbed.kept) + tally is_template (drop (depth + 1) c.stack) = new_stack is_template (take block.depth (take depth c.stack)) climbed.kept (drop (depth + 1) c.stack) (element_for climbed.next entry.tag) in
          let g : one (is_template (element_for climbed.next entry.tag)) ≡ 0 = ap one (formatting-no_template climbed.next entry.tag found.formatting.1) in
          omega arith;
      rooted = λ h. rooted-append (take block.depth (take depth c.stack) ++ element_for climbed.next entry.tag ∷ climbed.kept) (drop (depth + 1) c.stack) (rooted-under entry.id depth c.stack opened (not_root entry.id (entry-id c.next entry c.formatting r.list_ids found)) h);
      ids = λ i.
          let k : tally (has_id i) climbed.kept ≤ tally (has_id i) (block.element ∷ []) + tally (has_id i) (drop (block.depth + 1) (take depth c.stack)) + between c.next climbed.next i = climb.ids i in
          let f : tally (has_id i) (take block.depth (take depth c.stack)) + tally (has_id i) climbed.kept + tally (has_id i) (drop (depth + 1) c.stack) ≤ tally (has_id i) c.stack + between c.next climbed.next i = fewer (has_id i) (tally (has_id i) climbed.kept) (between c.next climbed.next i) k in
          let s : tally (has_id i) ((take block.depth (take depth c.stack) ++ element_for climbed.next entry.tag ∷ climbed.kept) ++ drop (depth + 1) c.stack) ≡ tally (has_id i) (take block.depth (take depth c.stack)) + (one (climbed.next == i) + tally (has_id i) climbed.kept) + tally (has_id i) (drop (depth + 1) c.stack) = new_stack (has_id i) (take block.depth (take depth c.stack)) climbed.kept (drop (depth + 1) c.stack) (element_for climbed.next entry.tag) in
          let g : one (climbed.next == i) ≤ between climbed.next (climbed.next + 1) i = one_new climbed.next climbed.next refl i in
          let w : between c.next climbed.next i + between climbed.next (climbed.next + 1) i ≤ between c.next (climbed.next + 1) i = between-then c.next climbed.next (climbed.next + 1) i climb.next (omega arith) in
          omega arith;
    };
    list = λ i.
        let k : tally (entry_is i) climbed.formatting ≤ tally (entry_is i) c.formatting + between c.next climbed.next i = climb.list i in
        let s : tally (entry_is i) (settled climbed.bookmark entry.id (Element climbed.next entry.tag) climbed.formatting) ≤ tally (entry_is i) climbed.formatting + tally (entry_is i) (Element climbed.next entry.tag ∷ []) = settled-few (entry_is i) climbed.bookmark entry.id (Element climbed.next entry.tag) climbed.formatting in
        let g : tally (entry_is i) (Element climbed.next entry.tag ∷ []) ≤ between climbed.next (climbed.next + 1) i = entry_new climbed.next entry.tag i in
        let w : between c.next climbed.next i + between climbed.next (climbed.next + 1) i ≤ between c.next (climbed.next + 1) i = between-then c.next climbed.next (climbed.next + 1) i climb.next (omega arith) in
        omega arith;
    formatting = settled-formatting climbed.bookmark entry.id (Element climbed.next entry.tag) climbed.formatting (one_entry climbed.next entry.tag found.formatting) climb.formatting;
    form = same c.form;
    alike = record { mode = refl; original = refl; pending = refl; templates = refl; head = refl; lex = refl };
  }
    where
      same : (o : Option ℕ) → IfSome o (λ i. o ≡ Some i)
      same None = tt
      same (Some i) = refl

thinning_alone : (entry : Spot) (depth : ℕ) → Thinning (and_then (pop_by (depth + 1)) (strike entry))
thinning_alone entry depth = thinning_then (pop_by (depth + 1)) (strike entry) (thinning_pop_by (depth + 1)) (thinning_strike entry)

pub thinning_turn : (fostering : Bool) (name : List ℕ) → Thinning (turn fostering name)
thinning_turn fostering name c r = go (find_name name c.formatting) refl
  where
    with_block : (entry : Spot) (depth : ℕ) (o : Option Seat) → IsEntry entry c.formatting → open_at entry.id c.stack ≡ Some depth → furthest (take depth c.stack) ≡ o
        → Thins c (turn_in fostering name (block_case entry depth o) c).control
    with_block entry depth None found opened e = thinning_alone entry depth c r
    with_block entry depth (Some block) found opened e = turned fostering entry depth block c r found opened e

    with_hidden : (entry : Spot) (depth : ℕ) (b : Bool) → IsEntry entry c.formatting → open_at entry.id c.stack ≡ Some depth
        → Thins c (turn_in fostering name (if b then Hidden else block_case entry depth (furthest (take depth c.stack))) c).control
    with_hidden entry depth true found opened = thins_all c r
    with_hidden entry depth false found opened = with_block entry depth (furthest (take depth c.stack)) found opened refl

    with_open : (entry : Spot) (o : Option ℕ) → IsEntry entry c.formatting → open_at entry.id c.stack ≡ o → Thins c (turn_in fostering name (open_case entry o c.stack) c).control
    with_open entry None found e = thinning_strike entry c r
    with_open entry (Some depth) found e = with_hidden entry depth (hides (take depth c.stack)) found e

    go : (o : Option Spot) → find_name name c.formatting ≡ o → Thins c (turn_in fostering name (entry_case o c.stack) c).control
    go None e = thinning_walk name c r
    go (Some entry) e = with_open entry (open_at entry.id c.stack) (name-found name c.formatting entry e r.formatting) refl

pub thinning_turns : (n : ℕ) (fostering : Bool) (name : List ℕ) → Thinning (turns n fostering name)
unfolding turns
thinning_turns zero fostering name = thinning_nothing
thinning_turns (suc n) fostering name =
    thinning_choose (goes_on name) (and_then (turn fostering name) (turns n fostering name)) (turn fostering name)
    (thinning_then (turn fostering name) (turns n fostering name) (thinning_turn fostering name) (thinning_turns n fostering name)) (thinning_turn fostering name)

pub thinning_adopt : (fostering : Bool) (name : List ℕ) → Thinning (adopt fostering name)
thinning_adopt fostering name = thinning_choose (is_plain name) pop (turns 8 fostering name) thinning_pop (thinning_turns 8 fostering name)

pub thinning_taken : (id : ℕ) → 1 < id → Thinning (and_then (drop_entry id) (take_off id))
thinning_taken id h = thinning_then (drop_entry id) (take_off id) (thinning_drop_entry id) (thinning_take_off id h)

pub thinning_close_link : (fostering : Bool) → Thinning (close_link fostering)
thinning_close_link fostering c r = go (find_name (text_of known.A) c.formatting) refl
  where
    go : (o : Option Spot) → find_name (text_of known.A) c.formatting ≡ o → Thins c (close_link_of fostering o c).control
    go None e = thins_all c r
    go (Some entry) e =
        thinning_then (adopt fostering (text_of known.A)) (and_then (drop_entry entry.id) (take_off entry.id)) (thinning_adopt fostering (text_of known.A))
        (thinning_taken entry.id (entry-id c.next entry c.formatting r.list_ids (name-found (text_of known.A) c.formatting entry e r.formatting))) c r

thinning_put : (fostering : Bool) (what : Child) → Thinning (put_here fostering what)
thinning_put fostering what c r = thins_all c r

thinning_frameset_not_ok : Thinning frameset_not_ok
thinning_frameset_not_ok c r = record {
  next = omega arith;
  stack = keeps_all c.next c.next c.stack;
  list = λ i. omega arith;
  formatting = r.formatting;
  form = same c.form;
  alike = record { mode = refl; original = refl; pending = refl; templates = refl; head = refl; lex = refl };
}
  where
    same : (o : Option ℕ) → IfSome o (λ i. o ≡ Some i)
    same None = tt
    same (Some i) = refl

thinning_foster_character : (letter : ℕ) → Thinning (foster_character letter)
thinning_foster_character letter =
    thinning_then (reconstruct true) (and_then (put_here true (child.Text (letter ∷ []))) (if is_white letter then nothing_done else frameset_not_ok)) (thinning_reconstruct true)
    (thinning_then (put_here true (child.Text (letter ∷ []))) (if is_white letter then nothing_done else frameset_not_ok) (thinning_put true (child.Text (letter ∷ []))) (go (is_white letter)))
  where
    go : (b : Bool) → Thinning (if b then nothing_done else frameset_not_ok)
    go true = thinning_nothing
    go false = thinning_frameset_not_ok

thinning_foster_characters : (text : List ℕ) → Thinning (foster_characters text)
thinning_foster_characters [] = thinning_nothing
thinning_foster_characters (letter ∷ text) = thinning_then (foster_character letter) (foster_characters text) (thinning_foster_character letter) (thinning_foster_characters text)

thinning_put_characters : (text : List ℕ) → Thinning (put_characters text)
thinning_put_characters [] = thinning_nothing
thinning_put_characters (letter ∷ text) = thinning_then (put_here false (child.Text (letter ∷ []))) (put_characters text) (thinning_put false (child.Text (letter ∷ []))) (thinning_put_characters text)

-- the characters of a flush
pub thinning_flushed : (text : List ℕ) → Thinning (if list_all is_white text then put_characters text else foster_characters text)
thinning_flushed text = go (list_all is_white text)
  where
    go : (b : Bool) → Thinning (if b then put_characters text else foster_characters text)
    go true = thinning_put_characters text
    go false = thinning_foster_characters text
