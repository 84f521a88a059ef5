-- The climb over own nodes with own numbers in place of ids is the climb in the whole state (13.2.6.4.7).
use Rattle.std.specs.Prelude.{◌≡◌, ℕ, ◌+◌, ◌==◌, Bool, true, false, if◌then◌else◌, nat_lt, List, [], ◌∷◌, ◌++◌, Option, Some, None, map, take, refl}
use Rattle.std.specs.Option.{option_map}
use Rattle.std.specs.List.{take-map, drop-map}
use Rattle.std.proofs.Common.{sym, ap, ◌∙◌, arith}
use Rattle.std.proofs.lemmas.List.{map-append}
use Rattle.hp_elements.specs.declared.tag.Tag.{Tag}
use Rattle.hp_control.specs.declared.edit.Child.TheVariants as child
use Rattle.hp_control.specs.declared.edit.Edit.{Edit}
use Rattle.hp_control.specs.declared.edit.Edit.TheVariants.{NewElement, Put, MoveChildren}
use Rattle.hp_control.specs.declared.edit.Place.{Place}
use Rattle.hp_control.specs.declared.edit.Place.TheVariants.{Into}
use Rattle.hp_control.specs.declared.edit.Ref.{Ref}
use Rattle.hp_control.specs.declared.edit.Ref.TheVariants.{Fixed}
use Rattle.hp_control.specs.declared.element.OpenElement.{OpenElement}
use Rattle.hp_control.specs.declared.element.FormattingEntry.{FormattingEntry}
use Rattle.hp_control.specs.declared.element.FormattingEntry.TheVariants.{Element}
use Rattle.hp_control.specs.States.{ControlState}
use Rattle.hp_control.specs.Acts.{element_for}
use Rattle.hp_control.specs.Adoption.{Spot, Seat, Climbed, Adopted, find_id, edit_at, at_block, renewed, pass_listed, pass, pass_all, settled, closed, between, adopted}
use Rattle.hp_control.specs.Apply.{shifted, shifted_entry, named, named_place, named_edit}
use Rattle.hp_views.specs.OwnIds.{own_number}
use Rattle.hp_adoption.specs.AdoptLawsEntries.{lifted, HasNoOwn, find_own, edit_own}

-- each own number names the element of that id in the whole state
abbrev pub NamesOwn : ControlState → (ℕ → Ref) → Type 0
NamesOwn s ref = (id : ℕ) → named s (ref id) ≡ Fixed (s.next + id)

abbrev pub numbered : ℕ → ℕ → ℕ
numbered n i = n + i

-- what an own climb stands for, over these older entries
abbrev pub climbed_on : ControlState → List FormattingEntry → Climbed → Climbed
climbed_on s older k = record {
  formatting = map (shifted_entry s.next) k.formatting ++ older;
  next = s.next + k.next;
  kept = map (shifted s.next) k.kept;
  last = s.next + k.last;
  bookmark = option_map (numbered s.next) k.bookmark;
  edits = map (named_edit s) k.edits;
}

same_climbed : (a b : Climbed) → a.formatting ≡ b.formatting → a.next ≡ b.next → a.kept ≡ b.kept → a.last ≡ b.last → a.bookmark ≡ b.bookmark → a.edits ≡ b.edits → a ≡ b
same_climbed a b f n k l m e =
    ap (λ x. record { formatting = x; next = a.next; kept = a.kept; last = a.last; bookmark = a.bookmark; edits = a.edits }) f
    ∙ (ap (λ x. record { formatting = b.formatting; next = x; kept = a.kept; last = a.last; bookmark = a.bookmark; edits = a.edits }) n
    ∙ (ap (λ x. record { formatting = b.formatting; next = b.next; kept = x; last = a.last; bookmark = a.bookmark; edits = a.edits }) k
    ∙ (ap (λ x. record { formatting = b.formatting; next = b.next; kept = b.kept; last = x; bookmark = a.bookmark; edits = a.edits }) l
    ∙ (ap (λ x. record { formatting = b.formatting; next = b.next; kept = b.kept; last = b.last; bookmark = x; edits = a.edits }) m
    ∙ ap (λ x. record { formatting = b.formatting; next = b.next; kept = b.kept; last = b.last; bookmark = b.bookmark; edits = x }) e))))

bookmark_on : (n next : ℕ) (b : Bool) (o : Option ℕ) → (if b then Some (n + next) else option_map (numbered n) o) ≡ option_map (numbered n) (if b then Some next else o)
bookmark_on n next true o = refl
bookmark_on n next false o = refl

-- an own node into another
into_own : (s : ControlState) (ref : ℕ → Ref) (a b : ℕ) → NamesOwn s ref → Put (child.Element (Fixed (s.next + a))) (Into (Fixed (s.next + b))) ≡ named_edit s (Put (child.Element (ref a)) (Into (ref b)))
into_own s ref a b r =
    ap (λ x. Put (child.Element x) (Into (Fixed (s.next + b)))) (sym (r a))
    ∙ ap (λ x. Put (child.Element (named s (ref a))) (Into x)) (sym (r b))

renewed_on : (s : ControlState) (ref : ℕ → Ref) (older : List FormattingEntry) (block node : ℕ) (tag : Tag) (k : Climbed) → NamesOwn s ref → HasNoOwn s.next older → renewed Fixed (s.next + block) (s.next + node) tag (climbed_on s older k) ≡ climbed_on s older (renewed ref block node tag k)
renewed_on s ref older block node tag k r h =
    same_climbed (renewed Fixed (s.next + block) (s.next + node) tag (climbed_on s older k)) (climbed_on s older (renewed ref block node tag k))
    (edit_own s.next node 1 (Element k.next tag ∷ []) k.formatting older (omega arith) (h node))
    (omega arith)
    (sym (map-append (shifted s.next) k.kept (element_for k.next tag ∷ [])))
    refl
    (ap (λ b. if b then Some (s.next + k.next) else option_map (numbered s.next) k.bookmark) (own_number s.next k.last block) ∙ bookmark_on s.next k.next (k.last == block) k.bookmark)
    (ap (λ e. map (named_edit s) k.edits ++ NewElement tag ∷ e ∷ []) (into_own s ref k.last k.next r)
    ∙ sym (map-append (named_edit s) k.edits (NewElement tag ∷ Put (child.Element (ref k.last)) (Into (ref k.next)) ∷ [])))

passed_on : (s : ControlState) (ref : ℕ → Ref) (older : List FormattingEntry) (block turn node : ℕ) (o : Option Spot) (k : Climbed) → NamesOwn s ref → HasNoOwn s.next older → pass_listed Fixed (s.next + block) turn (s.next + node) (option_map (lifted s.next) o) (climbed_on s older k) ≡ climbed_on s older (pass_listed ref block turn node o k)
passed_on s ref older block turn node None k r h = refl
passed_on s ref older block turn node (Some spot) k r h =
    elim (nat_lt 3 turn) as (λ b. (if b then record (climbed_on s older k) { formatting = edit_at (s.next + node) 1 [] (climbed_on s older k).formatting } else renewed Fixed (s.next + block) (s.next + node) spot.tag (climbed_on s older k)) ≡ climbed_on s older (if b then record k { formatting = edit_at node 1 [] k.formatting } else renewed ref block node spot.tag k)) [
      | true ↦ ap (λ l. record (climbed_on s older k) { formatting = l }) (edit_own s.next node 1 [] k.formatting older (omega arith) (h node))
      | false ↦ renewed_on s ref older block node spot.tag k r h
    ]

pass_on : (s : ControlState) (ref : ℕ → Ref) (older : List FormattingEntry) (block turn : ℕ) (node : OpenElement) (k : Climbed) → NamesOwn s ref → HasNoOwn s.next older → pass Fixed (s.next + block) turn (shifted s.next node) (climbed_on s older k) ≡ climbed_on s older (pass ref block turn node k)
pass_on s ref older block turn node k r h =
    ap (λ o. pass_listed Fixed (s.next + block) turn (s.next + node.id) o (climbed_on s older k)) (find_own s.next node.id k.formatting older (h node.id))
    ∙ passed_on s ref older block turn node.id (find_id node.id k.formatting) k r h

pass_all_on : (s : ControlState) (ref : ℕ → Ref) (older : List FormattingEntry) (block turns : ℕ) (nodes : List OpenElement) (k : Climbed) → NamesOwn s ref → HasNoOwn s.next older → pass_all Fixed (s.next + block) turns (map (shifted s.next) nodes) (climbed_on s older k) ≡ climbed_on s older (pass_all ref block turns nodes k)
pass_all_on s ref older block turns [] k r h = refl
pass_all_on s ref older block turns (node ∷ nodes) k r h =
    ap (pass_all Fixed (s.next + block) (turns + 1) (map (shifted s.next) nodes)) (pass_on s ref older block (turns + 1) node k r h)
    ∙ pass_all_on s ref older block (turns + 1) nodes (pass ref block (turns + 1) node k) r h

-- what a turn makes of own parts, over these older entries
abbrev pub adopted_on : ControlState → List FormattingEntry → Adopted → Adopted
adopted_on s older a = record {
  over = map (shifted s.next) a.over;
  formatting = map (shifted_entry s.next) a.formatting ++ older;
  next = s.next + a.next;
  edits = map (named_edit s) a.edits;
}

same_adopted : (a b : Adopted) → a.over ≡ b.over → a.formatting ≡ b.formatting → a.next ≡ b.next → a.edits ≡ b.edits → a ≡ b
same_adopted a b p q r t =
    ap (λ x. record { over = x; formatting = a.formatting; next = a.next; edits = a.edits }) p
    ∙ (ap (λ x. record { over = b.over; formatting = x; next = a.next; edits = a.edits }) q
    ∙ (ap (λ x. record { over = b.over; formatting = b.formatting; next = x; edits = a.edits }) r
    ∙ ap (λ x. record { over = b.over; formatting = b.formatting; next = b.next; edits = x }) t))

settled_on : (n : ℕ) (bookmark : Option ℕ) (gone : ℕ) (e : FormattingEntry) (xs ys : List FormattingEntry) → HasNoOwn n ys → settled (option_map (numbered n) bookmark) (n + gone) (shifted_entry n e) (map (shifted_entry n) xs ++ ys) ≡ map (shifted_entry n) (settled bookmark gone e xs) ++ ys
settled_on n None gone e xs ys h = edit_own n gone 1 (e ∷ []) xs ys (omega arith) (h gone)
settled_on n (Some id) gone e xs ys h =
    ap (edit_at (n + id) 0 (shifted_entry n e ∷ [])) (edit_own n gone 1 [] xs ys (omega arith) (h gone))
    ∙ edit_own n id 0 (e ∷ []) (edit_at gone 1 [] xs) ys (omega arith) (h id)

-- a seat with the id of the whole state
abbrev pub seat_on : ℕ → Seat → Seat
seat_on n seat = record { depth = seat.depth; element = shifted n seat.element }

-- the last edits of a turn
abbrev end_edits : (ℕ → Ref) → Place → Tag → ℕ → ℕ → ℕ → List Edit
end_edits ref where_ tag block last made = Put (child.Element (ref last)) where_ ∷ NewElement tag ∷ MoveChildren (ref block) (ref made) ∷ Put (child.Element (ref made)) (Into (ref block)) ∷ []

end_on : (s : ControlState) (ref : ℕ → Ref) (where_ : Place) (tag : Tag) (block last made : ℕ) → NamesOwn s ref → end_edits Fixed (named_place s where_) tag (s.next + block) (s.next + last) (s.next + made) ≡ map (named_edit s) (end_edits ref where_ tag block last made)
end_on s ref where_ tag block last made r =
    ap (λ x. Put (child.Element x) (named_place s where_) ∷ NewElement tag ∷ MoveChildren (Fixed (s.next + block)) (Fixed (s.next + made)) ∷ Put (child.Element (Fixed (s.next + made))) (Into (Fixed (s.next + block))) ∷ []) (sym (r last))
    ∙ (ap (λ x. Put (child.Element (named s (ref last))) (named_place s where_) ∷ NewElement tag ∷ MoveChildren x (Fixed (s.next + made)) ∷ Put (child.Element (Fixed (s.next + made))) (Into x) ∷ []) (sym (r block))
    ∙ ap (λ x. Put (child.Element (named s (ref last))) (named_place s where_) ∷ NewElement tag ∷ MoveChildren (named s (ref block)) x ∷ Put (child.Element x) (Into (named s (ref block))) ∷ []) (sym (r made)))

closed_on : (s : ControlState) (ref : ℕ → Ref) (older : List FormattingEntry) (where_ : Place) (entry : Spot) (block : Seat) (over : List OpenElement) (k : Climbed) → NamesOwn s ref → HasNoOwn s.next older → closed Fixed (named_place s where_) (lifted s.next entry) (seat_on s.next block) (map (shifted s.next) over) (climbed_on s older k) ≡ adopted_on s older (closed ref where_ entry block over k)
closed_on s ref older where_ entry block over k r h =
    same_adopted (closed Fixed (named_place s where_) (lifted s.next entry) (seat_on s.next block) (map (shifted s.next) over) (climbed_on s older k)) (adopted_on s older (closed ref where_ entry block over k))
    (ap (λ l. l ++ (element_for (s.next + k.next) entry.tag ∷ map (shifted s.next) k.kept)) (take-map (shifted s.next) block.depth over)
    ∙ sym (map-append (shifted s.next) (take block.depth over) (element_for k.next entry.tag ∷ k.kept)))
    (settled_on s.next k.bookmark entry.id (Element k.next entry.tag) k.formatting older h)
    (omega arith)
    (ap (λ l. map (named_edit s) k.edits ++ l) (end_on s ref where_ entry.tag block.element.id k.last k.next r)
    ∙ sym (map-append (named_edit s) k.edits (end_edits ref where_ entry.tag block.element.id k.last k.next)))

pub adopted_own : (s : ControlState) (ref : ℕ → Ref) (older : List FormattingEntry) (where_ : Place) (entry : Spot) (block : Seat) (over : List OpenElement) (list : List FormattingEntry) (made : ℕ) → NamesOwn s ref → HasNoOwn s.next older → adopted Fixed (named_place s where_) (lifted s.next entry) (seat_on s.next block) (map (shifted s.next) over) (map (shifted_entry s.next) list ++ older) (s.next + made) ≡ adopted_on s older (adopted ref where_ entry block over list made)
adopted_own s ref older where_ entry block over list made r h =
    ap (closed Fixed (named_place s where_) (lifted s.next entry) (seat_on s.next block) (map (shifted s.next) over))
    (ap (λ nodes. pass_all Fixed (s.next + block.element.id) 0 nodes (climbed_on s older (at_block block list made))) (drop-map (shifted s.next) (block.depth + 1) over)
    ∙ pass_all_on s ref older block.element.id 0 (between block over) (at_block block list made) r h)
    ∙ closed_on s ref older where_ entry block over (pass_all ref block.element.id 0 (between block over) (at_block block list made)) r h
