-- A climb from edits that stand already.
use Rattle.std.proofs.Common.{◌≡◌, ℕ, ◌+◌, Bool, true, false, if◌then◌else◌, List, [], ◌∷◌, ◌++◌, Option, Some, None, Result, Ok, Err, IfOk, nat_lt, ap, refl, sym, ◌∙◌, append_assoc, append-nil}
use Rattle.hp_elements.specs.declared.tag.Tag.{Tag}
use Rattle.hp_control.specs.declared.change.Change.{Change}
use Rattle.hp_control.specs.declared.edit.Edit.{Edit}
use Rattle.hp_control.specs.declared.edit.Place.{Place}
use Rattle.hp_control.specs.declared.edit.Ref.{Ref}
use Rattle.hp_control.specs.declared.element.OpenElement.{OpenElement}
use Rattle.hp_control.specs.declared.element.FormattingEntry.{FormattingEntry}
use Rattle.hp_control.specs.declared.element.FormattingEntry.TheVariants.{Element}
use Rattle.hp_control.specs.Acts.{element_for}
use Rattle.hp_control.specs.Adoption.{Climbed, Spot, edit_at, find_id, pass, pass_all, pass_listed, renewed, settled}
use Rattle.hp_adoption.specs.Starting.{block_after}
use Rattle.hp_adoption.specs.Turning.{adopted_parts, closed_parts, closing, from_block, renewing, with_parts}

-- the same with these edits before its own
abbrev after : List Edit → Climbed → Climbed
after before k = record k { edits = before ++ k.edits }

renewed_after : (ref : ℕ → Ref) (block node : ℕ) (tag : Tag) (before : List Edit) (k : Climbed) → renewed ref block node tag (after before k) ≡ after before (renewed ref block node tag k)
renewed_after ref block node tag before k =
    ap (λ (es : List Edit). record (renewed ref block node tag k) { edits = es }) (append_assoc before k.edits (renewing (ref k.last) (ref k.next) tag))

late_after : (ref : ℕ → Ref) (block node : ℕ) (tag : Tag) (before : List Edit) (k : Climbed) (late : Bool)
    → (if late then record (after before k) { formatting = edit_at node 1 [] k.formatting } else renewed ref block node tag (after before k)) ≡ after before (if late then record k { formatting = edit_at node 1 [] k.formatting } else renewed ref block node tag k)
late_after ref block node tag before k true = refl
late_after ref block node tag before k false = renewed_after ref block node tag before k

listed_after : (ref : ℕ → Ref) (block turn node : ℕ) (before : List Edit) (k : Climbed) (o : Option Spot) → pass_listed ref block turn node o (after before k) ≡ after before (pass_listed ref block turn node o k)
listed_after ref block turn node before k None = refl
listed_after ref block turn node before k (Some spot) = late_after ref block node spot.tag before k (nat_lt 3 turn)

all_after : (ref : ℕ → Ref) (block turns : ℕ) (nodes : List OpenElement) (before : List Edit) (k : Climbed) → pass_all ref block turns nodes (after before k) ≡ after before (pass_all ref block turns nodes k)
all_after ref block turns [] before k = refl
all_after ref block turns (node ∷ nodes) before k =
    ap (pass_all ref block (turns + 1) nodes) (listed_after ref block (turns + 1) node.id before k (find_id node.id k.formatting))
    ∙ all_after ref block (turns + 1) nodes before (pass ref block (turns + 1) node k)

-- the climb from the block, after these edits
climbed_after : (ref : ℕ → Ref) (block : OpenElement) (between : List OpenElement) (list : List FormattingEntry) (next : ℕ) (before : List Edit) (k top : Climbed)
    → k ≡ block_after before block list next → top ≡ pass_all ref block.id 0 between k
    → top ≡ after before (pass_all ref block.id 0 between (from_block block list next))
climbed_after ref block between list next before k top e t =
    t ∙ (ap (pass_all ref block.id 0 between) (e ∙ ap (λ (es : List Edit). record (from_block block list next) { edits = es }) (sym (append-nil before)))
    ∙ all_after ref block.id 0 between before (from_block block list next))

-- the stack, the list and the next id, each as they are made
pub put_as : (ref : ℕ → Ref) (where_ : Place) (id : ℕ) (tag : Tag) (above : List OpenElement) (block : ℕ) (k : Climbed) (c : Change) (stack : List OpenElement) (list : List FormattingEntry) (next : ℕ)
    → stack ≡ (above ++ element_for k.next tag ∷ k.kept) ++ c.stack → list ≡ settled k.bookmark id (Element k.next tag) k.formatting → next ≡ k.next + 1
    → record c { stack = stack; formatting = list; made = next } ≡ with_parts (closed_parts ref where_ id tag above block k) c
put_as ref where_ id tag above block k c stack list next s l n =
    ap (λ (x : List OpenElement). record c { stack = x; formatting = list; made = next }) s
    ∙ (ap (λ (x : List FormattingEntry). record c { stack = (above ++ element_for k.next tag ∷ k.kept) ++ c.stack; formatting = x; made = next }) l
    ∙ ap (λ (x : ℕ). record c { stack = (above ++ element_for k.next tag ∷ k.kept) ++ c.stack; formatting = settled k.bookmark id (Element k.next tag) k.formatting; made = x }) n)

pub rebuilt_change : (ref : ℕ → Ref) (where_ : Place) (id : ℕ) (tag : Tag) (above : List OpenElement) (block : OpenElement) (between : List OpenElement) (list : List FormattingEntry) (next : ℕ) (before : List Edit) (k top : Climbed) (c new : Change)
    → k ≡ block_after before block list next → top ≡ pass_all ref block.id 0 between k
    → new ≡ with_parts (closed_parts ref where_ id tag above block.id top) c
    → new ≡ with_parts (adopted_parts ref where_ id tag above block between list next) c
rebuilt_change ref where_ id tag above block between list next before k top c new e t h =
    h ∙ ap (λ (x : Climbed). with_parts (closed_parts ref where_ id tag above block.id x) c) (climbed_after ref block between list next before k top e t)

pub rebuilt_edits : (ref : ℕ → Ref) (where_ : Place) (id : ℕ) (tag : Tag) (above : List OpenElement) (block : OpenElement) (between : List OpenElement) (list : List FormattingEntry) (next : ℕ) (before : List Edit) (k top : Climbed) (edits : List Edit)
    → k ≡ block_after before block list next → top ≡ pass_all ref block.id 0 between k
    → edits ≡ (closed_parts ref where_ id tag above block.id top).edits
    → edits ≡ before ++ (adopted_parts ref where_ id tag above block between list next).edits
rebuilt_edits ref where_ id tag above block between list next before k top edits e t h =
    let end : Climbed = pass_all ref block.id 0 between (from_block block list next) in
    h ∙ (ap (λ (x : Climbed). (closed_parts ref where_ id tag above block.id x).edits) (climbed_after ref block between list next before k top e t)
    ∙ append_assoc before end.edits (closing (ref end.last) where_ (ref block.id) (ref end.next) tag))

-- four items that were put behind others one by one, the last of them just now
pub four_put : {X : Type 0} (os l1 l2 l3 : List X) (a b c d : X) → l1 ≡ os ++ a ∷ [] → l2 ≡ l1 ++ b ∷ [] → l3 ≡ l2 ++ c ∷ [] → l3 ++ d ∷ [] ≡ os ++ a ∷ b ∷ c ∷ d ∷ []
four_put {X} os l1 l2 l3 a b c d e1 e2 e3 =
    let two : l2 ≡ os ++ a ∷ b ∷ [] = e2 ∙ (ap (λ (l : List X). l ++ b ∷ []) e1 ∙ append_assoc os (a ∷ []) (b ∷ [])) in
    let three : l3 ≡ os ++ a ∷ b ∷ c ∷ [] = e3 ∙ (ap (λ (l : List X). l ++ c ∷ []) two ∙ append_assoc os (a ∷ b ∷ []) (c ∷ [])) in
    ap (λ (l : List X). l ++ d ∷ []) three ∙ append_assoc os (a ∷ b ∷ c ∷ []) (d ∷ [])

-- the same list, told otherwise on both sides
pub ok_between : {X E L : Type 0} (z a b c : L) (r : Result X E) → z ≡ a → IfOk r (λ _. a ≡ b) → b ≡ c → IfOk r (λ _. z ≡ c)
ok_between z a b c (Ok x) f h e = f ∙ (h ∙ e)
ok_between z a b c (Err x) f h e = tt
