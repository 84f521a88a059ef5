-- The steps of the walk.
use Rattle.std.proofs.Common.{◌≡◌, ℕ, zero, suc, ◌+◌, ◌-◌, ◌<◌, ◌≤◌, List, [], ◌∷◌, ◌++◌, length, drop, get_or, arith, refl, sym, ap, subst, ◌∙◌, Some, slice_get, append_assoc, append-nil, add-one}
use Rattle.std.proofs.lemmas.Option.{slice_get-get_or, slice_get_within}
use Rattle.std.proofs.Math.Seq.{drop-cons}
use Rattle.std.specs.Prelude.{Option, None, true, false, if◌then◌else◌, unwrap_or}
use Rattle.std.specs.Borrow.{Bor}
use Rattle.hp_elements.specs.declared.tag.Tag.{Tag}
use Rattle.hp_control.specs.Tree.{Tree, Item, branch, HasChild, IsForest}
use Rattle.hp_control.specs.Tree as item
use Rattle.std.specs.Option.{option_copied}
use Rattle.std.proofs.lemmas.Bool.{true≢false}
use Rattle.hp_arena.specs.Readers.{shown, text_of, is_item, is_template, element_at, element_of, HasTag, IsAt, IsIn, IsShown, parent_of, place_of, siblings}
use Rattle.hp_store.specs.Lists.{attribute_count}
use Rattle.hp_arena.specs.declared.readers.At.{At}
use Rattle.hp_arena.specs.declared.readers.At.TheVariants as at
use Rattle.hp_arena.specs.declared.readers.NodeView.{NodeView}
use Rattle.hp_arena.specs.declared.readers.NodeView.TheVariants as node
use Rattle.hp_arena.specs.Arena.{Seen}
use Rattle.hp_print.specs.declared.walk.Mark.{Mark}
use Rattle.hp_print.specs.Print.{lines, lines_of, inside, own_lines, extra, tag_extra, print}
use Rattle.hp_print.specs.Stack.{lines_at, steps_at, rest, mark_lines, mark_steps, pending, work, todo, attributes_in, HasRoom, IsDeep, IsMark, AreMarks, Pushed, Stepped}
use Rattle.hp_print.proofs.Depths.{deep-room}

lines-none : (t : Tree) (left depth : ℕ) → lines t left depth [] ≡ []
unfolding lines
lines-none t zero depth = refl
lines-none t (suc left) depth = refl

lines-some : (t : Tree) (left depth : ℕ) (x : Item) (xs : List Item) → 0 < left → lines t left depth (x ∷ xs) ≡ own_lines t depth x ++ lines t (left - 1) (depth + 1 + extra t x) (inside t x) ++ lines t left depth xs
unfolding lines
lines-some t zero depth x xs h = absurd (omega arith)
lines-some t (suc left) depth x xs h =
    let a : left ≡ suc left - 1 = omega arith in ap (λ l. own_lines t depth x ++ lines t l (depth + 1 + extra t x) (inside t x) ++ lines t (suc left) depth xs) a

work-some : (t : Tree) (left : ℕ) (x : Item) (xs : List Item) → 0 < left → work t left (x ∷ xs) ≡ work t (left - 1) (inside t x) + 2 + work t left xs
unfolding work
work-some t zero x xs h = absurd (omega arith)
work-some t (suc left) x xs h = let a : left ≡ suc left - 1 = omega arith in ap (λ l. work t l (inside t x) + 2 + work t (suc left) xs) a

-- the last mark comes first
pub pending-push : (t : Tree) (ms : List Mark) (m : Mark) → pending t (ms ++ m ∷ []) ≡ mark_lines t m ++ pending t ms
unfolding pending
pending-push t [] m = sym (append-nil (mark_lines t m))
pending-push t (n ∷ ms) m = ap (λ xs. xs ++ mark_lines t n) (pending-push t ms m) ∙ append_assoc (mark_lines t m) (pending t ms) (mark_lines t n)

pub todo-push : (t : Tree) (ms : List Mark) (m : Mark) → todo t (ms ++ m ∷ []) ≡ todo t ms + mark_steps t m
unfolding todo
todo-push t [] m = refl
todo-push t (n ∷ ms) m = omega (arith, todo-push t ms m)

pub marks-push : (t : Seen) (place : ℕ) (ms : List Mark) (m : Mark) → AreMarks t place ms → IsMark t m → place + length ms ≤ m.level → AreMarks t place (ms ++ m ∷ [])
marks-push t place [] m all is high = (is, omega arith, tt)
marks-push t place (n ∷ ms) m all is high = let next : place + 1 + length ms ≤ m.level = omega arith in (all.0, all.1, marks-push t (place + 1) ms m all.2 is next)

pub marks-pop : (t : Seen) (place : ℕ) (ms : List Mark) (m : Mark) → AreMarks t place (ms ++ m ∷ []) → AreMarks t place ms
marks-pop t place [] m all = tt
marks-pop t place (n ∷ ms) m all = (all.0, all.1, marks-pop t (place + 1) ms m all.2)

pub marks-last : (t : Seen) (place : ℕ) (ms : List Mark) (m : Mark) → AreMarks t place (ms ++ m ∷ []) → IsMark t m
marks-last t place [] m all = all.0
marks-last t place (n ∷ ms) m all = marks-last t (place + 1) ms m all.2

pub marks-high : (t : Seen) (place : ℕ) (ms : List Mark) (m : Mark) → AreMarks t place (ms ++ m ∷ []) → place + length ms ≤ m.level
marks-high t place [] m all = let high : place ≤ m.level = all.1 in omega arith
marks-high t place (n ∷ ms) m all = let high : place + 1 + length ms ≤ m.level = marks-high t (place + 1) ms m all.2 in omega arith

pub marks-at : (t : Seen) (place : ℕ) (ms : List Mark) (k : ℕ) (m : Mark) → slice_get ms k ≡ Some m → AreMarks t place ms → IsMark t m
marks-at t place [] k m is all = cc
marks-at t place (n ∷ ms) zero m is all = let same : n ≡ m = cc in subst (λ o. IsMark t o) same all.0
marks-at t place (n ∷ ms) (suc k) m is all = marks-at t (place + 1) ms k m is all.2

-- a mark is pushed
pub pushed_some : (t : Seen) (ms : List Mark) (m : Mark) (level templates : ℕ) (items : List Item) → IsMark t m → length ms ≤ m.level → m.level ≡ level → m.templates ≡ templates → rest t.branches m ≡ items
    → Pushed t ms (ms ++ m ∷ []) (lines_at t.branches level templates items) (steps_at t.branches level items)
pushed_some t ms m level templates items is high at_level of_templates left =
    let first : 0 + length ms ≤ m.level = omega arith in
    rw (← at_level, ← of_templates, ← left) (record {
      text_is = pending-push t.branches ms m;
      steps_are = omega (arith, todo-push t.branches ms m);
      marks = λ all. marks-push t 0 ms m all is first;
    })

-- where nothing is left, nothing is pushed
pub pushed_none : (t : Seen) (ms : List Mark) (level templates : ℕ) (items : List Item) → items ≡ [] → Pushed t ms ms (lines_at t.branches level templates items) (steps_at t.branches level items)
pushed_none t ms level templates items e =
    let none : lines_at t.branches level templates items ≡ [] = ap (lines_at t.branches level templates) e ∙ lines-none t.branches (length t.branches - level) (level + templates) in
    record { text_is = rw none refl; steps_are = omega arith; marks = λ all. all }

-- what stands inside an element is marked
pub pushed_below : (t : Seen) (m : Mark) (id : ℕ) (x : Item) (more : ℕ) (old new : List Mark) → Some (item.Element id) ≡ Some x → extra t.branches (item.Element id) ≡ more
    → Pushed t old new (lines_at t.branches (m.level + 1) (m.templates + more) (branch t.branches id).inside) (steps_at t.branches (m.level + 1) (branch t.branches id).inside)
    → Pushed t old new (lines_at t.branches (m.level + 1) (m.templates + extra t.branches x) (inside t.branches x)) (steps_at t.branches (m.level + 1) (inside t.branches x))
pushed_below t m id x more old new is deeper pushed =
    let b = t.branches in
    let same : item.Element id ≡ x = cc in
    let inner : Pushed t old new (lines_at b (m.level + 1) (m.templates + extra b (item.Element id)) (branch b id).inside) (steps_at b (m.level + 1) (branch b id).inside) =
    subst (λ d. Pushed t old new (lines_at b (m.level + 1) (m.templates + d) (branch b id).inside) (steps_at b (m.level + 1) (branch b id).inside)) (sym deeper) pushed in
    subst (λ y. Pushed t old new (lines_at b (m.level + 1) (m.templates + extra b y) (inside b y)) (steps_at b (m.level + 1) (inside b y))) same inner

-- the item at a place, and what is left after it
drop_at : (xs : List Item) (n : ℕ) (x : Item) → slice_get xs n ≡ Some x → drop n xs ≡ x ∷ drop (n + 1) xs
drop_at xs n x e =
    let h : n < length xs = slice_get_within xs n x e in
    let some : slice_get xs n ≡ Some (get_or xs n x) = slice_get-get_or xs n x h in
    let is : get_or xs n x ≡ x = cc in
    rw (add-one, drop-cons xs n x h) (ap (λ y. y ∷ drop (suc n) xs) is)

-- what is left after the item at a mark
abbrev pub after : Tree → Mark → List Item
after t m = drop ((place_of m.at) + 1) (branch t (parent_of m.at)).inside

abbrev pub IsItemAt : Tree → Mark → Item → Type 0
IsItemAt t m x = slice_get (branch t (parent_of m.at)).inside (place_of m.at) ≡ Some x

mark-text : (t : Tree) (m : Mark) (x : Item) → m.level < length t → IsItemAt t m x
    → mark_lines t m ≡ own_lines t (m.level + m.templates) x ++ lines t (length t - m.level - 1) (m.level + m.templates + 1 + extra t x) (inside t x) ++ lines_at t m.level m.templates (after t m)
mark-text t m x room item =
    ap (lines_at t m.level m.templates) (drop_at (branch t (parent_of m.at)).inside (place_of m.at) x item)
    ∙ lines-some t (length t - m.level) (m.level + m.templates) x (after t m) (omega arith)

mark-work : (t : Tree) (m : Mark) (x : Item) → m.level < length t → IsItemAt t m x
    → mark_steps t m ≡ work t (length t - m.level - 1) (inside t x) + 2 + work t (length t - m.level) (after t m) + 1
mark-work t m x room item =
    ap (steps_at t m.level) (drop_at (branch t (parent_of m.at)).inside (place_of m.at) x item)
    ∙ ap (λ n. n + 1) (work-some t (length t - m.level) x (after t m) (omega arith))

-- what is left after the item was marked
abbrev pub NextPushed : Seen → Mark → List Mark → List Mark → Type 0
NextPushed t m old new = Pushed t old new (lines_at t.branches m.level m.templates (after t.branches m)) (steps_at t.branches m.level (after t.branches m))

step-text : (own inner next old mid new : List ℕ) → mid ≡ next ++ old → new ≡ inner ++ mid → (own ++ inner ++ next) ++ old ≡ own ++ new
step-text own inner next old mid new is more = rw (more, is) (simp append_assoc)

-- what is shown at a mark, and the element that it may be is there
abbrev pub IsShownAt : Tree → Mark → NodeView → Type 0
IsShownAt t m view = slice_get (branch t (parent_of m.at)).inside (place_of m.at) ≡ shown view

element_there : (t : Tree) (m : Mark) (view : NodeView) → IsForest t → IsShownAt t m view → (id : ℕ) → shown view ≡ Some (item.Element id) → id < length t
element_there t m view f shows id is = f.there (parent_of m.at) (place_of m.at) id (shows ∙ is)

shown_lines : (t : Tree) (depth : ℕ) (view : NodeView) (x : Item) (more : List ℕ) → shown view ≡ Some x → own_lines t depth x ++ more ≡ lines_of t depth (shown view) ++ more
shown_lines t depth view x more is = ap (λ o. lines_of t depth o ++ more) (sym is)

-- a step over an item, and what stands inside it is marked
pub stepped : (t : Seen) (m : Mark) (view : NodeView) (x : Item) (templates : ℕ) (old mid new : List Mark) → IsForest t.branches → IsMark t m → IsShownAt t.branches m view → shown view ≡ Some x → HasTag t.branches view
    → templates ≡ m.templates + extra t.branches x → NextPushed t m old mid
    → Pushed t mid new (lines_at t.branches (m.level + 1) templates (inside t.branches x)) (steps_at t.branches (m.level + 1) (inside t.branches x)) → Stepped t m view old new
stepped t m view x templates old mid new f is shows one tag more pushed below =
    let b = t.branches in
    let item : IsItemAt b m x = shows ∙ one in
    let room : m.level < length b = deep-room b f m.level (parent_of m.at) is.deep in
    let left : length b - (m.level + 1) ≡ length b - m.level - 1 = omega arith in
    let depth : m.level + 1 + templates ≡ m.level + m.templates + 1 + extra b x = omega arith in
    let inner : lines_at b (m.level + 1) templates (inside b x) ≡ lines b (length b - m.level - 1) (m.level + m.templates + 1 + extra b x) (inside b x) =
    ap (λ l. lines b l (m.level + 1 + templates) (inside b x)) left ∙ ap (λ d. lines b (length b - m.level - 1) d (inside b x)) depth in
    let effort : work b (length b - (m.level + 1)) (inside b x) ≡ work b (length b - m.level - 1) (inside b x) = ap (λ l. work b l (inside b x)) left in
    record {
      text_is = rw (mark-text b m x room item, ← inner) (step-text _ _ _ _ _ _ pushed.text_is below.text_is) ∙ shown_lines b (m.level + m.templates) view x (pending b new) one;
      steps_are = omega (arith, mark-work b m x room item, pushed.steps_are, below.steps_are, effort);
      marks = λ all. below.marks (pushed.marks all);
      tag = tag;
      there = element_there b m view f shows;
    }

-- an item is one element below its list
pub child_deep : (t : Tree) (m : Mark) (id : ℕ) → IsItemAt t m (item.Element id) → IsDeep t m.level (parent_of m.at) → IsDeep t (m.level + 1) id
child_deep t m id has deep = rw add-one ((parent_of m.at), (place_of m.at), (has, deep))

pub extra_at_most : (t : Tree) (x : Item) → extra t x ≤ 1
extra_at_most t (item.Element id) = tag_at_most (branch t id).tag where
  tag_at_most : (tag : Option Tag) → tag_extra tag ≤ 1
  tag_at_most None = omega arith
  tag_at_most (Some tag) = elim (is_template tag) as (λ b. (if b then 1 else 0) ≤ 1) [ true ↦ omega arith | false ↦ omega arith ]
extra_at_most t (item.Text text) = omega arith
extra_at_most t (item.Comment text) = omega arith
extra_at_most t (item.Doctype name public system) = omega arith

-- what stands at a place in a list of children is in the tree, at that place
pub in-there : (t : Seen) (parent place : ℕ) (a : At) → IsIn t parent place a → IsAt t a
in-there t parent place at.Document h = absurd h
in-there t parent place (at.Child spot) h = h.1.1
in-there t parent place (at.Contents id) h = absurd h

pub in-place : (t : Seen) (parent place : ℕ) (a : At) → IsIn t parent place a → (parent_of a ≡ parent) × (place_of a ≡ place)
in-place t parent place at.Document h = absurd h
in-place t parent place (at.Child spot) h = (h.0, h.1.0)
in-place t parent place (at.Contents id) h = absurd h

pub in-own : (t : Seen) (parent place : ℕ) (a : At) → IsIn t parent place a → IsIn t (parent_of a) (place_of a) a
in-own t parent place at.Document h = absurd h
in-own t parent place (at.Child spot) h = (refl, (refl, h.1.1))
in-own t parent place (at.Contents id) h = absurd h

pub in-siblings : (t : Seen) (parent place : ℕ) (a : At) → IsIn t parent place a → siblings t.branches a ≡ (branch t.branches (parent_of a)).inside
in-siblings t parent place at.Document h = absurd h
in-siblings t parent place (at.Child spot) h = refl
in-siblings t parent place (at.Contents id) h = absurd h

pub in-shown : (t : Seen) (parent place : ℕ) (a : At) (view : NodeView) → IsIn t parent place a → IsShown t.branches a view
    → (slice_get (branch t.branches (parent_of a)).inside (place_of a) ≡ shown view) × (is_item view ≡ true)
in-shown t parent place at.Document view h is = absurd h
in-shown t parent place (at.Child spot) view h is = is
in-shown t parent place (at.Contents id) view h is = absurd h

-- the element that a view shows stands there
pub in-element : (t : Seen) (parent place : ℕ) (a : At) (view : NodeView) (id : ℕ) (tag : Bor Tag) → IsIn t parent place a → IsShown t.branches a view → view ≡ node.Element id tag → element_at t.branches a ≡ Some id
in-element t parent place at.Document view id tag h shows is = absurd h
in-element t parent place (at.Child spot) view id tag h shows is = ap element_of shows.0 ∙ ap (λ v. element_of (shown v)) is
in-element t parent place (at.Contents id') view id tag h shows is = absurd h

-- the view of an item shows it
pub item_shown : (view : NodeView) → is_item view ≡ true → (x : Item) × (shown view ≡ Some x)
item_shown node.Document h = absurd (true≢false (sym h))
item_shown node.Contents h = absurd (true≢false (sym h))
item_shown (node.Doctype name public system) h = (_, refl)
item_shown (node.Element id tag) h = (_, refl)
item_shown (node.Text runs) h = (_, refl)
item_shown (node.Comment text) h = (_, refl)

-- nothing stands inside what is no element
pub leaf_inside : (t : Tree) (view : NodeView) (x : Item) → shown view ≡ Some x → ((id : ℕ) (tag : Bor Tag) → view ≡ node.Element id tag → ⊥) → inside t x ≡ []
leaf_inside t node.Document x is not_element = cc is
leaf_inside t node.Contents x is not_element = cc is
leaf_inside t (node.Doctype name public system) x is not_element = let same : item.Doctype (unwrap_or (option_copied name) []) (option_copied public) (option_copied system) ≡ x = cc is in ap (inside t) (sym same)
leaf_inside t (node.Element id tag) x is not_element = absurd (not_element id tag refl)
leaf_inside t (node.Text runs) x is not_element = let same : item.Text (text_of runs) ≡ x = cc is in ap (inside t) (sym same)
leaf_inside t (node.Comment text) x is not_element = let same : item.Comment text.now ≡ x = cc is in ap (inside t) (sym same)

-- the whole text is that of what stands inside the document
pub whole_text : (t : Tree) → lines_at t 0 0 (branch t 0).inside ≡ print t
whole_text t = let n : length t - 0 ≡ length t = omega arith in ap (λ l. lines t l 0 (branch t 0).inside) n

-- there is room for the attributes of what is shown at a mark
pub shown_room : (t : Tree) (view : NodeView) (most : ℕ) → HasRoom t most → HasTag t view → ((id : ℕ) → shown view ≡ Some (item.Element id) → id < length t) → attributes_in view ≤ most
shown_room t node.Document most room tag there = omega arith
shown_room t node.Contents most room tag there = omega arith
shown_room t (node.Doctype name public system) most room tag there = omega arith
shown_room t (node.Element id tag) most room is there = subst (λ o. attribute_count o ≤ most) is (room id (there id refl))
shown_room t (node.Text runs) most room tag there = omega arith
shown_room t (node.Comment text) most room tag there = omega arith
