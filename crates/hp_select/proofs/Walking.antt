-- The walk from the first mark to none.
use Rattle.std.proofs.Common.{◌≡◌, ℕ, ◌+◌, ◌-◌, ◌<◌, List, [], ◌∷◌, ◌++◌, length, map, arith, refl, sym, ap, ◌∙◌, Some, append_assoc, append-nil, length-append, add-one}
use Rattle.std.specs.Prelude.{All, Bool, true, false, Option, Result, Ok, Err, OnOk, if◌then◌else◌}
use Rattle.std.proofs.lemmas.List.{map-append}
use Rattle.std.proofs.lemmas.List.Elements.{All-push}
use Rattle.hp_elements.specs.declared.tag.Tag.{Tag}
use Rattle.hp_control.specs.Tree.{Tree, Item, branch, IsForest}
use Rattle.hp_control.specs.Tree as item
use Rattle.hp_arena.specs.Arena.{Seen}
use Rattle.hp_arena.specs.Readers.{element_at, parent_of, place_of, IsAt}
use Rattle.hp_arena.specs.declared.readers.At.{At}
use Rattle.hp_select.specs.declared.rows.Reach.{Reach}
use Rattle.hp_select.specs.declared.selector.Step.{Step}
use Rattle.hp_select.specs.declared.walk.Mark.{Mark}
use Rattle.hp_select.specs.declared.walk.Next.TheVariants as next
use Rattle.hp_select.specs.Rows.{is_selected, row_below}
use Rattle.hp_select.specs.Selected.{inside}
use Rattle.hp_select.specs.Walk.{found_at, item_at, after, rest, hit, inner_row, row_in, row_inside, with_selected, mark_found, pending, work_at, mark_steps, todo, whole, IsDeep, IsMark, AreMarks, IsPushed, ForSteps, Entered, Stepped}
use Rattle.hp_select.proofs.Depths.{deep-room}
use Rattle.hp_select.proofs.Steps.{found-none, pending-push, todo-push, marks-pop, marks-last, pushed_one, pushed_both, rest-found, rest-work}
use Rattle.hp_select.proofs.Views.{IsLeaf}

-- what follows from a success
pub ok_then : {T E : Type 0} → (r : Result T E) (P Q : Type 0) → (P → Q) → OnOk r P → OnOk r Q
ok_then (Ok v) P Q f p = f p
ok_then (Err e) P Q f p = tt

-- an element is marked, behind which the walk goes on, and then what stands inside it
pub entered : (t : Seen) (m n : Mark) (id : ℕ) (row : List Reach) (old mid new : List Mark) → mid ≡ old ++ n ∷ [] → n.at ≡ m.at → n.row.items ≡ m.row.items → n.next ≡ next.Behind → IsMark t (length old) m
    → IsPushed t row (branch t.branches id).inside mid new → ForSteps m.row.items (λ s. length row ≡ length s → Entered t s m id row old new)
entered t m n id row old mid new e same_at same_row behind is p s fits fits_row =
    let b = t.branches in
    let level : length mid ≡ length old + 1 = ap length e ∙ length-append old (n ∷ []) in
    let first : IsMark t (length old) n = record { at = rw same_at is.at; deep = rw same_at is.deep } in
    let says : mark_found b s (length old) n ≡ found_at b s (length old) m.row.items (after b m) = rw (behind, same_at, same_row) refl in
    let takes : mark_steps b (length old) n ≡ work_at b (length old) (after b m) + 1 = rw (behind, same_at) refl in
    let inner : found_at b s (length old + 1) row (branch b id).inside ≡ found_at b s (length mid) row (branch b id).inside = ap (λ l. found_at b s l row (branch b id).inside) (sym level) in
    let steps : work_at b (length old + 1) (branch b id).inside ≡ work_at b (length mid) (branch b id).inside = ap (λ l. work_at b l (branch b id).inside) (sym level) in
    pushed_both t s old mid new (found_at b s (length mid) row (branch b id).inside) (found_at b s (length old) m.row.items (after b m)) _ _ _ _
    (pushed_one t s old mid n _ _ e first (rw same_row fits) says takes) (p s fits_row) (ap (λ xs. xs ++ found_at b s (length old) m.row.items (after b m)) inner) (omega (arith, steps))

-- an item is one element below its list
pub child_deep : (t : Tree) (m : Mark) (level id : ℕ) → item_at t m ≡ Some (item.Element id) → IsDeep t level (parent_of m.at) → IsDeep t (level + 1) id
child_deep t m level id has deep = rw add-one ((parent_of m.at), (place_of m.at), (has, deep))

-- the walk went on behind an item
pub stepped_behind : (t : Seen) (s : List Step) (m : Mark) (found : List At) (old new : List Mark) → m.next ≡ next.Behind → length m.row.items ≡ length s
    → IsPushed t m.row.items (after t.branches m) old new → Stepped t s m found found old new
stepped_behind t s m found old new behind fits pushed =
    let b = t.branches in
    let p = pushed s fits in
    let says : mark_found b s (length old) m ≡ found_at b s (length old) m.row.items (after b m) = rw behind refl in
    let takes : mark_steps b (length old) m ≡ work_at b (length old) (after b m) + 1 = rw behind refl in
    record {
      found_is = ap (λ xs. map (element_at b) found ++ map Some xs) (p.found_is ∙ ap (λ xs. xs ++ pending b s 0 old) (sym says));
      steps_are = omega (arith, p.steps_are, takes);
      marks = p.marks;
    }

-- it went on behind one that is no element
pub stepped_leaf : (t : Seen) (s : List Step) (m : Mark) (x : Item) (found : List At) (old new : List Mark) → IsForest t.branches → IsMark t (length old) m → item_at t.branches m ≡ Some x → IsLeaf t.branches x
    → m.next ≡ next.Item → length m.row.items ≡ length s → IsPushed t m.row.items (after t.branches m) old new → Stepped t s m found found old new
stepped_leaf t s m x found old new f is has leaf whole_item fits pushed =
    let b = t.branches in
    let p = pushed s fits in
    let room : length old < length b = deep-room b f (length old) (parent_of m.at) is.deep in
    let left = found_at b s (length old) m.row.items (after b m) in
    let says : mark_found b s (length old) m ≡ left =
    rw whole_item (rest-found b s (length old) m x room has)
    ∙ ap (λ ids. ids ++ found_at b s (length old + 1) (row_inside b s m.row.items x) (inside b x) ++ left) (leaf.unfound s m.row.items)
    ∙ ap (λ items. found_at b s (length old + 1) (row_inside b s m.row.items x) items ++ left) leaf.empty
    ∙ ap (λ ids. ids ++ left) (found-none b s (length b - (length old + 1)) (row_inside b s m.row.items x)) in
    let takes : mark_steps b (length old) m ≡ work_at b (length old) (rest b m) = rw whole_item refl in
    record {
      found_is = ap (λ xs. map (element_at b) found ++ map Some xs) (p.found_is ∙ ap (λ xs. xs ++ pending b s 0 old) (sym says));
      steps_are = omega (arith, p.steps_are, takes, rest-work b (length old) m x room has);
      marks = p.marks;
    }

-- an element is taken where it is selected
taken : (b : Tree) (id : ℕ) (a : At) (found : List At) (selected : Bool) → element_at b a ≡ Some id
    → map (element_at b) (if selected then found ++ a ∷ [] else found) ≡ map (element_at b) found ++ map Some (if selected then id ∷ [] else [])
taken b id a found true is = map-append (element_at b) found (a ∷ []) ∙ ap (λ o. map (element_at b) found ++ o ∷ []) is
taken b id a found false is = sym (append-nil (map (element_at b) found))

there_if : (t : Seen) (a : At) (found : List At) (selected : Bool) → IsAt t a → All (IsAt t) found → All (IsAt t) (if selected then found ++ a ∷ [] else found)
there_if t a found true is all = All-push (IsAt t) found a all is
there_if t a found false is all = all

joined : (xs : List (Option ℕ)) (first more : List ℕ) (ys : List (Option ℕ)) → ys ≡ xs ++ map Some first → ys ++ map Some more ≡ xs ++ map Some (first ++ more)
joined xs first more ys e = ap (λ zs. zs ++ map Some more) e ∙ append_assoc xs (map Some first) (map Some more) ∙ ap (λ zs. xs ++ zs) (sym (map-append Some first more))

-- an element was looked at, and what stands inside it is marked
pub stepped_element : (t : Seen) (s : List Step) (m : Mark) (id : ℕ) (tag : Tag) (row inner : List Reach) (found new_found : List At) (old new : List Mark) → IsForest t.branches → IsMark t (length old) m
    → item_at t.branches m ≡ Some (item.Element id) → (branch t.branches id).tag ≡ Some tag → element_at t.branches m.at ≡ Some id → m.next ≡ next.Item → length m.row.items ≡ length s
    → row ≡ row_below tag s m.row.items → inner ≡ inner_row s tag row → new_found ≡ with_selected s row m.at found → Entered t s m id inner old new → Stepped t s m found new_found old new
stepped_element t s m id tag row inner found new_found old new f is has tagged there whole_item fits below within took p =
    let b = t.branches in
    let room : length old < length b = deep-room b f (length old) (parent_of m.at) is.deep in
    let x = item.Element id in
    let left = found_at b s (length old) m.row.items (after b m) in
    let first = hit s m.row.items id (Some tag) in
    let deeper = found_at b s (length old + 1) inner (branch b id).inside in
    let row_is : row_in s m.row.items (branch b id).tag ≡ inner = ap (row_in s m.row.items) tagged ∙ ap (inner_row s tag) (sym below) ∙ sym within in
    let says : mark_found b s (length old) m ≡ first ++ deeper ++ left =
    rw whole_item (rest-found b s (length old) m x room has)
    ∙ ap (λ o. hit s m.row.items id o ++ found_at b s (length old + 1) (row_in s m.row.items (branch b id).tag) (branch b id).inside ++ left) tagged
    ∙ ap (λ r. first ++ found_at b s (length old + 1) r (branch b id).inside ++ left) row_is in
    let took_is : map (element_at b) new_found ≡ map (element_at b) found ++ map Some first =
    ap (map (element_at b)) (took ∙ ap (λ r. with_selected s r m.at found) below) ∙ taken b id m.at found (is_selected s (row_below tag s m.row.items)) there in
    let takes : mark_steps b (length old) m ≡ work_at b (length old) (rest b m) = rw whole_item refl in
    let all : first ++ pending b s 0 new ≡ mark_found b s (length old) m ++ pending b s 0 old =
    ap (λ xs. first ++ xs) p.found_is ∙ sym (append_assoc first (deeper ++ left) (pending b s 0 old)) ∙ ap (λ xs. xs ++ pending b s 0 old) (sym (append_assoc first deeper left) ∙ sym says) in
    record {
      found_is = joined (map (element_at b) found) first (pending b s 0 new) (map (element_at b) new_found) took_is ∙ ap (λ xs. map (element_at b) found ++ map Some xs) all;
      steps_are = omega (arith, p.steps_are, takes, rest-work b (length old) m x room has);
      marks = p.marks;
    }

-- one that is taken is there
pub taken_there : (t : Seen) (s : List Step) (row : List Reach) (a : At) (found new : List At) → new ≡ with_selected s row a found → IsAt t a → All (IsAt t) found → All (IsAt t) new
taken_there t s row a found new e is all = rw e (there_if t a found (is_selected s row) is all)

-- before the first item nothing was found
pub whole_first : (t : Seen) (s : List Step) (row : List Reach) (found : List At) (ms new : List Mark) → found ≡ [] → ms ≡ [] → length row ≡ length s
    → IsPushed t row (branch t.branches 0).inside ms new → AreMarks t s 0 new × (whole t.branches s found new ≡ map Some (found_at t.branches s 0 row (branch t.branches 0).inside))
unfolding pending
whole_first t s row found [] new none e fits pushed =
    let b = t.branches in
    let p = pushed s fits in (
      p.marks tt,
      ap (λ xs. map (element_at b) xs ++ map Some (pending b s 0 new)) none ∙ ap (map Some) (p.found_is ∙ append-nil _),
    )
whole_first t s row found (m ∷ ms) new none e fits p = cc e

pub none_there : (t : Seen) (found : List At) → found ≡ [] → All (IsAt t) found
none_there t [] e = λ k d h. absurd (omega arith)
none_there t (a ∷ found) e = cc e

-- the last mark is taken, and a step is made there
pub whole_step : (t : Seen) (s : List Step) (m : Mark) (found new_found : List At) (ms old new : List Mark) (all : List (Option ℕ)) → ms ≡ old ++ m ∷ [] → AreMarks t s 0 ms → whole t.branches s found ms ≡ all
    → Stepped t s m found new_found old new → AreMarks t s 0 new × (whole t.branches s new_found new ≡ all) × (todo t.branches 0 new < todo t.branches 0 ms)
whole_step t s m found new_found ms old new all e marks so_far step =
    let b = t.branches in
    let top : 0 + length old ≡ length old = omega arith in
    let these : AreMarks t s 0 (old ++ m ∷ []) = rw e at marks in
    let more : todo b 0 ms ≡ todo b 0 old + mark_steps b (length old) m = ap (todo b 0) e ∙ todo-push b 0 (length old) old m top in (
      step.marks (marks-pop t s 0 old m these),
      step.found_is ∙ ap (λ xs. map (element_at b) found ++ map Some xs) (sym (ap (pending b s 0) e ∙ pending-push b s 0 (length old) old m top)) ∙ so_far,
      omega (arith, step.steps_are, more),
    )

pub last_mark : (t : Seen) (s : List Step) (ms old : List Mark) (m : Mark) → ms ≡ old ++ m ∷ [] → AreMarks t s 0 ms → IsMark t (length old) m × (length m.row.items ≡ length s)
last_mark t s ms old m e all =
    let top : 0 + length old ≡ length old = omega arith in
    let marks : AreMarks t s 0 (old ++ m ∷ []) = rw e at all in marks-last t s 0 (length old) old m top marks

-- where no mark is left, all was found
pub whole_end : (t : Tree) (s : List Step) (found : List At) (all : List (Option ℕ)) (ms : List Mark) → length ms ≡ 0 → whole t s found ms ≡ all → map (element_at t) found ≡ all
unfolding pending
whole_end t s found all [] e so_far = sym (append-nil (map (element_at t) found)) ∙ so_far
whole_end t s found all (m ∷ ms) e so_far = absurd (omega arith)
