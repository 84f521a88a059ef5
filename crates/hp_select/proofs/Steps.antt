-- The steps of the walk.
use Rattle.std.proofs.Common.{◌≡◌, ℕ, zero, suc, ◌+◌, ◌-◌, ◌<◌, ◌≤◌, List, [], ◌∷◌, ◌++◌, length, drop, get_or, arith, refl, sym, ap, subst, ◌∙◌, Some, slice_get, append_assoc, append-nil, add-one}
use Rattle.std.proofs.lemmas.Option.{slice_get-get_or, slice_get_within}
use Rattle.std.proofs.Math.Seq.{drop-cons}
use Rattle.hp_control.specs.Tree.{Tree, Item, branch}
use Rattle.hp_arena.specs.Arena.{Seen}
use Rattle.hp_arena.specs.Readers.{IsIn, parent_of, place_of}
use Rattle.hp_select.specs.declared.rows.Reach.{Reach}
use Rattle.hp_select.specs.declared.selector.Step.{Step}
use Rattle.hp_select.specs.declared.walk.Mark.{Mark}
use Rattle.hp_select.specs.declared.walk.Next.TheVariants as next
use Rattle.hp_select.specs.Selected.{inside}
use Rattle.hp_select.specs.Walk.{found_in, found_at, item_at, after, rest, mark_found, own_hit, row_inside, pending, work, work_at, mark_steps, todo, IsDeep, IsMark, AreMarks, Pushed, IsPushed}

pub found-none : (t : Tree) (s : List Step) (left : ℕ) (row : List Reach) → found_in t s left row [] ≡ []
unfolding found_in
found-none t s zero row = refl
found-none t s (suc left) row = refl

pub found-some : (t : Tree) (s : List Step) (left : ℕ) (row : List Reach) (x : Item) (xs : List Item) → 0 < left
    → found_in t s left row (x ∷ xs) ≡ own_hit t s row x ++ found_in t s (left - 1) (row_inside t s row x) (inside t x) ++ found_in t s left row xs
unfolding found_in
found-some t s zero row x xs h = absurd (omega arith)
found-some t s (suc left) row x xs h =
    let a : left ≡ suc left - 1 = omega arith in
    ap (λ l. own_hit t s row x ++ found_in t s l (row_inside t s row x) (inside t x) ++ found_in t s (suc left) row xs) a

work-none : (t : Tree) (left : ℕ) → work t left [] ≡ 0
unfolding work
work-none t zero = refl
work-none t (suc left) = refl

work-some : (t : Tree) (left : ℕ) (x : Item) (xs : List Item) → 0 < left → work t left (x ∷ xs) ≡ work t (left - 1) (inside t x) + 3 + work t left xs
unfolding work
work-some t zero x xs h = absurd (omega arith)
work-some t (suc left) x xs h = let a : left ≡ suc left - 1 = omega arith in ap (λ l. work t l (inside t x) + 3 + work t (suc left) xs) a

-- the last mark comes first
pub pending-push : (t : Tree) (s : List Step) (level top : ℕ) (ms : List Mark) (m : Mark) → level + length ms ≡ top → pending t s level (ms ++ m ∷ []) ≡ mark_found t s top m ++ pending t s level ms
unfolding pending
pending-push t s level top [] m e = let same : level ≡ top = omega arith in ap (λ l. mark_found t s l m) same ∙ sym (append-nil (mark_found t s top m))
pending-push t s level top (n ∷ ms) m e =
    let next : level + 1 + length ms ≡ top = omega arith in
    ap (λ xs. xs ++ mark_found t s level n) (pending-push t s (level + 1) top ms m next) ∙ append_assoc (mark_found t s top m) (pending t s (level + 1) ms) (mark_found t s level n)

pub todo-push : (t : Tree) (level top : ℕ) (ms : List Mark) (m : Mark) → level + length ms ≡ top → todo t level (ms ++ m ∷ []) ≡ todo t level ms + mark_steps t top m
unfolding todo
todo-push t level top [] m e = let same : level ≡ top = omega arith in omega (arith, ap (λ l. mark_steps t l m) same)
todo-push t level top (n ∷ ms) m e = let next : level + 1 + length ms ≡ top = omega arith in omega (arith, todo-push t (level + 1) top ms m next)

pub marks-push : (t : Seen) (s : List Step) (level top : ℕ) (ms : List Mark) (m : Mark) → level + length ms ≡ top → AreMarks t s level ms → IsMark t top m → length m.row.items ≡ length s → AreMarks t s level (ms ++ m ∷ [])
marks-push t s level top [] m e all is fits = let same : top ≡ level = omega arith in (subst (λ l. IsMark t l m) same is, fits, tt)
marks-push t s level top (n ∷ ms) m e all is fits = let next : level + 1 + length ms ≡ top = omega arith in (all.0, all.1, marks-push t s (level + 1) top ms m next all.2 is fits)

pub marks-pop : (t : Seen) (s : List Step) (level : ℕ) (ms : List Mark) (m : Mark) → AreMarks t s level (ms ++ m ∷ []) → AreMarks t s level ms
marks-pop t s level [] m all = tt
marks-pop t s level (n ∷ ms) m all = (all.0, all.1, marks-pop t s (level + 1) ms m all.2)

pub marks-last : (t : Seen) (s : List Step) (level top : ℕ) (ms : List Mark) (m : Mark) → level + length ms ≡ top → AreMarks t s level (ms ++ m ∷ []) → IsMark t top m × (length m.row.items ≡ length s)
marks-last t s level top [] m e all = let same : level ≡ top = omega arith in (subst (λ l. IsMark t l m) same all.0, all.1)
marks-last t s level top (n ∷ ms) m e all = let next : level + 1 + length ms ≡ top = omega arith in marks-last t s (level + 1) top ms m next all.2

-- a mark is pushed
pub pushed_one : (t : Seen) (s : List Step) (ms new : List Mark) (m : Mark) (ids : List ℕ) (more : ℕ) → new ≡ ms ++ m ∷ [] → IsMark t (length ms) m → length m.row.items ≡ length s
    → mark_found t.branches s (length ms) m ≡ ids → mark_steps t.branches (length ms) m ≡ more → Pushed t s ms new ids more
pushed_one t s ms new m ids more e is fits says takes =
    let top : 0 + length ms ≡ length ms = omega arith in
    rw (e, ← says, ← takes) (record {
      found_is = pending-push t.branches s 0 (length ms) ms m top;
      steps_are = omega (arith, todo-push t.branches 0 (length ms) ms m top);
      marks = λ all. marks-push t s 0 (length ms) ms m top all is fits;
    })

-- where nothing is left, nothing is pushed
pub pushed_none : (t : Seen) (ms : List Mark) (row : List Reach) (items : List Item) → items ≡ [] → IsPushed t row items ms ms
pushed_none t ms row items e s fits =
    let none : found_at t.branches s (length ms) row items ≡ [] = ap (found_at t.branches s (length ms) row) e ∙ found-none t.branches s (length t.branches - length ms) row in
    record { found_is = rw none refl; steps_are = omega arith; marks = λ all. all }

-- all of the items from one on are marked
pub pushed_item : (t : Seen) (ms new : List Mark) (m : Mark) (items : List Item) → new ≡ ms ++ m ∷ [] → m.next ≡ next.Item → IsIn t (parent_of m.at) (place_of m.at) m.at
    → IsDeep t.branches (length ms) (parent_of m.at) → drop (place_of m.at) (branch t.branches (parent_of m.at)).inside ≡ items → IsPushed t m.row.items items ms new
pushed_item t ms new m items e whole is deep left s fits =
    rw (← left) (pushed_one t s ms new m (found_at t.branches s (length ms) m.row.items (rest t.branches m)) (work_at t.branches (length ms) (rest t.branches m)) e
    (record { at = is; deep = deep }) fits (rw whole refl) (rw whole refl))

-- one after the other
pub pushed_both : (t : Seen) (s : List Step) (a b d : List Mark) (first second ids : List ℕ) (n k more : ℕ) → Pushed t s a b second n → Pushed t s b d first k → ids ≡ first ++ second → n + k ≤ more → Pushed t s a d ids more
pushed_both t s a b d first second ids n k more p q is few = record {
  found_is = q.found_is ∙ ap (λ xs. first ++ xs) p.found_is ∙ sym (append_assoc first second (pending t.branches s 0 a)) ∙ ap (λ xs. xs ++ pending t.branches s 0 a) (sym is);
  steps_are = omega (arith, p.steps_are, q.steps_are);
  marks = λ all. q.marks (p.marks all);
}

-- the item at a place, and what is left after it
drop_at : (xs : List Item) (n : ℕ) (x : Item) → slice_get xs n ≡ Some x → drop n xs ≡ x ∷ drop (n + 1) xs
drop_at xs n x e =
    let h : n < length xs = slice_get_within xs n x e in
    let some : slice_get xs n ≡ Some (get_or xs n x) = slice_get-get_or xs n x h in
    let is : get_or xs n x ≡ x = cc in
    rw (add-one, drop-cons xs n x h) (ap (λ y. y ∷ drop (suc n) xs) is)

-- what is found at an item and what is left after it
pub rest-found : (t : Tree) (s : List Step) (level : ℕ) (m : Mark) (x : Item) → level < length t → item_at t m ≡ Some x
    → found_at t s level m.row.items (rest t m) ≡ own_hit t s m.row.items x ++ found_at t s (level + 1) (row_inside t s m.row.items x) (inside t x) ++ found_at t s level m.row.items (after t m)
rest-found t s level m x room is =
    let left : length t - level - 1 ≡ length t - (level + 1) = omega arith in
    ap (found_at t s level m.row.items) (drop_at (branch t (parent_of m.at)).inside (place_of m.at) x is)
    ∙ found-some t s (length t - level) m.row.items x (after t m) (omega arith)
    ∙ ap (λ l. own_hit t s m.row.items x ++ found_in t s l (row_inside t s m.row.items x) (inside t x) ++ found_at t s level m.row.items (after t m)) left

pub rest-work : (t : Tree) (level : ℕ) (m : Mark) (x : Item) → level < length t → item_at t m ≡ Some x
    → work_at t level (rest t m) ≡ work_at t (level + 1) (inside t x) + 2 + work_at t level (after t m)
rest-work t level m x room is =
    let left : length t - level - 1 ≡ length t - (level + 1) = omega arith in
    let one : work t (length t - level) (rest t m) ≡ work t (length t - level - 1) (inside t x) + 3 + work t (length t - level) (after t m) =
    ap (work t (length t - level)) (drop_at (branch t (parent_of m.at)).inside (place_of m.at) x is) ∙ work-some t (length t - level) x (after t m) (omega arith) in
    let same : work t (length t - level - 1) (inside t x) ≡ work t (length t - (level + 1)) (inside t x) = ap (λ l. work t l (inside t x)) left in
    omega arith
