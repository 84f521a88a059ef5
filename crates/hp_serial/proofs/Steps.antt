-- The steps of the walk.
use Rattle.std.proofs.Common.{◌≡◌, ℕ, zero, suc, ◌+◌, ◌-◌, ◌<◌, ◌≤◌, List, [], ◌∷◌, ◌++◌, length, drop, get_or, arith, refl, sym, ap, subst, ◌∙◌, Some, slice_get, append_assoc, append-nil, add-one}
use Rattle.std.proofs.lemmas.Option.{slice_get-get_or, slice_get_within}
use Rattle.std.proofs.Math.Seq.{drop-cons}
use Rattle.std.specs.Prelude.{Bool, encode_utf8_all}
use Rattle.hp_control.specs.Tree.{Tree, Item, branch, IsForest}
use Rattle.hp_arena.specs.Arena.{Seen}
use Rattle.hp_arena.specs.Readers.{IsIn, parent_of, place_of}
use Rattle.hp_arena.specs.declared.readers.At.{At}
use Rattle.hp_serial.specs.declared.walk.Mark.{Mark}
use Rattle.hp_serial.specs.declared.walk.Next.TheVariants.{Whole, EndTag}
use Rattle.hp_serial.specs.Html.{html, front, back, inside, raw_inside}
use Rattle.hp_serial.specs.Walk.{html_at, item_at, after, rest, mark_text, pending, work, work_at, mark_steps, todo, IsDeep, IsMark, AreMarks, Pushed, Entered, Stepped, back_of}
use Rattle.hp_serial.proofs.Depths.{deep-room}
use Rattle.hp_serial.proofs.Joins.{written_of}

pub html-none : (t : Tree) (left : ℕ) (raw : Bool) → html t left raw [] ≡ []
unfolding html
html-none t zero raw = refl
html-none t (suc left) raw = refl

html-some : (t : Tree) (left : ℕ) (raw : Bool) (x : Item) (xs : List Item) → 0 < left
    → html t left raw (x ∷ xs) ≡ front t raw x ++ html t (left - 1) (raw_inside t x) (inside t x) ++ back t x ++ html t left raw xs
unfolding html
html-some t zero raw x xs h = absurd (omega arith)
html-some t (suc left) raw x xs h =
    let a : left ≡ suc left - 1 = omega arith in
    ap (λ l. front t raw x ++ html t l (raw_inside t x) (inside t x) ++ back t x ++ html t (suc left) raw xs) a

work-none : (t : Tree) (left : ℕ) → work t left [] ≡ 0
unfolding work
work-none t zero = refl
work-none t (suc left) = refl

work-some : (t : Tree) (left : ℕ) (x : Item) (xs : List Item) → 0 < left → work t left (x ∷ xs) ≡ work t (left - 1) (inside t x) + 3 + work t left xs
unfolding work
work-some t zero x xs h = absurd (omega arith)
work-some t (suc left) x xs h = let a : left ≡ suc left - 1 = omega arith in ap (λ l. work t l (inside t x) + 3 + work t (suc left) xs) a

-- the last mark comes first
pub pending-push : (t : Tree) (level top : ℕ) (ms : List Mark) (m : Mark) → level + length ms ≡ top → pending t level (ms ++ m ∷ []) ≡ mark_text t top m ++ pending t level ms
unfolding pending
pending-push t level top [] m e = let same : level ≡ top = omega arith in ap (λ l. mark_text t l m) same ∙ sym (append-nil (mark_text t top m))
pending-push t level top (n ∷ ms) m e =
    let next : level + 1 + length ms ≡ top = omega arith in
    ap (λ xs. xs ++ mark_text t level n) (pending-push t (level + 1) top ms m next) ∙ append_assoc (mark_text t top m) (pending t (level + 1) ms) (mark_text t level n)

pub todo-push : (t : Tree) (level top : ℕ) (ms : List Mark) (m : Mark) → level + length ms ≡ top → todo t level (ms ++ m ∷ []) ≡ todo t level ms + mark_steps t top m
unfolding todo
todo-push t level top [] m e = let same : level ≡ top = omega arith in omega (arith, ap (λ l. mark_steps t l m) same)
todo-push t level top (n ∷ ms) m e = let next : level + 1 + length ms ≡ top = omega arith in omega (arith, todo-push t (level + 1) top ms m next)

pub marks-push : (t : Seen) (level top : ℕ) (ms : List Mark) (m : Mark) → level + length ms ≡ top → AreMarks t level ms → IsMark t top m → AreMarks t level (ms ++ m ∷ [])
marks-push t level top [] m e all is = let same : top ≡ level = omega arith in (subst (λ l. IsMark t l m) same is, tt)
marks-push t level top (n ∷ ms) m e all is = let next : level + 1 + length ms ≡ top = omega arith in (all.0, marks-push t (level + 1) top ms m next all.1 is)

pub marks-pop : (t : Seen) (level : ℕ) (ms : List Mark) (m : Mark) → AreMarks t level (ms ++ m ∷ []) → AreMarks t level ms
marks-pop t level [] m all = tt
marks-pop t level (n ∷ ms) m all = (all.0, marks-pop t (level + 1) ms m all.1)

pub marks-last : (t : Seen) (level top : ℕ) (ms : List Mark) (m : Mark) → level + length ms ≡ top → AreMarks t level (ms ++ m ∷ []) → IsMark t top m
marks-last t level top [] m e all = let same : level ≡ top = omega arith in subst (λ l. IsMark t l m) same all.0
marks-last t level top (n ∷ ms) m e all = let next : level + 1 + length ms ≡ top = omega arith in marks-last t (level + 1) top ms m next all.1

-- a mark is pushed
pub pushed_one : (t : Seen) (ms new : List Mark) (m : Mark) (text : List ℕ) (steps : ℕ) → new ≡ ms ++ m ∷ [] → IsMark t (length ms) m
    → mark_text t.branches (length ms) m ≡ text → mark_steps t.branches (length ms) m ≡ steps → Pushed t ms new text steps
pushed_one t ms new m text steps e is says takes =
    let top : 0 + length ms ≡ length ms = omega arith in
    rw (e, ← says, ← takes) (record {
      text_is = pending-push t.branches 0 (length ms) ms m top;
      steps_are = omega (arith, todo-push t.branches 0 (length ms) ms m top);
      marks = λ all. marks-push t 0 (length ms) ms m top all is;
    })

-- where nothing is left, nothing is pushed
pub pushed_none : (t : Seen) (ms : List Mark) (level : ℕ) (raw : Bool) (items : List Item) → items ≡ [] → Pushed t ms ms (html_at t.branches level raw items) (work_at t.branches level items)
pushed_none t ms level raw items e =
    let none : html_at t.branches level raw items ≡ [] = ap (html_at t.branches level raw) e ∙ html-none t.branches (length t.branches - level) raw in
    record { text_is = rw none refl; steps_are = omega arith; marks = λ all. all }

-- all of the items from one on are marked
pub pushed_whole : (t : Seen) (ms new : List Mark) (level : ℕ) (raw : Bool) (items : List Item) (a : At) → new ≡ ms ++ (record { at = a; raw = raw; next = Whole }) ∷ []
    → length ms ≡ level → IsIn t (parent_of a) (place_of a) a → IsDeep t.branches level (parent_of a) → drop (place_of a) (branch t.branches (parent_of a)).inside ≡ items
    → Pushed t ms new (html_at t.branches level raw items) (work_at t.branches level items)
pushed_whole t ms new level raw items a e at_level is deep left =
    let m : Mark = record { at = a; raw = raw; next = Whole } in
    rw (← at_level, ← left) (pushed_one t ms new m (mark_text t.branches (length ms) m) (mark_steps t.branches (length ms) m) e
    (record { at = is; deep = rw at_level deep }) refl refl)

-- one after the other
pub pushed_both : (t : Seen) (a b d : List Mark) (first second text : List ℕ) (n k steps : ℕ) → Pushed t a b second n → Pushed t b d first k → text ≡ first ++ second → n + k ≤ steps → Pushed t a d text steps
pushed_both t a b d first second text n k steps p q is few = record {
  text_is = q.text_is ∙ ap (λ xs. first ++ xs) p.text_is ∙ sym (append_assoc first second (pending t.branches 0 a)) ∙ ap (λ xs. xs ++ pending t.branches 0 a) (sym is);
  steps_are = omega (arith, p.steps_are, q.steps_are);
  marks = λ all. q.marks (p.marks all);
}

-- the item at a place, and what is left after it
drop_at : (xs : List Item) (n : ℕ) (x : Item) → slice_get xs n ≡ Some x → drop n xs ≡ x ∷ drop (n + 1) xs
drop_at xs n x e =
    let h : n < length xs = slice_get_within xs n x e in
    let some : slice_get xs n ≡ Some (get_or xs n x) = slice_get-get_or xs n x h in
    let is : get_or xs n x ≡ x = cc in
    rw (add-one, drop-cons xs n x h) (ap (λ y. y ∷ drop (suc n) xs) is)

-- the text of an item with what is left after it
pub rest-text : (t : Tree) (level : ℕ) (m : Mark) (x : Item) → level < length t → item_at t m ≡ Some x
    → html_at t level m.raw (rest t m) ≡ front t m.raw x ++ html_at t (level + 1) (raw_inside t x) (inside t x) ++ back t x ++ html_at t level m.raw (after t m)
rest-text t level m x room is =
    let left : length t - level - 1 ≡ length t - (level + 1) = omega arith in
    ap (html_at t level m.raw) (drop_at (branch t (parent_of m.at)).inside (place_of m.at) x is)
    ∙ html-some t (length t - level) m.raw x (after t m) (omega arith)
    ∙ ap (λ l. front t m.raw x ++ html t l (raw_inside t x) (inside t x) ++ back t x ++ html_at t level m.raw (after t m)) left

pub rest-work : (t : Tree) (level : ℕ) (m : Mark) (x : Item) → level < length t → item_at t m ≡ Some x
    → work_at t level (rest t m) ≡ work_at t (level + 1) (inside t x) + 2 + work_at t level (after t m)
rest-work t level m x room is =
    let left : length t - level - 1 ≡ length t - (level + 1) = omega arith in
    let one : work t (length t - level) (rest t m) ≡ work t (length t - level - 1) (inside t x) + 3 + work t (length t - level) (after t m) =
    ap (work t (length t - level)) (drop_at (branch t (parent_of m.at)).inside (place_of m.at) x is) ∙ work-some t (length t - level) x (after t m) (omega arith) in
    let same : work t (length t - level - 1) (inside t x) ≡ work t (length t - (level + 1)) (inside t x) = ap (λ l. work t l (inside t x)) left in
    omega arith

four_joined : (a b d e f : List ℕ) → a ++ b ++ d ++ e ++ f ≡ a ++ (b ++ d ++ e ++ f)
four_joined a b d e f = simp append_assoc

-- an item was written up to what stands inside it, which is marked with what comes behind it
pub stepped_front : (t : Seen) (m : Mark) (x : Item) (out new_out : List ℕ) (old new : List Mark) → IsForest t.branches → IsMark t (length old) m → item_at t.branches m ≡ Some x → m.next ≡ Whole
    → new_out ≡ out ++ encode_utf8_all (front t.branches m.raw x) → Entered t m x old new → Stepped t m out new_out old new
stepped_front t m x out new_out old new f is has all wrote entered =
    let b = t.branches in
    let first = front b m.raw x in
    let inner = html_at b (length old + 1) (raw_inside b x) (inside b x) in
    let last = back b x in
    let left = html_at b (length old) m.raw (after b m) in
    let room : length old < length b = deep-room b f (length old) (parent_of m.at) is.deep in
    let text : mark_text b (length old) m ≡ html_at b (length old) m.raw (rest b m) = rw all refl in
    let steps : mark_steps b (length old) m ≡ work_at b (length old) (rest b m) = rw all refl in
    let whole : mark_text b (length old) m ++ pending b 0 old ≡ first ++ (inner ++ last ++ left ++ pending b 0 old) =
    ap (λ xs. xs ++ pending b 0 old) (text ∙ rest-text b (length old) m x room has) ∙ four_joined first inner last left (pending b 0 old) in
    record {
      text_is = written_of out new_out first (inner ++ last ++ left ++ pending b 0 old) (pending b 0 new) (mark_text b (length old) m ++ pending b 0 old) wrote entered.text_is whole;
      steps_are = omega (arith, entered.steps_are, steps, rest-work b (length old) m x room has);
      marks = entered.marks;
    }

-- the end tag was written, and what comes behind it is marked
pub stepped_back : (t : Seen) (m : Mark) (x : Item) (out new_out : List ℕ) (old new : List Mark) → item_at t.branches m ≡ Some x → m.next ≡ EndTag
    → new_out ≡ out ++ encode_utf8_all (back t.branches x) → Pushed t old new (html_at t.branches (length old) m.raw (after t.branches m)) (work_at t.branches (length old) (after t.branches m))
    → Stepped t m out new_out old new
stepped_back t m x out new_out old new has ends wrote pushed =
    let b = t.branches in
    let last = back b x in
    let left = html_at b (length old) m.raw (after b m) in
    let text : mark_text b (length old) m ≡ back_of b (item_at b m) ++ left = rw ends refl in
    let same : back_of b (item_at b m) ≡ last = ap (back_of b) has in
    let steps : mark_steps b (length old) m ≡ work_at b (length old) (after b m) + 1 = rw ends refl in
    let whole : mark_text b (length old) m ++ pending b 0 old ≡ last ++ (left ++ pending b 0 old) =
    ap (λ xs. xs ++ pending b 0 old) (text ∙ ap (λ xs. xs ++ left) same) ∙ append_assoc last left (pending b 0 old) in
    record {
      text_is = written_of out new_out last (left ++ pending b 0 old) (pending b 0 new) (mark_text b (length old) m ++ pending b 0 old) wrote pushed.text_is whole;
      steps_are = omega (arith, pushed.steps_are, steps);
      marks = pushed.marks;
    }
