-- What is marked behind the front of an item, and the walk from the first mark to none.
use Rattle.std.proofs.Common.{◌≡◌, ℕ, ◌+◌, ◌-◌, ◌<◌, List, [], ◌∷◌, ◌++◌, length, arith, refl, sym, ap, ◌∙◌, Some, append_assoc, append-nil, add-one, length-append}
use Rattle.std.specs.Prelude.{false, encode_utf8_all}
use Rattle.std.proofs.lemmas.Bool.{cond-false}
use Rattle.hp_elements.specs.declared.tag.Tag.{Tag}
use Rattle.hp_control.specs.Tree.{Tree, Item, branch, HasChild, IsForest}
use Rattle.hp_control.specs.Tree as item
use Rattle.hp_arena.specs.Arena.{Seen}
use Rattle.hp_arena.specs.Readers.{parent_of, place_of}
use Rattle.hp_serial.specs.declared.walk.Mark.{Mark}
use Rattle.hp_serial.specs.declared.walk.Next.TheVariants.{EndTag}
use Rattle.hp_serial.specs.Html.{html, html_of, back, inside, is_void, raw_inside, keeps_raw, keeps_raw_in, written_inside}
use Rattle.hp_serial.specs.Walk.{html_at, item_at, after, mark_steps, back_of, pending, work_at, todo, whole, IsDeep, IsMark, AreMarks, Pushed, Entered, Stepped}
use Rattle.hp_serial.proofs.Steps.{html-none, pushed_one, pushed_both, marks-last, marks-pop, pending-push, todo-push}

-- nothing stands inside the item: what is left of its list is marked
pub entered_empty : (t : Seen) (m : Mark) (x : Item) (old new : List Mark) → (inside t.branches x ≡ []) × (back t.branches x ≡ [])
    → Pushed t old new (html_at t.branches (length old) m.raw (after t.branches m)) (work_at t.branches (length old) (after t.branches m)) → Entered t m x old new
entered_empty t m x old new none p =
    let b = t.branches in
    let left = html_at b (length old) m.raw (after b m) in
    let nothing : html_at b (length old + 1) (raw_inside b x) (inside b x) ≡ [] =
    ap (html_at b (length old + 1) (raw_inside b x)) none.0 ∙ html-none b (length b - (length old + 1)) (raw_inside b x) in
    let all : html_at b (length old + 1) (raw_inside b x) (inside b x) ++ back b x ++ left ≡ left = rw (nothing, none.1) refl in
    record {
      text_is = p.text_is ∙ ap (λ xs. xs ++ pending b 0 old) (sym all);
      steps_are = omega (arith, p.steps_are);
      marks = p.marks;
    }

-- the end tag of an element is marked
abbrev pub at_end : Mark → Mark
at_end m = record { at = m.at; raw = m.raw; next = EndTag }

end_pushed : (t : Seen) (m : Mark) (x : Item) (old mid : List Mark) → mid ≡ old ++ at_end m ∷ [] → IsMark t (length old) m → item_at t.branches m ≡ Some x
    → Pushed t old mid (back t.branches x ++ html_at t.branches (length old) m.raw (after t.branches m)) (work_at t.branches (length old) (after t.branches m) + 1)
end_pushed t m x old mid e is item =
    let b = t.branches in
    pushed_one t old mid (at_end m) _ _ e (record { at = is.at; deep = is.deep }) (ap (λ o. back_of b o ++ html_at b (length old) m.raw (after b m)) item) refl

-- what stands inside an element is marked too
pub entered_element : (t : Seen) (m : Mark) (id : ℕ) (tag : Tag) (x : Item) (old mid new : List Mark) → mid ≡ old ++ at_end m ∷ [] → IsMark t (length old) m
    → item_at t.branches m ≡ Some x → item.Element id ≡ x → (branch t.branches id).tag ≡ Some tag → is_void tag ≡ false
    → Pushed t mid new (html_at t.branches (length mid) (keeps_raw tag) (branch t.branches id).inside) (work_at t.branches (length mid) (branch t.branches id).inside) → Entered t m x old new
entered_element t m id tag x old mid new e is has same tagged closes p =
    let b = t.branches in
    let level : length mid ≡ length old + 1 = ap length e ∙ length-append old (at_end m ∷ []) in
    let raw : raw_inside b x ≡ keeps_raw tag = rw (← same) (ap keeps_raw_in tagged) in
    let items : inside b x ≡ (branch b id).inside = rw (← same) (ap (λ o. written_inside o (branch b id).inside) tagged ∙ cond-false (is_void tag) [] (branch b id).inside closes) in
    let text : html_at b (length old + 1) (raw_inside b x) (inside b x) ≡ html_at b (length mid) (keeps_raw tag) (branch b id).inside =
    ap (λ r. html_at b (length old + 1) r (inside b x)) raw ∙ ap (html_at b (length old + 1) (keeps_raw tag)) items ∙ ap (λ l. html_at b l (keeps_raw tag) (branch b id).inside) (sym level) in
    let steps : work_at b (length old + 1) (inside b x) ≡ work_at b (length mid) (branch b id).inside =
    ap (work_at b (length old + 1)) items ∙ ap (λ l. work_at b l (branch b id).inside) (sym level) in
    pushed_both t old mid new (html_at b (length mid) (keeps_raw tag) (branch b id).inside) (back b x ++ html_at b (length old) m.raw (after b m)) _ _ _ _
    (end_pushed t m x old mid e is has) p (ap (λ xs. xs ++ back b x ++ html_at b (length old) m.raw (after b m)) text ∙ append_assoc _ (back b x) (html_at b (length old) m.raw (after b m))) (omega (arith, steps))

-- an item is one element below its list
pub child_deep : (t : Tree) (m : Mark) (level id : ℕ) → item_at t m ≡ Some (item.Element id) → IsDeep t level (parent_of m.at) → IsDeep t (level + 1) id
child_deep t m level id has deep = rw add-one ((parent_of m.at), (place_of m.at), (has, deep))

pub mid_deep : (t : Tree) (m : Mark) (id : ℕ) (old mid : List Mark) → mid ≡ old ++ at_end m ∷ [] → item_at t m ≡ Some (item.Element id) → IsDeep t (length old) (parent_of m.at) → IsDeep t (length mid) id
mid_deep t m id old mid e has deep =
    let level : length mid ≡ length old + 1 = ap length e ∙ length-append old (at_end m ∷ []) in
    rw level (child_deep t m (length old) id has deep)

-- before the first item nothing is written
pub whole_first : (t : Seen) (out : List ℕ) (ms new : List Mark) → out ≡ [] → ms ≡ []
    → Pushed t ms new (html_at t.branches (length ms) false (branch t.branches 0).inside) (work_at t.branches (length ms) (branch t.branches 0).inside)
    → AreMarks t 0 new × (whole t.branches out new ≡ encode_utf8_all (html_of t.branches))
unfolding pending
whole_first t out [] new none e p =
    let b = t.branches in
    let all : length b - 0 ≡ length b = omega arith in (
      p.marks tt,
      ap (λ xs. xs ++ encode_utf8_all (pending b 0 new)) none ∙ ap encode_utf8_all (p.text_is ∙ append-nil _ ∙ ap (λ l. html b l false (branch b 0).inside) all),
    )
whole_first t out (m ∷ ms) new none e p = cc e

-- the last mark is taken, and a step is made there
pub whole_step : (t : Seen) (m : Mark) (out new_out : List ℕ) (ms old new : List Mark) (text : List ℕ) → ms ≡ old ++ m ∷ [] → AreMarks t 0 ms → whole t.branches out ms ≡ text
    → Stepped t m out new_out old new → AreMarks t 0 new × (whole t.branches new_out new ≡ text) × (todo t.branches 0 new < todo t.branches 0 ms)
whole_step t m out new_out ms old new text e all so_far s =
    let b = t.branches in
    let top : 0 + length old ≡ length old = omega arith in
    let marks : AreMarks t 0 (old ++ m ∷ []) = rw e at all in
    let more : todo b 0 ms ≡ todo b 0 old + mark_steps b (length old) m = ap (todo b 0) e ∙ todo-push b 0 (length old) old m top in (
      s.marks (marks-pop t 0 old m marks),
      s.text_is ∙ ap (λ xs. out ++ encode_utf8_all xs) (sym (ap (pending b 0) e ∙ pending-push b 0 (length old) old m top)) ∙ so_far,
      omega (arith, s.steps_are, more),
    )

pub last_mark : (t : Seen) (ms old : List Mark) (m : Mark) → ms ≡ old ++ m ∷ [] → AreMarks t 0 ms → IsMark t (length old) m
last_mark t ms old m e all =
    let top : 0 + length old ≡ length old = omega arith in
    let marks : AreMarks t 0 (old ++ m ∷ []) = rw e at all in marks-last t 0 (length old) old m top marks

-- where no mark is left, all is written
pub whole_end : (t : Tree) (out text : List ℕ) (ms : List Mark) → length ms ≡ 0 → whole t out ms ≡ text → out ≡ text
unfolding pending
whole_end t out text [] e so_far = sym (append-nil out) ∙ so_far
whole_end t out text (m ∷ ms) e so_far = absurd (omega arith)
