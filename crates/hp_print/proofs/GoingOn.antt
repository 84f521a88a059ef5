-- A printing that goes on, and the text of a part.
use Rattle.std.proofs.Common.{◌≡◌, ℕ, ◌+◌, ◌<◌, ◌≤◌, List, [], ◌∷◌, ◌++◌, length, get_or, refl, sym, ap, ◌∙◌, append_assoc, append-nil, arith, Some}
use Rattle.std.proofs.lemmas.List.{ext_get_or}
use Rattle.std.specs.Prelude.{Bool, true, false, not}
use Rattle.std.proofs.lemmas.Bool.{true≢false}
use Rattle.hp_control.specs.Tree.{Tree, IsForest}
use Rattle.hp_arena.specs.Arena.{Seen}
use Rattle.hp_arena.specs.Readers.{parent_of}
use Rattle.hp_print.specs.declared.output.Out.{Out}
use Rattle.hp_print.specs.declared.output.Out.TheVariants.{Gathered, Failed}
use Rattle.hp_print.specs.declared.walk.Mark.{Mark}
use Rattle.hp_print.specs.declared.walk.Printing.{Printing}
use Rattle.hp_print.specs.Out.{IsEmpty, Prints, Sight, Starts, Waits}
use Rattle.hp_print.specs.Parts.{PrintsOn, has_failed}
use Rattle.hp_print.specs.Stack.{AreMarks, pending}
use Rattle.hp_print.proofs.Depths.{deep-room}
use Rattle.hp_print.proofs.Pieces.{prints_as, prints_then, prints_none}

-- there are no more marks than elements
marks-within : (t : Seen) → IsForest t.branches → (place : ℕ) (ms : List Mark) → AreMarks t place ms → place ≤ length t.branches → place + length ms ≤ length t.branches
marks-within t f place [] all low = omega arith
marks-within t f place (m ∷ ms) all low =
    let room : m.level < length t.branches = deep-room t.branches f m.level (parent_of m.at) all.0.deep in
    let at : place ≤ m.level = all.1 in
    let rest : place + 1 + length ms ≤ length t.branches = marks-within t f (place + 1) ms all.2 (omega arith) in
    omega arith

pub marks-few : (t : Seen) → IsForest t.branches → (ms : List Mark) → AreMarks t 0 ms → length ms ≤ length t.branches
marks-few t f ms all = let few : 0 + length ms ≤ length t.branches = marks-within t f 0 ms all (omega arith) in omega arith

-- nothing is printed
pub on_none : (t : Tree) (p : Printing) (s : Sight) → PrintsOn t p p s s
on_none t p s = record { piece = []; printed = prints_none p.out s; rest = refl }

-- two pieces are one
pub on_then : (t : Tree) (p q r : Printing) (s u v : Sight) → PrintsOn t p q s u → PrintsOn t q r u v → PrintsOn t p r s v
on_then t p q r s u v first second = record {
  piece = first.piece ++ second.piece;
  printed = prints_then p.out q.out r.out s u v first.piece second.piece first.printed second.printed;
  rest = append_assoc first.piece second.piece (pending t r.marks.items) ∙ ap (λ xs. first.piece ++ xs) second.rest ∙ first.rest;
}

-- where nothing is left, all that was to come is printed
pub on_all : (t : Tree) (p q : Printing) (s u : Sight) → PrintsOn t p q s u → q.marks.items ≡ [] → Prints p.out q.out s u (pending t p.marks.items)
unfolding pending
on_all t p q s u on none =
    prints_as p.out q.out s u on.piece (pending t p.marks.items) on.printed (sym (append-nil on.piece) ∙ ap (λ ms. on.piece ++ pending t ms) (sym none) ∙ on.rest)

some-same : (xs ys : List ℕ) → Some xs ≡ Some ys → xs ≡ ys
some-same xs ys e = cc e

-- all that was printed since the start is in the text
waits-text : (gathered : List ℕ) (written faults later : ℕ) (before text piece : List ℕ) → before ≡ [] → gathered ≡ [] → Waits (Some before, faults) (Some text, later) gathered written ([] ++ piece) → piece ≡ text
waits-text gathered written faults later before text piece new empty waits =
    let gone : text ≡ before ++ waits.gone = some-same text (before ++ waits.gone) waits.taken in
    let all : text ≡ waits.gone = gone ∙ ap (λ xs. xs ++ waits.gone) new in
    sym waits.whole ∙ ap (λ xs. waits.gone ++ xs) empty ∙ append-nil waits.gone ∙ sym all

printed-text : (a b : Out) (faults later : ℕ) (before text piece : List ℕ) → before ≡ [] → Starts a → Prints a b (Some before, faults) (Some text, later) piece → IsEmpty b → has_failed b ≡ false → piece ≡ text
printed-text a (Gathered gathered written) faults later before text piece new starts prints empty whole =
    waits-text gathered written faults later before text piece new empty (prints.after (Some before, faults) [] (starts (Some before, faults)))
printed-text a (Failed taken) faults later before text piece new starts prints empty whole = absurd (true≢false whole)

-- what a part printed is its text
pub part-text : (t : Tree) (p q : Printing) (b : Out) (faults mid later : ℕ) (before between text : List ℕ) (start : List Mark) → before ≡ [] → Starts p.out
    → PrintsOn t p q (Some before, faults) (Some between, mid) → Prints q.out b (Some between, mid) (Some text, later) [] → IsEmpty b → has_failed b ≡ false → p.marks.items ≡ start
    → pending t start ≡ text ++ pending t q.marks.items
part-text t p q b faults mid later before between text start new starts on flushed empty whole from =
    let both = prints_then p.out q.out b (Some before, faults) (Some between, mid) (Some text, later) on.piece [] on.printed flushed in
    let same : on.piece ++ [] ≡ text = printed-text p.out b faults later before text (on.piece ++ []) new starts both empty whole in
    ap (pending t) (sym from) ∙ sym on.rest ∙ ap (λ xs. xs ++ pending t q.marks.items) (sym (append-nil on.piece) ∙ same)

pub not-true : (b : Bool) → not b ≡ true → b ≡ false
not-true true e = sym e
not-true false e = refl

-- a part that begins where the printing stands is taken
pub on_part : (t : Tree) (p q : Printing) (s u : Sight) (text : List ℕ) (start left : List Mark) → Prints p.out q.out s u text → pending t start ≡ text ++ pending t left → p.marks.items ≡ start → q.marks.items ≡ left → PrintsOn t p q s u
on_part t p q s u text start left printed is from to = record {
  piece = text;
  printed = printed;
  rest = ap (λ ms. text ++ pending t ms) to ∙ sym is ∙ ap (pending t) (sym from);
}

-- marks that are the same at each place
pub same-marks : (xs ys : List Mark) → length xs ≡ length ys → ((i : ℕ) (d : Mark) → i < length xs → get_or xs i d ≡ get_or ys i d) → xs ≡ ys
same-marks [] [] e h = refl
same-marks [] (y ∷ ys) e h = absurd (omega arith)
same-marks (x ∷ xs) [] e h = absurd (omega arith)
same-marks (x ∷ xs) (y ∷ ys) e h = ext_get_or x (x ∷ xs) (y ∷ ys) e (λ i below. h i x below)
