-- What is laid and then settled is what the change makes of the state.
use Rattle.std.proofs.Common.{◌≡◌, ℕ, List, ◌++◌, length, map, take, drop, refl, ap, ap₂, ◌∙◌}
use Rattle.std.proofs.lemmas.List.{take_at, drop_at, length-map}
use Rattle.hp_control.specs.declared.change.Change.{Change}
use Rattle.hp_control.specs.declared.change.FormChange.{FormChange}
use Rattle.hp_control.specs.declared.change.FormChange.TheVariants.{Kept, Cleared, Own}
use Rattle.hp_control.specs.Apply.{applied, form_after, shifted, shifted_entry}
use Rattle.hp_control.specs.States.{ControlState}
use Rattle.hp_control.specs.Walks.{cleared_by}
use Rattle.hp_merge.specs.declared.parts.Parts.{Parts}
use Rattle.hp_merge.specs.Parts.{form_over, laid, settled, state_of, taken_off}

form_is : (change : FormChange) (s : ControlState) → form_over s.next change s.form ≡ form_after change s
form_is Kept s = refl
form_is Cleared s = refl
form_is (Own number) s = refl

-- the own ones first, and something of the others
own_and : {X Y : Type 0} (f : X → Y) (own : List X) (others : List Y) (rest : List Y → List Y) → take (length own) (map f own ++ others) ++ rest (drop (length own) (map f own ++ others)) ≡ map f own ++ rest others
own_and f own others rest =
    let e : length (map f own) ≡ length own = length-map own f in
    ap₂ (λ a b. a ++ rest b) (take_at (map f own) others (length own) e) (drop_at (map f own) others (length own) e)

pub settled_is : (c : Change) (p : Parts) → state_of (settled c (laid c p)) ≡ applied c (state_of p)
settled_is c p =
    rw (own_and (shifted p.next) c.stack p.stack (drop c.popped), own_and (shifted_entry p.next) c.formatting p.formatting (cleared_by c.cuts), form_is c.form (state_of p)) refl

-- a state in its parts, what was laid on them, and what comes of settling them
pub joins : (c : Change) (s : ControlState) (p q : Parts) → state_of p ≡ s → q ≡ laid c p → state_of (settled c q) ≡ applied c s
joins c s p q is laid_is = ap (λ (x : Parts). state_of (settled c x)) laid_is ∙ (settled_is c p ∙ ap (applied c) is)

-- the older elements stand below the own ones
pub older_below : (c : Change) (s : ControlState) (p q : Parts) → state_of p ≡ s → q ≡ laid c p → drop (length c.stack) q.stack ≡ s.stack
older_below c s p q is e =
    ap (λ (x : Parts). drop (length c.stack) x.stack) e ∙ (drop_at (map (shifted p.next) c.stack) p.stack (length c.stack) (length-map c.stack (shifted p.next)) ∙ ap (λ (t : ControlState). t.stack) is)

pub next_is : (c : Change) (s : ControlState) (p q : Parts) → state_of p ≡ s → q ≡ laid c p → q.next ≡ s.next
next_is c s p q is e = ap (λ (x : Parts). x.next) e ∙ ap (λ (t : ControlState). t.next) is

-- the same of a change that is that one
pub joins_so : (c d : Change) (s : ControlState) (p q r : Parts) → c ≡ d → state_of p ≡ s → q ≡ laid d p → r ≡ settled c q → state_of r ≡ applied d s
joins_so c d s p q r same is laid_is settled_so = ap state_of settled_so ∙ (ap (λ (x : Change). state_of (settled x q)) same ∙ joins d s p q is laid_is)

pub older_so : (c d : Change) (s : ControlState) (p q : Parts) (own : ℕ) → c ≡ d → own ≡ length c.stack → state_of p ≡ s → q ≡ laid d p → drop own q.stack ≡ s.stack
older_so c d s p q own same own_is is e = ap (λ (n : ℕ). drop n q.stack) (own_is ∙ ap (λ (x : Change). length x.stack) same) ∙ older_below d s p q is e

off : {X Y : Type 0} (f : X → Y) (own : List X) (others : List Y) → drop (length own) (map f own ++ others) ≡ others
off f own others = drop_at (map f own) others (length own) (length-map own f)

taken_off_is : (c : Change) (p : Parts) → taken_off c (laid c p) ≡ p
taken_off_is c p = rw (drop_at c.templates p.templates (length c.templates) refl, off (shifted p.next) c.stack p.stack, off (shifted_entry p.next) c.formatting p.formatting) refl

-- what was laid and is taken off again leaves what was there
pub kept_so : (c d : Change) (s : ControlState) (p q r : Parts) → c ≡ d → state_of p ≡ s → q ≡ laid d p → r ≡ taken_off c q → state_of r ≡ s
kept_so c d s p q r same is laid_is off_is =
    ap state_of (off_is ∙ (ap₂ (λ (x : Change) (y : Parts). taken_off x y) same laid_is ∙ taken_off_is d p)) ∙ is
