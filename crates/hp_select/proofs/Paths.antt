-- Rows say which chains have come how far along a path.
use Rattle.std.proofs.Common.{◌≡◌, ℕ, zero, suc, List, [], ◌∷◌, ◌++◌, length, map, ◌-◌, arith, refl, sym, ap, ◌∙◌}
use Rattle.std.specs.Prelude.{Bool, true, false, ◌&&◌, ◌||◌, Option, None, Some, filter, if◌then◌else◌}
use Rattle.std.proofs.lemmas.List.{map-append}
use Rattle.std.proofs.lemmas.List.Elements.{filter-append}
use Rattle.hp_elements.specs.declared.tag.Tag.{Tag}
use Rattle.hp_control.specs.Tree.{Tree, Item, branch}
use Rattle.hp_control.specs.Tree as item
use Rattle.hp_arena.specs.Readers.{is_template}
use Rattle.hp_select.specs.declared.rows.Reach.{Reach}
use Rattle.hp_select.specs.declared.rows.Reach.TheVariants.{Nowhere, Above, Here}
use Rattle.hp_select.specs.declared.selector.Combinator.{Combinator}
use Rattle.hp_select.specs.declared.selector.Combinator.TheVariants.{Begin, Descendant, Child}
use Rattle.hp_select.specs.declared.selector.Step.{Step}
use Rattle.hp_select.specs.Matching.{any_from, ends_at, is_compound, is_end, is_tied, matches, matches_behind}
use Rattle.hp_select.specs.Rows.{is_here, is_open, is_reached, is_selected, no_row, reach_below, reach_of, row_behind, row_below, row_of}
use Rattle.hp_select.specs.Selected.{Placed, above_inside, elements_in, inside, own, path_inside, placed, selected}
use Rattle.hp_select.specs.Walk.{found_at, found_in, hit, inner_row, own_hit, row_in, row_inside}

none-above : (path : List Tag) → any_from (ends_at []) path ≡ false
none-above [] = refl
none-above (tag ∷ above) = none-above above

-- nothing comes before the first step
reach-first : (path : List Tag) → reach_of [] path ≡ Nowhere
reach-first [] = refl
reach-first (tag ∷ above) = ap (λ b. if b then Above else Nowhere) (none-above above)

ends-nowhere : (chain : List Step) → ends_at chain [] ≡ false
ends-nowhere [] = refl
ends-nowhere (step ∷ before) = refl

here-if : (a b : Bool) → is_here (if a then Here else if b then Above else Nowhere) ≡ a
here-if true b = refl
here-if false true = refl
here-if false false = refl

reached-if : (a b : Bool) → is_reached (if a then Here else if b then Above else Nowhere) ≡ (a || b)
reached-if true b = refl
reached-if false true = refl
reached-if false false = refl

here-is : (chain : List Step) (path : List Tag) → is_here (reach_of chain path) ≡ ends_at chain path
here-is chain [] = sym (ends-nowhere chain)
here-is chain (tag ∷ above) = here-if (ends_at chain (tag ∷ above)) (any_from (ends_at chain) above)

reached-is : (chain : List Step) (path : List Tag) → is_reached (reach_of chain path) ≡ any_from (ends_at chain) path
reached-is chain [] = refl
reached-is chain (tag ∷ above) = reached-if (ends_at chain (tag ∷ above)) (any_from (ends_at chain) above)

open-is : (combinator : Combinator) (before : List Step) (above : List Tag) → is_open combinator (reach_of before above) ≡ is_tied combinator (ends_at before above) (any_from (ends_at before) above)
open-is Begin before above = refl
open-is Child before above = here-is before above
open-is Descendant before above = reached-is before above

-- a step's entry
entry-is : (tag : Tag) (above : List Tag) (step : Step) (before : List Step)
    → reach_below (is_compound tag step.compound && is_open step.combinator (reach_of before above)) (reach_of (step ∷ before) above) ≡ reach_of (step ∷ before) (tag ∷ above)
entry-is tag above step before =
    ap (λ b. reach_below (is_compound tag step.compound && b) (reach_of (step ∷ before) above)) (open-is step.combinator before above)
    ∙ ap (λ b. if ends_at (step ∷ before) (tag ∷ above) then Here else if b then Above else Nowhere) (reached-is (step ∷ before) above)

-- the row below an element, where the row above it is that of its ancestors
row-behind : (tag : Tag) (above : List Tag) (before steps : List Step) → row_behind tag (reach_of before above) steps (row_of before steps above) ≡ row_of before steps (tag ∷ above)
row-behind tag above before [] = refl
row-behind tag above before (step ∷ steps) =
    ap (λ e. e ∷ row_behind tag (reach_of (step ∷ before) above) steps (row_of (step ∷ before) steps above)) (entry-is tag above step before)
    ∙ ap (λ row. reach_of (step ∷ before) (tag ∷ above) ∷ row) (row-behind tag above (step ∷ before) steps)

row-below : (tag : Tag) (above : List Tag) (s : List Step) → row_below tag s (row_of [] s above) ≡ row_of [] s (tag ∷ above)
row-below tag above s = ap (λ e. row_behind tag e s (row_of [] s above)) (sym (reach-first above)) ∙ row-behind tag above [] s

row-none : (before steps : List Step) → row_of before steps [] ≡ no_row steps
row-none before [] = refl
row-none before (step ∷ steps) = ap (λ row. Nowhere ∷ row) (row-none (step ∷ before) steps)

selected-is : (before steps : List Step) (path : List Tag) → is_selected steps (row_of before steps path) ≡ matches_behind before steps path
selected-is before [] path = refl
selected-is before (step ∷ steps) path =
    ap (λ b. (is_end steps && b) || is_selected steps (row_of (step ∷ before) steps path)) (here-is (step ∷ before) path)
    ∙ ap (λ b. (is_end steps && ends_at (step ∷ before) path) || b) (selected-is (step ∷ before) steps path)

-- the ids of the elements that a selector matches
ids : List Step → List Placed → List ℕ
ids s es = map (λ (e : Placed). e.id) (filter (λ (e : Placed). matches s e.path) es)

ids-append : (s : List Step) (a b : List Placed) → ids s (a ++ b) ≡ ids s a ++ ids s b
unfolding ids
ids-append s a b =
    ap (map (λ (e : Placed). e.id)) (filter-append (λ (e : Placed). matches s e.path) a b)
    ∙ map-append (λ (e : Placed). e.id) (filter (λ (e : Placed). matches s e.path) a) (filter (λ (e : Placed). matches s e.path) b)

one-if : (b : Bool) (e : Placed) → map (λ (e : Placed). e.id) (if b then e ∷ [] else []) ≡ (if b then e.id ∷ [] else [])
one-if true e = refl
one-if false e = refl

hit-is : (s : List Step) (above : List Tag) (id : ℕ) (tag : Option Tag) → hit s (row_of [] s above) id tag ≡ ids s (placed id above tag)
unfolding ids
hit-is s above id None = refl
hit-is s above id (Some tag) =
    ap (λ row. if is_selected s row then id ∷ [] else []) (row-below tag above s)
    ∙ ap (λ b. if b then id ∷ [] else []) (selected-is [] s (tag ∷ above))
    ∙ sym (one-if (matches s (tag ∷ above)) (record { id = id; path = tag ∷ above }))

own-is : (t : Tree) (s : List Step) (above : List Tag) (x : Item) → own_hit t s (row_of [] s above) x ≡ ids s (own t above x)
unfolding ids
own-is t s above (item.Element id) = hit-is s above id (branch t id).tag
own-is t s above (item.Text text) = refl
own-is t s above (item.Comment text) = refl
own-is t s above (item.Doctype name public system) = refl

row_if : (s : List Step) (b : Bool) (path : List Tag) → (if b then no_row s else row_of [] s path) ≡ row_of [] s (if b then [] else path)
row_if s true path = sym (row-none [] s)
row_if s false path = refl

row-in : (s : List Step) (above : List Tag) (tag : Option Tag) → row_in s (row_of [] s above) tag ≡ row_of [] s (path_inside above tag)
row-in s above None = refl
row-in s above (Some tag) = ap (inner_row s tag) (row-below tag above s) ∙ row_if s (is_template tag) (tag ∷ above)

row-inside : (t : Tree) (s : List Step) (above : List Tag) (x : Item) → row_inside t s (row_of [] s above) x ≡ row_of [] s (above_inside t above x)
row-inside t s above (item.Element id) = row-in s above (branch t id).tag
row-inside t s above (item.Text text) = refl
row-inside t s above (item.Comment text) = refl
row-inside t s above (item.Doctype name public system) = refl

-- what is found below the row of a path are the elements that the selector matches
found-is : (t : Tree) (s : List Step) (left : ℕ) (above : List Tag) (items : List Item) → found_in t s left (row_of [] s above) items ≡ ids s (elements_in t left above items)
unfolding found_in elements_in ids
found-is t s zero above items = refl
found-is t s (suc left) above [] = refl
found-is t s (suc left) above (x ∷ xs) =
    let first = own t above x in
    let deeper = elements_in t left (above_inside t above x) (inside t x) in
    let others = elements_in t (suc left) above xs in
    ap (λ i. i ++ found_in t s left (row_inside t s (row_of [] s above) x) (inside t x) ++ found_in t s (suc left) (row_of [] s above) xs) (own-is t s above x)
    ∙ ap (λ row. ids s first ++ found_in t s left row (inside t x) ++ found_in t s (suc left) (row_of [] s above) xs) (row-inside t s above x)
    ∙ ap (λ i. ids s first ++ i ++ found_in t s (suc left) (row_of [] s above) xs) (found-is t s left (above_inside t above x) (inside t x))
    ∙ ap (λ i. ids s first ++ ids s deeper ++ i) (found-is t s (suc left) above xs)
    ∙ ap (λ i. i ++ ids s others) (sym (ids-append s first deeper))
    ∙ sym (ids-append s (first ++ deeper) others)

pub found_selected : (t : Tree) (s : List Step) → found_at t s 0 (no_row s) (branch t 0).inside ≡ selected t s
unfolding ids
found_selected t s =
    let all : length t - 0 ≡ length t = omega arith in
    ap (λ n. found_in t s n (no_row s) (branch t 0).inside) all
    ∙ ap (λ row. found_in t s (length t) row (branch t 0).inside) (sym (row-none [] s)) ∙ found-is t s (length t) [] (branch t 0).inside

pub length-no_row : (s : List Step) → length (no_row s) ≡ length s
length-no_row [] = refl
length-no_row (step ∷ steps) = ap suc (length-no_row steps)

length-row_behind : (tag : Tag) (before : Reach) (s : List Step) (row : List Reach) → length row ≡ length s → length (row_behind tag before s row) ≡ length s
length-row_behind tag before [] row e = refl
length-row_behind tag before (step ∷ s) [] e = absurd (omega arith)
length-row_behind tag before (step ∷ s) (reach ∷ row) e = ap suc (length-row_behind tag reach s row (omega arith))

pub length-row_below : (tag : Tag) (s : List Step) (row above : List Reach) → row ≡ row_below tag s above → length above ≡ length s → length row ≡ length s
length-row_below tag s row above e fits = ap length e ∙ length-row_behind tag Nowhere s above fits

inner_if : (s : List Step) (row : List Reach) (b : Bool) → length row ≡ length s → length (if b then no_row s else row) ≡ length s
inner_if s row true fits = length-no_row s
inner_if s row false fits = fits

pub length-inner_row : (tag : Tag) (s : List Step) (row inner : List Reach) → inner ≡ inner_row s tag row → length row ≡ length s → length inner ≡ length s
length-inner_row tag s row inner e fits = ap length e ∙ inner_if s row (is_template tag) fits
