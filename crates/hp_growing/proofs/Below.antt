-- What a fragment's edits name of what isn't own is older.
use Rattle.std.proofs.Common.{◌≡◌, ℕ, zero, suc, ◌+◌, ◌<◌, ◌≤◌, Bool, true, false, List, [], ◌∷◌, map, refl, ap, ◌∙◌, sym, subst, arith, inl, inr, slice_get}
use Rattle.std.specs.Prelude.{◌||◌, ◌⊎◌, ◌==◌, nat_lt}
use Rattle.std.specs.List.{list_all}
use Rattle.std.proofs.lemmas.Bool.{and_from, and_parts, eqb-true, leb-true, lt-ltb}
use Rattle.std.proofs.lemmas.List.Elements.{All-head, All-tail}
use Rattle.std.proofs.lemmas.List.Folds.{list_all-map}
use Rattle.hp_elements.specs.KnownNames as known
use Rattle.hp_control.specs.declared.edit.Child.TheVariants as child
use Rattle.hp_control.specs.declared.edit.Edit.{Edit}
use Rattle.hp_control.specs.declared.edit.Edit.TheVariants.{NewElement, Put, Detach, MoveChildren, AddMissing}
use Rattle.hp_control.specs.declared.edit.Place.TheVariants.{Into, Foster}
use Rattle.hp_control.specs.declared.edit.Ref.{Ref}
use Rattle.hp_control.specs.declared.edit.Ref.TheVariants.{Fixed, Older, Own}
use Rattle.hp_control.specs.declared.element.OpenElement.{OpenElement}
use Rattle.hp_control.specs.Apply.{element_id, named, named_edit}
use Rattle.hp_control.specs.States.{ControlState, is_named, is_rooted}
use Rattle.hp_control.specs.Tree.{id_of}
use Rattle.hp_groves.specs.Naming.{is_own, names_older, refs}
use Rattle.hp_groves.specs.Split.{ids, made, made_by, name_what_is_there}
use Rattle.hp_growth.specs.Marking.{is_first, name_first}
use Rattle.hp_growing.specs.Laws.{FirstIsBelow}
use Rattle.hp_growing.specs.Naming.{NamesThere}
use Rattle.hp_growing.proofs.There.{AreThere, IsThere}
use Rattle.hp_growing.proofs.Making.{Has}
use Rattle.hp_growing.proofs.Handled.{valid-has}
use Rattle.hp_growing.proofs.Places.{leads-name_there}

-- the id that a reference has over a state, and that the reference is to an own or to an older element
abbrev id_over : ControlState → Ref → ℕ
id_over s r = id_of (named s r)

abbrev is_right : ControlState → Ref → Bool
is_right s r = is_own r || nat_lt (id_over s r) s.next

all-pass : {X : Type 0} (p q : X → Bool) → ((x : X) → p x ≡ true → q x ≡ true) → (xs : List X) → list_all p xs ≡ true → list_all q xs ≡ true
all-pass p q one [] h = refl
all-pass p q one (x ∷ xs) h = let parts = and_parts (p x) (list_all p xs) h in and_from (q x) (list_all q xs) (one x parts.0) (all-pass p q one xs parts.1)

-- Where the first element is there: it has the id 1,
rooted-first : (next : ℕ) (es : List OpenElement) → is_rooted es ≡ true → AreThere next es → 1 < next
rooted-first next [] r h = absurd (cc)
rooted-first next (e ∷ []) r h =
    let one : e.id ≡ 1 = eqb-true e.id 1 (and_parts (is_named known.Html e) (e.id == 1) r).1 in
    let there : e.id < next = All-head (IsThere next) e [] h in
    omega arith
rooted-first next (e ∷ f ∷ es) r h = rooted-first next (f ∷ es) r (All-tail (IsThere next) e (f ∷ es) h)

-- and what stands at a depth of the stack is there too, or it is the document.
at-depth : (next : ℕ) (es : List OpenElement) (depth : ℕ) → 0 < next → AreThere next es → element_id (slice_get es depth) < next
at-depth next [] depth d h = d
at-depth next (e ∷ es) zero d h = All-head (IsThere next) e es h
at-depth next (e ∷ es) (suc depth) d h = at-depth next es depth d (All-tail (IsThere next) e es h)

first-right : (s : ControlState) → Has s → 1 < s.next → (r : Ref) → is_first r ≡ true → is_right s r ≡ true
first-right s has one (Fixed id) h = let low : id ≤ 1 = leb-true id 1 h in lt-ltb id s.next (omega arith)
first-right s has one (Older depth) h = lt-ltb (element_id (slice_get s.stack depth)) s.next (at-depth s.next s.stack depth has.document has.stack)
first-right s has one (Own number) h = refl

firsts-older : (s : ControlState) → Has s → 1 < s.next → (es : List Edit) → name_first es ≡ true → names_older s es ≡ true
firsts-older s has one [] h = refl
firsts-older s has one (e ∷ es) h =
    let parts = and_parts (list_all is_first (refs e)) (name_first es) h in
    and_from (list_all (is_right s) (refs e)) (names_older s es) (all-pass is_first (is_right s) (first-right s has one) (refs e) parts.0) (firsts-older s has one es parts.1)

-- where no element is made, all that is there is older
ids-over : (s : ControlState) (e : Edit) → ids (named_edit s e) ≡ map (id_over s) (refs e)
ids-over s (NewElement tag) = refl
ids-over s (Put (child.Element node) (Into parent)) = refl
ids-over s (Put (child.Element node) (Foster table above)) = refl
ids-over s (Put (child.Text text) (Into parent)) = refl
ids-over s (Put (child.Text text) (Foster table above)) = refl
ids-over s (Put (child.Comment text) (Into parent)) = refl
ids-over s (Put (child.Comment text) (Foster table above)) = refl
ids-over s (Put (child.Doctype parts) (Into parent)) = refl
ids-over s (Put (child.Doctype parts) (Foster table above)) = refl
ids-over s (Detach node) = refl
ids-over s (MoveChildren from to) = refl
ids-over s (AddMissing node more) = refl

or-right : (a b : Bool) → b ≡ true → (a || b) ≡ true
or-right true b h = refl
or-right false b h = h

edit-older : (s : ControlState) (e : Edit) → list_all (λ id. nat_lt id s.next) (ids (named_edit s e)) ≡ true → list_all (is_right s) (refs e) ≡ true
edit-older s e h =
    all-pass (λ r. nat_lt (id_over s r) s.next) (is_right s) (λ r. or-right (is_own r) (nat_lt (id_over s r) s.next)) (refs e)
    (sym (list_all-map (λ id. nat_lt id s.next) (id_over s) (refs e)) ∙ ap (list_all (λ id. nat_lt id s.next)) (sym (ids-over s e)) ∙ h)

all-older : (s : ControlState) (es : List Edit) → name_what_is_there s.next (map (named_edit s) es) ≡ true → made_by (map (named_edit s) es) ≡ 0 → names_older s es ≡ true
all-older s [] h none = refl
all-older s (e ∷ es) h none =
    let parts = and_parts (list_all (λ id. nat_lt id s.next) (ids (named_edit s e))) (name_what_is_there (s.next + made (named_edit s e)) (map (named_edit s) es)) h in
    let sum : made (named_edit s e) + made_by (map (named_edit s) es) ≡ 0 = none in
    let same : s.next + made (named_edit s e) ≡ s.next = omega arith in
    and_from (list_all (is_right s) (refs e)) (names_older s es) (edit-older s e parts.0)
    (all-older s es (subst (λ n. name_what_is_there n (map (named_edit s) es) ≡ true) same parts.1) (omega arith))

pub first-is_below : FirstIsBelow
first-is_below names text s exit es v fits run first either = record { document = has.document; older = by either }
  where
    has : Has s
    has = valid-has s v

    by : (is_rooted s.stack ≡ true) ⊎ (exit.next ≡ s.next) → names_older s es ≡ true
    by (inl rooted) = firsts-older s has (rooted-first s.next s.stack rooted has.stack) es first
    by (inr same) =
        let there : NamesThere s.next (map (named_edit s) es) exit.next = leads-name_there names text s exit (map (named_edit s) es) run v in
        let count : exit.next ≡ s.next + made_by (map (named_edit s) es) = there.counted in
        all-older s es there.named (omega arith)
