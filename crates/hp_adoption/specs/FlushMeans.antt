-- Pending characters put as one text: what each makes of a state one after the other, all together make (13.2.6.4.10).
use Rattle.std.specs.Prelude.{◌≡◌, ℕ, zero, suc, ◌&&◌, ◌||◌, Bool, true, false, if◌then◌else◌, List, [], ◌∷◌, ◌++◌, Option, Some, drop, map, slice_get, refl}
use Rattle.std.specs.List.{list_all}
use Rattle.std.specs.Option.{is_some, option_map}
use Rattle.std.proofs.Common.{ap, sym, subst, ◌∙◌, append-nil, append_assoc}
use Rattle.std.proofs.lemmas.Bool.{eq-eqb}
use Rattle.std.proofs.Math.Bool.{or_assoc}
use Rattle.hp_elements.specs.declared.tag.Tag.{Tag}
use Rattle.hp_control.specs.declared.edit.Child.TheVariants as child
use Rattle.hp_control.specs.declared.edit.Edit.{Edit}
use Rattle.hp_control.specs.declared.edit.Edit.TheVariants.{Put}
use Rattle.hp_control.specs.declared.edit.Place.{Place}
use Rattle.hp_control.specs.declared.element.OpenElement.{OpenElement}
use Rattle.hp_control.specs.declared.element.FormattingEntry.{FormattingEntry}
use Rattle.hp_control.specs.declared.element.FormattingEntry.TheVariants.{Marker, Element}
use Rattle.hp_control.specs.Acts.{place, put_here, frameset_not_ok, empty_pending, insert}
use Rattle.hp_control.specs.Adoption.{spliced, stale, relist, renew_entry, renew_down, reconstruct}
use Rattle.hp_control.specs.Composed.{is_white, foster_characters, put_characters}
use Rattle.hp_control.specs.Outcome.{Outcome, becomes, after, and_then, nothing_done}
use Rattle.hp_control.specs.States.{ControlState}
use Rattle.hp_control.specs.Walks.{open_at}
use Rattle.hp_groves.specs.Joining.{JoinTexts, Same, Join, Back, Through}
use Rattle.hp_groves.proofs.Joined.{one_by_one-join}
use Rattle.hp_adoption.specs.FlushActs.{foster_whole, whole_by, put_whole, MeansAs, FlushesAtOnce}

-- one code point after the other
abbrev letters : Place → List ℕ → List Edit
letters p text = map (λ c. Put (child.Text (c ∷ [])) p) text

letters-behind : (p : Place) (a cs : List ℕ) → JoinTexts (Put (child.Text a) p ∷ letters p cs) (Put (child.Text (a ++ cs)) p ∷ [])
letters-behind p a [] = subst (λ text. JoinTexts (Put (child.Text a) p ∷ []) (Put (child.Text text) p ∷ [])) (sym (append-nil a)) (Same (Put (child.Text a) p ∷ []))
letters-behind p a (c ∷ cs) =
    subst (λ text. JoinTexts (Put (child.Text a) p ∷ letters p (c ∷ cs)) (Put (child.Text text) p ∷ [])) (append_assoc a (c ∷ []) cs)
    (Through _ _ _ (Join p a (c ∷ []) (letters p cs)) (letters-behind p (a ++ c ∷ []) cs))

-- A text's code points, one after the other in one place, join to that text, where it has any.
letters-join : (p : Place) (c : ℕ) (cs : List ℕ) → JoinTexts (Put (child.Text (c ∷ cs)) p ∷ []) (letters p (c ∷ cs))
letters-join p c cs = Back _ _ (letters-behind p (c ∷ []) cs)

-- the first so many entries are elements
abbrev AreElements : ℕ → List FormattingEntry → Type 0
AreElements zero es = Unit {0}
AreElements (suc n) [] = ⊥
AreElements (suc n) (Marker ∷ es) = ⊥
AreElements (suc n) (Element id tag ∷ es) = AreElements n es

stale_elements : (stack : List OpenElement) (es : List FormattingEntry) → AreElements (stale stack es) es
stale_elements stack [] = tt
stale_elements stack (Marker ∷ es) = tt
stale_elements stack (Element id tag ∷ es) =
    elim (is_some (open_at id stack)) as (λ b. AreElements (if b then 0 else suc (stale stack es)) (Element id tag ∷ es)) [
      | true ↦ tt
      | false ↦ stale_elements stack es
    ]

-- the entry below them may change
relisted_elements : (n : ℕ) (x : FormattingEntry) (es : List FormattingEntry) → AreElements n es → AreElements n (spliced n 1 (x ∷ []) es)
relisted_elements zero x es h = tt
relisted_elements (suc n) x [] h = absurd h
relisted_elements (suc n) x (Marker ∷ es) h = absurd h
relisted_elements (suc n) x (Element id tag ∷ es) h = relisted_elements n x es h

fewer_elements : (n : ℕ) (es : List FormattingEntry) → AreElements (suc n) es → AreElements n es
fewer_elements zero es h = tt
fewer_elements (suc n) [] h = absurd h
fewer_elements (suc n) (Marker ∷ es) h = absurd h
fewer_elements (suc n) (Element id tag ∷ es) h = fewer_elements n es h

record ElementAt (n : ℕ) (es : List FormattingEntry) : Type 0 where
  id : ℕ
  tag : Tag
  there : slice_get es n ≡ Some (Element id tag)

element_at : (n : ℕ) (es : List FormattingEntry) → AreElements (suc n) es → ElementAt n es
element_at n [] h = absurd h
element_at n (Marker ∷ es) h = absurd h
element_at zero (Element id tag ∷ es) h = record { id = id; tag = tag; there = refl }
element_at (suc n) (Element id tag ∷ es) h = let r = element_at n es h in record { id = r.id; tag = r.tag; there = r.there }

-- nothing is to be reconstructed
abbrev IsSettled : ControlState → Type 0
IsSettled c = stale c.stack c.formatting ≡ 0

abbrev renewed_by : ℕ → ℕ → Tag → ControlState → Outcome
renewed_by depth id tag c = and_then (relist depth id tag) (insert true tag) c

-- the topmost entry is that of the current node
top_settled : (id : ℕ) (tag : Tag) (c : ControlState) → IsSettled (renewed_by 0 id tag c).control
top_settled id tag c =
    ap (λ b. if is_some (if b then Some 0 else option_map suc (open_at c.next c.stack)) then 0 else suc (stale (renewed_by 0 id tag c).control.stack (drop 1 c.formatting))) (eq-eqb c.next c.next refl)

-- the last entry that is made anew is the topmost
down_settles : (m : ℕ) (c : ControlState) → AreElements (suc m) c.formatting → IsSettled (renew_down true (suc m) c).control
down_settles zero c h =
    let e = element_at 0 c.formatting h in
    let P : Option FormattingEntry → Type 0 = λ o. IsSettled (renew_entry true o 0 c).control in
    subst P (sym e.there) (top_settled e.id e.tag c)
down_settles (suc m) c h =
    let e = element_at (suc m) c.formatting h in
    let P : Option FormattingEntry → Type 0 = λ o. IsSettled (renew_down true (suc m) (renew_entry true o (suc m) c).control).control in
    subst P (sym e.there) (down_settles m (renewed_by (suc m) e.id e.tag c).control (relisted_elements (suc m) (Element c.next e.tag) c.formatting (fewer_elements (suc m) c.formatting h)))

settled_by : (n : ℕ) (c : ControlState) → stale c.stack c.formatting ≡ n → IsSettled (renew_down true n c).control
settled_by zero c e = e
settled_by (suc m) c e = down_settles m c (let P : ℕ → Type 0 = λ k. AreElements k c.formatting in subst P e (stale_elements c.stack c.formatting))

-- after a reconstruction a second one does nothing
reconstructed : (c : ControlState) → IsSettled (reconstruct true c).control
reconstructed c = settled_by (stale c.stack c.formatting) c refl

nothing_anew : (c : ControlState) → IsSettled c → reconstruct true c ≡ becomes c
nothing_anew c h = ap (λ n. renew_down true n c) h

-- white characters, one after the other
abbrev put_so : List ℕ → ControlState → Outcome
put_so cs c = record { control = c; edits = letters (place false c.stack) cs; touched = []; spared = false }

put_each : (cs : List ℕ) (c : ControlState) → put_characters cs c ≡ put_so cs c
put_each [] c = refl
put_each (x ∷ cs) c = ap (λ o. after (put_here false (child.Text (x ∷ [])) c) o) (put_each cs c)

-- others, where nothing is to be reconstructed
abbrev frameset_after : List ℕ → Bool → Bool
frameset_after [] ok = ok
frameset_after (x ∷ cs) ok = frameset_after cs (if is_white x then ok else false)

abbrev foster_so : List ℕ → ControlState → Outcome
foster_so cs c = record { control = record c { frameset_ok = frameset_after cs c.frameset_ok }; edits = letters (place true c.stack) cs; touched = []; spared = false }

abbrev one_put : Bool → ℕ → ControlState → Outcome
one_put white x c = and_then (put_here true (child.Text (x ∷ []))) (if white then nothing_done else frameset_not_ok) c

abbrev then_one : ℕ → List ℕ → Outcome → Outcome
then_one x cs o =
    let p = after o (one_put (is_white x) x o.control) in
    after p (foster_characters cs p.control)

foster_each : (cs : List ℕ) (c : ControlState) → IsSettled c → foster_characters cs c ≡ foster_so cs c
foster_each [] c h = refl
foster_each (x ∷ cs) c h =
    ap (then_one x cs) (nothing_anew c h)
    ∙ elim (is_white x) as (λ b. after (one_put b x c) (foster_characters cs (one_put b x c).control) ≡ record { control = record c { frameset_ok = frameset_after cs (if b then c.frameset_ok else false) }; edits = letters (place true c.stack) (x ∷ cs); touched = []; spared = false }) [
      | true ↦ ap (after (one_put true x c)) (foster_each cs c h)
      | false ↦ ap (after (one_put false x c)) (foster_each cs (record c { frameset_ok = false }) h)
    ]

after_after : (o p q : Outcome) → after (after o p) q ≡ after o (after p q)
after_after o p q =
    ap (λ l. let r : Outcome = record { control = q.control; edits = l; touched = (o.touched ++ p.touched) ++ q.touched; spared = (o.spared || p.spared) || q.spared } in r) (append_assoc o.edits p.edits q.edits)
    ∙ (ap (λ l. let r : Outcome = record { control = q.control; edits = o.edits ++ (p.edits ++ q.edits); touched = l; spared = (o.spared || p.spared) || q.spared } in r) (append_assoc o.touched p.touched q.touched)
    ∙ ap (λ b. let r : Outcome = record { control = q.control; edits = o.edits ++ (p.edits ++ q.edits); touched = o.touched ++ (p.touched ++ q.touched); spared = b } in r) (or_assoc o.spared p.spared q.spared))

-- the reconstruction first, and then the characters
foster_then : (x : ℕ) (cs : List ℕ) (c : ControlState) → foster_characters (x ∷ cs) c ≡ after (reconstruct true c) (foster_characters (x ∷ cs) (reconstruct true c).control)
foster_then x cs c =
    let r = reconstruct true c in
    let d = r.control in
    let one = one_put (is_white x) x d in
    after_after r one (foster_characters cs one.control)
    ∙ sym (ap (λ o. after r (then_one x cs o)) (nothing_anew d (reconstructed c)))

off_stays : (cs : List ℕ) → frameset_after cs false ≡ false
off_stays [] = refl
off_stays (x ∷ cs) = elim (is_white x) as (λ b. frameset_after cs (if b then false else false) ≡ false) [
  | true ↦ off_stays cs
  | false ↦ off_stays cs
]

off_by : (b : Bool) (cs : List ℕ) (ok : Bool) → ((other : Bool) → list_all is_white cs ≡ false → frameset_after cs other ≡ false) → (b && list_all is_white cs) ≡ false → frameset_after cs (if b then ok else false) ≡ false
off_by true cs ok next h = next ok h
off_by false cs ok next h = off_stays cs

-- one that isn't white ends that a frameset may replace the body
mixed_off : (cs : List ℕ) (ok : Bool) → list_all is_white cs ≡ false → frameset_after cs ok ≡ false
mixed_off [] ok h = absurd (cc)
mixed_off (x ∷ cs) ok h = off_by (is_white x) cs ok (mixed_off cs) h

means_after : (o p q : Outcome) → MeansAs p q → MeansAs (after o p) (after o q)
means_after o p q m = record {
  control = m.control;
  touched = ap (λ l. o.touched ++ l) m.touched;
  spared = ap (λ b. o.spared || b) m.spared;
  edits = one_by_one-join o.edits o.edits p.edits q.edits (Same o.edits) m.edits;
}

means_told : (o p q : Outcome) → p ≡ q → MeansAs o q → MeansAs o p
means_told o p q e m = let P : Outcome → Type 0 = λ r. MeansAs o r in subst P (sym e) m

white_means : (x : ℕ) (cs : List ℕ) (c : ControlState) → MeansAs (put_here false (child.Text (x ∷ cs)) c) (put_characters (x ∷ cs) c)
white_means x cs c =
    means_told (put_here false (child.Text (x ∷ cs)) c) (put_characters (x ∷ cs) c) (put_so (x ∷ cs) c) (put_each (x ∷ cs) c)
    (record { control = refl; touched = refl; spared = refl; edits = letters-join (place false c.stack) x cs })

settled_means : (x : ℕ) (cs : List ℕ) (c : ControlState) → list_all is_white (x ∷ cs) ≡ false → IsSettled c → MeansAs (and_then (put_here true (child.Text (x ∷ cs))) frameset_not_ok c) (foster_characters (x ∷ cs) c)
settled_means x cs c w h =
    means_told (and_then (put_here true (child.Text (x ∷ cs))) frameset_not_ok c) (foster_characters (x ∷ cs) c) (foster_so (x ∷ cs) c) (foster_each (x ∷ cs) c h)
    (record {
      control = ap (λ b. record c { frameset_ok = b }) (sym (mixed_off (x ∷ cs) c.frameset_ok w));
      touched = refl;
      spared = refl;
      edits = letters-join (place true c.stack) x cs;
    })

foster_means : (x : ℕ) (cs : List ℕ) (c : ControlState) → list_all is_white (x ∷ cs) ≡ false → MeansAs (foster_whole (x ∷ cs) c) (foster_characters (x ∷ cs) c)
foster_means x cs c w =
    let r = reconstruct true c in
    let text = and_then (put_here true (child.Text (x ∷ cs))) frameset_not_ok in
    means_told (after r (text r.control)) (foster_characters (x ∷ cs) c) (after r (foster_characters (x ∷ cs) r.control)) (foster_then x cs c)
    (means_after r (text r.control) (foster_characters (x ∷ cs) r.control) (settled_means x cs r.control w (reconstructed c)))

by_means : (x : ℕ) (cs : List ℕ) (c : ControlState) (b : Bool) → list_all is_white (x ∷ cs) ≡ b → MeansAs (whole_by (x ∷ cs) b c) ((if b then put_characters (x ∷ cs) else foster_characters (x ∷ cs)) c)
by_means x cs c true e = white_means x cs c
by_means x cs c false e = foster_means x cs c e

text_means : (text : List ℕ) (c : ControlState) → MeansAs (put_whole text c) ((if list_all is_white text then put_characters text else foster_characters text) c)
text_means [] c = record { control = refl; touched = refl; spared = refl; edits = Same [] }
text_means (x ∷ cs) c = by_means x cs c (list_all is_white (x ∷ cs)) refl

pub flushes_at_once : FlushesAtOnce
flushes_at_once = λ c.
    let first = empty_pending c in
    means_after first (put_whole c.pending first.control) ((if list_all is_white c.pending then put_characters c.pending else foster_characters c.pending) first.control) (text_means c.pending first.control)
