-- What acts keep of a stack: the elements that weigh, the templates, the root, and the ids.
use Rattle.std.proofs.Common.{◌≡◌, ℕ, zero, suc, ◌+◌, ◌-◌, ◌≤◌, ◌<◌, ◌==◌, List, [], ◌∷◌, ◌++◌, take, drop, length, min, Bool, true, false, not, ◌&&◌, ◌||◌, Option, Some, None, refl, sym, ap, ◌∙◌, subst, arith}
use Rattle.std.specs.Prelude.{if◌then◌else◌}
use Rattle.std.specs.Option.{option_map}
use Rattle.std.specs.List.{list_all, list_any}
use Rattle.std.specs.Str.{bytes_eq}
use Rattle.std.proofs.lemmas.Bool.{and_parts, true≢false, eqb-true}
use Rattle.hp_elements.specs.Names.{text_of, is_among, words}
use Rattle.hp_elements.specs.Sets.{Elements, in_set, is_member, members, same_namespace}
use Rattle.hp_elements.specs.KnownNames as known
use Rattle.hp_elements.specs.declared.sets.Namespace.{Namespace}
use Rattle.hp_elements.specs.declared.sets.SetName.TheVariants.{Formatting}
use Rattle.hp_elements.specs.declared.tag.Tag.{Tag}
use Rattle.hp_elements.proofs.FindLemmas.{equal_bytes}
use Rattle.hp_control.specs.declared.element.OpenElement.{OpenElement}
use Rattle.hp_control.specs.Acts.{popped_by, without, element_for}
use Rattle.hp_control.specs.States.{is_html, is_named, is_rooted, is_template}
use Rattle.hp_control.specs.Walks.{open_at}
use Rattle.hp_model.proofs.Tally.{one, tally, tally-cons, tally-yes, tally-no, tally-tail, tally-append, tally-split, tally-drop, tally-drop_more}
use Rattle.hp_model.proofs.Ids.{between, between-then}

-- the elements that the weight counts
abbrev pub counted : List (List ℕ)
counted = words "table caption colgroup tbody tfoot thead tr td th select template"

abbrev pub is_counted : OpenElement → Bool
is_counted e = is_html e && is_among counted e.name

abbrev pub has_id : ℕ → OpenElement → Bool
has_id i e = e.id == i

-- new ids are from n on and below m
pub record Keeps (n m : ℕ) (old new : List OpenElement) : Type 0 where
  pub counted : tally is_counted new ≤ tally is_counted old
  pub templates : tally is_template new ≤ tally is_template old
  pub rooted : is_rooted old ≡ true → is_rooted new ≡ true
  pub ids : (i : ℕ) → tally (has_id i) new ≤ tally (has_id i) old + between n m i

pub keeps_all : (n m : ℕ) (es : List OpenElement) → Keeps n m es es
keeps_all n m es = record { counted = omega arith; templates = omega arith; rooted = λ h. h; ids = λ i. omega arith }

pub keeps_then : (n m l : ℕ) (a b c : List OpenElement) → n ≤ m → m ≤ l → Keeps n m a b → Keeps m l b c → Keeps n l a c
keeps_then n m l a b c h k f g = record {
  counted = let d : tally is_counted b ≤ tally is_counted a = f.counted in let e : tally is_counted c ≤ tally is_counted b = g.counted in omega arith;
  templates = let d : tally is_template b ≤ tally is_template a = f.templates in let e : tally is_template c ≤ tally is_template b = g.templates in omega arith;
  rooted = λ r. g.rooted (f.rooted r);
  ids = λ i.
      let d : tally (has_id i) b ≤ tally (has_id i) a + between n m i = f.ids i in
      let e : tally (has_id i) c ≤ tally (has_id i) b + between m l i = g.ids i in
      let w : between n m i + between m l i ≤ between n l i = between-then n m l i h k in
      omega arith;
}

-- where none is tallied more often, the rest is the root
pub keeps_part : (n m : ℕ) (old new : List OpenElement) → ((p : OpenElement → Bool) → tally p new ≤ tally p old) → (is_rooted old ≡ true → is_rooted new ≡ true) → Keeps n m old new
keeps_part n m old new h r = record {
  counted = h is_counted;
  templates = h is_template;
  rooted = r;
  ids = λ i. let e : tally (has_id i) new ≤ tally (has_id i) old = h (has_id i) in omega arith;
}

pub rooted-cons : (e : OpenElement) (es : List OpenElement) → is_rooted es ≡ true → is_rooted (e ∷ es) ≡ true
rooted-cons e [] h = absurd (true≢false (sym h))
rooted-cons e (f ∷ fs) h = h

pub rooted-append : (xs ys : List OpenElement) → is_rooted ys ≡ true → is_rooted (xs ++ ys) ≡ true
rooted-append [] ys h = h
rooted-append (x ∷ xs) ys h = rooted-cons x (xs ++ ys) (rooted-append xs ys h)

pub rooted-some : (es : List OpenElement) → is_rooted es ≡ true → 0 < length es
rooted-some [] h = absurd (true≢false (sym h))
rooted-some (e ∷ es) h = omega arith

pub rooted-drop : (k : ℕ) (es : List OpenElement) → k < length es → is_rooted es ≡ true → is_rooted (drop k es) ≡ true
rooted-drop zero es h r = r
rooted-drop (suc k) [] h r = absurd (omega arith)
rooted-drop (suc k) (e ∷ []) h r = absurd (omega arith)
rooted-drop (suc k) (e ∷ f ∷ es) h r = rooted-drop k (f ∷ es) (omega arith) r

-- the root has the id 1
pub root-id : (es : List OpenElement) → is_rooted es ≡ true → 0 < tally (has_id 1) es
root-id [] h = absurd (true≢false (sym h))
root-id (e ∷ []) h =
    let f : tally (has_id 1) (e ∷ []) ≡ tally (has_id 1) [] + 1 = tally-yes (has_id 1) e [] (and_parts (is_named known.Html e) (e.id == 1) h).1 in
    omega arith
root-id (e ∷ f ∷ es) h =
    let g : 0 < tally (has_id 1) (f ∷ es) = root-id (f ∷ es) h in
    let k : tally (has_id 1) (f ∷ es) ≤ tally (has_id 1) (e ∷ f ∷ es) = tally-tail (has_id 1) e (f ∷ es) in
    omega arith

pub popped_by-keeps : (n m count : ℕ) (es : List OpenElement) → Keeps n m es (popped_by count es)
popped_by-keeps n m count es = keeps_part n m es (popped_by count es) (λ p. tally-drop p (min count (length es - 1)) es)
    (λ r. let s : 0 < length es = rooted-some es r in rooted-drop (min count (length es - 1)) es (omega arith) r)

pub tally-without : (p : OpenElement → Bool) (k : ℕ) (es : List OpenElement) → tally p (without k es) ≤ tally p es
tally-without p k es =
    let a : tally p (take k es ++ drop (k + 1) es) ≡ tally p (take k es) + tally p (drop (k + 1) es) = tally-append p (take k es) (drop (k + 1) es) in
    let b : tally p (drop (suc k) es) ≤ tally p (drop k es) = tally-drop_more p k es in
    let s : suc k ≡ k + 1 = omega arith in
    let d : tally p (drop (k + 1) es) ≤ tally p (drop k es) = subst (λ j. tally p (drop j es) ≤ tally p (drop k es)) s b in
    let e : tally p (take k es) + tally p (drop k es) ≡ tally p es = tally-split p k es in
    omega arith

none_some : {X : Type 0} (x : X) → None ≡ Some x → ⊥
none_some x h = cc

-- what stands at a depth below another element
pub deeper : (o : Option ℕ) (k : ℕ) → option_map suc o ≡ Some k → (j : ℕ) × ((o ≡ Some j) × (k ≡ suc j))
deeper None k h = absurd (none_some k h)
deeper (Some j) k h = (j, (refl, same (suc j) k h))
  where
    same : (a b : ℕ) → Some a ≡ Some b → b ≡ a
    same a b e = cc

-- what stands below an element whose id isn't the root's
pub rooted-under : (id k : ℕ) (es : List OpenElement) → open_at id es ≡ Some k → (id ≡ 1 → ⊥) → is_rooted es ≡ true → is_rooted (drop (k + 1) es) ≡ true
rooted-under id k [] h d r = absurd (none_some k h)
rooted-under id k (e ∷ []) h d r = go (e.id == id) refl h
  where
    go : (b : Bool) → (e.id == id) ≡ b → (if b then Some 0 else option_map suc (open_at id [])) ≡ Some k → is_rooted (drop (k + 1) (e ∷ [])) ≡ true
    go true f g =
        let one : e.id ≡ 1 = eqb-true e.id 1 (and_parts (is_named known.Html e) (e.id == 1) r).1 in
        let same : e.id ≡ id = eqb-true e.id id f in
        absurd (d (sym same ∙ one))
    go false f g = absurd (none_some k g)
rooted-under id k (e ∷ f ∷ es) h d r = go (e.id == id) refl h (λ j there. rooted-under id j (f ∷ es) there d r)
  where
    same : (a b : ℕ) → Some a ≡ Some b → b ≡ a
    same a b g = cc

    go : (b : Bool) → (e.id == id) ≡ b → (if b then Some 0 else option_map suc (open_at id (f ∷ es))) ≡ Some k → ((j : ℕ) → open_at id (f ∷ es) ≡ Some j → is_rooted (drop (j + 1) (f ∷ es)) ≡ true) → is_rooted (drop (k + 1) (e ∷ f ∷ es)) ≡ true
    go true g q under = subst (λ j. is_rooted (drop (j + 1) (e ∷ f ∷ es)) ≡ true) (sym (same 0 k q)) r
    go false g q under =
        let (j, there) = deeper (open_at id (f ∷ es)) k q in
        let rest : is_rooted (drop (j + 1) (f ∷ es)) ≡ true = under j there.0 in
        let more : suc (j + 1) ≡ k + 1 = omega (arith, there.1) in
        subst (λ i. is_rooted (drop i (e ∷ f ∷ es)) ≡ true) more rest

-- an element whose id isn't the root's may be taken off
pub rooted-without : (id k : ℕ) (es : List OpenElement) → open_at id es ≡ Some k → (id ≡ 1 → ⊥) → is_rooted es ≡ true → is_rooted (without k es) ≡ true
rooted-without id k es h d r = rooted-append (take k es) (drop (k + 1) es) (rooted-under id k es h d r)

pub without-keeps : (n m id k : ℕ) (es : List OpenElement) → open_at id es ≡ Some k → (id ≡ 1 → ⊥) → Keeps n m es (without k es)
without-keeps n m id k es h d = keeps_part n m es (without k es) (λ p. tally-without p k es) (rooted-without id k es h d)

-- an element that doesn't weigh, with a new id
pub pushed-keeps : (n m : ℕ) (e : OpenElement) (es : List OpenElement) → is_counted e ≡ false → is_template e ≡ false → ((i : ℕ) → one (has_id i e) ≤ between n m i) → Keeps n m es (e ∷ es)
pushed-keeps n m e es c t h = record {
  counted = let f : tally is_counted (e ∷ es) ≡ tally is_counted es = tally-no is_counted e es c in omega arith;
  templates = let f : tally is_template (e ∷ es) ≡ tally is_template es = tally-no is_template e es t in omega arith;
  rooted = rooted-cons e es;
  ids = λ i. let f : tally (has_id i) (e ∷ es) ≡ one (has_id i e) + tally (has_id i) es = tally-cons (has_id i) e es in let g : one (has_id i e) ≤ between n m i = h i in omega arith;
}

-- a name of a set whose names the test refuses is refused
pub refused : (q : List ℕ → Bool) (elements : Elements) (space : Namespace) (name : List ℕ) → list_all (λ e. not (q e.1)) elements ≡ true → is_member elements space name ≡ true → q name ≡ false
refused q [] space name h k = absurd (true≢false (sym k))
refused q (e ∷ es) space name h k = go (same_namespace space e.0) (bytes_eq name e.1) refl k (refused q es space name (and_parts (not (q e.1)) (list_all (λ e. not (q e.1)) es) h).1)
  where
    here : (b : Bool) → q e.1 ≡ b → not b ≡ true → q e.1 ≡ false
    here true f g = absurd (true≢false (sym g))
    here false f g = f

    go : (a b : Bool) → bytes_eq name e.1 ≡ b → ((a && b) || list_any (λ e. same_namespace space e.0 && bytes_eq name e.1) es) ≡ true → (is_member es space name ≡ true → q name ≡ false) → q name ≡ false
    go true true f g rest = ap q (equal_bytes true name e.1 (sym f) refl) ∙ here (q e.1) refl (and_parts (not (q e.1)) (list_all (λ e. not (q e.1)) es) h).0
    go true false f g rest = rest g
    go false b f g rest = rest g

-- an element made for the tag of a formatting element doesn't weigh
pub formatting-uncounted : (id : ℕ) (tag : Tag) → in_set Formatting tag.namespace tag.name ≡ true → is_counted (element_for id tag) ≡ false
formatting-uncounted id tag h = second (is_html (element_for id tag)) (is_among counted tag.name) (refused (is_among counted) (members Formatting) tag.namespace tag.name refl h)
  where
    second : (a b : Bool) → b ≡ false → (a && b) ≡ false
    second true b e = e
    second false b e = refl

pub formatting-no_template : (id : ℕ) (tag : Tag) → in_set Formatting tag.namespace tag.name ≡ true → is_template (element_for id tag) ≡ false
formatting-no_template id tag h = second (is_html (element_for id tag)) (bytes_eq tag.name (text_of known.Template)) (refused (λ name. bytes_eq name (text_of known.Template)) (members Formatting) tag.namespace tag.name refl h)
  where
    second : (a b : Bool) → b ≡ false → (a && b) ≡ false
    second true b e = e
    second false b e = refl
