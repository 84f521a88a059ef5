-- Two groves that differ in the id from which own elements count stay so after an edit of own elements.
use Rattle.std.proofs.Common.{◌≡◌, ℕ, ◌+◌, ◌-◌, ◌<◌, Bool, true, false, not, ◌==◌, List, [], ◌++◌, length, map, refl, sym, ap, ◌∙◌, subst, inl, inr, arith, Some}
use Rattle.std.specs.Prelude.{if◌then◌else◌, ◌&&◌, nat_lt}
use Rattle.std.proofs.lemmas.Bool.{and_parts, cases_Bool, cases_eq, cases_lt, cond-false, eq-eqb, ne_eqb, le-ltb, lt-ltb, ltb-true, false≢true}
use Rattle.std.proofs.lemmas.List.{map-append}
use Rattle.hp_control.specs.declared.edit.Child.{Child}
use Rattle.hp_control.specs.declared.edit.Child.TheVariants as child
use Rattle.hp_control.specs.declared.edit.Edit.{Edit}
use Rattle.hp_control.specs.declared.edit.Edit.TheVariants.{NewElement, Put, Detach, MoveChildren, AddMissing}
use Rattle.hp_control.specs.declared.edit.Place.{Place}
use Rattle.hp_control.specs.declared.edit.Place.TheVariants.{Into, Foster}
use Rattle.hp_control.specs.declared.edit.Ref.{Ref}
use Rattle.hp_control.specs.declared.edit.Ref.TheVariants.{Fixed, Older, Own}
use Rattle.hp_control.specs.Tree.{Branch, Item, Element, Text, Comment, Tree, applied, children_moved, detached, has_parent, in_each, in_one, is_place, is_there, item_of_doctype, leads_into_document, may_be_child, put, put_before, put_child, put_last, stands_in, with_attributes}
use Rattle.hp_groves.specs.Naming.{child_by, edit_by, own_at, place_by}
use Rattle.hp_groves.specs.Split.{ids, is_among, made}
use Rattle.hp_groves.proofs.Branches.{has_parent-at, inside, inside-in_each, inside-in_one, inside-moved, inside-push, length-in_each, parent-at, tag, tag-in_each, tag-push}
use Rattle.hp_groves.proofs.Groves.{IsGrove, grove-after}
use Rattle.hp_groves.proofs.Items.{stands, stands-without, without}
use Rattle.hp_groves.proofs.Lengths.{length-applied}
use Rattle.hp_groves.proofs.Renumbering.{AreOwn, before-recounted, either-recounted, last-recounted, recount, same-number, stands-recounted, without-recounted}
use Rattle.hp_groves.proofs.Sides.{by-test, inside-detached, missing-inside, place-back}
use Rattle.hp_groves.proofs.Tags.{kept-detach, kept-move, kept-put, missing-at}

-- all references are to own elements
abbrev pub IsOwnRef : Ref → Type 0
IsOwnRef (Fixed id) = ⊥
IsOwnRef (Older depth) = ⊥
IsOwnRef (Own number) = Unit {0}

abbrev pub IsOwnChild : Child → Type 0
IsOwnChild (child.Element node) = IsOwnRef node
IsOwnChild (child.Text text) = Unit {0}
IsOwnChild (child.Comment text) = Unit {0}
IsOwnChild (child.Doctype parts) = Unit {0}

abbrev pub IsOwnPlace : Place → Type 0
IsOwnPlace (Into parent) = IsOwnRef parent
IsOwnPlace (Foster table above) = IsOwnRef table × IsOwnRef above

abbrev pub IsOwnEdit : Edit → Type 0
IsOwnEdit (NewElement tag) = Unit {0}
IsOwnEdit (Put c place) = IsOwnChild c × IsOwnPlace place
IsOwnEdit (Detach node) = IsOwnRef node
IsOwnEdit (MoveChildren from to) = IsOwnRef from × IsOwnRef to
IsOwnEdit (AddMissing node more) = IsOwnRef node

-- the same lists of children, counted from m in place of n
pub record ListsAs (n m : ℕ) (g h : Tree) : Type 0 where
  pub at : (i : ℕ) → inside h (m + i) ≡ map (recount n m) (inside g (n + i))

pub record TagsAs (n m : ℕ) (g h : Tree) : Type 0 where
  pub at : (i : ℕ) → tag h (m + i) ≡ tag g (n + i)

pub record Shifted (n m : ℕ) (g h : Tree) : Type 0 where
  pub left : IsGrove n g
  pub right : IsGrove m h
  pub sizes : length g + m ≡ length h + n
  pub lists : ListsAs n m g h
  pub tags : TagsAs n m g h

own-lists : (n m : ℕ) (g h : Tree) → Shifted n m g h → (i : ℕ) → AreOwn n (inside g (n + i))
own-lists n m g h x i = record { none = λ c b. (x.left.own c (lt-ltb c n b)).at (n + i) refl }

pub stands-as : (n m : ℕ) (g h : Tree) → Shifted n m g h → (i k : ℕ) → stands_in h (m + i) (m + k) ≡ stands_in g (n + i) (n + k)
stands-as n m g h x i k = ap (stands (m + k)) (x.lists.at i) ∙ stands-recounted n m k (inside g (n + i)) (own-lists n m g h x i)

pub blank-none : (n : ℕ) (g : Tree) (id i : ℕ) → IsGrove n g → i < n → stands_in g i id ≡ false
blank-none n g id i x below = ap (stands id) (x.blank i (lt-ltb i n below))

parent-there : (n m : ℕ) (g h : Tree) → IsGrove n g → ((i : ℕ) (k : ℕ) → stands_in h (m + i) (m + k) ≡ stands_in g (n + i) (n + k)) → (k : ℕ) → has_parent g (n + k) ≡ true → has_parent h (m + k) ≡ true
parent-there n m g h x same k p =
    let at = parent-at g (n + k) p in
    elim (cases_lt at.0 n) [
      | inl below ↦ absurd (false≢true (sym (blank-none n g (n + k) at.0 x below) ∙ at.1))
      | inr above ↦
          let sum : n + (at.0 - n) ≡ at.0 = omega arith in
          has_parent-at h (m + k) (m + (at.0 - n)) (same (at.0 - n) k ∙ ap (λ i. stands_in g i (n + k)) sum ∙ at.1)
    ]

pub same-tests : (a b : Bool) → (a ≡ true → b ≡ true) → (b ≡ true → a ≡ true) → a ≡ b
same-tests true true f g = refl
same-tests true false f g = sym (f refl)
same-tests false true f g = g refl
same-tests false false f g = refl

pub parent-as : (n m : ℕ) (g h : Tree) → Shifted n m g h → (k : ℕ) → has_parent g (n + k) ≡ has_parent h (m + k)
parent-as n m g h x k =
    same-tests (has_parent g (n + k)) (has_parent h (m + k)) (parent-there n m g h x.left (stands-as n m g h x) k)
    (parent-there m n h g x.right (λ i j. sym (stands-as n m g h x i j)) k)

below-as : (n m : ℕ) (g h : Tree) → Shifted n m g h → (k : ℕ) → nat_lt (n + k) (length g) ≡ nat_lt (m + k) (length h)
below-as n m g h x k =
    elim (cases_lt (n + k) (length g)) [
      | inl b ↦ lt-ltb (n + k) (length g) b ∙ sym (lt-ltb (m + k) (length h) (omega (arith, x.sizes, b)))
      | inr a ↦ le-ltb (n + k) (length g) a ∙ sym (le-ltb (m + k) (length h) (omega (arith, x.sizes, a)))
    ]

not-document : (n k : ℕ) → 0 < n → (n + k == 0) ≡ false
not-document n k h = ne_eqb (n + k) 0 (λ e. absurd (omega (arith, e, h)))

either-false : (t a b : Bool) → a ≡ false → b ≡ false → (if t then a else b) ≡ false
either-false true a b h k = h
either-false false a b h k = k

-- no own place leads into the document
document-none : (n : ℕ) → 0 < n → (g : Tree) → IsGrove n g → (place : Place) → IsOwnPlace place → leads_into_document g (place_by (own_at n) place) ≡ false
document-none n h g x (Into (Fixed id)) o = absurd o
document-none n h g x (Into (Older depth)) o = absurd o
document-none n h g x (Into (Own k)) o = not-document n k h
document-none n h g x (Foster (Fixed id) above) o = absurd o.0
document-none n h g x (Foster (Older depth) above) o = absurd o.0
document-none n h g x (Foster (Own c) (Fixed id)) o = absurd o.1
document-none n h g x (Foster (Own c) (Older depth)) o = absurd o.1
document-none n h g x (Foster (Own c) (Own k)) o = either-false (has_parent g (n + c)) _ _ (blank-none n g (n + c) 0 x h) (not-document n k h)

module _ (n m : ℕ) (hs : 0 < n) (hu : 0 < m) where
  there-as : (g h : Tree) → Shifted n m g h → (r : Ref) → IsOwnRef r → is_there g (own_at n r) ≡ is_there h (own_at m r)
  there-as g h x (Fixed id) o = absurd o
  there-as g h x (Older depth) o = absurd o
  there-as g h x (Own k) o = below-as n m g h x k

  place-as : (g h : Tree) → Shifted n m g h → (place : Place) → IsOwnPlace place → is_place g (place_by (own_at n) place) ≡ is_place h (place_by (own_at m) place)
  place-as g h x (Into parent) o = there-as g h x parent o
  place-as g h x (Foster table above) o = ap (λ b. b && is_there g (own_at n above)) (there-as g h x table o.0) ∙ ap (λ b. is_there h (own_at m table) && b) (there-as g h x above o.1)

  one-as : (F G : List Item → List Item) → ((xs : List Item) → G (map (recount n m) xs) ≡ map (recount n m) (F xs)) → (g h : Tree) → Shifted n m g h → (k : ℕ) → is_there g (Fixed (n + k)) ≡ true
      → ListsAs n m (in_one F g (n + k)) (in_one G h (m + k))
  one-as F G e g h x k b =
      let bg : n + k < length g = ltb-true (n + k) (length g) b in
      let bh : m + k < length h = ltb-true (m + k) (length h) (sym (below-as n m g h x k) ∙ b) in
      record {
        at = λ i.
            inside-in_one G h (m + k) (m + i) bh
            ∙ ap (λ t. if t then G (inside h (m + i)) else inside h (m + i)) (same-number m n i k)
            ∙ ap (λ xs. if n + i == n + k then G xs else xs) (x.lists.at i)
            ∙ ap (λ ys. if n + i == n + k then ys else map (recount n m) (inside g (n + i))) (e (inside g (n + i)))
            ∙ either-recounted n m (n + i == n + k) (F (inside g (n + i))) (inside g (n + i))
            ∙ ap (map (recount n m)) (sym (inside-in_one F g (n + k) (n + i) bg));
      }

  each-as : (F G : List Item → List Item) → F [] ≡ [] → G [] ≡ [] → ((xs : List Item) → AreOwn n xs → G (map (recount n m) xs) ≡ map (recount n m) (F xs)) → (g h : Tree) → Shifted n m g h
      → ListsAs n m (in_each F g) (in_each G h)
  each-as F G a b e g h x = record {
    at = λ i. inside-in_each G b h (m + i) ∙ ap G (x.lists.at i) ∙ e (inside g (n + i)) (own-lists n m g h x i) ∙ ap (map (recount n m)) (sym (inside-in_each F a g (n + i)));
  }

  grove-without : (next : ℕ) (g : Tree) (id : ℕ) → IsGrove next g → IsGrove next (detached g id)
  grove-without next g id x = record {
    long = omega (arith, x.long, length-in_each (without id) g);
    blank = λ i o. inside-detached g id i ∙ ap (without id) (x.blank i o);
    own = λ c o. record { at = λ i k. ap (stands c) (inside-detached g id i) ∙ stands-without id c (inside g i) ((x.own c o).at i k) };
  }

  detached-as : (g h : Tree) → Shifted n m g h → (k : ℕ) → Shifted n m (detached g (n + k)) (detached h (m + k))
  detached-as g h x k = record {
    left = grove-without n g (n + k) x.left;
    right = grove-without m h (m + k) x.right;
    sizes = omega (arith, x.sizes, length-in_each (without (n + k)) g, length-in_each (without (m + k)) h);
    lists = each-as (without (n + k)) (without (m + k)) refl refl (without-recounted n m k) g h x;
    tags = record { at = λ i. tag-in_each (without (m + k)) h (m + i) ∙ x.tags.at i ∙ sym (tag-in_each (without (n + k)) g (n + i)) };
  }

  put-as : (g h : Tree) → Shifted n m g h → (item : Item) (place : Place) → IsOwnPlace place → is_place g (place_by (own_at n) place) ≡ true
      → ListsAs n m (put g item (place_by (own_at n) place)) (put h (recount n m item) (place_by (own_at m) place))
  put-as g h x item (Into (Fixed id)) o b = absurd o
  put-as g h x item (Into (Older depth)) o b = absurd o
  put-as g h x item (Into (Own k)) o b = one-as (λ items. put_last items item) (λ items. put_last items (recount n m item)) (last-recounted n m item) g h x k b
  put-as g h x item (Foster (Fixed id) above) o b = absurd o.0
  put-as g h x item (Foster (Older depth) above) o b = absurd o.0
  put-as g h x item (Foster (Own c) (Fixed id)) o b = absurd o.1
  put-as g h x item (Foster (Own c) (Older depth)) o b = absurd o.1
  put-as g h x item (Foster (Own c) (Own k)) o b =
      by-test (ListsAs n m) (has_parent g (n + c)) (has_parent h (m + c)) _ _ _ _ (parent-as n m g h x c)
      (λ _ _. each-as (λ items. put_before (n + c) items item) (λ items. put_before (m + c) items (recount n m item)) refl refl (before-recounted n m c item) g h x)
      (one-as (λ items. put_last items item) (λ items. put_last items (recount n m item)) (last-recounted n m item) g h x k (and_parts (is_there g (Fixed (n + c))) (is_there g (Fixed (n + k))) b).1)

  child-as : (g h : Tree) → Shifted n m g h → (c : Child) (place : Place) → IsOwnChild c → IsOwnPlace place → is_place g (place_by (own_at n) place) ≡ true
      → ListsAs n m (put_child g (child_by (own_at n) c) (place_by (own_at n) place)) (put_child h (child_by (own_at m) c) (place_by (own_at m) place))
  child-as g h x (child.Element (Fixed id)) place o p b = absurd o
  child-as g h x (child.Element (Older depth)) place o p b = absurd o
  child-as g h x (child.Element (Own k)) place o p b =
      let id : m + (n + k - n) ≡ m + k = omega arith in
      let x' : Shifted n m (detached g (n + k)) (detached h (m + k)) = detached-as g h x k in
      by-test (ListsAs n m) (may_be_child g (Fixed (n + k))) (may_be_child h (Fixed (m + k))) _ g _ h
      (ap (λ t. t && not (n + k == 0)) (below-as n m g h x k) ∙ ap (λ t. is_there h (Fixed (m + k)) && not t) (not-document n k hs ∙ sym (not-document m k hu)))
      (λ _ _. subst (λ i. ListsAs n m (put (detached g (n + k)) (Element (n + k)) (place_by (own_at n) place)) (put (detached h (m + k)) (Element i) (place_by (own_at m) place))) id
      (put-as (detached g (n + k)) (detached h (m + k)) x' (Element (n + k)) place p (place-back g (n + k) (place_by (own_at n) place) ∙ b)))
      x.lists
  child-as g h x (child.Text text) place o p b =
      by-test (ListsAs n m) (leads_into_document g (place_by (own_at n) place)) (leads_into_document h (place_by (own_at m) place)) g _ h _
      (document-none n hs g x.left place p ∙ sym (document-none m hu h x.right place p)) (λ _ _. x.lists) (put-as g h x (Text text) place p b)
  child-as g h x (child.Comment text) place o p b = put-as g h x (Comment text) place p b
  child-as g h x (child.Doctype parts) place o p b = put-as g h x (item_of_doctype parts) place p b

  moved-as : (g h : Tree) → Shifted n m g h → (a b : ℕ) → (is_there g (Fixed (n + a)) && is_there g (Fixed (n + b)) && not (n + a == n + b)) ≡ true
      → ListsAs n m (children_moved g (n + a) (n + b)) (children_moved h (m + a) (m + b))
  moved-as g h x a b t =
      let parts = and_parts (is_there g (Fixed (n + a))) (is_there g (Fixed (n + b))) (and_parts (is_there g (Fixed (n + a)) && is_there g (Fixed (n + b))) (not (n + a == n + b)) t).0 in
      let ga : n + a < length g = ltb-true (n + a) (length g) parts.0 in
      let gb : n + b < length g = ltb-true (n + b) (length g) parts.1 in
      let ha : m + a < length h = omega (arith, x.sizes, ga) in
      let hb : m + b < length h = omega (arith, x.sizes, gb) in
      let r : List Item → List Item = map (recount n m) in
      record {
        at = λ i.
            let here = inside g (n + i) in
            let there = inside g (n + a) in
            inside-moved h (m + a) (m + b) (m + i) ha hb
            ∙ ap (λ y. if y then [] else (if m + i == m + b then inside h (m + i) ++ inside h (m + a) else inside h (m + i))) (same-number m n i a)
            ∙ ap (λ y. if n + i == n + a then [] else (if y then inside h (m + i) ++ inside h (m + a) else inside h (m + i))) (same-number m n i b)
            ∙ ap (λ ys. if n + i == n + a then [] else (if n + i == n + b then ys ++ inside h (m + a) else ys)) (x.lists.at i)
            ∙ ap (λ ys. if n + i == n + a then [] else (if n + i == n + b then r here ++ ys else r here)) (x.lists.at a)
            ∙ ap (λ ys. if n + i == n + a then [] else (if n + i == n + b then ys else r here)) (sym (map-append (recount n m) here there))
            ∙ ap (λ ys. if n + i == n + a then [] else ys) (either-recounted n m (n + i == n + b) (here ++ there) here)
            ∙ either-recounted n m (n + i == n + a) [] (if n + i == n + b then here ++ there else here)
            ∙ ap r (sym (inside-moved g (n + a) (n + b) (n + i) ga gb));
      }

  lists-after : (g h : Tree) → Shifted n m g h → (e : Edit) → IsOwnEdit e → ListsAs n m (applied g (edit_by (own_at n) e)) (applied h (edit_by (own_at m) e))
  lists-after g h x (NewElement new) o =
      let b : Branch = record { tag = Some new; inside = [] } in
      record { at = λ i. inside-push h b (m + i) refl ∙ x.lists.at i ∙ ap (map (recount n m)) (sym (inside-push g b (n + i) refl)) }
  lists-after g h x (Put c place) o =
      by-test (ListsAs n m) (is_place g (place_by (own_at n) place)) (is_place h (place_by (own_at m) place)) _ g _ h (place-as g h x place o.1) (λ b _. child-as g h x c place o.0 o.1 b) x.lists
  lists-after g h x (Detach (Fixed id)) o = absurd o
  lists-after g h x (Detach (Older depth)) o = absurd o
  lists-after g h x (Detach (Own k)) o =
      by-test (ListsAs n m) (may_be_child g (Fixed (n + k))) (may_be_child h (Fixed (m + k))) _ g _ h
      (ap (λ t. t && not (n + k == 0)) (below-as n m g h x k) ∙ ap (λ t. is_there h (Fixed (m + k)) && not t) (not-document n k hs ∙ sym (not-document m k hu)))
      (λ _ _. (detached-as g h x k).lists) x.lists
  lists-after g h x (MoveChildren (Fixed id) to) o = absurd o.0
  lists-after g h x (MoveChildren (Older depth) to) o = absurd o.0
  lists-after g h x (MoveChildren (Own a) (Fixed id)) o = absurd o.1
  lists-after g h x (MoveChildren (Own a) (Older depth)) o = absurd o.1
  lists-after g h x (MoveChildren (Own a) (Own b)) o =
      by-test (ListsAs n m) (is_there g (Fixed (n + a)) && is_there g (Fixed (n + b)) && not (n + a == n + b)) (is_there h (Fixed (m + a)) && is_there h (Fixed (m + b)) && not (m + a == m + b)) _ g _ h
      (ap (λ t. t && is_there g (Fixed (n + b)) && not (n + a == n + b)) (below-as n m g h x a)
      ∙ ap (λ t. is_there h (Fixed (m + a)) && t && not (n + a == n + b)) (below-as n m g h x b)
      ∙ ap (λ t. is_there h (Fixed (m + a)) && is_there h (Fixed (m + b)) && not t) (same-number n m a b))
      (λ t _. moved-as g h x a b t) x.lists
  lists-after g h x (AddMissing node more) o = record {
    at = λ i. missing-inside h (own_at m node) more (m + i) ∙ x.lists.at i ∙ ap (map (recount n m)) (sym (missing-inside g (own_at n node) more (n + i)));
  }

  last-as : (g h : Tree) → Shifted n m g h → (i : ℕ) → (m + i == length h) ≡ (n + i == length g)
  last-as g h x i =
      elim (cases_eq (n + i) (length g)) [
        | inl e ↦ eq-eqb (m + i) (length h) (omega (arith, x.sizes, e)) ∙ sym (eq-eqb (n + i) (length g) e)
        | inr d ↦ ne_eqb (m + i) (length h) (λ e. d (omega (arith, x.sizes, e))) ∙ sym (ne_eqb (n + i) (length g) d)
      ]

  tags-after : (g h : Tree) → Shifted n m g h → (e : Edit) → IsOwnEdit e → TagsAs n m (applied g (edit_by (own_at n) e)) (applied h (edit_by (own_at m) e))
  tags-after g h x (NewElement new) o =
      let b : Branch = record { tag = Some new; inside = [] } in
      record {
        at = λ i.
            tag-push h b (m + i) ∙ ap (λ t. if t then Some new else tag h (m + i)) (last-as g h x i) ∙ ap (λ y. if n + i == length g then Some new else y) (x.tags.at i) ∙ sym (tag-push g b (n + i));
      }
  tags-after g h x (Put c place) o = record { at = λ i. kept-put (m + i) h (child_by (own_at m) c) (place_by (own_at m) place) ∙ x.tags.at i ∙ sym (kept-put (n + i) g (child_by (own_at n) c) (place_by (own_at n) place)) }
  tags-after g h x (Detach node) o = record { at = λ i. kept-detach (m + i) h (own_at m node) ∙ x.tags.at i ∙ sym (kept-detach (n + i) g (own_at n node)) }
  tags-after g h x (MoveChildren from to) o = record { at = λ i. kept-move (m + i) h (own_at m from) (own_at m to) ∙ x.tags.at i ∙ sym (kept-move (n + i) g (own_at n from) (own_at n to)) }
  tags-after g h x (AddMissing (Fixed id) more) o = absurd o
  tags-after g h x (AddMissing (Older depth) more) o = absurd o
  tags-after g h x (AddMissing (Own k) more) o =
      elim (cases_Bool (is_there g (Fixed (n + k)))) [
        | inl b ↦
            let b' : is_there h (Fixed (m + k)) ≡ true = sym (below-as n m g h x k) ∙ b in
            record {
              at = λ i.
                  missing-at h (Fixed (m + k)) more (m + i) b'
                  ∙ ap (λ t. if t then with_attributes (tag h (m + k)) more else tag h (m + i)) (same-number m n i k)
                  ∙ ap (λ y. if n + i == n + k then with_attributes y more else tag h (m + i)) (x.tags.at k)
                  ∙ ap (λ y. if n + i == n + k then with_attributes (tag g (n + k)) more else y) (x.tags.at i)
                  ∙ sym (missing-at g (Fixed (n + k)) more (n + i) b);
            }
        | inr b ↦
            let b' : is_there h (Fixed (m + k)) ≡ false = sym (below-as n m g h x k) ∙ b in
            record { at = λ i. ap (λ v. tag v (m + i)) (cond-false (is_there h (Fixed (m + k))) _ _ b') ∙ x.tags.at i ∙ ap (λ v. tag v (n + i)) (sym (cond-false (is_there g (Fixed (n + k))) _ _ b)) }
      ]

  made-same : (e : Edit) → made (edit_by (own_at n) e) ≡ made (edit_by (own_at m) e)
  made-same (NewElement new) = refl
  made-same (Put c place) = refl
  made-same (Detach node) = refl
  made-same (MoveChildren from to) = refl
  made-same (AddMissing node more) = refl

  pub shifted-after : (g h : Tree) → Shifted n m g h → (e : Edit) → IsOwnEdit e → ((c : ℕ) → is_among (ids (edit_by (own_at n) e)) c ≡ true → nat_lt c n ≡ false) → ((c : ℕ) → is_among (ids (edit_by (own_at m) e)) c ≡ true → nat_lt c m ≡ false)
      → Shifted n m (applied g (edit_by (own_at n) e)) (applied h (edit_by (own_at m) e))
  shifted-after g h x e o a b = record {
    left = grove-after n g (edit_by (own_at n) e) x.left a;
    right = grove-after m h (edit_by (own_at m) e) x.right b;
    sizes = omega (arith, x.sizes, length-applied g (edit_by (own_at n) e), length-applied h (edit_by (own_at m) e), made-same e);
    lists = lists-after g h x e o;
    tags = tags-after g h x e o;
  }
