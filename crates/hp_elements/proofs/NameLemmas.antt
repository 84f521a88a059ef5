-- The known names and their texts.
use Prim.Native.Nat.{zero, suc}
use Rattle.std.proofs.Common.{◌≡◌, ℕ, ◌<◌, length, get_or, map, take, arith, List, [], ◌∷◌, Bool, true, false, cond, Option, Some, None, IfSome, IsTrue, refl, rules, sym, ap, ◌∙◌, subst, eqb, eq-eqb}
use Rattle.std.specs.Char.{to_ascii_lowercase}
use Rattle.std.specs.Option.{unwrap_or}
use Rattle.std.specs.List.{find}
use Rattle.std.specs.Str.{bytes_eq, chars, IsUtf8, is_utf8}
use Rattle.std.proofs.lemmas.List.{take-map}
use Rattle.std.proofs.lemmas.Slice.Eq.{bytes_eq-Decides}
use Rattle.std.proofs.lemmas.Bool.{eqb-true}
use Rattle.std.proofs.lemmas.Str.{encodes-chars, IsUtf8-from_is_utf8}
use Rattle.hp_elements.specs.declared.known.Known.{Known}
use Rattle.hp_elements.specs.KnownNames as k
use Rattle.hp_elements.specs.Names.{text_of, has_text, every, index_of, known_of}
use lib.Utf8.{encodes, encode}
use Rattle.hp_elements.specs.Slots.{named_at, slots}
use Rattle.hp_elements.proofs.EveryName.{at_every, each_passes, same_index, known_at, index_below}

pub bytes_eq-true : (xs ys : List ℕ) → bytes_eq xs ys ≡ true → xs ≡ ys
bytes_eq-true xs ys h = search (rules, bytes_eq-Decides)

found : (text : List ℕ) (names : List Known) → IfSome (find (has_text text) names) (λ name. text_of name ≡ text)
found text [] = tt
found text (x ∷ xs) = go (has_text text x) refl (found text xs)
  where
    go : (b : Bool) → has_text text x ≡ b → IfSome (find (has_text text) xs) (λ name. text_of name ≡ text) → IfSome (cond b (Some x) (find (has_text text) xs)) (λ name. text_of name ≡ text)
    go true e rest = bytes_eq-true (text_of x) text e
    go false e rest = rest

-- the known name of a text has that text
pub known_text : (text : List ℕ) → IfSome (known_of text) (λ name. text_of name ≡ text)
unfolding known_of
known_text text = found text every

abbrev pub is_it : Option Known → ℕ → Bool
is_it None i = false
is_it (Some name) i = eqb (index_of name) i

pub it_is : (o : Option Known) (name : Known) → is_it o (index_of name) ≡ true → o ≡ Some name
it_is None name h = absurd (search (rules))
it_is (Some other) name h = ap Some (same_index other name (eqb-true (index_of other) (index_of name) h))

each_slot : each_passes (λ name. is_it (named_at (map to_ascii_lowercase (text_of name))) (index_of name)) ≡ true
unfolding named_at slots
each_slot = refl

-- a known name stands at the number of its lowered text
pub at_its_number : (name : Known) → named_at (map to_ascii_lowercase (text_of name)) ≡ Some name
at_its_number name = it_is (named_at (map to_ascii_lowercase (text_of name))) name (at_every (λ n. is_it (named_at (map to_ascii_lowercase (text_of n))) (index_of n)) each_slot name)

pub same_text : (a b : Known) → text_of a ≡ text_of b → a ≡ b
same_text a b e = ap (λ (o : Option Known). unwrap_or o k.A) (sym (at_its_number a) ∙ (ap (λ (xs : List ℕ). named_at (map to_ascii_lowercase xs)) e ∙ at_its_number b))

pub some_none : {X : Type 0} (x : X) → Some x ≡ None → ⊥
some_none x e = cc

-- an item that passes is found
find_some : {X : Type 0} (p : X → Bool) (xs : List X) (i : ℕ) (d : X) → i < length xs → p (get_or xs i d) ≡ true → find p xs ≡ None → ⊥
find_some p [] i d lt h n = absurd (omega arith)
find_some p (x ∷ xs) zero d lt h n = some_none x (sym (ap (λ (b : Bool). cond b (Some x) (find p xs)) h) ∙ n)
find_some {X} p (x ∷ xs) (suc i) d lt h n = go (p x) (find_some p xs i d (omega arith) h) n
  where
    go : (b : Bool) → (find p xs ≡ None → ⊥) → cond b (Some x) (find p xs) ≡ None → ⊥
    go true rest m = some_none x m
    go false rest m = rest m

own_text : (name : Known) → has_text (text_of name) (get_or every (index_of name) k.A) ≡ true
own_text name = ap (has_text (text_of name)) (known_at name) ∙ (bytes_eq-Decides (text_of name) (text_of name)).1 refl

not_none : (name : Known) → known_of (text_of name) ≡ None → ⊥
unfolding known_of
not_none name e = find_some (has_text (text_of name)) every (index_of name) k.A (index_below name) (own_text name) e

-- a known name is the known name of its text
pub known_of_text : (name : Known) → known_of (text_of name) ≡ Some name
known_of_text name = go (known_of (text_of name)) refl (known_text (text_of name))
  where
    go : (o : Option Known) → known_of (text_of name) ≡ o → IfSome o (λ other. text_of other ≡ text_of name) → o ≡ Some name
    go None e t = absurd (not_none name e)
    go (Some other) e t = ap Some (same_text other name t)

each_ascii : each_passes (λ name. bytes_eq (chars (text_of name)) (text_of name)) ≡ true
unfolding chars
each_ascii = refl

-- the texts of known names are ASCII
pub known_chars : (name : Known) → chars (text_of name) ≡ text_of name
known_chars name = bytes_eq-true (chars (text_of name)) (text_of name) (at_every (λ n. bytes_eq (chars (text_of n)) (text_of n)) each_ascii name)

-- names are the same where their places are
pub same_names : (a b : Known) (i j : ℕ) → i ≡ index_of a → j ≡ index_of b → (IsTrue (eqb i j) → a ≡ b) × (a ≡ b → IsTrue (eqb i j))
same_names a b i j p q = (
  λ h. same_index a b (sym p ∙ (eqb-true i j h ∙ q)),
  λ e. eq-eqb i j (p ∙ (ap index_of e ∙ sym q)),
)

-- a name that is kept as a known one
pub named_is : (r : Bool) (own known : Known) (now : List ℕ) → text_of own ≡ now → (IsTrue r → own ≡ known) × (own ≡ known → IsTrue r) → (IsTrue r → now ≡ text_of known) × (now ≡ text_of known → IsTrue r)
named_is r own known now v s = (λ h. sym v ∙ ap text_of (s.0 h), λ e. s.1 (same_text own known (v ∙ e)))

-- a name that is no known one
pub other_is : (known : Known) (now : List ℕ) → known_of now ≡ None → (IsTrue false → now ≡ text_of known) × (now ≡ text_of known → IsTrue false)
other_is known now n = (λ h. absurd (not_true h), λ e. absurd (no_none (sym (known_of_text known) ∙ (ap known_of (sym e) ∙ n))))
  where
    not_true : IsTrue false → ⊥
    not_true h = cc

    no_none : Some known ≡ None → ⊥
    no_none h = cc

each_utf8 : each_passes (λ name. is_utf8 (text_of name)) ≡ true
unfolding is_utf8 chars encode
each_utf8 = refl

pub known_utf8 : (name : Known) → IsUtf8 (text_of name)
known_utf8 name = IsUtf8-from_is_utf8 (text_of name) (at_every (λ n. is_utf8 (text_of n)) each_utf8 name)

-- a text whose known name was found
pub found_text : (text : List ℕ) (name : Known) → known_of text ≡ Some name → text_of name ≡ text
found_text text name e = subst (λ (o : Option Known). IfSome o (λ n. text_of n ≡ text)) e (known_text text)

pub found_chars : (text : List ℕ) (name : Known) → known_of text ≡ Some name → text_of name ≡ chars text
found_chars text name e = sym (known_chars name) ∙ ap chars (found_text text name e)

pub not_both : (name : Known) (o : Option Known) → o ≡ Some name → o ≡ None → ⊥
not_both name o p q = cc

-- a text in UTF-8 is no known name's where its code points are not
pub other_chars : (text : List ℕ) → IsUtf8 text → known_of text ≡ None → known_of (chars text) ≡ None
other_chars text u n = go (known_of (chars text)) refl
  where
    go : (o : Option Known) → known_of (chars text) ≡ o → o ≡ None
    go None e = refl
    go (Some name) e =
        let back : text ≡ text_of name = sym (encodes-chars text u) ∙ (ap encodes (sym (found_text (chars text) name e) ∙ sym (known_chars name)) ∙ encodes-chars (text_of name) (known_utf8 name)) in
        absurd (not_both name (known_of text) (ap known_of back ∙ known_of_text name) n)

-- what is lowered of an array that begins with a text
pub lowered_front : (text array array' : List ℕ) → take (length text) array ≡ text → array' ≡ map to_ascii_lowercase array → take (length text) array' ≡ map to_ascii_lowercase text
lowered_front text array array' e m =
    ap (λ (xs : List ℕ). take (length text) xs) m ∙ (take-map to_ascii_lowercase (length text) array ∙ ap (map to_ascii_lowercase) e)

pub true_false : true ≡ false → ⊥
true_false e = cc

-- a name is the same as a known one where it is that one
pub same_as_known : (r : Bool) (own : Known) (now other : List ℕ) → known_of now ≡ Some own
    → (IsTrue r → other ≡ text_of own) × (other ≡ text_of own → IsTrue r) → (IsTrue r → now ≡ other) × (now ≡ other → IsTrue r)
same_as_known r own now other e s =
    let text : text_of own ≡ now = found_text now own e in
    (λ h. sym text ∙ sym (s.0 h), λ h. s.1 (sym h ∙ sym text))

-- a known name is no other one
pub apart_from_known : (own : Known) (now other : List ℕ) → known_of now ≡ None → known_of other ≡ Some own
    → (IsTrue false → now ≡ other) × (now ≡ other → IsTrue false)
apart_from_known own now other n e = (λ h. cc, λ h. absurd (not_both own (known_of other) e (ap known_of (sym h) ∙ n)))
