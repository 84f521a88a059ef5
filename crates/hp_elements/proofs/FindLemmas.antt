-- What is found in the table of known names.
use Prim.Native.Nat.{suc}
use Rattle.std.proofs.Common.{◌≡◌, ℕ, ◌<◌, ◌≤◌, List, [], ◌∷◌, Bool, true, false, Option, Some, None, map, length, get_or, slice_get, slice_index, refl, sym, ap, ◌∙◌, subst, arith, ltb, leb}
use Rattle.std.specs.Char.{to_ascii_lowercase}
use Rattle.std.specs.Str.{bytes_eq}
use Rattle.std.proofs.lemmas.Slice.Eq.{bytes_eq-Decides}
use Rattle.std.proofs.lemmas.Bool.{ltb-true, leb-true}
use Rattle.std.proofs.lemmas.Str.Ascii.{lowercase-lowercase}
use Rattle.std.proofs.lemmas.List.{get_or-map, length-map}
use Rattle.hp_elements.specs.declared.known.Known.{Known}
use Rattle.hp_elements.specs.Names.{text_of, known_of, every}
use Rattle.hp_elements.specs.Slots.{slot_of, slots, named_at}
use Rattle.hp_elements.proofs.EveryName.{at_every, each_passes}
use Rattle.hp_elements.proofs.NameLemmas.{at_its_number, found_text, known_of_text}

-- a text that lowers to another, byte by byte
pub lowers : (xs ys : List ℕ) → length xs ≡ length ys → ((k : ℕ) → k < length xs → to_ascii_lowercase (get_or xs k 0) ≡ get_or ys k 0) → map to_ascii_lowercase xs ≡ ys
lowers [] [] n h = refl
lowers [] (y ∷ ys) n h = absurd (omega arith)
lowers (x ∷ xs) [] n h = absurd (omega arith)
lowers (x ∷ xs) (y ∷ ys) n h =
    let first : to_ascii_lowercase x ≡ y = h 0 (omega arith) in
    let rest : map to_ascii_lowercase xs ≡ ys = lowers xs ys (omega arith) (λ k lt. h (suc k) (omega arith)) in
    ap (λ (z : ℕ). z ∷ map to_ascii_lowercase xs) first ∙ ap (λ (zs : List ℕ). y ∷ zs) rest

pub lowers_at : (xs ys : List ℕ) (k : ℕ) → k < length xs → map to_ascii_lowercase xs ≡ ys → to_ascii_lowercase (get_or xs k 0) ≡ get_or ys k 0
lowers_at xs ys k lt e = sym (get_or-map to_ascii_lowercase xs k 0 0 lt) ∙ ap (λ (zs : List ℕ). get_or zs k 0) e

pub lowers_length : (xs ys : List ℕ) → map to_ascii_lowercase xs ≡ ys → length xs ≡ length ys
lowers_length xs ys e = sym (length-map xs to_ascii_lowercase) ∙ ap length e

each_some : each_passes (λ name. ltb 0 (length (text_of name))) ≡ true
each_some = refl

each_short : each_passes (λ name. leb (length (text_of name)) 19) ≡ true
each_short = refl

-- how long the texts of known names are
pub known_some : (name : Known) → 0 < length (text_of name)
known_some name = ltb-true 0 (length (text_of name)) (at_every (λ n. ltb 0 (length (text_of n))) each_some name)

pub known_short : (name : Known) → length (text_of name) ≤ 19
known_short name = leb-true (length (text_of name)) 19 (at_every (λ n. leb (length (text_of n)) 19) each_short name)

same_length : (text : List ℕ) (name : Known) → map to_ascii_lowercase (text_of name) ≡ map to_ascii_lowercase text → length (text_of name) ≡ length text
same_length text name e = lowers_length (text_of name) (map to_ascii_lowercase text) e ∙ length-map text to_ascii_lowercase

pub text_some : (text : List ℕ) (name : Known) → map to_ascii_lowercase (text_of name) ≡ map to_ascii_lowercase text → 0 < length text
text_some text name e = subst (λ (n : ℕ). 0 < n) (same_length text name e) (known_some name)

pub text_short : (text : List ℕ) (name : Known) → map to_ascii_lowercase (text_of name) ≡ map to_ascii_lowercase text → length text ≤ 19
text_short text name e = subst (λ (n : ℕ). n ≤ 19) (same_length text name e) (known_short name)

at_number : (bytes : List ℕ) (slot : ℕ) → slot ≡ slot_of (length bytes) bytes → slice_get every (slice_index slots slot) ≡ named_at bytes
unfolding named_at
at_number bytes slot p = ap (λ (i : ℕ). slice_get every (slice_index slots i)) p

-- a known name stands at the number of its text
pub at_its_slot : (text : List ℕ) (name : Known) (slot : ℕ) → slot ≡ slot_of (length text) (map to_ascii_lowercase text) → map to_ascii_lowercase (text_of name) ≡ map to_ascii_lowercase text
    → slice_get every (slice_index slots slot) ≡ Some name
at_its_slot text name slot p e =
    at_number (map to_ascii_lowercase text) slot (p ∙ ap (λ (n : ℕ). slot_of n (map to_ascii_lowercase text)) (sym (length-map text to_ascii_lowercase)))
    ∙ (ap named_at (sym e) ∙ at_its_number name)

-- the candidate is the one that the text has, or there is none
pub no_candidate : (text : List ℕ) → ((name : Known) → text_of name ≡ text → None ≡ Some name) → None ≡ known_of text
no_candidate text h = go (known_of text) refl
  where
    go : (o : Option Known) → known_of text ≡ o → None ≡ o
    go None e = refl
    go (Some name) e = h name (found_text text name e)

pub is_candidate : (text : List ℕ) (name : Known) → text_of name ≡ text → Some name ≡ known_of text
is_candidate text name e = sym (known_of_text name) ∙ ap known_of e

some_same : (a b : Known) → Some a ≡ Some b → a ≡ b
some_same a b e = cc

pub other_candidate : (text : List ℕ) (candidate : Known) → ((name : Known) → text_of name ≡ text → Some candidate ≡ Some name) → (text_of candidate ≡ text → ⊥) → None ≡ known_of text
other_candidate text candidate h differs = no_candidate text (λ name e. absurd (differs (ap text_of (some_same candidate name (h name e)) ∙ e)))

pub equal_bytes : (r : Bool) (xs ys : List ℕ) → r ≡ bytes_eq xs ys → r ≡ true → xs ≡ ys
equal_bytes r xs ys e h = (bytes_eq-Decides xs ys).0 (sym e ∙ h)

pub other_bytes : (r : Bool) (xs ys : List ℕ) → r ≡ bytes_eq xs ys → r ≡ false → xs ≡ ys → ⊥
other_bytes r xs ys e h same = true_false (sym ((bytes_eq-Decides xs ys).1 same) ∙ (sym e ∙ h))
  where
    true_false : true ≡ false → ⊥
    true_false e = cc

pub clash : (r : Bool) → r ≡ true → r ≡ false → ⊥
clash r p q = cc

pub lowered_twice : (xs : List ℕ) → map to_ascii_lowercase (map to_ascii_lowercase xs) ≡ map to_ascii_lowercase xs
lowered_twice [] = refl
lowered_twice (x ∷ xs) =
    ap (λ (y : ℕ). y ∷ map to_ascii_lowercase (map to_ascii_lowercase xs)) (lowercase-lowercase x) ∙ ap (λ (ys : List ℕ). to_ascii_lowercase x ∷ ys) (lowered_twice xs)
