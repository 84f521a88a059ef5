-- Lists of texts of known names, and tables that say of each known name whether it is listed.
use Prim.Native.Nat.{zero, suc}
use Rattle.std.proofs.Common.{◌≡◌, ◌<◌, ℕ, List, [], ◌∷◌, ◌||◌, Option, Some, None, sym, ap, ◌∙◌, Bool, true, false, ◌&&◌, length, map, get_or, slice_index, refl, subst, arith}
use Rattle.std.proofs.Math.ListN.{set, replicate, length-set}
use Rattle.std.proofs.Math.Bool.{beq}
use Rattle.std.proofs.lemmas.Bool.{and_parts}
use Rattle.std.proofs.lemmas.List.{get_or-set_same, get_or-set_other, get_or-replicate, length-replicate}
use Rattle.std.proofs.lemmas.Slice.Eq.{bytes_eq-Decides}
use Rattle.std.specs.List.{list_all}
use Rattle.std.specs.Str.{bytes_eq}
use Rattle.hp_elements.specs.declared.known.Known.{Known}
use Rattle.hp_elements.specs.Names.{text_of, index_of, known_of, is_among, lowered}
use Rattle.hp_elements.specs.Slots.{named_at}
use Rattle.hp_elements.proofs.EveryName.{index_below, same_index}
use Rattle.hp_elements.proofs.NameLemmas.{bytes_eq-true, known_of_text, same_text, some_none, true_false}

-- whether a text is that of a name
unfoldable pub is_text : Option Known → List ℕ → Bool
is_text None text = false
is_text (Some name) text = bytes_eq (text_of name) text

pub text_known : (o : Option Known) (text : List ℕ) → is_text o text ≡ true → known_of text ≡ None → ⊥
unfolding is_text
text_known None text h n = true_false (sym h)
text_known (Some name) text h n = some_none name (sym (known_of_text name) ∙ (ap known_of (bytes_eq-true (text_of name) text h) ∙ n))

-- whether each text of a list is that of a known name
abbrev pub texts_known : List (List ℕ) → Bool
texts_known texts = list_all (λ text. is_text (named_at (lowered text)) text) texts

pub differs : (text other : List ℕ) → (text ≡ other → ⊥) → bytes_eq text other ≡ false
differs text other h = go (bytes_eq text other) refl
  where
    go : (b : Bool) → bytes_eq text other ≡ b → b ≡ false
    go true e = absurd (h (bytes_eq-true text other e))
    go false e = refl

-- a text that no known name has is none of them
pub not_among : (texts : List (List ℕ)) (text : List ℕ) → known_of text ≡ None → texts_known texts ≡ true → is_among texts text ≡ false
not_among [] text n known = refl
not_among (t ∷ more) text n known =
    let parts = and_parts (is_text (named_at (lowered t)) t) (texts_known more) known in
    let other : bytes_eq text t ≡ false = differs text t (λ e. text_known (named_at (lowered t)) t parts.0 (ap known_of (sym e) ∙ n)) in
    ap (λ (b : Bool). b || is_among more text) other ∙ not_among more text n parts.1

-- the place of the name that was found; behind all of them where there is none
abbrev place_of : Option Known → ℕ
place_of None = 240
place_of (Some name) = index_of name

-- of each known name, whether its place is listed
abbrev column_of : List ℕ → List Bool
column_of [] = replicate 240 false
column_of (place ∷ places) = set (column_of places) place true

abbrev places_of : List (List ℕ) → List ℕ
places_of texts = map (λ text. place_of (named_at (lowered text))) texts

-- whether the rows and a column say the same of each place
abbrev agree : (ℕ → Bool) → (Bool → Bool) → List ℕ → List Bool → Bool
agree test turned [] [] = true
agree test turned (row ∷ rows) (listed ∷ rest) = beq (test row) (turned listed) && agree test turned rows rest
agree test turned _ _ = false

-- whether the rows say of each known name whether it is listed; the names of the list are looked up once
abbrev pub says : (ℕ → Bool) → (Bool → Bool) → List ℕ → List (List ℕ) → Bool
says test turned rows texts = agree test turned rows (column_of (places_of texts)) && texts_known texts

beq-true : (a b : Bool) → beq a b ≡ true → a ≡ b
beq-true true true h = refl
beq-true false false h = refl
beq-true true false h = absurd (cc)
beq-true false true h = absurd (cc)

at_place : (test : ℕ → Bool) (turned : Bool → Bool) (rows : List ℕ) (column : List Bool) (i : ℕ) → agree test turned rows column ≡ true → i < length column → test (slice_index rows i) ≡ turned (get_or column i false)
at_place test turned rows [] i h lt = absurd (omega arith)
at_place test turned [] (listed ∷ rest) i h lt = absurd (true_false (sym h))
at_place test turned (row ∷ rows) (listed ∷ rest) zero h lt = beq-true _ _ (and_parts (beq (test row) (turned listed)) (agree test turned rows rest) h).0
at_place test turned (row ∷ rows) (listed ∷ rest) (suc i) h lt = at_place test turned rows rest i (and_parts (beq (test row) (turned listed)) (agree test turned rows rest) h).1 (omega arith)

length-column : (places : List ℕ) → length (column_of places) ≡ 240
length-column [] = length-replicate 240 false
length-column (place ∷ places) = length-set (column_of places) place true ∙ length-column places

-- a name that is put into a column
one_more : (o : Option Known) (text : List ℕ) → is_text o text ≡ true → (name : Known) (column : List Bool) → length column ≡ 240
    → get_or (set column (place_of o) true) (index_of name) false ≡ bytes_eq (text_of name) text || get_or column (index_of name) false
unfolding is_text
one_more None text h name column len = absurd (true_false (sym h))
one_more (Some other) text h name column len = go (bytes_eq (text_of name) text) refl
  where
    e : text_of other ≡ text
    e = bytes_eq-true (text_of other) text h

    go : (b : Bool) → bytes_eq (text_of name) text ≡ b → get_or (set column (index_of other) true) (index_of name) false ≡ b || get_or column (index_of name) false
    go true same =
        let own : name ≡ other = same_text name other (bytes_eq-true (text_of name) text same ∙ sym e) in
        ap (λ (n : Known). get_or (set column (index_of other) true) (index_of n) false) own
        ∙ get_or-set_same column (index_of other) true false (subst (λ (n : ℕ). index_of other < n) (sym len) (index_below other))
    go false same =
        get_or-set_other column (index_of other) (index_of name) true false
        (λ i. true_false (sym ((bytes_eq-Decides (text_of name) text).1 (ap text_of (same_index name other i) ∙ e)) ∙ same))

in_column : (texts : List (List ℕ)) (name : Known) → texts_known texts ≡ true → get_or (column_of (places_of texts)) (index_of name) false ≡ is_among texts (text_of name)
in_column [] name known = get_or-replicate 240 (index_of name) false false (index_below name)
in_column (text ∷ more) name known =
    let parts = and_parts (is_text (named_at (lowered text)) text) (texts_known more) known in
    one_more (named_at (lowered text)) text parts.0 name (column_of (places_of more)) (length-column (places_of more))
    ∙ ap (λ (b : Bool). bytes_eq (text_of name) text || b) (in_column more name parts.1)

-- what the rows say of each known name
pub said : (test : ℕ → Bool) (turned : Bool → Bool) (rows : List ℕ) (texts : List (List ℕ)) → says test turned rows texts ≡ true → (name : Known)
    → test (slice_index rows (index_of name)) ≡ turned (is_among texts (text_of name))
said test turned rows texts h name =
    let parts = and_parts (agree test turned rows (column_of (places_of texts))) (texts_known texts) h in
    at_place test turned rows (column_of (places_of texts)) (index_of name) parts.0 (subst (λ (n : ℕ). index_of name < n) (sym (length-column (places_of texts))) (index_below name))
    ∙ ap turned (in_column texts name parts.1)

pub says_known : (test : ℕ → Bool) (turned : Bool → Bool) (rows : List ℕ) (texts : List (List ℕ)) → says test turned rows texts ≡ true → texts_known texts ≡ true
says_known test turned rows texts h = (and_parts (agree test turned rows (column_of (places_of texts))) (texts_known texts) h).1
