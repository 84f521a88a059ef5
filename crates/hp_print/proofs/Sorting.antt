-- Attributes that are put into order.
use Rattle.std.proofs.Common.{◌≡◌, ℕ, suc, ◌+◌, ◌<◌, Bool, true, false, not, List, [], ◌∷◌, ◌++◌, drop, length, get_or, refl, ap, sym, ◌∙◌, append_assoc, append-nil, add-one, arith}
use Rattle.std.specs.List.{list_all}
use Rattle.std.specs.Str.{chars, IsAscii}
use Rattle.std.specs.Prelude.{nat_lt}
use Rattle.std.proofs.lemmas.Bool.{and_parts, true≢false}
use Rattle.std.proofs.lemmas.Bool.Decides.{nat_tests}
use Rattle.std.proofs.lemmas.List.{get_or_default}
use Rattle.std.proofs.lemmas.Str.{chars-IsAscii, chars-nil}
use Rattle.std.proofs.lemmas.Str.Ascii.{IsAscii-cons}
use Rattle.std.proofs.Math.Seq.{drop-cons}
use Rattle.hp_elements.specs.declared.tag.Attribute.{Attribute}
use Rattle.hp_elements.specs.declared.tag.AttributeSpace.{AttributeSpace}
use Rattle.hp_elements.specs.declared.tag.AttributeSpace.TheVariants.{Plain, Xlink, Xml, Xmlns}
use Rattle.hp_print.specs.declared.attributes.Shown.{Shown}
use Rattle.hp_print.specs.Order.{comes_before, in_order, placed, space_word}
use Rattle.hp_print.specs.Print.{attribute_line, attribute_lines}
use Rattle.hp_print.specs.Shown.{attribute_of, attributes_of}
use Rattle.hp_print.proofs.Stable.{placed_none}

-- fewer than two are in order
pub few_in_order : (attributes : List Attribute) → length attributes < 2 → attributes ≡ in_order attributes
few_in_order [] h = refl
few_in_order (a ∷ []) h = sym (placed_none comes_before a)
few_in_order (a ∷ b ∷ rest) h = absurd (omega arith)

-- one attribute more
pub lines_next : (depth : ℕ) (done : List ℕ) (xs : List Shown) (i : ℕ) (x : Shown) → i < length xs → get_or xs i x ≡ x
    → (done ++ attribute_line depth (attribute_of x)) ++ attribute_lines depth (attributes_of (drop (i + 1) xs)) ≡ done ++ attribute_lines depth (attributes_of (drop i xs))
lines_next depth done xs i x lt is =
    let here : drop i xs ≡ x ∷ drop (suc i) xs = drop-cons xs i x lt ∙ ap (λ y. y ∷ drop (suc i) xs) is in
    rw (here, add-one) (append_assoc done (attribute_line depth (attribute_of x)) (attribute_lines depth (attributes_of (drop (suc i) xs))))

-- what stands past the last attribute
abbrev pub blank : Shown
blank = record { space = Plain; name = record { ref_ptr = (0, 0); now = [] }; value = record { ref_ptr = (0, 0); now = [] } }

pub read_again : (xs : List Shown) (i : ℕ) → i < length xs → get_or xs i (get_or xs i blank) ≡ get_or xs i blank
read_again xs i lt = get_or_default xs i (get_or xs i blank) blank lt

ascii : (bs : List ℕ) → list_all (λ b. nat_lt b 128) bs ≡ true → IsAscii bs
ascii [] h = λ i. omega arith
ascii (b ∷ bs) h =
    let parts = and_parts (nat_lt b 128) (list_all (λ c. nat_lt c 128) bs) h in
    let low : b < 128 = grind (arith, nat_tests) in
    IsAscii-cons b bs low (ascii bs parts.1)

-- the words before names are ASCII
pub chars_word : (space : AttributeSpace) → chars (space_word space) ≡ space_word space
chars_word Plain = chars-nil
chars_word Xlink = chars-IsAscii (space_word Xlink) (ascii (space_word Xlink) refl)
chars_word Xml = chars-IsAscii (space_word Xml) (ascii (space_word Xml) refl)
chars_word Xmlns = chars-IsAscii (space_word Xmlns) (ascii (space_word Xmlns) refl)

-- two of which the second doesn't come before the first are in order
two_in_order : (a b : Attribute) → comes_before b a ≡ false → a ∷ b ∷ [] ≡ in_order (a ∷ b ∷ [])
unfolding placed
two_in_order a b e = rw e refl

-- two of which it does change places
two_changed : (a b : Attribute) → comes_before b a ≡ true → b ∷ a ∷ [] ≡ in_order (a ∷ b ∷ [])
unfolding placed
two_changed a b e = rw e refl

not_true : (b : Bool) → not b ≡ true → b ≡ false
not_true true e = absurd (true≢false (sym e))
not_true false e = refl

not_false : (b : Bool) → not b ≡ false → b ≡ true
not_false true e = refl
not_false false e = absurd (true≢false e)

empty_rest : (xs : List Attribute) → length xs ≡ 0 → xs ≡ []
empty_rest [] e = refl
empty_rest (x ∷ xs) e = absurd (omega arith)

-- the two that were taken out, where there are two
pub two_are : (attributes rest more : List Attribute) (a b x y : Attribute) → attributes ≡ a ∷ rest → rest ≡ b ∷ more → length attributes ≡ 2 → x ≡ a → y ≡ b → attributes ≡ x ∷ y ∷ []
two_are attributes rest more a b x y e f two ea eb =
    let none : more ≡ [] = empty_rest more (omega (arith, ap length e, ap length f)) in
    e ∙ ap (λ r. a ∷ r) f ∙ ap (λ m. a ∷ b ∷ m) none ∙ ap (λ z. z ∷ b ∷ []) (sym ea) ∙ ap (λ z. x ∷ z ∷ []) (sym eb)

-- the lines of two that stand in order
pub two_kept : (depth : ℕ) (attributes : List Attribute) (x y : Attribute) (tells : Bool) → attributes ≡ x ∷ y ∷ [] → tells ≡ not (comes_before y x) → tells ≡ true
    → attribute_line depth x ++ attribute_line depth y ≡ attribute_lines depth (in_order attributes)
two_kept depth attributes x y tells is e so =
    ap (λ l. attribute_line depth x ++ l) (sym (append-nil (attribute_line depth y)))
    ∙ ap (attribute_lines depth) (two_in_order x y (not_true (comes_before y x) (sym e ∙ so)))
    ∙ ap (λ all. attribute_lines depth (in_order all)) (sym is)

-- the lines of two that change places
pub two_turned : (depth : ℕ) (attributes : List Attribute) (x y : Attribute) (tells : Bool) → attributes ≡ x ∷ y ∷ [] → tells ≡ not (comes_before y x) → tells ≡ false
    → attribute_line depth y ++ attribute_line depth x ≡ attribute_lines depth (in_order attributes)
two_turned depth attributes x y tells is e so =
    ap (λ l. attribute_line depth y ++ l) (sym (append-nil (attribute_line depth x)))
    ∙ ap (attribute_lines depth) (two_changed x y (not_false (comes_before y x) (sym e ∙ so)))
    ∙ ap (λ all. attribute_lines depth (in_order all)) (sym is)
