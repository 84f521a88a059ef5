-- What holds of each known name is shown by a test that runs over all of them.
use Rattle.std.proofs.Common.{◌≡◌, ◌<◌, ℕ, List, map, length, Bool, true, get_or, subst, refl, sym, ap, ◌∙◌, lit<, codes}
use Rattle.std.proofs.lemmas.Bool.{agree_below, agree_below_at}
use Rattle.std.proofs.lemmas.List.{get_or-map, length-map}
use Rattle.hp_elements.specs.declared.known.Known.{Known}
use Rattle.hp_elements.specs.declared.known.Known.TheVariants.{Element, Attribute}
use Rattle.hp_elements.specs.declared.element_name.ElementName.TheVariants as element
use Rattle.hp_elements.specs.declared.attribute_name.AttributeName.TheVariants as attribute
use Rattle.hp_elements.specs.KnownNames as k
use Rattle.hp_elements.specs.Names.{index_of, every, text_of}

pub known_at : (name : Known) → get_or every (index_of name) k.A ≡ name
known_at (Element element.A) = refl
known_at (Attribute attribute.Actuate) = refl
known_at _ = refl

pub index_below : (name : Known) → index_of name < 240
index_below (Element element.A) = lit< tt
index_below (Attribute attribute.Actuate) = lit< tt
index_below _ = lit< tt

-- whether each name passes the test
abbrev pub each_passes : (Known → Bool) → Bool
each_passes p = agree_below (λ i. p (get_or every i k.A)) (λ _. true) 240

pub at_every : (p : Known → Bool) → each_passes p ≡ true → (name : Known) → p name ≡ true
at_every p h name = subst (λ x. p x ≡ true) (known_at name) (agree_below_at (λ i. p (get_or every i k.A)) (λ _. true) 240 (index_of name) h (index_below name))

-- what two functions say alike of each name of the list, they say alike of each name
pub alike_at_every : {X : Type 0} (f g : Known → X) → map f every ≡ map g every → (name : Known) → f name ≡ g name
alike_at_every {X} f g e name =
    let there = λ (h : Known → X). get_or-map h every (index_of name) k.A (f k.A) (index_below name) ∙ ap h (known_at name) in
    sym (there f) ∙ (ap (λ (xs : List X). get_or xs (index_of name) (f k.A)) e ∙ there g)

-- a name is known by its place
pub same_index : (a b : Known) → index_of a ≡ index_of b → a ≡ b
same_index a b e = sym (known_at a) ∙ (ap (λ (i : ℕ). get_or every i k.A) e ∙ known_at b)

-- a table of all texts has a place for each name
table_length : {X : Type 0} (now : X → List ℕ) (table : List X) → map now table ≡ map text_of every → length table ≡ 240
table_length now table e = sym (length-map table now) ∙ (ap length e ∙ length-map every text_of)

pub in_table : {X : Type 0} (now : X → List ℕ) (table : List X) (i : ℕ) (name : Known) → i ≡ index_of name → map now table ≡ map text_of every → i < length table
in_table now table i name p e = rw (p, table_length now table e) (index_below name)

-- what a table of all texts has at a name's place
text_at : {X : Type 0} (now : X → List ℕ) (table : List X) (d : X) (name : Known) → map now table ≡ map text_of every → length table ≡ 240 → now (get_or table (index_of name) d) ≡ text_of name
text_at now table d name e len =
    let below : index_of name < length table = subst (λ (n : ℕ). index_of name < n) (sym len) (index_below name) in
    sym (get_or-map now table (index_of name) d (codes "a") below)
    ∙ (ap (λ (ts : List (List ℕ)). get_or ts (index_of name) (codes "a")) e ∙ (get_or-map text_of every (index_of name) k.A (codes "a") (index_below name) ∙ ap text_of (known_at name)))

pub text_in_table : {X : Type 0} (now : X → List ℕ) (table : List X) (d : X) (i : ℕ) (name : Known) → i ≡ index_of name → map now table ≡ map text_of every → now (get_or table i d) ≡ text_of name
text_in_table {X} now table d i name p e =
    ap (λ (n : ℕ). now (get_or table n d)) p ∙ text_at now table d name e (table_length now table e)
