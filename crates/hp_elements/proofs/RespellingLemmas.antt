-- The tables of respellings say of each name what the lists of specs/ say.
use Rattle.std.proofs.Common.{◌≡◌, ◌==◌, ◌<◌, ◌≤◌, ℕ, List, [], ◌∷◌, ◌||◌, Option, Some, None, sym, ap, ◌∙◌, Bool, true, false, cond, not, bit_and, slice_get, slice_index, ◌-◌, arith, refl}
use Rattle.std.proofs.Math.Dec.{ltb}
use Rattle.std.proofs.lemmas.Bool.{and_parts, ltb-true, lt-ltb}
use Rattle.std.proofs.lemmas.Slice.Eq.{bytes_eq-Decides}
use Rattle.std.specs.List.{find, list_all}
use Rattle.std.specs.Option.{unwrap_or, option_map}
use Rattle.std.specs.Str.{bytes_eq, chars, IsUtf8}
use Rattle.hp_elements.specs.declared.known.Known.{Known}
use Rattle.hp_elements.specs.KnownNames as k
use Rattle.hp_elements.specs.declared.respelling.Respelling.{Respelling}
use Rattle.hp_elements.specs.declared.respelling.Respelling.TheVariants as r
use Rattle.hp_elements.specs.declared.respelling.TheConstants.{FOREIGN}
use Rattle.hp_elements.specs.declared.tag.AttributeSpace.{AttributeSpace}
use Rattle.hp_elements.specs.Names.{text_of, index_of, known_of, is_among, lowered}
use Rattle.hp_elements.specs.Respelling.{bit_of, respellings, respelling_of, spellings_of, foreign_attributes, foreign_attribute_of}
use Rattle.hp_elements.specs.Slots.{named_at, slots}
use Rattle.hp_elements.proofs.EveryName.{alike_at_every}
use Rattle.hp_elements.proofs.FindLemmas.{lowered_twice}
use Rattle.hp_elements.proofs.Lowering.{lowered_utf8, lowered_chars}
use Rattle.hp_elements.proofs.NameLemmas.{bytes_eq-true, at_its_number, known_chars, known_utf8, true_false}
use Rattle.hp_elements.proofs.ListedNames.{is_text, texts_known, differs, text_known, says, said, says_known}
use Rattle.hp_elements.proofs.TextLemmas.{same_bytes}

-- whether a row has the bit of a table
abbrev has_bit : Respelling → ℕ → Bool
has_bit table row = not (bit_and row (bit_of table) == 0)

tables_right : (table : Respelling) → says (has_bit table) (λ b. b) respellings (spellings_of table) ≡ true
unfolding respellings named_at slots is_text
tables_right r.SvgNames = refl
tables_right r.SvgAttributes = refl
tables_right r.MathMlAttributes = refl

pub tables_agree : (table : Respelling) (name : Known) → not (bit_and (slice_index respellings (index_of name)) (bit_of table) == 0) ≡ is_among (spellings_of table) (text_of name)
tables_agree table name = said (has_bit table) (λ b. b) respellings (spellings_of table) (tables_right table) name

-- names of one lower case are one
same_lower : (a b : Known) → lowered (text_of a) ≡ lowered (text_of b) → a ≡ b
same_lower a b e = ap (λ (o : Option Known). unwrap_or o k.A) (sym (at_its_number a) ∙ (ap named_at e ∙ at_its_number b))

lower_chars : (name : Known) → chars (lowered (text_of name)) ≡ lowered (text_of name)
lower_chars name = lowered_chars (text_of name) (known_utf8 name) ∙ ap lowered (known_chars name)

-- a text in UTF-8 that is the lower case of a known name
pub lower_bytes : (bytes : List ℕ) (name : Known) → IsUtf8 bytes → lowered (text_of name) ≡ chars bytes → lowered (text_of name) ≡ bytes
lower_bytes bytes name u e = same_bytes (lowered (text_of name)) bytes (lowered_utf8 (text_of name) (known_utf8 name)) u (lower_chars name ∙ e)

pub lower_chars_of : (bytes : List ℕ) (name : Known) → lowered (text_of name) ≡ bytes → lowered (text_of name) ≡ chars bytes
lower_chars_of bytes name e = sym (lower_chars name) ∙ ap chars e

pub lower_meets : (bytes : List ℕ) (name : Known) → lowered (text_of name) ≡ bytes → lowered (text_of name) ≡ lowered bytes
lower_meets bytes name e = sym (lowered_twice (text_of name)) ∙ ap lowered e

spellings_known : (table : Respelling) → texts_known (spellings_of table) ≡ true
spellings_known table = says_known (has_bit table) (λ b. b) respellings (spellings_of table) (tables_right table)

name_of_text : (o : Option Known) (text : List ℕ) → is_text o text ≡ true → (name : Known) × (text_of name ≡ text)
unfolding is_text
name_of_text None text h = absurd (true_false (sym h))
name_of_text (Some name) text h = (name, bytes_eq-true (text_of name) text h)

-- a text that is no known name's lower case is the lower case of no spelling
none_in : (spellings : List (List ℕ)) (text : List ℕ) → ((name : Known) → lowered (text_of name) ≡ text → ⊥) → texts_known spellings ≡ true → respelling_of spellings text ≡ None
none_in [] text h known = refl
none_in (s ∷ more) text h known =
    let parts = and_parts (is_text (named_at (lowered s)) s) (texts_known more) known in
    let name = name_of_text (named_at (lowered s)) s parts.0 in
    let other : bytes_eq (lowered s) text ≡ false = differs (lowered s) text (λ e. h name.0 (ap lowered name.1 ∙ e)) in
    ap (λ (b : Bool). cond b (Some s) (respelling_of more text)) other ∙ none_in more text h parts.1

-- the lower case of a known name is that of a spelling where the name is one
some_in : (spellings : List (List ℕ)) (text : List ℕ) (name : Known) → lowered (text_of name) ≡ text → texts_known spellings ≡ true
    → respelling_of spellings text ≡ cond (is_among spellings (text_of name)) (Some (text_of name)) None
some_in [] text name e known = refl
some_in (s ∷ more) text name e known =
    let parts = and_parts (is_text (named_at (lowered s)) s) (texts_known more) known in
    let own = name_of_text (named_at (lowered s)) s parts.0 in
    go own.0 own.1 (some_in more text name e parts.1) (bytes_eq (text_of name) s) refl
  where
    go : (own : Known) → text_of own ≡ s → respelling_of more text ≡ cond (is_among more (text_of name)) (Some (text_of name)) None → (b : Bool) → bytes_eq (text_of name) s ≡ b
        → cond (bytes_eq (lowered s) text) (Some s) (respelling_of more text) ≡ cond (b || is_among more (text_of name)) (Some (text_of name)) None
    go own is rest true p =
        let same : text_of name ≡ s = bytes_eq-true (text_of name) s p in
        let here : bytes_eq (lowered s) text ≡ true = (bytes_eq-Decides (lowered s) text).1 (ap lowered (sym same) ∙ e) in
        ap (λ (b : Bool). cond b (Some s) (respelling_of more text)) here ∙ ap Some (sym same)
    go own is rest false p =
        let other : bytes_eq (lowered s) text ≡ false = differs (lowered s) text (λ q.
        let one : name ≡ own = same_lower name own (e ∙ (sym q ∙ ap lowered (sym is))) in
        true_false (sym ((bytes_eq-Decides (text_of name) s).1 (ap text_of one ∙ is)) ∙ p)) in
        ap (λ (b : Bool). cond b (Some s) (respelling_of more text)) other ∙ rest

pub same_some : (a b : Known) → Some a ≡ Some b → a ≡ b
same_some a b e = cc

pub no_respelling : (table : Respelling) (text : List ℕ) → ((name : Known) → lowered (text_of name) ≡ text → ⊥) → None ≡ respelling_of (spellings_of table) text
no_respelling table text h = sym (none_in (spellings_of table) text h (spellings_known table))

pub is_respelling : (table : Respelling) (text : List ℕ) (name : Known) (b : Bool) → lowered (text_of name) ≡ text → is_among (spellings_of table) (text_of name) ≡ b
    → cond b (Some (text_of name)) None ≡ respelling_of (spellings_of table) text
is_respelling table text name b e p =
    ap (λ (b : Bool). cond b (Some (text_of name)) None) (sym p) ∙ sym (some_in (spellings_of table) text name e (spellings_known table))

not_in : (rows : List (List ℕ × AttributeSpace × List ℕ)) (text : List ℕ) → known_of text ≡ None → list_all (λ a. is_text (named_at (lowered a.0)) a.0) rows ≡ true → find (λ a. bytes_eq a.0 text) rows ≡ None
not_in [] text n known = refl
not_in (a ∷ more) text n known =
    let parts = and_parts (is_text (named_at (lowered a.0)) a.0) (list_all (λ a. is_text (named_at (lowered a.0)) a.0) more) known in
    let other : bytes_eq a.0 text ≡ false = differs a.0 text (λ e. text_known (named_at (lowered a.0)) a.0 parts.0 (ap known_of e ∙ n)) in
    ap (λ (b : Bool). cond b (Some a) (find (λ a. bytes_eq a.0 text) more)) other ∙ not_in more text n parts.1

foreign_known : list_all (λ a. is_text (named_at (lowered a.0)) a.0) foreign_attributes ≡ true
unfolding named_at slots is_text
foreign_known = refl

-- a name that is no known one has no namespace
pub not_foreign : (text : List ℕ) → known_of text ≡ None → None ≡ foreign_attribute_of text
not_foreign text n = ap (option_map (λ a. (a.1, a.2))) (sym (not_in foreign_attributes text n foreign_known))

-- the namespace and the local name in a row of the table of those attributes
abbrev pub row_has : AttributeSpace × Known → AttributeSpace × List ℕ
row_has row = (row.0, text_of row.1)

-- what the table says at a name's place
abbrev foreign_at : ℕ → Option (AttributeSpace × List ℕ)
foreign_at place = cond (ltb place 227) None (option_map row_has (slice_get FOREIGN (place - 227)))

each_foreign : (name : Known) → foreign_at (index_of name) ≡ foreign_attribute_of (text_of name)
each_foreign name = alike_at_every (λ n. foreign_at (index_of n)) (λ n. foreign_attribute_of (text_of n)) refl name

pub none_before : (name : Known) (place : ℕ) → place ≡ index_of name → place < 227 → None ≡ foreign_attribute_of (text_of name)
none_before name place p h =
    sym (ap (λ (b : Bool). cond b None (option_map row_has (slice_get FOREIGN (place - 227)))) (lt-ltb place 227 h)) ∙ (ap foreign_at p ∙ each_foreign name)

pub foreign_row : (name : Known) (place : ℕ) (row : Option (AttributeSpace × Known)) → place ≡ index_of name → 227 ≤ place → row ≡ slice_get FOREIGN (place - 227) → option_map row_has row ≡ foreign_attribute_of (text_of name)
foreign_row name place row p h is = ap (option_map row_has) is ∙ (go (ltb place 227) refl ∙ (ap foreign_at p ∙ each_foreign name))
  where
    rest : Option (AttributeSpace × List ℕ)
    rest = option_map row_has (slice_get FOREIGN (place - 227))

    go : (b : Bool) → ltb place 227 ≡ b → rest ≡ cond b None rest
    go true e = let low : place < 227 = ltb-true place 227 e in absurd (omega arith)
    go false e = refl
