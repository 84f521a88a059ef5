-- How much of a text is left behind its parts.
use Rattle.std.proofs.Common.{ℕ, ◌≤◌, List, [], ◌∷◌, length, arith, length-drop}
use Rattle.std.specs.Prelude.{Bool, true, false, ◌==◌, Option, None, Some, is_some, if◌then◌else◌, option_map}
use Rattle.std.specs.List.{prefix_len, take_while}
use Rattle.hp_select.specs.declared.selector.Combinator.TheVariants.{Begin, Descendant, Child}
use Rattle.hp_select.specs.declared.selector.Simple.TheVariants.{Universal, OfType, Id, Class, Attribute, Value}
use Rattle.hp_select.specs.Grammar.{Part, ◌>>=◌, attribute_at, attribute_end, begins_name, behind, between, combinator_at, goes_on_name, is_in_value, is_space, name_at, named, past, simple_at, type_at, value_at}

-- no more than so much is left behind a part
abbrev pub Within : {A : Type 0} → ℕ → Part A → Type 0
Within n None = Unit {0}
Within n (Some part) = length part.1 ≤ n

abbrev WithinText : ℕ → Option (List ℕ) → Type 0
WithinText n None = Unit {0}
WithinText n (Some rest) = length rest ≤ n

within-cond : {A : Type 0} → (n : ℕ) (b : Bool) (o p : Part A) → Within n o → Within n p → Within n (if b then o else p)
within-cond n true o p h g = h
within-cond n false o p h g = g

within-map : {A B : Type 0} → (n : ℕ) (f : A → B) (o : Part A) → Within n o → Within n (option_map (λ (part : A × List ℕ). (f part.0, part.1)) o)
within-map n f None h = tt
within-map n f (Some part) h = h

within-then : {A B : Type 0} → (n : ℕ) (o : Part A) (f : A × List ℕ → Part B) → Within n o → ((part : A × List ℕ) → length part.1 ≤ n → Within n (f part)) → Within n (o >>= f)
within-then n None f h g = tt
within-then n (Some part) f h g = g part h

text-then : {B : Type 0} → (n : ℕ) (o : Option (List ℕ)) (f : List ℕ → Part B) → WithinText n o → ((rest : List ℕ) → length rest ≤ n → Within n (f rest)) → Within n (o >>= f)
text-then n None f h g = tt
text-then n (Some rest) f h g = g rest h

text-cond : (n : ℕ) (b : Bool) (text : List ℕ) → length text ≤ n → WithinText n (if b then Some text else None)
text-cond n true text h = h
text-cond n false text h = tt

behind-within : (c : ℕ) (text : List ℕ) (n : ℕ) → length text ≤ n → WithinText n (behind c text)
behind-within c [] n h = tt
behind-within c (first ∷ text) n h = text-cond n (first == c) text (omega arith)

past-within : (test : ℕ → Bool) (text : List ℕ) → length (past test text) ≤ length text
past-within test text = omega (arith, length-drop (prefix_len test text) text)

name-within : (text : List ℕ) (n : ℕ) → length text ≤ n → Within n (name_at text)
name-within [] n h = tt
name-within (c ∷ text) n h = within-cond n (begins_name c) (Some (c ∷ take_while goes_on_name text, past goes_on_name text)) None (omega (arith, past-within goes_on_name text)) tt

value-within : (name text : List ℕ) (n : ℕ) → length text ≤ n → Within n (value_at name text)
value-within name text n h =
    text-then n (behind 0x22 (past is_in_value text)) (λ quoted. behind 0x5D quoted >>= (λ rest. Some (Value name (take_while is_in_value text), rest)))
    (behind-within 0x22 (past is_in_value text) n (omega (arith, past-within is_in_value text)))
    (λ quoted g. text-then n (behind 0x5D quoted) (λ rest. Some (Value name (take_while is_in_value text), rest)) (behind-within 0x5D quoted n g) (λ rest k. k))

end-within : (name text : List ℕ) (n : ℕ) → length text ≤ n → Within n (attribute_end name text)
end-within name [] n h = tt
end-within name (c ∷ text) n h =
    within-cond n (c == 0x5D) (Some (Attribute name, text)) (if c == 0x3D then behind 0x22 text >>= value_at name else None) (omega arith)
    (within-cond n (c == 0x3D) (behind 0x22 text >>= value_at name) None
    (text-then n (behind 0x22 text) (value_at name) (behind-within 0x22 text n (omega arith)) (λ rest g. value-within name rest n g)) tt)

attribute-within : (text : List ℕ) (n : ℕ) → length text ≤ n → Within n (attribute_at text)
attribute-within text n h = within-then n (name_at text) (λ name. attribute_end name.0 name.1) (name-within text n h) (λ name g. end-within name.0 name.1 n g)

-- a simple selector takes a code point at least
pub simple-short : (c : ℕ) (text : List ℕ) → Within (length text) (simple_at (c ∷ text))
simple-short c text =
    let n = length text in
    let same : length text ≤ n = omega arith in
    within-cond n (c == 0x23) (named Id text) (if c == 0x2E then named Class text else if c == 0x5B then attribute_at text else None) (within-map n Id (name_at text) (name-within text n same))
    (within-cond n (c == 0x2E) (named Class text) (if c == 0x5B then attribute_at text else None) (within-map n Class (name_at text) (name-within text n same))
    (within-cond n (c == 0x5B) (attribute_at text) None (attribute-within text n same) tt))

pub type-short : (c : ℕ) (text : List ℕ) → Within (length text) (type_at (c ∷ text))
type-short c text =
    let n = length text in
    within-cond n (c == 0x2A) (Some (Universal, text)) (named OfType (c ∷ text)) (omega arith)
    (within-map n OfType (name_at (c ∷ text))
    (within-cond n (begins_name c) (Some (c ∷ take_while goes_on_name text, past goes_on_name text)) None (past-within goes_on_name text) tt))

between-within : (spaced : Bool) (text : List ℕ) (n : ℕ) → length text ≤ n → Within n (between spaced text)
between-within spaced [] n h = within-cond n spaced (Some (Descendant, [])) None h tt
between-within spaced (c ∷ text) n h =
    within-cond n (c == 0x2C) (Some (Begin, past is_space text)) (if c == 0x3E then Some (Child, past is_space text) else if spaced then Some (Descendant, c ∷ text) else None) (omega (arith, past-within is_space text))
    (within-cond n (c == 0x3E) (Some (Child, past is_space text)) (if spaced then Some (Descendant, c ∷ text) else None) (omega (arith, past-within is_space text))
    (within-cond n spaced (Some (Descendant, c ∷ text)) None h tt))

pub combinator-within : (text : List ℕ) (n : ℕ) → length text ≤ n → Within n (combinator_at text)
combinator-within text n h = between-within (is_some (behind 0x20 text)) (past is_space text) n (omega (arith, past-within is_space text))
