-- The grammar of selectors, over code points.
use Rattle.std.specs.Prelude.{ℕ, zero, suc, ◌==◌, ◌||◌, not, Bool, List, [], ◌∷◌, length, drop, Option, None, Some, is_some, if◌then◌else◌, option_and_then, option_map}
use Rattle.std.specs.List.{prefix_len, take_while}
use Rattle.std.specs.Char.{is_ascii_alphabetic, is_ascii_digit}
use Rattle.hp_select.specs.declared.selector.Combinator.{Combinator}
use Rattle.hp_select.specs.declared.selector.Combinator.TheVariants.{Begin, Descendant, Child}
use Rattle.hp_select.specs.declared.selector.Simple.{Simple}
use Rattle.hp_select.specs.declared.selector.Simple.TheVariants.{Universal, OfType, Id, Class, Attribute, Value}
use Rattle.hp_select.specs.declared.selector.Step.{Step}

-- a part that a text begins with, and what stands behind it
abbrev pub Part : Type 0 → Type 0
Part A = Option (A × List ℕ)

infixl 10 ◌>>=◌
abbrev pub ◌>>=◌ : {A B : Type 0} → Option A → (A → Option B) → Option B
o >>= f = option_and_then f o

-- a space is U+0020 alone
abbrev pub is_space : ℕ → Bool
is_space c = c == 0x20

-- a name begins with an ASCII letter or `_`
abbrev pub begins_name : ℕ → Bool
begins_name c = is_ascii_alphabetic c || c == 0x5F

-- behind that come ASCII letters, digits, `-` and `_`
abbrev pub goes_on_name : ℕ → Bool
goes_on_name c = begins_name c || is_ascii_digit c || c == 0x2D

-- a value has no `"` and no backslash
abbrev pub is_in_value : ℕ → Bool
is_in_value c = not (c == 0x22 || c == 0x5C)

-- what stands behind the code points at the front that pass a test
abbrev pub past : (ℕ → Bool) → List ℕ → List ℕ
past test text = drop (prefix_len test text) text

-- what stands behind this code point, where the text begins with it
abbrev pub behind : ℕ → List ℕ → Option (List ℕ)
behind c [] = None
behind c (first ∷ text) = if first == c then Some text else None

-- the name at the front, as long as it can be
abbrev pub name_at : List ℕ → Part (List ℕ)
name_at [] = None
name_at (c ∷ text) = if begins_name c then Some (c ∷ take_while goes_on_name text, past goes_on_name text) else None

-- a name, as a simple selector of a kind
abbrev pub named : (List ℕ → Simple) → List ℕ → Part Simple
named kind text = option_map (λ name. (kind name.0, name.1)) (name_at text)

-- behind `[name="`: a value and `"]`
abbrev pub value_at : List ℕ → List ℕ → Part Simple
value_at name text = do
  quoted ← behind 0x22 (past is_in_value text)
  rest ← behind 0x5D quoted
  Some (Value name (take_while is_in_value text), rest)

-- behind `[name`: `]`, or `="`, a value and `"]`
abbrev pub attribute_end : List ℕ → List ℕ → Part Simple
attribute_end name [] = None
attribute_end name (c ∷ text) =
    if c == 0x5D then Some (Attribute name, text)
    else if c == 0x3D then behind 0x22 text >>= value_at name
    else None

-- behind `[`
abbrev pub attribute_at : List ℕ → Part Simple
attribute_at text = name_at text >>= (λ name. attribute_end name.0 name.1)

-- `#x`, `.x`, `[x]` or `[x="v"]`
abbrev pub simple_at : List ℕ → Part Simple
simple_at [] = None
simple_at (c ∷ text) =
    if c == 0x23 then named Id text
    else if c == 0x2E then named Class text
    else if c == 0x5B then attribute_at text
    else None

-- a type or `*`
abbrev pub type_at : List ℕ → Part Simple
type_at [] = None
type_at (c ∷ text) = if c == 0x2A then Some (Universal, text) else named OfType (c ∷ text)

-- a simple selector, and those that are read behind it; where it isn't there, what else is read
abbrev pub onto : Part Simple → List Simple × List ℕ → (List ℕ → List Simple × List ℕ) → List Simple × List ℕ
onto None other more = other
onto (Some (simple, rest)) other more = (simple ∷ (more rest).0, (more rest).1)

-- the simple selectors at the front, each of which takes a code point at least
unfoldable pub simples_at : ℕ → List ℕ → List Simple × List ℕ
simples_at zero text = ([], text)
simples_at (suc left) text = onto (simple_at text) ([], text) (simples_at left)

abbrev pub all_simples_at : List ℕ → List Simple × List ℕ
all_simples_at text = simples_at (length text) text

-- a compound is a type or `*` or neither, and then any of the others
abbrev pub compound_at : List ℕ → List Simple × List ℕ
compound_at text = onto (type_at text) (all_simples_at text) all_simples_at

-- between two compounds: `,` or `>` with any spaces round it, or spaces
abbrev pub between : Bool → List ℕ → Part Combinator
between spaced [] = if spaced then Some (Descendant, []) else None
between spaced (c ∷ text) =
    if c == 0x2C then Some (Begin, past is_space text)
    else if c == 0x3E then Some (Child, past is_space text)
    else if spaced then Some (Descendant, c ∷ text)
    else None

abbrev pub combinator_at : List ℕ → Part Combinator
combinator_at text = between (is_some (behind 0x20 text)) (past is_space text)

-- a step, and those that are read behind what stands between
abbrev pub step_before : Step → Part Combinator → (Combinator → List ℕ → Option (List Step)) → Option (List Step)
step_before step None more = None
step_before step (Some (next, rest)) more = option_map (λ steps. step ∷ steps) (more next rest)

-- a compound isn't empty, and the text ends with one
abbrev pub compound_before : Combinator → List Simple × List ℕ → (Combinator → List ℕ → Option (List Step)) → Option (List Step)
compound_before before ([], rest) more = None
compound_before before (simple ∷ simples, []) more = Some (record { combinator = before; compound = simple ∷ simples } ∷ [])
compound_before before (simple ∷ simples, c ∷ rest) more =
    step_before (record { combinator = before; compound = simple ∷ simples }) (combinator_at (c ∷ rest)) more

-- the steps of a text, each of which takes a code point at least; what stands before the first is told
unfoldable pub steps_at : ℕ → Combinator → List ℕ → Option (List Step)
steps_at zero before text = None
steps_at (suc left) before text = compound_before before (compound_at text) (steps_at left)

-- the compounds of a selector, each with what stands before it, where the text is one
abbrev pub selector_of : List ℕ → Option (List Step)
selector_of text = steps_at (length text) Begin text
