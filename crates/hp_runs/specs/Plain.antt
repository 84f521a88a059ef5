-- The tree of a page without markup.
use Rattle.std.specs.Prelude.{◌≡◌, ℕ, ◌||◌, ◌==◌, Bool, false, if◌then◌else◌, List, [], ◌∷◌, None, Some, codes}
use Rattle.std.specs.List.{list_any}
use Rattle.hp_elements.specs.declared.sets.Namespace.TheVariants.{Html}
use Rattle.hp_names.specs.References.{Reference}
use Rattle.hp_control.specs.Tree.{Tree, Branch, Item, Element, Text}
use Rattle.hp_runs.specs.Pages.{IsTreeOf}

-- tab, line feed, form feed, carriage return and space (13.2.6.4.1)
abbrev pub is_white : ℕ → Bool
is_white c = c == 0x09 || c == 0x0A || c == 0x0C || c == 0x0D || c == 0x20

-- the text without the white code points at its start
abbrev pub without_leading_white : List ℕ → List ℕ
without_leading_white [] = []
without_leading_white (c ∷ rest) = if is_white c then without_leading_white rest else c ∷ rest

-- `<`, `&`, carriage return and U+0000: these are more than text (13.2.3.5, 13.2.5.1)
abbrev pub is_markup : ℕ → Bool
is_markup c = c == 0x3C || c == 0x26 || c == 0x0D || c == 0x00

abbrev pub has_markup : List ℕ → Bool
has_markup text = list_any is_markup text

-- an HTML element without attributes
abbrev pub plain_element : List ℕ → List Item → Branch
plain_element name inside = record { tag = Some (record { namespace = Html; name = name; attributes = [] }); inside = inside }

-- one text, or no child where there is none
abbrev pub one_text : List ℕ → List Item
one_text [] = []
one_text (c ∷ text) = Text (c ∷ text) ∷ []

-- the document with html, which has head and body; body has these inside
abbrev pub with_body : List Item → Tree
with_body inside =
    record { tag = None; inside = Element 1 ∷ [] }
    ∷ plain_element (codes "html") (Element 2 ∷ Element 3 ∷ [])
    ∷ plain_element (codes "head") []
    ∷ plain_element (codes "body") inside
    ∷ []

-- body has what is left of the text without its leading white code points, which are dropped before it (13.2.6.4.1 to
-- 13.2.6.4.7)
abbrev pub plain : List ℕ → Tree
plain text = with_body (one_text (without_leading_white text))

-- that is the tree of a page without markup
abbrev pub PlainPages : Type 0
PlainPages = (names : List Reference) (page : List ℕ) → has_markup page ≡ false → IsTreeOf names page (plain page)
