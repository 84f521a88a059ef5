-- The tags of a text, as they are seen without a lexer.
use Rattle.std.specs.Prelude.{◌≡◌, ℕ, Bool, true, false, not, ◌==◌, ◌&&◌, ◌||◌, if◌then◌else◌, List, [], ◌∷◌, drop, Option, None, Some}
use Rattle.std.specs.Char.{is_ascii_alphabetic, is_ascii_alphanumeric}
use Rattle.std.specs.List.{take_while, list_any, filter}
use Rattle.hp_elements.specs.Names.{lowered, words, is_among}
use Rattle.hp_elements.specs.Sets.{in_set}
use Rattle.hp_elements.specs.declared.sets.Namespace.TheVariants.{Html}
use Rattle.hp_elements.specs.declared.sets.SetName.TheVariants.{Void}

-- whether it is an end tag, and its name in lower case
pub record SeenTag : Type 0 where
  pub is_end : Bool
  pub name : List ℕ

-- the longest run of ASCII letters and digits at the front of a text, in lower case
abbrev pub name_at : List ℕ → List ℕ
name_at text = lowered (take_while is_ascii_alphanumeric text)

-- a letter stands at the front of the text
abbrev pub begins_with_letter : List ℕ → Bool
begins_with_letter [] = false
begins_with_letter (c ∷ cs) = is_ascii_alphabetic c

-- a tag's name as it stands in a text: a letter, and then letters and digits
pub record IsTagName (name : List ℕ) : Type 0 where
  pub first : begins_with_letter name ≡ true
  pub whole : take_while is_ascii_alphanumeric name ≡ name

abbrev pub begins_with_slash : List ℕ → Bool
begins_with_slash [] = false
begins_with_slash (c ∷ cs) = c == 47

-- the tag whose name stands at the front of a text, where a letter does
abbrev pub named : Bool → List ℕ → Option SeenTag
named is_end text = if begins_with_letter text then Some (record { is_end = is_end; name = name_at text }) else None

-- the tag whose `<` stands before a text
abbrev pub tag_after : List ℕ → Option SeenTag
tag_after text = if begins_with_slash text then named true (drop 1 text) else named false text

-- whether the text has a `>`
abbrev pub has_end : List ℕ → Bool
has_end text = list_any (λ c. c == 62) text

-- the tag that begins with a code point and the text after it: a tag without a `>` isn't one
abbrev pub tag_at : ℕ → List ℕ → Option SeenTag
tag_at c cs = if (c == 60) && has_end cs then tag_after cs else None

-- the tags of a text; each goes on to the next `>`, and it is said whether the text begins inside one
unfoldable pub tags : Bool → List ℕ → List SeenTag
tags inside [] = []
tags true (c ∷ cs) = tags (not (c == 62)) cs
tags false (c ∷ cs) = elim (tag_at c cs) [ None ↦ tags false cs | Some tag ↦ tag ∷ tags true cs ]

-- whether a tag of that name says what stands open: a void element doesn't, and html, head and body stand open anyway
abbrev pub counts : List ℕ → Bool
counts name = not (in_set Void Html name || is_among (words "html head body") name)

-- those that count
abbrev pub counting : List SeenTag → List SeenTag
counting seen = filter (λ (tag : SeenTag). counts tag.name) seen

-- the tags of a text that count
abbrev pub counted_tags : List ℕ → List SeenTag
counted_tags text = counting (tags false text)
