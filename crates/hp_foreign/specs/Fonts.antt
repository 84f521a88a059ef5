-- The attributes that make a start tag font one that ends foreign content (13.2.6.5).
use Rattle.std.specs.Prelude.{◌≡◌, Bool, true, false, ◌||◌, List, [], ◌∷◌, refl}
use Rattle.std.specs.List.{list_any}
use Rattle.std.specs.Str.{bytes_eq}
use Rattle.std.proofs.Common.{ap, ◌∙◌}
use Rattle.hp_elements.specs.Names.{text_of, words, is_among}
use Rattle.hp_elements.specs.KnownNames as known
use Rattle.hp_elements.specs.declared.tag.Attribute.{Attribute}

abbrev pub is_font_attribute : Attribute → Bool
is_font_attribute a = bytes_eq a.name (text_of known.Color) || bytes_eq a.name (text_of known.Face) || bytes_eq a.name (text_of known.Size)

three : (a b c : Bool) → (a || b || c) ≡ (a || (b || (c || false)))
three true b c = refl
three false true c = refl
three false false true = refl
three false false false = refl

pub font_alike : (attributes : List Attribute) → list_any is_font_attribute attributes ≡ list_any (λ (a : Attribute). is_among (words "color face size") a.name) attributes
font_alike [] = refl
font_alike (a ∷ as_) =
    ap (λ b. b || list_any is_font_attribute as_) (three (bytes_eq a.name (text_of known.Color)) (bytes_eq a.name (text_of known.Face)) (bytes_eq a.name (text_of known.Size)))
    ∙ ap (λ b. is_among (words "color face size") a.name || b) (font_alike as_)
