-- The attributes that make a MathML annotation-xml an integration point of HTML (13.2.6).
use Rattle.std.specs.Prelude.{◌≡◌, ℕ, Bool, true, false, ◌&&◌, ◌||◌, List, [], ◌∷◌, codes, refl}
use Rattle.std.specs.List.{list_any}
use Rattle.std.specs.Str.{bytes_eq, chars}
use Rattle.std.proofs.Common.{ap, ◌∙◌}
use Rattle.hp_elements.specs.Names.{text_of, lowered}
use Rattle.hp_elements.specs.KnownNames as known
use Rattle.hp_elements.specs.declared.tag.Attribute.{Attribute}
use Rattle.hp_control.specs.Acts.{encodes_html}

-- an encoding of one of two values, without ASCII case
abbrev pub encodes_as : List ℕ → List ℕ → Attribute → Bool
encodes_as html xhtml a = bytes_eq a.name (text_of known.Encoding) && (bytes_eq (lowered a.value) (lowered html) || bytes_eq (lowered a.value) (lowered xhtml))

either : (a b c : Bool) → (a && (b || c)) ≡ (a && (b || (c || false)))
either false b c = refl
either true true c = refl
either true false true = refl
either true false false = refl

one_alike : (a : Attribute) → encodes_as (chars (codes "text/html")) (chars (codes "application/xhtml+xml")) a ≡ encodes_html a
unfolding chars
one_alike a = either (bytes_eq a.name (codes "encoding")) (bytes_eq (lowered a.value) (codes "text/html")) (bytes_eq (lowered a.value) (codes "application/xhtml+xml"))

pub encodings_alike : (attributes : List Attribute) → list_any (encodes_as (chars (codes "text/html")) (chars (codes "application/xhtml+xml"))) attributes ≡ list_any encodes_html attributes
encodings_alike [] = refl
encodings_alike (a ∷ as_) =
    ap (λ b. b || list_any (encodes_as (chars (codes "text/html")) (chars (codes "application/xhtml+xml"))) as_) (one_alike a)
    ∙ ap (λ b. encodes_html a || b) (encodings_alike as_)
