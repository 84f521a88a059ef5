-- Names and attributes that foreign elements have in another spelling than the page (13.2.6.1, 13.2.6.5).
use Rattle.std.specs.Prelude.{ℕ, List, [], ◌∷◌, Option, codes}
use Rattle.std.specs.List.{find}
use Rattle.std.specs.Option.{option_map}
use Rattle.std.specs.Str.{bytes_eq}
use Rattle.hp_elements.specs.Names.{words, lowered}
use Rattle.hp_elements.specs.declared.respelling.Respelling.{Respelling}
use Rattle.hp_elements.specs.declared.respelling.Respelling.TheVariants.{SvgNames, SvgAttributes, MathMlAttributes}
use Rattle.hp_elements.specs.declared.respelling.TheConstants.{RESPELLINGS}
use Rattle.hp_elements.specs.declared.tag.AttributeSpace.{AttributeSpace}
use Rattle.hp_elements.specs.declared.tag.AttributeSpace.TheVariants.{Xlink, Xml, Xmlns}

abbrev pub spellings_of : Respelling → List (List ℕ)
spellings_of SvgNames = words "altGlyph altGlyphDef altGlyphItem animateColor animateMotion animateTransform clipPath feBlend feColorMatrix feComponentTransfer feComposite feConvolveMatrix feDiffuseLighting feDisplacementMap feDistantLight feDropShadow feFlood feFuncA feFuncB feFuncG feFuncR feGaussianBlur feImage feMerge feMergeNode feMorphology feOffset fePointLight feSpecularLighting feSpotLight feTile feTurbulence foreignObject glyphRef linearGradient radialGradient textPath"
spellings_of SvgAttributes = words "attributeName attributeType baseFrequency baseProfile calcMode clipPathUnits diffuseConstant edgeMode filterUnits glyphRef gradientTransform gradientUnits kernelMatrix kernelUnitLength keyPoints keySplines keyTimes lengthAdjust limitingConeAngle markerHeight markerUnits markerWidth maskContentUnits maskUnits numOctaves pathLength patternContentUnits patternTransform patternUnits pointsAtX pointsAtY pointsAtZ preserveAlpha preserveAspectRatio primitiveUnits refX refY repeatCount repeatDur requiredExtensions requiredFeatures specularConstant specularExponent spreadMethod startOffset stdDeviation stitchTiles surfaceScale systemLanguage tableValues targetX targetY textLength viewBox viewTarget xChannelSelector yChannelSelector zoomAndPan"
spellings_of MathMlAttributes = words "definitionURL"

-- the spelling of which a text is the lower case
abbrev pub respelling_of : List (List ℕ) → List ℕ → Option (List ℕ)
respelling_of spellings text = find (λ spelling. bytes_eq (lowered spelling) text) spellings

-- the attributes that have a namespace in foreign elements: the name in the page, the namespace, the local name
abbrev pub foreign_attributes : List (List ℕ × AttributeSpace × List ℕ)
foreign_attributes =
    (codes "xlink:actuate", Xlink, codes "actuate") ∷
    (codes "xlink:arcrole", Xlink, codes "arcrole") ∷
    (codes "xlink:href", Xlink, codes "href") ∷
    (codes "xlink:role", Xlink, codes "role") ∷
    (codes "xlink:show", Xlink, codes "show") ∷
    (codes "xlink:title", Xlink, codes "title") ∷
    (codes "xlink:type", Xlink, codes "type") ∷
    (codes "xml:lang", Xml, codes "lang") ∷
    (codes "xml:space", Xml, codes "space") ∷
    (codes "xmlns", Xmlns, codes "xmlns") ∷
    (codes "xmlns:xlink", Xmlns, codes "xlink") ∷ []

-- the namespace and the local name of an attribute of that name
abbrev pub foreign_attribute_of : List ℕ → Option (AttributeSpace × List ℕ)
foreign_attribute_of text = option_map (λ a. (a.1, a.2)) (find (λ a. bytes_eq a.0 text) foreign_attributes)

-- the bit of a table in the row of a name
abbrev pub bit_of : Respelling → ℕ
bit_of SvgNames = 1
bit_of SvgAttributes = 2
bit_of MathMlAttributes = 4

-- for each known name the tables that it is in
unfoldable pub respellings : List ℕ
respellings = RESPELLINGS
