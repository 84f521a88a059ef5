-- The texts of the known names, and lists of texts as one writes them.
use Prim.Native.String.{String}
use Rattle.std.specs.Prelude.{ℕ, List, [], ◌∷◌, Bool, Option, codes, ◌==◌, map}
use Rattle.std.specs.Char.{to_ascii_lowercase}
use Rattle.std.specs.List.{slice_split, list_any, find}
use Rattle.std.specs.Str.{bytes_eq}
use Rattle.hp_elements.specs.declared.known.Known.{Known}
use Rattle.hp_elements.specs.declared.known.Known.TheVariants.{Element, Attribute}
use Rattle.hp_elements.specs.declared.element_name.ElementName.TheVariants as element
use Rattle.hp_elements.specs.declared.attribute_name.AttributeName.TheVariants as attribute
use Rattle.hp_elements.specs.KnownNames as k

-- the words of a text, which stand one space apart
abbrev pub words : String → List (List ℕ)
words text = slice_split (λ c. c == 32) (codes text)

-- whether a text is one of a list
abbrev pub is_among : List (List ℕ) → List ℕ → Bool
is_among texts text = list_any (bytes_eq text) texts

-- a text with each ASCII upper case letter lowered
abbrev pub lowered : List ℕ → List ℕ
lowered text = map to_ascii_lowercase text

abbrev pub text_of : Known → List ℕ
text_of (Element element.A) = codes "a"
text_of (Element element.Address) = codes "address"
text_of (Element element.AltGlyph) = codes "altGlyph"
text_of (Element element.AltGlyphDef) = codes "altGlyphDef"
text_of (Element element.AltGlyphItem) = codes "altGlyphItem"
text_of (Element element.AnimateColor) = codes "animateColor"
text_of (Element element.AnimateMotion) = codes "animateMotion"
text_of (Element element.AnimateTransform) = codes "animateTransform"
text_of (Element element.AnnotationXml) = codes "annotation-xml"
text_of (Element element.Applet) = codes "applet"
text_of (Element element.Area) = codes "area"
text_of (Element element.Article) = codes "article"
text_of (Element element.Aside) = codes "aside"
text_of (Element element.B) = codes "b"
text_of (Element element.Base) = codes "base"
text_of (Element element.Basefont) = codes "basefont"
text_of (Element element.Bgsound) = codes "bgsound"
text_of (Element element.Big) = codes "big"
text_of (Element element.Blockquote) = codes "blockquote"
text_of (Element element.Body) = codes "body"
text_of (Element element.Br) = codes "br"
text_of (Element element.Button) = codes "button"
text_of (Element element.Caption) = codes "caption"
text_of (Element element.Center) = codes "center"
text_of (Element element.ClipPath) = codes "clipPath"
text_of (Element element.Code) = codes "code"
text_of (Element element.Col) = codes "col"
text_of (Element element.Colgroup) = codes "colgroup"
text_of (Element element.Dd) = codes "dd"
text_of (Element element.Desc) = codes "desc"
text_of (Element element.Details) = codes "details"
text_of (Element element.Dialog) = codes "dialog"
text_of (Element element.Dir) = codes "dir"
text_of (Element element.Div) = codes "div"
text_of (Element element.Dl) = codes "dl"
text_of (Element element.Dt) = codes "dt"
text_of (Element element.Em) = codes "em"
text_of (Element element.Embed) = codes "embed"
text_of (Element element.FeBlend) = codes "feBlend"
text_of (Element element.FeColorMatrix) = codes "feColorMatrix"
text_of (Element element.FeComponentTransfer) = codes "feComponentTransfer"
text_of (Element element.FeComposite) = codes "feComposite"
text_of (Element element.FeConvolveMatrix) = codes "feConvolveMatrix"
text_of (Element element.FeDiffuseLighting) = codes "feDiffuseLighting"
text_of (Element element.FeDisplacementMap) = codes "feDisplacementMap"
text_of (Element element.FeDistantLight) = codes "feDistantLight"
text_of (Element element.FeDropShadow) = codes "feDropShadow"
text_of (Element element.FeFlood) = codes "feFlood"
text_of (Element element.FeFuncA) = codes "feFuncA"
text_of (Element element.FeFuncB) = codes "feFuncB"
text_of (Element element.FeFuncG) = codes "feFuncG"
text_of (Element element.FeFuncR) = codes "feFuncR"
text_of (Element element.FeGaussianBlur) = codes "feGaussianBlur"
text_of (Element element.FeImage) = codes "feImage"
text_of (Element element.FeMerge) = codes "feMerge"
text_of (Element element.FeMergeNode) = codes "feMergeNode"
text_of (Element element.FeMorphology) = codes "feMorphology"
text_of (Element element.FeOffset) = codes "feOffset"
text_of (Element element.FePointLight) = codes "fePointLight"
text_of (Element element.FeSpecularLighting) = codes "feSpecularLighting"
text_of (Element element.FeSpotLight) = codes "feSpotLight"
text_of (Element element.FeTile) = codes "feTile"
text_of (Element element.FeTurbulence) = codes "feTurbulence"
text_of (Element element.Fieldset) = codes "fieldset"
text_of (Element element.Figcaption) = codes "figcaption"
text_of (Element element.Figure) = codes "figure"
text_of (Element element.Font) = codes "font"
text_of (Element element.Footer) = codes "footer"
text_of (Element element.ForeignObject) = codes "foreignObject"
text_of (Element element.Form) = codes "form"
text_of (Element element.Frame) = codes "frame"
text_of (Element element.Frameset) = codes "frameset"
text_of (Element element.GlyphRef) = codes "glyphRef"
text_of (Element element.H1) = codes "h1"
text_of (Element element.H2) = codes "h2"
text_of (Element element.H3) = codes "h3"
text_of (Element element.H4) = codes "h4"
text_of (Element element.H5) = codes "h5"
text_of (Element element.H6) = codes "h6"
text_of (Element element.Head) = codes "head"
text_of (Element element.Header) = codes "header"
text_of (Element element.Hgroup) = codes "hgroup"
text_of (Element element.Hr) = codes "hr"
text_of (Element element.Html) = codes "html"
text_of (Element element.I) = codes "i"
text_of (Element element.Iframe) = codes "iframe"
text_of (Element element.Image) = codes "image"
text_of (Element element.Img) = codes "img"
text_of (Element element.Input) = codes "input"
text_of (Element element.Keygen) = codes "keygen"
text_of (Element element.Li) = codes "li"
text_of (Element element.LinearGradient) = codes "linearGradient"
text_of (Element element.Link) = codes "link"
text_of (Element element.Listing) = codes "listing"
text_of (Element element.Main) = codes "main"
text_of (Element element.Malignmark) = codes "malignmark"
text_of (Element element.Marquee) = codes "marquee"
text_of (Element element.Math) = codes "math"
text_of (Element element.Menu) = codes "menu"
text_of (Element element.Meta) = codes "meta"
text_of (Element element.Mglyph) = codes "mglyph"
text_of (Element element.Mi) = codes "mi"
text_of (Element element.Mn) = codes "mn"
text_of (Element element.Mo) = codes "mo"
text_of (Element element.Ms) = codes "ms"
text_of (Element element.Mtext) = codes "mtext"
text_of (Element element.Nav) = codes "nav"
text_of (Element element.Nobr) = codes "nobr"
text_of (Element element.Noembed) = codes "noembed"
text_of (Element element.Noframes) = codes "noframes"
text_of (Element element.Noscript) = codes "noscript"
text_of (Element element.Object) = codes "object"
text_of (Element element.Ol) = codes "ol"
text_of (Element element.Optgroup) = codes "optgroup"
text_of (Element element.Option) = codes "option"
text_of (Element element.P) = codes "p"
text_of (Element element.Param) = codes "param"
text_of (Element element.Plaintext) = codes "plaintext"
text_of (Element element.Pre) = codes "pre"
text_of (Element element.RadialGradient) = codes "radialGradient"
text_of (Element element.Rb) = codes "rb"
text_of (Element element.Rp) = codes "rp"
text_of (Element element.Rt) = codes "rt"
text_of (Element element.Rtc) = codes "rtc"
text_of (Element element.Ruby) = codes "ruby"
text_of (Element element.S) = codes "s"
text_of (Element element.Script) = codes "script"
text_of (Element element.Search) = codes "search"
text_of (Element element.Section) = codes "section"
text_of (Element element.Select) = codes "select"
text_of (Element element.Small) = codes "small"
text_of (Element element.Source) = codes "source"
text_of (Element element.Span) = codes "span"
text_of (Element element.Strike) = codes "strike"
text_of (Element element.Strong) = codes "strong"
text_of (Element element.Style) = codes "style"
text_of (Element element.Sub) = codes "sub"
text_of (Element element.Summary) = codes "summary"
text_of (Element element.Sup) = codes "sup"
text_of (Element element.Svg) = codes "svg"
text_of (Element element.Table) = codes "table"
text_of (Element element.Tbody) = codes "tbody"
text_of (Element element.Td) = codes "td"
text_of (Element element.Template) = codes "template"
text_of (Element element.TextPath) = codes "textPath"
text_of (Element element.Textarea) = codes "textarea"
text_of (Element element.Tfoot) = codes "tfoot"
text_of (Element element.Th) = codes "th"
text_of (Element element.Thead) = codes "thead"
text_of (Element element.Title) = codes "title"
text_of (Element element.Tr) = codes "tr"
text_of (Element element.Track) = codes "track"
text_of (Element element.Tt) = codes "tt"
text_of (Element element.U) = codes "u"
text_of (Element element.Ul) = codes "ul"
text_of (Element element.Var) = codes "var"
text_of (Element element.Wbr) = codes "wbr"
text_of (Element element.Xmp) = codes "xmp"
text_of (Attribute attribute.Actuate) = codes "actuate"
text_of (Attribute attribute.Arcrole) = codes "arcrole"
text_of (Attribute attribute.AttributeName) = codes "attributeName"
text_of (Attribute attribute.AttributeType) = codes "attributeType"
text_of (Attribute attribute.BaseFrequency) = codes "baseFrequency"
text_of (Attribute attribute.BaseProfile) = codes "baseProfile"
text_of (Attribute attribute.CalcMode) = codes "calcMode"
text_of (Attribute attribute.ClipPathUnits) = codes "clipPathUnits"
text_of (Attribute attribute.Color) = codes "color"
text_of (Attribute attribute.DefinitionUrl) = codes "definitionURL"
text_of (Attribute attribute.DiffuseConstant) = codes "diffuseConstant"
text_of (Attribute attribute.EdgeMode) = codes "edgeMode"
text_of (Attribute attribute.Encoding) = codes "encoding"
text_of (Attribute attribute.Face) = codes "face"
text_of (Attribute attribute.FilterUnits) = codes "filterUnits"
text_of (Attribute attribute.GradientTransform) = codes "gradientTransform"
text_of (Attribute attribute.GradientUnits) = codes "gradientUnits"
text_of (Attribute attribute.Href) = codes "href"
text_of (Attribute attribute.KernelMatrix) = codes "kernelMatrix"
text_of (Attribute attribute.KernelUnitLength) = codes "kernelUnitLength"
text_of (Attribute attribute.KeyPoints) = codes "keyPoints"
text_of (Attribute attribute.KeySplines) = codes "keySplines"
text_of (Attribute attribute.KeyTimes) = codes "keyTimes"
text_of (Attribute attribute.Lang) = codes "lang"
text_of (Attribute attribute.LengthAdjust) = codes "lengthAdjust"
text_of (Attribute attribute.LimitingConeAngle) = codes "limitingConeAngle"
text_of (Attribute attribute.MarkerHeight) = codes "markerHeight"
text_of (Attribute attribute.MarkerUnits) = codes "markerUnits"
text_of (Attribute attribute.MarkerWidth) = codes "markerWidth"
text_of (Attribute attribute.MaskContentUnits) = codes "maskContentUnits"
text_of (Attribute attribute.MaskUnits) = codes "maskUnits"
text_of (Attribute attribute.NumOctaves) = codes "numOctaves"
text_of (Attribute attribute.PathLength) = codes "pathLength"
text_of (Attribute attribute.PatternContentUnits) = codes "patternContentUnits"
text_of (Attribute attribute.PatternTransform) = codes "patternTransform"
text_of (Attribute attribute.PatternUnits) = codes "patternUnits"
text_of (Attribute attribute.PointsAtX) = codes "pointsAtX"
text_of (Attribute attribute.PointsAtY) = codes "pointsAtY"
text_of (Attribute attribute.PointsAtZ) = codes "pointsAtZ"
text_of (Attribute attribute.PreserveAlpha) = codes "preserveAlpha"
text_of (Attribute attribute.PreserveAspectRatio) = codes "preserveAspectRatio"
text_of (Attribute attribute.PrimitiveUnits) = codes "primitiveUnits"
text_of (Attribute attribute.RefX) = codes "refX"
text_of (Attribute attribute.RefY) = codes "refY"
text_of (Attribute attribute.RepeatCount) = codes "repeatCount"
text_of (Attribute attribute.RepeatDur) = codes "repeatDur"
text_of (Attribute attribute.RequiredExtensions) = codes "requiredExtensions"
text_of (Attribute attribute.RequiredFeatures) = codes "requiredFeatures"
text_of (Attribute attribute.Role) = codes "role"
text_of (Attribute attribute.Show) = codes "show"
text_of (Attribute attribute.Size) = codes "size"
text_of (Attribute attribute.Space) = codes "space"
text_of (Attribute attribute.SpecularConstant) = codes "specularConstant"
text_of (Attribute attribute.SpecularExponent) = codes "specularExponent"
text_of (Attribute attribute.SpreadMethod) = codes "spreadMethod"
text_of (Attribute attribute.StartOffset) = codes "startOffset"
text_of (Attribute attribute.StdDeviation) = codes "stdDeviation"
text_of (Attribute attribute.StitchTiles) = codes "stitchTiles"
text_of (Attribute attribute.SurfaceScale) = codes "surfaceScale"
text_of (Attribute attribute.SystemLanguage) = codes "systemLanguage"
text_of (Attribute attribute.TableValues) = codes "tableValues"
text_of (Attribute attribute.TargetX) = codes "targetX"
text_of (Attribute attribute.TargetY) = codes "targetY"
text_of (Attribute attribute.TextLength) = codes "textLength"
text_of (Attribute attribute.Type_) = codes "type"
text_of (Attribute attribute.ViewBox) = codes "viewBox"
text_of (Attribute attribute.ViewTarget) = codes "viewTarget"
text_of (Attribute attribute.XChannelSelector) = codes "xChannelSelector"
text_of (Attribute attribute.Xlink) = codes "xlink"
text_of (Attribute attribute.XlinkActuate) = codes "xlink:actuate"
text_of (Attribute attribute.XlinkArcrole) = codes "xlink:arcrole"
text_of (Attribute attribute.XlinkHref) = codes "xlink:href"
text_of (Attribute attribute.XlinkRole) = codes "xlink:role"
text_of (Attribute attribute.XlinkShow) = codes "xlink:show"
text_of (Attribute attribute.XlinkTitle) = codes "xlink:title"
text_of (Attribute attribute.XlinkType) = codes "xlink:type"
text_of (Attribute attribute.XmlLang) = codes "xml:lang"
text_of (Attribute attribute.XmlSpace) = codes "xml:space"
text_of (Attribute attribute.Xmlns) = codes "xmlns"
text_of (Attribute attribute.XmlnsXlink) = codes "xmlns:xlink"
text_of (Attribute attribute.YChannelSelector) = codes "yChannelSelector"
text_of (Attribute attribute.ZoomAndPan) = codes "zoomAndPan"

abbrev pub every : List Known
every =
    k.A ∷ k.Address ∷ k.AltGlyph ∷ k.AltGlyphDef ∷ k.AltGlyphItem ∷ k.AnimateColor ∷
    k.AnimateMotion ∷ k.AnimateTransform ∷ k.AnnotationXml ∷ k.Applet ∷ k.Area ∷ k.Article ∷
    k.Aside ∷ k.B ∷ k.Base ∷ k.Basefont ∷ k.Bgsound ∷ k.Big ∷ k.Blockquote ∷ k.Body ∷ k.Br ∷
    k.Button ∷ k.Caption ∷ k.Center ∷ k.ClipPath ∷ k.Code ∷ k.Col ∷ k.Colgroup ∷ k.Dd ∷ k.Desc ∷
    k.Details ∷ k.Dialog ∷ k.Dir ∷ k.Div ∷ k.Dl ∷ k.Dt ∷ k.Em ∷ k.Embed ∷ k.FeBlend ∷
    k.FeColorMatrix ∷ k.FeComponentTransfer ∷ k.FeComposite ∷ k.FeConvolveMatrix ∷
    k.FeDiffuseLighting ∷ k.FeDisplacementMap ∷ k.FeDistantLight ∷ k.FeDropShadow ∷ k.FeFlood ∷
    k.FeFuncA ∷ k.FeFuncB ∷ k.FeFuncG ∷ k.FeFuncR ∷ k.FeGaussianBlur ∷ k.FeImage ∷ k.FeMerge ∷
    k.FeMergeNode ∷ k.FeMorphology ∷ k.FeOffset ∷ k.FePointLight ∷ k.FeSpecularLighting ∷
    k.FeSpotLight ∷ k.FeTile ∷ k.FeTurbulence ∷ k.Fieldset ∷ k.Figcaption ∷ k.Figure ∷ k.Font ∷
    k.Footer ∷ k.ForeignObject ∷ k.Form ∷ k.Frame ∷ k.Frameset ∷ k.GlyphRef ∷ k.H1 ∷ k.H2 ∷ k.H3 ∷
    k.H4 ∷ k.H5 ∷ k.H6 ∷ k.Head ∷ k.Header ∷ k.Hgroup ∷ k.Hr ∷ k.Html ∷ k.I ∷ k.Iframe ∷ k.Image ∷
    k.Img ∷ k.Input ∷ k.Keygen ∷ k.Li ∷ k.LinearGradient ∷ k.Link ∷ k.Listing ∷ k.Main ∷
    k.Malignmark ∷ k.Marquee ∷ k.Math ∷ k.Menu ∷ k.Meta ∷ k.Mglyph ∷ k.Mi ∷ k.Mn ∷ k.Mo ∷ k.Ms ∷
    k.Mtext ∷ k.Nav ∷ k.Nobr ∷ k.Noembed ∷ k.Noframes ∷ k.Noscript ∷ k.Object ∷ k.Ol ∷ k.Optgroup ∷
    k.Option ∷ k.P ∷ k.Param ∷ k.Plaintext ∷ k.Pre ∷ k.RadialGradient ∷ k.Rb ∷ k.Rp ∷ k.Rt ∷ k.Rtc ∷
    k.Ruby ∷ k.S ∷ k.Script ∷ k.Search ∷ k.Section ∷ k.Select ∷ k.Small ∷ k.Source ∷ k.Span ∷
    k.Strike ∷ k.Strong ∷ k.Style ∷ k.Sub ∷ k.Summary ∷ k.Sup ∷ k.Svg ∷ k.Table ∷ k.Tbody ∷ k.Td ∷
    k.Template ∷ k.TextPath ∷ k.Textarea ∷ k.Tfoot ∷ k.Th ∷ k.Thead ∷ k.Title ∷ k.Tr ∷ k.Track ∷
    k.Tt ∷ k.U ∷ k.Ul ∷ k.Var ∷ k.Wbr ∷ k.Xmp ∷ k.Actuate ∷ k.Arcrole ∷ k.AttributeName ∷
    k.AttributeType ∷ k.BaseFrequency ∷ k.BaseProfile ∷ k.CalcMode ∷ k.ClipPathUnits ∷ k.Color ∷
    k.DefinitionUrl ∷ k.DiffuseConstant ∷ k.EdgeMode ∷ k.Encoding ∷ k.Face ∷ k.FilterUnits ∷
    k.GradientTransform ∷ k.GradientUnits ∷ k.Href ∷ k.KernelMatrix ∷ k.KernelUnitLength ∷
    k.KeyPoints ∷ k.KeySplines ∷ k.KeyTimes ∷ k.Lang ∷ k.LengthAdjust ∷ k.LimitingConeAngle ∷
    k.MarkerHeight ∷ k.MarkerUnits ∷ k.MarkerWidth ∷ k.MaskContentUnits ∷ k.MaskUnits ∷
    k.NumOctaves ∷ k.PathLength ∷ k.PatternContentUnits ∷ k.PatternTransform ∷ k.PatternUnits ∷
    k.PointsAtX ∷ k.PointsAtY ∷ k.PointsAtZ ∷ k.PreserveAlpha ∷ k.PreserveAspectRatio ∷
    k.PrimitiveUnits ∷ k.RefX ∷ k.RefY ∷ k.RepeatCount ∷ k.RepeatDur ∷ k.RequiredExtensions ∷
    k.RequiredFeatures ∷ k.Role ∷ k.Show ∷ k.Size ∷ k.Space ∷ k.SpecularConstant ∷
    k.SpecularExponent ∷ k.SpreadMethod ∷ k.StartOffset ∷ k.StdDeviation ∷ k.StitchTiles ∷
    k.SurfaceScale ∷ k.SystemLanguage ∷ k.TableValues ∷ k.TargetX ∷ k.TargetY ∷ k.TextLength ∷
    k.Type_ ∷ k.ViewBox ∷ k.ViewTarget ∷ k.XChannelSelector ∷ k.Xlink ∷ k.XlinkActuate ∷
    k.XlinkArcrole ∷ k.XlinkHref ∷ k.XlinkRole ∷ k.XlinkShow ∷ k.XlinkTitle ∷ k.XlinkType ∷
    k.XmlLang ∷ k.XmlSpace ∷ k.Xmlns ∷ k.XmlnsXlink ∷ k.YChannelSelector ∷ k.ZoomAndPan ∷ []

abbrev pub has_text : List ℕ → Known → Bool
has_text text name = bytes_eq (text_of name) text

-- whether a text is that of a known name
unfoldable pub is_known : List ℕ → Bool
is_known text = list_any (has_text text) every

-- the known name of a text
unfoldable pub known_of : List ℕ → Option Known
known_of text = find (has_text text) every

-- the place of a name among all of them
abbrev pub index_of : Known → ℕ
index_of (Element element.A) = 0
index_of (Element element.Address) = 1
index_of (Element element.AltGlyph) = 2
index_of (Element element.AltGlyphDef) = 3
index_of (Element element.AltGlyphItem) = 4
index_of (Element element.AnimateColor) = 5
index_of (Element element.AnimateMotion) = 6
index_of (Element element.AnimateTransform) = 7
index_of (Element element.AnnotationXml) = 8
index_of (Element element.Applet) = 9
index_of (Element element.Area) = 10
index_of (Element element.Article) = 11
index_of (Element element.Aside) = 12
index_of (Element element.B) = 13
index_of (Element element.Base) = 14
index_of (Element element.Basefont) = 15
index_of (Element element.Bgsound) = 16
index_of (Element element.Big) = 17
index_of (Element element.Blockquote) = 18
index_of (Element element.Body) = 19
index_of (Element element.Br) = 20
index_of (Element element.Button) = 21
index_of (Element element.Caption) = 22
index_of (Element element.Center) = 23
index_of (Element element.ClipPath) = 24
index_of (Element element.Code) = 25
index_of (Element element.Col) = 26
index_of (Element element.Colgroup) = 27
index_of (Element element.Dd) = 28
index_of (Element element.Desc) = 29
index_of (Element element.Details) = 30
index_of (Element element.Dialog) = 31
index_of (Element element.Dir) = 32
index_of (Element element.Div) = 33
index_of (Element element.Dl) = 34
index_of (Element element.Dt) = 35
index_of (Element element.Em) = 36
index_of (Element element.Embed) = 37
index_of (Element element.FeBlend) = 38
index_of (Element element.FeColorMatrix) = 39
index_of (Element element.FeComponentTransfer) = 40
index_of (Element element.FeComposite) = 41
index_of (Element element.FeConvolveMatrix) = 42
index_of (Element element.FeDiffuseLighting) = 43
index_of (Element element.FeDisplacementMap) = 44
index_of (Element element.FeDistantLight) = 45
index_of (Element element.FeDropShadow) = 46
index_of (Element element.FeFlood) = 47
index_of (Element element.FeFuncA) = 48
index_of (Element element.FeFuncB) = 49
index_of (Element element.FeFuncG) = 50
index_of (Element element.FeFuncR) = 51
index_of (Element element.FeGaussianBlur) = 52
index_of (Element element.FeImage) = 53
index_of (Element element.FeMerge) = 54
index_of (Element element.FeMergeNode) = 55
index_of (Element element.FeMorphology) = 56
index_of (Element element.FeOffset) = 57
index_of (Element element.FePointLight) = 58
index_of (Element element.FeSpecularLighting) = 59
index_of (Element element.FeSpotLight) = 60
index_of (Element element.FeTile) = 61
index_of (Element element.FeTurbulence) = 62
index_of (Element element.Fieldset) = 63
index_of (Element element.Figcaption) = 64
index_of (Element element.Figure) = 65
index_of (Element element.Font) = 66
index_of (Element element.Footer) = 67
index_of (Element element.ForeignObject) = 68
index_of (Element element.Form) = 69
index_of (Element element.Frame) = 70
index_of (Element element.Frameset) = 71
index_of (Element element.GlyphRef) = 72
index_of (Element element.H1) = 73
index_of (Element element.H2) = 74
index_of (Element element.H3) = 75
index_of (Element element.H4) = 76
index_of (Element element.H5) = 77
index_of (Element element.H6) = 78
index_of (Element element.Head) = 79
index_of (Element element.Header) = 80
index_of (Element element.Hgroup) = 81
index_of (Element element.Hr) = 82
index_of (Element element.Html) = 83
index_of (Element element.I) = 84
index_of (Element element.Iframe) = 85
index_of (Element element.Image) = 86
index_of (Element element.Img) = 87
index_of (Element element.Input) = 88
index_of (Element element.Keygen) = 89
index_of (Element element.Li) = 90
index_of (Element element.LinearGradient) = 91
index_of (Element element.Link) = 92
index_of (Element element.Listing) = 93
index_of (Element element.Main) = 94
index_of (Element element.Malignmark) = 95
index_of (Element element.Marquee) = 96
index_of (Element element.Math) = 97
index_of (Element element.Menu) = 98
index_of (Element element.Meta) = 99
index_of (Element element.Mglyph) = 100
index_of (Element element.Mi) = 101
index_of (Element element.Mn) = 102
index_of (Element element.Mo) = 103
index_of (Element element.Ms) = 104
index_of (Element element.Mtext) = 105
index_of (Element element.Nav) = 106
index_of (Element element.Nobr) = 107
index_of (Element element.Noembed) = 108
index_of (Element element.Noframes) = 109
index_of (Element element.Noscript) = 110
index_of (Element element.Object) = 111
index_of (Element element.Ol) = 112
index_of (Element element.Optgroup) = 113
index_of (Element element.Option) = 114
index_of (Element element.P) = 115
index_of (Element element.Param) = 116
index_of (Element element.Plaintext) = 117
index_of (Element element.Pre) = 118
index_of (Element element.RadialGradient) = 119
index_of (Element element.Rb) = 120
index_of (Element element.Rp) = 121
index_of (Element element.Rt) = 122
index_of (Element element.Rtc) = 123
index_of (Element element.Ruby) = 124
index_of (Element element.S) = 125
index_of (Element element.Script) = 126
index_of (Element element.Search) = 127
index_of (Element element.Section) = 128
index_of (Element element.Select) = 129
index_of (Element element.Small) = 130
index_of (Element element.Source) = 131
index_of (Element element.Span) = 132
index_of (Element element.Strike) = 133
index_of (Element element.Strong) = 134
index_of (Element element.Style) = 135
index_of (Element element.Sub) = 136
index_of (Element element.Summary) = 137
index_of (Element element.Sup) = 138
index_of (Element element.Svg) = 139
index_of (Element element.Table) = 140
index_of (Element element.Tbody) = 141
index_of (Element element.Td) = 142
index_of (Element element.Template) = 143
index_of (Element element.TextPath) = 144
index_of (Element element.Textarea) = 145
index_of (Element element.Tfoot) = 146
index_of (Element element.Th) = 147
index_of (Element element.Thead) = 148
index_of (Element element.Title) = 149
index_of (Element element.Tr) = 150
index_of (Element element.Track) = 151
index_of (Element element.Tt) = 152
index_of (Element element.U) = 153
index_of (Element element.Ul) = 154
index_of (Element element.Var) = 155
index_of (Element element.Wbr) = 156
index_of (Element element.Xmp) = 157
index_of (Attribute attribute.Actuate) = 158
index_of (Attribute attribute.Arcrole) = 159
index_of (Attribute attribute.AttributeName) = 160
index_of (Attribute attribute.AttributeType) = 161
index_of (Attribute attribute.BaseFrequency) = 162
index_of (Attribute attribute.BaseProfile) = 163
index_of (Attribute attribute.CalcMode) = 164
index_of (Attribute attribute.ClipPathUnits) = 165
index_of (Attribute attribute.Color) = 166
index_of (Attribute attribute.DefinitionUrl) = 167
index_of (Attribute attribute.DiffuseConstant) = 168
index_of (Attribute attribute.EdgeMode) = 169
index_of (Attribute attribute.Encoding) = 170
index_of (Attribute attribute.Face) = 171
index_of (Attribute attribute.FilterUnits) = 172
index_of (Attribute attribute.GradientTransform) = 173
index_of (Attribute attribute.GradientUnits) = 174
index_of (Attribute attribute.Href) = 175
index_of (Attribute attribute.KernelMatrix) = 176
index_of (Attribute attribute.KernelUnitLength) = 177
index_of (Attribute attribute.KeyPoints) = 178
index_of (Attribute attribute.KeySplines) = 179
index_of (Attribute attribute.KeyTimes) = 180
index_of (Attribute attribute.Lang) = 181
index_of (Attribute attribute.LengthAdjust) = 182
index_of (Attribute attribute.LimitingConeAngle) = 183
index_of (Attribute attribute.MarkerHeight) = 184
index_of (Attribute attribute.MarkerUnits) = 185
index_of (Attribute attribute.MarkerWidth) = 186
index_of (Attribute attribute.MaskContentUnits) = 187
index_of (Attribute attribute.MaskUnits) = 188
index_of (Attribute attribute.NumOctaves) = 189
index_of (Attribute attribute.PathLength) = 190
index_of (Attribute attribute.PatternContentUnits) = 191
index_of (Attribute attribute.PatternTransform) = 192
index_of (Attribute attribute.PatternUnits) = 193
index_of (Attribute attribute.PointsAtX) = 194
index_of (Attribute attribute.PointsAtY) = 195
index_of (Attribute attribute.PointsAtZ) = 196
index_of (Attribute attribute.PreserveAlpha) = 197
index_of (Attribute attribute.PreserveAspectRatio) = 198
index_of (Attribute attribute.PrimitiveUnits) = 199
index_of (Attribute attribute.RefX) = 200
index_of (Attribute attribute.RefY) = 201
index_of (Attribute attribute.RepeatCount) = 202
index_of (Attribute attribute.RepeatDur) = 203
index_of (Attribute attribute.RequiredExtensions) = 204
index_of (Attribute attribute.RequiredFeatures) = 205
index_of (Attribute attribute.Role) = 206
index_of (Attribute attribute.Show) = 207
index_of (Attribute attribute.Size) = 208
index_of (Attribute attribute.Space) = 209
index_of (Attribute attribute.SpecularConstant) = 210
index_of (Attribute attribute.SpecularExponent) = 211
index_of (Attribute attribute.SpreadMethod) = 212
index_of (Attribute attribute.StartOffset) = 213
index_of (Attribute attribute.StdDeviation) = 214
index_of (Attribute attribute.StitchTiles) = 215
index_of (Attribute attribute.SurfaceScale) = 216
index_of (Attribute attribute.SystemLanguage) = 217
index_of (Attribute attribute.TableValues) = 218
index_of (Attribute attribute.TargetX) = 219
index_of (Attribute attribute.TargetY) = 220
index_of (Attribute attribute.TextLength) = 221
index_of (Attribute attribute.Type_) = 222
index_of (Attribute attribute.ViewBox) = 223
index_of (Attribute attribute.ViewTarget) = 224
index_of (Attribute attribute.XChannelSelector) = 225
index_of (Attribute attribute.Xlink) = 226
index_of (Attribute attribute.XlinkActuate) = 227
index_of (Attribute attribute.XlinkArcrole) = 228
index_of (Attribute attribute.XlinkHref) = 229
index_of (Attribute attribute.XlinkRole) = 230
index_of (Attribute attribute.XlinkShow) = 231
index_of (Attribute attribute.XlinkTitle) = 232
index_of (Attribute attribute.XlinkType) = 233
index_of (Attribute attribute.XmlLang) = 234
index_of (Attribute attribute.XmlSpace) = 235
index_of (Attribute attribute.Xmlns) = 236
index_of (Attribute attribute.XmlnsXlink) = 237
index_of (Attribute attribute.YChannelSelector) = 238
index_of (Attribute attribute.ZoomAndPan) = 239
