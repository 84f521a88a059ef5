-- The known names, by their own names.
use Rattle.hp_elements.specs.declared.known.Known.{Known}
use Rattle.hp_elements.specs.declared.known.Known.TheVariants.{Element, Attribute}
use Rattle.hp_elements.specs.declared.element_name.ElementName.TheVariants as element
use Rattle.hp_elements.specs.declared.attribute_name.AttributeName.TheVariants as attribute

abbrev pub A : Known
A = Element element.A

abbrev pub Address : Known
Address = Element element.Address

abbrev pub AltGlyph : Known
AltGlyph = Element element.AltGlyph

abbrev pub AltGlyphDef : Known
AltGlyphDef = Element element.AltGlyphDef

abbrev pub AltGlyphItem : Known
AltGlyphItem = Element element.AltGlyphItem

abbrev pub AnimateColor : Known
AnimateColor = Element element.AnimateColor

abbrev pub AnimateMotion : Known
AnimateMotion = Element element.AnimateMotion

abbrev pub AnimateTransform : Known
AnimateTransform = Element element.AnimateTransform

abbrev pub AnnotationXml : Known
AnnotationXml = Element element.AnnotationXml

abbrev pub Applet : Known
Applet = Element element.Applet

abbrev pub Area : Known
Area = Element element.Area

abbrev pub Article : Known
Article = Element element.Article

abbrev pub Aside : Known
Aside = Element element.Aside

abbrev pub B : Known
B = Element element.B

abbrev pub Base : Known
Base = Element element.Base

abbrev pub Basefont : Known
Basefont = Element element.Basefont

abbrev pub Bgsound : Known
Bgsound = Element element.Bgsound

abbrev pub Big : Known
Big = Element element.Big

abbrev pub Blockquote : Known
Blockquote = Element element.Blockquote

abbrev pub Body : Known
Body = Element element.Body

abbrev pub Br : Known
Br = Element element.Br

abbrev pub Button : Known
Button = Element element.Button

abbrev pub Caption : Known
Caption = Element element.Caption

abbrev pub Center : Known
Center = Element element.Center

abbrev pub ClipPath : Known
ClipPath = Element element.ClipPath

abbrev pub Code : Known
Code = Element element.Code

abbrev pub Col : Known
Col = Element element.Col

abbrev pub Colgroup : Known
Colgroup = Element element.Colgroup

abbrev pub Dd : Known
Dd = Element element.Dd

abbrev pub Desc : Known
Desc = Element element.Desc

abbrev pub Details : Known
Details = Element element.Details

abbrev pub Dialog : Known
Dialog = Element element.Dialog

abbrev pub Dir : Known
Dir = Element element.Dir

abbrev pub Div : Known
Div = Element element.Div

abbrev pub Dl : Known
Dl = Element element.Dl

abbrev pub Dt : Known
Dt = Element element.Dt

abbrev pub Em : Known
Em = Element element.Em

abbrev pub Embed : Known
Embed = Element element.Embed

abbrev pub FeBlend : Known
FeBlend = Element element.FeBlend

abbrev pub FeColorMatrix : Known
FeColorMatrix = Element element.FeColorMatrix

abbrev pub FeComponentTransfer : Known
FeComponentTransfer = Element element.FeComponentTransfer

abbrev pub FeComposite : Known
FeComposite = Element element.FeComposite

abbrev pub FeConvolveMatrix : Known
FeConvolveMatrix = Element element.FeConvolveMatrix

abbrev pub FeDiffuseLighting : Known
FeDiffuseLighting = Element element.FeDiffuseLighting

abbrev pub FeDisplacementMap : Known
FeDisplacementMap = Element element.FeDisplacementMap

abbrev pub FeDistantLight : Known
FeDistantLight = Element element.FeDistantLight

abbrev pub FeDropShadow : Known
FeDropShadow = Element element.FeDropShadow

abbrev pub FeFlood : Known
FeFlood = Element element.FeFlood

abbrev pub FeFuncA : Known
FeFuncA = Element element.FeFuncA

abbrev pub FeFuncB : Known
FeFuncB = Element element.FeFuncB

abbrev pub FeFuncG : Known
FeFuncG = Element element.FeFuncG

abbrev pub FeFuncR : Known
FeFuncR = Element element.FeFuncR

abbrev pub FeGaussianBlur : Known
FeGaussianBlur = Element element.FeGaussianBlur

abbrev pub FeImage : Known
FeImage = Element element.FeImage

abbrev pub FeMerge : Known
FeMerge = Element element.FeMerge

abbrev pub FeMergeNode : Known
FeMergeNode = Element element.FeMergeNode

abbrev pub FeMorphology : Known
FeMorphology = Element element.FeMorphology

abbrev pub FeOffset : Known
FeOffset = Element element.FeOffset

abbrev pub FePointLight : Known
FePointLight = Element element.FePointLight

abbrev pub FeSpecularLighting : Known
FeSpecularLighting = Element element.FeSpecularLighting

abbrev pub FeSpotLight : Known
FeSpotLight = Element element.FeSpotLight

abbrev pub FeTile : Known
FeTile = Element element.FeTile

abbrev pub FeTurbulence : Known
FeTurbulence = Element element.FeTurbulence

abbrev pub Fieldset : Known
Fieldset = Element element.Fieldset

abbrev pub Figcaption : Known
Figcaption = Element element.Figcaption

abbrev pub Figure : Known
Figure = Element element.Figure

abbrev pub Font : Known
Font = Element element.Font

abbrev pub Footer : Known
Footer = Element element.Footer

abbrev pub ForeignObject : Known
ForeignObject = Element element.ForeignObject

abbrev pub Form : Known
Form = Element element.Form

abbrev pub Frame : Known
Frame = Element element.Frame

abbrev pub Frameset : Known
Frameset = Element element.Frameset

abbrev pub GlyphRef : Known
GlyphRef = Element element.GlyphRef

abbrev pub H1 : Known
H1 = Element element.H1

abbrev pub H2 : Known
H2 = Element element.H2

abbrev pub H3 : Known
H3 = Element element.H3

abbrev pub H4 : Known
H4 = Element element.H4

abbrev pub H5 : Known
H5 = Element element.H5

abbrev pub H6 : Known
H6 = Element element.H6

abbrev pub Head : Known
Head = Element element.Head

abbrev pub Header : Known
Header = Element element.Header

abbrev pub Hgroup : Known
Hgroup = Element element.Hgroup

abbrev pub Hr : Known
Hr = Element element.Hr

abbrev pub Html : Known
Html = Element element.Html

abbrev pub I : Known
I = Element element.I

abbrev pub Iframe : Known
Iframe = Element element.Iframe

abbrev pub Image : Known
Image = Element element.Image

abbrev pub Img : Known
Img = Element element.Img

abbrev pub Input : Known
Input = Element element.Input

abbrev pub Keygen : Known
Keygen = Element element.Keygen

abbrev pub Li : Known
Li = Element element.Li

abbrev pub LinearGradient : Known
LinearGradient = Element element.LinearGradient

abbrev pub Link : Known
Link = Element element.Link

abbrev pub Listing : Known
Listing = Element element.Listing

abbrev pub Main : Known
Main = Element element.Main

abbrev pub Malignmark : Known
Malignmark = Element element.Malignmark

abbrev pub Marquee : Known
Marquee = Element element.Marquee

abbrev pub Math : Known
Math = Element element.Math

abbrev pub Menu : Known
Menu = Element element.Menu

abbrev pub Meta : Known
Meta = Element element.Meta

abbrev pub Mglyph : Known
Mglyph = Element element.Mglyph

abbrev pub Mi : Known
Mi = Element element.Mi

abbrev pub Mn : Known
Mn = Element element.Mn

abbrev pub Mo : Known
Mo = Element element.Mo

abbrev pub Ms : Known
Ms = Element element.Ms

abbrev pub Mtext : Known
Mtext = Element element.Mtext

abbrev pub Nav : Known
Nav = Element element.Nav

abbrev pub Nobr : Known
Nobr = Element element.Nobr

abbrev pub Noembed : Known
Noembed = Element element.Noembed

abbrev pub Noframes : Known
Noframes = Element element.Noframes

abbrev pub Noscript : Known
Noscript = Element element.Noscript

abbrev pub Object : Known
Object = Element element.Object

abbrev pub Ol : Known
Ol = Element element.Ol

abbrev pub Optgroup : Known
Optgroup = Element element.Optgroup

abbrev pub Option : Known
Option = Element element.Option

abbrev pub P : Known
P = Element element.P

abbrev pub Param : Known
Param = Element element.Param

abbrev pub Plaintext : Known
Plaintext = Element element.Plaintext

abbrev pub Pre : Known
Pre = Element element.Pre

abbrev pub RadialGradient : Known
RadialGradient = Element element.RadialGradient

abbrev pub Rb : Known
Rb = Element element.Rb

abbrev pub Rp : Known
Rp = Element element.Rp

abbrev pub Rt : Known
Rt = Element element.Rt

abbrev pub Rtc : Known
Rtc = Element element.Rtc

abbrev pub Ruby : Known
Ruby = Element element.Ruby

abbrev pub S : Known
S = Element element.S

abbrev pub Script : Known
Script = Element element.Script

abbrev pub Search : Known
Search = Element element.Search

abbrev pub Section : Known
Section = Element element.Section

abbrev pub Select : Known
Select = Element element.Select

abbrev pub Small : Known
Small = Element element.Small

abbrev pub Source : Known
Source = Element element.Source

abbrev pub Span : Known
Span = Element element.Span

abbrev pub Strike : Known
Strike = Element element.Strike

abbrev pub Strong : Known
Strong = Element element.Strong

abbrev pub Style : Known
Style = Element element.Style

abbrev pub Sub : Known
Sub = Element element.Sub

abbrev pub Summary : Known
Summary = Element element.Summary

abbrev pub Sup : Known
Sup = Element element.Sup

abbrev pub Svg : Known
Svg = Element element.Svg

abbrev pub Table : Known
Table = Element element.Table

abbrev pub Tbody : Known
Tbody = Element element.Tbody

abbrev pub Td : Known
Td = Element element.Td

abbrev pub Template : Known
Template = Element element.Template

abbrev pub TextPath : Known
TextPath = Element element.TextPath

abbrev pub Textarea : Known
Textarea = Element element.Textarea

abbrev pub Tfoot : Known
Tfoot = Element element.Tfoot

abbrev pub Th : Known
Th = Element element.Th

abbrev pub Thead : Known
Thead = Element element.Thead

abbrev pub Title : Known
Title = Element element.Title

abbrev pub Tr : Known
Tr = Element element.Tr

abbrev pub Track : Known
Track = Element element.Track

abbrev pub Tt : Known
Tt = Element element.Tt

abbrev pub U : Known
U = Element element.U

abbrev pub Ul : Known
Ul = Element element.Ul

abbrev pub Var : Known
Var = Element element.Var

abbrev pub Wbr : Known
Wbr = Element element.Wbr

abbrev pub Xmp : Known
Xmp = Element element.Xmp

abbrev pub Actuate : Known
Actuate = Attribute attribute.Actuate

abbrev pub Arcrole : Known
Arcrole = Attribute attribute.Arcrole

abbrev pub AttributeName : Known
AttributeName = Attribute attribute.AttributeName

abbrev pub AttributeType : Known
AttributeType = Attribute attribute.AttributeType

abbrev pub BaseFrequency : Known
BaseFrequency = Attribute attribute.BaseFrequency

abbrev pub BaseProfile : Known
BaseProfile = Attribute attribute.BaseProfile

abbrev pub CalcMode : Known
CalcMode = Attribute attribute.CalcMode

abbrev pub ClipPathUnits : Known
ClipPathUnits = Attribute attribute.ClipPathUnits

abbrev pub Color : Known
Color = Attribute attribute.Color

abbrev pub DefinitionUrl : Known
DefinitionUrl = Attribute attribute.DefinitionUrl

abbrev pub DiffuseConstant : Known
DiffuseConstant = Attribute attribute.DiffuseConstant

abbrev pub EdgeMode : Known
EdgeMode = Attribute attribute.EdgeMode

abbrev pub Encoding : Known
Encoding = Attribute attribute.Encoding

abbrev pub Face : Known
Face = Attribute attribute.Face

abbrev pub FilterUnits : Known
FilterUnits = Attribute attribute.FilterUnits

abbrev pub GradientTransform : Known
GradientTransform = Attribute attribute.GradientTransform

abbrev pub GradientUnits : Known
GradientUnits = Attribute attribute.GradientUnits

abbrev pub Href : Known
Href = Attribute attribute.Href

abbrev pub KernelMatrix : Known
KernelMatrix = Attribute attribute.KernelMatrix

abbrev pub KernelUnitLength : Known
KernelUnitLength = Attribute attribute.KernelUnitLength

abbrev pub KeyPoints : Known
KeyPoints = Attribute attribute.KeyPoints

abbrev pub KeySplines : Known
KeySplines = Attribute attribute.KeySplines

abbrev pub KeyTimes : Known
KeyTimes = Attribute attribute.KeyTimes

abbrev pub Lang : Known
Lang = Attribute attribute.Lang

abbrev pub LengthAdjust : Known
LengthAdjust = Attribute attribute.LengthAdjust

abbrev pub LimitingConeAngle : Known
LimitingConeAngle = Attribute attribute.LimitingConeAngle

abbrev pub MarkerHeight : Known
MarkerHeight = Attribute attribute.MarkerHeight

abbrev pub MarkerUnits : Known
MarkerUnits = Attribute attribute.MarkerUnits

abbrev pub MarkerWidth : Known
MarkerWidth = Attribute attribute.MarkerWidth

abbrev pub MaskContentUnits : Known
MaskContentUnits = Attribute attribute.MaskContentUnits

abbrev pub MaskUnits : Known
MaskUnits = Attribute attribute.MaskUnits

abbrev pub NumOctaves : Known
NumOctaves = Attribute attribute.NumOctaves

abbrev pub PathLength : Known
PathLength = Attribute attribute.PathLength

abbrev pub PatternContentUnits : Known
PatternContentUnits = Attribute attribute.PatternContentUnits

abbrev pub PatternTransform : Known
PatternTransform = Attribute attribute.PatternTransform

abbrev pub PatternUnits : Known
PatternUnits = Attribute attribute.PatternUnits

abbrev pub PointsAtX : Known
PointsAtX = Attribute attribute.PointsAtX

abbrev pub PointsAtY : Known
PointsAtY = Attribute attribute.PointsAtY

abbrev pub PointsAtZ : Known
PointsAtZ = Attribute attribute.PointsAtZ

abbrev pub PreserveAlpha : Known
PreserveAlpha = Attribute attribute.PreserveAlpha

abbrev pub PreserveAspectRatio : Known
PreserveAspectRatio = Attribute attribute.PreserveAspectRatio

abbrev pub PrimitiveUnits : Known
PrimitiveUnits = Attribute attribute.PrimitiveUnits

abbrev pub RefX : Known
RefX = Attribute attribute.RefX

abbrev pub RefY : Known
RefY = Attribute attribute.RefY

abbrev pub RepeatCount : Known
RepeatCount = Attribute attribute.RepeatCount

abbrev pub RepeatDur : Known
RepeatDur = Attribute attribute.RepeatDur

abbrev pub RequiredExtensions : Known
RequiredExtensions = Attribute attribute.RequiredExtensions

abbrev pub RequiredFeatures : Known
RequiredFeatures = Attribute attribute.RequiredFeatures

abbrev pub Role : Known
Role = Attribute attribute.Role

abbrev pub Show : Known
Show = Attribute attribute.Show

abbrev pub Size : Known
Size = Attribute attribute.Size

abbrev pub Space : Known
Space = Attribute attribute.Space

abbrev pub SpecularConstant : Known
SpecularConstant = Attribute attribute.SpecularConstant

abbrev pub SpecularExponent : Known
SpecularExponent = Attribute attribute.SpecularExponent

abbrev pub SpreadMethod : Known
SpreadMethod = Attribute attribute.SpreadMethod

abbrev pub StartOffset : Known
StartOffset = Attribute attribute.StartOffset

abbrev pub StdDeviation : Known
StdDeviation = Attribute attribute.StdDeviation

abbrev pub StitchTiles : Known
StitchTiles = Attribute attribute.StitchTiles

abbrev pub SurfaceScale : Known
SurfaceScale = Attribute attribute.SurfaceScale

abbrev pub SystemLanguage : Known
SystemLanguage = Attribute attribute.SystemLanguage

abbrev pub TableValues : Known
TableValues = Attribute attribute.TableValues

abbrev pub TargetX : Known
TargetX = Attribute attribute.TargetX

abbrev pub TargetY : Known
TargetY = Attribute attribute.TargetY

abbrev pub TextLength : Known
TextLength = Attribute attribute.TextLength

abbrev pub Type_ : Known
Type_ = Attribute attribute.Type_

abbrev pub ViewBox : Known
ViewBox = Attribute attribute.ViewBox

abbrev pub ViewTarget : Known
ViewTarget = Attribute attribute.ViewTarget

abbrev pub XChannelSelector : Known
XChannelSelector = Attribute attribute.XChannelSelector

abbrev pub Xlink : Known
Xlink = Attribute attribute.Xlink

abbrev pub XlinkActuate : Known
XlinkActuate = Attribute attribute.XlinkActuate

abbrev pub XlinkArcrole : Known
XlinkArcrole = Attribute attribute.XlinkArcrole

abbrev pub XlinkHref : Known
XlinkHref = Attribute attribute.XlinkHref

abbrev pub XlinkRole : Known
XlinkRole = Attribute attribute.XlinkRole

abbrev pub XlinkShow : Known
XlinkShow = Attribute attribute.XlinkShow

abbrev pub XlinkTitle : Known
XlinkTitle = Attribute attribute.XlinkTitle

abbrev pub XlinkType : Known
XlinkType = Attribute attribute.XlinkType

abbrev pub XmlLang : Known
XmlLang = Attribute attribute.XmlLang

abbrev pub XmlSpace : Known
XmlSpace = Attribute attribute.XmlSpace

abbrev pub Xmlns : Known
Xmlns = Attribute attribute.Xmlns

abbrev pub XmlnsXlink : Known
XmlnsXlink = Attribute attribute.XmlnsXlink

abbrev pub YChannelSelector : Known
YChannelSelector = Attribute attribute.YChannelSelector

abbrev pub ZoomAndPan : Known
ZoomAndPan = Attribute attribute.ZoomAndPan
