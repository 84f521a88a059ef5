-- Short pages as tokens, with the trees that the standard's words give.
use Prim.Native.String.{String}
use Rattle.std.specs.Prelude.{◌≡◌, ℕ, true, false, List, [], ◌∷◌, map, codes, Option, None, Some}
use Rattle.hp_elements.specs.Names.{text_of}
use Rattle.hp_elements.specs.declared.known.Known.{Known}
use Rattle.hp_elements.specs.KnownNames as known
use Rattle.hp_elements.specs.declared.tag.Tag.{Tag}
use Rattle.hp_elements.specs.declared.token.CharClass.TheVariants.{White, Nul, Other}
use Rattle.hp_elements.specs.declared.token.Mode.{Mode}
use Rattle.hp_elements.specs.declared.token.Mode.TheVariants as mode
use Rattle.hp_elements.specs.declared.token.Rest.TheVariants as rest
use Rattle.hp_elements.specs.declared.token.Token.{Token}
use Rattle.hp_elements.specs.declared.token.Token.TheVariants as token
use Rattle.hp_control.specs.States.{start}
use Rattle.hp_control.specs.Tree.{Item, Element, Text, Comment, Branch, document, applied_all}
use Rattle.hp_model.specs.Tokens.{bare}
use Rattle.hp_model.specs.Turns.{Handled, left_by}
use Rattle.hp_model.specs.Handling.{handle_each}

abbrev pub opening : Known → Token
opening name = token.Start false (bare (text_of name))

abbrev pub closing : Known → Token
closing name = token.EndTag (text_of name)

-- characters that are neither white nor U+0000
abbrev pub text : String → Token
text letters = token.Characters Other (codes letters)

abbrev pub line_feed : Token
line_feed = token.Characters White (0xA ∷ [])

abbrev pub nul : Token
nul = token.Characters Nul (0 ∷ [])

abbrev pub html_doctype : Token
html_doctype = token.Doctype (record { name = Some (codes "html"); public = None; system = None; force_quirks = false })

abbrev pub page : List Token → Handled
page tokens = handle_each start tokens

abbrev pub name_in_tree : Option Tag → List ℕ
name_in_tree None = []
name_in_tree (Some tag) = tag.name

abbrev pub shown : Branch → List ℕ × List Item
shown b = (name_in_tree b.tag, b.inside)

-- the names of the elements in the order in which they were made, the document first, and what stands in each
abbrev pub tree_of : List Token → List (List ℕ × List Item)
tree_of tokens = map shown (applied_all document (page tokens).outcome.edits)

abbrev pub mode_after : List Token → Mode
mode_after tokens = (left_by (page tokens)).mode

-- the document, and the html and head elements, with these in html
abbrev pub with_html : List Item → List (List ℕ × List Item) → List (List ℕ × List Item)
with_html inside others = ([], Element 1 ∷ []) ∷ (codes "html", inside) ∷ others

-- a page with an empty head, with these in its body
abbrev pub with_body : List Item → List (List ℕ × List Item) → List (List ℕ × List Item)
with_body inside others = with_html (Element 2 ∷ Element 3 ∷ []) ((codes "head", []) ∷ (codes "body", inside) ∷ others)

abbrev pub letters : String → Item
letters text = Text (codes text)

abbrev pub ending : Token
ending = token.EndOfInput

abbrev pub EmptyPage : Type 0
EmptyPage = (tree_of (ending ∷ []) ≡ with_body [] []) × ((page (ending ∷ [])).stopped ≡ true)

-- text in a table goes before it
abbrev pub FosteredText : Type 0
FosteredText =
    tree_of (opening known.Table ∷ text "x" ∷ opening known.Td ∷ text "y" ∷ ending ∷ [])
    ≡ with_body (letters "x" ∷ Element 4 ∷ []) ((codes "table", Element 5 ∷ []) ∷ (codes "tbody", Element 6 ∷ []) ∷ (codes "tr", Element 7 ∷ []) ∷ (codes "td", letters "y" ∷ []) ∷ [])

-- a link closes the one that is open
abbrev pub TwoLinks : Type 0
TwoLinks =
    tree_of (opening known.A ∷ text "1" ∷ opening known.A ∷ text "2" ∷ ending ∷ [])
    ≡ with_body (Element 4 ∷ Element 5 ∷ []) ((codes "a", letters "1" ∷ []) ∷ (codes "a", letters "2" ∷ []) ∷ [])

-- a paragraph leaves foreign content
abbrev pub Breakout : Type 0
Breakout =
    tree_of (opening known.Svg ∷ text "x" ∷ opening known.P ∷ text "y" ∷ token.Comment (codes "[CDATA[z]]") ∷ ending ∷ [])
    ≡ with_body (Element 4 ∷ Element 5 ∷ []) ((codes "svg", letters "x" ∷ []) ∷ (codes "p", letters "y" ∷ Comment (codes "[CDATA[z]]") ∷ []) ∷ [])

-- with quirks a table stays in its paragraph, and without them it closes it
abbrev pub QuirkyTable : Type 0
QuirkyTable =
    tree_of (opening known.P ∷ opening known.Table ∷ ending ∷ []) ≡ with_body (Element 4 ∷ []) ((codes "p", Element 5 ∷ []) ∷ (codes "table", []) ∷ [])

abbrev pub PlainTable : Type 0
PlainTable = (left_by (page (html_doctype ∷ opening known.P ∷ opening known.Table ∷ []))).quirks ≡ false

-- U+0000 is dropped in HTML content, and replaced in foreign content
abbrev pub Nulls : Type 0
Nulls =
    tree_of (text "a" ∷ nul ∷ text "b" ∷ opening known.Svg ∷ text "c" ∷ nul ∷ ending ∷ [])
    ≡ with_body (letters "ab" ∷ Element 4 ∷ []) ((codes "svg", Text (99 ∷ 0xFFFD ∷ []) ∷ []) ∷ [])

-- <b><p>1</b>2: the adoption agency
abbrev pub Adopted : Type 0
Adopted =
    tree_of (opening known.B ∷ opening known.P ∷ text "1" ∷ closing known.B ∷ text "2" ∷ ending ∷ [])
    ≡ with_body (Element 4 ∷ Element 5 ∷ []) ((codes "b", []) ∷ (codes "p", Element 6 ∷ letters "2" ∷ []) ∷ (codes "b", letters "1" ∷ []) ∷ [])

-- the line feed after a pre is dropped
abbrev pub LineFeedDropped : Type 0
LineFeedDropped =
    tree_of (opening known.Pre ∷ line_feed ∷ text "x" ∷ ending ∷ []) ≡ with_body (Element 4 ∷ []) ((codes "pre", letters "x" ∷ []) ∷ [])

-- what a template holds goes into it, and no mode of its is left
abbrev pub TemplateCell : Type 0
TemplateCell =
    tree_of (opening known.Template ∷ opening known.Td ∷ text "x" ∷ closing known.Template ∷ ending ∷ [])
    ≡ with_html (Element 2 ∷ Element 5 ∷ []) ((codes "head", Element 3 ∷ []) ∷ (codes "template", Element 4 ∷ []) ∷ (codes "td", letters "x" ∷ []) ∷ (codes "body", []) ∷ [])

-- an option closes an option
abbrev pub Options : Type 0
Options =
    tree_of (opening known.Select ∷ opening known.Option ∷ opening known.Option ∷ ending ∷ [])
    ≡ with_body (Element 4 ∷ []) ((codes "select", Element 5 ∷ Element 6 ∷ []) ∷ (codes "option", []) ∷ (codes "option", []) ∷ [])

abbrev pub Frames : Type 0
Frames =
    tree_of (opening known.Frameset ∷ opening known.Frame ∷ closing known.Frameset ∷ ending ∷ [])
    ≡ with_html (Element 2 ∷ Element 3 ∷ []) ((codes "head", []) ∷ (codes "frameset", Element 4 ∷ []) ∷ (codes "frame", []) ∷ [])

-- the lexer is told of the text of a title
abbrev pub TitleText : Type 0
TitleText = ((page (opening known.Title ∷ [])).switch ≡ Some rest.Rcdata) × (mode_after (opening known.Title ∷ []) ≡ mode.Text)

-- the modes after some tokens
abbrev pub CellMode : Type 0
CellMode = mode_after (opening known.Table ∷ opening known.Td ∷ []) ≡ mode.InCell

abbrev pub PendingMode : Type 0
PendingMode = mode_after (opening known.Table ∷ text "x" ∷ []) ≡ mode.InTableText

abbrev pub AfterHtml : Type 0
AfterHtml = mode_after (text "x" ∷ closing known.Body ∷ closing known.Html ∷ []) ≡ mode.AfterAfterBody

pub record Examples : Type 0 where
  pub empty : EmptyPage
  pub fostered : FosteredText
  pub links : TwoLinks
  pub breakout : Breakout
  pub quirky : QuirkyTable
  pub plain : PlainTable
  pub nulls : Nulls
  pub adopted : Adopted
  pub line_feed : LineFeedDropped
  pub template : TemplateCell
  pub options : Options
  pub frames : Frames
  pub title : TitleText
  pub cell : CellMode
  pub pending : PendingMode
  pub after_html : AfterHtml
