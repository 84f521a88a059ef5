-- The rows of the modes in body and text (13.2.6.4.7, 13.2.6.4.8).
use Rattle.std.specs.Prelude.{List, [], ◌∷◌, ◌++◌}
use Rattle.hp_elements.specs.declared.act.Act.TheVariants.{AddMissingToBody, AddMissingToFirst, Adopt, Again, AgainAs, AppendToList, As, Characters, ClearToMarker, CloseDescription, CloseItem, CloseLink, CloseParagraph, Comment, DetachBody, Done, EndForm, FormPointer, FramesetNotOk, Implied, ImpliedExcept, Insert, InsertBare, InsertForeign, KeepOriginal, Lexer, Marker, Pop, PopToFirst, Reconstruct, SkipLineFeed, Stop, Switch, Through, ThroughFirstOf, ToOriginal, Walk}
use Rattle.hp_elements.specs.declared.act.Scope.TheVariants.{Button, Default, ListItem}
use Rattle.hp_elements.specs.declared.act.Test.TheVariants.{CurrentIs, CurrentIsIn, FramesetOk, HasForm, HasTemplateModes, InScope, InTableModes, IsQuirks, OneInScope, SecondIsBody, TemplateInStack, TypeIsHidden}
use Rattle.hp_elements.specs.declared.act.Which.TheVariants.{Its, Named}
use Rattle.hp_elements.specs.KnownNames as name
use Rattle.hp_elements.specs.declared.sets.SetName.TheVariants.{Headings}
use Rattle.hp_elements.specs.declared.token.Mode.TheVariants.{AfterBody, InFrameset, InHead, InSelect, InSelectInTable, InTable, InTemplate, Text}
use Rattle.hp_elements.specs.declared.token.Rest.TheVariants as rest
use Rattle.hp_elements.specs.Rules.{Row, white, nul, other, comment, doctype, start, end, any_start, any_end, end_of_input, any, ◌or◌, ends, ◌⨾◌, when, unless, ◌⟶◌, ignored, void, raw}

-- what makes up the page
abbrev pub in_body_structure : List Row
in_body_structure =
    nul ⟶ ignored ∷
    white ⟶ Reconstruct ⨾ Characters ⨾ ends ∷
    other ⟶ Reconstruct ⨾ Characters ⨾ FramesetNotOk ⨾ ends ∷
    comment ⟶ Comment ⨾ ends ∷
    doctype ⟶ ignored ∷
    start "html" ⟶ unless TemplateInStack (AddMissingToFirst ⨾ ends) ends ∷
    start "base basefont bgsound link meta noframes script style template title" or end "template" ⟶ As InHead ⨾ ends ∷
    start "body" ⟶ when SecondIsBody (unless TemplateInStack (FramesetNotOk ⨾ AddMissingToBody ⨾ ends) ends) ends ∷
    start "frameset" ⟶ when SecondIsBody (when FramesetOk (DetachBody ⨾ PopToFirst ⨾ Insert ⨾ Switch InFrameset ⨾ ends) ends) ends ∷
    end_of_input ⟶ when HasTemplateModes (As InTemplate ⨾ Done ⨾ ends) (Stop ⨾ ends) ∷
    end "body" ⟶ when (InScope Default (Named name.Body)) (Switch AfterBody ⨾ ends) ends ∷
    end "html" ⟶ when (InScope Default (Named name.Body)) (Switch AfterBody ⨾ Again ⨾ ends) ends ∷
    start "address article aside blockquote center details dialog dir div dl fieldset figcaption figure footer header hgroup main menu nav ol p search section summary ul" ⟶ CloseParagraph ⨾ Insert ⨾ ends ∷
    start "h1 h2 h3 h4 h5 h6" ⟶ CloseParagraph ⨾ when (CurrentIsIn Headings) (Pop ⨾ ends) (Insert ⨾ ends) ∷
    start "pre listing" ⟶ CloseParagraph ⨾ Insert ⨾ SkipLineFeed ⨾ FramesetNotOk ⨾ ends ∷
    start "form" ⟶ when HasForm (unless TemplateInStack (Done ⨾ ends) ends) (CloseParagraph ⨾ Insert ⨾ unless TemplateInStack (FormPointer ⨾ ends) ends) ∷
    start "li" ⟶ FramesetNotOk ⨾ CloseItem ⨾ CloseParagraph ⨾ Insert ⨾ ends ∷
    start "dd dt" ⟶ FramesetNotOk ⨾ CloseDescription ⨾ CloseParagraph ⨾ Insert ⨾ ends ∷
    start "plaintext" ⟶ CloseParagraph ⨾ Insert ⨾ Lexer rest.Plaintext ⨾ ends ∷
    start "button" ⟶ when (InScope Default (Named name.Button)) (Implied ⨾ Through (Named name.Button) ⨾ ends) (Reconstruct ⨾ Insert ⨾ FramesetNotOk ⨾ ends) ∷
    end "address article aside blockquote button center details dialog dir div dl fieldset figcaption figure footer header hgroup listing main menu nav ol pre search section summary ul" ⟶ when (InScope Default Its) (Implied ⨾ Through Its ⨾ ends) ends ∷
    end "form" ⟶ when TemplateInStack (when (InScope Default (Named name.Form)) (Implied ⨾ Through (Named name.Form) ⨾ ends) (Done ⨾ ends)) (EndForm ⨾ ends) ∷
    end "p" ⟶ unless (InScope Button (Named name.P)) (InsertBare name.P ⨾ ends) (CloseParagraph ⨾ ends) ∷
    end "li" ⟶ when (InScope ListItem (Named name.Li)) (ImpliedExcept (Named name.Li) ⨾ Through (Named name.Li) ⨾ ends) ends ∷
    end "dd dt" ⟶ when (InScope Default Its) (ImpliedExcept Its ⨾ Through Its ⨾ ends) ends ∷
    end "h1 h2 h3 h4 h5 h6" ⟶ when (OneInScope Default Headings) (Implied ⨾ ThroughFirstOf Headings ⨾ ends) ends ∷
    []

-- what stands in it
abbrev pub in_body_content : List Row
in_body_content =
    start "a" ⟶ CloseLink ⨾ Reconstruct ⨾ Insert ⨾ AppendToList ⨾ ends ∷
    start "nobr" ⟶ Reconstruct ⨾ when (InScope Default (Named name.Nobr)) (Adopt (Named name.Nobr) ⨾ Reconstruct ⨾ ends) (Insert ⨾ AppendToList ⨾ ends) ∷
    start "b big code em font i s small strike strong tt u" ⟶ Reconstruct ⨾ Insert ⨾ AppendToList ⨾ ends ∷
    end "a b big code em font i nobr s small strike strong tt u" ⟶ Adopt Its ⨾ ends ∷
    start "applet marquee object" ⟶ Reconstruct ⨾ Insert ⨾ Marker ⨾ FramesetNotOk ⨾ ends ∷
    end "applet marquee object" ⟶ when (InScope Default Its) (Implied ⨾ Through Its ⨾ ClearToMarker ⨾ ends) ends ∷
    start "table" ⟶ unless IsQuirks (CloseParagraph ⨾ ends) (Insert ⨾ FramesetNotOk ⨾ Switch InTable ⨾ ends) ∷
    end "br" ⟶ Reconstruct ⨾ InsertBare name.Br ⨾ Pop ⨾ FramesetNotOk ⨾ ends ∷
    start "area br embed img keygen wbr" ⟶ Reconstruct ⨾ Insert ⨾ Pop ⨾ FramesetNotOk ⨾ ends ∷
    start "input" ⟶ Reconstruct ⨾ Insert ⨾ Pop ⨾ unless TypeIsHidden (FramesetNotOk ⨾ ends) ends ∷
    start "param source track" ⟶ void ∷
    start "hr" ⟶ CloseParagraph ⨾ Insert ⨾ Pop ⨾ FramesetNotOk ⨾ ends ∷
    start "image" ⟶ AgainAs name.Img ⨾ ends ∷
    start "textarea" ⟶ Insert ⨾ Lexer rest.Rcdata ⨾ KeepOriginal ⨾ Switch Text ⨾ SkipLineFeed ⨾ FramesetNotOk ⨾ ends ∷
    start "xmp" ⟶ CloseParagraph ⨾ Reconstruct ⨾ FramesetNotOk ⨾ raw rest.Rawtext ∷
    start "iframe" ⟶ FramesetNotOk ⨾ raw rest.Rawtext ∷
    start "noembed" ⟶ raw rest.Rawtext ∷
    start "select" ⟶ Reconstruct ⨾ Insert ⨾ FramesetNotOk ⨾ when InTableModes (Switch InSelectInTable ⨾ Done ⨾ ends) (Switch InSelect ⨾ ends) ∷
    start "optgroup option" ⟶ when (CurrentIs name.Option) (Pop ⨾ ends) (Reconstruct ⨾ Insert ⨾ ends) ∷
    start "rb rtc" ⟶ when (InScope Default (Named name.Ruby)) (Implied ⨾ ends) (Insert ⨾ ends) ∷
    start "rp rt" ⟶ when (InScope Default (Named name.Ruby)) (ImpliedExcept (Named name.Rtc) ⨾ ends) (Insert ⨾ ends) ∷
    start "math svg" ⟶ Reconstruct ⨾ InsertForeign ⨾ ends ∷
    start "caption col colgroup frame head tbody td tfoot th thead tr" ⟶ ignored ∷
    any_start ⟶ Reconstruct ⨾ Insert ⨾ ends ∷
    any_end ⟶ Walk ⨾ ends ∷
    []

-- 13.2.6.4.7
abbrev pub in_body : List Row
in_body = in_body_structure ++ in_body_content

-- 13.2.6.4.8
abbrev pub text : List Row
text =
    white or nul or other ⟶ Characters ⨾ ends ∷
    comment ⟶ Comment ⨾ ends ∷
    end_of_input ⟶ Pop ⨾ ToOriginal ⨾ Again ⨾ ends ∷
    any_end ⟶ Pop ⨾ ToOriginal ⨾ ends ∷
    any ⟶ ignored ∷
    []
