-- The rows of the modes from initial to after head (13.2.6.4.1 to 13.2.6.4.6).
use Rattle.std.specs.Prelude.{List, [], ◌∷◌}
use Rattle.hp_elements.specs.declared.act.Act.TheVariants.{Again, As, Characters, Comment, CommentIntoDocument, PutDoctype, QuirksOfDoctype, Quirks, Insert, InsertBare, InsertHtml, InsertBareHtml, Pop, PushHead, TakeHeadOff, Through, ImpliedThoroughly, Marker, ClearToMarker, Reset, FramesetNotOk, Switch, HeadPointer, PushTemplateMode, PopTemplateMode}
use Rattle.hp_elements.specs.declared.act.Test.TheVariants.{TemplateInStack}
use Rattle.hp_elements.specs.declared.act.Which.TheVariants.{Named}
use Rattle.hp_elements.specs.KnownNames.{Head, Body, Template}
use Rattle.hp_elements.specs.declared.token.Mode.TheVariants.{BeforeHtml, BeforeHead, InHead, InHeadNoscript, AfterHead, InBody, InFrameset, InTemplate}
use Rattle.hp_elements.specs.declared.token.Rest.TheVariants.{Rcdata, Rawtext, Script}
use Rattle.hp_elements.specs.Rules.{Row, white, comment, doctype, start, end, end_but, any, ◌or◌, ends, ◌⨾◌, when, ◌⟶◌, ignored, void, raw}

-- 13.2.6.4.1
abbrev pub initial : List Row
initial =
    white ⟶ ignored ∷
    comment ⟶ CommentIntoDocument ⨾ ends ∷
    doctype ⟶ PutDoctype ⨾ QuirksOfDoctype ⨾ Switch BeforeHtml ⨾ ends ∷
    any ⟶ Quirks ⨾ Switch BeforeHtml ⨾ Again ⨾ ends ∷
    []

-- 13.2.6.4.2
abbrev pub before_html : List Row
before_html =
    white or doctype ⟶ ignored ∷
    comment ⟶ CommentIntoDocument ⨾ ends ∷
    start "html" ⟶ InsertHtml ⨾ Switch BeforeHead ⨾ ends ∷
    end_but "head body html br" ⟶ ignored ∷
    any ⟶ InsertBareHtml ⨾ Switch BeforeHead ⨾ Again ⨾ ends ∷
    []

-- 13.2.6.4.3
abbrev pub before_head : List Row
before_head =
    white or doctype ⟶ ignored ∷
    comment ⟶ Comment ⨾ ends ∷
    start "html" ⟶ As InBody ⨾ ends ∷
    start "head" ⟶ Insert ⨾ HeadPointer ⨾ Switch InHead ⨾ ends ∷
    end_but "head body html br" ⟶ ignored ∷
    any ⟶ InsertBare Head ⨾ HeadPointer ⨾ Switch InHead ⨾ Again ⨾ ends ∷
    []

-- 13.2.6.4.4
abbrev pub in_head : List Row
in_head =
    white ⟶ Characters ⨾ ends ∷
    comment ⟶ Comment ⨾ ends ∷
    doctype ⟶ ignored ∷
    start "html" ⟶ As InBody ⨾ ends ∷
    start "base basefont bgsound link meta" ⟶ void ∷
    start "title" ⟶ raw Rcdata ∷
    start "noframes style" ⟶ raw Rawtext ∷
    start "noscript" ⟶ Insert ⨾ Switch InHeadNoscript ⨾ ends ∷
    start "script" ⟶ raw Script ∷
    end "head" ⟶ Pop ⨾ Switch AfterHead ⨾ ends ∷
    start "template" ⟶ Insert ⨾ Marker ⨾ FramesetNotOk ⨾ Switch InTemplate ⨾ PushTemplateMode InTemplate ⨾ ends ∷
    end "template" ⟶ when TemplateInStack (ImpliedThoroughly ⨾ Through (Named Template) ⨾ ClearToMarker ⨾ PopTemplateMode ⨾ Reset ⨾ ends) ends ∷
    start "head" or end_but "body html br" ⟶ ignored ∷
    any ⟶ Pop ⨾ Switch AfterHead ⨾ Again ⨾ ends ∷
    []

-- 13.2.6.4.5
abbrev pub in_head_noscript : List Row
in_head_noscript =
    doctype ⟶ ignored ∷
    start "html" ⟶ As InBody ⨾ ends ∷
    end "noscript" ⟶ Pop ⨾ Switch InHead ⨾ ends ∷
    white or comment or start "basefont bgsound link meta noframes style" ⟶ As InHead ⨾ ends ∷
    start "head noscript" or end_but "br" ⟶ ignored ∷
    any ⟶ Pop ⨾ Switch InHead ⨾ Again ⨾ ends ∷
    []

-- 13.2.6.4.6
abbrev pub after_head : List Row
after_head =
    white ⟶ Characters ⨾ ends ∷
    comment ⟶ Comment ⨾ ends ∷
    doctype ⟶ ignored ∷
    start "html" ⟶ As InBody ⨾ ends ∷
    start "body" ⟶ Insert ⨾ FramesetNotOk ⨾ Switch InBody ⨾ ends ∷
    start "frameset" ⟶ Insert ⨾ Switch InFrameset ⨾ ends ∷
    start "base basefont bgsound link meta noframes script style template title" ⟶ PushHead ⨾ As InHead ⨾ TakeHeadOff ⨾ ends ∷
    end "template" ⟶ As InHead ⨾ ends ∷
    start "head" or end_but "body html br" ⟶ ignored ∷
    any ⟶ InsertBare Body ⨾ Switch InBody ⨾ Again ⨾ ends ∷
    []
