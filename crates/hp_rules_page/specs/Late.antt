-- The rows of the modes after the body and of framesets (13.2.6.4.19 to 13.2.6.4.23).
use Rattle.std.specs.Prelude.{List, [], ◌∷◌}
use Rattle.hp_elements.specs.declared.act.Act.TheVariants.{Again, As, Characters, Comment, CommentIntoDocument, CommentIntoFirst, Insert, Pop, Stop, Switch}
use Rattle.hp_elements.specs.declared.act.Test.TheVariants.{CurrentIs}
use Rattle.hp_elements.specs.KnownNames.{Frameset, Html}
use Rattle.hp_elements.specs.declared.token.Mode.TheVariants.{AfterAfterBody, AfterAfterFrameset, AfterFrameset, InBody, InHead}
use Rattle.hp_elements.specs.Rules.{Row, white, comment, doctype, start, end, end_of_input, any, ◌or◌, ends, ◌⨾◌, unless, ◌⟶◌, ignored, void}

-- 13.2.6.4.19
abbrev pub after_body : List Row
after_body =
    white or start "html" ⟶ As InBody ⨾ ends ∷
    comment ⟶ CommentIntoFirst ⨾ ends ∷
    doctype ⟶ ignored ∷
    end "html" ⟶ Switch AfterAfterBody ⨾ ends ∷
    end_of_input ⟶ Stop ⨾ ends ∷
    any ⟶ Switch InBody ⨾ Again ⨾ ends ∷
    []

-- 13.2.6.4.20
abbrev pub in_frameset : List Row
in_frameset =
    white ⟶ Characters ⨾ ends ∷
    comment ⟶ Comment ⨾ ends ∷
    doctype ⟶ ignored ∷
    start "html" ⟶ As InBody ⨾ ends ∷
    start "frameset" ⟶ Insert ⨾ ends ∷
    end "frameset" ⟶ unless (CurrentIs Html) (Pop ⨾ unless (CurrentIs Frameset) (Switch AfterFrameset ⨾ ends) ends) ends ∷
    start "frame" ⟶ void ∷
    start "noframes" ⟶ As InHead ⨾ ends ∷
    end_of_input ⟶ Stop ⨾ ends ∷
    any ⟶ ignored ∷
    []

-- 13.2.6.4.21
abbrev pub after_frameset : List Row
after_frameset =
    white ⟶ Characters ⨾ ends ∷
    comment ⟶ Comment ⨾ ends ∷
    doctype ⟶ ignored ∷
    start "html" ⟶ As InBody ⨾ ends ∷
    end "html" ⟶ Switch AfterAfterFrameset ⨾ ends ∷
    start "noframes" ⟶ As InHead ⨾ ends ∷
    end_of_input ⟶ Stop ⨾ ends ∷
    any ⟶ ignored ∷
    []

-- 13.2.6.4.22
abbrev pub after_after_body : List Row
after_after_body =
    comment ⟶ CommentIntoDocument ⨾ ends ∷
    doctype ⟶ ignored ∷
    white or start "html" ⟶ As InBody ⨾ ends ∷
    end_of_input ⟶ Stop ⨾ ends ∷
    any ⟶ Switch InBody ⨾ Again ⨾ ends ∷
    []

-- 13.2.6.4.23
abbrev pub after_after_frameset : List Row
after_after_frameset =
    comment ⟶ CommentIntoDocument ⨾ ends ∷
    doctype ⟶ ignored ∷
    white or start "html" ⟶ As InBody ⨾ ends ∷
    end_of_input ⟶ Stop ⨾ ends ∷
    start "noframes" ⟶ As InHead ⨾ ends ∷
    any ⟶ ignored ∷
    []
