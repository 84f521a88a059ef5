-- The rows of the select modes and of in template (13.2.6.4.16 to 13.2.6.4.18).
use Rattle.std.specs.Prelude.{List, [], ◌∷◌}
use Rattle.hp_elements.specs.declared.act.Act.TheVariants.{Again, As, Characters, ClearToMarker, Comment, Done, Insert, Pop, PopTemplateMode, ReplaceTemplateMode, Reset, Stop, Switch, Through}
use Rattle.hp_elements.specs.declared.act.Scope.TheVariants as scope
use Rattle.hp_elements.specs.declared.act.Test.TheVariants.{BelowIs, CurrentIs, InScope, TemplateInStack}
use Rattle.hp_elements.specs.declared.act.Which.TheVariants.{Its, Named}
use Rattle.hp_elements.specs.KnownNames as name
use Rattle.hp_elements.specs.declared.token.Mode.TheVariants.{InBody, InColumnGroup, InHead, InRow, InSelect, InTable, InTableBody}
use Rattle.hp_elements.specs.Rules.{Row, white, nul, other, comment, doctype, start, end, any_start, any_end, end_of_input, any, ◌or◌, ends, ◌⨾◌, when, ◌⟶◌, ignored, void}

-- 13.2.6.4.16
abbrev pub in_select : List Row
in_select =
    nul ⟶ ignored ∷
    white or other ⟶ Characters ⨾ ends ∷
    comment ⟶ Comment ⨾ ends ∷
    doctype ⟶ ignored ∷
    start "html" ⟶ As InBody ⨾ ends ∷
    start "option" ⟶ when (CurrentIs name.Option) (Pop ⨾ ends) (Insert ⨾ ends) ∷
    start "optgroup" ⟶ when (CurrentIs name.Option) (Pop ⨾ ends) (when (CurrentIs name.Optgroup) (Pop ⨾ ends) (Insert ⨾ ends)) ∷
    start "hr" ⟶ when (CurrentIs name.Option) (Pop ⨾ ends) (when (CurrentIs name.Optgroup) (Pop ⨾ ends) void) ∷
    end "optgroup" ⟶ when (CurrentIs name.Option) (when (BelowIs name.Optgroup) (Pop ⨾ ends) ends) (when (CurrentIs name.Optgroup) (Pop ⨾ ends) ends) ∷
    end "option" ⟶ when (CurrentIs name.Option) (Pop ⨾ ends) ends ∷
    start "select" or end "select" ⟶ when (InScope scope.Select (Named name.Select)) (Through (Named name.Select) ⨾ Reset ⨾ ends) ends ∷
    start "input keygen textarea" ⟶ when (InScope scope.Select (Named name.Select)) (Through (Named name.Select) ⨾ Reset ⨾ Again ⨾ ends) ends ∷
    start "script template" or end "template" ⟶ As InHead ⨾ ends ∷
    end_of_input ⟶ As InBody ⨾ ends ∷
    any ⟶ ignored ∷
    []

-- 13.2.6.4.17
abbrev pub in_select_in_table : List Row
in_select_in_table =
    start "caption table tbody tfoot thead tr td th" ⟶ Through (Named name.Select) ⨾ Reset ⨾ Again ⨾ ends ∷
    end "caption table tbody tfoot thead tr td th" ⟶ when (InScope scope.Table Its) (Through (Named name.Select) ⨾ Reset ⨾ Again ⨾ ends) ends ∷
    any ⟶ As InSelect ⨾ ends ∷
    []

-- 13.2.6.4.18
abbrev pub in_template : List Row
in_template =
    white or nul or other or comment or doctype ⟶ As InBody ⨾ ends ∷
    start "base basefont bgsound link meta noframes script style template title" or end "template" ⟶ As InHead ⨾ ends ∷
    start "caption colgroup tbody tfoot thead" ⟶ ReplaceTemplateMode InTable ⨾ Switch InTable ⨾ Again ⨾ ends ∷
    start "col" ⟶ ReplaceTemplateMode InColumnGroup ⨾ Switch InColumnGroup ⨾ Again ⨾ ends ∷
    start "tr" ⟶ ReplaceTemplateMode InTableBody ⨾ Switch InTableBody ⨾ Again ⨾ ends ∷
    start "td th" ⟶ ReplaceTemplateMode InRow ⨾ Switch InRow ⨾ Again ⨾ ends ∷
    any_start ⟶ ReplaceTemplateMode InBody ⨾ Switch InBody ⨾ Again ⨾ ends ∷
    any_end ⟶ ignored ∷
    end_of_input ⟶ when TemplateInStack (Through (Named name.Template) ⨾ ClearToMarker ⨾ PopTemplateMode ⨾ Reset ⨾ Again ⨾ Done ⨾ ends) (Stop ⨾ ends) ∷
    []
