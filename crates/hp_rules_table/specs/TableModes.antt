-- The rows of the modes of tables (13.2.6.4.9 to 13.2.6.4.15).
use Rattle.std.specs.Prelude.{List, [], ◌∷◌}
use Rattle.hp_elements.specs.declared.act.Act.TheVariants.{Again, AppendPending, As, AsFostered, Characters, ClearToMarker, Comment, Done, EmptyPending, Flush, FormPointer, Implied, Insert, InsertBare, KeepOriginal, Marker, Pop, PopTo, Reset, Switch, Through, ThroughFirstOf, ToOriginal}
use Rattle.hp_elements.specs.declared.act.Scope.TheVariants.{Table}
use Rattle.hp_elements.specs.declared.act.Test.TheVariants.{CurrentIs, CurrentIsIn, HasForm, InScope, OneInScope, TemplateInStack, TypeIsHidden}
use Rattle.hp_elements.specs.declared.act.Which.TheVariants.{Its, Named}
use Rattle.hp_elements.specs.KnownNames as name
use Rattle.hp_elements.specs.declared.sets.SetName.TheVariants.{TableTextParents, TableContext, TableBodyContext, TableRowContext, TableSections, Cells}
use Rattle.hp_elements.specs.declared.token.Mode.TheVariants.{InBody, InCaption, InCell, InColumnGroup, InHead, InRow, InTable, InTableBody, InTableText}
use Rattle.hp_elements.specs.Rules.{Row, white, nul, other, comment, doctype, start, end, end_of_input, any, ◌or◌, ends, ◌⨾◌, when, unless, ◌⟶◌, ignored, void}

-- 13.2.6.4.9
abbrev pub in_table : List Row
in_table =
    white or nul or other ⟶ when (CurrentIsIn TableTextParents) (EmptyPending ⨾ KeepOriginal ⨾ Switch InTableText ⨾ Again ⨾ Done ⨾ ends) (AsFostered InBody ⨾ ends) ∷
    comment ⟶ Comment ⨾ ends ∷
    doctype ⟶ ignored ∷
    start "caption" ⟶ PopTo TableContext ⨾ Marker ⨾ Insert ⨾ Switch InCaption ⨾ ends ∷
    start "colgroup" ⟶ PopTo TableContext ⨾ Insert ⨾ Switch InColumnGroup ⨾ ends ∷
    start "col" ⟶ PopTo TableContext ⨾ InsertBare name.Colgroup ⨾ Switch InColumnGroup ⨾ Again ⨾ ends ∷
    start "tbody tfoot thead" ⟶ PopTo TableContext ⨾ Insert ⨾ Switch InTableBody ⨾ ends ∷
    start "td th tr" ⟶ PopTo TableContext ⨾ InsertBare name.Tbody ⨾ Switch InTableBody ⨾ Again ⨾ ends ∷
    start "table" ⟶ when (InScope Table (Named name.Table)) (Through (Named name.Table) ⨾ Reset ⨾ Again ⨾ ends) ends ∷
    end "table" ⟶ when (InScope Table (Named name.Table)) (Through (Named name.Table) ⨾ Reset ⨾ ends) ends ∷
    end "body caption col colgroup html tbody td tfoot th thead tr" ⟶ ignored ∷
    start "style script template" or end "template" ⟶ As InHead ⨾ ends ∷
    start "input" ⟶ when TypeIsHidden (Insert ⨾ Pop ⨾ Done ⨾ ends) (AsFostered InBody ⨾ ends) ∷
    start "form" ⟶ unless TemplateInStack (unless HasForm (Insert ⨾ FormPointer ⨾ Pop ⨾ ends) ends) ends ∷
    end_of_input ⟶ As InBody ⨾ ends ∷
    any ⟶ AsFostered InBody ⨾ ends ∷
    []

-- 13.2.6.4.10; a comment and a doctype flush first, too
abbrev pub in_table_text : List Row
in_table_text =
    nul ⟶ ignored ∷
    white or other ⟶ AppendPending ⨾ ends ∷
    any ⟶ Flush ⨾ ToOriginal ⨾ Again ⨾ ends ∷
    []

-- 13.2.6.4.11
abbrev pub in_caption : List Row
in_caption =
    end "caption" ⟶ when (InScope Table (Named name.Caption)) (Implied ⨾ Through (Named name.Caption) ⨾ ClearToMarker ⨾ Switch InTable ⨾ ends) ends ∷
    start "caption col colgroup tbody td tfoot th thead tr" or end "table" ⟶ when (InScope Table (Named name.Caption)) (Implied ⨾ Through (Named name.Caption) ⨾ ClearToMarker ⨾ Switch InTable ⨾ Again ⨾ ends) ends ∷
    end "body col colgroup html tbody td tfoot th thead tr" ⟶ ignored ∷
    any ⟶ As InBody ⨾ ends ∷
    []

-- 13.2.6.4.12
abbrev pub in_column_group : List Row
in_column_group =
    white ⟶ Characters ⨾ ends ∷
    comment ⟶ Comment ⨾ ends ∷
    doctype ⟶ ignored ∷
    start "html" ⟶ As InBody ⨾ ends ∷
    start "col" ⟶ void ∷
    end "colgroup" ⟶ when (CurrentIs name.Colgroup) (Pop ⨾ Switch InTable ⨾ ends) ends ∷
    end "col" ⟶ ignored ∷
    start "template" or end "template" ⟶ As InHead ⨾ ends ∷
    end_of_input ⟶ As InBody ⨾ ends ∷
    any ⟶ when (CurrentIs name.Colgroup) (Pop ⨾ Switch InTable ⨾ Again ⨾ ends) ends ∷
    []

-- 13.2.6.4.13
abbrev pub in_table_body : List Row
in_table_body =
    start "tr" ⟶ PopTo TableBodyContext ⨾ Insert ⨾ Switch InRow ⨾ ends ∷
    start "th td" ⟶ PopTo TableBodyContext ⨾ InsertBare name.Tr ⨾ Switch InRow ⨾ Again ⨾ ends ∷
    end "tbody tfoot thead" ⟶ when (InScope Table Its) (PopTo TableBodyContext ⨾ Pop ⨾ Switch InTable ⨾ ends) ends ∷
    start "caption col colgroup tbody tfoot thead" or end "table" ⟶ when (OneInScope Table TableSections) (PopTo TableBodyContext ⨾ Pop ⨾ Switch InTable ⨾ Again ⨾ ends) ends ∷
    end "body caption col colgroup html td th tr" ⟶ ignored ∷
    any ⟶ As InTable ⨾ ends ∷
    []

-- 13.2.6.4.14
abbrev pub in_row : List Row
in_row =
    start "th td" ⟶ PopTo TableRowContext ⨾ Insert ⨾ Switch InCell ⨾ Marker ⨾ ends ∷
    end "tr" ⟶ when (InScope Table (Named name.Tr)) (PopTo TableRowContext ⨾ Pop ⨾ Switch InTableBody ⨾ ends) ends ∷
    start "caption col colgroup tbody tfoot thead tr" or end "table" ⟶ when (InScope Table (Named name.Tr)) (PopTo TableRowContext ⨾ Pop ⨾ Switch InTableBody ⨾ Again ⨾ ends) ends ∷
    end "tbody tfoot thead" ⟶ when (InScope Table Its) (when (InScope Table (Named name.Tr)) (PopTo TableRowContext ⨾ Pop ⨾ Switch InTableBody ⨾ Again ⨾ ends) ends) ends ∷
    end "body caption col colgroup html td th" ⟶ ignored ∷
    any ⟶ As InTable ⨾ ends ∷
    []

-- 13.2.6.4.15
abbrev pub in_cell : List Row
in_cell =
    end "td th" ⟶ when (InScope Table Its) (Implied ⨾ Through Its ⨾ ClearToMarker ⨾ Switch InRow ⨾ ends) ends ∷
    start "caption col colgroup tbody td tfoot th thead tr" ⟶ when (OneInScope Table Cells) (Implied ⨾ ThroughFirstOf Cells ⨾ ClearToMarker ⨾ Switch InRow ⨾ Again ⨾ ends) ends ∷
    end "body caption col colgroup html" ⟶ ignored ∷
    end "table tbody tfoot thead tr" ⟶ when (InScope Table Its) (Implied ⨾ ThroughFirstOf Cells ⨾ ClearToMarker ⨾ Switch InRow ⨾ Again ⨾ ends) ends ∷
    any ⟶ As InBody ⨾ ends ∷
    []
