-- The rows of foreign content (13.2.6.5).
use Rattle.std.specs.Prelude.{List, [], ◌∷◌}
use Rattle.hp_elements.specs.declared.act.Act.TheVariants.{AsPresent, Characters, Comment, Done, FramesetNotOk, InsertAsCurrent, PopToPoint, Replacement, ThroughForeign}
use Rattle.hp_elements.specs.declared.act.Test.TheVariants.{HasFontAttribute, NamesForeign}
use Rattle.hp_elements.specs.Rules.{Row, white, nul, other, comment, doctype, start, end, any_start, any_end, any, ◌or◌, ends, ◌⨾◌, when, ◌⟶◌, ignored}

-- 13.2.6.5; the end of input isn't handled here
abbrev pub foreign : List Row
foreign =
    nul ⟶ Replacement ⨾ ends ∷
    white ⟶ Characters ⨾ ends ∷
    other ⟶ Characters ⨾ FramesetNotOk ⨾ ends ∷
    comment ⟶ Comment ⨾ ends ∷
    doctype ⟶ ignored ∷
    start "b big blockquote body br center code dd div dl dt em embed h1 h2 h3 h4 h5 h6 head hr i img li listing menu meta nobr ol p pre ruby s small span strong strike sub sup table tt u ul var" or end "br p" ⟶ PopToPoint ⨾ AsPresent ⨾ ends ∷
    start "font" ⟶ when HasFontAttribute (PopToPoint ⨾ AsPresent ⨾ Done ⨾ ends) (InsertAsCurrent ⨾ ends) ∷
    any_start ⟶ InsertAsCurrent ⨾ ends ∷
    any_end ⟶ when NamesForeign (ThroughForeign ⨾ Done ⨾ ends) (AsPresent ⨾ ends) ∷
    any ⟶ ignored ∷
    []
