-- The usual rows of the body and of tables, by their acts, and what each of them asks and changes (13.2.6.4.7, 13.2.6.4.13 to
-- 13.2.6.4.15).
use Rattle.std.specs.Prelude.{◌≡◌, ◌⊎◌, ℕ, Bool, true, false, List, [], ◌∷◌}
use Rattle.hp_elements.specs.Names.{known_of, text_of}
use Rattle.hp_elements.specs.Rules.{Row, acts_for}
use Rattle.hp_elements.specs.Tokens.{kind_of}
use Rattle.hp_elements.specs.declared.act.Act.{Act}
use Rattle.hp_elements.specs.declared.act.Act.TheVariants as act
use Rattle.hp_elements.specs.declared.act.Scope.TheVariants as scope
use Rattle.hp_elements.specs.declared.act.Test.TheVariants as test
use Rattle.hp_elements.specs.declared.act.Which.TheVariants.{Its, Named}
use Rattle.hp_elements.specs.declared.kinds.Kinds.TheVariants as kinds
use Rattle.hp_elements.specs.KnownNames as known
use Rattle.hp_elements.specs.declared.sets.SetName.TheVariants as set
use Rattle.hp_elements.specs.declared.tag.Tag.{Tag}
use Rattle.hp_elements.specs.declared.token.Mode.{Mode}
use Rattle.hp_elements.specs.declared.token.Mode.TheVariants as mode
use Rattle.hp_elements.specs.declared.token.Token.{Token}
use Rattle.hp_control.specs.Faithful.{Split}
use Rattle.hp_control.specs.Plan.{Plan, gives, followed_by}
use Rattle.hp_adoption.specs.AdoptPlans.{adopt_plan}
use Rattle.hp_adoption.specs.ArkPlans.{append_to_list_plan}
use Rattle.hp_adoption.specs.LinkPlans.{close_link_plan}
use Rattle.hp_adoption.specs.ReconPlans.{reconstruct_plan}
use Rattle.hp_rules_body.specs.Body.{in_body}
use Rattle.hp_rules_table.specs.TableModes.{in_cell, in_row, in_table_body}
use Rattle.hp_views.specs.ClosingPlans.{close_description_plan, close_item_plan, close_paragraph_plan, implied_except_plan, implied_plan, walk_plan}
use Rattle.hp_views.specs.FieldPlans.{frameset_plan, switch_plan}
use Rattle.hp_views.specs.ListPlans.{clear_plan, marker_plan}
use Rattle.hp_views.specs.PlacePlans.{insert_plan}
use Rattle.hp_views.specs.StackPlans.{in_scope_plan, pop_plan, pop_to_plan, through_plan}
use Rattle.hp_model.specs.Texts.{has_html_top}
use Rattle.hp_model.specs.Tokens.{bare, name_of}
use Rattle.hp_acts.specs.Plans.{implied_but_plan}
use Rattle.hp_acts.specs.Spending.{html_tag}
use Rattle.hp_acts.specs.declared.usual.Closing.{Closing}
use Rattle.hp_acts.specs.declared.usual.Closing.TheVariants as closing
use Rattle.hp_acts.specs.declared.usual.Opening.{Opening}
use Rattle.hp_acts.specs.declared.usual.Opening.TheVariants as opening
use Rattle.hp_acts.specs.declared.usual.TablePart.{TablePart}
use Rattle.hp_acts.specs.declared.usual.TablePart.TheVariants as part
use Rattle.hp_acts.specs.declared.usual.UsualRow.{UsualRow}
use Rattle.hp_acts.specs.declared.usual.UsualRow.TheVariants.{Begins, Closes, Ends, Opens}

abbrev pub opening_acts : Opening → List Act
opening_acts opening.Block = act.CloseParagraph ∷ act.Insert ∷ []
opening_acts opening.Item = act.FramesetNotOk ∷ act.CloseItem ∷ act.CloseParagraph ∷ act.Insert ∷ []
opening_acts opening.Description = act.FramesetNotOk ∷ act.CloseDescription ∷ act.CloseParagraph ∷ act.Insert ∷ []
opening_acts opening.Link = act.CloseLink ∷ act.Reconstruct ∷ act.Insert ∷ act.AppendToList ∷ []
opening_acts opening.Formatting = act.Reconstruct ∷ act.Insert ∷ act.AppendToList ∷ []
opening_acts opening.Ordinary = act.Reconstruct ∷ act.Insert ∷ []

abbrev pub closing_acts : Closing → List Act
closing_acts closing.Block = act.If (test.InScope scope.Default Its) 3 ∷ act.Implied ∷ act.Through Its ∷ []
closing_acts closing.Item = act.If (test.InScope scope.ListItem (Named known.Li)) 3 ∷ act.ImpliedExcept (Named known.Li) ∷ act.Through (Named known.Li) ∷ []
closing_acts closing.Description = act.If (test.InScope scope.Default Its) 3 ∷ act.ImpliedExcept Its ∷ act.Through Its ∷ []
closing_acts closing.Paragraph = act.Unless (test.InScope scope.Button (Named known.P)) 2 ∷ act.InsertBare known.P ∷ act.CloseParagraph ∷ []
closing_acts closing.Formatting = act.Adopt Its ∷ []
closing_acts closing.Ordinary = act.Walk ∷ []

-- the acts where a part of a table begins, and where it ends
abbrev pub begin_acts : TablePart → List Act
begin_acts part.Row = act.PopTo set.TableBodyContext ∷ act.Insert ∷ act.Switch mode.InRow ∷ []
begin_acts part.Cell = act.PopTo set.TableRowContext ∷ act.Insert ∷ act.Switch mode.InCell ∷ act.Marker ∷ []

abbrev pub end_acts : TablePart → List Act
end_acts part.Row = act.If (test.InScope scope.Table (Named known.Tr)) 4 ∷ act.PopTo set.TableRowContext ∷ act.Pop ∷ act.Switch mode.InTableBody ∷ []
end_acts part.Cell = act.If (test.InScope scope.Table Its) 5 ∷ act.Implied ∷ act.Through Its ∷ act.ClearToMarker ∷ act.Switch mode.InRow ∷ []

abbrev pub usual_acts : UsualRow → List Act
usual_acts (Opens row) = opening_acts row
usual_acts (Closes row) = closing_acts row
usual_acts (Begins row) = begin_acts row
usual_acts (Ends row) = end_acts row

-- the row that the token has among those
abbrev pub HasIn : List Row → Token → UsualRow → Type 0
HasIn rows t row = acts_for rows (kind_of t) ≡ usual_acts row

-- the row that the token has in the mode; in a cell that of the body, where its own row only uses the rules of the body
abbrev pub HasRow : Mode → Token → UsualRow → Type 0
HasRow mode.InBody t row = HasIn in_body t row
HasRow mode.InTableBody t row = HasIn in_table_body t row
HasRow mode.InRow t row = HasIn in_row t row
HasRow mode.InCell t row = HasIn in_cell t row ⊎ ((acts_for in_cell (kind_of t) ≡ act.As mode.InBody ∷ []) × HasIn in_body t row)
HasRow m t row = ⊥

-- the token has that row, and isn't foreign content
pub record IsUsual (v : Split) (t : Token) (row : UsualRow) : Type 0 where
  pub place : HasRow v.change.mode t row
  pub top : has_html_top v.change.stack ≡ true

-- a block goes into no paragraph
abbrev pub block_plan : Tag → Split → Plan Split
block_plan tag v = followed_by (close_paragraph_plan v) (insert_plan false tag)

abbrev pub item_after_plan : Tag → Split → Plan Split
item_after_plan tag v = followed_by (close_item_plan v) (block_plan tag)

abbrev pub item_plan : Tag → Split → Plan Split
item_plan tag v = followed_by (frameset_plan v) (item_after_plan tag)

abbrev pub description_after_plan : Tag → Split → Plan Split
description_after_plan tag v = followed_by (close_description_plan v) (block_plan tag)

abbrev pub description_plan : Tag → Split → Plan Split
description_plan tag v = followed_by (frameset_plan v) (description_after_plan tag)

abbrev pub listed_plan : Tag → Split → Plan Split
listed_plan tag v = followed_by (insert_plan false tag v) (append_to_list_plan tag)

abbrev pub formatting_plan : Tag → Split → Plan Split
formatting_plan tag v = followed_by (reconstruct_plan false v) (listed_plan tag)

abbrev pub link_plan : Tag → Split → Plan Split
link_plan tag v = followed_by (close_link_plan false v) (formatting_plan tag)

abbrev pub ordinary_plan : Tag → Split → Plan Split
ordinary_plan tag v = followed_by (reconstruct_plan false v) (insert_plan false tag)

abbrev pub opening_plan : Opening → Tag → Split → Plan Split
opening_plan opening.Block = block_plan
opening_plan opening.Item = item_plan
opening_plan opening.Description = description_plan
opening_plan opening.Link = link_plan
opening_plan opening.Formatting = formatting_plan
opening_plan opening.Ordinary = ordinary_plan

-- a block is closed where it is in scope
abbrev pub block_end_by : List ℕ → Split → Bool → Plan Split
block_end_by name v true = followed_by (implied_plan v) (through_plan (kinds.Html name) kinds.Nothing)
block_end_by name v false = gives v

abbrev pub block_end_plan : List ℕ → Split → Plan Split
block_end_plan name v = followed_by (in_scope_plan scope.Default (kinds.Html name) v) (block_end_by name v)

abbrev pub item_end_by : Split → Bool → Plan Split
item_end_by v true = followed_by (implied_except_plan known.Li v) (through_plan (kinds.Html (text_of known.Li)) kinds.Nothing)
item_end_by v false = gives v

abbrev pub item_end_plan : Split → Plan Split
item_end_plan v = followed_by (in_scope_plan scope.ListItem (kinds.Html (text_of known.Li)) v) (item_end_by v)

abbrev pub description_end_by : List ℕ → Split → Bool → Plan Split
description_end_by name v true = followed_by (implied_but_plan (known_of name) v) (through_plan (kinds.Html name) kinds.Nothing)
description_end_by name v false = gives v

abbrev pub description_end_plan : List ℕ → Split → Plan Split
description_end_plan name v = followed_by (in_scope_plan scope.Default (kinds.Html name) v) (description_end_by name v)

-- where no p is in scope, an empty one is made
abbrev pub paragraph_end_by : Split → Bool → Plan Split
paragraph_end_by v true = close_paragraph_plan v
paragraph_end_by v false = followed_by (insert_plan false (bare (text_of known.P)) v) close_paragraph_plan

abbrev pub paragraph_end_plan : Split → Plan Split
paragraph_end_plan v = followed_by (in_scope_plan scope.Button (kinds.Html (text_of known.P)) v) (paragraph_end_by v)

abbrev pub closing_plan : Closing → List ℕ → Split → Plan Split
closing_plan closing.Block name = block_end_plan name
closing_plan closing.Item name = item_end_plan
closing_plan closing.Description name = description_end_plan name
closing_plan closing.Paragraph name = paragraph_end_plan
closing_plan closing.Formatting name = adopt_plan false name
closing_plan closing.Ordinary name = walk_plan name

-- a row, or a cell, of a table begins
abbrev pub row_after_plan : Tag → Split → Plan Split
row_after_plan tag v = followed_by (insert_plan false tag v) (switch_plan mode.InRow)

abbrev pub row_plan : Tag → Split → Plan Split
row_plan tag v = followed_by (pop_to_plan (kinds.Set set.TableBodyContext) v) (row_after_plan tag)

abbrev pub cell_begun_plan : Split → Plan Split
cell_begun_plan v = followed_by (switch_plan mode.InCell v) marker_plan

abbrev pub cell_after_plan : Tag → Split → Plan Split
cell_after_plan tag v = followed_by (insert_plan false tag v) cell_begun_plan

abbrev pub cell_plan : Tag → Split → Plan Split
cell_plan tag v = followed_by (pop_to_plan (kinds.Set set.TableRowContext) v) (cell_after_plan tag)

abbrev pub begin_plan : TablePart → Tag → Split → Plan Split
begin_plan part.Row = row_plan
begin_plan part.Cell = cell_plan

-- it ends where it is in scope
abbrev pub row_left_plan : Split → Plan Split
row_left_plan v = followed_by (pop_plan v) (switch_plan mode.InTableBody)

abbrev pub row_end_by : Split → Bool → Plan Split
row_end_by v true = followed_by (pop_to_plan (kinds.Set set.TableRowContext) v) row_left_plan
row_end_by v false = gives v

abbrev pub row_end_plan : Split → Plan Split
row_end_plan v = followed_by (in_scope_plan scope.Table (kinds.Html (text_of known.Tr)) v) (row_end_by v)

abbrev pub cell_left_plan : Split → Plan Split
cell_left_plan v = followed_by (clear_plan v) (switch_plan mode.InRow)

abbrev pub cell_closed_plan : List ℕ → Split → Plan Split
cell_closed_plan name v = followed_by (through_plan (kinds.Html name) kinds.Nothing v) cell_left_plan

abbrev pub cell_end_by : List ℕ → Split → Bool → Plan Split
cell_end_by name v true = followed_by (implied_plan v) (cell_closed_plan name)
cell_end_by name v false = gives v

abbrev pub cell_end_plan : List ℕ → Split → Plan Split
cell_end_plan name v = followed_by (in_scope_plan scope.Table (kinds.Html name) v) (cell_end_by name v)

abbrev pub end_plan : TablePart → List ℕ → Split → Plan Split
end_plan part.Row name = row_end_plan
end_plan part.Cell name = cell_end_plan name

abbrev pub usual_plan : UsualRow → Token → Split → Plan Split
usual_plan (Opens row) t = opening_plan row (html_tag t)
usual_plan (Closes row) t = closing_plan row (name_of t)
usual_plan (Begins row) t = begin_plan row (html_tag t)
usual_plan (Ends row) t = end_plan row (name_of t)
