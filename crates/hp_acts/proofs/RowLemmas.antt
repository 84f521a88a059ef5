-- Each mode has its rows in the crate that has the mode.
use Rattle.std.proofs.Common.{◌≡◌, ℕ, List, [], refl, ap, ◌∙◌}
use Rattle.std.specs.Prelude.{unwrap_or}
use Rattle.hp_elements.specs.declared.token.Kind.{Kind}
use Rattle.hp_elements.specs.declared.token.Mode.{Mode}
use Rattle.hp_elements.specs.declared.token.Mode.TheVariants as mode
use Rattle.hp_rules_rest.specs.Whole.{every_mode_rows}
use Rattle.hp_elements.specs.Rules.{Row, acts_for, acts_numbered}
use Rattle.hp_acts.specs.declared.rows.Part.{Part}
use Rattle.hp_acts.specs.Rows.{part_in, rows_in, mode_rows_in}

pub rows_of_mode : (m : Mode) → unwrap_or (mode_rows_in (part_in m) m) [] ≡ every_mode_rows m
unfolding every_mode_rows
rows_of_mode mode.Initial = refl
rows_of_mode mode.BeforeHtml = refl
rows_of_mode mode.BeforeHead = refl
rows_of_mode mode.InHead = refl
rows_of_mode mode.InHeadNoscript = refl
rows_of_mode mode.AfterHead = refl
rows_of_mode mode.InBody = refl
rows_of_mode mode.Text = refl
rows_of_mode mode.InTable = refl
rows_of_mode mode.InTableText = refl
rows_of_mode mode.InCaption = refl
rows_of_mode mode.InColumnGroup = refl
rows_of_mode mode.InTableBody = refl
rows_of_mode mode.InRow = refl
rows_of_mode mode.InCell = refl
rows_of_mode mode.InSelect = refl
rows_of_mode mode.InSelectInTable = refl
rows_of_mode mode.InTemplate = refl
rows_of_mode mode.AfterBody = refl
rows_of_mode mode.InFrameset = refl
rows_of_mode mode.AfterFrameset = refl
rows_of_mode mode.AfterAfterBody = refl
rows_of_mode mode.AfterAfterFrameset = refl

-- the row of a mode, found in the crate that has the mode
pub row_along : (part : Part) (m : Mode) (kind : Kind) (number : ℕ) → part ≡ part_in m → acts_numbered (rows_in part) number ≡ acts_for (unwrap_or (mode_rows_in part m) []) kind → acts_numbered (rows_in part) number ≡ acts_for (every_mode_rows m) kind
row_along part m kind number e h = h ∙ ap (λ (rows : List Row). acts_for rows kind) (ap (λ p. unwrap_or (mode_rows_in p m) []) e ∙ rows_of_mode m)
