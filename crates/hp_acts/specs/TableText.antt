-- Characters between the parts of a table wait until another token comes, and go into the tree before it (13.2.6.4.9, 13.2.6.4.10,
-- 13.2.6.4.13, 13.2.6.4.14).
use Rattle.std.specs.Prelude.{◌≡◌, ℕ, ◌&&◌, Bool, true, false, List, [], ◌∷◌, Some}
use Rattle.hp_elements.specs.declared.kinds.Kinds.TheVariants as kinds
use Rattle.hp_elements.specs.declared.sets.SetName.TheVariants.{TableTextParents}
use Rattle.hp_elements.specs.declared.token.Mode.{Mode}
use Rattle.hp_elements.specs.declared.token.Mode.TheVariants as mode
use Rattle.hp_elements.specs.declared.token.Token.{Token}
use Rattle.hp_elements.specs.declared.token.Token.TheVariants.{Characters}
use Rattle.hp_control.specs.declared.change.Change.{Change}
use Rattle.hp_control.specs.declared.element.OpenElement.{OpenElement}
use Rattle.hp_control.specs.Faithful.{Split}
use Rattle.hp_control.specs.KindTests.{within}
use Rattle.hp_control.specs.Plan.{Plan, followed_by}
use Rattle.hp_control.specs.States.{is_html}
use Rattle.hp_adoption.specs.FlushPlans.{flush_plan}
use Rattle.hp_views.specs.FieldPlans.{append_pending_plan, original_plan, with_change}
use Rattle.hp_model.specs.Texts.{has_html_top}
use Rattle.hp_model.specs.Tokens.{characters}
use Rattle.hp_acts.specs.HandlePlans.{turns_plan}
use Rattle.hp_acts.specs.Handling.{nothing_asked}
use Rattle.hp_acts.specs.Plain.{is_run}
use Rattle.hp_acts.specs.RowPlans.{Reached}

-- the modes whose rows use the rules of tables for characters
abbrev pub is_part_mode : Mode → Bool
is_part_mode mode.InTable = true
is_part_mode mode.InTableBody = true
is_part_mode mode.InRow = true
is_part_mode _ = false

-- the mode in which characters wait
abbrev pub is_waiting : Mode → Bool
is_waiting mode.InTableText = true
is_waiting _ = false

-- the HTML elements at which they do, and that the current node is one
abbrev pub waits : OpenElement → Bool
waits e = is_html e && within (kinds.Set TableTextParents) e

abbrev pub waits_at : List OpenElement → Bool
waits_at [] = false
waits_at (e ∷ es) = waits e

abbrev pub is_characters : Token → Bool
is_characters (Characters class text) = true
is_characters _ = false

-- a first run of characters that waits, a further one, and another token behind them
pub record BeginsText (v : Split) (t : Token) : Type 0 where
  pub run : is_run t ≡ true
  pub place : is_part_mode v.change.mode ≡ true
  pub own : v.older_text ≡ false
  pub top : waits_at v.change.stack ≡ true

pub record ContinuesText (v : Split) (t : Token) : Type 0 where
  pub run : is_run t ≡ true
  pub place : is_waiting v.change.mode ≡ true
  pub top : has_html_top v.change.stack ≡ true

pub record EndsText (v : Split) (t : Token) : Type 0 where
  pub other : is_characters t ≡ false
  pub place : is_waiting v.change.mode ≡ true
  pub top : has_html_top v.change.stack ≡ true

-- nothing waits yet, and the mode is kept
abbrev pub begun : Change → Change
begun c = record c { mode = mode.InTableText; original = Some c.mode; pending = [] }

abbrev pub continue_plan : Token → Split → Plan Split
continue_plan t = append_pending_plan (characters t)

abbrev pub begin_plan : Token → Split → Plan Split
begin_plan t v = continue_plan t (with_change (begun v.change) v)

abbrev pub end_plan : Split → Plan Split
end_plan v = followed_by (flush_plan v) original_plan

-- at most so many turns of a token
abbrev pub turns_from : ℕ → Token → Split → Plan Reached
turns_from n t v = turns_plan n t (record { split = v; handled = nothing_asked })
