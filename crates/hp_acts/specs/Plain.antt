-- Runs of text where the rules do nothing but put them into the current node, an own HTML element (13.2.6.4.7, 13.2.6.4.8).
use Rattle.std.specs.Prelude.{◌≡◌, ℕ, ◌&&◌, not, Bool, true, false, if◌then◌else◌, List, [], ◌∷◌}
use Rattle.hp_elements.specs.declared.token.CharClass.{CharClass}
use Rattle.hp_elements.specs.declared.token.CharClass.TheVariants.{White, Other}
use Rattle.hp_elements.specs.declared.token.Mode.{Mode}
use Rattle.hp_elements.specs.declared.token.Mode.TheVariants as mode
use Rattle.hp_elements.specs.declared.token.Token.{Token}
use Rattle.hp_elements.specs.declared.token.Token.TheVariants.{Characters}
use Rattle.hp_control.specs.declared.edit.Child.TheVariants as child
use Rattle.hp_control.specs.declared.element.OpenElement.{OpenElement}
use Rattle.hp_control.specs.Faithful.{Split}
use Rattle.hp_control.specs.Plan.{Plan, gives, followed_by}
use Rattle.hp_adoption.specs.ReconPlans.{reconstruct_plan}
use Rattle.hp_views.specs.FieldPlans.{frameset_plan}
use Rattle.hp_views.specs.PlacePlans.{put_plan}
use Rattle.hp_model.specs.Texts.{has_html_top, is_text_mode}

-- white space and other characters, but not U+0000
abbrev pub is_run : Token → Bool
is_run (Characters White text) = true
is_run (Characters Other text) = true
is_run _ = false

pub record IsPlain (v : Split) (t : Token) : Type 0 where
  pub run : is_run t ≡ true
  pub place : is_text_mode v.change.mode ≡ true
  pub top : has_html_top v.change.stack ≡ true

-- a text without U+0000 goes into the current node as it comes
abbrev pub takes_text : Split → Bool
takes_text v = not v.change.skip_lf && is_text_mode v.change.mode && has_html_top v.change.stack

-- nothing own is open
abbrev pub is_nothing_open : List OpenElement → Bool
is_nothing_open [] = true
is_nothing_open (e ∷ es) = false

-- it goes into the older current node as it comes, if that is HTML
abbrev pub may_take_text : Split → Bool
may_take_text v = not v.change.skip_lf && is_text_mode v.change.mode && is_nothing_open v.change.stack

-- the text into the current node, and what the rules of the body do then
abbrev pub put_text_plan : CharClass → List ℕ → Split → Plan Split
put_text_plan Other text v = followed_by (put_plan false (child.Text text) v) frameset_plan
put_text_plan class text v = put_plan false (child.Text text) v

-- what the rules of the body do with such a run
abbrev pub body_text_plan : CharClass → List ℕ → Split → Plan Split
body_text_plan class text v = followed_by (reconstruct_plan false v) (put_text_plan class text)

abbrev pub is_raw : Mode → Bool
is_raw mode.Text = true
is_raw _ = false

abbrev pub text_plan : Mode → CharClass → List ℕ → Split → Plan Split
text_plan m class text v = if is_raw m then put_plan false (child.Text text) v else body_text_plan class text v

abbrev pub run_plan : Token → Split → Plan Split
run_plan (Characters class text) v = text_plan v.change.mode class text v
run_plan _ v = gives v
