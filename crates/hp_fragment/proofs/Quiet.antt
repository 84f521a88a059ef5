-- A text that is handled as one run calls for no switch of the lexer, whatever is answered.
use Rattle.std.proofs.Common.{◌≡◌, ℕ, List, true, refl, ap, ◌∙◌, sym, Option, None}
use Rattle.std.specs.Prelude.{Result, Ok, Err}
use Rattle.std.specs.List.{list_all}
use Rattle.hp_elements.specs.declared.kinds.Kinds.TheVariants as kinds
use Rattle.hp_elements.specs.declared.token.CharClass.{CharClass}
use Rattle.hp_elements.specs.declared.token.Rest.{Rest}
use Rattle.hp_control.specs.declared.change.Refusal.TheVariants as refusal
use Rattle.hp_control.specs.declared.question.Answer.{Answer}
use Rattle.hp_control.specs.declared.question.Crossing.{Crossing}
use Rattle.hp_control.specs.declared.question.Question.{Question}
use Rattle.hp_control.specs.Faithful.{Split}
use Rattle.hp_control.specs.Plan.{Heard, Plan, Runs, asked_by, end_by, noting}
use Rattle.hp_acts.proofs.PlainRuns.{text_put, text_put_below, text_refused, text_refused_below}
use Rattle.hp_acts.specs.declared.turns.Handled.{Handled as Told}
use Rattle.hp_acts.specs.HandlePlans.{handle_plan}
use Rattle.hp_acts.specs.Plain.{may_take_text, takes_text, text_plan}
use Rattle.hp_acts.specs.RowPlans.{Reached}
use Rattle.hp_model.specs.Texts.{as_run, is_white, white_or_other}
use Rattle.hp_views.specs.StackPlans.{current_is_plan}
use Rattle.hp_views.specs.View.{Finds, Sight}

abbrev switch_of : Result Reached Crossing → Option Rest
switch_of (Ok r) = r.handled.switch
switch_of (Err crossing) = None

-- the plan carried out
carried : {X : Type 0} (h : Heard) (plan : Plan X) (end : Result X Crossing) → end_by h.says plan ≡ end → Runs h (noting h (asked_by h.says plan)) plan end
carried h plan end ends = record { ends = ends; noted = refl }

module _ (says : Question → Answer) (text : List ℕ) (v w : Split) (handled : Told) (ends : end_by says (handle_plan (as_run text) v) ≡ Ok (record { split = w; handled = handled })) where
  abbrev class : CharClass
  class = white_or_other (list_all is_white text)

  abbrev plan : Plan Split
  plan = text_plan v.change.mode class text v

  abbrev start : Heard
  start = record { says = says; kept = None }

  abbrev seen : Heard → Split → Sight
  seen h x = record { heard = h; split = x }

  -- it goes into an own current node
  pub text-quiet : takes_text v ≡ true → handled.switch ≡ None
  text-quiet takes = by (end_by says plan) refl
    where
      end : Heard
      end = noting start (asked_by says plan)

      by : (e : Result Split Crossing) → end_by says plan ≡ e → handled.switch ≡ None
      by (Ok x) is = ap switch_of (sym ends ∙ (text_put class text (seen start v) (seen end x) takes refl (carried start plan (Ok x) is)).ends)
      by (Err crossing) is = ap switch_of (sym ends ∙ (text_refused (refusal.Crossed crossing) class text (seen start v) (seen end v) takes refl (carried start plan (Err crossing) is)).ends)

  -- or into an older one that is HTML
  pub below-quiet : may_take_text v ≡ true → end_by says (current_is_plan kinds.AnyHtml v) ≡ Ok true → handled.switch ≡ None
  below-quiet may found = by (end_by says plan) refl
    where
      mid : Heard
      mid = noting start (asked_by says (current_is_plan kinds.AnyHtml v))

      end : Heard
      end = noting mid (asked_by says plan)

      html : Finds (seen start v) (seen mid v) (current_is_plan kinds.AnyHtml) true
      html = record { runs = carried start (current_is_plan kinds.AnyHtml v) (Ok true) found; same = refl }

      by : (e : Result Split Crossing) → end_by says plan ≡ e → handled.switch ≡ None
      by (Ok x) is = ap switch_of (sym ends ∙ (text_put_below class text (seen start v) (seen mid v) (seen end x) may html refl (carried mid plan (Ok x) is)).ends)
      by (Err crossing) is = ap switch_of (sym ends ∙ (text_refused_below (refusal.Crossed crossing) class text (seen start v) (seen mid v) (seen end v) may html refl (carried mid plan (Err crossing) is)).ends)
