-- Right answers stay right along the run.
use Rattle.std.proofs.Common.{◌≡◌, ℕ, Bool, true, false, not, List, [], ◌∷◌, refl, ◌∙◌, sym, subst, inl}
use Rattle.std.specs.Prelude.{Ok}
use Rattle.hp_elements.specs.Tokens.{class_of}
use Rattle.hp_elements.specs.declared.kinds.Kinds.TheVariants as kinds
use Rattle.hp_tokens.specs.Rows.{character}
use Rattle.hp_control.specs.declared.element.OpenElement.{OpenElement}
use Rattle.hp_control.specs.declared.question.Answer.{Answer}
use Rattle.hp_control.specs.declared.question.FactKind.TheVariants.{LastTag}
use Rattle.hp_control.specs.declared.question.Question.{Question}
use Rattle.hp_control.specs.declared.question.Question.TheVariants as ask
use Rattle.hp_control.specs.Agree.{AllTrue, ends_alike}
use Rattle.hp_control.specs.Plan.{Plan, asked_by, end_by}
use Rattle.hp_control.specs.Running.{asked_then, on_asked}
use Rattle.hp_control.specs.States.{is_html}
use Rattle.hp_control.specs.Truth.{answer_of}
use Rattle.hp_views.specs.Asking.{is_foreign as is_foreign_in, is_yes}
use Rattle.hp_views.specs.BeginLaws.{IsResting}
use Rattle.hp_views.specs.SecondPlans.{foreign_by, foreign_now_plan, foreign_on}
use Rattle.hp_views.specs.StackPlans.{current_is_plan}
use Rattle.hp_acts.specs.HandlePlans.{handle_plan}
use Rattle.hp_acts.specs.RowPlans.{Reached}
use Rattle.hp_acts.proofs.PlainRuns.{AsksFirst, asks_first}
use Rattle.hp_asked.specs.Laws.{RightAtStart, RightBeforeText, RightByTruth, RightName, RightSection, RightTokens}
use Rattle.hp_asked.specs.Right.{entry, onward as begun_onward, seeker_at}
use Rattle.hp_asked.specs.Seeking.{Asks, Seeker, at, led_to, name, nothing, onward, section, seek, tokens}
use Rattle.hp_asked.proofs.Agreed.{own-true, said-true, true-back, true-front}

pub right-by_truth : RightByTruth
right-by_truth names s text = λ qs over. own-true s qs

pub right-at_start : RightAtStart
right-at_start says names s text right = (first, λ rests qs asks. subst (λ (a : Answer). IsResting a → Asks names s (seeker_at a text) qs → AllTrue s says qs) first (λ there more. (right (ask.Entry ∷ qs) (begun_onward there more)).1) rests asks)
  where
    first : answer_of s ask.Entry ≡ says ask.Entry
    first = (right (ask.Entry ∷ []) entry).0

pub right-tokens : RightTokens
right-tokens names says s k l es ts leads spells right = (said-true s says p asked, λ m ends qs more. true-back s says (asked_by (answer_of s) p) qs (right _ (onward {ts = ts} leads spells (sym (ends_alike s says p asked) ∙ ends) more)))
  where
    p : Plan Seeker
    p = seek ts (at l k)

    asked : AllTrue s says (asked_by (answer_of s) p)
    asked = right (asked_by (answer_of s) p) (tokens {ts = ts} leads spells)

-- whether the current node is foreign is told whatever is answered
foreign-by : (says : Question → Answer) (popped : ℕ) (html : Bool) → (b : Bool) × (end_by says (foreign_by popped html) ≡ Ok b)
foreign-by says popped true = (false, refl)
foreign-by says popped false = (is_foreign_in (says (ask.Elem popped)), refl)

foreign-told : (says : Question → Answer) (popped : ℕ) (stack : List OpenElement) → (b : Bool) × (end_by says (foreign_on popped stack) ≡ Ok b)
foreign-told says popped [] = foreign-by says popped (is_yes (says (ask.Seen popped kinds.AnyHtml kinds.All)))
foreign-told says popped (e ∷ es) = (not (is_html e), refl)

pub right-section : RightSection
right-section names says s k l foreign html is_foreign leads asks ends right = (said-true s says p asked, λ qs more. true-back s says (asked_by (answer_of s) p) qs (right _ (section {is_foreign = is_foreign} leads asks (sym (ends_alike s says p asked) ∙ ends) more)))
  where
    p : Plan Bool
    p = foreign_now_plan k.split

    told : (b : Bool) × (end_by (answer_of s) p ≡ Ok b)
    told = foreign-told (answer_of s) k.split.change.popped k.split.change.stack

    asked : AllTrue s says (asked_by (answer_of s) p)
    asked = true-front s says (asked_by (answer_of s) p) [] (right _ (section {is_foreign = told.0} leads asks told.1 nothing))

pub right-name : RightName
right-name names says s k l leads asks right = (right (ask.Fact LastTag ∷ []) (name leads asks nothing), λ qs more. (right (ask.Fact LastTag ∷ qs) (name leads asks more)).1)

pub right-before_text : RightBeforeText
right-before_text names says s k l es c may leads emits right =
    true-front s says (asked_by says (current_is_plan kinds.AnyHtml k.split)) first.more
    (subst (AllTrue s says) first.first
    (true-front s says (asked_by says p) (on_asked (end_by says p) (λ r. asked_by says (seek [] (led_to r (at l k)))))
    (subst (AllTrue s says) (asked_then says p (λ r. seek [] (led_to r (at l k)))) said)))
  where
    p : Plan Reached
    p = handle_plan (character c) k.split

    said : AllTrue s says (asked_by says (seek (character c ∷ []) (at l k)))
    said = said-true s says (seek (character c ∷ []) (at l k)) (right _ (tokens {ts = character c ∷ []} leads (inl (tt, sym emits))))

    first : AsksFirst says k.split p
    first = asks_first says (class_of c) (c ∷ []) k.split may
