-- What the lexer is told over any older state.
use Rattle.std.proofs.Common.{◌≡◌, List, [], false, refl, sym, ap, ◌∙◌, subst}
use Rattle.std.specs.Prelude.{Ok}
use Rattle.std.specs.Option.{unwrap_or}
use Rattle.hp_control.specs.declared.change.Change.{Change}
use Rattle.hp_control.specs.declared.element.OpenElement.{OpenElement}
use Rattle.hp_control.specs.Composed.{first_is_foreign, is_foreign_now}
use Rattle.hp_control.specs.Faithful.{Split, state_over}
use Rattle.hp_control.specs.Plan.{end_by}
use Rattle.hp_control.specs.States.{ControlState}
use Rattle.hp_control.specs.Truth.{answer_of}
use Rattle.hp_views.specs.Asking.{ask_last_tag}
use Rattle.hp_views.specs.SecondLaws.{foreign_now_faithful, last_tag_told}
use Rattle.hp_views.specs.SecondPlans.{foreign_now_plan, foreign_on}
use Rattle.hp_older.specs.Laws.{ForeignTold, LastTagTold}
use Rattle.hp_older.specs.Over.{IsBefore, IsOver, before_html, of_chunk, of_known}
use Rattle.hp_older.proofs.Before.{nothing_open}
use Rattle.hp_older.proofs.Truly.{ends_so}

-- where nothing is open no element is foreign
none_foreign : (s : ControlState) → s.stack ≡ [] → end_by (answer_of s) (foreign_on 0 []) ≡ Ok false
none_foreign s e = subst (λ (es : List OpenElement). end_by (answer_of (record s { stack = es })) (foreign_on 0 []) ≡ Ok false) (sym e) refl

before_foreign : (s : ControlState) (v : Split) → IsBefore s v → end_by (answer_of s) (foreign_now_plan v) ≡ Ok (is_foreign_now (state_over v s))
before_foreign s v k =
    let none = nothing_open s v k in
    ap (λ (c : Change). end_by (answer_of s) (foreign_on c.popped c.stack)) k.unchanged
    ∙ (none_foreign s none ∙ ap (λ es. Ok (first_is_foreign es)) (sym (ap (λ (c : ControlState). c.stack) k.same ∙ none)))

foreign_over : (s : ControlState) (v : Split) → IsOver s v → end_by (answer_of s) (foreign_now_plan v) ≡ Ok (is_foreign_now (state_over v s))
foreign_over s v (of_chunk k) = foreign_now_faithful s v k.stands
foreign_over s v (before_html k) = before_foreign s v k
foreign_over s v (of_known k) = foreign_now_faithful s v k.stands

pub foreign-told : ForeignTold
foreign-told s v old new foreign r true_all over =
    let e : Ok foreign ≡ Ok (is_foreign_now (state_over v s)) = sym (ends_so s old new (foreign_now_plan v) (Ok foreign) r true_all) ∙ foreign_over s v over in
    cc

pub last_tag-told : LastTagTold
last_tag-told s old new name r true_all =
    let e : Ok name ≡ Ok (unwrap_or s.lex.machine.last_tag []) = sym (ends_so s old new ask_last_tag (Ok name) r true_all) ∙ last_tag_told s in
    cc
