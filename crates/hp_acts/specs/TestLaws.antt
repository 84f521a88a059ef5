-- What each test of a row tells of a view is what holds of the whole state.
use Rattle.std.specs.Prelude.{◌≡◌, Bool, true, Ok, refl}
use Rattle.std.proofs.Common.{sym, ap, ◌∙◌}
use Rattle.hp_elements.specs.Names.{text_of}
use Rattle.hp_elements.specs.declared.act.Test.{Test}
use Rattle.hp_elements.specs.declared.act.Test.TheVariants as test
use Rattle.hp_elements.specs.declared.kinds.Kinds.TheVariants as kinds
use Rattle.hp_elements.specs.declared.token.Mode.{Mode}
use Rattle.hp_elements.specs.declared.token.Mode.TheVariants as mode
use Rattle.hp_elements.specs.declared.token.Token.{Token}
use Rattle.hp_control.specs.Apply.{applied}
use Rattle.hp_control.specs.Faithful.{Split, StandsOn, state_over}
use Rattle.hp_control.specs.Plan.{end_by}
use Rattle.hp_control.specs.States.{ControlState}
use Rattle.hp_control.specs.Truth.{answer_of}
use Rattle.hp_views.specs.ListLaws.{listed_faithful}
use Rattle.hp_views.specs.Quiet.{paged_part}
use Rattle.hp_views.specs.SecondLaws.{second_faithful, sees_modes, modes_told}
use Rattle.hp_views.specs.StackLaws.{in_scope_faithful, current_faithful, below_faithful, template_faithful, frameset_ok_faithful, is_quirks_faithful, form_faithful}
use Rattle.hp_views.specs.StackPlans.{is_table_mode as is_view_table_mode}
use Rattle.hp_foreign.specs.Laws.{names_faithful}
use Rattle.hp_model.specs.Steps.{holds, is_table_mode}
use Rattle.hp_model.specs.Tokens.{name_for, name_of}
use Rattle.hp_acts.specs.Plans.{test_plan}

-- the views that have what the test reads
abbrev pub sees : Test → Split → Bool
sees test.HasTemplateModes v = sees_modes v
sees _ v = true

abbrev pub TestTells : Token → Test → Type 0
TestTells t x = (s : ControlState) (v : Split) → StandsOn s v → sees x v ≡ true → end_by (answer_of s) (test_plan t x v) ≡ Ok (holds t x (state_over v s))

-- the modes in a table, by both descriptions
table_alike : (m : Mode) → is_view_table_mode m ≡ is_table_mode m
table_alike mode.InTable = refl
table_alike mode.InCaption = refl
table_alike mode.InTableBody = refl
table_alike mode.InRow = refl
table_alike mode.InCell = refl
table_alike _ = refl

pub test_faithful : (t : Token) (x : Test) → TestTells t x
test_faithful t (test.InScope scope which) = λ s v st h. in_scope_faithful scope (kinds.Html (name_for t which)) s v st
test_faithful t (test.OneInScope scope names) = λ s v st h. in_scope_faithful scope (kinds.Set names) s v st
test_faithful t test.TemplateInStack = λ s v st h. template_faithful s v st
test_faithful t test.HasTemplateModes = λ s v st h. ap Ok (modes_told s v st h)
test_faithful t test.SecondIsBody = λ s v st h. second_faithful s v st
test_faithful t test.FramesetOk = λ s v st h. frameset_ok_faithful s v st
test_faithful t test.IsQuirks = λ s v st h. is_quirks_faithful s v st
test_faithful t test.HasForm = λ s v st h. form_faithful s v st
test_faithful t (test.CurrentIs name) = λ s v st h. current_faithful (kinds.Html (text_of name)) s v st
test_faithful t (test.CurrentIsIn names) = λ s v st h. current_faithful (kinds.Set names) s v st
test_faithful t (test.BelowIs name) = λ s v st h. below_faithful (kinds.Html (text_of name)) s v st
test_faithful t (test.Listed name) = λ s v st h. listed_faithful (text_of name) s v st
test_faithful t test.TypeIsHidden = λ s v st h. refl
test_faithful t test.InTableModes = λ s v st h. ap Ok (table_alike v.change.mode ∙ sym (paged_part v.page (λ c. is_table_mode c.mode) (applied v.change s) (λ p c. refl)))
test_faithful t test.HasFontAttribute = λ s v st h. refl
test_faithful t test.NamesForeign = λ s v st h. names_faithful (name_of t) s v st
