-- That each plan means its act.
use Rattle.std.specs.Prelude.{◌≡◌, true, [], Result, Ok}
use Rattle.std.specs.Option.{unwrap_or}
use Rattle.hp_control.specs.Acts.{push_head, take_head_off, take_off, remove_entry}
use Rattle.hp_control.specs.Apply.{IsOlder}
use Rattle.hp_control.specs.Composed.{end_form, is_second_body, is_foreign_now, has_modes}
use Rattle.hp_control.specs.Nothing.{nothing}
use Rattle.hp_control.specs.Plan.{end_by, Heard, Runs}
use Rattle.hp_control.specs.Steps.{Step}
use Rattle.hp_control.specs.declared.question.Crossing.{Crossing}
use Rattle.hp_views.specs.WholeLaws.{IsWhole, IsDoneWhole}
use Rattle.hp_control.specs.States.{IsValid, is_rooted}
use Rattle.hp_control.specs.Truth.{answer_of}
use Rattle.hp_control.specs.declared.question.Question.TheVariants as ask
use Rattle.hp_views.specs.Asking.{ask_last_tag}
use Rattle.hp_views.specs.Begins.{begins}
use Rattle.hp_views.specs.BeginLaws.{IsResting, StartsOver}
use Rattle.hp_views.specs.FormLaws.{end_form_outside}
use Rattle.hp_views.specs.FormPlans.{outside_plan, end_form_plan}
use Rattle.hp_views.specs.HeadPlans.{push_head_plan, take_head_plan}
use Rattle.hp_views.specs.RemoveLaws.{FaithfulToOwn}
use Rattle.hp_views.specs.RemovePlans.{take_off_plan, remove_entry_plan}
use Rattle.hp_views.specs.SecondLaws.{sees_modes}
use Rattle.hp_views.specs.SecondPlans.{second_plan, own_modes, foreign_now_plan}
use Rattle.hp_elements.specs.declared.known.Known.{Known}
use Rattle.hp_views.specs.ClosingPlans.{implied_plan, implied_except_plan, implied_thoroughly_plan, through_named_plan, walk_plan, close_plan, close_paragraph_plan, close_item_plan, close_description_plan, end_form_in_template_plan}
use Rattle.hp_control.specs.Composed.{implied, implied_except, implied_thoroughly, close, close_paragraph, close_item, close_description, end_form_in_template}
use Rattle.hp_control.specs.Acts.{through_named, walk}
use Rattle.hp_views.specs.ResetLaws.{keeps_modes}
use Rattle.hp_views.specs.ResetPlans.{reset_plan}
use Rattle.hp_control.specs.Acts.{reset}
use Rattle.hp_control.specs.States.{ControlState}
use Rattle.hp_views.specs.PlaceLaws.{IsPlaced}
use Rattle.hp_control.specs.Acts.{place, insert, insert_into_document, put_at, put_here, put_into_first, add_missing_to_first, add_missing_to_body, detach_body}
use Rattle.hp_control.specs.Edits.{IsFixedChild}
use Rattle.hp_control.specs.declared.edit.Child.{Child}
use Rattle.hp_control.specs.declared.edit.Place.TheVariants.{Into}
use Rattle.hp_control.specs.declared.edit.Ref.TheVariants.{Fixed}
use Rattle.hp_elements.specs.declared.tag.Attribute.{Attribute}
use Rattle.hp_views.specs.PlacePlans.{place_plan, put_plan, put_document_plan, put_first_plan, insert_plan, insert_document_plan, add_first_plan, add_body_plan, detach_plan}
use Rattle.std.specs.Prelude.{ℕ, List, Bool}
use Rattle.hp_elements.specs.declared.token.Mode.{Mode}
use Rattle.hp_control.specs.Acts.{frameset_not_ok, skip_line_feed, switch_to, keep_original, to_original, push_template_mode, pop_template_mode, replace_template_mode, empty_form, point_form, set_quirks, point_head, empty_pending, append_pending, add_marker, append_entry, clear, pop, pop_run, pop_to, pop_to_first, through}
use Rattle.hp_elements.specs.declared.tag.Tag.{Tag}
use Rattle.hp_control.specs.Composed.{is_listed, in_scope, current_is, below_is, template_in_stack, is_frameset_ok, is_quirks, has_form}
use Rattle.hp_elements.specs.declared.act.Scope.{Scope}
use Rattle.hp_elements.specs.declared.kinds.Kinds.{Kinds}
use Rattle.hp_views.specs.StackPlans.{seen_plan, in_scope_plan, current_is_plan, below_is_plan, template_plan, frameset_ok_plan, is_quirks_plan, has_form_plan, pop_plan, pop_run_plan, pop_to_plan, through_plan, pop_to_first_plan}
use Rattle.hp_views.specs.StackLaws.{seen_in}
use Rattle.hp_views.specs.ListPlans.{marker_plan, append_plan, clear_plan, listed_plan}
use Rattle.hp_control.specs.Faithful.{Split, state_over, StandsOn, Faithful, FaithfulWhere, FaithfulTest}
use Rattle.hp_views.specs.FieldPlans.{frameset_plan, skip_plan, switch_plan, keep_plan, original_plan, push_mode_plan, pop_mode_plan, replace_mode_plan, empty_form_plan, point_form_plan, quirks_plan, point_head_plan, empty_pending_plan, append_pending_plan}
use Rattle.hp_views.specs.FieldLaws.{has_own}

pub record FieldsMean : Type 0 where
  pub frameset : Faithful frameset_plan frameset_not_ok
  pub skip : Faithful skip_plan skip_line_feed
  pub switch : (m : Mode) → Faithful (switch_plan m) (switch_to m)
  pub keep : Faithful keep_plan keep_original
  pub original : Faithful original_plan to_original
  pub push_mode : (m : Mode) → Faithful (push_mode_plan m) (push_template_mode m)
  pub pop_mode : Faithful pop_mode_plan pop_template_mode
  pub replace_mode : (m : Mode) → Faithful (replace_mode_plan m) (replace_template_mode m)
  pub empty_form : Faithful empty_form_plan empty_form
  pub point_form : FaithfulWhere has_own point_form_plan point_form
  pub quirks : Faithful quirks_plan set_quirks
  pub head : Faithful point_head_plan point_head
  pub empty_pending : Faithful empty_pending_plan empty_pending
  pub append_pending : (text : List ℕ) → Faithful (append_pending_plan text) (append_pending text)

pub record ListMeans : Type 0 where
  pub marker : Faithful marker_plan add_marker
  pub append : (tag : Tag) → FaithfulWhere has_own (append_plan tag) (append_entry tag)
  pub clear : Faithful clear_plan clear
  pub listed : (name : List ℕ) → FaithfulTest (listed_plan name) (is_listed name)

pub record TestsTell : Type 0 where
  pub seen : (goals stops : Kinds) → FaithfulTest (seen_plan goals stops) (seen_in goals stops)
  pub in_scope : (where_ : Scope) (goals : Kinds) → FaithfulTest (in_scope_plan where_ goals) (in_scope where_ goals)
  pub current : (goals : Kinds) → FaithfulTest (current_is_plan goals) (current_is goals)
  pub below : (goals : Kinds) → FaithfulTest (below_is_plan goals) (below_is goals)
  pub template : FaithfulTest template_plan template_in_stack
  pub frameset_ok : FaithfulTest frameset_ok_plan is_frameset_ok
  pub quirks : FaithfulTest is_quirks_plan is_quirks
  pub form : FaithfulTest has_form_plan has_form
  pub second : FaithfulTest second_plan is_second_body
  pub foreign : FaithfulTest foreign_now_plan is_foreign_now
  pub last_tag : (s : ControlState) → end_by (answer_of s) ask_last_tag ≡ Ok (unwrap_or s.lex.machine.last_tag [])
  pub modes : (s : ControlState) (v : Split) → StandsOn s v → sees_modes v ≡ true → own_modes v.change.templates ≡ has_modes (state_over v s)

pub record PopsMean : Type 0 where
  pub pop : Faithful pop_plan pop
  pub pop_run : (names : Kinds) → Faithful (pop_run_plan names) (pop_run names)
  pub pop_to : (goals : Kinds) → Faithful (pop_to_plan goals) (pop_to goals)
  pub through : (goals stops : Kinds) → Faithful (through_plan goals stops) (through goals stops)
  pub pop_to_first : Faithful pop_to_first_plan pop_to_first

-- the place that is found names the one of the whole state
abbrev pub PlacesMean : Type 0
PlacesMean = (s : ControlState) (v : Split) (fostering : Bool) → StandsOn s v → IsPlaced s (place_plan fostering v) (place fostering (state_over v s).stack)

pub record InsertsMean : Type 0 where
  pub put : (fostering : Bool) (what : Child) → IsFixedChild what → Faithful (put_plan fostering what) (put_here fostering what)
  pub put_document : (what : Child) → IsFixedChild what → Faithful (put_document_plan what) (put_at what (Into (Fixed 0)))
  pub put_first : (what : Child) → IsFixedChild what → Faithful (put_first_plan what) (put_into_first what)
  pub insert : (fostering : Bool) (tag : Tag) → Faithful (insert_plan fostering tag) (insert fostering tag)
  pub insert_document : (tag : Tag) → Faithful (insert_document_plan tag) (insert_into_document tag)
  pub add_first : (attributes : List Attribute) → Faithful (add_first_plan attributes) (add_missing_to_first attributes)
  pub add_body : (attributes : List Attribute) → Faithful (add_body_plan attributes) (add_missing_to_body attributes)
  pub detach : Faithful detach_plan detach_body

abbrev pub ResetMeans : Type 0
ResetMeans = FaithfulWhere keeps_modes reset_plan reset

pub record ClosingMeans : Type 0 where
  pub implied : Faithful implied_plan implied
  pub implied_except : (name : Known) → Faithful (implied_except_plan name) (implied_except name)
  pub implied_thoroughly : Faithful implied_thoroughly_plan implied_thoroughly
  pub through_named : (name : List ℕ) → Faithful (through_named_plan name) (through_named name)
  pub walk : (name : List ℕ) → Faithful (walk_plan name) (walk name)
  pub close : (name : Known) → Faithful (close_plan name) (close name)
  pub paragraph : Faithful close_paragraph_plan close_paragraph
  pub item : Faithful close_item_plan close_item
  pub description : Faithful close_description_plan close_description
  pub end_form : Faithful end_form_in_template_plan end_form_in_template

-- the head element, the end of a form, and own elements and entries out of mid-list
pub record RemovesMean : Type 0 where
  pub push_head : Faithful push_head_plan push_head
  pub take_head_off : Faithful take_head_plan take_head_off
  pub forms_outside : Faithful outside_plan end_form_outside
  pub forms : Faithful end_form_plan end_form
  pub take_off : (number : ℕ) → FaithfulToOwn (take_off_plan number) take_off number
  pub remove_entry : (number : ℕ) → FaithfulToOwn (remove_entry_plan number) remove_entry number

-- a view begins where its state is, and stands on it where html is open
pub record BeginsMean : Type 0 where
  pub same : (s : ControlState) → IsValid s → IsResting (answer_of s ask.Entry) → state_over (begins (answer_of s ask.Entry)) s ≡ s
  pub over : (s : ControlState) → IsValid s → IsOlder s → is_rooted s.stack ≡ true → IsResting (answer_of s ask.Entry) → StartsOver s (begins (answer_of s ask.Entry))

-- over a known state each act is done as it is in that state, and none crosses
abbrev pub WholeMeans : Type 0
WholeMeans = (step : Step) (old new : Heard) (v : Split) (end : Result Split Crossing) → old.says ≡ answer_of nothing → Runs old new (step.plan v) end → StandsOn nothing v → IsWhole v.page → step.fits v ≡ true → IsDoneWhole v end (step.act (state_over v nothing))
