-- The act of each call on a view: what it asks and changes, what it means in a full state, and the law that ties the two.
use Rattle.std.specs.Prelude.{◌≡◌, ℕ, Bool, true, false, List, refl}
use Rattle.hp_elements.specs.declared.kinds.Kinds.{Kinds}
use Rattle.hp_elements.specs.declared.tag.Attribute.{Attribute}
use Rattle.hp_elements.specs.declared.tag.Tag.{Tag}
use Rattle.hp_elements.specs.declared.token.Mode.{Mode}
use Rattle.hp_control.specs.declared.edit.Child.{Child}
use Rattle.hp_control.specs.declared.edit.Child.TheVariants as child
use Rattle.hp_control.specs.declared.edit.Place.TheVariants.{Into}
use Rattle.hp_control.specs.declared.edit.Ref.{Ref}
use Rattle.hp_control.specs.declared.edit.Ref.TheVariants.{Fixed, Older, Own}
use Rattle.hp_control.specs.Edits.{IsFixed, IsFixedChild}
use Rattle.hp_control.specs.Acts.{frameset_not_ok, skip_line_feed, switch_to, keep_original, to_original, push_template_mode, pop_template_mode, replace_template_mode, empty_form, point_form, set_quirks, point_head, empty_pending, append_pending, add_marker, append_entry, clear, pop, pop_run, pop_to, through, pop_to_first, put_here, put_at, put_into_first, insert, insert_into_document, add_missing_to_first, add_missing_to_body, detach_body, reset, through_named, walk, push_head, take_head_off}
use Rattle.hp_control.specs.Composed.{implied, implied_except, implied_thoroughly, close, close_paragraph, close_item, close_description, end_form_in_template, end_form}
use Rattle.hp_views.specs.FormPlans.{end_form_plan}
use Rattle.hp_views.specs.FormLaws.{end_form_faithful}
use Rattle.hp_views.specs.HeadPlans.{push_head_plan, take_head_plan}
use Rattle.hp_views.specs.HeadLaws.{push_head_faithful, take_head_off_faithful}
use Rattle.hp_elements.specs.declared.known.Known.{Known}
use Rattle.hp_views.specs.ClosingPlans.{implied_plan, implied_except_plan, implied_thoroughly_plan, through_named_plan, walk_plan, close_plan, close_paragraph_plan, close_item_plan, close_description_plan, end_form_in_template_plan}
use Rattle.hp_views.specs.ClosingLaws.{implied_faithful, implied_except_faithful, implied_thoroughly_faithful, through_named_faithful, walk_faithful, close_faithful, close_paragraph_faithful, close_item_faithful, close_description_faithful, end_form_in_template_faithful}
use Rattle.hp_control.specs.Faithful.{Split, FaithfulWhere, any_view}
use Rattle.hp_control.specs.Outcome.{Act}
use Rattle.hp_control.specs.Plan.{Plan}
use Rattle.hp_control.specs.Steps.{Step}
use Rattle.hp_views.specs.FieldPlans.{frameset_plan, skip_plan, switch_plan, keep_plan, original_plan, push_mode_plan, pop_mode_plan, replace_mode_plan, empty_form_plan, point_form_plan, quirks_plan, point_head_plan, empty_pending_plan, append_pending_plan}
use Rattle.hp_views.specs.FieldLaws.{has_own, frameset_faithful, skip_faithful, switch_faithful, keep_faithful, original_faithful, push_mode_faithful, pop_mode_faithful, replace_mode_faithful, empty_form_faithful, point_form_faithful, quirks_faithful, head_faithful, empty_pending_faithful, append_pending_faithful}
use Rattle.hp_views.specs.ListPlans.{marker_plan, append_plan, clear_plan}
use Rattle.hp_views.specs.ListLaws.{marker_faithful, append_faithful, clear_faithful}
use Rattle.hp_views.specs.StackPlans.{pop_plan, pop_run_plan, pop_to_plan, through_plan, pop_to_first_plan}
use Rattle.hp_views.specs.PopLaws.{pop_faithful, pop_run_faithful, pop_to_faithful, through_faithful, pop_to_first_faithful}
use Rattle.hp_views.specs.PlacePlans.{put_plan, put_document_plan, put_first_plan, insert_plan, insert_document_plan, add_first_plan, add_body_plan, detach_plan}
use Rattle.hp_views.specs.ResetPlans.{reset_plan}
use Rattle.hp_views.specs.ResetLaws.{keeps_modes, reset_faithful}
use Rattle.hp_views.specs.InsertLaws.{put_faithful, put_document_faithful, put_first_faithful, insert_faithful, insert_document_faithful, add_first_faithful, add_body_faithful, detach_faithful}

-- the child is no element, or one that is told by its id in the page
abbrev pub is_told_by : Ref → Bool
is_told_by (Fixed id) = true
is_told_by (Older depth) = false
is_told_by (Own number) = false

abbrev pub is_told : Child → Bool
is_told (child.Element node) = is_told_by node
is_told (child.Text text) = true
is_told (child.Comment text) = true
is_told (child.Doctype parts) = true

told_ref : (r : Ref) → is_told_by r ≡ true → IsFixed r
told_ref (Fixed id) h = tt
told_ref (Older depth) h = absurd (cc)
told_ref (Own number) h = absurd (cc)

told_child : (what : Child) → is_told what ≡ true → IsFixedChild what
told_child (child.Element node) h = told_ref node h
told_child (child.Text text) h = tt
told_child (child.Comment text) h = tt
told_child (child.Doctype parts) h = tt

pub told_put : (fostering : Bool) (what : Child) → FaithfulWhere (λ v. is_told what) (put_plan fostering what) (put_here fostering what)
told_put fostering what = λ s v st fit u. put_faithful fostering what (told_child what fit) s v st refl u

pub told_put_document : (what : Child) → FaithfulWhere (λ v. is_told what) (put_document_plan what) (put_at what (Into (Fixed 0)))
told_put_document what = λ s v st fit u. put_document_faithful what (told_child what fit) s v st refl u

pub told_put_first : (what : Child) → FaithfulWhere (λ v. is_told what) (put_first_plan what) (put_into_first what)
told_put_first what = λ s v st fit u. put_first_faithful what (told_child what fit) s v st refl u

abbrev pub frameset_step : Step
frameset_step = record { plan = frameset_plan; act = frameset_not_ok; fits = any_view; law = frameset_faithful }

abbrev pub skip_step : Step
skip_step = record { plan = skip_plan; act = skip_line_feed; fits = any_view; law = skip_faithful }

abbrev pub switch_step : Mode → Step
switch_step m = record { plan = switch_plan m; act = switch_to m; fits = any_view; law = switch_faithful m }

abbrev pub keep_step : Step
keep_step = record { plan = keep_plan; act = keep_original; fits = any_view; law = keep_faithful }

abbrev pub original_step : Step
original_step = record { plan = original_plan; act = to_original; fits = any_view; law = original_faithful }

abbrev pub push_mode_step : Mode → Step
push_mode_step m = record { plan = push_mode_plan m; act = push_template_mode m; fits = any_view; law = push_mode_faithful m }

abbrev pub pop_mode_step : Step
pop_mode_step = record { plan = pop_mode_plan; act = pop_template_mode; fits = any_view; law = pop_mode_faithful }

abbrev pub replace_mode_step : Mode → Step
replace_mode_step m = record { plan = replace_mode_plan m; act = replace_template_mode m; fits = any_view; law = replace_mode_faithful m }

abbrev pub empty_form_step : Step
empty_form_step = record { plan = empty_form_plan; act = empty_form; fits = any_view; law = empty_form_faithful }

abbrev pub point_form_step : Step
point_form_step = record { plan = point_form_plan; act = point_form; fits = has_own; law = point_form_faithful }

abbrev pub quirks_step : Step
quirks_step = record { plan = quirks_plan; act = set_quirks; fits = any_view; law = quirks_faithful }

abbrev pub point_head_step : Step
point_head_step = record { plan = point_head_plan; act = point_head; fits = any_view; law = head_faithful }

abbrev pub empty_pending_step : Step
empty_pending_step = record { plan = empty_pending_plan; act = empty_pending; fits = any_view; law = empty_pending_faithful }

abbrev pub append_pending_step : List ℕ → Step
append_pending_step text = record { plan = append_pending_plan text; act = append_pending text; fits = any_view; law = append_pending_faithful text }

abbrev pub marker_step : Step
marker_step = record { plan = marker_plan; act = add_marker; fits = any_view; law = marker_faithful }

abbrev pub append_step : Tag → Step
append_step tag = record { plan = append_plan tag; act = append_entry tag; fits = has_own; law = append_faithful tag }

abbrev pub clear_step : Step
clear_step = record { plan = clear_plan; act = clear; fits = any_view; law = clear_faithful }

abbrev pub pop_step : Step
pop_step = record { plan = pop_plan; act = pop; fits = any_view; law = pop_faithful }

abbrev pub pop_run_step : Kinds → Step
pop_run_step names = record { plan = pop_run_plan names; act = pop_run names; fits = any_view; law = pop_run_faithful names }

abbrev pub pop_to_step : Kinds → Step
pop_to_step goals = record { plan = pop_to_plan goals; act = pop_to goals; fits = any_view; law = pop_to_faithful goals }

abbrev pub through_step : Kinds → Kinds → Step
through_step goals stops = record { plan = through_plan goals stops; act = through goals stops; fits = any_view; law = through_faithful goals stops }

abbrev pub pop_to_first_step : Step
pop_to_first_step = record { plan = pop_to_first_plan; act = pop_to_first; fits = any_view; law = pop_to_first_faithful }

abbrev pub put_step : Bool → Child → Step
put_step fostering what = record { plan = put_plan fostering what; act = put_here fostering what; fits = λ v. is_told what; law = told_put fostering what }

abbrev pub put_document_step : Child → Step
put_document_step what = record { plan = put_document_plan what; act = put_at what (Into (Fixed 0)); fits = λ v. is_told what; law = told_put_document what }

abbrev pub put_first_step : Child → Step
put_first_step what = record { plan = put_first_plan what; act = put_into_first what; fits = λ v. is_told what; law = told_put_first what }

abbrev pub insert_step : Bool → Tag → Step
insert_step fostering tag = record { plan = insert_plan fostering tag; act = insert fostering tag; fits = any_view; law = insert_faithful fostering tag }

abbrev pub insert_document_step : Tag → Step
insert_document_step tag = record { plan = insert_document_plan tag; act = insert_into_document tag; fits = any_view; law = insert_document_faithful tag }

abbrev pub add_first_step : List Attribute → Step
add_first_step attributes = record { plan = add_first_plan attributes; act = add_missing_to_first attributes; fits = any_view; law = add_first_faithful attributes }

abbrev pub add_body_step : List Attribute → Step
add_body_step attributes = record { plan = add_body_plan attributes; act = add_missing_to_body attributes; fits = any_view; law = add_body_faithful attributes }

abbrev pub detach_step : Step
detach_step = record { plan = detach_plan; act = detach_body; fits = any_view; law = detach_faithful }

abbrev pub reset_step : Step
reset_step = record { plan = reset_plan; act = reset; fits = keeps_modes; law = reset_faithful }

abbrev pub implied_step : Step
implied_step = record { plan = implied_plan; act = implied; fits = any_view; law = implied_faithful }

abbrev pub implied_except_step : Known → Step
implied_except_step name = record { plan = implied_except_plan name; act = implied_except name; fits = any_view; law = implied_except_faithful name }

abbrev pub implied_thoroughly_step : Step
implied_thoroughly_step = record { plan = implied_thoroughly_plan; act = implied_thoroughly; fits = any_view; law = implied_thoroughly_faithful }

abbrev pub through_named_step : List ℕ → Step
through_named_step name = record { plan = through_named_plan name; act = through_named name; fits = any_view; law = through_named_faithful name }

abbrev pub walk_step : List ℕ → Step
walk_step name = record { plan = walk_plan name; act = walk name; fits = any_view; law = walk_faithful name }

abbrev pub close_step : Known → Step
close_step name = record { plan = close_plan name; act = close name; fits = any_view; law = close_faithful name }

abbrev pub close_paragraph_step : Step
close_paragraph_step = record { plan = close_paragraph_plan; act = close_paragraph; fits = any_view; law = close_paragraph_faithful }

abbrev pub close_item_step : Step
close_item_step = record { plan = close_item_plan; act = close_item; fits = any_view; law = close_item_faithful }

abbrev pub close_description_step : Step
close_description_step = record { plan = close_description_plan; act = close_description; fits = any_view; law = close_description_faithful }

abbrev pub end_form_in_template_step : Step
end_form_in_template_step = record { plan = end_form_in_template_plan; act = end_form_in_template; fits = any_view; law = end_form_in_template_faithful }

abbrev pub end_form_step : Step
end_form_step = record { plan = end_form_plan; act = end_form; fits = any_view; law = end_form_faithful }

abbrev pub push_head_step : Step
push_head_step = record { plan = push_head_plan; act = push_head; fits = any_view; law = push_head_faithful }

abbrev pub take_head_off_step : Step
take_head_off_step = record { plan = take_head_plan; act = take_head_off; fits = any_view; law = take_head_off_faithful }

-- what a step carries out, and what it means
abbrev pub IsOf : Step → (Split → Plan Split) → Act → Type 0
IsOf step plan act = (step.plan ≡ plan) × (step.act ≡ act)

pub record StepsAre : Type 0 where
  pub frameset : IsOf frameset_step frameset_plan frameset_not_ok
  pub skip : IsOf skip_step skip_plan skip_line_feed
  pub switch : (m : Mode) → IsOf (switch_step m) (switch_plan m) (switch_to m)
  pub keep : IsOf keep_step keep_plan keep_original
  pub original : IsOf original_step original_plan to_original
  pub push_mode : (m : Mode) → IsOf (push_mode_step m) (push_mode_plan m) (push_template_mode m)
  pub pop_mode : IsOf pop_mode_step pop_mode_plan pop_template_mode
  pub replace_mode : (m : Mode) → IsOf (replace_mode_step m) (replace_mode_plan m) (replace_template_mode m)
  pub empty_form : IsOf empty_form_step empty_form_plan empty_form
  pub point_form : IsOf point_form_step point_form_plan point_form
  pub quirks : IsOf quirks_step quirks_plan set_quirks
  pub point_head : IsOf point_head_step point_head_plan point_head
  pub empty_pending : IsOf empty_pending_step empty_pending_plan empty_pending
  pub append_pending : (text : List ℕ) → IsOf (append_pending_step text) (append_pending_plan text) (append_pending text)
  pub marker : IsOf marker_step marker_plan add_marker
  pub append : (tag : Tag) → IsOf (append_step tag) (append_plan tag) (append_entry tag)
  pub clear : IsOf clear_step clear_plan clear
  pub pop : IsOf pop_step pop_plan pop
  pub pop_run : (names : Kinds) → IsOf (pop_run_step names) (pop_run_plan names) (pop_run names)
  pub pop_to : (goals : Kinds) → IsOf (pop_to_step goals) (pop_to_plan goals) (pop_to goals)
  pub through : (goals : Kinds) (stops : Kinds) → IsOf (through_step goals stops) (through_plan goals stops) (through goals stops)
  pub pop_to_first : IsOf pop_to_first_step pop_to_first_plan pop_to_first
  pub put : (fostering : Bool) (what : Child) → IsOf (put_step fostering what) (put_plan fostering what) (put_here fostering what)
  pub put_document : (what : Child) → IsOf (put_document_step what) (put_document_plan what) (put_at what (Into (Fixed 0)))
  pub put_first : (what : Child) → IsOf (put_first_step what) (put_first_plan what) (put_into_first what)
  pub insert : (fostering : Bool) (tag : Tag) → IsOf (insert_step fostering tag) (insert_plan fostering tag) (insert fostering tag)
  pub insert_document : (tag : Tag) → IsOf (insert_document_step tag) (insert_document_plan tag) (insert_into_document tag)
  pub add_first : (attributes : List Attribute) → IsOf (add_first_step attributes) (add_first_plan attributes) (add_missing_to_first attributes)
  pub add_body : (attributes : List Attribute) → IsOf (add_body_step attributes) (add_body_plan attributes) (add_missing_to_body attributes)
  pub detach : IsOf detach_step detach_plan detach_body
  pub reset : IsOf reset_step reset_plan reset
  pub implied : IsOf implied_step implied_plan implied
  pub implied_except : (name : Known) → IsOf (implied_except_step name) (implied_except_plan name) (implied_except name)
  pub implied_thoroughly : IsOf implied_thoroughly_step implied_thoroughly_plan implied_thoroughly
  pub through_named : (name : List ℕ) → IsOf (through_named_step name) (through_named_plan name) (through_named name)
  pub walk : (name : List ℕ) → IsOf (walk_step name) (walk_plan name) (walk name)
  pub close : (name : Known) → IsOf (close_step name) (close_plan name) (close name)
  pub close_paragraph : IsOf close_paragraph_step close_paragraph_plan close_paragraph
  pub close_item : IsOf close_item_step close_item_plan close_item
  pub close_description : IsOf close_description_step close_description_plan close_description
  pub end_form_in_template : IsOf end_form_in_template_step end_form_in_template_plan end_form_in_template
  pub end_form : IsOf end_form_step end_form_plan end_form
  pub push_head : IsOf push_head_step push_head_plan push_head
  pub take_head_off : IsOf take_head_off_step take_head_plan take_head_off
