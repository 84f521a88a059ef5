-- What each act and each test of a row asks of the older state and changes of a view, given the token (13.2.6). For the acts that
-- only steer the row it is the plan that changes nothing.
use Rattle.std.specs.Prelude.{Bool, if◌then◌else◌, Option, Some, None}
use Rattle.hp_elements.specs.Names.{text_of, known_of}
use Rattle.hp_elements.specs.Quirks.{gives_quirks}
use Rattle.hp_elements.specs.declared.act.Act.{Act}
use Rattle.hp_elements.specs.declared.act.Act.TheVariants as act
use Rattle.hp_elements.specs.declared.act.Test.{Test}
use Rattle.hp_elements.specs.declared.act.Test.TheVariants as test
use Rattle.hp_elements.specs.declared.kinds.Kinds.TheVariants as kinds
use Rattle.hp_elements.specs.declared.known.Known.{Known}
use Rattle.hp_elements.specs.KnownNames as known
use Rattle.hp_elements.specs.declared.token.DoctypeParts.{DoctypeParts}
use Rattle.hp_elements.specs.declared.token.Token.{Token}
use Rattle.hp_control.specs.declared.edit.Child.TheVariants as child
use Rattle.hp_control.specs.Faithful.{Split}
use Rattle.hp_control.specs.Foreign.{has_font_attribute}
use Rattle.hp_control.specs.Plan.{Plan, gives}
use Rattle.hp_views.specs.ClosingPlans.{leaves_it, implied_plan, implied_except_plan, implied_thoroughly_plan, walk_plan, close_paragraph_plan, close_item_plan, close_description_plan}
use Rattle.hp_views.specs.FieldPlans.{frameset_plan, skip_plan, switch_plan, keep_plan, original_plan, push_mode_plan, pop_mode_plan, replace_mode_plan, point_form_plan, quirks_plan, point_head_plan, empty_pending_plan, append_pending_plan}
use Rattle.hp_views.specs.FormPlans.{end_form_plan}
use Rattle.hp_views.specs.HeadPlans.{push_head_plan, take_head_plan}
use Rattle.hp_views.specs.ListPlans.{marker_plan, clear_plan, listed_plan}
use Rattle.hp_views.specs.PlacePlans.{put_plan, put_document_plan, put_first_plan, insert_plan, insert_document_plan, add_first_plan, add_body_plan, detach_plan}
use Rattle.hp_views.specs.ResetPlans.{reset_plan}
use Rattle.hp_views.specs.SecondPlans.{second_plan, own_modes}
use Rattle.hp_views.specs.StackPlans.{in_scope_plan, current_is_plan, below_is_plan, template_plan, frameset_ok_plan, is_quirks_plan, has_form_plan, is_table_mode, pop_plan, pop_to_plan, pop_to_first_plan, through_plan}
use Rattle.hp_adoption.specs.AdoptPlans.{adopt_plan}
use Rattle.hp_adoption.specs.ArkPlans.{append_to_list_plan}
use Rattle.hp_adoption.specs.FlushPlans.{flush_plan}
use Rattle.hp_adoption.specs.LinkPlans.{close_link_plan}
use Rattle.hp_adoption.specs.ReconPlans.{reconstruct_plan}
use Rattle.hp_foreign.specs.Plans.{insert_foreign_plan, insert_as_current_plan, names_plan, pop_to_point_plan, put_replacements_plan, through_foreign_plan}
use Rattle.hp_model.specs.Tokens.{bare, characters, comment, doctype_of, has_hidden_type, is_self_closing, name_for, name_of, parts_of, tag_of}
use Rattle.hp_acts.specs.Spending.{html_tag}

abbrev pub test_plan : Token → Test → Split → Plan Bool
test_plan t (test.InScope scope which) v = in_scope_plan scope (kinds.Html (name_for t which)) v
test_plan t (test.OneInScope scope names) v = in_scope_plan scope (kinds.Set names) v
test_plan t test.TemplateInStack v = template_plan v
test_plan t test.HasTemplateModes v = gives (own_modes v.change.templates)
test_plan t test.SecondIsBody v = second_plan v
test_plan t test.FramesetOk v = frameset_ok_plan v
test_plan t test.IsQuirks v = is_quirks_plan v
test_plan t test.HasForm v = has_form_plan v
test_plan t (test.CurrentIs name) v = current_is_plan (kinds.Html (text_of name)) v
test_plan t (test.CurrentIsIn names) v = current_is_plan (kinds.Set names) v
test_plan t (test.BelowIs name) v = below_is_plan (kinds.Html (text_of name)) v
test_plan t (test.Listed name) v = listed_plan (text_of name) v
test_plan t test.TypeIsHidden v = gives (has_hidden_type t)
test_plan t test.InTableModes v = gives (is_table_mode v.change.mode)
test_plan t test.HasFontAttribute v = gives (has_font_attribute (tag_of t))
test_plan t test.NamesForeign v = names_plan (name_of t) v

-- the implied end tags but that of the name
abbrev pub implied_but_plan : Option Known → Split → Plan Split
implied_but_plan None = implied_plan
implied_but_plan (Some name) = implied_except_plan name

abbrev pub quirks_of_plan : DoctypeParts → Split → Plan Split
quirks_of_plan parts = if gives_quirks parts then quirks_plan else leaves_it

-- the plan, where there is one
abbrev pub by_plan : Option (Split → Plan Split) → Split → Plan Split
by_plan None v = gives v
by_plan (Some plan) v = plan v

-- what stands in fields of the state
abbrev pub field_plan : Act → Option (Split → Plan Split)
field_plan (act.Switch m) = Some (switch_plan m)
field_plan act.KeepOriginal = Some keep_plan
field_plan act.ToOriginal = Some original_plan
field_plan act.Reset = Some reset_plan
field_plan act.Marker = Some marker_plan
field_plan act.ClearToMarker = Some clear_plan
field_plan (act.PushTemplateMode m) = Some (push_mode_plan m)
field_plan (act.ReplaceTemplateMode m) = Some (replace_mode_plan m)
field_plan act.PopTemplateMode = Some pop_mode_plan
field_plan act.SkipLineFeed = Some skip_plan
field_plan act.FormPointer = Some point_form_plan
field_plan act.HeadPointer = Some point_head_plan
field_plan act.PushHead = Some push_head_plan
field_plan act.TakeHeadOff = Some take_head_plan
field_plan act.Quirks = Some quirks_plan
field_plan act.EmptyPending = Some empty_pending_plan
field_plan act.Flush = Some flush_plan
field_plan _ = Some leaves_it

-- what closes elements
abbrev pub close_plan : Bool → Token → Act → Option (Split → Plan Split)
close_plan fostering t act.Pop = Some pop_plan
close_plan fostering t (act.PopTo names) = Some (pop_to_plan (kinds.Set names))
close_plan fostering t act.PopToFirst = Some pop_to_first_plan
close_plan fostering t act.PopToPoint = Some pop_to_point_plan
close_plan fostering t (act.Through which) = Some (through_plan (kinds.Html (name_for t which)) kinds.Nothing)
close_plan fostering t (act.ThroughFirstOf names) = Some (through_plan (kinds.Set names) kinds.Nothing)
close_plan fostering t act.ThroughForeign = Some (through_foreign_plan (name_of t))
close_plan fostering t act.Implied = Some implied_plan
close_plan fostering t (act.ImpliedExcept which) = Some (implied_but_plan (known_of (name_for t which)))
close_plan fostering t act.ImpliedThoroughly = Some implied_thoroughly_plan
close_plan fostering t act.CloseParagraph = Some close_paragraph_plan
close_plan fostering t act.CloseItem = Some close_item_plan
close_plan fostering t act.CloseDescription = Some close_description_plan
close_plan fostering t act.Walk = Some (walk_plan (name_of t))
close_plan fostering t act.EndForm = Some end_form_plan
close_plan fostering t act.DetachBody = Some detach_plan
close_plan fostering t (act.Adopt which) = Some (adopt_plan fostering (name_for t which))
close_plan fostering t act.CloseLink = Some (close_link_plan fostering)
close_plan fostering t other = field_plan other

-- what puts nodes into the tree
abbrev pub act_plan : Bool → Token → Act → Option (Split → Plan Split)
act_plan fostering t act.Characters = Some (put_plan fostering (child.Text (characters t)))
act_plan fostering t act.Insert = Some (insert_plan fostering (html_tag t))
act_plan fostering t (act.InsertBare name) = Some (insert_plan fostering (bare (text_of name)))
act_plan fostering t act.InsertForeign = Some (insert_foreign_plan fostering (is_self_closing t) (html_tag t))
act_plan fostering t act.InsertAsCurrent = Some (insert_as_current_plan fostering (is_self_closing t) (html_tag t))
act_plan fostering t act.InsertHtml = Some (insert_document_plan (html_tag t))
act_plan fostering t act.InsertBareHtml = Some (insert_document_plan (bare (text_of known.Html)))
act_plan fostering t act.Comment = Some (put_plan fostering (child.Comment (comment t)))
act_plan fostering t act.CommentIntoDocument = Some (put_document_plan (child.Comment (comment t)))
act_plan fostering t act.CommentIntoFirst = Some (put_first_plan (child.Comment (comment t)))
act_plan fostering t act.Replacement = Some (put_replacements_plan fostering (characters t))
act_plan fostering t act.AppendPending = Some (append_pending_plan (characters t))
act_plan fostering t act.AddMissingToFirst = Some (add_first_plan (tag_of t).attributes)
act_plan fostering t act.AddMissingToBody = Some (add_body_plan (tag_of t).attributes)
act_plan fostering t act.PutDoctype = Some (put_document_plan (doctype_of (parts_of t)))
act_plan fostering t act.QuirksOfDoctype = Some (quirks_of_plan (parts_of t))
act_plan fostering t act.FramesetNotOk = Some frameset_plan
act_plan fostering t act.Reconstruct = Some (reconstruct_plan fostering)
act_plan fostering t act.AppendToList = Some (append_to_list_plan (html_tag t))
act_plan fostering t other = close_plan fostering t other
