-- What each test of a row asks of a full state and of the token, and what each act does to it (13.2.6).
use Rattle.std.specs.Prelude.{Bool, true, false, if◌then◌else◌, Option, None, Some}
use Rattle.hp_elements.specs.Names.{text_of, known_of}
use Rattle.hp_elements.specs.Quirks.{gives_quirks}
use Rattle.hp_elements.specs.declared.act.Act.TheVariants as act
use Rattle.hp_elements.specs.declared.act.Act.{Act as RowAct}
use Rattle.hp_elements.specs.declared.act.Test.{Test}
use Rattle.hp_elements.specs.declared.act.Test.TheVariants as test
use Rattle.hp_elements.specs.declared.kinds.Kinds.TheVariants as kinds
use Rattle.hp_elements.specs.declared.known.Known.{Known}
use Rattle.hp_elements.specs.KnownNames as known
use Rattle.hp_elements.specs.declared.token.DoctypeParts.{DoctypeParts}
use Rattle.hp_elements.specs.declared.token.Mode.{Mode}
use Rattle.hp_elements.specs.declared.token.Mode.TheVariants as mode
use Rattle.hp_elements.specs.declared.token.Token.{Token}
use Rattle.hp_control.specs.declared.edit.Child.TheVariants as child
use Rattle.hp_control.specs.declared.edit.Place.TheVariants.{Into}
use Rattle.hp_control.specs.declared.edit.Ref.TheVariants.{Fixed}
use Rattle.hp_control.specs.Acts.{put_at, put_here, put_into_first, set_quirks, add_missing_to_first, add_missing_to_body, insert, insert_into_document, push_head, pop, pop_to, pop_to_first, through, through_named, walk, detach_body, take_head_off, append_to_list, add_marker, clear, frameset_not_ok, skip_line_feed, point_head, point_form, reset, keep_original, to_original, switch_to, push_template_mode, replace_template_mode, pop_template_mode, empty_pending, append_pending}
use Rattle.hp_control.specs.Adoption.{adopt, reconstruct}
use Rattle.hp_control.specs.Composed.{in_scope, named_in_scope, template_in_stack, has_modes, is_second_body, is_frameset_ok, is_quirks, has_form, current_is, below_is, is_listed, implied, implied_except, implied_thoroughly, close_paragraph, close_item, close_description, end_form, close_link, flush}
use Rattle.hp_control.specs.Foreign.{insert_foreign, insert_as_current, pop_to_point, through_foreign, names_foreign, put_replacements, has_font_attribute}
use Rattle.hp_control.specs.Outcome.{Act, nothing_done}
use Rattle.hp_control.specs.States.{ControlState}
use Rattle.hp_model.specs.Tokens.{bare, tag_of, name_of, name_for, is_self_closing, characters, comment, parts_of, doctype_of, has_hidden_type}

-- the modes in which a select is one in a table (13.2.6.4.7)
abbrev pub is_table_mode : Mode → Bool
is_table_mode mode.InTable = true
is_table_mode mode.InCaption = true
is_table_mode mode.InTableBody = true
is_table_mode mode.InRow = true
is_table_mode mode.InCell = true
is_table_mode _ = false

abbrev pub holds : Token → Test → ControlState → Bool
holds t (test.InScope scope which) c = named_in_scope scope (name_for t which) c
holds t (test.OneInScope scope names) c = in_scope scope (kinds.Set names) c
holds t test.TemplateInStack c = template_in_stack c
holds t test.HasTemplateModes c = has_modes c
holds t test.SecondIsBody c = is_second_body c
holds t test.FramesetOk c = is_frameset_ok c
holds t test.IsQuirks c = is_quirks c
holds t test.HasForm c = has_form c
holds t (test.CurrentIs name) c = current_is (kinds.Html (text_of name)) c
holds t (test.CurrentIsIn names) c = current_is (kinds.Set names) c
holds t (test.BelowIs name) c = below_is (kinds.Html (text_of name)) c
holds t (test.Listed name) c = is_listed (text_of name) c
holds t test.TypeIsHidden c = has_hidden_type t
holds t test.InTableModes c = is_table_mode c.mode
holds t test.HasFontAttribute c = has_font_attribute (tag_of t)
holds t test.NamesForeign c = names_foreign (name_of t) c

-- the implied end tags but that of the name
abbrev pub implied_but_for : Option Known → Act
implied_but_for None = implied
implied_but_for (Some name) = implied_except name

abbrev pub quirks_of : DoctypeParts → Act
quirks_of parts = if gives_quirks parts then set_quirks else nothing_done

-- what an act does that ends no row, uses no other rules, and tells the lexer nothing; fostering is on or off
abbrev pub step : Bool → Token → RowAct → Act
step fostering t act.Characters = put_here fostering (child.Text (characters t))
step fostering t act.Replacement = put_replacements fostering (characters t)
step fostering t act.Comment = put_here fostering (child.Comment (comment t))
step fostering t act.CommentIntoDocument = put_at (child.Comment (comment t)) (Into (Fixed 0))
step fostering t act.CommentIntoFirst = put_into_first (child.Comment (comment t))
step fostering t act.PutDoctype = put_at (doctype_of (parts_of t)) (Into (Fixed 0))
step fostering t act.QuirksOfDoctype = quirks_of (parts_of t)
step fostering t act.Quirks = set_quirks
step fostering t act.AddMissingToFirst = add_missing_to_first (tag_of t).attributes
step fostering t act.AddMissingToBody = add_missing_to_body (tag_of t).attributes
step fostering t act.Insert = insert fostering (tag_of t)
step fostering t (act.InsertBare name) = insert fostering (bare (text_of name))
step fostering t act.InsertForeign = insert_foreign fostering (is_self_closing t) (tag_of t)
step fostering t act.InsertAsCurrent = insert_as_current fostering (is_self_closing t) (tag_of t)
step fostering t act.InsertHtml = insert_into_document (tag_of t)
step fostering t act.InsertBareHtml = insert_into_document (bare (text_of known.Html))
step fostering t act.PushHead = push_head
step fostering t act.Reconstruct = reconstruct fostering
step fostering t act.Pop = pop
step fostering t (act.PopTo names) = pop_to (kinds.Set names)
step fostering t act.PopToFirst = pop_to_first
step fostering t act.PopToPoint = pop_to_point
step fostering t (act.Through which) = through_named (name_for t which)
step fostering t (act.ThroughFirstOf names) = through (kinds.Set names) kinds.Nothing
step fostering t act.ThroughForeign = through_foreign (name_of t)
step fostering t act.Implied = implied
step fostering t (act.ImpliedExcept which) = implied_but_for (known_of (name_for t which))
step fostering t act.ImpliedThoroughly = implied_thoroughly
step fostering t act.CloseParagraph = close_paragraph
step fostering t act.CloseItem = close_item
step fostering t act.CloseDescription = close_description
step fostering t act.Walk = walk (name_of t)
step fostering t act.DetachBody = detach_body
step fostering t act.TakeHeadOff = take_head_off
step fostering t act.EndForm = end_form
step fostering t act.CloseLink = close_link fostering
step fostering t act.AppendToList = append_to_list (tag_of t)
step fostering t (act.Adopt which) = adopt fostering (name_for t which)
step fostering t act.Marker = add_marker
step fostering t act.ClearToMarker = clear
step fostering t act.FramesetNotOk = frameset_not_ok
step fostering t act.SkipLineFeed = skip_line_feed
step fostering t act.HeadPointer = point_head
step fostering t act.FormPointer = point_form
step fostering t act.Reset = reset
step fostering t act.KeepOriginal = keep_original
step fostering t act.ToOriginal = to_original
step fostering t (act.Switch m) = switch_to m
step fostering t (act.PushTemplateMode m) = push_template_mode m
step fostering t (act.ReplaceTemplateMode m) = replace_template_mode m
step fostering t act.PopTemplateMode = pop_template_mode
step fostering t act.EmptyPending = empty_pending
step fostering t act.AppendPending = append_pending (characters t)
step fostering t act.Flush = flush
step fostering t _ = nothing_done
