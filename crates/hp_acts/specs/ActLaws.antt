-- Each act of a row does to a view, by its plan, what it does to the whole state; and each test tells of a view what holds of it.
use Rattle.std.specs.Prelude.{◌≡◌, Bool, true, false, if◌then◌else◌, Option, Some, None}
use Rattle.std.proofs.Common.{subst}
use Rattle.hp_elements.specs.Names.{text_of, known_of}
use Rattle.hp_elements.specs.Quirks.{gives_quirks}
use Rattle.hp_elements.specs.declared.act.Act.{Act}
use Rattle.hp_elements.specs.declared.act.Act.TheVariants as act
use Rattle.hp_elements.specs.declared.kinds.Kinds.TheVariants as kinds
use Rattle.hp_elements.specs.declared.known.Known.{Known}
use Rattle.hp_elements.specs.KnownNames as known
use Rattle.hp_elements.specs.declared.tag.Tag.{Tag}
use Rattle.hp_elements.specs.declared.token.Token.{Token}
use Rattle.hp_control.specs.declared.edit.Child.TheVariants as child
use Rattle.hp_control.specs.Acts.{append_to_list, insert, insert_into_document, set_quirks}
use Rattle.hp_control.specs.Faithful.{Split, FaithfulWhere, Faithful, any_view, faithful_nothing}
use Rattle.hp_control.specs.Foreign.{insert_foreign, insert_as_current}
use Rattle.hp_control.specs.Outcome.{Act as StateAct, nothing_done}
use Rattle.hp_control.specs.Plan.{Plan}
use Rattle.hp_views.specs.ClosingLaws.{implied_faithful, implied_except_faithful, implied_thoroughly_faithful, walk_faithful, close_paragraph_faithful, close_item_faithful, close_description_faithful}
use Rattle.hp_views.specs.ClosingPlans.{leaves_it}
use Rattle.hp_views.specs.FieldLaws.{has_own, frameset_faithful, skip_faithful, switch_faithful, keep_faithful, original_faithful, push_mode_faithful, pop_mode_faithful, replace_mode_faithful, point_form_faithful, quirks_faithful, head_faithful, empty_pending_faithful, append_pending_faithful}
use Rattle.hp_views.specs.FieldPlans.{quirks_plan}
use Rattle.hp_views.specs.FormLaws.{end_form_faithful}
use Rattle.hp_views.specs.HeadLaws.{push_head_faithful, take_head_off_faithful}
use Rattle.hp_views.specs.InsertLaws.{put_faithful, put_document_faithful, put_first_faithful, insert_faithful, insert_document_faithful, add_first_faithful, add_body_faithful, detach_faithful}
use Rattle.hp_views.specs.ListLaws.{marker_faithful, clear_faithful}
use Rattle.hp_views.specs.PlacePlans.{insert_plan, insert_document_plan}
use Rattle.hp_views.specs.PopLaws.{pop_faithful, pop_to_faithful, through_faithful, pop_to_first_faithful}
use Rattle.hp_views.specs.ResetLaws.{keeps_modes, reset_faithful}
use Rattle.hp_adoption.specs.AdoptLaws.{adopt_faithful}
use Rattle.hp_adoption.specs.ArkLaws.{append_to_list_faithful}
use Rattle.hp_adoption.specs.ArkPlans.{append_to_list_plan}
use Rattle.hp_adoption.specs.FlushActs.{flush_at_once}
use Rattle.hp_adoption.specs.FlushLaws.{flush_faithful}
use Rattle.hp_adoption.specs.LinkLaws.{close_link_faithful}
use Rattle.hp_adoption.specs.ReconLaws.{reconstruct_faithful}
use Rattle.hp_foreign.specs.Laws.{insert_foreign_faithful, insert_as_current_faithful, pop_to_point_faithful, through_foreign_faithful, put_replacements_faithful}
use Rattle.hp_foreign.specs.Plans.{insert_foreign_plan, insert_as_current_plan}
use Rattle.hp_model.specs.Steps.{step, implied_but_for}
use Rattle.hp_model.specs.Tokens.{bare, characters, comment, doctype_of, is_self_closing, name_for, name_of, parts_of, tag_of}
use Rattle.hp_acts.specs.Plans.{act_plan, implied_but_plan}
use Rattle.hp_acts.specs.Spending.{html_tag}

-- the views that have what the act reads
abbrev pub fits_of : Act → Split → Bool
fits_of act.FormPointer = has_own
fits_of act.AppendToList = has_own
fits_of act.Reset = keeps_modes
fits_of _ = any_view

abbrev pub MeansBy : (Split → Bool) → Option (Split → Plan Split) → StateAct → Type 0
MeansBy fits None f = Unit {0}
MeansBy fits (Some plan) f = FaithfulWhere fits plan f

-- what an act does; the pending table characters are put as one text
abbrev pub step_at_once : Bool → Token → Act → StateAct
step_at_once fostering t act.Flush = flush_at_once
step_at_once fostering t other = step fostering t other

-- the law of an act
abbrev pub ActMeans : Bool → Token → Act → Type 0
ActMeans fostering t a = MeansBy (fits_of a) (act_plan fostering t a) (step_at_once fostering t a)

implied_but_faithful : (name : Option Known) → Faithful (implied_but_plan name) (implied_but_for name)
implied_but_faithful None = implied_faithful
implied_but_faithful (Some name) = implied_except_faithful name

quirks_way : (b : Bool) → Faithful (if b then quirks_plan else leaves_it) (if b then set_quirks else nothing_done)
quirks_way true = quirks_faithful
quirks_way false = faithful_nothing

-- the same tag by another description
by_tag : (plan : Tag → Split → Plan Split) (f : Tag → StateAct) (made own : Tag) → made ≡ own → ((tag : Tag) → Faithful (plan tag) (f tag)) → Faithful (plan made) (f own)
by_tag plan f made own e law = let P : Tag → Type 0 = λ tag. Faithful (plan made) (f tag) in subst P e (law made)

by_tag_own : (plan : Tag → Split → Plan Split) (f : Tag → StateAct) (made own : Tag) → made ≡ own → ((tag : Tag) → FaithfulWhere has_own (plan tag) (f tag)) → FaithfulWhere has_own (plan made) (f own)
by_tag_own plan f made own e law = let P : Tag → Type 0 = λ tag. FaithfulWhere has_own (plan made) (f tag) in subst P e (law made)

pub act_faithful : (fostering : Bool) (t : Token) → html_tag t ≡ tag_of t → (a : Act) → ActMeans fostering t a
act_faithful f t h act.Characters = put_faithful f (child.Text (characters t)) tt
act_faithful f t h act.Replacement = put_replacements_faithful f (characters t)
act_faithful f t h act.Comment = put_faithful f (child.Comment (comment t)) tt
act_faithful f t h act.CommentIntoDocument = put_document_faithful (child.Comment (comment t)) tt
act_faithful f t h act.CommentIntoFirst = put_first_faithful (child.Comment (comment t)) tt
act_faithful f t h act.PutDoctype = put_document_faithful (doctype_of (parts_of t)) tt
act_faithful f t h act.QuirksOfDoctype = quirks_way (gives_quirks (parts_of t))
act_faithful f t h act.Quirks = quirks_faithful
act_faithful f t h act.AddMissingToFirst = add_first_faithful (tag_of t).attributes
act_faithful f t h act.AddMissingToBody = add_body_faithful (tag_of t).attributes
act_faithful f t h act.Insert = by_tag (insert_plan f) (insert f) (html_tag t) (tag_of t) h (insert_faithful f)
act_faithful f t h (act.InsertBare name) = insert_faithful f (bare (text_of name))
act_faithful f t h act.InsertForeign = by_tag (insert_foreign_plan f (is_self_closing t)) (insert_foreign f (is_self_closing t)) (html_tag t) (tag_of t) h (insert_foreign_faithful f (is_self_closing t))
act_faithful f t h act.InsertAsCurrent = by_tag (insert_as_current_plan f (is_self_closing t)) (insert_as_current f (is_self_closing t)) (html_tag t) (tag_of t) h (insert_as_current_faithful f (is_self_closing t))
act_faithful f t h act.InsertHtml = by_tag insert_document_plan insert_into_document (html_tag t) (tag_of t) h insert_document_faithful
act_faithful f t h act.InsertBareHtml = insert_document_faithful (bare (text_of known.Html))
act_faithful f t h act.PushHead = push_head_faithful
act_faithful f t h act.Reconstruct = reconstruct_faithful f
act_faithful f t h act.Pop = pop_faithful
act_faithful f t h (act.PopTo names) = pop_to_faithful (kinds.Set names)
act_faithful f t h act.PopToFirst = pop_to_first_faithful
act_faithful f t h act.PopToPoint = pop_to_point_faithful
act_faithful f t h (act.Through which) = through_faithful (kinds.Html (name_for t which)) kinds.Nothing
act_faithful f t h (act.ThroughFirstOf names) = through_faithful (kinds.Set names) kinds.Nothing
act_faithful f t h act.ThroughForeign = through_foreign_faithful (name_of t)
act_faithful f t h act.Implied = implied_faithful
act_faithful f t h (act.ImpliedExcept which) = implied_but_faithful (known_of (name_for t which))
act_faithful f t h act.ImpliedThoroughly = implied_thoroughly_faithful
act_faithful f t h act.CloseParagraph = close_paragraph_faithful
act_faithful f t h act.CloseItem = close_item_faithful
act_faithful f t h act.CloseDescription = close_description_faithful
act_faithful f t h act.Walk = walk_faithful (name_of t)
act_faithful f t h act.DetachBody = detach_faithful
act_faithful f t h act.TakeHeadOff = take_head_off_faithful
act_faithful f t h act.EndForm = end_form_faithful
act_faithful f t h act.CloseLink = close_link_faithful f
act_faithful f t h act.AppendToList = by_tag_own append_to_list_plan append_to_list (html_tag t) (tag_of t) h append_to_list_faithful
act_faithful f t h (act.Adopt which) = adopt_faithful f (name_for t which)
act_faithful f t h act.Marker = marker_faithful
act_faithful f t h act.ClearToMarker = clear_faithful
act_faithful f t h act.FramesetNotOk = frameset_faithful
act_faithful f t h act.SkipLineFeed = skip_faithful
act_faithful f t h act.HeadPointer = head_faithful
act_faithful f t h act.FormPointer = point_form_faithful
act_faithful f t h act.Reset = reset_faithful
act_faithful f t h act.KeepOriginal = keep_faithful
act_faithful f t h act.ToOriginal = original_faithful
act_faithful f t h (act.Switch m) = switch_faithful m
act_faithful f t h (act.PushTemplateMode m) = push_mode_faithful m
act_faithful f t h (act.ReplaceTemplateMode m) = replace_mode_faithful m
act_faithful f t h act.PopTemplateMode = pop_mode_faithful
act_faithful f t h act.EmptyPending = empty_pending_faithful
act_faithful f t h act.AppendPending = append_pending_faithful (characters t)
act_faithful f t h act.Flush = flush_faithful
act_faithful f t h (act.If x otherwise) = faithful_nothing
act_faithful f t h (act.Unless x otherwise) = faithful_nothing
act_faithful f t h act.Done = faithful_nothing
act_faithful f t h act.Again = faithful_nothing
act_faithful f t h (act.AgainAs name) = faithful_nothing
act_faithful f t h (act.As m) = faithful_nothing
act_faithful f t h (act.AsFostered m) = faithful_nothing
act_faithful f t h act.AsPresent = faithful_nothing
act_faithful f t h act.Stop = faithful_nothing
act_faithful f t h (act.Lexer rest) = faithful_nothing
