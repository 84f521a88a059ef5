use Rattle.std.proofs.Common.{ap, refl, sym}
use Rattle.hp_elements.specs.KnownNames as known
use Rattle.hp_elements.specs.Names.{text_of}
use Rattle.hp_elements.specs.declared.act.Act.TheVariants as act
use Rattle.hp_elements.specs.declared.tag.Tag.{Tag}
use Rattle.hp_control.specs.Acts.{point_in}
use Rattle.hp_model.specs.Tokens.{bare}
use Rattle.hp_views.specs.PlacePlans.{insert_document_plan, insert_plan}
use Rattle.hp_views.specs.View.{sight}
use Rattle.hp_acts.specs.Plans.{act_plan}
use Rattle.hp_acts.proofs.CarriedOut.{by_act, by_close, given, left_alone}
use Rattle.hp_acts.proofs.UsualRuns.{carries_as}
use Rattle.hp_acts.proofs.acts.carry_out.Goals as goal

pub insert-requires-in-InsertBare : goal.insert-requires-in-InsertBare
insert-requires-in-InsertBare g c = record { point = sym (ap (λ (t : Tag). point_in t.namespace t) c.bare.ensures) }

pub insert_into_document-requires : goal.insert_into_document-requires
insert_into_document-requires g c = record { html = ap (λ (t : Tag). t.namespace) c.bare-in-InsertBareHtml.ensures }

pub returns-in-Characters : goal.returns-in-Characters
returns-in-Characters g c =
    record {
      plan = by_act (act_plan c.args.fostering c.args.token.now) c.put_characters.result (sight g.B.Below.heard c.args.view.now) (sight g.B.Below.heard c.put_characters.new.view) c.args.act act.Characters c.in-Characters.is c.put_characters.ensures.plan;
      left = c.put_characters.ensures.left;
      stays = λ keeps. absurd (given c.args.act act.Characters c.in-Characters.is refl keeps);
      copies = c.put_characters.ensures.copies;
    }

pub returns-in-Reconstruct : goal.returns-in-Reconstruct
returns-in-Reconstruct g c =
    record {
      plan = by_act (act_plan c.args.fostering c.args.token.now) c.reconstruct.result (sight g.B.Below.heard c.args.view.now) (sight g.B.Below.heard c.reconstruct.new.view) c.args.act act.Reconstruct c.in-Reconstruct.is c.reconstruct.ensures;
      left = left_alone c.reconstruct.result c.args.token.now;
      stays = λ keeps. refl;
      copies = λ copied. refl;
    }

pub returns-in-FramesetNotOk : goal.returns-in-FramesetNotOk
returns-in-FramesetNotOk g c =
    record {
      plan = by_act (act_plan c.args.fostering c.args.token.now) c.frameset_not_ok.result (sight g.B.Below.heard c.args.view.now) (sight g.B.Below.heard c.frameset_not_ok.new.self) c.args.act act.FramesetNotOk c.in-FramesetNotOk.is c.frameset_not_ok.ensures;
      left = left_alone c.frameset_not_ok.result c.args.token.now;
      stays = λ keeps. refl;
      copies = λ copied. refl;
    }

pub returns-in-Insert : goal.returns-in-Insert
returns-in-Insert g c =
    record {
      plan = by_act (act_plan c.args.fostering c.args.token.now) c.insert.result (sight g.B.Below.heard c.args.view.now) (sight g.B.Below.heard c.insert.new.view) c.args.act act.Insert c.in-Insert.is c.insert.ensures.plan;
      left = c.insert.ensures.left;
      stays = λ keeps. absurd (given c.args.act act.Insert c.in-Insert.is refl keeps);
      copies = c.insert.ensures.copies;
    }

pub returns-in-InsertBare : goal.returns-in-InsertBare
returns-in-InsertBare g c =
    record {
      plan = by_act (act_plan c.args.fostering c.args.token.now) c.insert-in-InsertBare.result (sight g.B.Below.heard c.args.view.now) (sight g.B.Below.heard c.insert-in-InsertBare.new.self) c.args.act (act.InsertBare c.in-InsertBare.name) c.in-InsertBare.is (carries_as c.insert-in-InsertBare.result (sight g.B.Below.heard c.args.view.now) (sight g.B.Below.heard c.insert-in-InsertBare.new.self) (insert_plan c.args.fostering c.bare.result) (insert_plan c.args.fostering (bare (text_of c.in-InsertBare.name))) (ap (insert_plan c.args.fostering) c.bare.ensures) c.insert-in-InsertBare.ensures);
      left = left_alone c.insert-in-InsertBare.result c.args.token.now;
      stays = λ keeps. refl;
      copies = λ copied. refl;
    }

pub returns-in-InsertForeign : goal.returns-in-InsertForeign
returns-in-InsertForeign g c =
    record {
      plan = by_act (act_plan c.args.fostering c.args.token.now) c.insert_named_foreign.result (sight g.B.Below.heard c.args.view.now) (sight g.B.Below.heard c.insert_named_foreign.new.view) c.args.act act.InsertForeign c.in-InsertForeign.is c.insert_named_foreign.ensures.plan;
      left = c.insert_named_foreign.ensures.left;
      stays = λ keeps. absurd (given c.args.act act.InsertForeign c.in-InsertForeign.is refl keeps);
      copies = c.insert_named_foreign.ensures.copies;
    }

pub returns-in-InsertAsCurrent : goal.returns-in-InsertAsCurrent
returns-in-InsertAsCurrent g c =
    record {
      plan = by_act (act_plan c.args.fostering c.args.token.now) c.insert_like_current.result (sight g.B.Below.heard c.args.view.now) (sight g.B.Below.heard c.insert_like_current.new.view) c.args.act act.InsertAsCurrent c.in-InsertAsCurrent.is c.insert_like_current.ensures.plan;
      left = c.insert_like_current.ensures.left;
      stays = λ keeps. absurd (given c.args.act act.InsertAsCurrent c.in-InsertAsCurrent.is refl keeps);
      copies = c.insert_like_current.ensures.copies;
    }

pub returns-in-InsertHtml : goal.returns-in-InsertHtml
returns-in-InsertHtml g c =
    record {
      plan = by_act (act_plan c.args.fostering c.args.token.now) c.insert_html.result (sight g.B.Below.heard c.args.view.now) (sight g.B.Below.heard c.insert_html.new.view) c.args.act act.InsertHtml c.in-InsertHtml.is c.insert_html.ensures.plan;
      left = c.insert_html.ensures.left;
      stays = λ keeps. absurd (given c.args.act act.InsertHtml c.in-InsertHtml.is refl keeps);
      copies = c.insert_html.ensures.copies;
    }

pub returns-in-InsertBareHtml : goal.returns-in-InsertBareHtml
returns-in-InsertBareHtml g c =
    record {
      plan = by_act (act_plan c.args.fostering c.args.token.now) c.insert_into_document.result (sight g.B.Below.heard c.args.view.now) (sight g.B.Below.heard c.insert_into_document.new.self) c.args.act act.InsertBareHtml c.in-InsertBareHtml.is (carries_as c.insert_into_document.result (sight g.B.Below.heard c.args.view.now) (sight g.B.Below.heard c.insert_into_document.new.self) (insert_document_plan c.bare-in-InsertBareHtml.result) (insert_document_plan (bare (text_of known.Html))) (ap insert_document_plan c.bare-in-InsertBareHtml.ensures) c.insert_into_document.ensures);
      left = left_alone c.insert_into_document.result c.args.token.now;
      stays = λ keeps. refl;
      copies = λ copied. refl;
    }

pub returns-in-Comment : goal.returns-in-Comment
returns-in-Comment g c =
    record {
      plan = by_act (act_plan c.args.fostering c.args.token.now) c.put_comment.result (sight g.B.Below.heard c.args.view.now) (sight g.B.Below.heard c.put_comment.new.view) c.args.act act.Comment c.in-Comment.is c.put_comment.ensures.plan;
      left = c.put_comment.ensures.left;
      stays = λ keeps. absurd (given c.args.act act.Comment c.in-Comment.is refl keeps);
      copies = c.put_comment.ensures.copies;
    }

pub returns-in-CommentIntoDocument : goal.returns-in-CommentIntoDocument
returns-in-CommentIntoDocument g c =
    record {
      plan = by_act (act_plan c.args.fostering c.args.token.now) c.comment_into_document.result (sight g.B.Below.heard c.args.view.now) (sight g.B.Below.heard c.comment_into_document.new.view) c.args.act act.CommentIntoDocument c.in-CommentIntoDocument.is c.comment_into_document.ensures.plan;
      left = c.comment_into_document.ensures.left;
      stays = λ keeps. absurd (given c.args.act act.CommentIntoDocument c.in-CommentIntoDocument.is refl keeps);
      copies = c.comment_into_document.ensures.copies;
    }

pub returns-in-CommentIntoFirst : goal.returns-in-CommentIntoFirst
returns-in-CommentIntoFirst g c =
    record {
      plan = by_act (act_plan c.args.fostering c.args.token.now) c.comment_into_first.result (sight g.B.Below.heard c.args.view.now) (sight g.B.Below.heard c.comment_into_first.new.view) c.args.act act.CommentIntoFirst c.in-CommentIntoFirst.is c.comment_into_first.ensures.plan;
      left = c.comment_into_first.ensures.left;
      stays = λ keeps. absurd (given c.args.act act.CommentIntoFirst c.in-CommentIntoFirst.is refl keeps);
      copies = c.comment_into_first.ensures.copies;
    }

pub returns-in-Replacement : goal.returns-in-Replacement
returns-in-Replacement g c =
    record {
      plan = by_act (act_plan c.args.fostering c.args.token.now) c.put_replaced.result (sight g.B.Below.heard c.args.view.now) (sight g.B.Below.heard c.put_replaced.new.view) c.args.act act.Replacement c.in-Replacement.is c.put_replaced.ensures.plan;
      left = left_alone c.put_replaced.result c.args.token.now;
      stays = λ keeps. refl;
      copies = λ copied. refl;
    }

pub returns-in-AppendPending : goal.returns-in-AppendPending
returns-in-AppendPending g c =
    record {
      plan = by_act (act_plan c.args.fostering c.args.token.now) c.append_pending.result (sight g.B.Below.heard c.args.view.now) (sight g.B.Below.heard c.append_pending.new.view) c.args.act act.AppendPending c.in-AppendPending.is c.append_pending.ensures.plan;
      left = left_alone c.append_pending.result c.args.token.now;
      stays = λ keeps. refl;
      copies = λ copied. refl;
    }

pub returns-in-AddMissingToFirst : goal.returns-in-AddMissingToFirst
returns-in-AddMissingToFirst g c =
    record {
      plan = by_act (act_plan c.args.fostering c.args.token.now) c.add_to_first.result (sight g.B.Below.heard c.args.view.now) (sight g.B.Below.heard c.add_to_first.new.view) c.args.act act.AddMissingToFirst c.in-AddMissingToFirst.is c.add_to_first.ensures.plan;
      left = c.add_to_first.ensures.left;
      stays = λ keeps. absurd (given c.args.act act.AddMissingToFirst c.in-AddMissingToFirst.is refl keeps);
      copies = c.add_to_first.ensures.copies;
    }

pub returns-in-AddMissingToBody : goal.returns-in-AddMissingToBody
returns-in-AddMissingToBody g c =
    record {
      plan = by_act (act_plan c.args.fostering c.args.token.now) c.add_to_body.result (sight g.B.Below.heard c.args.view.now) (sight g.B.Below.heard c.add_to_body.new.view) c.args.act act.AddMissingToBody c.in-AddMissingToBody.is c.add_to_body.ensures.plan;
      left = c.add_to_body.ensures.left;
      stays = λ keeps. absurd (given c.args.act act.AddMissingToBody c.in-AddMissingToBody.is refl keeps);
      copies = c.add_to_body.ensures.copies;
    }

pub returns-in-AppendToList : goal.returns-in-AppendToList
returns-in-AppendToList g c =
    record {
      plan = by_act (act_plan c.args.fostering c.args.token.now) c.append_current.result (sight g.B.Below.heard c.args.view.now) (sight g.B.Below.heard c.append_current.new.view) c.args.act act.AppendToList c.in-AppendToList.is c.append_current.ensures.plan;
      left = c.append_current.ensures.left;
      stays = λ keeps. absurd (given c.args.act act.AppendToList c.in-AppendToList.is refl keeps);
      copies = c.append_current.ensures.copies;
    }

pub returns-in-PutDoctype : goal.returns-in-PutDoctype
returns-in-PutDoctype g c =
    record {
      plan = by_act (act_plan c.args.fostering c.args.token.now) c.put_doctype.result (sight g.B.Below.heard c.args.view.now) (sight g.B.Below.heard c.put_doctype.new.view) c.args.act act.PutDoctype c.in-PutDoctype.is c.put_doctype.ensures.plan;
      left = left_alone c.put_doctype.result c.args.token.now;
      stays = λ keeps. refl;
      copies = λ copied. refl;
    }

pub returns-in-QuirksOfDoctype : goal.returns-in-QuirksOfDoctype
returns-in-QuirksOfDoctype g c =
    record {
      plan = by_act (act_plan c.args.fostering c.args.token.now) c.quirks_of_doctype.result (sight g.B.Below.heard c.args.view.now) (sight g.B.Below.heard c.quirks_of_doctype.new.view) c.args.act act.QuirksOfDoctype c.in-QuirksOfDoctype.is c.quirks_of_doctype.ensures.plan;
      left = left_alone c.quirks_of_doctype.result c.args.token.now;
      stays = λ keeps. refl;
      copies = λ copied. refl;
    }

pub returns-in_default : goal.returns-in_default
returns-in_default g c =
    record {
      plan = by_close c.args.fostering c.args.token.now c.close.result (sight g.B.Below.heard c.args.view.now) (sight g.B.Below.heard c.close.new.view) c.args.act c.in_default.not-Characters c.in_default.not-Reconstruct c.in_default.not-FramesetNotOk c.in_default.not-Insert c.in_default.not-InsertBare c.in_default.not-InsertForeign c.in_default.not-InsertAsCurrent c.in_default.not-InsertHtml c.in_default.not-InsertBareHtml c.in_default.not-Comment c.in_default.not-CommentIntoDocument c.in_default.not-CommentIntoFirst c.in_default.not-Replacement c.in_default.not-AppendPending c.in_default.not-AddMissingToFirst c.in_default.not-AddMissingToBody c.in_default.not-AppendToList c.in_default.not-PutDoctype c.in_default.not-QuirksOfDoctype c.close.ensures.plan;
      left = left_alone c.close.result c.args.token.now;
      stays = λ keeps. refl;
      copies = λ copied. refl;
    }
