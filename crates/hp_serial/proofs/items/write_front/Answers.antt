use Rattle.hp_serial.proofs.Joins.{ok_then, comment_joined, doctype_joined}
use Rattle.hp_serial.proofs.Views.{front_shown, start_shown}
use Rattle.hp_serial.proofs.items.write_front.Goals as goal

pub returns-in-Element : goal.returns-in-Element
returns-in-Element c t has =
    ok_then c.write_start_tag.result _ _ (λ e. front_shown t c.args.raw _ _ c.args.view _ c.in-Element.is (start_shown t c.args.raw _ _ _ c.in-Element.tag (rw c.in-Element.is at has) e)) c.write_start_tag.ensures

pub returns-in-Text : goal.returns-in-Text
returns-in-Text c t has = ok_then c.write_runs.result _ _ (λ e. front_shown t c.args.raw _ _ c.args.view _ c.in-Text.is e) c.write_runs.ensures

pub returns-in-Comment : goal.returns-in-Comment
returns-in-Comment c t has =
    ok_then c.write_between.result _ _ (λ e. front_shown t c.args.raw _ _ c.args.view _ c.in-Comment.is (comment_joined _ _ _ (rw c.as_str.ensures at e))) c.write_between.ensures

pub returns-in-Doctype : goal.returns-in-Doctype
returns-in-Doctype c t has =
    ok_then c.write_between-in-Doctype.result _ _ (λ e. front_shown t c.args.raw _ _ c.args.view _ c.in-Doctype.is (doctype_joined _ _ _ (rw c.name_of.ensures at e))) c.write_between-in-Doctype.ensures
