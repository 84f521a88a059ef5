use Rattle.std.proofs.Common.{refl}
use Rattle.std.specs.List.{list_all}
use Rattle.hp_views.specs.View.{split_of}
use Rattle.hp_model.specs.Texts.{as_run, is_white, white_or_other}
use Rattle.hp_fragment.proofs.Handling.{one-refused, run-handled}
use Rattle.hp_fragment.proofs.Quiet.{text-quiet}
use Rattle.hp_fragment.proofs.Refusing.{memory-wanted}
use Rattle.hp_fragment.specs.Reading.{stage}
use Rattle.hp_fragment.proofs.parsing.Parsing.put_text.Goals as goal

pub returns-clause-handled : goal.returns-clause-handled
returns-clause-handled g c =
    run-handled c.tokens_over.ensures.handled c.lexer_apart.ensures.at_once c.views_over.ensures.edits (stage g.B.Below.heard c.args.self.now) _ (split_of c.handle_text.new.view) c.take.new.edits
    (white_or_other (list_all is_white c.args.text)) c.args.text c.in_ok-handle_text.field-0 c.in_ok-handle_text.ensures.plan refl c.in_ok-take.ensures.amounts c.in_ok-take.ensures.kind
    (text-quiet (g.B.Below.heard c.args.self.now.view.below).says c.args.text (split_of c.args.self.now.view) (split_of c.handle_text.new.view) c.in_ok-handle_text.field-0 c.in_ok-handle_text.ensures.plan.ends c.requires.takes) refl refl

pub returns-in_err-handle_text-clause-crossed : goal.returns-in_err-handle_text-clause-crossed
returns-in_err-handle_text-clause-crossed g c =
    one-refused c.tokens_over.ensures.handled c.lexer_apart.ensures.at_once c.views_over.ensures.edits (stage g.B.Below.heard c.args.self.now)
    (record (stage g.B.Below.heard c.args.self.now) { heard = g.B.Below.heard c.handle_text.new.view.below; split = split_of c.handle_text.new.view }) (as_run c.args.text) c.from_residual.result c.in_err-handle_text.field-0.0
    c.from_residual.ensures.1 c.in_err-handle_text.ensures.plan refl

pub returns-in_err-take-clause-crossed : goal.returns-in_err-take-clause-crossed
returns-in_err-take-clause-crossed g c = memory-wanted _ c.from_residual-in_err-take.result c.from_residual-in_err-take.ensures.1
