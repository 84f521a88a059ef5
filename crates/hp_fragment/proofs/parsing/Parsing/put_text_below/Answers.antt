use Rattle.std.proofs.Common.{refl}
use Rattle.hp_views.specs.View.{split_of}
use Rattle.hp_fragment.proofs.Handling.{below-handled, below-refused}
use Rattle.hp_fragment.proofs.Refusing.{memory-wanted}
use Rattle.hp_fragment.specs.Reading.{stage}
use Rattle.hp_fragment.proofs.parsing.Parsing.put_text_below.Goals as goal

pub returns-clause-handled : goal.returns-clause-handled
returns-clause-handled g c = λ first found.
    below-handled c.tokens_over.ensures.handled c.lexer_apart.ensures.at_once c.views_over.ensures.edits c.texts_over.ensures.below first (stage g.B.Below.heard c.args.self.now) _ (split_of c.handle_text_below.new.view) c.take.new.edits c.args.text
    c.in_ok-handle_text_below.field-0 c.requires.may found (c.in_ok-handle_text_below.ensures.plan (record { heard = first; split = split_of c.args.self.now.view }) (record { runs = found; same = refl })) refl c.in_ok-take.ensures.amounts c.in_ok-take.ensures.kind refl refl

pub returns-in_err-handle_text_below-clause-crossed : goal.returns-in_err-handle_text_below-clause-crossed
returns-in_err-handle_text_below-clause-crossed g c =
    below-refused c.tokens_over.ensures.handled c.lexer_apart.ensures.at_once c.views_over.ensures.edits c.texts_over.ensures.below (stage g.B.Below.heard c.args.self.now)
    (record (stage g.B.Below.heard c.args.self.now) { heard = g.B.Below.heard c.handle_text_below.new.view.below; split = split_of c.handle_text_below.new.view }) c.args.text c.from_residual.result
    c.in_err-handle_text_below.field-0.0 c.from_residual.ensures.1 c.requires.may c.in_err-handle_text_below.ensures.plan refl

pub returns-in_err-take-clause-crossed : goal.returns-in_err-take-clause-crossed
returns-in_err-take-clause-crossed g c = memory-wanted _ c.from_residual-in_err-take.result c.from_residual-in_err-take.ensures.1
