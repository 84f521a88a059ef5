use Rattle.std.proofs.Common.{Option, refl, ap, sym, ◌∙◌}
use Rattle.hp_elements.specs.declared.token.Rest.{Rest}
use Rattle.hp_views.specs.View.{split_of}
use Rattle.hp_runs.specs.Handling.{turned}
use Rattle.hp_fragment.proofs.Handling.{one-handled, one-refused}
use Rattle.hp_fragment.proofs.Refusing.{memory-wanted}
use Rattle.hp_fragment.specs.Reading.{stage}
use Rattle.hp_fragment.proofs.parsing.Parsing.handle_one.Goals as goal

pub returns-in-None-clause-handled : goal.returns-in-None-clause-handled
returns-in-None-clause-handled g c =
    one-handled c.tokens_over.ensures.handled c.lexer_apart.ensures.at_once c.views_over.ensures.edits c.steps_fall.ensures.switches (stage g.B.Below.heard c.args.self.now) _ (split_of c.handle.new.view) c.take.new.edits
    c.args.token c.in_ok-handled.handled c.in_ok-handled.ensures.plan refl c.in_ok-take.ensures.amounts c.in_ok-take.ensures.kind (ap (λ (to : Option Rest). turned to c.args.self.now.lexer) (sym c.in-None.is)) refl

pub returns-in-Some-clause-handled : goal.returns-in-Some-clause-handled
returns-in-Some-clause-handled g c =
    one-handled c.tokens_over.ensures.handled c.lexer_apart.ensures.at_once c.views_over.ensures.edits c.steps_fall.ensures.switches (stage g.B.Below.heard c.args.self.now) _ (split_of c.handle.new.view) c.take.new.edits
    c.args.token c.in_ok-handled.handled c.in_ok-handled.ensures.plan refl c.in_ok-take.ensures.amounts c.in_ok-take.ensures.kind (c.switch.ensures ∙ ap (λ (to : Option Rest). turned to c.args.self.now.lexer) (sym c.in-Some.is)) refl

pub returns-in_err-handled-clause-crossed : goal.returns-in_err-handled-clause-crossed
returns-in_err-handled-clause-crossed g c =
    one-refused c.tokens_over.ensures.handled c.lexer_apart.ensures.at_once c.views_over.ensures.edits (stage g.B.Below.heard c.args.self.now)
    (record (stage g.B.Below.heard c.args.self.now) { heard = g.B.Below.heard c.handle.new.view.below; split = split_of c.handle.new.view }) c.args.token c.from_residual.result c.in_err-handled.field-0.0
    c.from_residual.ensures.1 c.in_err-handled.ensures.plan refl

pub returns-in_err-take-clause-crossed : goal.returns-in_err-take-clause-crossed
returns-in_err-take-clause-crossed g c = memory-wanted _ c.from_residual-in_err-take.result c.from_residual-in_err-take.ensures.1
