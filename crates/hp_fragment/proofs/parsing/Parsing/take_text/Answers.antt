use Rattle.std.proofs.Common.{◌∷◌, [], map, subst}
use Rattle.std.specs.Prelude.{◌-◌, ◌^◌}
use Rattle.hp_tokens.specs.Rows.{character}
use Rattle.hp_model.specs.Texts.{as_run}
use Rattle.hp_fragment.proofs.Crossing.{text-crosses, view-touched}
use Rattle.hp_fragment.proofs.Leading.{lexed}
use Rattle.hp_fragment.proofs.Refusing.{refused-so}
use Rattle.hp_fragment.proofs.Stepping.{own-whole, same-further, text-further, view-takes}
use Rattle.hp_fragment.proofs.Turning.{step-smaller, went-nowhere}
use Rattle.hp_fragment.specs.Reading.{Handled, Stage, Touched, stage}
use Rattle.hp_fragment.proofs.parsing.Parsing.take_text.Goals as goal

pub returns-in_ok-put_text-in-Some-clause-tried : goal.returns-in_ok-put_text-in-Some-clause-tried
returns-in_ok-put_text-in-Some-clause-tried g c =
    step-smaller c.steps_fall.ensures.steps (stage g.B.Below.heard c.args.self.now) (stage g.B.Below.heard c.next_text.new.self) (stage g.B.Below.heard c.put_text.new.self) (map character c.in-Some.text)
    (c.next_text.new.self.lexer.rested - 2 ^ 32) c.requires.ready c.in-Some.ensures.stepped.stepped c.in-Some.ensures.held c.in-Some.ensures.names c.in_ok-put_text-in-Some.ensures.handled.input c.in_ok-put_text-in-Some.ensures.handled.turned

pub returns-in_ok-put_text-in-Some-clause-reads : goal.returns-in_ok-put_text-in-Some-clause-reads
returns-in_ok-put_text-in-Some-clause-reads g c =
    text-further c.views_over.ensures.valid c.comes_on.ensures.text c.right_goes_on.ensures.tokens c.answers_lead.ensures.text (stage g.B.Below.heard c.args.self.now) (stage g.B.Below.heard c.put_text.new.self) c.next_text.new.self.lexer c.next_text.new.self.input
    c.in-Some.text c.requires.ready c.in-Some.ensures.stepped (own-whole (stage g.B.Below.heard c.args.self.now) c.requires.takes)
    (view-takes c.texts_over.ensures.takes (lexed (stage g.B.Below.heard c.args.self.now) c.next_text.new.self.lexer c.next_text.new.self.input) (stage g.B.Below.heard c.put_text.new.self) c.in-Some.text c.requires.takes
    (subst (λ (p : Stage). Handled p (stage g.B.Below.heard c.put_text.new.self) (as_run c.in-Some.text ∷ [])) c.in-Some.ensures.same c.in_ok-put_text-in-Some.ensures.handled))

pub returns-in-None-clause-tried : goal.returns-in-None-clause-tried
returns-in-None-clause-tried g c =
    went-nowhere (stage g.B.Below.heard c.args.self.now) (stage g.B.Below.heard c.next_text.new.self) c.in-None.ensures c.requires.ready

pub returns-in-None-clause-reads : goal.returns-in-None-clause-reads
returns-in-None-clause-reads g c = same-further (stage g.B.Below.heard c.args.self.now) (stage g.B.Below.heard c.next_text.new.self) c.in-None.ensures

pub returns-in_err-put_text-in-Some-clause-crossed : goal.returns-in_err-put_text-in-Some-clause-crossed
returns-in_err-put_text-in-Some-clause-crossed g c =
    let old : Stage = stage g.B.Below.heard c.args.self.now in
    let mid : Stage = lexed old c.next_text.new.self.lexer c.next_text.new.self.input in
    let new : Stage = stage g.B.Below.heard c.put_text.new.self in
    refused-so c.from_residual.result c.in_err-put_text-in-Some.field-0.0 c.from_residual.ensures.1 c.in_err-put_text-in-Some.ensures.crossed (λ touched.
    text-crosses c.views_over.ensures.valid c.comes_to_touch.ensures.text c.right_goes_on.ensures.tokens c.answers_lead.ensures.text old new mid.lexer mid.input c.in-Some.text c.requires.ready c.in-Some.ensures.stepped (own-whole old c.requires.takes)
    (view-touched c.texts_over.ensures.takes mid new c.in-Some.text c.requires.takes (subst (λ (p : Stage). Touched p new (as_run c.in-Some.text ∷ [])) c.in-Some.ensures.same touched)))
