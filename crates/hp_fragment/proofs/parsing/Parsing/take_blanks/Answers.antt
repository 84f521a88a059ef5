use Rattle.std.proofs.Common.{map}
use Rattle.std.specs.Prelude.{◌-◌, ◌^◌}
use Rattle.hp_tokens.specs.Rows.{character}
use Rattle.hp_fragment.proofs.Crossing.{blanks-cross}
use Rattle.hp_fragment.proofs.Leading.{lexed}
use Rattle.hp_fragment.proofs.Refusing.{refused-so}
use Rattle.hp_fragment.proofs.Stepping.{blanks-further, same-further}
use Rattle.hp_fragment.proofs.Taking.{same-stage}
use Rattle.hp_fragment.proofs.Turning.{step-smaller, went-nowhere}
use Rattle.hp_fragment.specs.Reading.{stage}
use Rattle.hp_fragment.proofs.parsing.Parsing.take_blanks.Goals as goal

pub returns-in_ok-handle_one-in-Some-clause-tried : goal.returns-in_ok-handle_one-in-Some-clause-tried
returns-in_ok-handle_one-in-Some-clause-tried g c =
    step-smaller c.steps_fall.ensures.steps (stage g.B.Below.heard c.args.self.now) (lexed (stage g.B.Below.heard c.args.self.now) c.next_blanks.new.lexer c.next_blanks.new.input) (stage g.B.Below.heard c.handle_one.new.self)
    (map character c.in-Some.text) (c.next_blanks.new.lexer.rested - 2 ^ 32) c.requires.ready c.in-Some.ensures.text.stepped c.next_blanks.ensures.held c.next_blanks.ensures.names c.in_ok-handle_one-in-Some.ensures.handled.input
    c.in_ok-handle_one-in-Some.ensures.handled.turned

pub returns-in_ok-handle_one-in-Some-clause-reads : goal.returns-in_ok-handle_one-in-Some-clause-reads
returns-in_ok-handle_one-in-Some-clause-reads g c =
    blanks-further c.views_over.ensures.valid c.comes_on.ensures.blanks c.right_goes_on.ensures.tokens c.answers_lead.ensures.text (stage g.B.Below.heard c.args.self.now) (stage g.B.Below.heard c.handle_one.new.self) c.next_blanks.new.lexer c.next_blanks.new.input c.in-Some.text
    c.requires.ready c.in-Some.ensures.text c.in-Some.ensures.blank c.in_ok-handle_one-in-Some.ensures.handled

pub returns-in-None-clause-tried : goal.returns-in-None-clause-tried
returns-in-None-clause-tried g c =
    went-nowhere (stage g.B.Below.heard c.args.self.now) _ (same-stage (stage g.B.Below.heard c.args.self.now) c.next_blanks.new.lexer c.next_blanks.new.input (c.in-None.ensures.none).0 (c.in-None.ensures.none).1) c.requires.ready

pub returns-in-None-clause-reads : goal.returns-in-None-clause-reads
returns-in-None-clause-reads g c =
    same-further (stage g.B.Below.heard c.args.self.now) _ (same-stage (stage g.B.Below.heard c.args.self.now) c.next_blanks.new.lexer c.next_blanks.new.input (c.in-None.ensures.none).0 (c.in-None.ensures.none).1)

pub returns-in_err-handle_one-in-Some-clause-crossed : goal.returns-in_err-handle_one-in-Some-clause-crossed
returns-in_err-handle_one-in-Some-clause-crossed g c =
    refused-so c.from_residual.result c.in_err-handle_one-in-Some.field-0.0 c.from_residual.ensures.1 c.in_err-handle_one-in-Some.ensures.crossed
    (blanks-cross c.views_over.ensures.valid c.comes_to_touch.ensures.blanks c.right_goes_on.ensures.tokens c.answers_lead.ensures.text (stage g.B.Below.heard c.args.self.now) (stage g.B.Below.heard c.handle_one.new.self)
    c.next_blanks.new.lexer c.next_blanks.new.input c.in-Some.text c.requires.ready c.in-Some.ensures.text c.in-Some.ensures.blank c.requires.none_skipped)
