use Rattle.std.proofs.Common.{[], ◌∷◌, None, Some, ap, ◌∙◌}
use Rattle.std.specs.Prelude.{◌-◌, ◌^◌}
use Rattle.hp_lexer.specs.Standing.{is_answered}
use Rattle.hp_fragment.proofs.Crossing.{tag-crosses}
use Rattle.hp_fragment.proofs.Leading.{lexed}
use Rattle.hp_fragment.proofs.Refusing.{refused-so}
use Rattle.hp_fragment.proofs.Stepping.{silent-further, tag-further}
use Rattle.hp_fragment.proofs.Taking.{found-tag}
use Rattle.hp_fragment.proofs.Turning.{step-smaller}
use Rattle.hp_fragment.specs.Reading.{stage}
use Rattle.hp_fragment.proofs.parsing.Parsing.take_tag.Goals as goal

pub returns-in_ok-handle_one-in-Ok-Some-clause-tried : goal.returns-in_ok-handle_one-in-Ok-Some-clause-tried
returns-in_ok-handle_one-in-Ok-Some-clause-tried g c =
    let s = found-tag c.args.self.now.lexer c.args.self.now.input c.next_tag.new.self c.next_tag.new.input c.in-Ok-Some.field-0 (Some c.in-Ok-Some.tag) c.in-Ok-Some.field-0-is c.in-Ok-Some.ensures.tag in
    step-smaller c.steps_fall.ensures.steps (stage g.B.Below.heard c.args.self.now) (lexed (stage g.B.Below.heard c.args.self.now) c.next_tag.new.self c.next_tag.new.input) (stage g.B.Below.heard c.handle_one.new.self)
    (c.in-Ok-Some.tag ∷ []) (c.next_tag.new.self.rested - 2 ^ 32) c.requires.ready s.0 c.in-Ok-Some.ensures.held c.in-Ok-Some.ensures.names c.in_ok-handle_one-in-Ok-Some.ensures.handled.input c.in_ok-handle_one-in-Ok-Some.ensures.handled.turned

pub returns-in_ok-handle_one-in-Ok-Some-clause-reads : goal.returns-in_ok-handle_one-in-Ok-Some-clause-reads
returns-in_ok-handle_one-in-Ok-Some-clause-reads g c =
    tag-further c.views_over.ensures.valid c.comes_on.ensures.tag c.comes_on.ensures.read c.right_goes_on.ensures.tokens c.answers_lead.ensures.tag (stage g.B.Below.heard c.args.self.now) (stage g.B.Below.heard c.handle_one.new.self) c.next_tag.new.self c.next_tag.new.input c.in-Ok-Some.tag
    c.requires.ready
    (found-tag c.args.self.now.lexer c.args.self.now.input c.next_tag.new.self c.next_tag.new.input c.in-Ok-Some.field-0 (Some c.in-Ok-Some.tag) c.in-Ok-Some.field-0-is c.in-Ok-Some.ensures.tag)
    c.in_ok-handle_one-in-Ok-Some.ensures.handled

pub returns-in-Ok-None-clause-tried : goal.returns-in-Ok-None-clause-tried
returns-in-Ok-None-clause-tried g c = record {
  ready = record {
    names = c.in-Ok-None.ensures.names ∙ c.requires.ready.names;
    answered = ap is_answered c.in-Ok-None.ensures.asked ∙ c.requires.ready.answered;
    held = c.in-Ok-None.ensures.held;
  };
  load = c.steps_fall.ensures.silent c.args.self.now.lexer c.next_tag.new.self c.args.self.now.input c.next_tag.new.input
      (found-tag c.args.self.now.lexer c.args.self.now.input c.next_tag.new.self c.next_tag.new.input c.in-Ok-None.field-0 None c.in-Ok-None.field-0-is c.in-Ok-None.ensures.tag);
}

pub returns-in-Ok-None-clause-reads : goal.returns-in-Ok-None-clause-reads
returns-in-Ok-None-clause-reads g c =
    silent-further c.comes_on.ensures.silence c.right_goes_on.ensures.silence c.answers_lead.ensures.silence (stage g.B.Below.heard c.args.self.now) c.next_tag.new.self c.next_tag.new.input c.requires.ready
    (found-tag c.args.self.now.lexer c.args.self.now.input c.next_tag.new.self c.next_tag.new.input c.in-Ok-None.field-0 None c.in-Ok-None.field-0-is c.in-Ok-None.ensures.tag)

pub returns-in_err-handle_one-in-Ok-Some-clause-crossed : goal.returns-in_err-handle_one-in-Ok-Some-clause-crossed
returns-in_err-handle_one-in-Ok-Some-clause-crossed g c =
    refused-so c.from_residual.result c.in_err-handle_one-in-Ok-Some.field-0.0 c.from_residual.ensures.1 c.in_err-handle_one-in-Ok-Some.ensures.crossed
    (tag-crosses c.views_over.ensures.valid c.comes_to_touch.ensures.tag c.comes_on.ensures.read c.right_goes_on.ensures.tokens c.answers_lead.ensures.tag (stage g.B.Below.heard c.args.self.now) (stage g.B.Below.heard c.handle_one.new.self)
    c.next_tag.new.self c.next_tag.new.input c.in-Ok-Some.tag c.requires.ready
    (found-tag c.args.self.now.lexer c.args.self.now.input c.next_tag.new.self c.next_tag.new.input c.in-Ok-Some.field-0 (Some c.in-Ok-Some.tag) c.in-Ok-Some.field-0-is c.in-Ok-Some.ensures.tag))
