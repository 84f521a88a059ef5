use Rattle.std.proofs.Common.{refl}
use Rattle.hp_lexer.specs.declared.lexer.Step.TheVariants as steps
use Rattle.hp_runs.proofs.Stepping.{told-step}
use Rattle.hp_fragment.proofs.Crossing.{tokens-cross}
use Rattle.hp_fragment.proofs.Leading.{lexed}
use Rattle.hp_fragment.proofs.Refusing.{memory-wanted, refused-so}
use Rattle.hp_fragment.proofs.Stepping.{cut-ends, name-further, section-further, tokens-further}
use Rattle.hp_fragment.proofs.Taking.{told-batch}
use Rattle.hp_fragment.proofs.Turning.{cut-at-end, name-smaller, section-smaller, step-smaller}
use Rattle.hp_fragment.specs.Reading.{stage}
use Rattle.hp_fragment.proofs.parsing.Parsing.step_by_table.Goals as goal

pub returns-in_ok-handle_all-in-Tokens-clause-steps : goal.returns-in_ok-handle_all-in-Tokens-clause-steps
returns-in_ok-handle_all-in-Tokens-clause-steps g c =
    step-smaller c.steps_fall.ensures.steps (stage g.B.Below.heard c.args.self.now) (lexed (stage g.B.Below.heard c.args.self.now) c.next.new.self c.next.new.input) (stage g.B.Below.heard c.handle_all.new.self) c.in-Tokens.tokens _ c.requires.ready
    (told-step c.args.self.now.lexer c.args.self.now.input c.next.new.self c.next.new.input c.in_ok-tokens.field-0 (steps.Tokens _ c.in-Tokens.tokens) c.in-Tokens.is c.in_ok-tokens.ensures.step) c.in_ok-tokens.ensures.held c.in_ok-tokens.ensures.names c.in_ok-handle_all-in-Tokens.ensures.handled.input c.in_ok-handle_all-in-Tokens.ensures.handled.turned

pub returns-in_ok-handle_all-in-Tokens-clause-reads : goal.returns-in_ok-handle_all-in-Tokens-clause-reads
returns-in_ok-handle_all-in-Tokens-clause-reads g c =
    tokens-further c.views_over.ensures.valid c.comes_on.ensures.tokens c.comes_on.ensures.read c.right_goes_on.ensures.tokens c.answers_lead.ensures.tokens (stage g.B.Below.heard c.args.self.now) (stage g.B.Below.heard c.handle_all.new.self) c.next.new.self c.next.new.input _ c.in-Tokens.tokens c.requires.ready
    (told-step c.args.self.now.lexer c.args.self.now.input c.next.new.self c.next.new.input c.in_ok-tokens.field-0 (steps.Tokens _ c.in-Tokens.tokens) c.in-Tokens.is c.in_ok-tokens.ensures.step)
    (told-batch c.args.self.now.lexer c.args.self.now.input c.next.new.self c.next.new.input c.in_ok-tokens.field-0 (steps.Tokens _ c.in-Tokens.tokens) c.in-Tokens.is c.in_ok-tokens.ensures.batch)
    c.in_ok-handle_all-in-Tokens.ensures.handled

pub returns-in_ok-foreign-in-AskCdata-clause-steps : goal.returns-in_ok-foreign-in-AskCdata-clause-steps
returns-in_ok-foreign-in-AskCdata-clause-steps g c =
    section-smaller c.steps_fall.ensures.steps (stage g.B.Below.heard c.args.self.now) _ c.next.new.self c.next.new.input c.in_ok-foreign-in-AskCdata.foreign c.requires.ready (told-step c.args.self.now.lexer c.args.self.now.input c.next.new.self c.next.new.input c.in_ok-tokens.field-0 steps.AskCdata c.in-AskCdata.is c.in_ok-tokens.ensures.step)
    c.in_ok-tokens.ensures.held c.in_ok-tokens.ensures.names c.answer_cdata.ensures refl

pub returns-in_ok-foreign-in-AskCdata-clause-reads : goal.returns-in_ok-foreign-in-AskCdata-clause-reads
returns-in_ok-foreign-in-AskCdata-clause-reads g c =
    section-further c.comes_on.ensures.section c.answers_over.ensures.foreign c.right_goes_on.ensures.section c.answers_lead.ensures.section (stage g.B.Below.heard c.args.self.now) _ c.next.new.self c.next.new.input c.in_ok-foreign-in-AskCdata.foreign c.requires.ready (told-step c.args.self.now.lexer c.args.self.now.input c.next.new.self c.next.new.input c.in_ok-tokens.field-0 steps.AskCdata c.in-AskCdata.is c.in_ok-tokens.ensures.step)
    c.in_ok-foreign-in-AskCdata.ensures.runs c.in_ok-foreign-in-AskCdata.ensures.same refl c.answer_cdata.ensures refl

pub returns-in_ok-answer_last_tag-in-AskLastTag-clause-steps : goal.returns-in_ok-answer_last_tag-in-AskLastTag-clause-steps
returns-in_ok-answer_last_tag-in-AskLastTag-clause-steps g c =
    name-smaller c.steps_fall.ensures.steps (stage g.B.Below.heard c.args.self.now) _ c.next.new.self c.next.new.input c.in_ok-name-in-AskLastTag.name c.requires.ready (told-step c.args.self.now.lexer c.args.self.now.input c.next.new.self c.next.new.input c.in_ok-tokens.field-0 steps.AskLastTag c.in-AskLastTag.is c.in_ok-tokens.ensures.step)
    c.in_ok-tokens.ensures.held c.in_ok-tokens.ensures.names c.in_ok-answer_last_tag-in-AskLastTag.ensures refl

pub returns-in_ok-answer_last_tag-in-AskLastTag-clause-reads : goal.returns-in_ok-answer_last_tag-in-AskLastTag-clause-reads
returns-in_ok-answer_last_tag-in-AskLastTag-clause-reads g c =
    name-further c.comes_on.ensures.name c.answers_over.ensures.last_tag c.right_goes_on.ensures.name c.answers_lead.ensures.silence (stage g.B.Below.heard c.args.self.now) _ c.next.new.self c.next.new.input c.in_ok-name-in-AskLastTag.name c.requires.ready (told-step c.args.self.now.lexer c.args.self.now.input c.next.new.self c.next.new.input c.in_ok-tokens.field-0 steps.AskLastTag c.in-AskLastTag.is c.in_ok-tokens.ensures.step)
    c.in_ok-name-in-AskLastTag.ensures.runs c.in_ok-name-in-AskLastTag.ensures.same refl c.in_ok-answer_last_tag-in-AskLastTag.ensures refl

pub returns-in-AtCut-clause-steps : goal.returns-in-AtCut-clause-steps
returns-in-AtCut-clause-steps g c =
    cut-at-end (stage g.B.Below.heard c.args.self.now) c.next.new.self c.next.new.input c.requires.ready (told-step c.args.self.now.lexer c.args.self.now.input c.next.new.self c.next.new.input c.in_ok-tokens.field-0 steps.AtCut c.in-AtCut.is c.in_ok-tokens.ensures.step) c.in_ok-tokens.ensures.names

pub returns-in-AtCut-clause-reads : goal.returns-in-AtCut-clause-reads
returns-in-AtCut-clause-reads g c =
    cut-ends c.comes_on.ensures.cut (stage g.B.Below.heard c.args.self.now) c.next.new.self c.next.new.input c.requires.ready (told-step c.args.self.now.lexer c.args.self.now.input c.next.new.self c.next.new.input c.in_ok-tokens.field-0 steps.AtCut c.in-AtCut.is c.in_ok-tokens.ensures.step)

pub returns-in_err-handle_all-in-Tokens-clause-crossed : goal.returns-in_err-handle_all-in-Tokens-clause-crossed
returns-in_err-handle_all-in-Tokens-clause-crossed g c =
    refused-so c.from_residual-in_err-handle_all-in-Tokens.result c.in_err-handle_all-in-Tokens.field-0.0 c.from_residual-in_err-handle_all-in-Tokens.ensures.1 c.in_err-handle_all-in-Tokens.ensures.crossed
    (tokens-cross c.views_over.ensures.valid c.comes_to_touch.ensures.tokens c.comes_on.ensures.read c.right_goes_on.ensures.tokens c.answers_lead.ensures.tokens (stage g.B.Below.heard c.args.self.now) (stage g.B.Below.heard c.handle_all.new.self)
    c.next.new.self c.next.new.input _ c.in-Tokens.tokens c.requires.ready
    (told-step c.args.self.now.lexer c.args.self.now.input c.next.new.self c.next.new.input c.in_ok-tokens.field-0 (steps.Tokens _ c.in-Tokens.tokens) c.in-Tokens.is c.in_ok-tokens.ensures.step)
    (told-batch c.args.self.now.lexer c.args.self.now.input c.next.new.self c.next.new.input c.in_ok-tokens.field-0 (steps.Tokens _ c.in-Tokens.tokens) c.in-Tokens.is c.in_ok-tokens.ensures.batch))

pub returns-in_err-tokens-clause-crossed : goal.returns-in_err-tokens-clause-crossed
returns-in_err-tokens-clause-crossed g c = memory-wanted _ c.from_residual.result c.from_residual.ensures.1

pub returns-in_err-foreign-in-AskCdata-clause-crossed : goal.returns-in_err-foreign-in-AskCdata-clause-crossed
returns-in_err-foreign-in-AskCdata-clause-crossed g c = memory-wanted _ c.from_residual-in_err-foreign-in-AskCdata.result c.from_residual-in_err-foreign-in-AskCdata.ensures.1

pub returns-in_err-name-in-AskLastTag-clause-crossed : goal.returns-in_err-name-in-AskLastTag-clause-crossed
returns-in_err-name-in-AskLastTag-clause-crossed g c = memory-wanted _ c.from_residual-in_err-name-in-AskLastTag.result c.from_residual-in_err-name-in-AskLastTag.ensures.1

pub returns-in_err-answer_last_tag-in-AskLastTag-clause-crossed : goal.returns-in_err-answer_last_tag-in-AskLastTag-clause-crossed
returns-in_err-answer_last_tag-in-AskLastTag-clause-crossed g c = memory-wanted _ c.from_residual-in_err-answer_last_tag-in-AskLastTag.result c.from_residual-in_err-answer_last_tag-in-AskLastTag.ensures.1
