use Rattle.std.proofs.Common.{rules}
use Rattle.hp_fragment.proofs.Further.{cross-behind, further-then, none-further}
use Rattle.hp_fragment.proofs.Refusing.{refused-so}
use Rattle.hp_fragment.proofs.Turning.{none-went, one-went, tried-made}
use Rattle.hp_fragment.specs.Reading.{stage}
use Rattle.hp_fragment.proofs.parsing.Parsing.read_straight.Goals as goal

pub steps-init : goal.steps-init
steps-init g c = (none-went (stage g.B.Below.heard c.args.self.now) c.requires.ready, none-further (stage g.B.Below.heard c.args.self.now))

pub step_straight-requires : goal.step_straight-requires
step_straight-requires g c = record { ready = c.steps.invariant.0.ready }

pub returns-then-not-branch-clause-went : goal.returns-then-not-branch-clause-went
returns-then-not-branch-clause-went g c =
    one-went (stage g.B.Below.heard c.args.self.now) (stage g.B.Below.heard c.steps.self) (stage g.B.Below.heard c.step_straight.new.self) c.in_ok-step_straight.field-0 c.steps.invariant.0 c.in_ok-step_straight.ensures.tried

pub returns-then-not-branch-clause-reads : goal.returns-then-not-branch-clause-reads
returns-then-not-branch-clause-reads g c =
    further-then (stage g.B.Below.heard c.args.self.now) (stage g.B.Below.heard c.steps.self) (stage g.B.Below.heard c.step_straight.new.self) c.steps.invariant.1 c.in_ok-step_straight.ensures.reads

pub steps-preserved : goal.steps-preserved
steps-preserved g c = (
  one-went (stage g.B.Below.heard c.args.self.now) (stage g.B.Below.heard c.steps.self) (stage g.B.Below.heard c.step_straight.new.self) c.in_ok-step_straight.field-0 c.steps.invariant.0 c.in_ok-step_straight.ensures.tried,
  further-then (stage g.B.Below.heard c.args.self.now) (stage g.B.Below.heard c.steps.self) (stage g.B.Below.heard c.step_straight.new.self) c.steps.invariant.1 c.in_ok-step_straight.ensures.reads,
)

pub steps-smaller : goal.steps-smaller
steps-smaller g c =
    (tried-made (stage g.B.Below.heard c.steps.self) (stage g.B.Below.heard c.step_straight.new.self) c.in_ok-step_straight.field-0 (search rules) c.in_ok-step_straight.ensures.tried).1

pub returns-in_err-step_straight-clause-crossed : goal.returns-in_err-step_straight-clause-crossed
returns-in_err-step_straight-clause-crossed g c =
    refused-so c.from_residual.result c.in_err-step_straight.field-0.0 c.from_residual.ensures.1 c.in_err-step_straight.ensures.crossed
    (cross-behind (stage g.B.Below.heard c.args.self.now) (stage g.B.Below.heard c.steps.self) (stage g.B.Below.heard c.step_straight.new.self) c.steps.invariant.1)
