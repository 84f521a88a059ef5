use Rattle.std.proofs.Common.{rules}
use Rattle.hp_fragment.proofs.Further.{cross-behind, end-behind, further-then, none-further, went-on, went-to-end}
use Rattle.hp_fragment.proofs.Refusing.{refused-so}
use Rattle.hp_fragment.proofs.Turning.{smaller-behind, stepped-off, stepped-on}
use Rattle.hp_fragment.specs.Reading.{stage}
use Rattle.hp_fragment.proofs.parsing.Parsing.run.Goals as goal

pub steps-init : goal.steps-init
steps-init g c = (c.requires.ready, none-further (stage g.B.Below.heard c.args.self.now))

pub read_straight-requires : goal.read_straight-requires
read_straight-requires g c = record { ready = c.steps.invariant.0 }

pub step_by_table-requires : goal.step_by_table-requires
step_by_table-requires g c = record { ready = c.in_ok-read_straight.ensures.went.ready }

pub returns-then-not-branch-clause-at_end : goal.returns-then-not-branch-clause-at_end
returns-then-not-branch-clause-at_end g c =
    stepped-off (stage g.B.Below.heard c.read_straight.new.self) (stage g.B.Below.heard c.step_by_table.new.self) c.in_ok-step_by_table.field-0 (search rules) c.in_ok-step_by_table.ensures.steps

pub returns-then-not-branch-clause-reads : goal.returns-then-not-branch-clause-reads
returns-then-not-branch-clause-reads g c =
    end-behind (stage g.B.Below.heard c.args.self.now) (stage g.B.Below.heard c.read_straight.new.self) (stage g.B.Below.heard c.step_by_table.new.self)
    (further-then (stage g.B.Below.heard c.args.self.now) (stage g.B.Below.heard c.steps.self) (stage g.B.Below.heard c.read_straight.new.self) c.steps.invariant.1 c.in_ok-read_straight.ensures.reads)
    (went-to-end (stage g.B.Below.heard c.read_straight.new.self) (stage g.B.Below.heard c.step_by_table.new.self) c.in_ok-step_by_table.field-0 (search rules) c.in_ok-step_by_table.ensures.reads)

pub steps-preserved : goal.steps-preserved
steps-preserved g c = (
  (stepped-on (stage g.B.Below.heard c.read_straight.new.self) (stage g.B.Below.heard c.step_by_table.new.self) c.in_ok-step_by_table.field-0 (search rules) c.in_ok-step_by_table.ensures.steps).0,
  further-then (stage g.B.Below.heard c.args.self.now) (stage g.B.Below.heard c.read_straight.new.self) (stage g.B.Below.heard c.step_by_table.new.self)
      (further-then (stage g.B.Below.heard c.args.self.now) (stage g.B.Below.heard c.steps.self) (stage g.B.Below.heard c.read_straight.new.self) c.steps.invariant.1 c.in_ok-read_straight.ensures.reads)
      (went-on (stage g.B.Below.heard c.read_straight.new.self) (stage g.B.Below.heard c.step_by_table.new.self) c.in_ok-step_by_table.field-0 (search rules) c.in_ok-step_by_table.ensures.reads),
)

pub steps-smaller : goal.steps-smaller
steps-smaller g c =
    smaller-behind (stage g.B.Below.heard c.steps.self) (stage g.B.Below.heard c.read_straight.new.self) (stage g.B.Below.heard c.step_by_table.new.self) c.in_ok-read_straight.ensures.went
    (stepped-on (stage g.B.Below.heard c.read_straight.new.self) (stage g.B.Below.heard c.step_by_table.new.self) c.in_ok-step_by_table.field-0 (search rules) c.in_ok-step_by_table.ensures.steps)

pub returns-in_err-read_straight-clause-crossed : goal.returns-in_err-read_straight-clause-crossed
returns-in_err-read_straight-clause-crossed g c =
    refused-so c.from_residual.result c.in_err-read_straight.field-0.0 c.from_residual.ensures.1 c.in_err-read_straight.ensures.crossed
    (cross-behind (stage g.B.Below.heard c.args.self.now) (stage g.B.Below.heard c.steps.self) (stage g.B.Below.heard c.read_straight.new.self) c.steps.invariant.1)

pub returns-in_err-step_by_table-clause-crossed : goal.returns-in_err-step_by_table-clause-crossed
returns-in_err-step_by_table-clause-crossed g c =
    refused-so c.from_residual-in_err-step_by_table.result c.in_err-step_by_table.field-0.0 c.from_residual-in_err-step_by_table.ensures.1 c.in_err-step_by_table.ensures.crossed
    (cross-behind (stage g.B.Below.heard c.args.self.now) (stage g.B.Below.heard c.read_straight.new.self) (stage g.B.Below.heard c.step_by_table.new.self)
    (further-then (stage g.B.Below.heard c.args.self.now) (stage g.B.Below.heard c.steps.self) (stage g.B.Below.heard c.read_straight.new.self) c.steps.invariant.1 c.in_ok-read_straight.ensures.reads))
