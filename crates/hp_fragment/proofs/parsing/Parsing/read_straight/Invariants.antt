use Rattle.hp_fragment.specs.Reading.{GoesFurther, WentStraight, load_of, stage}
use Rattle.hp_fragment.proofs.parsing.Parsing.read_straight.Given as goal

abbrev pub invariant-steps : goal.invariant-steps
invariant-steps g l = WentStraight (stage g.B.Below.heard l.fn.self) (stage g.B.Below.heard l.self) × GoesFurther (stage g.B.Below.heard l.fn.self) (stage g.B.Below.heard l.self)

abbrev pub decreases-steps : goal.decreases-steps
decreases-steps g l = load_of (stage g.B.Below.heard l.self)
