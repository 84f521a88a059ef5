use Rattle.std.proofs.Common.{◌≡◌, false, subst}
use Rattle.hp_control.specs.Guessing.{IsIndexed, sought}
use Rattle.hp_control.specs.Plan.{is_asked}
use Rattle.hp_control.proofs.Once.{none_noted}
use Rattle.hp_control.proofs.pairs.Pairs.find.Goals as goal

pub returns-in-None-clause-none : goal.returns-in-None-clause-none
returns-in-None-clause-none c =
    let q = sought c.args.question in
    subst (λ kept. is_asked kept q ≡ false) c.self.view_is (none_noted c.self.inside.kept q (subst (IsIndexed c.self.inside.kept) c.in-None.is c.self.invariant.0))
