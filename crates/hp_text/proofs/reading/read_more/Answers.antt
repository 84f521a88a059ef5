use Rattle.std.proofs.Common.{◌∙◌, ℕ, Bool, List, ◌++◌, take, drop, ap, sym, arith}
use Rattle.std.specs.Prelude.{if◌then◌else◌}
use Rattle.std.specs.Io.KnownBytes.{prepend_known}
use Rattle.std.proofs.lemmas.List.{length-take, take-append-le}
use Rattle.hp_text.proofs.reading.read_more.Goals as goal

pub returns-clause-items : goal.returns-clause-items
returns-clause-items g c =
    c.extend_from_slice.ensures.items
    ∙ ap (λ (b : Bool). if b then c.args.page.now.items ++ take c.in-Ok.given (c.read.new.room ++ drop c.min-most.result c.args.room.now) else c.args.page.now.items) c.if-is_err.ensures.negation

pub returns-clause-given : goal.returns-clause-given
returns-clause-given g c =
    c.in-Ok.ensures.given
    ∙ ap (λ (xs : List ℕ). prepend_known xs (g.S.Source.left c.read.new.self))
    (sym (take-append-le c.in-Ok.given c.read.new.room (drop c.min-most.result c.args.room.now) c.in-Ok.ensures.bound))

pub returns-clause-end : goal.returns-clause-end
returns-clause-end g c = λ e. c.in-Ok.ensures.end e (omega (arith, length-take {A = ℕ}))
