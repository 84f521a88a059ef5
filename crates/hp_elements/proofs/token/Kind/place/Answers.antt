use Rattle.std.proofs.Common.{ap, sym, ◌∙◌, lit<, arith}
use Rattle.hp_elements.specs.Placing.{place_of}
use Rattle.hp_elements.proofs.token.Kind.place.Goals as goal

pub returns-in-Start : goal.returns-in-Start
returns-in-Start c = record { value = c.name_place.ensures.start ∙ ap place_of (sym c.in-Start.is); below = omega (arith, c.name_place.ensures.below) }

pub returns-in-End : goal.returns-in-End
returns-in-End c = record { value = c.name_place-in-End.ensures.end ∙ ap place_of (sym c.in-End.is); below = omega (arith, c.name_place-in-End.ensures.below) }

pub returns-in-Comment : goal.returns-in-Comment
returns-in-Comment c = record { value = ap place_of (sym c.in-Comment.is); below = lit< tt }

pub returns-in-Doctype : goal.returns-in-Doctype
returns-in-Doctype c = record { value = ap place_of (sym c.in-Doctype.is); below = lit< tt }

pub returns-in-EndOfInput : goal.returns-in-EndOfInput
returns-in-EndOfInput c = record { value = ap place_of (sym c.in-EndOfInput.is); below = lit< tt }
