use Rattle.std.proofs.Common.{arith, length-drop}
use Rattle.hp_tokens.proofs.Fronts.{ascii-within, ascii-IsAt, ascii-read}
use Rattle.hp_tokens.proofs.cursor.Cursor.skip_ascii.Goals as goal

pub overflow_add-self : goal.overflow_add-self
overflow_add-self c =
    omega (arith, ascii-within c.self.inside.text.now c.self.inside.at c.args.count c.self.invariant c.args.self.now c.self.view_is c.requires.front, c.self.invariant.boundary.0, c.self.invariant.fits, length-drop c.self.inside.at c.self.inside.text.now)

pub invariant_of-self : goal.invariant_of-self
invariant_of-self c = ascii-IsAt c.self.inside.text.now c.self.inside.at c.args.count c.self.invariant c.args.self.now c.self.view_is c.requires.front

pub returns : goal.returns
returns c = ascii-read c.self.inside.text.now c.self.inside.at c.args.count c.self.invariant c.args.self.now c.self.view_is c.requires.front
