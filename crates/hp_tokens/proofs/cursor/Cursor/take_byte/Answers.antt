use Rattle.std.proofs.Common.{refl, arith}
use Rattle.hp_tokens.proofs.Fronts.{byte-invariant, byte-taken, byte-missing}
use Rattle.hp_tokens.proofs.cursor.Cursor.take_byte.Goals as goal
use Rattle.hp_tokens.proofs.cursor.Cursor.take_byte.Goals.{else-self-bytes-via-then-self-bytes+else-bytes-self, else-self-bytes-via-else-self-bytes}

pub invariant_of-self : goal.invariant_of-self
invariant_of-self c =
    byte-invariant c.self.inside.text.now c.as_bytes-bytes.result.now c.self.inside.at c.args.byte c.self.invariant c.requires.ascii c.as_bytes-bytes.ensures.value
    c.args.self.now c.self.view_is c.if-self-bytes.true c.if-bytes-self.true

pub returns-then-bytes-self-clause-taken : goal.returns-then-bytes-self-clause-taken
returns-then-bytes-self-clause-taken c = λ h.
    byte-taken c.self.inside.text.now c.as_bytes-bytes.result.now c.self.inside.at c.args.byte c.self.invariant c.requires.ascii c.as_bytes-bytes.ensures.value
    c.args.self.now c.self.view_is c.if-self-bytes.true c.if-bytes-self.true

pub returns-clause-left : goal.returns-clause-left
returns-clause-left c = λ h. (
  refl,
  byte-missing c.self.inside.text.now c.as_bytes-bytes.result.now c.self.inside.at c.args.byte c.self.invariant c.requires.ascii c.as_bytes-bytes.ensures.value
      c.args.self.now c.self.view_is (elim c.else-self-bytes.branch [
        | else-self-bytes-via-then-self-bytes+else-bytes-self w ↦ λ some same. w.if-bytes-self.false same
        | else-self-bytes-via-else-self-bytes w ↦ λ some same. absurd (omega (arith, some, w.if-self-bytes.false))
      ]),
)
