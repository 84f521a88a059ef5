use Rattle.std.proofs.Common.{sym, ◌∙◌}
use Rattle.hp_serial.proofs.Escapes.{wrote_space, wrote_byte}
use Rattle.hp_serial.proofs.escape.write_first.Goals as goal

pub returns-then-begins_with_no_break_space-clause-written : goal.returns-then-begins_with_no_break_space-clause-written
returns-then-begins_with_no_break_space-clause-written c =
    wrote_space c.args.place _ _ c.args.bytes.now c.in_ok-extend_from_slice.ensures.items (sym c.begins_with_no_break_space.ensures ∙ c.if-begins_with_no_break_space.true)

pub returns-clause-written : goal.returns-clause-written
returns-clause-written c =
    wrote_byte c.args.place _ _ c.args.bytes.now c.in_ok-write_byte.ensures c.requires (sym c.begins_with_no_break_space.ensures ∙ c.if-begins_with_no_break_space.false)
