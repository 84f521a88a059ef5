use Rattle.std.proofs.Common.{refl}
use Rattle.std.specs.Str.{chars}
use Rattle.hp_lex_tags.proofs.StraightParts.{grown_with, grown_without}
use Rattle.hp_tokens.proofs.Told.{IfOk_then}
use Rattle.hp_lex_tags.proofs.straight.read_attribute.Goals as goal

pub returns-then-take_byte : goal.returns-then-take_byte
returns-then-take_byte c =
    IfOk_then c.read_value.result c.read_value.ensures (λ way kept. grown_with c.args.names.now c.args.state c.args.attributes.now c.read_value.new.attributes (chars c.take_long_run.result.now) c.in_ok-name.name c.args.input.now c.take_long_run.new.self
    c.take_byte.new.self c.read_value.new.input way c.requires.between c.requires.name c.take_long_run.ensures.run c.in_ok-name.ensures
    (c.if-take_byte.ensures.taken refl) kept)

pub returns : goal.returns
returns c =
    grown_without c.args.names.now c.args.state c.args.attributes.now c.keep.new.attributes (chars c.take_long_run.result.now) c.in_ok-name.name c.new.result c.args.input.now c.take_long_run.new.self
    c.take_byte.new.self c.behind.new.input c.behind.result c.requires.between c.requires.name c.take_long_run.ensures.run c.in_ok-name.ensures
    c.new.ensures c.in_ok-keep.ensures (c.if-take_byte.ensures.left refl).0 (c.behind.ensures c.args.names.now)
