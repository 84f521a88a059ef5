use Rattle.std.proofs.Common.{refl}
use Rattle.hp_lex_tags.proofs.StraightTags.{ascii_front, skipped, end_first, end_second, end_whole, rests_there}
use Rattle.hp_lex_tags.proofs.straight.read_end_tag.Goals as goal

pub returns-then-take_byte : goal.returns-then-take_byte
returns-then-take_byte c =
    end_whole c.args.names.now c.args.machine.now c.requires.data c.requires.clear c.args.input.now c.skip_ascii.new.self
    (skipped 60 c.args.input.now c.skip_ascii.new.self (end_first c.args.input.now.text c.requires.opens) refl c.skip_ascii.ensures) c.requires.opens c.skip_ascii-2.new.self c.read_name.new.input
    (skipped 47 c.skip_ascii.new.self c.skip_ascii-2.new.self (end_second c.args.input.now.text c.skip_ascii.new.self.text c.requires.opens
    (skipped 60 c.args.input.now c.skip_ascii.new.self (end_first c.args.input.now.text c.requires.opens) refl c.skip_ascii.ensures).text)
    refl c.skip_ascii-2.ensures)
    c.in_ok-name.name c.in_ok-name.ensures
    c.enter.new.self c.take_byte.new.self (c.if-take_byte.ensures.taken refl) (rests_there c.args.machine.now c.enter.new.self c.args.machine.now.last_tag c.requires.clear c.enter.ensures)

pub returns : goal.returns
returns c = (refl, c.copy-start.ensures)

pub skip_ascii-requires : goal.skip_ascii-requires
skip_ascii-requires c = record { front = ascii_front 60 c.args.input.now.text (end_first c.args.input.now.text c.requires.opens) refl }

pub skip_ascii-requires-2 : goal.skip_ascii-requires-2
skip_ascii-requires-2 c =
    let slash = end_second c.args.input.now.text c.skip_ascii.new.self.text c.requires.opens (skipped 60 c.args.input.now c.skip_ascii.new.self (end_first c.args.input.now.text c.requires.opens) refl c.skip_ascii.ensures).text in
    record { front = ascii_front 47 c.skip_ascii.new.self.text slash refl }
