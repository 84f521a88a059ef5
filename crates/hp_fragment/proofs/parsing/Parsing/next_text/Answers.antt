use Rattle.std.proofs.Common.{refl, Some}
use Rattle.hp_fragment.proofs.Taking.{text-taken}
use Rattle.hp_fragment.specs.Reading.{stage}
use Rattle.hp_fragment.proofs.parsing.Parsing.next_text.Goals as goal

pub returns-in-Some : goal.returns-in-Some
returns-in-Some g c =
    text-taken (stage g.B.Below.heard c.args.self.now) c.args.self.now.lexer c.args.self.now.input c.next_plain.new.self c.next_plain.new.input (Some c.in-Some.text) refl refl c.in-Some.ensures.text tt
    c.next_plain.ensures.held c.next_plain.ensures.names

pub returns-in-None : goal.returns-in-None
returns-in-None g c =
    text-taken (stage g.B.Below.heard c.args.self.now) c.next_plain.new.self c.next_plain.new.input c.next_reference.new.self c.next_reference.new.input c.next_reference.result (c.in-None.ensures.none).0 (c.in-None.ensures.none).1
    c.next_reference.ensures.text c.next_reference.ensures.none c.next_reference.ensures.held c.next_reference.ensures.names
