use Rattle.std.proofs.Common.{refl, Option}
use Rattle.std.proofs.lemmas.Result.{IfOk-weaker}
use Rattle.hp_elements.specs.declared.token.Token.{Token}
use Rattle.hp_lexer.specs.Standing.{TagStepped}
use Rattle.hp_lexer.proofs.Direct.{nothing_done, tag_at_once}
use Rattle.hp_lexer.proofs.lexer.Lexer.next_tag.Goals as goal

pub returns-in_default : goal.returns-in_default
returns-in_default c = record { tag = nothing_done c.args.self.now c.args.input.now; held = c.requires.held; asked = refl; names = refl; ahead = refl }

pub returns-in-Nothing-clause-tag : goal.returns-in-Nothing-clause-tag
returns-in-Nothing-clause-tag c =
    let new = record c.args.self.now { lex = c.next_tag.new.state; rested = c.next_tag.new.rested } in
    let P : Option Token → Type 0 = λ token. TagStepped c.args.self.now c.args.input.now new c.next_tag.new.input token in
    IfOk-weaker c.next_tag.result _ P (λ token turned. tag_at_once c.args.self.now new c.args.input.now c.next_tag.new.input c.in-Nothing.is c.in-Nothing.is token turned) c.next_tag.ensures.tag
